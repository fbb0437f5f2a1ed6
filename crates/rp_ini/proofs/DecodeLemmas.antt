-- Byte order marks, and texts that are none.
use Rattle.std.proofs.Common.{◌≡◌, ℕ, List, [], ◌∷◌, ◌++◌, Bool, true, false, take, drop, refl, ap, sym, ◌∙◌, None}
use Rattle.std.specs.Char.{encode_utf8}
use Rattle.std.specs.Str.{bytes_eq, is_utf8, IsUtf8}
use Rattle.std.specs.Str.Pattern.{FindsCharPrefix, StripsPrefix}
use Rattle.std.proofs.lemmas.List.{take-append-drop}
use Rattle.std.proofs.lemmas.Str.{IsUtf8-from_is_utf8}
use Rattle.std.proofs.lemmas.Slice.Eq.{bytes_eq-Decides}
use Rattle.rp_ini.specs.Lines.{without_mark}

mark_bytes : encode_utf8 65279 ≡ 0xEF ∷ 0xBB ∷ 0xBF ∷ []
unfolding encode_utf8
mark_bytes = refl

without_mark-there : (text rest : List ℕ) → text ≡ 0xEF ∷ 0xBB ∷ 0xBF ∷ rest → without_mark text ≡ rest
without_mark-there text rest is = rw is refl

pub behind_mark : (text rest : List ℕ) → StripsPrefix (FindsCharPrefix 65279) text rest → rest ≡ without_mark text
behind_mark text rest h =
    let is : text ≡ 0xEF ∷ 0xBB ∷ 0xBF ∷ rest = h.1.split ∙ ap (λ m. m ++ drop h.0 text) mark_bytes ∙ ap (λ r. 0xEF ∷ 0xBB ∷ 0xBF ∷ r) (sym h.2) in
    sym (without_mark-there text rest is)

pub no_mark : (text : List ℕ) → FindsCharPrefix 65279 text None → text ≡ without_mark text
no_mark text h = by_test (bytes_eq (take 3 text) (0xEF ∷ 0xBB ∷ 0xBF ∷ [])) refl where
  by_test : (b : Bool) → bytes_eq (take 3 text) (0xEF ∷ 0xBB ∷ 0xBF ∷ []) ≡ b → text ≡ without_mark text
  by_test true is = absurd (h (drop 3 text) (sym (take-append-drop 3 text) ∙ ap (λ t. t ++ drop 3 text) ((bytes_eq-Decides (take 3 text) _).0 is) ∙ ap (λ m. m ++ drop 3 text) (sym mark_bytes)))
  by_test false is = rw is refl

pub not_utf8 : (bytes : List ℕ) → (IsUtf8 bytes → ⊥) → is_utf8 bytes ≡ false
not_utf8 bytes isnt = by_test (is_utf8 bytes) refl where
  by_test : (b : Bool) → is_utf8 bytes ≡ b → is_utf8 bytes ≡ false
  by_test true h = absurd (isnt (IsUtf8-from_is_utf8 bytes h))
  by_test false h = h
