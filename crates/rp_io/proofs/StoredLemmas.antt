-- The name of a path in a folder, and the names of one more file.
use Rattle.std.proofs.Common.{◌≡◌, ◌≢◌, ℕ, ◌+◌, ◌<◌, List, [], ◌∷◌, ◌++◌, Bool, true, false, cond, Some, None, length, take, drop, get_or, refl, ap, sym, ◌∙◌, lit<}
use Rattle.std.specs.Str.{bytes_eq}
use Rattle.std.specs.Str.Pattern.{StripsPrefix, FindsTextPrefix, FindsCharPrefix}
use Rattle.std.proofs.lemmas.Slice.Eq.{bytes_eq-Decides}
use Rattle.std.proofs.lemmas.Str.Pattern.{drop_at_char, strip_prefix_char}
use Rattle.std.specs.List.{filter_map}
use Rattle.std.proofs.lemmas.List.{take_more}
use Rattle.std.proofs.lemmas.List.Sums.{fold-append}
use Rattle.std.proofs.lemmas.List.Elements.{filter_map-append}
use Rattle.std.proofs.Math.Seq.{drop-append_seam, drop-append-add}
use Rattle.rp_io.specs.declared.stored.Stored.{Stored}
use Rattle.rp_io.specs.Files.{name_of, is_name, names_in, with_name}

drop-folder : (folder name : List ℕ) → drop (length folder + 1) (folder ++ 47 ∷ name) ≡ name
drop-folder folder name = drop-append-add folder (47 ∷ name) 1

same_bytes : (xs : List ℕ) → bytes_eq xs xs ≡ true
same_bytes xs = (bytes_eq-Decides xs xs).1 refl

pub name_of-there : (folder path name : List ℕ) → path ≡ folder ++ 47 ∷ name → name_of folder path ≡ cond (is_name name) (Some name) None
name_of-there folder path name is = rw is (rw (drop-folder folder name) (rw (same_bytes (folder ++ 47 ∷ name)) refl))

pub name_of-elsewhere : (folder path : List ℕ) → ((name : List ℕ) → path ≢ folder ++ 47 ∷ name) → name_of folder path ≡ None
name_of-elsewhere folder path isnt = by_test (bytes_eq path (folder ++ 47 ∷ drop (length folder + 1) path)) refl where
  by_test : (b : Bool) → bytes_eq path (folder ++ 47 ∷ drop (length folder + 1) path) ≡ b → name_of folder path ≡ None
  by_test true h = absurd (isnt _ ((bytes_eq-Decides _ _).0 h))
  by_test false h = rw h refl

-- what is left of a text behind its front
pub behind_text : (front text rest : List ℕ) → StripsPrefix (FindsTextPrefix front) text rest → text ≡ front ++ rest
behind_text front text rest h = h.1.1 ∙ ap (λ r. front ++ r) (sym h.2)

pub behind_slash : (text rest : List ℕ) → StripsPrefix (FindsCharPrefix 47) text rest → text ≡ 47 ∷ rest
behind_slash text rest h = drop_at_char 47 text 0 h.0 h.1 (lit< tt) ∙ ap (λ r. 47 ∷ r) (sym h.2)

pub behind_folder : (folder path rest name : List ℕ) → StripsPrefix (FindsTextPrefix folder) path rest → StripsPrefix (FindsCharPrefix 47) rest name → path ≡ folder ++ 47 ∷ name
behind_folder folder path rest name h k = behind_text folder path rest h ∙ ap (λ r. folder ++ r) (behind_slash rest name k)

no_slash_front : (text : List ℕ) → FindsCharPrefix 47 text None → (name : List ℕ) → text ≢ 47 ∷ name
no_slash_front text h = strip_prefix_char 47 text None h (lit< tt)

pub no_slash : (folder path rest : List ℕ) → StripsPrefix (FindsTextPrefix folder) path rest → FindsCharPrefix 47 rest None → (name : List ℕ) → path ≢ folder ++ 47 ∷ name
no_slash folder path rest h isnt name is =
    no_slash_front rest isnt name (sym (drop-append_seam folder rest) ∙ ap (λ t. drop (length folder) t) (sym (behind_text folder path rest h) ∙ is) ∙ drop-append_seam folder (47 ∷ name))

pub names_in-some : (files : List Stored) (folder : List ℕ) (file : Stored) (name : List ℕ) → Some name ≡ name_of folder file.path
    → names_in (files ++ file ∷ []) folder ≡ with_name (names_in files folder) name
names_in-some files folder file name is =
    rw (filter_map-append (λ (f : Stored). name_of folder f.path) files (file ∷ [])) (rw (sym is) (fold-append with_name [] (filter_map (λ (f : Stored). name_of folder f.path) files) (name ∷ [])))

pub names_in-none : (files : List Stored) (folder : List ℕ) (file : Stored) → None ≡ name_of folder file.path
    → names_in (files ++ file ∷ []) folder ≡ names_in files folder
names_in-none files folder file is =
    rw (filter_map-append (λ (f : Stored). name_of folder f.path) files (file ∷ [])) (rw (sym is) (fold-append with_name [] (filter_map (λ (f : Stored). name_of folder f.path) files) []))

one_more : (files : List Stored) (i : ℕ) (file : Stored) → i < length files → file ≡ get_or files i file → take (i + 1) files ≡ take i files ++ file ∷ []
one_more files i file lt is = take_more files i file lt ∙ ap (λ (f : Stored). take i files ++ f ∷ []) (sym is)

pub names_in-take-some : (files : List Stored) (i : ℕ) (file : Stored) (folder name : List ℕ) → i < length files → file ≡ get_or files i file
    → Some name ≡ name_of folder file.path → names_in (take (i + 1) files) folder ≡ with_name (names_in (take i files) folder) name
names_in-take-some files i file folder name lt is named =
    ap (λ (fs : List Stored). names_in fs folder) (one_more files i file lt is) ∙ names_in-some (take i files) folder file name named

pub names_in-take-none : (files : List Stored) (i : ℕ) (file : Stored) (folder : List ℕ) → i < length files → file ≡ get_or files i file
    → None ≡ name_of folder file.path → names_in (take (i + 1) files) folder ≡ names_in (take i files) folder
names_in-take-none files i file folder lt is named =
    ap (λ (fs : List Stored). names_in fs folder) (one_more files i file lt is) ∙ names_in-none (take i files) folder file named
