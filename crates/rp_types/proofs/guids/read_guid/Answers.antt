use Rattle.std.proofs.Common.{◌≡◌, ℕ, List, Option, None, Some, refl, sym, ap, ◌∙◌, true≢false}
use Rattle.std.specs.Prelude.{option_map}
use Rattle.uuid.specs.Text.{parsed}
use Rattle.rp_base.specs.declared.guid.Guid.{Guid}
use Rattle.rp_types.specs.Guids.{guid_of}
use Rattle.rp_types.proofs.guids.read_guid.Goals as goal

guid : List ℕ → Guid
guid bytes = record { 0 = bytes }

-- an option that is no value's is none
none_left : (o : Option (List ℕ)) → ((u : List ℕ) × (o ≡ Some u) → ⊥) → ◌≡◌ {A = Option Guid} None (option_map guid o)
none_left None h = refl
none_left (Some u) h = absurd (h (u, refl))

pub returns-in-Ok : goal.returns-in-Ok
unfolding guid_of guid
returns-in-Ok c =
    ap (λ (bytes : List ℕ). Some (guid bytes)) c.into_bytes.ensures ∙ ap (option_map guid) c.in-Ok.ensures.bytes

pub returns-in-Err : goal.returns-in-Err
unfolding guid_of guid
returns-in-Err c = none_left (parsed c.args.text.now) (λ p. true≢false (sym (c.in-Err.ensures.ok.1 p)))
