-- Behind the text is nothing or the number's bytes.
use Rattle.std.proofs.Common.{◌≡◌, ◌==◌, [], if◌then◌else◌, refl}
use Rattle.std.proofs.lemmas.Bool.{ne_eqb}
use Rattle.std.specs.Int.{to_le_bytes, w64}
use Rattle.rp_hmac.specs.Derived.{derived}
use Rattle.rp_hmac.proofs.derive.Goals as goal
use Rattle.rp_hmac.proofs.derive.Goals.{then-k-eq0, else-k-eq0}

pub returns : goal.returns
unfolding derived
returns c =
    let behind : c.if-k-eq0.behind.now ≡ (if c.args.k == 0 then [] else to_le_bytes w64 c.args.k) =
    elim c.if-k-eq0.branch [
      | then-k-eq0 w ↦ rw (w.behind-is, w.if-k-eq0.true) refl
      | else-k-eq0 w ↦ rw (w.behind-is, ne_eqb c.args.k 0 w.if-k-eq0.false, c.to_le_bytes-bytes.ensures) refl
    ] in
    rw (c.stamp.ensures, c.hmac_of_two-code.ensures, behind) refl
