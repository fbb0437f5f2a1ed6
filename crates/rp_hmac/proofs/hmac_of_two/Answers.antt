-- Each hasher holds the parts in their order.
use Rattle.std.proofs.Common.{List, ℕ, [], ◌++◌, append_assoc, refl}
use Rattle.rp_hmac.specs.Hmac.{hmac, padded}
use Rattle.rp_hmac.proofs.hmac_of_two.Goals as goal

pub returns : goal.returns
unfolding hmac
returns c =
    let key : List ℕ = c.args.key.now in
    let first : List ℕ = c.args.first.now in
    let second : List ℕ = c.args.second.now in
    let keyed = c.update.ensures [] c.new-inner.ensures in
    let begun = c.update-2.ensures (padded key 0x36) (rw c.pad.ensures at keyed) in
    let whole = c.update-3.ensures (padded key 0x36 ++ first) begun in
    let inner = c.finalize.ensures ((padded key 0x36 ++ first) ++ second) whole in
    let outer_keyed = c.update-4.ensures [] c.new-outer.ensures in
    let outer_whole = c.update-5.ensures (padded key 0x5c) (rw c.pad-2.ensures at outer_keyed) in
    let code = c.finalize-2.ensures (padded key 0x5c ++ c.finalize.result) outer_whole in
    rw (code, inner, append_assoc) refl
