use Rattle.std.proofs.Common.{ℕ, List, ◌*◌, ◌++◌, length, take, drop, refl}
use Rattle.rp_pool.proofs.pool.Pool.bytes_mut.Goals as goal

pub returns : goal.returns
returns c =
    let bytes = c.self.inside.bytes.items in
    let start = 4096 * c.lease.inside.first in
    let over = λ (w : List ℕ). take start bytes ++ (w ++ drop (length w) (drop start bytes)) in (
      (
        refl,
        λ w. rw (← c.self.view_is, ← c.lease.view_is)
            (λ i. record { bytes = take (c.self.inside.bytes.ok.0 i) (over w ++ drop (length (over w)) bytes); out = c.self.inside.out.items }),
      ),
      record { writes_back = tt; value = rw (← c.self.view_is, ← c.lease.view_is) c.slice_mut.ensures.value },
    )
