-- The writes so far are those of the first blocks that wait.
use Rattle.std.proofs.Common.{◌≡◌, ◌-◌, ◌*◌, ◌<◌, ◌≤◌, ◌^◌, ◌++◌, ℕ, List, length, refl, sym, ap, ◌∙◌, arith, rules, append-nil}
use Rattle.rp_base.specs.Image.{bytes_at}
use Rattle.rp_disk.specs.declared.call.Call.{Call}
use Rattle.rp_disk.proofs.Ranges.{length-bytes_at}
use Rattle.rp_disk.proofs.Noting.{earlier_same, earlier_then, possible_before, possible_lawful}
use Rattle.rp_disk.proofs.Runs.{broke_off_in, on_err, one_more}
use Rattle.rp_disk.specs.Made.{dones}
use Rattle.rp_format.specs.Puts.{EndBy, kept_puts, writes_of}
use Rattle.rp_format.proofs.Kept.{ends-at, writes-are, writes-more, writes-split}
use Rattle.rp_format.proofs.Told.{SameLength, same_length, stays_call, stays_more, stays_none, stays_says}
use Rattle.rp_format.proofs.waiting.Waiting.write_to.Goals as goal

pub loop-k-init : goal.loop-k-init
loop-k-init g c = record {
  earlier = earlier_same _;
  so_far = sym (append-nil (g.D.Disk.device c.args.disk.now).calls);
  faults = refl;
  strays = λ o can. stays_none _ _ _ _;
}

pub overflow_add-place : goal.overflow_add-place
overflow_add-place g c =
    let below : c.loop-k.k < c.args.self.now.count = omega arith in
    let end = ends-at c.args.hash_at (2 ^ 64 - 1) c.args.self.now.count c.loop-k.k c.args.self.now.places c.args.self.now.blocks below
    c.requires.ends in
    omega arith

pub overflow_mul-place : goal.overflow_mul-place
overflow_mul-place g c =
    let below : c.loop-k.k < c.args.self.now.count = omega arith in
    let end = ends-at c.args.hash_at (2 ^ 64 - 1) c.args.self.now.count c.loop-k.k c.args.self.now.places c.args.self.now.blocks below
    c.requires.ends in
    omega arith

pub overflow_add-place-in-loop-k : goal.overflow_add-place-in-loop-k
overflow_add-place-in-loop-k g c =
    let below : c.loop-k.k < c.args.self.now.count = omega arith in
    let end = ends-at c.args.hash_at (2 ^ 64 - 1) c.args.self.now.count c.loop-k.k c.args.self.now.places c.args.self.now.blocks below
    c.requires.ends in
    omega arith

pub returns-in_err-write-clause-ran : goal.returns-in_err-write-clause-ran
returns-in_err-write-clause-ran g c =
    let below : c.loop-k.k < c.args.self.now.count = omega arith in
    let split = writes-split c.args.hash_at c.args.self.now.count c.loop-k.k c.args.self.now.places c.args.self.now.blocks below in
    let so_far = c.loop-k.invariant.so_far in
    let calls : List Call = writes_of c.args.hash_at (kept_puts c.loop-k.k c.args.self.now.places c.args.self.now.blocks) in
    record {
      ok = search rules;
      err =
          on_err c.from_residual.result (broke_off_in _ _ _ calls _ split.0 _ split.1 so_far c.in_err-write.ensures.calls.err);
    }

pub returns-in_err-write-clause-strays : goal.returns-in_err-write-clause-strays
returns-in_err-write-clause-strays g c = λ o can.
    let places : List ℕ = c.args.self.now.places in
    let blocks : List ℕ = c.args.self.now.blocks in
    let count : ℕ = c.args.self.now.count in
    let k : ℕ = c.loop-k.k in
    let below : k < count = omega arith in
    let few : count ≤ 6 = c.args.self.now.few in
    let size : length (bytes_at blocks (4096 * k) 4096) ≡ 4096 = length-bytes_at blocks (4096 * k) 4096 (omega arith) in
    let calls : List Call = writes_of c.args.hash_at (kept_puts k places blocks) in
    let same : SameLength o (g.D.Disk.device c.args.disk.now).calls (g.D.Disk.device c.loop-k.disk).calls =
    same_length _ _ _ calls c.loop-k.invariant.so_far (writes-are c.args.hash_at (kept_puts k places blocks))
    (possible_lawful o (g.D.Disk.device c.loop-k.disk) (possible_before o c.write.ensures.earlier can)) in
    stays_says (λ n. EndBy c.args.hash_at n (kept_puts count places blocks)) _ _ _ _
    (stays_more (λ n. EndBy c.args.hash_at n (kept_puts count places blocks)) _ _ _ _ _ _ same (c.loop-k.invariant.strays o (possible_before o c.write.ensures.earlier can))
    (stays_call _ o (g.D.Disk.device c.loop-k.disk) (g.D.Disk.device c.write.new.self) _
    (λ n ends. let end = ends-at c.args.hash_at n count k places blocks below ends in omega arith)
    c.write.ensures.inside))

pub loop-k-preserved : goal.loop-k-preserved
loop-k-preserved g c =
    let places : List ℕ = c.args.self.now.places in
    let blocks : List ℕ = c.args.self.now.blocks in
    let count : ℕ = c.args.self.now.count in
    let k : ℕ = c.loop-k.k in
    let below : k < count = omega arith in
    let few : count ≤ 6 = c.args.self.now.few in
    let size : length (bytes_at blocks (4096 * k) 4096) ≡ 4096 = length-bytes_at blocks (4096 * k) 4096 (omega arith) in
    let calls : List Call = writes_of c.args.hash_at (kept_puts k places blocks) in
    record {
      earlier = earlier_then c.loop-k.invariant.earlier c.write.ensures.earlier;
      so_far = one_more _ _ _ calls _ c.loop-k.invariant.so_far c.in_ok-write.ensures.calls.ok
          ∙ ap (λ (l : List Call). (g.D.Disk.device c.args.disk.now).calls ++ dones l) (sym (writes-more c.args.hash_at k places blocks));
      faults = c.in_ok-write.ensures.cause.kept ∙ c.loop-k.invariant.faults;
      strays = λ o can.
          let same : SameLength o (g.D.Disk.device c.args.disk.now).calls (g.D.Disk.device c.loop-k.disk).calls =
          same_length _ _ _ calls c.loop-k.invariant.so_far (writes-are c.args.hash_at (kept_puts k places blocks))
          (possible_lawful o (g.D.Disk.device c.loop-k.disk) (possible_before o c.write.ensures.earlier can)) in
          stays_more (λ n. EndBy c.args.hash_at n (kept_puts count places blocks)) _ _ _ _ _ _ same (c.loop-k.invariant.strays o (possible_before o c.write.ensures.earlier can))
          (stays_call _ o (g.D.Disk.device c.loop-k.disk) (g.D.Disk.device c.write.new.self) _
          (λ n ends. let end = ends-at c.args.hash_at n count k places blocks below ends in omega arith)
          c.write.ensures.inside);
    }

pub returns-clause-strays : goal.returns-clause-strays
returns-clause-strays g c = λ o can.
    stays_says (λ n. EndBy c.args.hash_at n (kept_puts c.args.self.now.count c.args.self.now.places c.args.self.now.blocks)) _ _ _ _
    (c.loop-k.invariant.strays o can)

pub returns-in_err-write-clause-earlier : goal.returns-in_err-write-clause-earlier
returns-in_err-write-clause-earlier g c = earlier_then c.loop-k.invariant.earlier c.write.ensures.earlier
