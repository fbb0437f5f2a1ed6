-- What was read, with zeros behind it.
use Rattle.std.proofs.Common.{◌≡◌, ◌≢◌, ◌-◌, ◌*◌, ℕ, [], length, replicate, min, ◌∙◌, ap, arith}
use Rattle.std.proofs.lemmas.List.{nil_from_length}
use Rattle.rp_verity.proofs.Filling.{source-none, source-read}
use Rattle.rp_verity.proofs.sources.read_run.Goals as goal

pub returns-then-size-eq0-clause-bytes : goal.returns-then-size-eq0-clause-bytes
returns-then-size-eq0-clause-bytes g c =
    let none : c.split_at_mut-part.result.0.now ≡ [] = nil_from_length c.split_at_mut-part.result.0.now (omega arith) in
    let n : ℕ = length c.args.run.now in
    let rest : length c.split_at_mut-part.result.1.now ≡ n = omega arith in
    let zeros : c.fill.new.self ≡ replicate n 0 = c.fill.ensures.after (λ y e. e) ∙ ap (λ (n : ℕ). replicate n 0) rest in
    rw none (source-none (g.S.Sources.told c.args.sources.now) c.args.path.now c.args.len c.args.k n c.fill.new.self (omega arith) zeros)

pub returns-clause-bytes : goal.returns-clause-bytes
returns-clause-bytes g c =
    let size : ℕ = length c.split_at_mut-part.result.0.now in
    let n : ℕ = length c.args.run.now in
    let is_size : size ≡ min (c.args.len - 4096 * c.args.k) n = omega arith in
    let some : size ≢ 0 = omega arith in
    let rest : length c.split_at_mut-part.result.1.now ≡ n - size = omega arith in
    let zeros : c.fill.new.self ≡ replicate (n - size) 0 = c.fill.ensures.after (λ y e. e) ∙ ap (λ (n : ℕ). replicate n 0) rest in
    source-read c.read.result (g.S.Sources.told c.args.sources.now) c.args.path.now c.args.len c.args.k n size c.read.new.buf
    c.fill.new.self
    is_size some zeros c.read.ensures.bytes
