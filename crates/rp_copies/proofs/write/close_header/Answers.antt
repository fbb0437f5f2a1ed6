use Rattle.std.proofs.Common.{◌≡◌, ℕ, List, [], ◌∷◌, ◌++◌, take, replicate, sym, ap, ◌∙◌, rules, append-nil}
use Rattle.rp_disk.specs.Made.{Done}
use Rattle.rp_disk.specs.declared.call.Call.{Call}
use Rattle.rp_disk.specs.declared.call.Call.TheVariants.{Write}
use Rattle.rp_disk.proofs.Runs.{broke_off_in, on_err}
use Rattle.rp_stops.specs.Order.{close_call, header_offset, target_sectors}
use Rattle.rp_copies.proofs.Placed.{zeros_cut}
use Rattle.rp_copies.proofs.write.close_header.Goals as goal

pub returns-clause-ran : goal.returns-clause-ran
returns-clause-ran g c =
    let sector = c.args.plan.now.goal.sector in
    let e : Write c.header_offset.result (take {A = ℕ} sector (replicate 4096 0)) ≡ close_call c.args.plan.now c.args.which =
    ap (λ (at : ℕ). Write at (take {A = ℕ} sector (replicate 4096 0))) c.header_offset.ensures.place ∙ ap (λ (b : List ℕ). Write (header_offset sector (target_sectors c.args.plan.now) c.args.which) b) (zeros_cut sector c.requires.sector) in
    record { ok = c.in_ok-write.ensures.calls.ok ∙ ap (λ (call : Call). (g.D.Disk.device c.args.disk.now).calls ++ Done call ∷ []) e; err = tt }

pub returns-in_err-write-clause-ran : goal.returns-in_err-write-clause-ran
returns-in_err-write-clause-ran g c =
    let sector = c.args.plan.now.goal.sector in
    let e : Write c.header_offset.result (take {A = ℕ} sector (replicate 4096 0)) ≡ close_call c.args.plan.now c.args.which =
    ap (λ (at : ℕ). Write at (take {A = ℕ} sector (replicate 4096 0))) c.header_offset.ensures.place ∙ ap (λ (b : List ℕ). Write (header_offset sector (target_sectors c.args.plan.now) c.args.which) b) (zeros_cut sector c.requires.sector) in
    record {
      ok = search rules;
      err = on_err c.from_residual.result (broke_off_in _ _ _ [] (Write c.header_offset.result (take {A = ℕ} sector (replicate 4096 0))) [] _
          (ap (λ (call : Call). call ∷ []) (sym e)) (sym (append-nil _)) c.in_err-write.ensures.calls.err);
    }
