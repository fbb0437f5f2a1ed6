-- Faults are sound: a kind that is known, and want of memory without a place.
use Rattle.std.proofs.Common.{◌≡◌, ◌≢◌, inl, inr, refl, sym, subst}
use Rattle.rp_defs.specs.declared.fault.DefFault.{DefFault}
use Rattle.rp_defs.specs.declared.fault.DefKind.TheVariants.{Memory}
use Rattle.rp_defs.specs.Faults.{no_memory, IsFault, IsKnown, IsSoundFault}

pub starved_sound : (fault : DefFault) → fault ≡ no_memory → IsSoundFault fault
starved_sound fault is = subst IsSoundFault (sym is) (record { known = tt; memory = λ e. refl })

pub placed_sound : (fault result : DefFault) → IsFault fault result → IsKnown fault.kind → fault.kind ≢ Memory → IsSoundFault result
placed_sound fault result (inl is) known some = subst IsSoundFault (sym is) (record { known = known; memory = λ e. absurd (some e) })
placed_sound fault result (inr is) known some = starved_sound result is
