-- What a counted object is, from outside.
use Rattle.rp_progress.specs.declared.metered.Metered.{Metered}

-- what is wrapped, over a runtime
abbrev pub wrapped : {T R : Type 0} → Metered T R → T
wrapped it = it.inner
