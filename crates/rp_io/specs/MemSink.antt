-- What a sink in memory is, from outside.
use Rattle.std.specs.Prelude.{ℕ, List, ◌≡◌, ◌+◌, ◌-◌, ◌^◌, ◌⊎◌, min, Result, OnOk, OnErr, Contains}
use Rattle.rp_io.specs.declared.mem_sink.MemSink.{MemSink}

-- the bytes that it has taken
abbrev pub taken : MemSink → List ℕ
taken sink = sink.taken.items

-- the numbers of the calls that are to fail
abbrev pub listed : MemSink → List ℕ
listed sink = sink.fail

-- how many calls it has answered
abbrev pub made : MemSink → ℕ
made sink = sink.made

-- how many of them failed
abbrev pub failures : MemSink → ℕ
failures sink = sink.faults

-- how many found no memory
abbrev pub starved : MemSink → ℕ
starved sink = sink.starved

-- a call fails exactly where its number is listed and where it finds no memory; only the second counts as starved
pub record FailsExactly {T E : Type 0} (old new : MemSink) (result : Result T E) : Type 0 where
  pub number : made new ≡ min (made old + 1) (2 ^ 64 - 1)
  pub same : listed new ≡ listed old
  pub ok : OnOk result ((Contains (listed old) (made new) → ⊥) × (starved new ≡ starved old))
  pub err : OnErr result ((Contains (listed old) (made new) × (starved new ≡ starved old))
      ⊎ ((Contains (listed old) (made new) → ⊥) × (starved new ≡ min (starved old + 1) (2 ^ 64 - 1))))
