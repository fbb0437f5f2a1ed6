-- What a sink of the host is, from outside.
use Rattle.std.specs.Prelude.{ℕ}
use Rattle.rp_io.specs.declared.host_sink.HostSink.{HostSink}

-- how many of its calls failed
abbrev pub failures : {R : Type 0} → HostSink R → ℕ
failures sink = sink.faults
