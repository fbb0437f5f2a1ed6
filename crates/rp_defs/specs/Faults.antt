-- Faults of definitions.
use Rattle.std.specs.Prelude.{ℕ, List, [], ◌≡◌, ◌<◌, ◌⊎◌, ⊤}
use Rattle.rp_ini.specs.declared.fault.IniFault.TheVariants as ini
use Rattle.rp_defs.specs.declared.fault.DefFault.{DefFault}
use Rattle.rp_defs.specs.declared.fault.DefKind.{DefKind}
use Rattle.rp_defs.specs.declared.fault.DefKind.TheVariants.{Ini, BadValue, Unsupported, Memory}

-- want of memory: it has no file and no line
abbrev pub no_memory : DefFault
no_memory = record { file = []; part = []; line = 0; kind = Memory }

-- a fault of a definition as a whole has no line and no drop-in
abbrev pub whole_fault : List ℕ → DefKind → DefFault
whole_fault file kind = record { file = file; part = []; line = 0; kind = kind }

-- a fault, or want of memory for its texts
abbrev pub IsFault : DefFault → DefFault → Type 0
IsFault fault result = (result ≡ fault) ⊎ (result ≡ no_memory)

-- the key that a kind names, where it names one, is one of the 26, and no text's fault is want of memory
abbrev pub IsKnown : DefKind → Type 0
IsKnown (BadValue key) = key < 26
IsKnown (Unsupported key) = key < 26
IsKnown (Ini ini.Memory) = ⊥
IsKnown kind = ⊤

-- a fault: its kind is known, and want of memory has no file, no drop-in and no line
pub record IsSoundFault (fault : DefFault) : Type 0 where
  pub known : IsKnown fault.kind
  pub memory : fault.kind ≡ Memory → fault ≡ no_memory
