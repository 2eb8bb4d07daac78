use mathlib.Core.Path.{◌≡◌}
use Prim.Native.Nat.{◌-◌}
use lib.Seq.{sets}
use Rattle.theory.specs.Record.{bytes_of}
use Rattle.rows.proofs.bytes.put_bytes.Given as goal

abbrev pub invariant-loop-byte : goal.invariant-loop-byte
invariant-loop-byte l = sets l.initial.byte-items 0 (bytes_of l.len l.x) ≡ sets l.byte-items l.byte-index (bytes_of (l.len - l.byte-index) l.rest)
