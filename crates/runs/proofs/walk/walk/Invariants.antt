use mathlib.Core.Path.{◌≡◌}
use Rattle.std.specs.Prelude.{None}
use Prim.Native.Nat.{◌-◌}
use lib.ListN.{length}
use Rattle.intern.specs.Interning.{limits_of}
use Rattle.runs.proofs.Walks.{Between}
use Rattle.runs.proofs.walk.walk.Given as goal

abbrev pub invariant-loop-s : goal.invariant-loop-s
invariant-loop-s l = (l.s.stop ≡ None) × Between (limits_of l.limits) l.job l.initial.work l.initial.answers l.work l.answers l.s

abbrev pub decreases-loop-s : goal.decreases-loop-s
decreases-loop-s l = length l.job - l.s.at
