use mathlib.Core.Path.{◌≡◌}
use Prim.Native.Nat.{◌-◌, ◌≤◌}
use lib.ListN.{length}
use Rattle.table.specs.Buckets.{TableOf, dropped_from}
use Rattle.table.proofs.MemoryLaws.{Unmoved}
use Rattle.table.proofs.drops.drop_rows_as.Given as goal

abbrev pub invariant-loop-k : goal.invariant-loop-k
invariant-loop-k g l = (l.m ≤ l.k) × TableOf g.N.Lengths.LINK_BYTES l.job l.work l.k l.heads.start l.heads.count × (length l.work ≡ length l.initial.work) × Unmoved g.N.Lengths.LINK_BYTES l.initial.work l.work l.k
    × (dropped_from g.N.Lengths.LINK_BYTES l.job l.initial.work l.heads.start l.heads.count l.m (l.n - l.m) ≡ dropped_from g.N.Lengths.LINK_BYTES l.job l.work l.heads.start l.heads.count l.m (l.k - l.m))
