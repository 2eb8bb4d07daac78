use mathlib.Core.Path.{◌≡◌}
use Rattle.table.proofs.BucketLaws.{Seeking}
use Rattle.table.proofs.walk.walk.Given as goal

abbrev pub invariant-loop-row : goal.invariant-loop-row
invariant-loop-row g l =
    let s = l.row-iterator in
    (s.work.now ≡ l.work) × ((s.link_bytes ≡ g.N.Lengths.LINK_BYTES) × Seeking g.N.Lengths.LINK_BYTES l.job l.work l.n l.wanted s.held)
