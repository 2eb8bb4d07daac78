use mathlib.Core.Path.{sym, ap, ◌∙◌, subst}
use Prim.Native.Nat.{ℕ}
use native.Mathlib.Omega.{arith}
use Rattle.table.specs.Buckets.{head_count, heads_start}
use Rattle.table.proofs.MemoryLaws.{Unmoved, cut, drop_next, drop_turn, dropped_is, unframed}
use Rattle.table.proofs.drops.drop_rows_as.Goals as goal

pub loop-k-preserved : goal.loop-k-preserved
loop-k-preserved g c = let r = drop_turn c.loop-k-test.true c.loop-k.invariant.1 c.loop-k.invariant.3 c.drop_row.ensures in (
  omega arith,
  r.0,
  r.1 ∙ c.loop-k.invariant.2,
  r.2,
  c.loop-k.invariant.4
      ∙ drop_next c.loop-k-test.true c.loop-k.invariant.1 c.drop_row.ensures,
)

pub returns : goal.returns
returns g c = let a = c.args in
    let same = sym c.loop-k.invariant.2 in
    cut g.N.Lengths.BYTES
    (unframed g.N.Lengths.BYTES g.N.Lengths.linked (c.of-heads.ensures.start ∙ ap (heads_start g.N.Lengths.BYTES) same)
    (c.of-heads.ensures.count ∙ ap (λ (len : ℕ). head_count g.N.Lengths.LINK_BYTES len c.of-heads.result.start) same) c.loop-k.invariant.1)
    (subst (λ (l : ℕ). Unmoved l a.work.now c.loop-k.work c.loop-k.k) g.N.Lengths.linked c.loop-k.invariant.3)
    c.loop-k-test.false c.loop-k.invariant.0 c.requires.fewer
    (dropped_is g.N.Lengths.BYTES a.job.now a.work.now c.loop-k.work a.n a.m c.loop-k-test.false g.N.Lengths.linked c.of-heads.ensures.start
    c.of-heads.ensures.count c.loop-k.invariant.4)
