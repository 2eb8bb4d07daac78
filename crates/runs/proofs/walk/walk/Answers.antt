-- `walk`: between two records the run goes on with the records that are left; it stops at a code, or where none is left.
use mathlib.Core.Path.{sym, ap, ◌∙◌, subst}
use Rattle.std.specs.Prelude.{Some}
use Rattle.intern.specs.Interning.{limits_of}
use Rattle.runs.specs.Walking.{Walked, state, stood}
use Rattle.runs.proofs.Walks.{begun, goes, stops, ends, walked}
use Rattle.runs.proofs.walk.walk.Goals as goal

pub loop-s-init : goal.loop-s-init
loop-s-init c = begun (limits_of c.args.limits) c.args.answers.now c.requires c.start.ensures c.start-s.ensures

pub returns-in-Err : goal.returns-in-Err
returns-in-Err c =
    let halted = walked c.requires (stops c.loop-s.invariant.1 c.loop-s-test.true _ _ c.next.auto.work c.next.auto.answers c.next.ensures.next (ap (stood _) c.in-Err.is)) c.start.ensures.memory_is in
    subst (λ s. Walked (limits_of c.args.limits) c.args.job.now c.args.work.now c.args.answers.now c.next.new.work c.next.new.answers (state s.at (Some c.in-Err.stop) s.records s.answers s.rows s.repeats))
    (sym (c.next.ensures.stays _ c.in-Err.is)) halted

pub loop-s-preserved : goal.loop-s-preserved
loop-s-preserved c =
    let g = goes c.loop-s.invariant.1 c.loop-s-test.true _ _ c.next.auto.work c.next.auto.answers c.next.ensures.next (ap (stood _) c.in_default.is) in
    (g.0 ∙ c.loop-s.invariant.0, g.1.0)

pub returns : goal.returns
returns c = walked c.requires (ends c.loop-s.invariant.1 c.loop-s.invariant.0 c.loop-s-test.false) c.start.ensures.memory_is
