-- `deepest_bool`: the arguments before i are Bools, and the deepest of all is the larger of the deepest so far and of what is left (Bools, `DeepeningBools`).
use mathlib.Core.Path.{ap, ◌∙◌}
use native.Mathlib.Omega.{arith}
use Rattle.store.specs.Measure.{bool_depth}
use Rattle.store.proofs.Keeping.{same_kept}
use Rattle.intern.proofs.Bools.{bools_turn, bools_not, bools_end}
use Rattle.intern.proofs.arguments.Arguments.deepest_bool.Goals as goal

pub returns-in_err-deep : goal.returns-in_err-deep
returns-in_err-deep c =
    c.from_residual.ensures
    ∙ bools_not c.loop-i.invariant (omega (arith, c.count-i-end.ensures, c.loop-i-test.true)) c.place.ensures.is
    (c.bool_depth.ensures ∙ ap bool_depth (same_kept c.terms-terms.ensures c.place.result)) c.in_err-deep.was

pub loop-i-preserved : goal.loop-i-preserved
loop-i-preserved c =
    bools_turn c.loop-i.invariant (omega (arith, c.count-i-end.ensures, c.loop-i-test.true)) c.place.ensures.is
    (c.bool_depth.ensures ∙ ap bool_depth (same_kept c.terms-terms.ensures c.place.result)) c.in_ok-deep.was c.max-most.ensures

pub returns : goal.returns
returns c = bools_end c.loop-i.invariant (omega (arith, c.count-i-end.ensures, c.loop-i-test.false))
