use Rattle.slice_rules.proofs.SliceLaws.{slice_below, slices_turn, slices_refused, slices_end}
use Rattle.slice_rules.proofs.slicing.slices_check.Goals as goal

pub next_slice-requires-clause-slice : goal.next_slice-requires-clause-slice
next_slice-requires-clause-slice c = slice_below c.loop-x.invariant c.in-Some.ensures.steps

pub returns-in-Err : goal.returns-in-Err
returns-in-Err c = slices_refused c.loop-x.invariant c.in-Some.ensures.steps _ c.next_slice.ensures c.in-Err.is

pub loop-x-preserved : goal.loop-x-preserved
loop-x-preserved c = slices_turn c.loop-x.invariant c.in-Some.ensures.steps _ c.next_slice.ensures c.in-Ok.is

pub returns : goal.returns
returns c = slices_end c.loop-x.invariant c.in-None.ensures.steps.0
