use mathlib.Core.Path.{ap, ◌∙◌}
use Rattle.store.specs.Lookup.{gates}
use Rattle.theory.specs.Circuit.{shl_stage}
use Rattle.shift_circuits.proofs.shift.LeftDirection.stage.Goals.{then-i-thresh, else-i-thresh}
use Rattle.shift_circuits.proofs.ShiftLaws.{left_in, left_out, left_end}
use Rattle.shift_circuits.proofs.shift.LeftDirection.stage.Goals as goal

pub loop-i-preserved : goal.loop-i-preserved
loop-i-preserved c = elim c.if-i-thresh.branch [
  | then-i-thresh w ↦ left_out c.loop-i.invariant c.push.ensures.items c.loop-i-test.true c.ite3.ensures w.from-is w.if-i-thresh.true
  | else-i-thresh w ↦ left_in c.loop-i.invariant c.push.ensures.items c.loop-i-test.true c.ite3.ensures w.from-is w.if-i-thresh.false
]

pub returns : goal.returns
returns c = left_end c.loop-i.invariant c.loop-i-test.false ∙ ap (shl_stage (gates c.args.lookup.now) c.args.s c.args.y) c.as_slice-bits.ensures.value
