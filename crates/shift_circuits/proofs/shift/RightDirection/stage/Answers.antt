use borrow.Author.Rules.{rules}
use mathlib.Core.Path.{ap, ◌∙◌}
use Rattle.std.specs.Slice.Iter.{iter_rest}
use Rattle.store.specs.Lookup.{gates}
use Rattle.theory.specs.Circuit.{shr_stage}
use Rattle.shift_circuits.proofs.shift.RightDirection.stage.Goals.{in-Some, in-None}
use Rattle.shift_circuits.proofs.ShiftLaws.{right_start, right_in, right_out, right_end}
use Rattle.shift_circuits.proofs.shift.RightDirection.stage.Goals as goal

pub loop-bit-init : goal.loop-bit-init
loop-bit-init c = right_start c.new-out.ensures (search rules) (search rules)

pub loop-bit-preserved : goal.loop-bit-preserved
loop-bit-preserved c = elim c.match-next.branch [
  | in-Some w ↦ right_in c.loop-bit.invariant c.push.ensures.items c.loop-bit-test.true w.in-Some.ensures.steps c.not1-stays.ensures (w.shifted-is ∙ w.ite3-shifted.ensures)
  | in-None w ↦ right_out c.loop-bit.invariant c.push.ensures.items c.loop-bit-test.true w.in-None.ensures.steps.0 (ap iter_rest w.in-None.ensures.steps.1) (w.shifted-is ∙ w.ite3-shifted-in-None.ensures)
]

pub returns : goal.returns
returns c = right_end c.loop-bit.invariant c.loop-bit-test.false ∙ ap (shr_stage (gates c.args.lookup.now) c.args.self.now.fill c.args.s c.args.y) c.as_slice-bits.ensures.value
