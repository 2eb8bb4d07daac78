use mathlib.Core.Path.{ap}
use Prim.Native.Nat.{ℕ, ◌+◌}
use native.Mathlib.Omega.{arith}
use Rattle.marks.proofs.Walking.{walk_step, walk_at, walk_on, walk_end}
use Rattle.digits.proofs.DigitLaws.{found_few, found_some, found_none}
use Rattle.partial.proofs.InputLaws.{placing_pass, placing_turn, placing_next, placing_done}
use Rattle.partial.proofs.inputs.place_inputs.Goals as goal

pub loop-k-preserved-in-Some-variable_bits : goal.loop-k-preserved-in-Some-variable_bits
loop-k-preserved-in-Some-variable_bits c = let s = c.loop-k.invariant in
    let g = c.in-Some.ensures.steps in
    let e = walk_step s g in
    let b = c.variable_bits.ensures in
    let i = c.in-Some-variable_bits.is in
    walk_on s g (placing_next (placing_turn (walk_at s g) (omega (arith, e.low, c.args.asked.now.marks.low)) (found_few i b.bits) (found_some i b.some) c.put_cell.ensures (ap (λ (b : ℕ). c.loop-k.at + b) c.from-at.ensures)) e.on)

pub loop-k-preserved : goal.loop-k-preserved
loop-k-preserved c = let s = c.loop-k.invariant in
    let g = c.in-Some.ensures.steps in
    let e = walk_step s g in
    walk_on s g (placing_next (placing_pass (walk_at s g) (omega (arith, e.low, c.args.asked.now.marks.low)) c.variable_bits.ensures.bits (found_none c.in_default.not-Some)) e.on)

pub returns : goal.returns
returns c = let w = c.loop-k.invariant in placing_done w.so_far (walk_end w c.in-None.ensures.steps.0)
