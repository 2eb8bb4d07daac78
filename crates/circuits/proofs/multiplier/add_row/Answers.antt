use mathlib.Core.Path.{ap}
use Rattle.std.specs.Prelude.{length}
use Rattle.std.proofs.lemmas.Slice.Zip.{either_empty_from_Zip}
use Rattle.circuits.proofs.AppendLaws.{append_turn, append_end}
use Rattle.circuits.proofs.MultiplyLaws.{row_next, row_none}
use Rattle.circuits.proofs.multiplier.add_row.Goals as goal

pub loop-bit-preserved : goal.loop-bit-preserved
loop-bit-preserved c = let h = c.in-Some.ensures.steps in
    let a = c.full_adder-next.ensures in
    append_turn c.loop-bit.invariant c.push.ensures.items (row_next _ _ h c.and2-product.ensures a.bit_value a.carry_value) (ap length h.1)

pub returns : goal.returns
returns c = append_end c.loop-bit.invariant (row_none _ _ _ (either_empty_from_Zip c.loop-bit.bit-iterator c.next.new.self _ c.in-None.is c.next.ensures.steps))
