use borrow.Author.Rules.{rules}
use Rattle.std.proofs.lemmas.Slice.Zip.{either_empty_from_Zip}
use Rattle.circuits.proofs.AddLaws.{adder_start, adder_turn, adder_end}
use Rattle.circuits.proofs.adder.ripple_carry_adder.Goals as goal

pub loop-a-init : goal.loop-a-init
loop-a-init c = rw c.new-bits.ensures (adder_start _ _ (search rules) (search rules) c.requires.beside (search rules))

pub loop-a-preserved : goal.loop-a-preserved
loop-a-preserved c = let a = c.full_adder-sum.ensures in adder_turn c.loop-a.invariant c.in-Some.ensures.steps c.push.ensures.items a.bit_value a.carry_value

pub returns : goal.returns
returns c = let h = adder_end c.loop-a.invariant (either_empty_from_Zip c.loop-a.a-iterator c.next.new.self _ c.in-None.is c.next.ensures.steps) in
    record { bits_value = h.0; carry_value = h.1; out_value = h.2 }
