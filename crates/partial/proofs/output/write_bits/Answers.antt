use Rattle.partial.proofs.OutputLaws.{writing_turn, writing_done}
use Rattle.partial.proofs.output.write_bits.Goals as goal

pub loop-i-preserved : goal.loop-i-preserved
loop-i-preserved c = writing_turn c.loop-i.invariant c.loop-i-test.true c.bit_on.ensures c.bit_byte.ensures

pub returns : goal.returns
returns c = writing_done c.loop-i.invariant c.loop-i-test.false
