-- `seal`: after k turns the first k answers have their length and kind.
use borrow.Author.Rules.{rules}
use Rattle.steps.proofs.Writing.{sealing_start, sealing_turn}
use Rattle.steps.proofs.answers.seal.Goals as goal

pub loop-k-init : goal.loop-k-init
loop-k-init c = sealing_start _ _ _

pub loop-k-preserved : goal.loop-k-preserved
loop-k-preserved c = sealing_turn c.requires.there c.loop-k.invariant c.loop-k-test.true (search rules) c.put_number.ensures c.put_number-in-loop-k.ensures
