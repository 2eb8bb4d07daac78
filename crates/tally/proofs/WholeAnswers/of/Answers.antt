use Rattle.tally.proofs.Counting.{counted_turn, counted_end}
use Rattle.tally.proofs.WholeAnswers.of.Goals as goal

pub loop-answer-preserved : goal.loop-answer-preserved
loop-answer-preserved c = let h = c.in-Some.ensures.steps in
    counted_turn _ c.loop-answer.invariant h.1 h.0.0 h.0.1 c.number.ensures.value (c.one_if-n.ensures.one, c.one_if-n.ensures.small)

pub returns : goal.returns
returns c = counted_end c.loop-answer.invariant (λ l. (c.in-None.ensures.steps l).1.0)
