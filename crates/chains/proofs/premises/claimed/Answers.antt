-- `claimed`: the first literal of the step that was read, or the chain's.
use Rattle.chains.proofs.Standing.{was_read, claims, claims_none, step_none, step_first}
use Rattle.chains.proofs.premises.claimed.Goals as goal

pub returns-then-literals-eq0 : goal.returns-then-literals-eq0
returns-then-literals-eq0 c = step_none _ _ c.read.ensures.says (was_read c.in-Ok-Step.is c.in-Ok-Step.field-0-is) (rw c.in-Ok-Step.literals-is at c.if-literals-eq0.true)

pub returns-else-literals-eq0 : goal.returns-else-literals-eq0
returns-else-literals-eq0 c = step_first _ _ c.read.ensures.says (was_read c.in-Ok-Step.is c.in-Ok-Step.field-0-is) c.if-literals-eq0.false c.argument.ensures

pub returns-in-Ok-Chain : goal.returns-in-Ok-Chain
returns-in-Ok-Chain c = claims _ _ _ c.read.ensures.says (was_read c.in-Ok-Chain.is c.in-Ok-Chain.field-0-is)

pub returns-in-Ok-Term : goal.returns-in-Ok-Term
returns-in-Ok-Term c = claims _ _ _ c.read.ensures.says (was_read c.in-Ok-Term.is c.in-Ok-Term.field-0-is)

pub returns-in-Ok-Back : goal.returns-in-Ok-Back
returns-in-Ok-Back c = claims _ _ _ c.read.ensures.says (was_read c.in-Ok-Back.is c.in-Ok-Back.field-0-is)

pub returns-in-Err : goal.returns-in-Err
returns-in-Err c = claims_none _ _ _ (λ i e. let f = c.in-Err.is in cc) c.read.ensures.says
