-- `leads`: what is left of the path leads from where it has come to (Joins, `Leading`).
use Rattle.chains.proofs.Joins.{lead_none, lead_off, lead_turn, lead_end}
use Rattle.chains.proofs.joining.Claim.leads.Goals as goal

pub returns-in_default : goal.returns-in_default
returns-in_default c = lead_none _ _ _ c.sides_at.ensures.below c.sides_at.ensures.sides c.loop-number.invariant c.in-Some.ensures.steps c.in_default.is

pub returns-then-a-at : goal.returns-then-a-at
returns-then-a-at c =
    lead_off _ _ _ c.sides_at.ensures.below c.sides_at.ensures.sides c.loop-number.invariant c.in-Some.ensures.steps c.in-Some-sides_at.is c.if-a-at.true

pub loop-number-preserved : goal.loop-number-preserved
loop-number-preserved c =
    lead_turn _ _ _ c.sides_at.ensures.below c.sides_at.ensures.sides c.loop-number.invariant c.in-Some.ensures.steps c.in-Some-sides_at.is c.if-a-at.false

pub returns : goal.returns
returns c = lead_end _ c.args.self.now.joining c.loop-number.invariant c.in-None.ensures.steps.0
