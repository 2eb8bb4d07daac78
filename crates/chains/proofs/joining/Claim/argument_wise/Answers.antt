-- `argument_wise`: what is left from i on decides (Joins, `Comparing`).
use mathlib.Core.Path.{sym, ◌∙◌}
use Rattle.chains.proofs.Joins.{other_left, other_right, arguments_below, argue_fails, argue_turn, argue_end}
use Rattle.chains.proofs.joining.Claim.argument_wise.Goals as goal

pub returns-then-count-self : goal.returns-then-count-self
returns-then-count-self c = other_left _ _ c.requires (λ e. c.if-count-self.true (c.count.ensures ∙ e))

pub returns-then-count-self-2 : goal.returns-then-count-self-2
returns-then-count-self-2 c = other_right _ _ c.requires (λ e. c.if-count-self-2.true (c.count-2.ensures ∙ e))

pub shows-requires : goal.shows-requires
shows-requires c =
    let below = arguments_below _ c.args.self.now.premises c.requires (sym c.count.ensures ∙ c.if-count-self.false) (sym c.count-2.ensures ∙ c.if-count-self-2.false)
    c.loop-i-test.true c.operand.ensures c.operand-in-loop-i.ensures in
    record { left = below.0; right = below.1 }

pub returns-then-not-shows : goal.returns-then-not-shows
returns-then-not-shows c =
    argue_fails _ _ c.requires (sym c.count.ensures ∙ c.if-count-self.false) (sym c.count-2.ensures ∙ c.if-count-self-2.false) c.loop-i.invariant
    c.loop-i-test.true c.operand.ensures c.operand-in-loop-i.ensures c.argument-number.ensures c.shows.ensures c.if-not-shows.true

pub loop-i-preserved : goal.loop-i-preserved
loop-i-preserved c =
    argue_turn _ _ c.requires (sym c.count.ensures ∙ c.if-count-self.false) (sym c.count-2.ensures ∙ c.if-count-self-2.false) c.loop-i.invariant
    c.loop-i-test.true c.operand.ensures c.operand-in-loop-i.ensures c.argument-number.ensures c.shows.ensures c.if-not-shows.false

pub returns : goal.returns
returns c =
    argue_end _ _ c.requires (sym c.count.ensures ∙ c.if-count-self.false) (sym c.count-2.ensures ∙ c.if-count-self-2.false) c.loop-i.invariant
    c.loop-i-test.false
