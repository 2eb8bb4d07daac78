use borrow.Author.Rules.{rules}
use mathlib.Core.Path.{ap, ◌∙◌}
use Prim.Native.Nat.{ℕ}
use Rattle.theory.specs.Rule.{index_of, unary}
use Rattle.store.specs.Kept.{kept_term}
use Rattle.operand_rules.proofs.Forms.{no_case, no_form, indexed_form, of_sides, sides_below, one_fits}
use Rattle.operand_rules.proofs.operation.unary_rule.Goals as goal

pub returns-in_default : goal.returns-in_default
returns-in_default g c = no_case c.term_at.ensures 9 (search rules) tt _

pub returns-in_default-of : goal.returns-in_default-of
returns-in_default-of g c = of_sides c.term_at.ensures c.in-Equals.is _ (no_form c.term_at-2.ensures g.U.Unary.number (c.of.ensures.other c.in_default-of.is) _)

pub check-requires : goal.check-requires
check-requires g c = let one = c.of.ensures.one _ _ c.in-Some.is in
    let b = sides_below c.term_at.ensures c.in-Equals.is c.args.literal.now.below in
    one_fits c.args.literal.now.kept c.term_at-2.ensures b.0 (g.U.Unary.kind _) (g.met.U.Unary.asks _) _ _ one.0 one.1 b.1

pub returns : goal.returns
returns g c = let one = c.of.ensures.one _ _ c.in-Some.is in
    let claim = kept_term c.args.literal.now.kept c.in-Equals.r in
    of_sides c.term_at.ensures c.in-Equals.is _
    (c.check.ensures
    ∙ indexed_form c.term_at-2.ensures (g.U.Unary.kind _) _ one.0 one.1 (λ i x. g.U.Unary.verdict i x claim)
    ∙ ap (λ (n : ℕ). unary n (kept_term c.args.literal.now.kept c.in-Equals.l) (λ x. g.U.Unary.verdict (λ i. index_of i (kept_term c.args.literal.now.kept c.in-Equals.l)) x claim)) (g.met.U.Unary.numbered _))
