use borrow.Author.Rules.{rules}
use mathlib.Core.Path.{ap, sym, ◌∙◌}
use Rattle.theory.specs.Kind.{Equals}
use Rattle.theory.specs.RuleTable.{by_equality}
use Rattle.theory.specs.Rule.{on_sides}
use Rattle.terms.specs.Decoded.{op_of, operands_of}
use Rattle.operand_rules.proofs.Forms.{no_equation, sides, no_case, two_form, sides_below, same_given}
use Rattle.operand_rules.proofs.equations.equality.Goals as goal

pub returns-in_default : goal.returns-in_default
returns-in_default c = no_equation c.term_at.ensures by_equality (search rules)

pub returns-in_default-term_at : goal.returns-in_default-term_at
unfolding on_sides
returns-in_default-term_at c = no_case c.term_at-2.ensures 9 (search rules) tt _ ∙ sides c.term_at.ensures by_equality c.in-Equals.is

pub equality_check-requires : goal.equality_check-requires
equality_check-requires c = let b = sides_below c.term_at.ensures c.in-Equals.is c.args.literal.now.below in
    same_given c.args.literal.now.kept c.term_at-2.ensures b.0 _ _ _ (ap op_of c.in-Equals-term_at.is) (ap operands_of c.in-Equals-term_at.is) b.1

pub returns : goal.returns
unfolding on_sides
returns c = c.equality_check.ensures ∙ sym (two_form c.term_at-2.ensures Equals _ _ (ap op_of c.in-Equals-term_at.is) (ap operands_of c.in-Equals-term_at.is) _)
    ∙ sides c.term_at.ensures by_equality c.in-Equals.is
