use borrow.Author.Rules.{rules}
use mathlib.Core.Path.{ap, sym, ◌∙◌}
use Rattle.theory.specs.Kind.{BvConcat}
use Rattle.theory.specs.RuleTable.{by_concat}
use Rattle.theory.specs.Rule.{on_sides}
use Rattle.terms.specs.declared.Operands.TheVariants.{List as Listed}
use Rattle.terms.specs.Decoded.{op_of, operands_of}
use Rattle.operand_rules.proofs.Forms.{no_equation, sides, no_case, args_form, sides_below}
use Rattle.slice_rules.proofs.Fitting.{any_form, concat_given}
use Rattle.slice_rules.proofs.parts.concat.Goals as goal

pub returns-in_default : goal.returns-in_default
returns-in_default c = no_equation c.term_at.ensures by_concat (search rules)

pub returns-in_default-term_at : goal.returns-in_default-term_at
unfolding on_sides
returns-in_default-term_at c = no_case c.term_at-2.ensures 29 (search rules) tt _ ∙ sides c.term_at.ensures by_concat c.in-Equals.is

pub returns-in_default-term_at-2 : goal.returns-in_default-term_at-2
unfolding on_sides
returns-in_default-term_at-2 c = no_case c.term_at-3.ensures 12 (search rules) tt _
    ∙ sym (args_form c.term_at-2.ensures BvConcat (Listed _) (ap op_of c.in-BvConcat.is) (ap operands_of c.in-BvConcat.is) _)
    ∙ sides c.term_at.ensures by_concat c.in-Equals.is

pub concat_check-requires : goal.concat_check-requires
concat_check-requires c = let b = sides_below c.term_at.ensures c.in-Equals.is c.args.literal.now.below in
    concat_given c.args.literal.now.kept c.term_at-2.ensures b.0 _ _ (ap op_of c.in-BvConcat.is) (ap operands_of c.in-BvConcat.is) b.1

pub returns : goal.returns
unfolding on_sides
returns c = c.concat_check.ensures
    ∙ sym (args_form c.term_at-2.ensures BvConcat (Listed _) (ap op_of c.in-BvConcat.is) (ap operands_of c.in-BvConcat.is) _
    ∙ any_form c.term_at-3.ensures 12 (search rules) _)
    ∙ sides c.term_at.ensures by_concat c.in-Equals.is
