use borrow.Author.Rules.{rules}
use mathlib.Core.Path.{ap, sym, ◌∙◌}
use mathlib.Core.List.{map}
use Rattle.theory.specs.Kind.{BvBbTerm}
use Rattle.theory.specs.RuleTable.{by_value}
use Rattle.theory.specs.Rule.{value_bits, literal_bits, on_sides}
use Rattle.terms.specs.declared.Operands.TheVariants.{List as Listed}
use Rattle.terms.specs.Decoded.{op_of, operands_of, words_in}
use Rattle.operand_rules.proofs.Forms.{no_equation, sides, no_case, args_form, sides_below}
use Rattle.store.specs.Kept.{kept_term}
use Rattle.slice_rules.proofs.Fitting.{list_given}
use Rattle.slice_rules.proofs.Literals.{constant_form, no_constant, numbers_literal}
use Rattle.slice_rules.proofs.constants.value.Goals as goal

pub returns-in_default : goal.returns-in_default
returns-in_default c = no_equation c.term_at.ensures by_value (search rules)

pub returns-in_default-term_at : goal.returns-in_default-term_at
unfolding on_sides
returns-in_default-term_at c = no_case c.term_at-2.ensures 12 (search rules) tt _ ∙ sides c.term_at.ensures by_value c.in-Equals.is

pub returns-in_default-term_at-2 : goal.returns-in_default-term_at-2
unfolding on_sides
returns-in_default-term_at-2 c = no_constant c.term_at-3.ensures (search rules) _
    ∙ sym (args_form c.term_at-2.ensures BvBbTerm (Listed _) (ap op_of c.in-BvBbTerm.is) (ap operands_of c.in-BvBbTerm.is) _)
    ∙ sides c.term_at.ensures by_value c.in-Equals.is

pub returns : goal.returns
unfolding on_sides
returns c = let a = c.args in
    let d = ap operands_of c.in-BvBbTerm.is in
    let below = (sides_below c.term_at.ensures c.in-Equals.is c.args.literal.now.below).1 in
    c.value_check.ensures
    ∙ ap (value_bits _) (numbers_literal c.args.literal.now.kept (list_given c.args.literal.now.kept c.term_at-2.ensures below _ d))
    ∙ constant_form c.term_at-3.ensures _ _ (ap op_of c.in-Const.is) (ap operands_of c.in-Const.is) (λ x. value_bits x (literal_bits (map (kept_term a.literal.now.kept) (words_in a.literal.now.kept.lookup.job.now c.in-BvBbTerm.bits))))
    ∙ sym (args_form c.term_at-2.ensures BvBbTerm (Listed _) (ap op_of c.in-BvBbTerm.is) d _)
    ∙ sides c.term_at.ensures by_value c.in-Equals.is
