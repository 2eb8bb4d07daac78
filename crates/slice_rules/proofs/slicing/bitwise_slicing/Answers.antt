use borrow.Author.Rules.{rules}
use mathlib.Core.Path.{ap, sym, ◌∙◌}
use Rattle.theory.specs.Kind.{BvConcat, kind}
use Rattle.theory.specs.Sort.{sort_width, sort_of}
use Rattle.theory.specs.RuleTable.{by_bitwise_slicing}
use Rattle.theory.specs.Rule.{args_of, form, slices_verdict, on_sides}
use Rattle.terms.specs.declared.Operands.TheVariants.{List as Listed}
use Rattle.terms.specs.Decoded.{op_of, operands_of}
use Rattle.operand_rules.proofs.Forms.{no_equation, sides, no_case, args_form, sides_below}
use Rattle.store.specs.Kept.{kept_term}
use Rattle.slice_rules.proofs.Fitting.{list_given}
use Rattle.slice_rules.proofs.SliceLaws.{pair_form, no_pair}
use Rattle.slice_rules.proofs.slicing.bitwise_slicing.Goals as goal

pub returns-in_default : goal.returns-in_default
returns-in_default c = no_equation c.term_at.ensures by_bitwise_slicing (search rules)

pub returns-in_default-and_pair : goal.returns-in_default-and_pair
unfolding on_sides
returns-in_default-and_pair c = no_pair c.and_pair.ensures c.in_default-and_pair.is _ ∙ sides c.term_at.ensures by_bitwise_slicing c.in-Equals.is

pub returns-in_default-term_at : goal.returns-in_default-term_at
unfolding on_sides
returns-in_default-term_at c = let a = c.args in
    let claim = kept_term a.literal.now.kept c.in-Equals.r in
    no_case c.term_at-2.ensures 29 (search rules) tt _
    ∙ pair_form c.and_pair.ensures c.in-Some.is (λ u v. form (args_of (kind BvConcat) claim) (slices_verdict u v (sort_width (sort_of v))))
    ∙ sides c.term_at.ensures by_bitwise_slicing c.in-Equals.is

pub slices_check-requires-clause-arguments : goal.slices_check-requires-clause-arguments
slices_check-requires-clause-arguments c = list_given c.args.literal.now.kept c.term_at-2.ensures (sides_below c.term_at.ensures c.in-Equals.is c.args.literal.now.below).1 _ (ap operands_of c.in-BvConcat.is)

pub returns : goal.returns
unfolding on_sides
returns c = let a = c.args in
    let claim = kept_term a.literal.now.kept c.in-Equals.r in
    c.slices_check.ensures
    ∙ sym (args_form c.term_at-2.ensures BvConcat (Listed _) (ap op_of c.in-BvConcat.is) (ap operands_of c.in-BvConcat.is) _)
    ∙ pair_form c.and_pair.ensures c.in-Some.is (λ u v. form (args_of (kind BvConcat) claim) (slices_verdict u v (sort_width (sort_of v))))
    ∙ sides c.term_at.ensures by_bitwise_slicing c.in-Equals.is
