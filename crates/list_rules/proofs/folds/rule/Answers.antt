use borrow.Author.Rules.{rules}
use mathlib.Core.Path.{sym, ◌∙◌}
use Rattle.theory.specs.Kind.{kind}
use Rattle.terms.specs.declared.Operands.TheVariants.{List as Listed}
use Rattle.operand_rules.proofs.Forms.{no_case, no_form, args_form, of_sides, sides_below}
use Rattle.list_rules.proofs.Literals.{many_given}
use Rattle.list_rules.proofs.folds.rule.Goals as goal

pub returns-in_default : goal.returns-in_default
returns-in_default g c = no_case c.term_at.ensures 9 (search rules) tt _

pub returns-in_default-arguments : goal.returns-in_default-arguments
returns-in_default-arguments g c = of_sides c.term_at.ensures c.in-Equals.is _ (no_form c.term_at-2.ensures (kind g.O.Operation.kind) (c.arguments.ensures.other c.in_default-arguments.is) _)

pub folded_check-requires : goal.folded_check-requires
folded_check-requires g c = let list = c.arguments.ensures.list _ c.in-Some.is in
    let b = sides_below c.term_at.ensures c.in-Equals.is c.args.literal.now.below in
    many_given g.O.Operation.kind g.met.O.Operation.takes g.met.O.Operation.asks c.args.literal.now.kept c.term_at-2.ensures b.0 _ list.0 list.1 b.1

pub returns : goal.returns
returns g c = let list = c.arguments.ensures.list _ c.in-Some.is in
    of_sides c.term_at.ensures c.in-Equals.is _ (c.folded_check.ensures ∙ sym (args_form c.term_at-2.ensures g.O.Operation.kind (Listed _) list.0 list.1 _))
