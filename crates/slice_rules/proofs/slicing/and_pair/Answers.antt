use borrow.Author.Rules.{rules}
use mathlib.Core.Path.{ap}
use Rattle.terms.specs.Decoded.{op_of, operands_of}
use Rattle.slice_rules.proofs.SliceLaws.{not_and, not_two, and_two}
use Rattle.slice_rules.proofs.slicing.and_pair.Goals as goal

pub returns-in_default : goal.returns-in_default
returns-in_default c = not_and c.args.kept.now c.term_at.ensures (search rules)

pub returns-then-list-ne2 : goal.returns-then-list-ne2
returns-then-list-ne2 c = not_two c.args.kept.now c.term_at.ensures (ap op_of c.in-BvAnd.is) (ap operands_of c.in-BvAnd.is) c.if-list-ne2.true

pub returns : goal.returns
returns c = and_two c.args.kept.now c.term_at.ensures c.requires (ap op_of c.in-BvAnd.is) (ap operands_of c.in-BvAnd.is) c.if-list-ne2.false
    c.argument-x.ensures c.argument-y.ensures
