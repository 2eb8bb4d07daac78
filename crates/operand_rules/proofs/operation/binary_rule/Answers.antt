use borrow.Author.Rules.{rules}
use mathlib.Core.Path.{sym, ◌∙◌}
use native.Mathlib.Omega.{arith}
use Rattle.theory.specs.Kind.{kind}
use Rattle.operand_rules.proofs.Forms.{no_case, no_form, two_form, of_sides, sides_below, two_given}
use Rattle.operand_rules.proofs.Numbers.{widths, operand_as, bits_length, operand_bits}
use Rattle.operand_rules.proofs.operation.binary_rule.Goals as goal

pub returns-in_default : goal.returns-in_default
returns-in_default g c = no_case c.term_at.ensures 9 (search rules) tt _

pub returns-in_default-operands : goal.returns-in_default-operands
returns-in_default-operands g c = of_sides c.term_at.ensures c.in-Equals.is _ (no_form c.term_at-2.ensures (kind g.B.Binary.kind) (c.operands.ensures.other c.in_default-operands.is) _)

pub width_at-w-requires : goal.width_at-w-requires
width_at-w-requires g c = let there = (sides_below c.term_at.ensures c.in-Equals.is c.args.literal.now.below).0 in
    let o = two_given c.args.literal.now.kept c.term_at-2.ensures there _ g.met.B.Binary.asks (c.operands.ensures.two _ _ c.in-Some.is) in
    o.0

pub get_term_bits-ys-requires : goal.get_term_bits-ys-requires
get_term_bits-ys-requires g c = let there = (sides_below c.term_at.ensures c.in-Equals.is c.args.literal.now.below).0 in
    let o = two_given c.args.literal.now.kept c.term_at-2.ensures there _ g.met.B.Binary.asks (c.operands.ensures.two _ _ c.in-Some.is) in
    operand_as o.1 c.width_at-w.ensures.value

pub check-requires-clause-some : goal.check-requires-clause-some
check-requires-clause-some g c = let there = (sides_below c.term_at.ensures c.in-Equals.is c.args.literal.now.below).0 in
    let o = two_given c.args.literal.now.kept c.term_at-2.ensures there _ g.met.B.Binary.asks (c.operands.ensures.two _ _ c.in-Some.is) in
    let xs = bits_length o.0 c.get_term_bits-xs.ensures in
    let ys = bits_length o.1 c.get_term_bits-ys.ensures in
    let w = widths o.0 in
    omega arith

pub check-requires-clause-alike : goal.check-requires-clause-alike
check-requires-clause-alike g c = let there = (sides_below c.term_at.ensures c.in-Equals.is c.args.literal.now.below).0 in
    let o = two_given c.args.literal.now.kept c.term_at-2.ensures there _ g.met.B.Binary.asks (c.operands.ensures.two _ _ c.in-Some.is) in
    let xs = bits_length o.0 c.get_term_bits-xs.ensures in
    let ys = bits_length o.1 c.get_term_bits-ys.ensures in
    omega arith

pub returns : goal.returns
returns g c = let two = c.operands.ensures.two _ _ c.in-Some.is in
    let there = (sides_below c.term_at.ensures c.in-Equals.is c.args.literal.now.below).0 in
    let o = two_given c.args.literal.now.kept c.term_at-2.ensures there _ g.met.B.Binary.asks two in
    of_sides c.term_at.ensures c.in-Equals.is _
    (c.check.ensures _ _ (operand_bits o.0 c.get_term_bits-xs.ensures) (operand_bits o.1 c.get_term_bits-ys.ensures)
    ∙ sym (two_form c.term_at-2.ensures g.B.Binary.kind _ _ two.0 two.1 _))
