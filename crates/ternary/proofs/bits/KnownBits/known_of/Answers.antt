use Rattle.ternary.proofs.KnownLaws.{known_asked, bit_asked, known_true, known_false, known_variable, known_not, known_and, known_or, known_xor, known_equals, known_ite, known_bit, known_none}
use Rattle.ternary.proofs.bits.KnownBits.known_of.Goals as goal

pub bit_on-requires : goal.bit_on-requires
bit_on-requires c = let q = bit_asked (known_asked c.args.self.now c.requires.low c.requires.marked c.requires.bool_there) c.term_on.ensures _ _ c.in-BvBitOf.is in record { low = q.low; marked = q.marked; bit = q.bit_low }

pub returns-in-True : goal.returns-in-True
returns-in-True c = known_true (known_asked c.args.self.now c.requires.low c.requires.marked c.requires.bool_there) c.term_on.ensures c.in-True.is

pub returns-in-False : goal.returns-in-False
returns-in-False c = known_false (known_asked c.args.self.now c.requires.low c.requires.marked c.requires.bool_there) c.term_on.ensures c.in-False.is

pub returns-in-BoolVar : goal.returns-in-BoolVar
returns-in-BoolVar c = known_variable (known_asked c.args.self.now c.requires.low c.requires.marked c.requires.bool_there) c.term_on.ensures _ c.in-BoolVar.is c.cell.ensures c.input_bit.ensures

pub returns-in-Not : goal.returns-in-Not
returns-in-Not c = known_not (known_asked c.args.self.now c.requires.low c.requires.marked c.requires.bool_there) c.term_on.ensures _ c.in-Not.is c.bit_in.ensures c.not_bit.ensures

pub returns-in-And : goal.returns-in-And
returns-in-And c = known_and (known_asked c.args.self.now c.requires.low c.requires.marked c.requires.bool_there) c.term_on.ensures _ c.in-And.is c.row.ensures

pub returns-in-Or : goal.returns-in-Or
returns-in-Or c = known_or (known_asked c.args.self.now c.requires.low c.requires.marked c.requires.bool_there) c.term_on.ensures _ c.in-Or.is c.row-in-Or.ensures

pub returns-in-Xor : goal.returns-in-Xor
returns-in-Xor c = known_xor (known_asked c.args.self.now c.requires.low c.requires.marked c.requires.bool_there) c.term_on.ensures _ _ c.in-Xor.is c.bit_in-in-Xor.ensures c.bit_in-in-Xor-2.ensures c.xor_bit.ensures

pub returns-in-Equals : goal.returns-in-Equals
returns-in-Equals c = known_equals (known_asked c.args.self.now c.requires.low c.requires.marked c.requires.bool_there) c.term_on.ensures _ _ c.in-Equals.is c.bit_in-in-Equals.ensures c.bit_in-in-Equals-2.ensures c.equal_bit.ensures

pub returns-in-Ite : goal.returns-in-Ite
returns-in-Ite c = known_ite (known_asked c.args.self.now c.requires.low c.requires.marked c.requires.bool_there) c.term_on.ensures _ _ _ c.in-Ite.is c.bit_in-in-Ite.ensures c.bit_in-in-Ite-2.ensures c.bit_in-in-Ite-3.ensures c.ite_bit.ensures

pub returns-in-BvBitOf : goal.returns-in-BvBitOf
returns-in-BvBitOf c = known_bit (known_asked c.args.self.now c.requires.low c.requires.marked c.requires.bool_there) c.term_on.ensures _ _ c.in-BvBitOf.is c.bit_on.ensures

pub returns-in_default : goal.returns-in_default
returns-in_default c = let d = c.in_default in
    λ input sound own. absurd (known_none (known_asked c.args.self.now c.requires.low c.requires.marked c.requires.bool_there) c.term_on.ensures
    d.not-True d.not-False d.not-BoolVar d.not-Not d.not-And d.not-Or d.not-Xor d.not-Equals d.not-Ite d.not-BvBitOf)
