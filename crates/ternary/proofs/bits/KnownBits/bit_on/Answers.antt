use Rattle.ternary.proofs.BitLaws.{bit_asked, has_width, bit_never, row_inside, row_low, bit_row, bit_small, bit_const, bit_variable, bv_variable}
use Rattle.ternary.proofs.bits.KnownBits.bit_on.Goals as goal

pub argument-requires : goal.argument-requires
argument-requires c = record { inside = row_inside c.term_on.ensures _ c.in-BvBbTerm.is; below = row_low (bit_asked c.args.self.now c.requires.low c.requires.marked c.requires.bit) c.term_on.ensures _ c.in-BvBbTerm.is }

pub returns-in-BvVar : goal.returns-in-BvVar
returns-in-BvVar c = bit_variable (bit_asked c.args.self.now c.requires.low c.requires.marked c.requires.bit) (has_width c.sort_on.result _ c.sort_on.ensures c.eq.ensures c.if-eq.false) (bv_variable c.term_on.ensures _ _ c.in-BvVar.is) c.cell.ensures c.input_bit.ensures

pub returns-in-Const : goal.returns-in-Const
returns-in-Const c = bit_const (bit_asked c.args.self.now c.requires.low c.requires.marked c.requires.bit) c.term_on.ensures _ _ c.in-Const.is c.bit.ensures

pub bit-requires : goal.bit-requires
bit-requires c = bit_small (bit_asked c.args.self.now c.requires.low c.requires.marked c.requires.bit)

pub returns-in-BvBbTerm : goal.returns-in-BvBbTerm
returns-in-BvBbTerm c = bit_row (bit_asked c.args.self.now c.requires.low c.requires.marked c.requires.bit) c.term_on.ensures _ c.in-BvBbTerm.is c.argument.ensures c.bit_in-in-BvBbTerm.ensures

pub returns-in_default : goal.returns-in_default
returns-in_default c = λ input sound. absurd (bit_never (bit_asked c.args.self.now c.requires.low c.requires.marked c.requires.bit) c.term_on.ensures (has_width c.sort_on.result _ c.sort_on.ensures c.eq.ensures c.if-eq.false) c.in_default.not-BvVar c.in_default.not-Const c.in_default.not-BvBbTerm)
