use borrow.Author.Rules.{rules}
use Rattle.operand_rules.proofs.Forms.{not_kind}
use Rattle.operand_rules.proofs.Numbers.{widths, selected, argued}
use Rattle.operand_rules.proofs.bits.get_term_bits.Goals as goal

pub select_bits-requires : goal.select_bits-requires
select_bits-requires c = (widths c.requires).1

pub returns-in_default : goal.returns-in_default
returns-in_default c = selected c.requires c.term_at.ensures (not_kind 12 c.term_at.result (search rules) tt) c.select_bits.ensures

pub returns : goal.returns
returns c = argued c.requires c.term_at.ensures c.in-BvBbTerm.is c.argument_bits.ensures
