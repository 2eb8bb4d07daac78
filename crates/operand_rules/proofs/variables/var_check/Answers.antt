use Rattle.theory.specs.Verdict.{held}
use Rattle.operand_rules.proofs.Numbers.{bits_end}
use Rattle.operand_rules.proofs.Sorts.{operand_told, is_bits}
use Rattle.operand_rules.proofs.variables.var_check.Goals as goal

pub returns : goal.returns
returns c = let p = c.requires in
    let a = c.args in
    is_bits _ (operand_told c.args.kept.now p.place c.sort_at.ensures c.in-Bv.is)
    (bits_end held a.kept.now p.claim _ c.get_term_bits.ensures c.compare_bits.ensures)
