use mathlib.Core.Path.{sym, ap₂, ◌∙◌}
use Rattle.theory.specs.Circuit.{equality}
use Rattle.theory.specs.Verdict.{held}
use Rattle.theory.proofs.Natural.{equality_hom}
use Rattle.operand_rules.proofs.Numbers.{store_hom, ends}
use Rattle.operand_rules.proofs.Sorts.{operand_told, is_bits}
use Rattle.operand_rules.proofs.equations.equality_check.Goals as goal

pub returns : goal.returns
returns c = let p = c.requires in
    is_bits _ (operand_told c.args.kept.now p.left c.sort_at.ensures c.in-Bv.is)
    (ends held c.args.kept.now p.claimed _
    (c.equality.ensures ∙ ap₂ (equality _) c.get_term_bits-xs.ensures c.get_term_bits-ys.ensures ∙ sym (equality_hom (store_hom c.args.kept.now) _ _))
    c.compare.ensures)
