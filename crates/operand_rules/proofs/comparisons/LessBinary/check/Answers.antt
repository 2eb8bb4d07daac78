use mathlib.Core.Path.{sym, ap₂, ◌∙◌}
use Rattle.theory.specs.Circuit.{bitblast_ult}
use Rattle.theory.specs.Verdict.{held}
use Rattle.theory.proofs.Natural.{ult_hom}
use Rattle.operand_rules.proofs.Numbers.{store_hom, ends}
use Rattle.operand_rules.proofs.comparisons.LessBinary.check.Goals as goal

pub returns : goal.returns
returns c = λ s t h l.
    ends held c.args.kept.now c.requires.claimed _
    (c.bitblast_ult.ensures ∙ ap₂ (bitblast_ult _) (c.deref.ensures.0 ∙ h.bits) (c.deref-2.ensures.0 ∙ l.bits) ∙ sym (ult_hom (store_hom c.args.kept.now) _ _))
    c.compare.ensures
