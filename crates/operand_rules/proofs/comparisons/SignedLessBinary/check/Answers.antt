use mathlib.Core.Path.{sym, ap₂, ◌∙◌}
use Rattle.theory.specs.Circuit.{slt}
use Rattle.theory.specs.Verdict.{held}
use Rattle.theory.proofs.Natural.{slt_hom}
use Rattle.operand_rules.proofs.Numbers.{store_hom, ends}
use Rattle.operand_rules.proofs.comparisons.SignedLessBinary.check.Goals as goal

pub returns : goal.returns
returns c = λ s t h l.
    ends held c.args.kept.now c.requires.claimed _
    (c.slt.ensures ∙ ap₂ (slt _) h.bits l.bits ∙ sym (slt_hom (store_hom c.args.kept.now) _ _))
    c.compare.ensures
