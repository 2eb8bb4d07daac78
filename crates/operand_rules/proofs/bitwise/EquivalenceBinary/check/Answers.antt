use mathlib.Core.Path.{sym, ap₂, ◌∙◌}
use Rattle.theory.specs.Circuit.{zip_with}
use Rattle.theory.proofs.Natural.{zip_with_hom}
use Rattle.theory.specs.Verdict.{held}
use Rattle.operand_rules.proofs.Numbers.{store_hom, bits_end}
use Rattle.operand_rules.proofs.bitwise.EquivalenceBinary.check.Goals as goal

pub returns : goal.returns
returns c = let k = c.args.kept.now in
    let h = store_hom k in
    λ s t e d. bits_end held k c.requires.claimed _
    (c.eqs.ensures ∙ ap₂ (zip_with _) e.bits d.bits ∙ sym (zip_with_hom h _ _ h.eq_hom _ _))
    c.compare_bits.ensures
