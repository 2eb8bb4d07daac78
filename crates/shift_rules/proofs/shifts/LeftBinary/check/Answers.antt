use mathlib.Core.Path.{sym, ◌∙◌}
use Rattle.theory.specs.Verdict.{held}
use Rattle.theory.specs.Circuit.{shl}
use Rattle.theory.specs.Bits.{size_bits}
use Rattle.theory.proofs.Shift.{shl_hom}
use Rattle.operand_rules.proofs.Numbers.{store_hom, bits_end}
use Rattle.operand_rules.proofs.Sorts.{three}
use Rattle.shift_rules.proofs.shifts.LeftBinary.check.Goals as goal

pub returns : goal.returns
returns c = let k = c.args.kept.now in
    λ s t e d. bits_end held k c.requires.claimed _
    (c.shl-bits.ensures ∙ three (shl _) (c.width_bits.ensures s e) e.bits d.bits ∙ sym (shl_hom (store_hom k) (size_bits s) _ _))
    c.compare_bits.ensures
