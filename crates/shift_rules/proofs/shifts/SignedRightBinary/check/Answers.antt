use mathlib.Core.Path.{sym, ap, ◌∙◌}
use mathlib.Core.Bool.{Bool, cond}
use Rattle.theory.specs.Verdict.{Verdict, held, form_only}
use Rattle.theory.specs.Gates.{term_gates}
use Rattle.theory.specs.Circuit.{ashr}
use Rattle.theory.specs.Bits.{size_bits, shifted, get_term_bits}
use Rattle.theory.specs.Rule.{compare}
use Rattle.theory.proofs.Shift.{ashr_hom}
use Rattle.store.specs.Kept.{kept_term}
use Rattle.operand_rules.specs.Rules.{verdict_of}
use Rattle.operand_rules.proofs.Numbers.{store_hom, bits_end}
use Rattle.operand_rules.proofs.Sorts.{three}
use Rattle.shift_rules.proofs.shifts.SignedRightBinary.check.Goals as goal

pub returns : goal.returns
returns c = let k = c.args.kept.now in
    let standard = c.args.self.standard in
    λ s t e d. bits_end (verdict_of c.held_or_form_only.result) k c.requires.claimed _
    (c.ashr-bits.ensures ∙ three (ashr _ standard) (c.width_bits.ensures s e) e.bits d.bits ∙ sym (ashr_hom (store_hom k) standard (size_bits s) (get_term_bits s) (get_term_bits t)))
    c.compare_bits_as.ensures
    ∙ ap (λ (v : Verdict). compare v (shifted (ashr term_gates standard) s t) (kept_term k c.args.claim)) (c.held_or_form_only.ensures ∙ ap (λ (b : Bool). cond b held form_only) (c.is_held.ensures k s e))
