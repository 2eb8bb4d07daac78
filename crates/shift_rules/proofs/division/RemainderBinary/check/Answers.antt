use mathlib.Core.Path.{sym, ap, ap₂, ◌∙◌}
use Rattle.theory.specs.Verdict.{Verdict}
use Rattle.theory.specs.Gates.{term_gates}
use Rattle.theory.specs.Bits.{literally_false, divided}
use Rattle.theory.specs.Circuit.{urem}
use Rattle.theory.specs.Rule.{compare}
use Rattle.theory.proofs.Divider.{urem_hom}
use Rattle.store.specs.Numbers.{is_false_number}
use Rattle.store.specs.Kept.{kept_term}
use Rattle.operand_rules.specs.Rules.{verdict_of}
use Rattle.operand_rules.proofs.Numbers.{false_test, store_hom, bits_end}
use Rattle.shift_rules.proofs.division.RemainderBinary.check.Goals as goal

pub returns : goal.returns
returns c = let k = c.args.kept.now in
    let standard = c.args.self.standard in
    λ s t e d. bits_end (verdict_of c.held_or_form_only.result) k c.requires.claimed _
    (c.urem-bits.ensures ∙ ap₂ (urem _ standard is_false_number) e.bits d.bits ∙ sym (urem_hom (store_hom k) standard literally_false is_false_number (false_test k) _ _))
    c.compare_bits_as.ensures
    ∙ ap (λ (v : Verdict). compare v (divided (urem term_gates standard) s t) (kept_term k c.args.claim)) c.held_or_form_only.ensures
