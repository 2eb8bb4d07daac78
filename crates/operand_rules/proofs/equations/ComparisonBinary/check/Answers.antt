use mathlib.Core.Path.{sym, ap, ap₂, ◌∙◌}
use mathlib.Core.List.{◌∷◌, []}
use Prim.Native.Nat.{ℕ}
use Rattle.theory.specs.Gates.{term_gates}
use Rattle.theory.specs.Bits.{get_term_bits}
use Rattle.theory.specs.Circuit.{equality}
use Rattle.theory.proofs.Natural.{equality_hom}
use Rattle.theory.specs.Verdict.{held, terms_differ}
use mathlib.Core.Bool.{cond}
use lib.Dec.{eqb}
use Rattle.operand_rules.proofs.Numbers.{store_hom, bits_end}
use Rattle.operand_rules.proofs.equations.ComparisonBinary.check.Goals as goal

pub returns : goal.returns
returns c = let k = c.args.kept.now in
    λ s t e d. bits_end held k c.requires.claimed (equality term_gates (get_term_bits s) (get_term_bits t) ∷ [])
    (ap (λ (n : ℕ). n ∷ []) (c.equality-bit.ensures ∙ ap₂ (equality _) e.bits d.bits ∙ sym (equality_hom (store_hom k) _ _)))
    (c.compare.ensures ∙ ap (λ (n : ℕ). cond (eqb n c.args.claim) held terms_differ) c.bb_term.ensures)
