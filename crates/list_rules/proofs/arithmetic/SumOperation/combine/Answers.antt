use mathlib.Core.Path.{sym, ap, ap₂, ◌∙◌}
use mathlib.Core.List.{map}
use Prim.Native.Nat.{ℕ}
use Rattle.theory.specs.Gates.{term_gates}
use Rattle.theory.specs.Circuit.{ripple_carry_adder}
use Rattle.theory.proofs.Natural.{adder_hom}
use Rattle.store.specs.Lookup.{gates}
use Rattle.store.specs.Kept.{kept_number}
use Rattle.operand_rules.proofs.Numbers.{store_hom}
use Rattle.list_rules.proofs.Lengths.{adder_shorter}
use Rattle.list_rules.proofs.arithmetic.SumOperation.combine.Goals as goal

pub returns : goal.returns
returns c = let k = c.args.kept.now in
    let h = store_hom k in
    let made = c.ripple_carry_adder-sum.ensures.bits_value in
    record {
      shorter = rw made (adder_shorter _ _ _ _);
      value = λ xs ys e d. made ∙ ap₂ (ripple_carry_adder _ _) e d
          ∙ sym (adder_hom h term_gates.false_gate xs ys ∙ ap (λ (b : ℕ). ripple_carry_adder (gates k.lookup) b (map (kept_number k) xs) (map (kept_number k) ys)) h.false_hom);
    }
