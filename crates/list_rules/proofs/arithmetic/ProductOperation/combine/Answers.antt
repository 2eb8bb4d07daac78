use mathlib.Core.Path.{sym, ap₂, ◌∙◌}
use Rattle.theory.specs.Circuit.{shift_add_multiplier}
use Rattle.theory.proofs.Multiplier.{multiplier_hom}
use Rattle.operand_rules.proofs.Numbers.{store_hom}
use Rattle.list_rules.proofs.Lengths.{multiplier_shorter}
use Rattle.list_rules.proofs.arithmetic.ProductOperation.combine.Goals as goal

pub returns : goal.returns
returns c = record {
  shorter = rw c.shift_add_multiplier.ensures (multiplier_shorter _ _ _);
  value = λ xs ys e d. c.shift_add_multiplier.ensures ∙ ap₂ (shift_add_multiplier _) e d ∙ sym (multiplier_hom (store_hom c.args.kept.now) xs ys);
}
