use mathlib.Core.Path.{sym, ap₂, ◌∙◌}
use Rattle.theory.specs.Circuit.{zip_with}
use Rattle.theory.proofs.Natural.{zip_with_hom}
use Rattle.operand_rules.proofs.Numbers.{store_hom}
use Rattle.list_rules.proofs.Lengths.{zip_shorter}
use Rattle.list_rules.proofs.bitwise.ConjunctionOperation.combine.Goals as goal

pub returns : goal.returns
returns c = let h = store_hom c.args.kept.now in
    record {
      shorter = rw c.ands.ensures (zip_shorter _ _ _);
      value = λ xs ys e d. c.ands.ensures ∙ ap₂ (zip_with _) e d ∙ sym (zip_with_hom h _ _ h.and_hom xs ys);
    }
