use mathlib.Core.Path.{◌≡◌, sym, ap, ◌∙◌}
use Prim.Native.Nat.{ℕ}
use native.Mathlib.Omega.{arith}
use Rattle.std.specs.Option.{unwrap_or}
use Rattle.std.proofs.lemmas.Option.{unwrap_or-slice_get}
use Rattle.theory.specs.Kind.{True}
use Rattle.theory.specs.Term.{node, nil}
use Rattle.theory.specs.Bits.{get_term_bits}
use Rattle.theory.specs.Circuit.{last}
use Rattle.theory.proofs.Indexed.{cond_false}
use Rattle.theory.proofs.NonNegative.{ends_bits}
use Rattle.theory.proofs.Slices.{last_map}
use Rattle.store.specs.Numbers.{is_false_number}
use Rattle.theory.proofs.Distinct.{tree_0}
use Rattle.store.specs.declared.gates.Kept.{Kept}
use Rattle.store.proofs.Keeping.{store_of}
use Rattle.store.proofs.Lookup.{number_exact}
use Rattle.store.specs.Kept.{kept_number, kept_terms}
use Rattle.circuits.proofs.AppendLaws.{top_bit}
use Rattle.operand_rules.proofs.Numbers.{false_test, few, there}
use Rattle.shift_rules.proofs.shifts.SignedRight.is_held.Goals as goal

-- the term `true` has the number 0
true_kept : (k : Kept) → kept_number k (node True nil) ≡ 0
true_kept k = (number_exact (kept_terms k) (store_of k).well (few k) 0 (there k (omega arith)) (node True nil)).1 (tree_0 (kept_terms k) (store_of k).well)

-- the test on the top bit's number is theory's on the term
pub returns-else-self : goal.returns-else-self
returns-else-self c = λ k t e.
    let top = c.unwrap_or.ensures ∙ ap (λ o. unwrap_or o 0) (c.copied.ensures ∙ c.last.ensures.value) ∙ unwrap_or-slice_get c.deref.result.now _ 0 ∙ top_bit 0 c.deref.result.now ∙ ap (last 0) c.deref.ensures.0 in
    sym (cond_false _ _ c.if-self.false
    ∙ ends_bits t ∙ false_test k (last (node True nil) (get_term_bits t))
    ∙ ap is_false_number (last_map (kept_number k) (node True nil) (get_term_bits t) ∙ ap (last (kept_number k (node True nil))) (sym e.bits) ∙ ap (λ (d : ℕ). last d c.args.x.now.items) (true_kept k) ∙ sym top))
