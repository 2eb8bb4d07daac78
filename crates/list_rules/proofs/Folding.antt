-- The loop that folds an operation's circuit over its arguments.
use mathlib.Core.Path.{◌≡◌, sym, ap, subst, ◌∙◌}
use mathlib.Core.List.{List, [], ◌∷◌, map, foldl}
use Prim.Native.Nat.{ℕ, suc, ◌<◌}
use native.Mathlib.Omega.{arith}
use lib.ListN.{length, get_or}
use Rattle.theory.specs.Term.{Term}
use Rattle.theory.specs.Bits.{get_term_bits}
use Rattle.terms.specs.declared.Args.{Args}
use Rattle.terms.proofs.Lists.{words_in_length}
use Rattle.store.specs.declared.gates.Kept.{Kept}
use Rattle.store.specs.Kept.{kept_term, kept_number, words_of}
use Rattle.operand_rules.specs.Rules.{Operand}
use Rattle.list_rules.specs.Lists.{Alike, next_bits, folded_bits}

-- ---- the loop: bs are the bits of the arguments before those that are left
module _ (k : Kept) (circuit : List Term → List Term → List Term) (w : ℕ) where
  pub record Folding (ks bs left : List ℕ) : Type 0 where
    pub each : (i : ℕ) → i < length left → Operand k (get_or left i 0) w
    pub bits : List Term
    pub are : bs ≡ map (kept_number k) bits
    pub rest : foldl (next_bits circuit) bits (map (kept_term k) left) ≡ folded_bits circuit (map (kept_term k) ks)

-- the first argument
pub first_operand : {k : Kept} {a : Args} {w : ℕ} → Alike k a w → {x : ℕ} {others : List ℕ} → words_of k a ≡ x ∷ others → Operand k x w
first_operand {k} {w = w} given e = subst (λ (y : ℕ). Operand k y w) (ap (λ (ls : List ℕ). get_or ls 0 0) e) (given.each 0 given.some)

module _ {k : Kept} {circuit : List Term → List Term → List Term} {w : ℕ} where
  -- its bits
  pub fold_start : {a : Args} → Alike k a w → {x : ℕ} {others : List ℕ} → words_of k a ≡ x ∷ others → {bs left : List ℕ} → left ≡ others
      → bs ≡ map (kept_number k) (get_term_bits (kept_term k x)) → Folding k circuit w (words_of k a) bs left
  unfolding folded_bits
  fold_start {a} given {x} {others} e {bs} {left} d f = record {
    each = λ i h.
        let n = words_in_length k.lookup.job.now a in
        let m : length (words_of k a) ≡ suc (length left) = ap length e ∙ ap (λ (ls : List ℕ). suc (length ls)) (sym d) in
        subst (λ (y : ℕ). Operand k y w) (ap (λ (ls : List ℕ). get_or ls (suc i) 0) e ∙ ap (λ (ls : List ℕ). get_or ls i 0) (sym d)) (given.each (suc i) (omega (arith, n, m, h)));
    bits = get_term_bits (kept_term k x);
    are = f;
    rest = ap (λ (ls : List ℕ). foldl (next_bits circuit) (get_term_bits (kept_term k x)) (map (kept_term k) ls)) d
        ∙ sym (ap (λ (ls : List ℕ). folded_bits circuit (map (kept_term k) ls)) e);
  }

  module _ {ks bs left : List ℕ} (inv : Folding k circuit w ks bs left) where
    module _ {x : ℕ} {others : List ℕ} (e : left ≡ x ∷ others) where
      pub fold_operand : Operand k x w
      fold_operand = subst (λ (y : ℕ). Operand k y w) (ap (λ (ls : List ℕ). get_or ls 0 0) e) (inv.each 0 (let m = ap length e in omega (arith, m)))

      -- ds are the next one's
      pub fold_turn : {ds cs : List ℕ} → ds ≡ map (kept_number k) (get_term_bits (kept_term k x))
          → ((xs ys : List Term) → bs ≡ map (kept_number k) xs → ds ≡ map (kept_number k) ys → cs ≡ map (kept_number k) (circuit xs ys)) → Folding k circuit w ks cs others
      fold_turn f made = record {
        each = λ i h. subst (λ (y : ℕ). Operand k y w) (ap (λ (ls : List ℕ). get_or ls (suc i) 0) e) (inv.each (suc i) (let m = ap length e in omega (arith, m, h)));
        bits = circuit inv.bits (get_term_bits (kept_term k x));
        are = made _ _ inv.are f;
        rest = sym (ap (λ (ls : List ℕ). foldl (next_bits circuit) inv.bits (map (kept_term k) ls)) e) ∙ inv.rest;
      }

    -- no argument is left
    pub fold_end : left ≡ [] → bs ≡ map (kept_number k) (folded_bits circuit (map (kept_term k) ks))
    fold_end e = inv.are ∙ ap (map (kept_number k)) (sym (ap (λ (ls : List ℕ). foldl (next_bits circuit) inv.bits (map (kept_term k) ls)) e) ∙ inv.rest)
