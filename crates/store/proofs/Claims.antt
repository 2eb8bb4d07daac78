-- A claim is a place of the list: comparing the expected term with it is comparing numbers.
use mathlib.Core.Path.{◌≡◌, refl, sym, ap, ap₂, ◌∙◌}
use mathlib.Core.Bool.{Bool, cond}
use mathlib.Core.List.{List, [], ◌∷◌, map}
use Prim.Native.Nat.{ℕ, zero, suc, ◌+◌, ◌<◌, ◌≤◌}
use native.Mathlib.Omega.{arith}
use lib.Dec.{T, ltb, ltb→lt, eqb, eqb→eq, eqb_refl}
use lib.Ieee.Fits.{and_l, and_r}
use lib.ListN.{length}
use mathlib.Core.Path.{subst}
use Rattle.theory.specs.Term.{Term, same_term}
use Rattle.theory.specs.Bits.{select}
use Rattle.theory.specs.Verdict.{Verdict, terms_differ}
use Rattle.theory.specs.Rule.{compare}
use Rattle.theory.specs.Plain.{Plain}
use Rattle.theory.specs.Codes.{all_below}
use Rattle.theory.proofs.Same.{same_eq, eq_same}
use Rattle.theory.proofs.Places.{tree_at}
use Rattle.theory.proofs.Distinct.{WellKept}
use Rattle.theory.proofs.Place.{tree_place}
use Rattle.store.specs.Numbers.{number, bit_number}
use Rattle.store.specs.Store.{records}
use Rattle.store.proofs.Lookup.{Few, number_of, bit_hom, number_exact}
use Rattle.theory.specs.Move.{bits}
use native.Mathlib.Nat.{add-zero, zero-add}
use Rattle.theory.proofs.Basics.{T_same}
use Rattle.theory.proofs.Indexed.{bits_same}

module _ {b : ℕ} (list : Plain) (w : WellKept b list) (few : Few b list) where
  -- a term of the list has its place as number
  pub own_number : (k : ℕ) → k < length list → number_of list w few (tree_at list k) ≡ k
  own_number k h = ap number (tree_place list w k h)

  pub own_numbers : (ks : List ℕ) → T (all_below (length list) ks) → map (number_of list w few) (map (tree_at list) ks) ≡ ks
  own_numbers [] h = refl
  own_numbers (k ∷ ks) h =
      ap₂ (λ (x : ℕ) (xs : List ℕ). x ∷ xs) (own_number k (ltb→lt k (length list) (and_l (ltb k (length list)) _ h)))
      (own_numbers ks (and_r (ltb k (length list)) _ h))

  -- the bits of a term that is no BvBbTerm, from bit i on
  selected : (x i k : ℕ) → x < length list → i + k ≤ 64
      → map (number_of list w few) (select (tree_at list x) i k) ≡ bits k (λ j. bit_number b (records list) (i + j) x)
  unfolding select
  selected x i zero h l = refl
  selected x i (suc k) h l =
      ap₂ (λ (y : ℕ) (ys : List ℕ). y ∷ ys)
      (bit_hom list w few i (omega arith) (tree_at list x) ∙ ap₂ (bit_number b (records list)) (sym (add-zero i)) (own_number x h))
      (selected x (suc i) k h (omega arith)
      ∙ bits_same k (λ j. bit_number b (records list) (suc i + j) x) (λ j. bit_number b (records list) (i + suc j) x)
      (λ j. ap (λ (m : ℕ). bit_number b (records list) m x) (let z : suc i + j ≡ i + suc j = omega arith in z)))

  pub select_numbers : (x k : ℕ) → x < length list → k ≤ 64 → map (number_of list w few) (select (tree_at list x) 0 k) ≡ bits k (λ i. bit_number b (records list) i x)
  select_numbers x k h l =
      selected x 0 k h (omega arith)
      ∙ bits_same k (λ j. bit_number b (records list) (0 + j) x) (λ j. bit_number b (records list) j x) (λ j. ap (λ (m : ℕ). bit_number b (records list) m x) (zero-add j))

  -- the last test of a rule, on numbers
  pub compare_number : (ok : Verdict) (expected : Term) (claim : ℕ) → claim < length list
      → compare ok expected (tree_at list claim) ≡ cond (eqb (number_of list w few expected) claim) ok terms_differ
  compare_number ok expected claim h =
      ap (λ (t : Bool). cond t ok terms_differ)
      (T_same (same_term expected (tree_at list claim)) (eqb (number_of list w few expected) claim)
      (λ t. subst (λ (k : ℕ). T (eqb k claim)) (sym ((number_exact list w few claim h expected).1 (sym (same_eq expected (tree_at list claim) t)))) (eqb_refl claim))
      (λ t. eq_same expected (tree_at list claim) (sym ((number_exact list w few claim h expected).0 (eqb→eq (number_of list w few expected) claim t)))))
