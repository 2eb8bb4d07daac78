-- What stands in a term of a well-kept list is on the list, and where it stands.
use mathlib.Core.Path.{◌≡◌, refl, sym, subst, ◌∙◌}
use mathlib.Core.Bool.{Bool, true, false, ◌&&◌, cond}
use mathlib.Core.List.{List, [], ◌∷◌, map}
use Prim.Native.Nat.{ℕ, zero, suc, ◌≤◌, ◌<◌}
use native.Mathlib.Omega.{arith}
use lib.Dec.{T, ltb, eqb, ltb→lt}
use lib.Ieee.Fits.{and_l, and_r, and_i}
use lib.ListN.{length, take, drop}
use borrow.Author.Tests.{eq-eqb}
use Rattle.theory.specs.Limit.{first_terms}
use Rattle.theory.specs.Kind.{Op, True, False}
use Rattle.theory.specs.Term.{Term, node, nil, from_list, same_term}
use Rattle.theory.specs.Value.{Assign, value}
use Rattle.theory.specs.Record.{Bytes}
use Rattle.theory.specs.Plain.{Plain}
use Rattle.theory.specs.Claim.{element}
use Rattle.theory.specs.Codes.{all_below}
use Rattle.theory.specs.Places.{tree_at}
use Rattle.theory.specs.Listed.{WellKept}
use Rattle.theory.proofs.Basics.{true_T, or_left, or_right}
use Rattle.theory.proofs.Same.{same_eq, eq_same}
use Rattle.theory.proofs.Distinct.{tree_0, tree_1, kept_at}
use Rattle.sweeps.specs.Variables.{is_variable, stands, stands_any, variables, bits_in}
use Rattle.sweeps.specs.Known.{of_byte, input_of}
use Rattle.sweeps.specs.Claim.{AllTrue, value_bits, Fits}
use Rattle.sweeps.proofs.Standing.{stands_cases, any_cases, no_arguments}

-- u is at a place with property P, not above place k
pub record PlacedAt (list : Plain) (P : ℕ → Type 0) (k : ℕ) (u : Term) : Type 0 where
  pub place : ℕ
  pub low : place ≤ k
  pub is : tree_at list place ≡ u
  pub has : P place

-- P holds of the places of the arguments where it holds of the term's
module _ {b : ℕ} (list : Plain) (w : WellKept b list) (P : ℕ → Type 0)
    (closed : (q : ℕ) (h : first_terms ≤ q) (l : q < length list) → P q → (j : ℕ) → T (element j (kept_at list w q h l).args) → P j) where
  in_args : (u : Term) (ks : List ℕ) (m : ℕ) → T (all_below m ks)
      → ((j : ℕ) → j < m → T (element j ks) → T (stands u (tree_at list j)) → PlacedAt list P m u)
      → T (stands_any u (from_list (map (tree_at list) ks))) → PlacedAt list P m u
  in_args u [] m b f h = absurd (no_arguments u h)
  in_args u (k ∷ ks) m b f h =
      any_cases (PlacedAt list P m u) u (tree_at list k) (from_list (map (tree_at list) ks)) h
      (λ s. f k (ltb→lt k m (and_l (ltb k m) _ b)) (or_left (eqb k k) (element k ks) (true_T _ (eq-eqb k k refl))) s)
      (λ s. in_args u ks m (and_r (ltb k m) _ b) (λ j l e z. f j l (or_right (eqb j k) (element j ks) e) z) s)

  at_first : (q : ℕ) (o : Op) (u : Term) → P q → tree_at list q ≡ node o nil → T (stands u (tree_at list q)) → PlacedAt list P q u
  at_first q o u m e h =
      stands_cases (PlacedAt list P q u) u o nil (subst (λ (t : Term). T (stands u t)) e h)
      (λ f. record { place = q; low = omega arith; is = e ∙ sym f; has = m }) (λ s. absurd (no_arguments u s))

  at_below : (n q : ℕ) → q < n → q < length list → P q → (u : Term) → T (stands u (tree_at list q)) → PlacedAt list P q u
  at_below zero q h l m u s = absurd (omega arith)
  at_below (suc n) zero h l m u s = at_first 0 True u m (tree_0 list w) s
  at_below (suc n) (suc zero) h l m u s = at_first 1 False u m (tree_1 list w) s
  at_below (suc n) (suc (suc q)) h l m u s =
      let two : first_terms ≤ suc (suc q) = omega arith in
      let p = kept_at list w (suc (suc q)) two l in
      stands_cases (PlacedAt list P (suc (suc q)) u) u p.op (from_list (map (tree_at list) p.args)) (subst (λ (t : Term). T (stands u t)) p.made s)
      (λ f. record { place = suc (suc q); low = omega arith; is = p.made ∙ sym f; has = m })
      (λ a. in_args u p.args (suc (suc q)) p.below
      (λ j b e z. let r = at_below n j (omega arith) (omega arith) (closed (suc (suc q)) two l m j e) u z in
      record { place = r.place; low = omega (arith, r.low); is = r.is; has = r.has }) a)

  pub placed : (q : ℕ) → q < length list → P q → (u : Term) → T (stands u (tree_at list q)) → PlacedAt list P q u
  placed q l m u s = at_below (suc q) q (omega arith) l m u s

-- ---- the bytes of a variable
-- an assignment that fits has the bits that are said of each variable of the list
pub fits_input : (list : Plain) (t u : Term) (j : ℕ) → j < length list → tree_at list j ≡ u → T (is_variable u) → T (stands u t) → (bytes : Bytes) (ρ : Assign)
    → Fits (variables list t) bytes ρ → AllTrue (input_of (variables list t) bytes u) (value_bits (value ρ u))
fits_input [] t u j l e v s bytes ρ f = absurd (omega arith)
fits_input (d ∷ list) t u j l e v s bytes ρ f =
    go (λ i m g bs h. fits_input list t u i m g v s bs ρ h) (is_variable d.tree && stands d.tree t) refl j l e f
  where
    -- at the places of the rest
    Rest : Type 0
    Rest = (i : ℕ) → i < length list → tree_at list i ≡ u → (bs : Bytes) → Fits (variables list t) bs ρ
        → AllTrue (input_of (variables list t) bs u) (value_bits (value ρ u))

    later : Rest → (j : ℕ) → j < length (d ∷ list) → tree_at (d ∷ list) j ≡ u → (d.tree ≡ u → ⊥) → (bytes : Bytes) → Fits (variables list t) bytes ρ
        → AllTrue (input_of (variables list t) bytes u) (value_bits (value ρ u))
    later r zero l e n bytes f = absurd (n e)
    later r (suc j) l e n bytes f = r j (omega arith) e bytes f

    pick : Rest → (b : Bool) → (T (same_term u d.tree) → T b) → (T b → u ≡ d.tree) → (j : ℕ) → j < length (d ∷ list) → tree_at (d ∷ list) j ≡ u
        → AllTrue (map of_byte (take (bits_in d.tree) bytes)) (value_bits (value ρ d.tree)) × Fits (variables list t) (drop (bits_in d.tree) bytes) ρ
        → AllTrue (cond b (map of_byte (take (bits_in d.tree) bytes)) (input_of (variables list t) (drop (bits_in d.tree) bytes) u)) (value_bits (value ρ u))
    pick r true g h j l e f = subst (λ (x : Term). AllTrue (map of_byte (take (bits_in d.tree) bytes)) (value_bits (value ρ x))) (sym (h tt)) f.0
    pick r false g h j l e f = later r j l e (λ z. g (eq_same u d.tree (sym z))) (drop (bits_in d.tree) bytes) f.1

    go : Rest → (b : Bool) → is_variable d.tree && stands d.tree t ≡ b → (j : ℕ) → j < length (d ∷ list) → tree_at (d ∷ list) j ≡ u
        → Fits (cond b (d.tree ∷ variables list t) (variables list t)) bytes ρ
        → AllTrue (input_of (cond b (d.tree ∷ variables list t) (variables list t)) bytes u) (value_bits (value ρ u))
    go r true q j l e f = pick r (same_term u d.tree) (λ z. z) (same_eq u d.tree) j l e f
    go r false q j l e f =
        later r j l e
        (λ z. subst T q (and_i (is_variable d.tree) (stands d.tree t) (subst (λ (x : Term). T (is_variable x)) (sym z) v) (subst (λ (x : Term). T (stands x t)) (sym z) s)))
        bytes f
