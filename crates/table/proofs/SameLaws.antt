-- `all` over the pairs of two slices, from the last down, with a test of whether a pair is one number twice.
use mathlib.Core.Path.{◌≡◌, refl, sym, ap, subst, ◌∙◌}
use mathlib.Core.Bool.{Bool, true, false}
use mathlib.Core.Logic.{◌⊎◌, inl, inr}
use mathlib.Core.List.{List, [], ◌∷◌, ◌++◌, append_assoc}
use Prim.Native.Nat.{ℕ}
use native.Mathlib.Decide.{ℕ_discrete}
use native.Mathlib.Omega.{arith}
use denote.Param.Members.{Mut}
use lib.Dec.{eqb}
use lib.ListN.{get_or, length, length-append}
use borrow.Author.Tests.{eq-eqb, ne_eqb}
use Rattle.std.proofs.Common.{Iter}
use Rattle.std.specs.Prelude.{Option, None as none, Some as some}
use Rattle.std.specs.Borrow.{Bor}
use Rattle.std.specs.Fn.{Called}
use Rattle.std.specs.Iterator.{Yields, ChecksAll}
use Rattle.std.specs.List.{FoldsTo, push}
use Rattle.std.specs.Option.{MatchOption}
use Rattle.std.specs.declared.iter.Rev.{Rev}
use Rattle.std.specs.declared.iter.Zip.{Zip}
use Rattle.theory.specs.Record.{Bytes}
use Rattle.theory.specs.Term.{same_numbers}
use Rattle.rows.proofs.RowLaws.{same_differ, same_equal}

abbrev pub Side : Type 0
Side = Rev (Iter ℕ)

abbrev pub Pairs : Type 0
Pairs = Zip Side Side

-- a side gives its last number
abbrev pub side : Side → Option (Bor ℕ) → Side → Type 0
side s r t = MatchOption r ((length s.iter.rest.now ≡ 0) × (t.iter ≡ s.iter)) (λ x. s.iter.rest.now ≡ push t.iter.rest.now x.now)

-- both do
abbrev pub pairs : Pairs → Option (Bor ℕ × Bor ℕ) → Pairs → Type 0
pairs s r t = MatchOption r (((u : Side) × side s.a none u) ⊎ ((u : Side) × side s.b none u)) (λ p. side s.a (some p.0) t.a × side s.b (some p.1) t.b)

-- what is left on both sides stood before the same numbers
pub record Left (x y : Bytes) (s : Pairs) : Type 0 where
  pub after : Bytes
  pub first_is : x ≡ s.a.iter.rest.now ++ after
  pub second_is : y ≡ s.b.iter.rest.now ++ after

no_more : (l : Bytes) → length l ≡ 0 → l ≡ []
no_more [] e = refl
no_more (x ∷ l) e = absurd (omega arith)

here : (l : Bytes) (p : ℕ) (after : Bytes) → get_or (l ++ (p ∷ after)) (length l) 0 ≡ p
here [] p after = refl
here (x ∷ l) p after = here l p after

module _ {x y : Bytes} {s : Pairs} (w : Left x y s) (l m : Bytes) (p q : ℕ) (a : s.a.iter.rest.now ≡ push l p) (b : s.b.iter.rest.now ≡ push m q) where
  first_at : x ≡ l ++ (p ∷ w.after)
  first_at = w.first_is ∙ ap (λ (z : Bytes). z ++ w.after) a ∙ append_assoc l (p ∷ []) w.after

  second_at : y ≡ m ++ (q ∷ w.after)
  second_at = w.second_is ∙ ap (λ (z : Bytes). z ++ w.after) b ∙ append_assoc m (q ∷ []) w.after

  differs : (p ≡ q → ⊥) → x ≡ y → ⊥
  differs d e =
      let f : l ++ (p ∷ w.after) ≡ m ++ (q ∷ w.after) = sym first_at ∙ e ∙ second_at in
      let n : length l ≡ length m = omega (arith, ap length f, length-append l (p ∷ w.after), length-append m (q ∷ w.after)) in
      d (sym (here l p w.after) ∙ ap (λ (z : Bytes). get_or z (length l) 0) f ∙ ap (λ (i : ℕ). get_or (m ++ (q ∷ w.after)) i 0) n ∙ here m q w.after)

module _ (g : Mut (Unit {0}) ((Bor ℕ × Bor ℕ) × Unit {0}) Bool) where
  abbrev pub Tests : Type 0
  Tests = (x : Bor ℕ × Bor ℕ) (p : Unit {0}) (b : Bool) (q : Unit {0}) → Called g p (x, tt) b q → b ≡ eqb x.0.now x.1.now

equal_numbers : (p q : ℕ) → true ≡ eqb p q → p ≡ q
equal_numbers p q e = go (ℕ_discrete p q)
  where
    go : Dec (p ≡ q) → p ≡ q
    go (yes i) = i
    go (no d) = let z : true ≡ false = e ∙ ne_eqb p q d in cc

module _ {g : Mut (Unit {0}) ((Bor ℕ × Bor ℕ) × Unit {0}) Bool} (k : Tests g) (x y : Bytes) where
  compared : (xs : List (Bor ℕ × Bor ℕ)) {s t : Pairs} {f q : Unit {0}} → Left x y s → Yields pairs s xs t → FoldsTo (λ p x q. Called g p (x, tt) true q) f xs q → Left x y t
  compared [] w v e = subst (Left x y) v w
  compared (z ∷ xs) w (j, v, u) (p, c, e) =
      let same : z.0.now ≡ z.1.now = equal_numbers _ _ (k z _ true p c) in
      compared xs (record { after = z.0.now ∷ w.after; first_is = first_at w _ _ _ _ v.0 v.1; second_is = second_at w _ _ _ _ v.0 v.1 ∙ ap (λ (n : ℕ). j.b.iter.rest.now ++ (n ∷ w.after)) (sym same) }) u e

  pub checked : {r : Bool} {s : Pairs} (u : Pairs) → length x ≡ length y → Left x y s → ChecksAll pairs g s tt r u → r ≡ same_numbers y x
  checked u n w (xs, none, q, (t, v, z), e, h) =
      let l = compared xs w v e in
      let a : length t.a.iter.rest.now ≡ length t.b.iter.rest.now = omega (arith, n, ap length l.first_is, ap length l.second_is, length-append t.a.iter.rest.now l.after, length-append t.b.iter.rest.now l.after) in
      let b : length t.a.iter.rest.now ≡ 0 = elim z [ inl i ↦ i.1.0 | inr i ↦ a ∙ i.1.0 ] in
      h ∙ sym (same_equal (l.second_is ∙ ap (λ (i : Bytes). i ++ l.after) (no_more _ (sym a ∙ b) ∙ sym (no_more _ b)) ∙ sym l.first_is))
  checked u n w (xs, some z, q, (t, v, m), e, (h, (p, c))) =
      let l = compared xs w v e in
      let d = k z q false p c in
      h ∙ sym (same_differ _ _ (λ i. differs l _ _ _ _ m.0 m.1 (λ same. let o : false ≡ true = d ∙ eq-eqb z.0.now z.1.now same in cc) (sym i)))
