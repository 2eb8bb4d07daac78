-- The records of a job, iterated over, and the place of one among those of terms.
use mathlib.Core.Path.{◌≡◌, refl, sym, ap, subst, ◌∙◌}
use mathlib.Core.Bool.{Bool, true, false, not, cond}
use mathlib.Core.List.{List, [], ◌∷◌}
use Rattle.std.specs.Prelude.{Option, None as none, Some as some, IfSome, option_map}
use Prim.Native.Nat.{ℕ, zero, suc, ◌+◌, ◌<◌, ◌≤◌}
use native.Mathlib.Omega.{arith}
use lib.Dec.{eqb}
use lib.ListN.{length, take, drop}
use Rattle.std.specs.Cmp.Lexicographic.{pointwise}
use Rattle.std.specs.List.{filter, position, position_from}
use Rattle.std.proofs.lemmas.Iterator.Adapters.{position_from-zero}
use Rattle.theory.specs.Record.{Bytes, whole, extent, cut, records_of, kind_of, step_kind}
use Rattle.theory.proofs.Positions.{records_whole, records_broken}
use Rattle.terms.specs.Framing.{frame_of}
use Rattle.terms.proofs.Reading.{broken_learnt, whole_learnt}
use Rattle.text.specs.Writing.{terms_of, kept, place_from}
use Rattle.text.proofs.Records.{stands}
use Rattle.words.proofs.WordLaws.{same_said}

-- ---- the first record
module _ (bs : Bytes) {f : Option ℕ} (e : f ≡ frame_of bs) where
  pub none_left : f ≡ none → records_of bs ≡ []
  none_left d = records_broken bs (broken_learnt bs (sym d ∙ e))

  module _ {size : ℕ} (d : f ≡ some size) where
    learnt : (whole bs ≡ true) × (size ≡ extent bs)
    learnt = whole_learnt bs (sym d ∙ e)

    pub first_inside : size ≤ length bs
    first_inside = let s = stands bs learnt.0 in let a = s.all in let q = learnt.1 in omega arith

    pub first_left : records_of bs ≡ take size bs ∷ records_of (drop size bs)
    first_left = records_whole bs learnt.0 ∙ ap (λ (n : ℕ). take n bs ∷ records_of (drop n bs)) (sym learnt.1)

-- each record takes a byte
cut_few : (fuel : ℕ) (bs : Bytes) → length (cut fuel bs) ≤ fuel
unfolding cut
cut_few zero bs = omega arith
cut_few (suc fuel) bs = go (whole bs) (cut_few fuel (drop (extent bs) bs))
  where
    go : (b : Bool) → length (cut fuel (drop (extent bs) bs)) ≤ fuel
        → length (elim b as (λ x. List Bytes) [ true ↦ take (extent bs) bs ∷ cut fuel (drop (extent bs) bs) | false ↦ [] ]) ≤ suc fuel
    go true h = omega arith
    go false h = omega arith

pub records_few : (bs : Bytes) → length (records_of bs) ≤ length bs
records_few bs = cut_few (length bs) bs

pub bound_of : (r : Option ℕ) {n : ℕ} → IfSome r (λ i. i < n) → {i : ℕ} → r ≡ some i → i < n
bound_of r {n} h e = subst (λ (r : Option ℕ). IfSome r (λ i. i < n)) e h

-- ---- the records of terms, and the place of one among them
abbrev pub is_term : Bytes → Bool
is_term r = not (eqb (kind_of r) step_kind)

filtered : (rs : List Bytes) → filter is_term rs ≡ terms_of rs
filtered [] = refl
filtered (r ∷ rs) = go (eqb (kind_of r) step_kind) (filtered rs)
  where
    go : (b : Bool) → filter is_term rs ≡ terms_of rs
        → cond (not b) (r ∷ filter is_term rs) (filter is_term rs) ≡ elim b as (λ x. List Bytes) [ true ↦ terms_of rs | false ↦ r ∷ terms_of rs ]
    go true ih = ih
    go false ih = ap (λ (x : List Bytes). r ∷ x) ih

module _ (first : ℕ) (w : Bytes) where
  abbrev counted : Option ℕ → Option ℕ
  counted r = option_map (λ i. first + i) r

  placed_at : (i : ℕ) (rs : List Bytes) → counted (position_from (pointwise eqb w) i rs) ≡ place_from (first + i) w rs
  placed_at i [] = refl
  placed_at i (r ∷ rs) = go (pointwise eqb w r) refl (placed_at (i + 1) rs)
    where
      go : (b : Bool) → pointwise eqb w r ≡ b → counted (position_from (pointwise eqb w) (i + 1) rs) ≡ place_from (first + (i + 1)) w rs
          → counted (cond b (some i) (position_from (pointwise eqb w) (i + 1) rs)) ≡ place_from (first + i) w (r ∷ rs)
      go true e ih =
          sym (ap (λ (t : Bool). elim t as (λ x. Option ℕ) [ true ↦ some (first + i) | false ↦ place_from (suc (first + i)) w rs ]) (same_said w r (sym e)))
      go false e ih =
          let q : first + (i + 1) ≡ suc (first + i) = omega arith in
          ih ∙ ap (λ (j : ℕ). place_from j w rs) q
          ∙ sym (ap (λ (t : Bool). elim t as (λ x. Option ℕ) [ true ↦ some (first + i) | false ↦ place_from (suc (first + i)) w rs ]) (same_said w r (sym e)))

  -- what `position` gave
  module _ (job : Bytes) (r : Option ℕ) (is : r ≡ position (pointwise eqb w) (filter is_term (records_of job))) where
    found : counted r ≡ place_from first w (kept job)
    unfolding kept
    found =
        let z : first + 0 ≡ first = omega arith in
        ap counted (is ∙ ap (position (pointwise eqb w)) (filtered (records_of job)) ∙ position_from-zero (pointwise eqb w) (terms_of (records_of job)))
        ∙ placed_at 0 (terms_of (records_of job)) ∙ ap (λ (j : ℕ). place_from j w (terms_of (records_of job))) z

    pub none_placed : r ≡ none → none ≡ place_from first w (kept job)
    none_placed e = sym (ap counted e) ∙ found

    pub one_placed : {i : ℕ} → r ≡ some i → some (first + i) ≡ place_from first w (kept job)
    one_placed e = sym (ap counted e) ∙ found
