-- What callers cite: how the promised lists, single rows and places hang together.
use mathlib.Core.Path.{◌≡◌, refl, sym, ap, subst, ◌∙◌}
use Rattle.std.specs.Prelude.{Option, unwrap_or}
use mathlib.Core.Bool.{Bool, true, false, true≢false, cond}
use mathlib.Core.List.{List, [], ◌∷◌}
use Prim.Native.Nat.{ℕ, zero, suc, ◌+◌, ◌^◌, ◌≤◌, ◌<◌}
use native.Mathlib.Nat.{not-suc-le-zero, le_of_suc-le-suc}
use native.Mathlib.Omega.{arith}
use lib.ListN.{get_or, length, length-replicate, replicate}
use Rattle.theory.specs.Limit.{first_terms}
use Rattle.theory.specs.Record.{Bytes, number_length}
use Rattle.terms.specs.Framing.{record_at}
use Rattle.rows.specs.Layout.{link_bytes, measure_at, missing, offset_at}
use Rattle.rows.specs.Rows.{kept_as, measures, place_from, place_of}
use Rattle.rows.proofs.RowLaws.{get_or_column, get_or_kept, same_refl, same_sound}
use Rattle.theory.specs.Term.{same_numbers}
use Rattle.table.specs.Promise.{Wiped}
use Rattle.table.specs.Buckets.{Table, TableAs, unless_missing}
use Rattle.table.proofs.BucketLaws.{told_number}
use Rattle.terms.proofs.Numbers.{short_length, long_length}

-- ---- the entries of the lists

module _ (nb : ℕ) (job work : Bytes) (n : ℕ) where
  pub kept_at : (k : ℕ) → k < n → get_or (kept_as nb job work n) k [] ≡ record_at job (offset_at nb work k)
  kept_at k h = get_or_kept nb job work n k h

  pub measures_at : (k : ℕ) → k < n → get_or (measures nb work n) k 0 ≡ measure_at nb work k
  unfolding measures
  measures_at k h = get_or_column (measure_at nb work) 0 n k h

-- ---- places

-- record x is entry `index` of the list, and p is its place
pub record Stands (x : Bytes) (rows : List Bytes) (first p : ℕ) : Type 0 where
  pub index : ℕ
  pub place : p ≡ first + index
  pub below : index < length rows
  pub equal : get_or rows index [] ≡ x

stands_from : (first : ℕ) (x : Bytes) (rows : List Bytes) → (place_from first x rows ≡ missing → ⊥) → Stands x rows first (place_from first x rows)
unfolding place_from
stands_from first x [] h = absurd (h refl)
stands_from first x (y ∷ ys) h = go (same_numbers x y) refl (stands_from (suc first) x ys)
  where
    go : (b : Bool) → same_numbers x y ≡ b → ((place_from (suc first) x ys ≡ missing → ⊥) → Stands x ys (suc first) (place_from (suc first) x ys))
        → Stands x (y ∷ ys) first (cond (same_numbers x y) first (place_from (suc first) x ys))
    go true e ih = rw e (record { index = 0; place = omega arith; below = omega arith; equal = sym (same_sound x y e) })
    go false e ih =
        let r : Stands x ys (suc first) (place_from (suc first) x ys) = ih (λ q. h (rw e q)) in
        rw e (record { index = suc r.index; place = omega (arith, r.place); below = omega (arith, r.below); equal = r.equal })

-- a place that is not missing is that of an equal record
pub place_stands : (x : Bytes) (rows : List Bytes) → (place_of x rows ≡ missing → ⊥) → Stands x rows first_terms (place_of x rows)
place_stands x rows h = stands_from first_terms x rows h

absent_from : (first : ℕ) (x : Bytes) (rows : List Bytes) → first + length rows ≤ missing → place_from first x rows ≡ missing
    → (k : ℕ) → k < length rows → get_or rows k [] ≡ x → ⊥
unfolding place_from
absent_from first x [] few e k h q = not-suc-le-zero h
absent_from first x (y ∷ ys) few e k h q = go (same_numbers x y) refl (absent_from (suc first) x ys (omega arith)) k h q
  where
    go : (b : Bool) → same_numbers x y ≡ b
        → (place_from (suc first) x ys ≡ missing → (k : ℕ) → k < length ys → get_or ys k [] ≡ x → ⊥)
        → (k : ℕ) → k < length (y ∷ ys) → get_or (y ∷ ys) k [] ≡ x → ⊥
    go true s ih k h q =
        let f : first ≡ missing = rw s at e in
        omega arith
    go false s ih zero h q = true≢false (sym (rw q (same_refl x)) ∙ s)
    go false s ih (suc k) h q = ih (rw s at e) k (le_of_suc-le-suc h) q

-- where the place is missing, no record is equal
pub place_absent : (x : Bytes) (rows : List Bytes) → first_terms + length rows ≤ missing → place_of x rows ≡ missing
    → (k : ℕ) → k < length rows → get_or rows k [] ≡ x → ⊥
place_absent x rows few e k h q = absent_from first_terms x rows few e k h q

-- ---- the job's own number length, which is two or four

module _ (job : Bytes) {r : ℕ} (own : r ≡ number_length job) where
  pub table_short : {work : Bytes} {n : ℕ} → r ≡ 2 → Table job work n → TableAs 2 job work n
  table_short {work} {n} e = subst (λ (b : ℕ). TableAs b job work n) (sym (short_length job own e))

  pub table_long : {work : Bytes} {n : ℕ} → (r ≡ 2 → ⊥) → Table job work n → TableAs 4 job work n
  table_long {work} {n} e = subst (λ (b : ℕ). TableAs b job work n) (sym (long_length job own e))

  -- a measure that its links hold
  pub fits_short : {m : ℕ} → r ≡ 2 → m < 256 ^ link_bytes (number_length job) → m < 256 ^ link_bytes 2
  fits_short {m} e = subst (λ (b : ℕ). m < 256 ^ link_bytes b) (sym (short_length job own e))

  pub fits_long : {m : ℕ} → (r ≡ 2 → ⊥) → m < 256 ^ link_bytes (number_length job) → m < 256 ^ link_bytes 4
  fits_long {m} e = subst (λ (b : ℕ). m < 256 ^ link_bytes b) (sym (long_length job own e))

  -- a place that was looked up in it
  module _ (place : ℕ → ℕ) {o : Option ℕ} {p : ℕ} (is : p ≡ unwrap_or o missing) where
    pub place_short : r ≡ 2 → o ≡ unless_missing (place 2) → p ≡ place (number_length job)
    place_short e told = told_number told is ∙ ap place (short_length job own e)

    pub place_long : (r ≡ 2 → ⊥) → o ≡ unless_missing (place 4) → p ≡ place (number_length job)
    place_long e told = told_number told is ∙ ap place (long_length job own e)

-- ---- wiping
-- a memory that is all zero, by its length before
pub zeros : (old : Bytes) {mid after : Bytes} → Wiped mid after → length after ≡ length old → after ≡ replicate (length old) 0
zeros old {mid} w l = w.all_zero ∙ ap (λ (n : ℕ). replicate n 0) (sym (length-replicate {A = ℕ} (length mid) 0) ∙ sym (ap length w.all_zero) ∙ l)
