-- The records of a job are its bytes, in order, up to where no whole record stands.
use mathlib.Core.Path.{◌≡◌, refl, ap, sym, subst, ◌∙◌}
use mathlib.Core.Bool.{Bool, true, false}
use mathlib.Core.List.{List, [], ◌∷◌, ◌++◌, append_assoc}
use Prim.Native.Nat.{ℕ, zero, suc, ◌+◌, ◌-◌, ◌≤◌}
use native.Mathlib.Omega.{arith}
use lib.Dec.{T, leb, leb→le}
use lib.Ieee.Fits.{and_l}
use lib.ListN.{length, take, drop, length-drop, length-append, take-append-drop}
use Rattle.theory.specs.Record.{Bytes, extent, whole, cut, records_of, total_length}

-- the bytes after the records
unfoldable pub rest : ℕ → Bytes → Bytes
rest zero bs = bs
rest (suc fuel) bs = elim (whole bs) [ true ↦ rest fuel (drop (extent bs) bs) | false ↦ bs ]

abbrev pub joined : List Bytes → Bytes
joined [] = []
joined (r ∷ rs) = r ++ joined rs

by_whole : (b : Bool) (x : List Bytes) (y z bs : Bytes) → joined x ++ y ≡ bs → z ≡ bs
    → joined (elim b as (λ w. List Bytes) [ true ↦ x | false ↦ [] ]) ++ elim b as (λ w. Bytes) [ true ↦ y | false ↦ z ] ≡ bs
by_whole true x y z bs p q = p
by_whole false x y z bs p q = q

pieces_from : (fuel : ℕ) (bs : Bytes) → joined (cut fuel bs) ++ rest fuel bs ≡ bs
unfolding cut rest
pieces_from zero bs = refl
pieces_from (suc fuel) bs =
    let n = extent bs in
    by_whole (whole bs) (take n bs ∷ cut fuel (drop n bs)) (rest fuel (drop n bs)) bs bs
    (append_assoc (take n bs) (joined (cut fuel (drop n bs))) (rest fuel (drop n bs))
    ∙ ap (λ (x : Bytes). take n bs ++ x) (pieces_from fuel (drop n bs)) ∙ take-append-drop n bs)
    refl

-- nothing is left out
pub pieces : (job : Bytes) → joined (records_of job) ++ rest (length job) job ≡ job
pieces job = pieces_from (length job) job

joined_length : (rs : List Bytes) → length (joined rs) ≡ total_length rs
joined_length [] = refl
joined_length (r ∷ rs) = length-append r (joined rs) ∙ ap (λ (n : ℕ). length r + n) (joined_length rs)

-- so the ending is 0 exactly where no byte is left
pub lengths : (job : Bytes) → total_length (records_of job) + length (rest (length job) job) ≡ length job
lengths job =
    ap (λ (n : ℕ). n + length (rest (length job) job)) (sym (joined_length (records_of job)))
    ∙ sym (length-append (joined (records_of job)) (rest (length job) job)) ∙ ap length (pieces job)

by_left : (b : Bool) (y z : Bytes) → (T (whole y) → ⊥) → (b ≡ false → T (whole z) → ⊥)
    → T (whole (elim b as (λ w. Bytes) [ true ↦ y | false ↦ z ])) → ⊥
by_left true y z p f t = p t
by_left false y z p f t = f refl t

left_from : (fuel : ℕ) (bs : Bytes) → length bs ≤ fuel → T (whole (rest fuel bs)) → ⊥
unfolding rest
left_from zero bs h = λ t. omega (arith, leb→le 2 (length bs) (and_l (leb 2 (length bs)) _ t))
left_from (suc fuel) bs h =
    let n = extent bs in
    by_left (whole bs) (rest fuel (drop n bs)) bs (left_from fuel (drop n bs) (let l : length (drop n bs) ≡ length bs - n = length-drop n bs in omega arith))
    (λ e t. subst T e t)

-- and what is left is no whole record
pub left_over : (job : Bytes) → T (whole (rest (length job) job)) → ⊥
left_over job = left_from (length job) job (omega arith)
