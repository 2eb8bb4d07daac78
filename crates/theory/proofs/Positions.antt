-- The records of what is left of a job, where a whole record stands next and where none does.
use mathlib.Core.Path.{◌≡◌, refl, ap, ◌∙◌}
use mathlib.Core.Bool.{Bool, true, false, cond}
use mathlib.Core.List.{List, [], ◌∷◌}
use Prim.Native.Nat.{ℕ, zero, suc, ◌-◌, ◌<◌, ◌≤◌}
use native.Mathlib.Omega.{arith}
use lib.ListN.{length, take, drop, length-drop}
use borrow.Author.Tests.{eq-eqb, ne_eqb}
use Rattle.theory.specs.Record.{Bytes, extent, whole, cut, records_of, total_length, ending}

by_whole : (b : Bool) (r : Bytes) {x y : List Bytes} → x ≡ y
    → ◌≡◌ {A = List Bytes} (elim b as (λ w. List Bytes) [ true ↦ r ∷ x | false ↦ [] ]) (elim b as (λ w. List Bytes) [ true ↦ r ∷ y | false ↦ [] ])
by_whole true r e = ap (λ (l : List Bytes). r ∷ l) e
by_whole false r e = refl

-- fuel that is enough makes no difference
same_cut : (f g : ℕ) (bs : Bytes) → length bs ≤ f → length bs ≤ g → cut f bs ≡ cut g bs
unfolding cut
same_cut zero zero bs h k = refl
same_cut zero (suc g) [] h k = refl
same_cut zero (suc g) (b ∷ bs) h k = absurd (omega arith)
same_cut (suc f) zero [] h k = refl
same_cut (suc f) zero (b ∷ bs) h k = absurd (omega arith)
same_cut (suc f) (suc g) bs h k =
    let n = extent bs in
    let l : length (drop n bs) ≡ length bs - n = length-drop n bs in
    by_whole (whole bs) (take n bs) (same_cut f g (drop n bs) (omega arith) (omega arith))

-- a whole record is the next
pub records_whole : (bs : Bytes) → whole bs ≡ true → records_of bs ≡ take (extent bs) bs ∷ records_of (drop (extent bs) bs)
unfolding cut
records_whole [] w = absurd (let z : ◌≡◌ {A = ℕ} 0 1 = cc in omega arith)
records_whole (b ∷ bs) w =
    let cs = b ∷ bs in
    let n = extent cs in
    let l : length (drop n cs) ≡ length cs - n = length-drop n cs in
    ap (λ (c : Bool). elim c as (λ x. List Bytes) [ true ↦ take n cs ∷ cut (length bs) (drop n cs) | false ↦ [] ]) w
    ∙ ap (λ (rs : List Bytes). take n cs ∷ rs) (same_cut (length bs) (length (drop n cs)) (drop n cs) (omega arith) (omega arith))

-- no whole record is the next, so there is none
pub records_broken : (bs : Bytes) → whole bs ≡ false → records_of bs ≡ []
unfolding cut
records_broken [] w = refl
records_broken (b ∷ bs) w =
    let cs = b ∷ bs in
    let n = extent cs in
    ap (λ (c : Bool). elim c as (λ x. List Bytes) [ true ↦ take n cs ∷ cut (length bs) (drop n cs) | false ↦ [] ]) w

-- nothing is left
pub none_left : (bs : Bytes) → length bs ≡ 0 → whole bs ≡ false
none_left [] e = refl
none_left (b ∷ bs) e = absurd (omega arith)

-- ---- the ending, by the length of all records
pub ends_whole : (job : Bytes) → total_length (records_of job) ≡ length job → ending job ≡ 0
ends_whole job e = ap (λ (b : Bool). cond b 0 3) (eq-eqb (total_length (records_of job)) (length job) e)

pub ends_broken : (job : Bytes) → total_length (records_of job) < length job → ending job ≡ 3
ends_broken job h = ap (λ (b : Bool). cond b 0 3) (ne_eqb (total_length (records_of job)) (length job) (λ e. omega arith))
