-- Laws of numbers in words.
use mathlib.Core.Path.{◌≡◌, refl, sym, ap, subst, ◌∙◌}
use mathlib.Core.Bool.{Bool, true, false, ◌&&◌, cond}
use mathlib.Core.List.{[], ◌∷◌}
use Rattle.std.specs.Prelude.{Option, None as none, Some as some}
use Prim.Native.Nat.{ℕ, zero, suc, ◌+◌, ◌*◌, ◌<◌, ◌≤◌}
use native.Mathlib.Decide.{dec_le}
use native.Mathlib.Omega.{arith}
use native.Mathlib.Nat.{mul-le-mul_right}
use native.Mathlib.Numerals.{add-one}
use lib.Dec.{T, eqb, ltb, eqb→eq}
use lib.Ieee.Fits.{and_l, and_r}
use lib.ListN.{length, drop, get_or, drop_of_length-le}
use lib.Seq.{drop-cons}
use borrow.Author.Tests.{lt-ltb, le-ltb, eq-eqb, ne_eqb}
use Rattle.std.specs.Char.{digit_value as to_digit}
use Rattle.theory.specs.Record.{Bytes}
use Rattle.text.specs.Reading.{digit_value, number_from, number_in, below, leading_zero}

-- ---- digits, tried one by one
abbrev pub all_from : (ℕ → Bool) → ℕ → ℕ → Bool
all_from p lo zero = true
all_from p lo (suc n) = p lo && all_from p (suc lo) n

each : (p : ℕ → Bool) (lo n : ℕ) → T (all_from p lo n) → (b : ℕ) → lo ≤ b → b < lo + n → T (p b)
each p lo zero t b h k = absurd (omega arith)
each p lo (suc n) t b h k = go (λ l. each p (suc lo) n (and_r (p lo) _ t) b l (omega arith)) (dec_le (suc lo) b)
  where
    go : (suc lo ≤ b → T (p b)) → Dec (suc lo ≤ b) → T (p b)
    go ih (yes l) = ih l
    go ih (no l) = let e : lo ≡ b = omega arith in subst (λ (x : ℕ). T (p x)) e (and_l (p lo) _ t)

-- what `to_digit` of a character says: the same, but that it goes on after f
digit_there : (b : ℕ) → b < 256 → to_digit b < 16 → digit_value b ≡ to_digit b
digit_there b h k = go (ltb (to_digit b) 16) (lt-ltb (to_digit b) 16 k) (each (λ x. cond (ltb (to_digit x) 16) (eqb (digit_value x) (to_digit x)) (eqb (digit_value x) 16)) 0 256 tt b (omega arith) h)
  where
    go : (c : Bool) → c ≡ true → T (cond c (eqb (digit_value b) (to_digit b)) (eqb (digit_value b) 16)) → digit_value b ≡ to_digit b
    go true e t = eqb→eq (digit_value b) (to_digit b) t
    go false e t = absurd (let z : ◌≡◌ {A = ℕ} 0 1 = cc in omega arith)

digit_past : (b : ℕ) → b < 256 → 16 ≤ to_digit b → digit_value b ≡ 16
digit_past b h k = go (ltb (to_digit b) 16) (le-ltb (to_digit b) 16 k) (each (λ x. cond (ltb (to_digit x) 16) (eqb (digit_value x) (to_digit x)) (eqb (digit_value x) 16)) 0 256 tt b (omega arith) h)
  where
    go : (c : Bool) → c ≡ false → T (cond c (eqb (digit_value b) (to_digit b)) (eqb (digit_value b) 16)) → digit_value b ≡ 16
    go true e t = absurd (let z : ◌≡◌ {A = ℕ} 0 1 = cc in omega arith)
    go false e t = eqb→eq (digit_value b) 16 t

pub digit_is : {base x b d : ℕ} → x ≡ b → b < 256 → base ≤ 16 → to_digit x < base → d ≡ to_digit x → (d ≡ digit_value b) × (d < base)
digit_is {base} {x} {b} {d} f h k l e =
    let g = digit_there x (subst (λ (y : ℕ). y < 256) (sym f) h) (omega arith) in
    (e ∙ sym g ∙ ap digit_value f, subst (λ (y : ℕ). y < base) (sym e) l)

pub digit_none : {base x b : ℕ} → x ≡ b → b < 256 → base ≤ 16 → (to_digit x < base → ⊥) → base ≤ digit_value b
digit_none {base} {x} {b} f h k n = subst (λ (y : ℕ). base ≤ digit_value y) f (go (dec_le 16 (to_digit x)))
  where
    over : base ≤ to_digit x
    over = omega arith

    small : x < 256
    small = subst (λ (y : ℕ). y < 256) (sym f) h

    go : Dec (16 ≤ to_digit x) → base ≤ digit_value x
    go (yes l) = let e = digit_past x small l in omega arith
    go (no l) = let e = digit_there x small (omega arith) in omega (arith, over)

-- ---- a number from its digits
from_more : (base n d : ℕ) (ds : Bytes) → digit_value d < base → number_from base n (d ∷ ds) ≡ number_from base (base * n + digit_value d) ds
unfolding number_from
from_more base n d ds h = rw (lt-ltb (digit_value d) base h, number_from)

from_bad : (base n d : ℕ) (ds : Bytes) → base ≤ digit_value d → number_from base n (d ∷ ds) ≡ none
unfolding number_from
from_bad base n d ds h = rw (le-ltb (digit_value d) base h, number_from)

pub below_over : (bound n : ℕ) → bound ≤ n → below bound (some n) ≡ none
below_over bound n h = rw (le-ltb n bound h)

pub below_under : (bound n : ℕ) → n < bound → below bound (some n) ≡ some n
below_under bound n h = rw (lt-ltb n bound h)

wider : (base n d bound : ℕ) → 2 ≤ base → bound ≤ n → bound ≤ base * n + d
wider base n d bound h k = omega (arith, mul-le-mul_right n h)

-- more digits make no smaller number
grows : (base bound n : ℕ) (ds : Bytes) → 2 ≤ base → bound ≤ n → below bound (number_from base n ds) ≡ none
unfolding number_from
grows base bound n [] h k = below_over bound n k
grows base bound n (d ∷ ds) h k = go (ltb (digit_value d) base) (grows base bound (base * n + digit_value d) ds h (wider base n (digit_value d) bound h k))
  where
    go : (b : Bool) → below bound (number_from base (base * n + digit_value d) ds) ≡ none
        → below bound (elim b as (λ x. Option ℕ) [ true ↦ number_from base (base * n + digit_value d) ds | false ↦ none ]) ≡ none
    go true ih = ih
    go false ih = refl

-- ---- the loop
pub record Counting (base : ℕ) (w : Bytes) (most n i : ℕ) : Type 0 where
  pub inside : i ≤ length w
  pub small : n ≤ most
  pub leads : below (most + 1) (number_in base w) ≡ below (most + 1) (number_from base n (drop i w))

pub count_start : (base : ℕ) (w : Bytes) (most : ℕ) → (length w ≡ 0 → ⊥) → Counting base w most 0 0
count_start base [] most h = absurd (h refl)
count_start base (d ∷ ds) most h = record { inside = omega arith; small = omega arith; leads = refl }

pub count_none : (base : ℕ) (w : Bytes) (most : ℕ) → length w ≡ 0 → none ≡ below (most + 1) (number_in base w)
count_none base [] most h = refl
count_none base (d ∷ ds) most h = absurd (omega arith)

module _ {base : ℕ} {w : Bytes} {most n i : ℕ} (g : Counting base w most n i) where
  abbrev pub total : Option ℕ
  total = below (most + 1) (number_in base w)

  here : i < length w → drop i w ≡ get_or w i 0 ∷ drop (i + 1) w
  here h = drop-cons w i 0 h ∙ ap (λ (j : ℕ). get_or w i 0 ∷ drop j w) (sym (add-one i))

  on : i < length w → total ≡ below (most + 1) (number_from base n (get_or w i 0 ∷ drop (i + 1) w))
  on h = g.leads ∙ ap (λ (x : Bytes). below (most + 1) (number_from base n x)) (here h)

  pub count_on : i < length w → {d : ℕ} → d ≡ digit_value (get_or w i 0) → d < base → {m : ℕ} → m ≡ n * base + d → m ≤ most → Counting base w most m (i + 1)
  count_on h {d} e l {m} j f = record {
    inside = omega arith;
    small = f;
    leads = on h ∙ ap (below (most + 1)) (from_more base n (get_or w i 0) (drop (i + 1) w) (subst (λ (x : ℕ). x < base) e l))
        ∙ ap (λ (x : ℕ). below (most + 1) (number_from base (base * n + x) (drop (i + 1) w))) (sym e)
        ∙ ap (λ (x : ℕ). below (most + 1) (number_from base x (drop (i + 1) w))) (let q : base * n + d ≡ m = omega arith in q);
  }

  pub count_bad : i < length w → {d : ℕ} → d ≡ digit_value (get_or w i 0) → base ≤ d → none ≡ total
  count_bad h {d} e l = sym (on h ∙ ap (below (most + 1)) (from_bad base n (get_or w i 0) (drop (i + 1) w) (subst (λ (x : ℕ). base ≤ x) e l)))

  over : i < length w → {d : ℕ} → d ≡ digit_value (get_or w i 0) → d < base → 2 ≤ base → most + 1 ≤ base * n + d → none ≡ total
  over h {d} e l b f =
      sym (on h ∙ ap (below (most + 1)) (from_more base n (get_or w i 0) (drop (i + 1) w) (subst (λ (x : ℕ). x < base) e l))
      ∙ ap (λ (x : ℕ). below (most + 1) (number_from base (base * n + x) (drop (i + 1) w))) (sym e)
      ∙ grows base (most + 1) (base * n + d) (drop (i + 1) w) b f)

  pub count_over : i < length w → {d : ℕ} → d ≡ digit_value (get_or w i 0) → d < base → 2 ≤ base → most < n * base + d → none ≡ total
  count_over h e l b f = over h e l b (omega arith)

  pub count_end : length w ≤ i → some n ≡ total
  unfolding number_from
  count_end h =
      let s = g.small in
      sym (g.leads ∙ ap (λ (x : Bytes). below (most + 1) (number_from base n x)) (drop_of_length-le w {i = i} h) ∙ below_under (most + 1) n (omega arith))

-- ---- numerals
pub leads_zero : (w : Bytes) → 1 < length w → get_or w 0 0 ≡ 48 → leading_zero w ≡ true
leads_zero [] h e = absurd (omega arith)
leads_zero (d ∷ []) h e = absurd (omega arith)
leads_zero (d ∷ x ∷ ds) h e = eq-eqb d 48 e

pub leads_other : (w : Bytes) → (get_or w 0 0 ≡ 48 → ⊥) → leading_zero w ≡ false
leads_other [] h = refl
leads_other (d ∷ []) h = refl
leads_other (d ∷ x ∷ ds) h = ne_eqb d 48 h

pub leads_short : (w : Bytes) → length w ≤ 1 → leading_zero w ≡ false
leads_short [] h = refl
leads_short (d ∷ []) h = refl
leads_short (d ∷ x ∷ ds) h = absurd (omega arith)
