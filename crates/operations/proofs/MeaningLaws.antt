-- The meaning of an operation of one argument or more is its first argument, extended by one after the other; each step has room.
use Rattle.std.proofs.Common.{◌≡◌, ℕ, zero, suc, ◌+◌, ◌*◌, ◌^◌, ◌≤◌, Bool, true, false, ◌&&◌, ◌||◌, T, leb, List, [], ◌∷◌, map, length, sym, refl, ap, ◌∙◌, ap₂, arith, eqb→eq, leb→le}
use mathlib.Core.List.{foldl}
use native.Mathlib.Nat.{pow-succ'}
use lib.Ieee.Fits.{and_l, and_r}
use Rattle.theory.specs.Kind as K
use Rattle.theory.specs.Sort.{Sort, bool, same_sort, good, sort_op, sort_width, sum_widths, all_bv, all_are, is_bv_sort, alike}
use Rattle.theory.specs.Value.{Assign, Val, truth, number, truth_of, bit, to_number, all_true, any_true, meaning}
use Rattle.sweeps.proofs.Fitting.{fitted, counted}
use Rattle.operations.specs.declared.apply.Many.{Many}
use Rattle.operations.specs.declared.apply.Many.TheVariants as M
use Rattle.operations.specs.Width.{Wide}
use Rattle.operations.specs.Apply.{many_op, sort_by, start_val, extend_val, next_width, start_width, All, Joined, Bitwise, Room, First}
use Rattle.operations.proofs.ApplyLaws.{word_wide}

-- ---- the meaning
and_all : (b : Bool) (vs : List Val) → foldl (extend_val M.And) (truth b) vs ≡ truth (b && all_true (map truth_of vs))
and_all true [] = refl
and_all false [] = refl
and_all true (v ∷ vs) = and_all (truth_of v) vs
and_all false (v ∷ vs) = and_all false vs

or_any : (b : Bool) (vs : List Val) → foldl (extend_val M.Or) (truth b) vs ≡ truth (b || any_true (map truth_of vs))
or_any true [] = refl
or_any false [] = refl
or_any true (v ∷ vs) = or_any true vs
or_any false (v ∷ vs) = or_any (truth_of v) vs

bits_all : (n x : ℕ) (vs : List Val) → foldl (extend_val M.Bits) (number n x) vs ≡ number (n + length vs) (x + 2 ^ n * to_number (map truth_of vs))
bits_all n x [] = ap₂ number (let z : n ≡ n + 0 = omega arith in z) (let z : x ≡ x + 2 ^ n * 0 = omega arith in z)
bits_all n x (v ∷ vs) =
    bits_all (suc n) (x + bit (truth_of v) * 2 ^ n) vs
    ∙ ap₂ number (let z : suc n + length vs ≡ n + suc (length vs) = omega arith in z) (sums (bit (truth_of v)) (to_number (map truth_of vs)))
  where
    sums : (b t : ℕ) → x + b * 2 ^ n + 2 ^ suc n * t ≡ x + 2 ^ n * (b + 2 * t)
    sums b t = rw pow-succ' (omega arith)

pub many_meaning : (ρ : Assign) (op : Many) (v : Val) (vs : List Val) → meaning ρ (many_op op) (v ∷ vs) ≡ foldl (extend_val op) (start_val op v) vs
unfolding meaning
many_meaning ρ M.And v vs = sym (and_all (truth_of v) vs)
many_meaning ρ M.Or v vs = sym (or_any (truth_of v) vs)
many_meaning ρ M.Bits v vs =
    sym (bits_all 1 (bit (truth_of v)) vs ∙ ap₂ number (let z : 1 + length vs ≡ suc (length vs) = omega arith in z) refl)
many_meaning ρ M.BvAnd v vs = refl
many_meaning ρ M.BvOr v vs = refl
many_meaning ρ M.BvXor v vs = refl
many_meaning ρ M.Add v vs = refl
many_meaning ρ M.Mul v vs = refl
many_meaning ρ M.Concat v vs = refl

-- ---- room
joined_le : (w : ℕ) (ms : List ℕ) → Joined w ms → w ≤ 64
joined_le w [] h = h
joined_le w (m ∷ ms) h = omega (arith, joined_le (w + m) ms h.1)

bitwise_le : (w : ℕ) (ms : List ℕ) → Bitwise w ms → w ≤ 64
bitwise_le w [] h = h
bitwise_le w (m ∷ ms) h = omega (arith, bitwise_le (w + 1) ms h.1)

pub room_first : (op : Many) (w m : ℕ) (ms : List ℕ) → Room op w (m ∷ ms) → Room op w (m ∷ [])
room_first M.And w m ms h = (h.0, (h.1.0, tt))
room_first M.Or w m ms h = (h.0, (h.1.0, tt))
room_first M.Bits w m ms h = (h.0, (h.1.0, bitwise_le (w + 1) ms h.1.1))
room_first M.BvAnd w m ms h = (h.0, (h.1.0, tt))
room_first M.BvOr w m ms h = (h.0, (h.1.0, tt))
room_first M.BvXor w m ms h = (h.0, (h.1.0, tt))
room_first M.Add w m ms h = (h.0, (h.1.0, tt))
room_first M.Mul w m ms h = (h.0, (h.1.0, tt))
room_first M.Concat w m ms h = (h.0, (h.1.0, joined_le (w + m) ms h.1.1))

pub room_next : (op : Many) (w m : ℕ) (ms : List ℕ) → Room op w (m ∷ ms) → Room op (next_width op w m) ms
room_next M.And w m ms h = (h.0, h.1.1)
room_next M.Or w m ms h = (h.0, h.1.1)
room_next M.Bits w m ms h = (omega (arith, h.0), h.1.1)
room_next M.BvAnd w m ms h = (h.0, h.1.1)
room_next M.BvOr w m ms h = (h.0, h.1.1)
room_next M.BvXor w m ms h = (h.0, h.1.1)
room_next M.Add w m ms h = (h.0, h.1.1)
room_next M.Mul w m ms h = (h.0, h.1.1)
room_next M.Concat w m ms h = (omega (arith, h.0), h.1.1)

-- the sorts of arguments of these widths
abbrev pub sorts_by : List ℕ → List Sort
sorts_by ms = map sort_by ms

same_by : (w m : ℕ) → T (same_sort (sort_by w) (sort_by m)) → m ≡ w
same_by zero zero h = refl
same_by zero (suc m) h = absurd h
same_by (suc w) zero h = absurd h
same_by (suc w) (suc m) h = sym (eqb→eq (suc w) (suc m) h)

all_by : (w : ℕ) (ms : List ℕ) → T (all_are (sort_by w) (sorts_by ms)) → All w ms
all_by w [] h = tt
all_by w (m ∷ ms) h = (same_by w m (and_l (same_sort (sort_by w) (sort_by m)) _ h), all_by w ms (and_r (same_sort (sort_by w) (sort_by m)) _ h))

zeros_are : (m : ℕ) (ms : List ℕ) → T (all_are bool (sorts_by (m ∷ ms))) → (m ≡ 0) × All 0 ms
zeros_are m ms h = all_by 0 (m ∷ ms) h

words_are : (m : ℕ) (ms : List ℕ) → m ≤ 64 → T (alike (sorts_by (m ∷ ms))) → Wide m × All m ms
words_are m ms l h =
    let b = and_l (is_bv_sort (sort_by m)) _ h in
    (word_wide m b l, (all_by m (m ∷ ms) (and_r (is_bv_sort (sort_by m)) _ h)).1)

bitwise : (w : ℕ) (ms : List ℕ) → All 0 ms → w + length ms ≤ 64 → Bitwise w ms
bitwise w [] h l = omega arith
bitwise w (m ∷ ms) h l = (h.0, bitwise (w + 1) ms h.1 (omega arith))

sort_size : (m : ℕ) → sort_width (sort_by m) ≡ m
sort_size zero = refl
sort_size (suc m) = refl

bv_one : (m : ℕ) → T (is_bv_sort (sort_by m)) → 1 ≤ m
bv_one (suc m) h = omega arith
bv_one zero h = elim h [ ]

joined : (w : ℕ) (ms : List ℕ) → T (all_bv (sorts_by ms)) → w + sum_widths (sorts_by ms) ≤ 64 → Joined w ms
joined w [] h l = omega arith
joined w (m ∷ ms) h l =
    (bv_one m (and_l (is_bv_sort (sort_by m)) _ h), joined (w + m) ms (and_r (is_bv_sort (sort_by m)) _ h) (omega (arith, sort_size m)))

length_by : (ms : List ℕ) → length (sorts_by ms) ≡ length ms
length_by [] = refl
length_by (m ∷ ms) = ap suc (length_by ms)

-- arguments that fit have room after the first
pub room_start : (op : Many) (m : ℕ) (ms : List ℕ) → m ≤ 64 → T (good (sort_op (many_op op) (sorts_by (m ∷ ms)))) → Room op (start_width op m) ms
room_start M.And m ms l g = zeros_are m ms (fitted K.And (sorts_by (m ∷ ms)) g)
room_start M.Or m ms l g = zeros_are m ms (fitted K.Or (sorts_by (m ∷ ms)) g)
room_start M.Bits m ms l g =
    let n : suc (length (sorts_by ms)) ≤ 64 = leb→le _ 64 (and_r (leb 1 (suc (length (sorts_by ms)))) _ (counted K.BvBbTerm (sorts_by (m ∷ ms)) g)) in
    (omega arith, bitwise 1 ms (zeros_are m ms (fitted K.BvBbTerm (sorts_by (m ∷ ms)) g)).1 (omega (arith, n, length_by ms)))
room_start M.BvAnd m ms l g = words_are m ms l (fitted K.BvAnd (sorts_by (m ∷ ms)) g)
room_start M.BvOr m ms l g = words_are m ms l (fitted K.BvOr (sorts_by (m ∷ ms)) g)
room_start M.BvXor m ms l g = words_are m ms l (fitted K.BvXor (sorts_by (m ∷ ms)) g)
room_start M.Add m ms l g = words_are m ms l (fitted K.BvAdd (sorts_by (m ∷ ms)) g)
room_start M.Mul m ms l g = words_are m ms l (fitted K.BvMul (sorts_by (m ∷ ms)) g)
room_start M.Concat m ms l g =
    let f = fitted K.BvConcat (sorts_by (m ∷ ms)) g in
    let b = and_l (is_bv_sort (sort_by m)) _ (and_l (all_bv (sorts_by (m ∷ ms))) _ f) in
    let s : sort_width (sort_by m) + sum_widths (sorts_by ms) ≤ 64 = leb→le _ 64 (and_r (leb 1 (sum_widths (sorts_by (m ∷ ms)))) _ (and_r (all_bv (sorts_by (m ∷ ms))) _ f)) in
    (bv_one m b, joined m ms (and_r (is_bv_sort (sort_by m)) _ (and_l (all_bv (sorts_by (m ∷ ms))) _ f)) (omega (arith, s, sort_size m)))

-- the first argument has the width that it may have
pub first_fits : (op : Many) (m : ℕ) (ms : List ℕ) → T (good (sort_op (many_op op) (sorts_by (m ∷ ms)))) → First op m
first_fits M.And m ms g = (zeros_are m ms (fitted K.And (sorts_by (m ∷ ms)) g)).0
first_fits M.Or m ms g = (zeros_are m ms (fitted K.Or (sorts_by (m ∷ ms)) g)).0
first_fits M.Bits m ms g = (zeros_are m ms (fitted K.BvBbTerm (sorts_by (m ∷ ms)) g)).0
first_fits M.BvAnd m ms g = tt
first_fits M.BvOr m ms g = tt
first_fits M.BvXor m ms g = tt
first_fits M.Add m ms g = tt
first_fits M.Mul m ms g = tt
first_fits M.Concat m ms g = tt
