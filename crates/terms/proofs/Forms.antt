-- The form of each kind's body, and the kinds that are unknown.
use mathlib.Core.Path.{◌≡◌, refl, subst}
use mathlib.Core.Bool.{Bool, true, false, ◌&&◌}
use mathlib.Core.List.{List, [], ◌∷◌}
use Rattle.std.specs.Prelude.{Option, None as none, Some as some}
use Prim.Native.Nat.{ℕ, zero, suc, ◌+◌, ◌<◌, ◌≤◌}
use native.Mathlib.Decide.{dec_lt}
use native.Mathlib.Nat.{add-suc}
use native.Mathlib.Omega.{arith}
use lib.Dec.{T, ltb, ltb→lt}
use lib.Ieee.Fits.{and_l, and_r}
use borrow.Author.Tests.{ne_eqb}
use Rattle.theory.specs.Kind.{kind}
use Rattle.theory.specs.Record.{Shape, make, shapes, find_shape, shape_of}
use Rattle.terms.specs.declared.kind.Kind.{Kind}
use Rattle.terms.specs.declared.kind.Kind.TheVariants as D
use Rattle.terms.specs.Numbered.{shape, number_of}

-- ---- a test that holds at n numbers from `low` on
abbrev tested : ℕ → (ℕ → Bool) → ℕ → Bool
tested zero test low = true
tested (suc n) test low = test low && tested n test (suc low)

within : (n : ℕ) (test : ℕ → Bool) (low : ℕ) → T (tested n test low) → (k : ℕ) → low ≤ k → k < low + n → T (test k)
within zero test low t k h l = absurd (omega arith)
within (suc n) test low t k h l = go (within n test (suc low) (and_r (test low) _ t) k) (dec_lt low k)
  where
    go : (low < k → k < suc low + n → T (test k)) → Dec (low < k) → T (test k)
    go ih (yes p) = ih p (omega arith)
    go ih (no p) = let e : low ≡ k = omega arith in subst (λ (m : ℕ). T (test m)) e (and_l (test low) _ t)

-- ---- a kind of the table, by its shape
pub shape_number : (k : Kind) → shape_of (number_of k) ≡ some (shape k)
unfolding shape_of
shape_number D.BoolVar = refl
shape_number D.BvVar = refl
shape_number D.Const = refl
shape_number D.Not = refl
shape_number D.And = refl
shape_number D.Or = refl
shape_number D.Xor = refl
shape_number D.Equals = refl
shape_number D.Ite = refl
shape_number D.BvBitOf = refl
shape_number D.BvBbTerm = refl
shape_number D.BvNot = refl
shape_number D.BvNeg = refl
shape_number D.BvAnd = refl
shape_number D.BvOr = refl
shape_number D.BvXor = refl
shape_number D.BvAdd = refl
shape_number D.BvMul = refl
shape_number D.BvXNor = refl
shape_number D.BvComp = refl
shape_number D.BvULt = refl
shape_number D.BvSLt = refl
shape_number D.BvShl = refl
shape_number D.BvLShr = refl
shape_number D.BvAShr = refl
shape_number D.BvUDiv = refl
shape_number D.BvURem = refl
shape_number D.BvConcat = refl
shape_number D.BvExtract = refl
shape_number D.SignExtend = refl
shape_number D.ZeroExtend = refl
shape_number D.RotateLeft = refl
shape_number D.RotateRight = refl
shape_number D.Repeat = refl

-- the number was that kind's
pub known_kind : {n : ℕ} (k : Kind) → number_of k ≡ n → shape_of n ≡ some (shape k)
known_kind k e = subst (λ (m : ℕ). shape_of m ≡ some (shape k)) e (shape_number k)

-- ---- unknown kinds
abbrev is_none : Option Shape → Bool
is_none none = true
is_none (some s) = false

none_is : (o : Option Shape) → T (is_none o) → o ≡ none
none_is none t = refl
none_is (some s) t = absurd t

gap : (low n : ℕ) → T (tested n (λ k. is_none (find_shape k shapes)) low) → {k : ℕ} → low ≤ k → k < low + n → shape_of k ≡ none
unfolding shape_of
gap low n t {k} h g = none_is (shape_of k) (within n (λ j. is_none (find_shape j shapes)) low t k h g)

-- every number of the list is below n
abbrev all_under : ℕ → List Shape → Bool
all_under n [] = true
all_under n (s ∷ ss) = ltb (kind (make s [])) n && all_under n ss

above : (n : ℕ) (ss : List Shape) → T (all_under n ss) → {k : ℕ} → n ≤ k → find_shape k ss ≡ none
above n [] t h = refl
above n (s ∷ ss) t {k} h =
    let l = ltb→lt (kind (make s [])) n (and_l (ltb (kind (make s [])) n) _ t) in
    rw (ne_eqb (kind (make s [])) k (λ e. omega arith)) (above n ss (and_r (ltb (kind (make s [])) n) _ t) h)

-- past a number that k is not
pub past : {a k : ℕ} → a ≤ k → (k ≡ a → ⊥) → a < k
past h n = omega arith

not_below : (k a : ℕ) → (k < a → ⊥) → a ≤ k
not_below k a h = omega arith

pub none_low : {k : ℕ} → k < 20 → (k ≡ 10 → ⊥) → (k ≡ 11 → ⊥) → (k ≡ 12 → ⊥) → shape_of k ≡ none
none_low {k} h a b c = go (dec_lt k 10)
  where
    go : Dec (k < 10) → shape_of k ≡ none
    go (yes p) = gap 0 10 tt (omega arith) p
    go (no p) = gap 13 7 tt (past (past (past (not_below k 10 p) a) b) c) h

pub none_middle : {k : ℕ} → 25 < k → k < 40 → (k ≡ 30 → ⊥) → (k ≡ 31 → ⊥) → shape_of k ≡ none
none_middle {k} g h a b = go (dec_lt k 30)
  where
    go : Dec (k < 30) → shape_of k ≡ none
    go (yes p) = gap 26 4 tt g p
    go (no p) = gap 32 8 tt (past (past (not_below k 30 p) a) b) h

none_high : {k : ℕ} → 63 < k → shape_of k ≡ none
unfolding shape_of
none_high h = above 64 shapes tt h

pub none_over : {k : ℕ} → 58 < k → (k ≡ 60 → ⊥) → (k ≡ 61 → ⊥) → (k ≡ 62 → ⊥) → (k ≡ 63 → ⊥) → shape_of k ≡ none
none_over {k} h a b c d = go (dec_lt k 60)
  where
    go : Dec (k < 60) → shape_of k ≡ none
    go (yes p) = gap 59 1 tt h p
    go (no p) = none_high (past (past (past (past (not_below k 60 p) a) b) c) d)

-- ---- k is none of n numbers from `low` on, as a `match` on them leaves it
abbrev Rest : ℕ → ℕ → ℕ → Type 0 → Type 0
Rest low zero k before = before
Rest low (suc n) k before = Rest low n k before × (k ≡ low + n → ⊥)

passed : (low n : ℕ) {k : ℕ} (before : Type 0) → low ≤ k → Rest low n k before → before × (low + n ≤ k)
passed low zero before h r = (r, omega arith)
passed low (suc n) {k} before h r =
    let p = passed low n before h r.0 in
    (p.0, rw add-suc (past p.1 r.1))

pub none_below_40 : {k : ℕ} → k < 40 → Rest 30 2 k (Rest 20 6 k (Rest 10 3 k (Unit {0}))) → shape_of k ≡ none
none_below_40 {k} h r =
    go r.0.0.0.0.0.0.0.0 (dec_lt k 20)
  where
    go : Rest 10 3 k (Unit {0}) → Dec (k < 20) → shape_of k ≡ none
    go t (yes p) = none_low p t.0.0.1 t.0.1 t.1
    go t (no p) = none_middle (passed 20 6 (Rest 10 3 k (Unit {0})) (not_below k 20 p) r.0.0).1 h r.0.1 r.1

-- k is no number of a kind
pub none_left : {k : ℕ} → Rest 60 4 k (Rest 40 19 k (Rest 30 2 k (Rest 20 6 k (Rest 10 3 k (Unit {0}))))) → shape_of k ≡ none
none_left {k} r = go (dec_lt k 40)
  where
    go : Dec (k < 40) → shape_of k ≡ none
    go (yes p) = none_below_40 p (before 19 r.0.0.0.0)
      where
        before : (n : ℕ) {t : Type 0} → Rest 40 n k t → t
        before zero h = h
        before (suc n) h = before n h.0
    go (no p) = none_over (passed 40 19 _ (not_below k 40 p) r.0.0.0.0).1 r.0.0.0.1 r.0.0.1 r.0.1 r.1
