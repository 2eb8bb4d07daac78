-- Small facts on optional values, tests and lists, used all over.
use mathlib.Core.Path.{◌≡◌, refl, sym, ap, subst}
use mathlib.Core.Bool.{Bool, true, false, cond, ◌||◌}
use mathlib.Core.List.{List, [], ◌∷◌, ◌++◌, foldl}
use Rattle.std.specs.Prelude.{Option, None as none, Some as some}
use Prim.Native.Nat.{ℕ, zero, suc, ◌<◌}
use native.Mathlib.Omega.{arith}
use lib.Dec.{T}
use lib.ListN.{length, take, get_or}
use Rattle.std.specs.Prelude.{slice_get as get_elem?}
use Rattle.theory.specs.Optional.{cons_some}

-- ---- optional values
pub none_some : {A : Type 0} (x : A) → none ≡ some x → ⊥
none_some x e = let z : ◌≡◌ {A = ℕ} 0 1 = cc in omega arith

pub some_inj : {A : Type 0} (x y : A) → some x ≡ some y → x ≡ y
some_inj x y e = cc

pub cons_some_is : {A : Type 0} (p : Option A) (q : Option (List A)) (xs : List A) → cons_some p q ≡ some xs
    → (x : A) × (ys : List A) × (p ≡ some x) × (q ≡ some ys) × (xs ≡ x ∷ ys)
cons_some_is none q xs e = absurd (none_some xs e)
cons_some_is (some x) none xs e = absurd (none_some xs e)
cons_some_is (some x) (some ys) xs e = (x, ys, refl, refl, sym (some_inj (x ∷ ys) xs e))

-- ---- tests: one that passed is true, and the other way; two that pass together are one
pub T_true : (b : Bool) → T b → b ≡ true
T_true true h = refl
T_true false h = absurd h

pub true_T : (b : Bool) → b ≡ true → T b
true_T b e = subst T (sym e) tt

pub T_same : (a b : Bool) → (T a → T b) → (T b → T a) → a ≡ b
T_same true true f g = refl
T_same true false f g = absurd (f tt)
T_same false true f g = absurd (g tt)
T_same false false f g = refl

-- the test passed, and what comes after it gave 0
pub taken : (b : Bool) (k z : ℕ) → cond b z (suc k) ≡ 0 → T b × (z ≡ 0)
taken true k z e = (tt, e)
taken false k z e = absurd (omega arith)

pub or_left : (a b : Bool) → T a → T (a || b)
or_left true b h = tt
or_left false b h = absurd h

pub or_right : (a b : Bool) → T b → T (a || b)
or_right true b h = tt
or_right false b h = h

pub or_not : (a b : Bool) → T (a || b) → (T a → ⊥) → T b
or_not true b h f = absurd (f tt)
or_not false b h f = h

-- ---- lists
pub foldl_append : {A B : Type 0} (f : B → A → B) (b : B) (xs ys : List A) → foldl f b (xs ++ ys) ≡ foldl f (foldl f b xs) ys
foldl_append f b [] ys = refl
foldl_append f b (x ∷ xs) ys = foldl_append f (f b x) xs ys

pub get_elem_of : {A : Type 0} (l : List A) (i : ℕ) (d : A) → i < length l → get_elem? l i ≡ some (get_or l i d)
get_elem_of [] i d h = absurd (omega arith)
get_elem_of (x ∷ l) zero d h = refl
get_elem_of (x ∷ l) (suc i) d h = get_elem_of l i d (omega arith)

pub get_elem_lt : {A : Type 0} (xs : List A) (i : ℕ) (a : A) → get_elem? xs i ≡ some a → i < length xs
get_elem_lt [] i a e = absurd (none_some a e)
get_elem_lt (x ∷ xs) zero a e = omega arith
get_elem_lt (x ∷ xs) (suc i) a e = omega (arith, get_elem_lt xs i a e)

pub get_elem_seam : {A : Type 0} (xs : List A) (y : A) (ys : List A) → get_elem? (xs ++ (y ∷ ys)) (length xs) ≡ some y
get_elem_seam [] y ys = refl
get_elem_seam (x ∷ xs) y ys = get_elem_seam xs y ys

pub get_elem_old : {A : Type 0} (xs ys : List A) (i : ℕ) → i < length xs → get_elem? (xs ++ ys) i ≡ get_elem? xs i
get_elem_old [] ys i h = absurd (omega arith)
get_elem_old (x ∷ xs) ys zero h = refl
get_elem_old (x ∷ xs) ys (suc i) h = get_elem_old xs ys i (omega arith)

pub get_elem_take : {A : Type 0} (n : ℕ) (xs : List A) (i : ℕ) (a : A) → get_elem? (take n xs) i ≡ some a → get_elem? xs i ≡ some a
get_elem_take zero xs i a e = absurd (none_some a e)
get_elem_take (suc n) [] i a e = e
get_elem_take (suc n) (x ∷ xs) zero a e = e
get_elem_take (suc n) (x ∷ xs) (suc i) a e = get_elem_take n xs i a e

pub take_get_elem : {A : Type 0} (n : ℕ) (xs : List A) (i : ℕ) → i < n → get_elem? (take n xs) i ≡ get_elem? xs i
take_get_elem zero xs i h = absurd (omega arith)
take_get_elem (suc n) [] i h = refl
take_get_elem (suc n) (x ∷ xs) zero h = refl
take_get_elem (suc n) (x ∷ xs) (suc i) h = take_get_elem n xs i (omega arith)

-- an element of a list with one more at the end
pub snoc_elim : {A : Type 0} {P : Type 0} (xs : List A) (y : A) (k : ℕ) (a : A) → get_elem? (xs ++ (y ∷ [])) k ≡ some a
    → (get_elem? xs k ≡ some a → P) → (k ≡ length xs → y ≡ a → P) → P
snoc_elim [] y zero a e f g = g refl (some_inj y a e)
snoc_elim [] y (suc k) a e f g = absurd (none_some a e)
snoc_elim (x ∷ xs) y zero a e f g = f e
snoc_elim (x ∷ xs) y (suc k) a e f g = snoc_elim xs y k a e f (λ p q. g (ap suc p) q)
