-- The terms at places and their cells: a cell with its term's width is the term's value.
use mathlib.Core.Path.{◌≡◌, refl, sym, ap, ap₂, subst, ◌∙◌}
use mathlib.Core.Bool.{Bool, true, false, ◌&&◌}
use mathlib.Core.List.{List, [], ◌∷◌}
use Prim.Native.Nat.{ℕ, zero, suc, ◌+◌, ◌^◌, ◌<◌, ◌≤◌}
use native.Mathlib.Omega.{arith}
use lib.Dec.{T, leb, ltb, eqb, leb→le, ltb→lt}
use lib.Ieee.Fits.{and_l, and_r}
use lib.ListN.{length}
use Rattle.theory.specs.Limit.{first_terms}
use Rattle.theory.specs.Kind as K
use Rattle.theory.specs.Kind.{Op}
use Rattle.theory.specs.Sort.{Sort, bad, bool, bv, same_sort, good, sort_width, sort_op, sort_of, all_are, is_bv_sort}
use Rattle.theory.specs.Value.{Assign, Val, truth, bit, meaning, value}
use Rattle.theory.specs.Record.{Bytes}
use Rattle.theory.specs.Places.{tree_at}
use Rattle.theory.proofs.Run.{good_at}
use Rattle.theory.proofs.Sorts.{sized, sorts_sized}
use Rattle.theory.proofs.Sound.{Has, is_truth, is_number, value_has, same_sort_eq}
use Rattle.store.specs.Store.{listed}
use Rattle.sweeps.specs.Variables.{sort_bits, bits_in}
use Rattle.sweeps.specs.Sweep.{as_number}
use Rattle.sweeps.proofs.Fitting.{fitted}
use Rattle.operations.specs.declared.apply.Binary.{Binary}
use Rattle.operations.specs.declared.apply.Binary.TheVariants as B
use Rattle.operations.specs.Apply.{binary_op, sort_by, bits_by, val_by, Number, One, Two, Bools3}
use Rattle.operations.proofs.ManyLaws.{val_word}
use Rattle.evaluation.specs.Cells.{Right, Evaluable, sorts_on, Given, Comes}

-- ---- sorts by their widths
pub sort_back : (s : Sort) → T (good s) → T (sized s) → sort_by (sort_width s) ≡ s
sort_back bool g z = refl
sort_back (bv zero) g z = absurd z
sort_back (bv (suc n)) g z = refl
sort_back bad g z = elim g [ ]

pub bits_back : (s : Sort) → T (good s) → T (sized s) → bits_by (sort_width s) ≡ sort_bits s
bits_back bool g z = refl
bits_back (bv zero) g z = absurd z
bits_back (bv (suc n)) g z = refl
bits_back bad g z = elim g [ ]

width_few : (s : Sort) → T (sized s) → sort_width s ≤ 64
width_few bad z = omega arith
width_few bool z = omega arith
width_few (bv n) z = leb→le n 64 (and_r (leb 1 n) _ z)

bit_truth : (b : Bool) → eqb (bit b) 1 ≡ b
bit_truth true = refl
bit_truth false = refl

pub val_back : {v : Val} {s : Sort} → Has v s → T (good s) → T (sized s) → val_by (sort_width s) (as_number v) ≡ v
val_back (is_truth {b}) g z = ap truth (bit_truth b)
val_back (is_number {n} {x} h) g z = val_word n x (leb→le 1 n (and_l (leb 1 n) _ z))
val_back {v = v} Rattle.theory.proofs.Sound.any g z = elim g [ ]

-- ---- at a place
module _ {job work : Bytes} {n : ℕ} {num : ℕ → ℕ} (able : Evaluable job work n num) where
  module _ (k : ℕ) (l : k < first_terms + n) where
    pub place_low : k < length (listed job work n)
    place_low = omega (arith, able.shelf.count)

    pub place_good : T (good (sort_of (tree_at (listed job work n) k)))
    place_good = good_at (listed job work n) k able.shelf.sorted place_low

    pub place_sort : {m : ℕ} → m ≡ sort_width (sort_of (tree_at (listed job work n) k)) → sort_by m ≡ sort_of (tree_at (listed job work n) k)
    place_sort e = ap sort_by e ∙ sort_back (sort_of (tree_at (listed job work n) k)) place_good (sorts_sized (tree_at (listed job work n) k))

    pub place_number : {m v : ℕ} → m ≡ sort_width (sort_of (tree_at (listed job work n) k)) → v ≡ num k → Number m v
    place_number {m} {v} e f =
        let t = tree_at (listed job work n) k in
        record {
          few = subst (λ (z : ℕ). z ≤ 64) (sym e) (width_few (sort_of t) (sorts_sized t));
          below = subst (λ (z : ℕ). v < 2 ^ z) (sym (ap bits_by e ∙ bits_back (sort_of t) place_good (sorts_sized t))) (subst (λ (z : ℕ). z < 2 ^ bits_in t) (sym f) (able.ranged.below k place_low));
        }

    pub place_val : (ρ : Assign) → Right ρ (listed job work n) num k → {m v : ℕ} → m ≡ sort_width (sort_of (tree_at (listed job work n) k)) → v ≡ num k
        → val_by m v ≡ value ρ (tree_at (listed job work n) k)
    place_val ρ r e f =
        let t = tree_at (listed job work n) k in
        ap₂ val_by e (f ∙ r) ∙ val_back (value_has ρ t) place_good (sorts_sized t)

-- the first argument is kept
pub first_low : {job work : Bytes} {n : ℕ} {num : ℕ → ℕ} {o : Op} {x : ℕ} {ks : List ℕ} → Given job work n num o (x ∷ ks) → x < first_terms + n
first_low {n = n} {x = x} g = ltb→lt x (first_terms + n) (and_l (ltb x (first_terms + n)) _ g.below)

-- ---- one argument
module _ {job work : Bytes} {n : ℕ} {num : ℕ → ℕ} (o : Op) (x : ℕ) (g : Given job work n num o (x ∷ [])) {m v : ℕ} (e : m ≡ sort_width (sort_of (tree_at (listed job work n) x))) (f : v ≡ num x) where
  one_low : x < first_terms + n
  one_low = ltb→lt x (first_terms + n) (and_l (ltb x (first_terms + n)) _ g.below)

  pub one_ready : One o m v
  one_ready = record {
    sorted = subst (λ (s : Sort). T (good (sort_op o (s ∷ [])))) (sym (place_sort g.able x one_low e)) g.sorted;
    first = place_number g.able x one_low e f;
  }

  pub one_done : {r : ℕ} → ((ρ : Assign) → r ≡ as_number (meaning ρ o (val_by m v ∷ []))) → Comes (listed job work n) num o (x ∷ []) r
  one_done h ρ a = h ρ ∙ ap (λ (u : Val). as_number (meaning ρ o (u ∷ []))) (place_val g.able x one_low ρ a.0 e f)

-- ---- two arguments
xor_sorts : (s r : Sort) → T (all_are bool (s ∷ r ∷ [])) → s ≡ r
xor_sorts s r h = sym (same_sort_eq bool s (and_l (same_sort bool s) _ h)) ∙ same_sort_eq bool r (and_l (same_sort bool r) _ (and_r (same_sort bool s) _ h))

like_sorts : (b : Bool) (s r : Sort) → T (b && all_are s (s ∷ r ∷ [])) → s ≡ r
like_sorts b s r h = same_sort_eq s r (and_l (same_sort s r) _ (and_r (same_sort s s) _ (and_r b _ h)))

same_sorts : (op : Binary) (s r : Sort) → T (good (sort_op (binary_op op) (s ∷ r ∷ []))) → s ≡ r
same_sorts B.Xor s r g = xor_sorts s r (fitted K.Xor (s ∷ r ∷ []) g)
same_sorts B.Equals s r g = like_sorts (good s) s r (fitted K.Equals (s ∷ r ∷ []) g)
same_sorts B.XNor s r g = like_sorts (is_bv_sort s) s r (fitted K.BvXNor (s ∷ r ∷ []) g)
same_sorts B.Comp s r g = like_sorts (is_bv_sort s) s r (fitted K.BvComp (s ∷ r ∷ []) g)
same_sorts B.ULt s r g = like_sorts (is_bv_sort s) s r (fitted K.BvULt (s ∷ r ∷ []) g)
same_sorts B.SLt s r g = like_sorts (is_bv_sort s) s r (fitted K.BvSLt (s ∷ r ∷ []) g)
same_sorts B.Shl s r g = like_sorts (is_bv_sort s) s r (fitted K.BvShl (s ∷ r ∷ []) g)
same_sorts B.LShr s r g = like_sorts (is_bv_sort s) s r (fitted K.BvLShr (s ∷ r ∷ []) g)
same_sorts B.AShr s r g = like_sorts (is_bv_sort s) s r (fitted K.BvAShr (s ∷ r ∷ []) g)
same_sorts B.UDiv s r g = like_sorts (is_bv_sort s) s r (fitted K.BvUDiv (s ∷ r ∷ []) g)
same_sorts B.URem s r g = like_sorts (is_bv_sort s) s r (fitted K.BvURem (s ∷ r ∷ []) g)

module _ {job work : Bytes} {n : ℕ} {num : ℕ → ℕ} (op : Binary) (x y : ℕ) (g : Given job work n num (binary_op op) (x ∷ y ∷ [])) {m v w : ℕ} (e : m ≡ sort_width (sort_of (tree_at (listed job work n) x))) (f : v ≡ num x) (h : w ≡ num y) where
  x_low : x < first_terms + n
  x_low = ltb→lt x (first_terms + n) (and_l (ltb x (first_terms + n)) _ g.below)

  y_low : y < first_terms + n
  y_low = ltb→lt y (first_terms + n) (and_l (ltb y (first_terms + n)) _ (and_r (ltb x (first_terms + n)) _ g.below))

  sorts_same : sort_of (tree_at (listed job work n) x) ≡ sort_of (tree_at (listed job work n) y)
  sorts_same = same_sorts op _ _ g.sorted

  y_width : m ≡ sort_width (sort_of (tree_at (listed job work n) y))
  y_width = e ∙ ap sort_width sorts_same

  pub two_ready : Two (binary_op op) m v w
  two_ready = record {
    sorted = subst (λ (s : Sort). T (good (sort_op (binary_op op) (s ∷ s ∷ [])))) (sym (place_sort g.able x x_low e))
        (subst (λ (s : Sort). T (good (sort_op (binary_op op) (sort_of (tree_at (listed job work n) x) ∷ s ∷ [])))) (sym sorts_same) g.sorted);
    first = place_number g.able x x_low e f;
    second = place_number g.able y y_low y_width h;
  }

  pub two_done : {r : ℕ} → ((ρ : Assign) → r ≡ as_number (meaning ρ (binary_op op) (val_by m v ∷ val_by m w ∷ []))) → Comes (listed job work n) num (binary_op op) (x ∷ y ∷ []) r
  two_done k ρ a =
      k ρ ∙ ap₂ (λ (u z : Val). as_number (meaning ρ (binary_op op) (u ∷ z ∷ []))) (place_val g.able x x_low ρ a.0 e f) (place_val g.able y y_low ρ a.1.0 y_width h)

-- ---- three Bools
module _ {job work : Bytes} {n : ℕ} {num : ℕ → ℕ} (c x y : ℕ) (g : Given job work n num K.Ite (c ∷ x ∷ y ∷ [])) {t u v : ℕ} (d : t ≡ num c) (e : u ≡ num x) (f : v ≡ num y) where
  bools : T (all_are bool (sorts_on (listed job work n) (c ∷ x ∷ y ∷ [])))
  bools = fitted K.Ite (sorts_on (listed job work n) (c ∷ x ∷ y ∷ [])) g.sorted

  c_low : c < first_terms + n
  c_low = ltb→lt c (first_terms + n) (and_l (ltb c (first_terms + n)) _ g.below)

  x_below : x < first_terms + n
  x_below = ltb→lt x (first_terms + n) (and_l (ltb x (first_terms + n)) _ (and_r (ltb c (first_terms + n)) _ g.below))

  y_below : y < first_terms + n
  y_below = ltb→lt y (first_terms + n) (and_l (ltb y (first_terms + n)) _ (and_r (ltb x (first_terms + n)) _ (and_r (ltb c (first_terms + n)) _ g.below)))

  width_0 : (k : ℕ) → T (same_sort bool (sort_of (tree_at (listed job work n) k))) → 0 ≡ sort_width (sort_of (tree_at (listed job work n) k))
  width_0 k b = ap sort_width (same_sort_eq bool (sort_of (tree_at (listed job work n) k)) b)

  c_bool : 0 ≡ sort_width (sort_of (tree_at (listed job work n) c))
  c_bool = width_0 c (and_l (same_sort bool (sort_of (tree_at (listed job work n) c))) _ bools)

  x_bool : 0 ≡ sort_width (sort_of (tree_at (listed job work n) x))
  x_bool = width_0 x (and_l (same_sort bool (sort_of (tree_at (listed job work n) x))) _ (and_r (same_sort bool (sort_of (tree_at (listed job work n) c))) _ bools))

  y_bool : 0 ≡ sort_width (sort_of (tree_at (listed job work n) y))
  y_bool = width_0 y (and_l (same_sort bool (sort_of (tree_at (listed job work n) y))) _ (and_r (same_sort bool (sort_of (tree_at (listed job work n) x))) _ (and_r (same_sort bool (sort_of (tree_at (listed job work n) c))) _ bools)))

  pub three_ready : Bools3 t u v
  three_ready = record {
    test = (place_number g.able c c_low c_bool d).below;
    first = (place_number g.able x x_below x_bool e).below;
    second = (place_number g.able y y_below y_bool f).below;
  }

  pub three_done : {r : ℕ} → ((ρ : Assign) → r ≡ as_number (meaning ρ K.Ite (val_by 0 t ∷ val_by 0 u ∷ val_by 0 v ∷ []))) → Comes (listed job work n) num K.Ite (c ∷ x ∷ y ∷ []) r
  three_done k ρ a =
      k ρ ∙ λ i. as_number (meaning ρ K.Ite (place_val g.able c c_low ρ a.0 c_bool d i ∷ place_val g.able x x_below ρ a.1.0 x_bool e i ∷ place_val g.able y y_below ρ a.1.1.0 y_bool f i ∷ []))
