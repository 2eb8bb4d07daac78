-- What a term asks is what theory's sorts and depths ask of its kind.
use mathlib.Core.Path.{◌≡◌, refl, sym, ap, ap₂, ◌∙◌}
use mathlib.Core.Bool.{Bool, true, ◌&&◌}
use mathlib.Core.List.{List, map, map-map}
use Prim.Native.Nat.{ℕ, suc, ◌+◌, ◌-◌}
use native.Mathlib.Numerals.{add-one}
use lib.Dec.{leb, ltb}
use lib.ListN.{length, length-map}
use Rattle.theory.specs.Kind.{Op, arity, takes}
use Rattle.theory.specs.Term.{fold, from_list}
use Rattle.theory.specs.Sort.{Sort, bool, bv, guard, all_are, alike, fitting, result_sort, sort_op, sort_of, sorts_of, first, is_bv_sort, sort_width}
use Rattle.theory.specs.Depth.{depth, depth_op}
use Rattle.theory.specs.Plain.{Plain}
use Rattle.theory.proofs.Blast.{folds_from_list}
use Rattle.theory.proofs.Places.{tree_at, tree_of}
use Rattle.terms.specs.declared.Term.{Term as Decoded}
use Rattle.terms.specs.declared.Term.TheVariants as D
use Rattle.terms.specs.Decoded.{op_of}
use Rattle.intern.specs.declared.kinds.Asks.{Asks}
use Rattle.intern.specs.declared.kinds.Asks.TheVariants.{Bools, Bits, Alike}
use Rattle.store.specs.Sorts.{sorts_at, deepest_at}
use Rattle.intern.specs.Kinds.{asks_of, asked_sort, asked_depth}

fits_asked : (t : Decoded) (ss : List Sort) → asked_sort (asks_of t) ss ≡ guard (fitting (op_of t) ss) (result_sort (op_of t) ss)
unfolding guard
fits_asked D.True ss = refl
fits_asked D.False ss = refl
fits_asked (D.BoolVar x) ss = refl
fits_asked (D.BvVar n x) ss = refl
fits_asked (D.Const n x) ss = refl
fits_asked (D.Not x) ss = refl
fits_asked (D.And a) ss = refl
fits_asked (D.Or a) ss = refl
fits_asked (D.Xor x y) ss = refl
fits_asked (D.Equals x y) ss = refl
fits_asked (D.Ite c x y) ss = refl
fits_asked (D.BvBitOf i x) ss = refl
fits_asked (D.BvBbTerm a) ss = refl
fits_asked (D.BvNot x) ss = refl
fits_asked (D.BvNeg x) ss = refl
fits_asked (D.BvAnd a) ss = refl
fits_asked (D.BvOr a) ss = refl
fits_asked (D.BvXor a) ss = refl
fits_asked (D.BvAdd a) ss = refl
fits_asked (D.BvMul a) ss = refl
fits_asked (D.BvXNor x y) ss = refl
fits_asked (D.BvComp x y) ss = refl
fits_asked (D.BvULt x y) ss = refl
fits_asked (D.BvSLt x y) ss = refl
fits_asked (D.BvShl x y) ss = refl
fits_asked (D.BvLShr x y) ss = refl
fits_asked (D.BvAShr x y) ss = refl
fits_asked (D.BvUDiv x y) ss = refl
fits_asked (D.BvURem x y) ss = refl
fits_asked (D.BvConcat a) ss = refl
fits_asked (D.BvExtract i j x) ss = ap (λ (n : ℕ). guard (is_bv_sort (first ss) && (leb j i && ltb i (sort_width (first ss)))) (bv n)) (add-one (i - j))
fits_asked (D.SignExtend k x) ss = refl
fits_asked (D.ZeroExtend k x) ss = refl
fits_asked (D.RotateLeft k x) ss = refl
fits_asked (D.RotateRight k x) ss = refl
fits_asked (D.Repeat k x) ss = refl

depth_asked : (t : Decoded) (s : Sort) (d : ℕ) → asked_depth (asks_of t) s d ≡ depth_op (op_of t) s d
depth_asked D.True s d = refl
depth_asked D.False s d = refl
depth_asked (D.BoolVar x) s d = refl
depth_asked (D.BvVar n x) s d = refl
depth_asked (D.Const n x) s d = refl
depth_asked (D.Not x) s d = refl
depth_asked (D.And a) s d = refl
depth_asked (D.Or a) s d = refl
depth_asked (D.Xor x y) s d = refl
depth_asked (D.Equals x y) s d = refl
depth_asked (D.Ite c x y) s d = refl
depth_asked (D.BvBitOf i x) s d = refl
depth_asked (D.BvBbTerm a) s d = refl
depth_asked (D.BvNot x) s d = refl
depth_asked (D.BvNeg x) s d = refl
depth_asked (D.BvAnd a) s d = refl
depth_asked (D.BvOr a) s d = refl
depth_asked (D.BvXor a) s d = refl
depth_asked (D.BvAdd a) s d = refl
depth_asked (D.BvMul a) s d = refl
depth_asked (D.BvXNor x y) s d = refl
depth_asked (D.BvComp x y) s d = refl
depth_asked (D.BvULt x y) s d = refl
depth_asked (D.BvSLt x y) s d = refl
depth_asked (D.BvShl x y) s d = refl
depth_asked (D.BvLShr x y) s d = refl
depth_asked (D.BvAShr x y) s d = refl
depth_asked (D.BvUDiv x y) s d = refl
depth_asked (D.BvURem x y) s d = refl
depth_asked (D.BvConcat a) s d = refl
depth_asked (D.BvExtract i j x) s d = refl
depth_asked (D.SignExtend k x) s d = refl
depth_asked (D.ZeroExtend k x) s d = refl
depth_asked (D.RotateLeft k x) s d = refl
depth_asked (D.RotateRight k x) s d = refl
depth_asked (D.Repeat k x) s d = refl

-- ---- once it is known what is asked
module _ (ss : List Sort) {a : Asks} where
  pub asked : {b : Asks} → a ≡ b → {s : Sort} → s ≡ asked_sort b ss → s ≡ asked_sort a ss
  asked e f = f ∙ ap (λ (x : Asks). asked_sort x ss) (sym e)

  pub asked_bits : a ≡ Bits → {b : Bool} → b ≡ all_are bool ss → {m : ℕ} → m ≡ length ss → {s : Sort} → s ≡ guard b (bv m) → s ≡ asked_sort a ss
  asked_bits e g h f = asked e (f ∙ ap₂ (λ (b : Bool) (m : ℕ). guard b (bv m)) g h)

  pub asked_alike : a ≡ Alike → {b : Bool} → b ≡ alike ss → {t : Sort} → t ≡ first ss → {s : Sort} → s ≡ guard b t → s ≡ asked_sort a ss
  asked_alike e g h f = asked e (f ∙ ap₂ guard g h)

module _ (s : Sort) (m : ℕ) {a : Asks} where
  pub depth_of : {b : Asks} → a ≡ b → {x : ℕ} → x ≡ asked_depth b s m → x ≡ asked_depth a s m
  depth_of e f = f ∙ ap (λ (x : Asks). asked_depth x s m) (sym e)

  pub depth_gate : a ≡ Bools → {x : ℕ} → x ≡ m → x + 1 ≡ asked_depth a s m
  depth_gate e {x} f = depth_of e (add-one x ∙ ap suc f)

-- ---- the sort and the depth of a tree, from those of its arguments
sorts_are : (list : Plain) (ks : List ℕ) → sorts_of (from_list (map (tree_at list) ks)) ≡ sorts_at list ks
sorts_are list ks = folds_from_list sort_op (map (tree_at list) ks) ∙ map-map sort_of (tree_at list) ks

pub tree_sort : (list : Plain) (o : Op) (ks : List ℕ) → sort_of (tree_of list o ks) ≡ sort_op o (sorts_at list ks)
unfolding fold
tree_sort list o ks = ap (sort_op o) (sorts_are list ks)

pub tree_depth : (list : Plain) (o : Op) (ks : List ℕ) → depth (tree_of list o ks) ≡ depth_op o (first (sorts_at list ks)) (deepest_at list ks)
unfolding depth
tree_depth list o ks = ap (λ (ss : List Sort). depth_op o (first ss) (deepest_at list ks)) (sorts_are list ks)

-- a term of as many arguments as its kind takes has the sort that is asked for
pub sort_is : (list : Plain) (t : Decoded) (ks : List ℕ) → takes (arity (op_of t)) (length ks) ≡ true
    → {s : Sort} → s ≡ asked_sort (asks_of t) (sorts_at list ks) → s ≡ sort_of (tree_of list (op_of t) ks)
sort_is list t ks e f =
    let ss = sorts_at list ks in
    let n : takes (arity (op_of t)) (length ss) ≡ true = ap (takes (arity (op_of t))) (length-map ks (λ (k : ℕ). sort_of (tree_at list k))) ∙ e in
    f ∙ fits_asked t ss ∙ ap (λ (b : Bool). guard (b && fitting (op_of t) ss) (result_sort (op_of t) ss)) (sym n) ∙ sym (tree_sort list (op_of t) ks)

pub depth_is : (list : Plain) (t : Decoded) (ks : List ℕ) → {d : ℕ} → d ≡ asked_depth (asks_of t) (first (sorts_at list ks)) (deepest_at list ks)
    → d ≡ depth (tree_of list (op_of t) ks)
depth_is list t ks e = e ∙ depth_asked t (first (sorts_at list ks)) (deepest_at list ks) ∙ sym (tree_depth list (op_of t) ks)
