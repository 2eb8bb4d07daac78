-- What each kind of term asks of its arguments, and the sort and depth that come of it.
use Rattle.std.specs.Prelude.{◌≡◌, true, ◌&&◌, cond, List, ℕ, suc, ◌+◌, ◌-◌, ◌*◌, ◌^◌, leb, ltb, length}
use Rattle.std.specs.Prelude.{Option, None as none, Some as some}
use Rattle.theory.specs.Limit.{max_width}
use Rattle.theory.specs.Kind.{arity, takes}
use Rattle.theory.specs.Sort.{Sort, bad, bool, bv, guard, all_are, is_bv_sort, good, all_bv, sort_width, sum_widths, first, is_width, alike, same_sort, sort_of}
use Rattle.theory.specs.Term as T
use Rattle.theory.specs.Depth.{depth}
use Rattle.theory.specs.Plain.{Plain}
use Rattle.terms.specs.declared.Term.{Term}
use Rattle.terms.specs.declared.Term.TheVariants as D
use Rattle.terms.specs.Decoded.{op_of, operands_of, arguments_of}
use Rattle.store.specs.declared.sorts.Sort.{Sort as Read}
use Rattle.store.specs.declared.gates.Kept.{Kept}
use Rattle.store.specs.Kept.{KeptArguments}
use Rattle.store.specs.Sorts.{sort_read, sorts_at, deepest_at}
use Rattle.intern.specs.declared.kinds.SortAndDepth.{SortAndDepth}
use Rattle.intern.specs.declared.kinds.Asks.{Asks}
use Rattle.intern.specs.declared.kinds.Asks.TheVariants.{Nothing, Width, Value, Bools, Same, Bit, Bits, Alike, Order, Compare, Concat, Extract, Extend, Copies}

-- what a term asks
abbrev pub asks_of : Term → Asks
asks_of D.True = Nothing
asks_of D.False = Nothing
asks_of (D.BoolVar x) = Nothing
asks_of (D.BvVar n x) = Width n
asks_of (D.Const n x) = Value n x
asks_of (D.Not x) = Bools
asks_of (D.And a) = Bools
asks_of (D.Or a) = Bools
asks_of (D.Xor x y) = Bools
asks_of (D.Equals x y) = Same
asks_of (D.Ite c x y) = Bools
asks_of (D.BvBitOf i x) = Bit i
asks_of (D.BvBbTerm a) = Bits
asks_of (D.BvNot x) = Alike
asks_of (D.BvNeg x) = Alike
asks_of (D.BvAnd a) = Alike
asks_of (D.BvOr a) = Alike
asks_of (D.BvXor a) = Alike
asks_of (D.BvAdd a) = Alike
asks_of (D.BvMul a) = Alike
asks_of (D.BvXNor x y) = Alike
asks_of (D.BvComp x y) = Compare
asks_of (D.BvULt x y) = Order
asks_of (D.BvSLt x y) = Order
asks_of (D.BvShl x y) = Alike
asks_of (D.BvLShr x y) = Alike
asks_of (D.BvAShr x y) = Alike
asks_of (D.BvUDiv x y) = Alike
asks_of (D.BvURem x y) = Alike
asks_of (D.BvConcat a) = Concat
asks_of (D.BvExtract i j x) = Extract i j
asks_of (D.SignExtend k x) = Extend k
asks_of (D.ZeroExtend k x) = Extend k
asks_of (D.RotateLeft k x) = Alike
asks_of (D.RotateRight k x) = Alike
asks_of (D.Repeat k x) = Copies k

-- the sort of a term that asks this, from the sorts of its arguments
abbrev pub asked_sort : Asks → List Sort → Sort
asked_sort Nothing ss = bool
asked_sort (Width n) ss = guard (is_width n) (bv n)
asked_sort (Value n x) ss = guard (is_width n && ltb x (2 ^ n)) (bv n)
asked_sort Bools ss = guard (all_are bool ss) bool
asked_sort Same ss = guard (good (first ss) && all_are (first ss) ss) bool
asked_sort (Bit i) ss = guard (is_bv_sort (first ss) && ltb i (sort_width (first ss))) bool
asked_sort Bits ss = guard (all_are bool ss) (bv (length ss))
asked_sort Alike ss = guard (alike ss) (first ss)
asked_sort Order ss = guard (alike ss) bool
asked_sort Compare ss = guard (alike ss) (bv 1)
asked_sort Concat ss = guard (all_bv ss && is_width (sum_widths ss)) (bv (sum_widths ss))
asked_sort (Extract i j) ss = guard (is_bv_sort (first ss) && (leb j i && ltb i (sort_width (first ss)))) (bv (i - j + 1))
asked_sort (Extend k) ss = guard (is_bv_sort (first ss) && leb (sort_width (first ss) + k) max_width) (bv (sort_width (first ss) + k))
asked_sort (Copies k) ss = guard (is_bv_sort (first ss) && is_width (k * sort_width (first ss))) (bv (k * sort_width (first ss)))

-- the depth of a term that asks this, from its first argument's sort and the depth of the deepest
abbrev pub asked_depth : Asks → Sort → ℕ → ℕ
asked_depth Nothing s d = 0
asked_depth (Width n) s d = 0
asked_depth (Value n x) s d = 0
asked_depth Bools s d = suc d
asked_depth Same s d = cond (same_sort s bool) (suc d) 0
asked_depth (Bit i) s d = 0
asked_depth Bits s d = d
asked_depth Alike s d = 0
asked_depth Order s d = 0
asked_depth Compare s d = 0
asked_depth Concat s d = 0
asked_depth (Extract i j) s d = 0
asked_depth (Extend k) s d = 0
asked_depth (Copies k) s d = 0

-- of arguments of these sorts, a and b ask the same
pub record SameAsked (a b : Asks) (ss : List Sort) : Type 0 where
  pub sorts : asked_sort b ss ≡ asked_sort a ss
  pub depths : (d : ℕ) → asked_depth b (first ss) d ≡ asked_depth a (first ss) d

-- a term that may be kept: its arguments are kept, and as many as its kind takes
pub record Fitting (k : Kept) (t : Term) : Type 0 where
  pub arguments : KeptArguments k (operands_of t)
  pub number : takes (arity (op_of t)) (length (arguments_of k.lookup.job.now t)) ≡ true

-- the depth of the deepest of the terms at these places where all are Bools
unfoldable pub deepest_bool : Plain → List ℕ → Option ℕ
deepest_bool list ks = cond (all_are bool (sorts_at list ks)) (some (deepest_at list ks)) none

-- the sort s of a term that asks for Bools, and its depth, `more` than that of its deepest argument, unless an argument is no Bool
abbrev pub of_bools : Option ℕ → Read → ℕ → Option SortAndDepth
of_bools none s more = none
of_bools (some d) s more = some (record { sort = s; depth = d + more })

-- its sort, bad where there is none
abbrev pub sort_in : Option SortAndDepth → Sort
sort_in none = bad
sort_in (some m) = sort_read m.sort

-- the sort of a term, and its depth where it has a sort
pub record SortDepthOf (t : T.Term) (r : Option SortAndDepth) : Type 0 where
  pub sort_is : sort_in r ≡ sort_of t
  pub depth_is : (m : SortAndDepth) → r ≡ some m → m.depth ≡ depth t
