-- Terms that ask for Bools: one look at each argument says whether it is one, and how deep it is.
use mathlib.Core.Path.{◌≡◌, refl, sym, ap, subst, ◌∙◌}
use mathlib.Core.Bool.{Bool, true, false, cond}
use mathlib.Core.List.{List}
use Prim.Native.Nat.{ℕ, suc, ◌+◌, ◌<◌, ◌≤◌, max}
use native.Mathlib.Nat.{add-zero}
use native.Mathlib.Omega.{arith}
use lib.Dec.{T}
use lib.ListN.{length, get_or, length-map}
use Rattle.theory.proofs.Basics.{some_inj}
use Rattle.theory.specs.Limit.{first_terms}
use Rattle.theory.specs.Kind.{arity, takes}
use Rattle.theory.specs.Sort.{Sort, bool, guard, same_sort, all_are, first, sort_of}
use Rattle.theory.specs.Depth.{depth}
use Rattle.theory.specs.Record.{Bytes}
use Rattle.theory.specs.Plain.{Plain}
use Rattle.theory.specs.Codes.{all_below}
use Rattle.theory.proofs.Bounds.{place_depth, deepest_le}
use Rattle.theory.proofs.Places.{tree_at, tree_of}
use Rattle.std.specs.Prelude.{Option, None as none, Some as some}
use Rattle.terms.specs.declared.Term.{Term as Decoded}
use Rattle.terms.specs.Decoded.{op_of}
use Rattle.store.specs.declared.sorts.Sort.{Sort as Read}
use Rattle.store.specs.declared.sorts.Sort.TheVariants as R
use Rattle.store.specs.Measure.{bool_depth}
use Rattle.store.specs.Store.{Store, listed}
use Rattle.store.specs.Sorts.{sort_read, sorts_at, deepest_at}
use Rattle.intern.specs.declared.kinds.SortAndDepth.{SortAndDepth}
use Rattle.intern.specs.declared.kinds.Asks.{Asks}
use Rattle.intern.specs.declared.kinds.Asks.TheVariants.{Bools, Bits}
use Rattle.intern.specs.Kinds.{asks_of, asked_sort, asked_depth, deepest_bool, of_bools, sort_in, SameAsked, SortDepthOf}
use Rattle.intern.proofs.Arguing.{AllAre, are_turn, are_not, are_end, Deepening, deep_turn, deep_end}
use Rattle.intern.proofs.Asking.{asked, asked_bits, depth_of, depth_gate, sort_is, depth_is}

-- ---- no depth is missing
module _ {job work : Bytes} {n : ℕ} (s : Store job work n) where
  pub deepest_small : (ks : List ℕ) → all_below (first_terms + n) ks ≡ true → deepest_at (listed job work n) ks ≤ n + 1
  deepest_small ks e =
      let c = s.count in
      let l : first_terms + n ≡ suc (n + 1) = omega arith in
      deepest_le (listed job work n) (n + 1) (λ k h. place_depth (listed job work n) s.well (suc k) k (omega arith) (omega arith)) ks
      (subst (λ (m : ℕ). T (all_below m ks)) l (subst T (sym e) tt))

-- what is there or not tells of the test that it stands behind
there_on : (b : Bool) {x y : ℕ} → cond b (some x) none ≡ some y → (b ≡ true) × (x ≡ y)
there_on true {x} {y} e = (refl, some_inj x y e)
there_on false e = absurd (cc)

none_off : (b : Bool) (x : ℕ) → cond b (some x) none ≡ none → b ≡ false
none_off true x e = absurd (cc)
none_off false x e = refl

-- ---- the deepest: the arguments before i are Bools
pub record DeepeningBools (list : Plain) (ks : List ℕ) (most i : ℕ) : Type 0 where
  pub are : AllAre bool list ks i
  pub deep : Deepening list ks most i

module _ {list : Plain} {ks : List ℕ} where
  -- argument i, by its depth where it is a Bool
  module _ {most i : ℕ} (p : DeepeningBools list ks most i) (h : i < length ks) {x : ℕ} (e : x ≡ get_or ks i 0) {q : Option ℕ} (f : q ≡ bool_depth (tree_at list x)) where
    sort_at : sort_of (tree_at list x) ≡ sort_of (tree_at list (get_or ks i 0))
    sort_at = ap (λ (k : ℕ). sort_of (tree_at list k)) e

    pub bools_turn : {d : ℕ} → q ≡ some d → {m : ℕ} → m ≡ max most d → DeepeningBools list ks m (i + 1)
    unfolding bool_depth
    bools_turn g r =
        let b = there_on (same_sort bool (sort_of (tree_at list x))) (sym f ∙ g) in
        record { are = are_turn p.are h sort_at b.0; deep = deep_turn p.deep h (sym b.1 ∙ ap (λ (k : ℕ). depth (tree_at list k)) e) r }

    pub bools_not : q ≡ none → none ≡ deepest_bool list ks
    unfolding bool_depth deepest_bool
    bools_not g =
        ap (λ (b : Bool). cond b (some (deepest_at list ks)) none)
        (are_not p.are h sort_at (none_off (same_sort bool (sort_of (tree_at list x))) (depth (tree_at list x)) (sym f ∙ g)))

  pub bools_end : {most i : ℕ} → DeepeningBools list ks most i → length ks ≤ i → some most ≡ deepest_bool list ks
  unfolding deepest_bool
  bools_end p h = ap some (deep_end p.deep h) ∙ ap (λ (b : Bool). cond b (some (deepest_at list ks)) none) (are_end p.are h)

-- ---- what comes to the same
-- once it is known what is asked
pub asks_as : {a b x : Asks} {ss : List Sort} → x ≡ a → SameAsked x b ss → SameAsked a b ss
asks_as {a} {b} {x} {ss} e s = subst (λ (y : Asks). SameAsked y b ss) e s

-- the depth of what has one
abbrev pub depth_in : Option SortAndDepth → ℕ
depth_in none = 0
depth_in (some m) = m.depth

pub some_not : (m : SortAndDepth) → ◌≡◌ {A = Option SortAndDepth} (some m) none → ⊥
some_not m e = cc

-- a term of the arguments js that asks a
module _ (list : Plain) (t : Decoded) {js : List ℕ} (number : takes (arity (op_of t)) (length js) ≡ true) {ks : List ℕ} (same : ks ≡ js) {a : Asks}
    (asks : SameAsked (asks_of t) a (sorts_at list ks)) {r : Option SortAndDepth} where
  pub asked_both : sort_in r ≡ asked_sort a (sorts_at list ks)
      → ((m : SortAndDepth) → r ≡ some m → m.depth ≡ asked_depth a (first (sorts_at list ks)) (deepest_at list ks)) → SortDepthOf (tree_of list (op_of t) js) r
  asked_both e f = record {
    sort_is = sort_is list t js number (e ∙ asks.sorts ∙ ap (λ (y : List ℕ). asked_sort (asks_of t) (sorts_at list y)) same);
    depth_is = λ m g. depth_is list t js
        (f m g ∙ asks.depths (deepest_at list ks) ∙ ap (λ (y : List ℕ). asked_depth (asks_of t) (first (sorts_at list y)) (deepest_at list y)) same);
  }

  module _ {d : Option ℕ} (e : d ≡ deepest_bool list ks) where
    module _ (s : Read) (more : ℕ) (f : r ≡ of_bools d s more) where
      by_test : (b : Bool) → d ≡ cond b (some (deepest_at list ks)) none
          → (sort_in r ≡ guard b (sort_read s)) × ((m : SortAndDepth) → r ≡ some m → m.depth ≡ deepest_at list ks + more)
      unfolding guard
      by_test true q =
          let g = f ∙ ap (λ (x : Option ℕ). of_bools x s more) q in
          (ap sort_in g, λ m h. ap depth_in (sym h ∙ g))
      by_test false q =
          let g = f ∙ ap (λ (x : Option ℕ). of_bools x s more) q in
          (ap sort_in g, λ m h. absurd (some_not m (sym h ∙ g)))

      told : (sort_in r ≡ guard (all_are bool (sorts_at list ks)) (sort_read s)) × ((m : SortAndDepth) → r ≡ some m → m.depth ≡ deepest_at list ks + more)
      unfolding deepest_bool
      told = by_test (all_are bool (sorts_at list ks)) e

    -- a gate
    pub gate_both : a ≡ Bools → r ≡ of_bools d R.Bool 1 → SortDepthOf (tree_of list (op_of t) js) r
    gate_both b f =
        let q = told R.Bool 1 f in
        asked_both (asked (sorts_at list ks) b q.0) (λ m g. q.1 m g ∙ depth_gate (first (sorts_at list ks)) (deepest_at list ks) b refl)

    -- a BvBbTerm
    pub bits_both : a ≡ Bits → {m : ℕ} → m ≡ length ks → r ≡ of_bools d (R.Bv m) 0 → SortDepthOf (tree_of list (op_of t) js) r
    bits_both b {m} l f =
        let q = told (R.Bv m) 0 f in
        asked_both (asked_bits (sorts_at list ks) b refl (l ∙ sym (length-map ks (λ (k : ℕ). sort_of (tree_at list k)))) q.0)
        (λ n g. q.1 n g ∙ depth_of (first (sorts_at list ks)) (deepest_at list ks) b (add-zero (deepest_at list ks)))
