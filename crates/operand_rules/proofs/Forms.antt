-- `let V(..) = term_at(..) else { .. }`: what theory's definitions make of the term at a place, by what it was decoded as.
use mathlib.Core.Path.{◌≡◌, sym, ap, ap₂, subst, ◌∙◌}
use mathlib.Core.Bool.{Bool, true, false, ◌&&◌, cond}
use mathlib.Core.List.{List, [], ◌∷◌, map}
use Rattle.std.specs.Prelude.{None as none, Some as some}
use Prim.Native.Nat.{ℕ, ◌+◌, ◌<◌}
use native.Mathlib.Omega.{arith}
use lib.Dec.{T, eqb, ltb, ltb→lt}
use lib.Ieee.Fits.{and_l, and_r}
use lib.ListN.{length, get_or}
use borrow.Enum.Refused.{Among, opened}
use denote.Enum.Declared.{tag_of}
use Rattle.theory.specs.Limit.{first_terms}
use Rattle.theory.specs.Kind.{Op, Equals, kind, indices, arity, takes}
use Rattle.theory.specs.Term.{Term, node, nil, cons, fold, to_list, from_list}
use Rattle.theory.specs.Sort.{Sort, bool, guard, good, all_are, alike, fitting, result_sort, same_sort, is_bv_sort, sort_of}
use Rattle.theory.specs.Record.{Bytes}
use Rattle.theory.specs.Codes.{all_below}
use Rattle.theory.specs.Verdict.{Verdict, wrong_form}
use Rattle.theory.specs.RuleTable.{Rule}
use Rattle.theory.specs.Rule.{args_of, one_of, two_of, nth, index_of, form, unary, binary, on_sides, verdict}
use Rattle.theory.proofs.Places.{tree_at, tree_of}
use Rattle.theory.proofs.Run.{good_at}
use Rattle.theory.proofs.Sorts.{is_bv}
use Rattle.theory.proofs.Blast.{to_from_list}
use Rattle.terms.specs.declared.Term.{Term as Decoded}
use Rattle.terms.specs.declared.Term.TheVariants as D
use Rattle.terms.specs.declared.Operands.{Operands}
use Rattle.terms.specs.declared.Operands.TheVariants.{One as OneArg, Two as TwoArgs, List as Listed}
use Rattle.terms.specs.declared.Args.{Args}
use Rattle.terms.specs.Decoded.{Inside, OperandsPlaced, op_of, operands_of, numbers_of, arguments_of}
use Rattle.terms.proofs.Cases.{kinds, all_other, other_kind}
use Rattle.terms.specs.contracts.Term as E
use Rattle.store.specs.Store.{Store, listed}
use Rattle.store.specs.Terms.{TermAt}
use Rattle.store.specs.declared.gates.Kept.{Kept}
use Rattle.store.specs.Kept.{IsTermAt, kept_term, kept_width}
use Rattle.store.proofs.Keeping.{store_of}
use Rattle.operand_rules.specs.Rules.{Operand, OneFits, Same}
use Rattle.operand_rules.proofs.Tests.{same_eqb}
use Rattle.theory.proofs.Basics.{true_T}
use Rattle.theory.proofs.Sound.{same_sort_eq}

-- ---- sorts
pub good_guard : (b : Bool) (s : Sort) → T (good (guard b s)) → T b
unfolding guard
good_guard true s h = tt
good_guard false s h = absurd h

-- the term at a place
abbrev pub tree : Bytes → Bytes → ℕ → ℕ → Term
tree job work n x = tree_at (listed job work n) x

-- ---- the else of a pattern, by the pattern's number among the cases
abbrev without : ℕ → List ℕ → List ℕ
without k [] = []
without k (j ∷ js) = cond (eqb j k) (without k js) (j ∷ without k js)

-- the cases but this one and the first, which no pattern is
abbrev pub others : ℕ → List ℕ
others k =
    without k
    (1 ∷ 2 ∷ 3 ∷ 4 ∷ 5 ∷ 6 ∷ 7 ∷ 8 ∷ 9 ∷ 10 ∷ 11 ∷ 12 ∷ 13 ∷ 14 ∷ 15 ∷ 16 ∷ 17 ∷ 18 ∷ 19 ∷ 20 ∷ 21 ∷ 22 ∷ 23 ∷ 24 ∷ 25 ∷ 26 ∷ 27 ∷ 28 ∷ 29 ∷ 30 ∷ 31 ∷ 32 ∷ 33 ∷ 34 ∷ 35 ∷ [])

pub not_kind : (k : ℕ) (t : Decoded) → Among (0 ∷ others k) (tag_of E.the_type t) → T (all_other (get_or kinds k 0) (0 ∷ others k))
    → eqb (kind (op_of t)) (get_or kinds k 0) ≡ false
not_kind k t e h = other_kind (get_or kinds k 0) 0 (others k) t (opened e) h

module _ {job work : Bytes} {n p : ℕ} {t : Decoded} (s : TermAt job work n p t) where
  -- a term of another kind has not the form
  pub no_form : (k : ℕ) → eqb (kind (op_of t)) k ≡ false → (f : List Term → Verdict) → wrong_form ≡ form (args_of k (tree job work n p)) f
  unfolding args_of
  no_form k e f =
      sym (ap (λ (u : Term). form (args_of k u) f) s.made
      ∙ ap (λ (b : Bool). form (cond b (some (to_list (from_list (map (tree_at (listed job work n)) (arguments_of job t))))) none) f) e)

  -- the else of a pattern
  pub no_case : (k : ℕ) → Among (0 ∷ others k) (tag_of E.the_type t) → T (all_other (get_or kinds k 0) (0 ∷ others k)) → (f : List Term → Verdict)
      → wrong_form ≡ form (args_of (get_or kinds k 0) (tree job work n p)) f
  no_case k e h f = no_form (get_or kinds k 0) (not_kind k t e h) f

  -- the tree, by its kind and arguments
  pub made_of : (o : Op) (ops : Operands) → op_of t ≡ o → operands_of t ≡ ops → tree job work n p ≡ tree_of (listed job work n) o (numbers_of job ops)
  made_of o ops e d = s.made ∙ ap₂ (λ (q : Op) (r : Operands). tree_of (listed job work n) q (numbers_of job r)) e d

  pub below_of : (ops : Operands) → operands_of t ≡ ops → T (all_below p (numbers_of job ops))
  below_of ops d = true_T _ (sym (ap (λ (r : Operands). all_below p (numbers_of job r)) d) ∙ s.below)

  -- ---- any arguments: the term is of kind o, and these are its arguments
  pub args_form : (o : Op) (ops : Operands) → op_of t ≡ o → operands_of t ≡ ops → (f : List Term → Verdict)
      → form (args_of (kind o) (tree job work n p)) f ≡ f (map (tree_at (listed job work n)) (numbers_of job ops))
  unfolding args_of
  args_form o ops e d f =
      let us = map (tree_at (listed job work n)) (numbers_of job ops) in
      ap (λ (u : Term). form (args_of (kind o) u) f) (made_of o ops e d)
      ∙ ap (λ (b : Bool). form (cond b (some (to_list (from_list us))) none) f) (same_eqb (kind o))
      ∙ ap f (to_from_list us)

  -- ---- a list of arguments
  pub list_inside : (a : Args) → operands_of t ≡ Listed a → Inside job a
  list_inside a d = subst (λ (r : Operands). OperandsPlaced job r) d s.placed

  -- ---- one argument
  pub one_form : (o : Op) (x : ℕ) → op_of t ≡ o → operands_of t ≡ OneArg x → (f : Term → Verdict) → unary (kind o) (tree job work n p) f ≡ f (tree job work n x)
  one_form o x e d f = args_form o (OneArg x) e d (λ ts. form (one_of ts) f)

  -- a number in the kind
  pub index_is : (i : ℕ) (o : Op) → op_of t ≡ o → index_of i (tree job work n p) ≡ nth i (indices o)
  index_is i o e = ap (index_of i) s.made ∙ ap (λ (q : Op). nth i (indices q)) e

  -- a kind with numbers in it
  pub indexed_form : (o : Op) (x : ℕ) → op_of t ≡ o → operands_of t ≡ OneArg x → (f : (ℕ → ℕ) → Term → Verdict)
      → f (λ i. nth i (indices o)) (tree job work n x) ≡ unary (kind o) (tree job work n p) (f (λ i. index_of i (tree job work n p)))
  indexed_form o x e d f =
      sym (one_form o x e d (f (λ i. index_of i (tree job work n p)))
      ∙ ap (λ (g : ℕ → ℕ). f g (tree job work n x)) (ap {B = ℕ → ℕ} (λ (u : Term) (i : ℕ). index_of i u) s.made ∙ ap {B = ℕ → ℕ} (λ (q : Op) (i : ℕ). nth i (indices q)) e))

  pub one_below : (x m : ℕ) → operands_of t ≡ OneArg x → p < m → x < m
  one_below x m d h = let l = ltb→lt x p (and_l (ltb x p) _ (below_of (OneArg x) d)) in omega arith

  -- ---- two arguments
  pub two_form : (o : Op) (x y : ℕ) → op_of t ≡ o → operands_of t ≡ TwoArgs x y → (f : Term → Term → Verdict)
      → binary (kind o) (tree job work n p) f ≡ f (tree job work n x) (tree job work n y)
  two_form o x y e d f = args_form o (TwoArgs x y) e d (λ ts. form (two_of ts) (λ q. f q.0 q.1))

  pub left_below : (x y m : ℕ) → operands_of t ≡ TwoArgs x y → p < m → x < m
  left_below x y m d h = let l = ltb→lt x p (and_l (ltb x p) _ (below_of (TwoArgs x y) d)) in omega arith

  pub right_below : (x y m : ℕ) → operands_of t ≡ TwoArgs x y → p < m → y < m
  right_below x y m d h = let l = ltb→lt y p (and_l (ltb y p) _ (and_r (ltb x p) _ (below_of (TwoArgs x y) d))) in omega arith

  -- ---- the sorts of a term's arguments: every term of the list has a sort
  pub fits : Store job work n → p < first_terms + n → (o : Op) (ops : Operands) → op_of t ≡ o → operands_of t ≡ ops
      → T (good (sort_of (tree_of (listed job work n) o (numbers_of job ops))))
  fits store there o ops e d =
      let c = store.count in
      subst (λ (u : Term). T (good (sort_of u))) (made_of o ops e d) (good_at (listed job work n) p store.sorted (omega arith))

  -- where its kind asks that they are alike
  module _ (store : Store job work n) (there : p < first_terms + n) (o : Op) (asks : (ss : List Sort) → fitting o ss ≡ alike ss) where
    two_alike : (a b : Term) → T (good (sort_of (node o (cons a (cons b nil))))) → T (is_bv_sort (sort_of a)) × (sort_of a ≡ sort_of b)
    unfolding fold
    two_alike a b g =
        let ss = sort_of a ∷ sort_of b ∷ [] in
        let h = subst T (asks ss) (and_r (takes (arity o) (length ss)) _ (good_guard (takes (arity o) (length ss) && fitting o ss) (result_sort o ss) g)) in (
          and_l (is_bv_sort (sort_of a)) _ h,
          same_sort_eq (sort_of a) (sort_of b) (and_l (same_sort (sort_of a) (sort_of b)) _ (and_r (same_sort (sort_of a) (sort_of a)) _ (and_r (is_bv_sort (sort_of a)) _ h))),
        )

  -- ---- an equation's sides are of one sort
  same_two : (a b : Term) → T (good (sort_of (node Equals (cons a (cons b nil))))) → sort_of a ≡ sort_of b
  unfolding fold
  same_two a b g =
      let ss = sort_of a ∷ sort_of b ∷ [] in
      let h = good_guard (good (sort_of a) && all_are (sort_of a) ss) bool g in
      same_sort_eq (sort_of a) (sort_of b) (and_l (same_sort (sort_of a) (sort_of b)) _ (and_r (same_sort (sort_of a) (sort_of a)) _ (and_r (good (sort_of a)) _ h)))

  -- ---- the literal of a rule
  pub no_equation : (rule : Rule) → Among (0 ∷ others 9) (tag_of E.the_type t) → wrong_form ≡ verdict rule (tree job work n p)
  unfolding verdict
  no_equation rule e = no_case 9 e tt _

  -- it is an equation of l and r
  module _ {l r : ℕ} (e : t ≡ D.Equals l r) where
    -- a verdict on its sides is the one on it
    pub of_sides : (f : Term → Term → Verdict) {v : Verdict} → v ≡ f (tree job work n l) (tree job work n r) → v ≡ binary (kind Equals) (tree job work n p) f
    of_sides f q = q ∙ sym (two_form Equals l r (ap op_of e) (ap operands_of e) f)

    -- its sides stand before it
    pub sides_below : {m : ℕ} → p < m → (l < m) × (r < m)
    sides_below {m} h = (left_below l r m (ap operands_of e) h, right_below l r m (ap operands_of e) h)

  pub sides : (rule : Rule) {l r : ℕ} → t ≡ D.Equals l r → on_sides rule (tree job work n l) (tree job work n r) ≡ verdict rule (tree job work n p)
  unfolding verdict
  sides rule {l} {r} e = sym (two_form Equals l r (ap op_of e) (ap operands_of e) (on_sides rule))

-- a term of one argument that fits
pub one_fitting : (o : Op) (a : Term) → T (good (sort_of (node o (cons a nil)))) → T (fitting o (sort_of a ∷ []))
unfolding fold
one_fitting o a g =
    let ss = sort_of a ∷ [] in
    and_r (takes (arity o) (length ss)) _ (good_guard (takes (arity o) (length ss) && fitting o ss) (result_sort o ss) g)

-- ---- what a rule's check may take for granted
module _ (k : Kept) {p : ℕ} {t : Decoded} (s : IsTermAt k p t) (there : p < first_terms + k.lookup.rows) where
  module _ (o : Op) (asks : (ss : List Sort) → fitting o ss ≡ alike ss) where
    -- of an operation of two bit-vectors of one width
    pub two_given : {x y : ℕ} → (op_of t ≡ o) × (operands_of t ≡ TwoArgs x y) → Operand k x (kept_width k x) × Operand k y (kept_width k x)
    two_given {x} {y} (e, d) =
        let g = two_alike s (store_of k) there o asks (kept_term k x) (kept_term k y) (fits s (store_of k) there o (TwoArgs x y) e d) in
        let b = is_bv (sort_of (kept_term k x)) g.0 in
        (record { there = left_below s x y _ d there; sort = b }, record { there = right_below s x y _ d there; sort = sym g.1 ∙ b })

  -- of an operation of one bit-vector whose kind may have numbers in it
  pub one_fits : (o : Op) (asks : (r : Sort) → T (fitting o (r ∷ [])) → T (is_bv_sort r)) (x claim : ℕ) → op_of t ≡ o → operands_of t ≡ OneArg x
      → claim < first_terms + k.lookup.rows → OneFits k o x claim
  one_fits o asks x claim e d c =
      let h = one_fitting o (kept_term k x) (fits s (store_of k) there o (OneArg x) e d) in
      record {
        one = record { only = record { there = one_below s x _ d there; sort = is_bv (sort_of (kept_term k x)) (asks (sort_of (kept_term k x)) h) }; claimed = c };
        fits = h;
      }

  pub same_given : (x y claim : ℕ) → op_of t ≡ Equals → operands_of t ≡ TwoArgs x y → claim < first_terms + k.lookup.rows → Same k x y claim
  same_given x y claim e d c = record {
    left = left_below s x y _ d there;
    right = right_below s x y _ d there;
    same = sym (same_two s (kept_term k x) (kept_term k y) (fits s (store_of k) there Equals (TwoArgs x y) e d));
    claimed = c;
  }
