-- The bits of a term, by its kind.
use mathlib.Core.Path.{◌≡◌, refl, sym, ap, ap₂, subst, ◌∙◌}
use mathlib.Core.Bool.{Bool, true, false, true≢false, not, ◌&&◌, ◌||◌, cond}
use mathlib.Core.List.{List, [], ◌∷◌, ◌++◌, map, append-nil}
use Prim.Native.Nat.{ℕ, zero, suc, ◌+◌, ◌≤◌, ◌<◌}
use native.Mathlib.Omega.{arith}
use lib.Dec.{T, leb, eqb, leb→le}
use lib.Ieee.Fits.{and_l, and_r}
use lib.ListN.{length, take, drop, get_or, length-drop}
use lib.Seq.{get_or-take, length-take-le}
use borrow.Author.Tests.{eq-eqb}
use Rattle.std.proofs.lemmas.List.{append_assoc}
use Rattle.theory.specs.Limit.{first_terms}
use Rattle.theory.specs.Kind.{Op, True, False, Not, And, Or, Xor, Equals, Ite, BoolVar, BvVar, Const, BvBitOf, BvBbTerm, kind}
use Rattle.theory.specs.Term.{Term, node, from_list, fold, folds}
use Rattle.theory.specs.Sort.{Sort, bad, bool, bv, guard, good, sort_op, sort_of, sort_width, all_are, same_sort}
use Rattle.theory.specs.Value.{bit_at}
use Rattle.theory.specs.Record.{Bytes, number_length}
use Rattle.theory.specs.Plain.{Plain}
use Rattle.theory.specs.Claim.{element}
use Rattle.theory.specs.Codes.{all_below}
use Rattle.theory.proofs.Basics.{true_T}
use Rattle.theory.specs.Places.{tree_at, tree_of}
use Rattle.theory.proofs.Run.{good_at}
use Rattle.theory.proofs.Sorts.{sized, sorts_sized}
use Rattle.theory.proofs.Sound.{same_sort_eq}
use Rattle.sweeps.proofs.Fitting.{fitted}
use Rattle.evaluation.proofs.ListLaws.{below_at}
use Rattle.terms.specs.declared.Args.{Args}
use Rattle.terms.specs.declared.Term.{Term as Decoded}
use Rattle.terms.specs.declared.Term.TheVariants as D
use Rattle.terms.specs.Decoded.{Inside, OperandsPlaced, op_of, operands_of, arguments_of, words_in}
use Rattle.store.specs.contracts.sorts.SortPartialEq.TheImpl as Derived
use Rattle.store.specs.declared.sorts.Sort.{Sort as Read}
use Rattle.store.specs.declared.sorts.Sort.TheVariants as S
use Rattle.store.specs.Sorts.{sort_read}
use Rattle.store.specs.Store.{listed}
use Rattle.store.specs.Shelf.{TermOn, args_at}
use Rattle.sweeps.specs.Variables.{is_variable, sort_bits, bits_in}
use Rattle.sweeps.specs.Known.{Known, unknown, of_byte, of_bool, lead, known, known_op, number_bits}
use Rattle.store.specs.KeptTerms.{kept_term}
use Rattle.marks.specs.Marks.{mark_of}
use Rattle.marks.proofs.MarkLaws.{count_is}
use Rattle.evaluation.specs.Cells.{cell_at}
use Rattle.ternary.specs.Gates.{row_known}
use Rattle.ternary.specs.Bits.{cell_bit, bit_kind_in, Closed, Offset, Tells, Sound, BitOn}
use Rattle.ternary.specs.KnownBits.{is_marked}
use Rattle.ternary.specs.declared.bits.KnownBits.{KnownBits}
use Rattle.ternary.proofs.GateLaws.{byte_back, join_row, row_start}

-- bit i may be asked of the term at place x
pub record BitAsked (job work : Bytes) (n x i : ℕ) : Type 0 where
  pub closed : Closed job work n
  pub low : x < first_terms + n
  pub marked : T (mark_of job work x)
  pub bit_low : i < bits_in (tree_at (listed job work n) x)

pub bit_asked : (k : KnownBits) {x i : ℕ} → x < first_terms + k.terms.rows → T (is_marked k x) → i < bits_in (kept_term k.terms x)
    → BitAsked k.terms.job.now k.terms.work.now k.terms.rows x i
bit_asked k l m b = record { closed = k.closed; low = l; marked = m; bit_low = b }

-- ---- bytes
pub past : (l : List ℕ) (k d : ℕ) → length l ≤ k → get_or l k d ≡ d
past [] k d h = refl
past (x ∷ l) zero d h = absurd (omega arith)
past (x ∷ l) (suc k) d h = past l k d (omega arith)

default : (l : List ℕ) (k d e : ℕ) → k < length l → get_or l k d ≡ get_or l k e
default [] k d e h = absurd (omega arith)
default (x ∷ l) zero d e h = refl
default (x ∷ l) (suc k) d e h = default l k d e (omega arith)

-- ---- a row of cells: those after the rest have come to acc
pub record Rowing (values : Bytes) (o : Bool) (ks : List ℕ) (acc : Known) (rest : List ℕ) : Type 0 where
  pub done : List ℕ
  pub whole : rest ++ done ≡ ks
  pub is : acc ≡ row_known o (map (cell_bit values) done)

module _ {values : Bytes} {o : Bool} {ks rest : List ℕ} where
  pub rowing_start : rest ≡ ks → Rowing values o ks (of_bool (not o)) rest
  rowing_start e = record { done = []; whole = append-nil rest ∙ e; is = row_start o }

  pub rowing_turn : {acc b r : Known} (k : ℕ) {others : List ℕ} → Rowing values o ks acc rest → rest ≡ others ++ k ∷ [] → b ≡ cell_bit values k → r ≡ row_known o (b ∷ acc ∷ []) → Rowing values o ks r others
  rowing_turn k {others} w e f g = record {
    done = k ∷ w.done;
    whole = sym (append_assoc others (k ∷ []) w.done) ∙ ap (λ (ls : List ℕ). ls ++ w.done) (sym e) ∙ w.whole;
    is = g ∙ ap₂ (λ (x y : Known). row_known o (x ∷ y ∷ [])) f w.is ∙ sym (join_row o (cell_bit values k) (map (cell_bit values) w.done));
  }

  pub rowing_done : {acc : Known} → Rowing values o ks acc rest → rest ≡ [] → acc ≡ row_known o (map (cell_bit values) ks)
  rowing_done w e = w.is ∙ ap (λ (ls : List ℕ). row_known o (map (cell_bit values) ls)) (ap (λ (ls : List ℕ). ls ++ w.done) (sym e) ∙ w.whole)

-- ---- the term at a place
folds_at : {A : Type 0} (alg : Op → List A → A) (list : Plain) (ks : List ℕ) → folds alg (from_list (map (tree_at list) ks)) ≡ map (λ (k : ℕ). fold alg (tree_at list k)) ks
unfolding fold
folds_at alg list [] = refl
folds_at {A} alg list (k ∷ ks) = ap (λ (r : List A). fold alg (tree_at list k) ∷ r) (folds_at alg list ks)

pub fold_of : {A : Type 0} (alg : Op → List A → A) (list : Plain) (o : Op) (ks : List ℕ) → fold alg (tree_of list o ks) ≡ alg o (map (λ (k : ℕ). fold alg (tree_at list k)) ks)
unfolding fold
fold_of alg list o ks = ap (alg o) (folds_at alg list ks)

-- the first bit is the leading one
pub first_bit : (bs : List Known) → get_or bs 0 unknown ≡ lead bs
first_bit [] = refl
first_bit (b ∷ bs) = refl

-- a Bool has at most one
one_bit_of : (s : Sort) → sort_width s ≡ 0 → sort_bits s ≤ 1
one_bit_of bad e = omega arith
one_bit_of bool e = omega arith
one_bit_of (bv m) e = omega arith

-- bits in a row
pub get_or_map : {A : Type 0} (f : A → Known) (l : List A) (i : ℕ) (d : A) → i < length l → get_or (map f l) i unknown ≡ f (get_or l i d)
get_or_map f [] i d h = absurd (omega arith)
get_or_map f (x ∷ l) zero d h = refl
get_or_map f (x ∷ l) (suc i) d h = get_or_map f l i d (omega arith)

-- the bit that an offset leads to
pub offset_bit : {input : Term → List Known} {list : Plain} {inputs values : Bytes} {p : ℕ} → Offset input list inputs values p → (i : ℕ) → i < bits_in (tree_at list p)
    → of_byte (get_or (drop (cell_at values p) inputs) i 2) ≡ get_or (known input (tree_at list p)) i unknown
offset_bit {list} {inputs} {values} {p} o i b =
    let bits = bits_in (tree_at list p) in
    let c = cell_at values p in
    let q = o.fits in
    let l = length-drop c inputs in
    let m : length (take bits (drop c inputs)) ≡ bits = length-take-le bits (drop c inputs) (omega arith) in
    ap of_byte (sym (get_or-take bits (drop c inputs) i 2 b)) ∙ sym (get_or_map of_byte (take bits (drop c inputs)) i 2 (omega arith)) ∙ ap (λ (bs : List Known). get_or bs i unknown) (sym o.bits_are)

const_bit : (v k i m : ℕ) → i < m → get_or (map of_bool (number_bits v k m)) i unknown ≡ of_bool (bit_at (k + i) v)
const_bit v k i zero h = absurd (omega arith)
const_bit v k zero (suc m) h = ap (λ (j : ℕ). of_bool (bit_at j v)) (let z : k ≡ k + 0 = omega arith in z)
const_bit v k (suc i) (suc m) h = const_bit v (suc k) i m (omega arith) ∙ ap (λ (j : ℕ). of_bool (bit_at j v)) (let z : suc k + i ≡ k + suc i = omega arith in z)

-- an argument is one of them
element_at : (ks : List ℕ) (i : ℕ) → i < length ks → T (element (get_or ks i 0) ks)
element_at [] i h = absurd (omega arith)
element_at (k ∷ ks) zero h = here (eqb k k) (eq-eqb k k refl)
  where
    here : (b : Bool) → b ≡ true → T (b || element k ks)
    here true e = tt
    here false e = absurd (let z : ◌≡◌ {A = ℕ} 0 1 = cc in omega arith)
element_at (k ∷ ks) (suc i) h = there (eqb (get_or ks i 0) k) (element_at ks i (omega arith))
  where
    there : (b : Bool) → T (element (get_or ks i 0) ks) → T (b || element (get_or ks i 0) ks)
    there true e = tt
    there false e = e

-- all are Bools
bools_at : (f : ℕ → Sort) (ks : List ℕ) (i : ℕ) → T (all_are bool (map f ks)) → i < length ks → bool ≡ f (get_or ks i 0)
bools_at f [] i a h = absurd (omega arith)
bools_at f (k ∷ ks) zero a h = same_sort_eq bool (f k) (and_l (same_sort bool (f k)) _ a)
bools_at f (k ∷ ks) (suc i) a h = bools_at f ks i (and_r (same_sort bool (f k)) _ a) (omega arith)

length_map : {A : Type 0} (f : ℕ → A) (ks : List ℕ) → length (map f ks) ≡ length ks
length_map f [] = refl
length_map f (k ∷ ks) = ap suc (length_map f ks)

pub good_bv : (b : Bool) (m : ℕ) → T (good (guard b (bv m))) → guard b (bv m) ≡ bv m
unfolding guard
good_bv true m g = refl
good_bv false m g = absurd g

-- a sort of width 0
pub only_bool : (s : Sort) → T (good s) → T (sized s) → sort_width s ≡ 0 → s ≡ bool
only_bool bool g z e = refl
only_bool (bv m) g z e = let a = leb→le 1 m (and_l (leb 1 m) _ z) in absurd (omega arith)
only_bool bad g z e = elim g [ ]

-- a term whose sort is not Bool has a width
pub has_width : (s : Read) (t : Term) → sort_read s ≡ sort_of t → {b : Bool} → b ≡ (Derived.ghosts).eq s S.Bool → b ≡ false → sort_width (sort_of t) ≡ 0 → ⊥
has_width S.Bool t e f g z = true≢false (sym f ∙ g)
has_width (S.Bv n) t e f g z =
    let q : T (leb 1 n && leb n 64) = subst (λ (r : Sort). T (sized r)) (sym e) (sorts_sized t) in
    let a = leb→le 1 n (and_l (leb 1 n) _ q) in
    let d : n ≡ 0 = ap sort_width e ∙ z in
    omega arith

pub bv_bool : (m : ℕ) → bv m ≡ bool → ⊥
bv_bool m e = let z : ◌≡◌ {A = ℕ} 0 1 = ap tag (sym e) in omega arith
  where
    tag : Sort → ℕ
    tag bad = 2
    tag bool = 0
    tag (bv n) = 1

get_or_of : {A : Type 0} (f : ℕ → A) (l : List ℕ) (i : ℕ) (d : A) → i < length l → get_or (map f l) i d ≡ f (get_or l i 0)
get_or_of f [] i d h = absurd (omega arith)
get_or_of f (x ∷ l) zero d h = refl
get_or_of f (x ∷ l) (suc i) d h = get_or_of f l i d (omega arith)

-- the bit that a Bool's cell tells
told : {input : Term → List Known} {list : Plain} {inputs values : Bytes} {p : ℕ} → Tells input list inputs values p → sort_width (sort_of (tree_at list p)) ≡ 0 → cell_bit values p ≡ lead (known input (tree_at list p))
told t e = ap of_byte (t.bool_is e) ∙ byte_back _

-- ---- the arguments of the marked term at a place
module _ {job work : Bytes} {n place : ℕ} {t : Decoded} (c : Closed job work n) (low : place < first_terms + n) (m : T (mark_of job work place)) (h : TermOn job work n place t) (u : Decoded) (e : t ≡ u) where
  made : tree_at (listed job work n) place ≡ tree_of (listed job work n) (op_of u) (arguments_of job u)
  made = h.term_at.made ∙ ap (λ (z : Decoded). tree_of (listed job work n) (op_of z) (arguments_of job z)) e

  args : arguments_of job u ≡ args_at (number_length job) (listed job work n) place
  args = ap (arguments_of job) (sym e) ∙ h.args_are

  abbrev pub sorts : List Sort
  sorts = map (λ (k : ℕ). sort_of (tree_at (listed job work n) k)) (arguments_of job u)

  pub sort_made : sort_of (tree_at (listed job work n) place) ≡ sort_op (op_of u) sorts
  sort_made = ap sort_of made ∙ fold_of sort_op (listed job work n) (op_of u) (arguments_of job u)

  pub good_made : T (good (sort_op (op_of u) sorts))
  good_made = subst (λ (s : Sort). T (good s)) sort_made (good_at (listed job work n) place c.shelf.sorted (omega (arith, c.shelf.count)))

  pub known_made : (input : Term → List Known) → known input (tree_at (listed job work n) place) ≡ known_op input (op_of u) (map (λ (k : ℕ). known input (tree_at (listed job work n) k)) (arguments_of job u))
  known_made input = ap (known input) made ∙ fold_of (known_op input) (listed job work n) (op_of u) (arguments_of job u)

  pub kind_made : T (bit_kind_in (tree_of (listed job work n) (op_of u) (arguments_of job u)))
  kind_made = subst (λ (z : Term). T (bit_kind_in z)) made (c.kinds place low m)

  -- an argument is marked, and stands below
  pub arg_marked : (i : ℕ) → i < length (arguments_of job u) → T (mark_of job work (get_or (arguments_of job u) i 0))
  arg_marked i l = c.closed place low m (get_or (arguments_of job u) i 0) (subst (λ (ks : List ℕ). T (element (get_or (arguments_of job u) i 0) ks)) args (element_at (arguments_of job u) i l))

  pub arg_low : (i : ℕ) → i < length (arguments_of job u) → get_or (arguments_of job u) i 0 < place
  arg_low i l = below_at place (arguments_of job u) i (subst (λ (z : Decoded). T (all_below place (arguments_of job z))) e (true_T _ h.term_at.below)) l

  -- a Bool argument's cell holds its bit
  pub arg_bit : T (all_are bool sorts) → {inputs values : Bytes} (input : Term → List Known) → Sound input (listed job work n) job work inputs values place → (i : ℕ) → i < length (arguments_of job u)
      → cell_bit values (get_or (arguments_of job u) i 0) ≡ lead (known input (tree_at (listed job work n) (get_or (arguments_of job u) i 0)))
  arg_bit a input sound i l =
      told (sound (get_or (arguments_of job u) i 0) (arg_low i l) (arg_marked i l))
      (sym (ap sort_width (bools_at (λ (k : ℕ). sort_of (tree_at (listed job work n) k)) (arguments_of job u) i a l)))

module _ {job work : Bytes} {n x i : ℕ} (s : BitAsked job work n x i) where
  abbrev list : Plain
  list = listed job work n

  place_low : x < length list
  place_low = omega (arith, s.closed.shelf.count, s.low)

  -- a Bool
  pub bit_bool : {inputs values : Bytes} {w : ℕ} {r : Known} → w ≡ sort_width (sort_of (tree_at list x)) → w ≡ 0 → r ≡ cell_bit values x → BitOn list job work inputs values x i r
  bit_bool e z f input sound =
      let o = one_bit_of (sort_of (tree_at list x)) (sym e ∙ z) in
      let b = s.bit_low in
      let k : 0 ≡ i = omega arith in
      f ∙ told (sound x (omega arith) s.marked) (sym e ∙ z)
      ∙ sym (first_bit (known input (tree_at list x))) ∙ ap (λ (j : ℕ). get_or (known input (tree_at list x)) j unknown) k

  -- a bit-vector variable
  pub bit_variable : {inputs values : Bytes} {c : ℕ} {r : Known} → (sort_width (sort_of (tree_at list x)) ≡ 0 → ⊥) → T (is_variable (tree_at list x)) → c ≡ cell_at values x
      → r ≡ of_byte (get_or (drop c inputs) i 2) → BitOn list job work inputs values x i r
  bit_variable {inputs} {values} z v d g input sound =
      let o = (sound x (omega arith) s.marked).variable_is z v in
      g ∙ ap (λ (j : ℕ). of_byte (get_or (drop j inputs) i 2)) d ∙ offset_bit o i s.bit_low

  -- at most 64 bits
  pub bit_small : i < 64
  bit_small = let b = s.bit_low in let f = go (sort_of (tree_at list x)) (sorts_sized (tree_at list x)) in omega arith
    where
      go : (r : Sort) → T (sized r) → sort_bits r ≤ 64
      go bad z = omega arith
      go bool z = omega arith
      go (bv m) z = leb→le m 64 (and_r (leb 1 m) _ z)

  module _ {t : Decoded} (h : TermOn job work n x t) where
    -- a constant
    pub bit_const : (m v : ℕ) → t ≡ D.Const m v → {inputs values : Bytes} {b : Bool} → b ≡ bit_at i v → BitOn list job work inputs values x i (of_bool b)
    unfolding known_op
    bit_const m v e f input sound =
        let d = D.Const m v in
        let b = s.bit_low in
        let q : bits_in (tree_at list x) ≡ m = ap sort_bits (sort_made s.closed s.low s.marked h d e ∙ good_bv _ m (good_made s.closed s.low s.marked h d e)) in
        ap of_bool f
        ∙ sym (ap (λ (bs : List Known). get_or bs i unknown) (known_made s.closed s.low s.marked h d e input) ∙ const_bit v 0 i m (omega arith) ∙ ap (λ (j : ℕ). of_bool (bit_at j v)) (let z : 0 + i ≡ i = omega arith in z))

    module _ (a : Args) (e : t ≡ D.BvBbTerm a) where
      row_bits : bits_in (tree_at list x) ≡ length (words_in job a)
      row_bits =
          ap sort_bits (sort_made s.closed s.low s.marked h (D.BvBbTerm a) e ∙ good_bv _ _ (good_made s.closed s.low s.marked h (D.BvBbTerm a) e))
          ∙ length_map (λ (k : ℕ). sort_of (tree_at list k)) (words_in job a)

      pub row_low : i < a.count
      row_low = let b = s.bit_low in let q = row_bits in let k = count_is job a in omega arith

      -- a row of Bools
      pub bit_row : {inputs values : Bytes} {j : ℕ} {r : Known} → j ≡ get_or (words_in job a) i 0 → r ≡ cell_bit values j → BitOn list job work inputs values x i r
      unfolding known_op
      bit_row {inputs} {values} f g input sound =
          let u = D.BvBbTerm a in
          let ks = words_in job a in
          let l : i < length ks = omega (arith, s.bit_low, row_bits) in
          let all = fitted BvBbTerm (sorts s.closed s.low s.marked h u e) (good_made s.closed s.low s.marked h u e) in
          g ∙ ap (cell_bit values) f
          ∙ arg_bit s.closed s.low s.marked h u e all input (λ k y z. sound k (omega arith) z) i l
          ∙ sym (ap (λ (bs : List Known). get_or bs i unknown) (known_made s.closed s.low s.marked h u e input)
          ∙ get_or_map lead (map (λ (k : ℕ). known input (tree_at list k)) ks) i [] (subst (λ (z : ℕ). i < z) (sym (length_map (λ (k : ℕ). known input (tree_at list k)) ks)) l)
          ∙ ap lead (get_or_of (λ (k : ℕ). known input (tree_at list k)) ks i [] l))

-- ---- no other kind of bit-vector is bit-level
bool_width : (b : Bool) → sort_width (guard b bool) ≡ 0
unfolding guard
bool_width true = refl
bool_width false = refl

not_true : true ≡ false → ⊥
not_true e = let z : ◌≡◌ {A = ℕ} 0 1 = ap (λ (b : Bool). cond b 0 1) e in omega arith

abbrev kind_of : Term → ℕ
kind_of (node o ts) = kind o

no_more : (t : Term) → T (bit_kind_in t) → (sort_width (sort_of t) ≡ 0 → ⊥) → eqb (kind_of t) 11 ≡ false → eqb (kind_of t) 12 ≡ false → eqb (kind_of t) 31 ≡ false → ⊥
unfolding fold
no_more (node True ts) h w a b c = w (bool_width _)
no_more (node False ts) h w a b c = w (bool_width _)
no_more (node (BoolVar v) ts) h w a b c = w (bool_width _)
no_more (node (BvVar m v) ts) h w a b c = not_true a
no_more (node (Const m v) ts) h w a b c = not_true b
no_more (node Not ts) h w a b c = w (bool_width _)
no_more (node And ts) h w a b c = w (bool_width _)
no_more (node Or ts) h w a b c = w (bool_width _)
no_more (node Xor ts) h w a b c = w (bool_width _)
no_more (node Equals ts) h w a b c = w (bool_width _)
no_more (node Ite ts) h w a b c = w (bool_width _)
no_more (node (BvBitOf j) ts) h w a b c = w (bool_width _)
no_more (node BvBbTerm ts) h w a b c = not_true c
no_more _ h w a b c = elim h [ ]

-- a decoded term that is none of these has another kind
not_variable : (t : Decoded) → ((m v : ℕ) → t ≡ D.BvVar m v → ⊥) → eqb (kind (op_of t)) 11 ≡ false
not_variable (D.BvVar m v) h = absurd (h m v refl)
not_variable t h = refl

not_const : (t : Decoded) → ((m v : ℕ) → t ≡ D.Const m v → ⊥) → eqb (kind (op_of t)) 12 ≡ false
not_const (D.Const m v) h = absurd (h m v refl)
not_const t h = refl

not_row : (t : Decoded) → ((a : Args) → t ≡ D.BvBbTerm a → ⊥) → eqb (kind (op_of t)) 31 ≡ false
not_row (D.BvBbTerm a) h = absurd (h a refl)
not_row t h = refl

pub bit_never : {job work : Bytes} {n x i : ℕ} → BitAsked job work n x i → {t : Decoded} → TermOn job work n x t → (sort_width (sort_of (tree_at (listed job work n) x)) ≡ 0 → ⊥)
    → ((m v : ℕ) → t ≡ D.BvVar m v → ⊥) → ((m v : ℕ) → t ≡ D.Const m v → ⊥) → ((a : Args) → t ≡ D.BvBbTerm a → ⊥) → ⊥
bit_never {job} {work} {n} {x} s {t} h z a b c =
    no_more (tree_of (listed job work n) (op_of t) (arguments_of job t)) (kind_made s.closed s.low s.marked h t refl) (λ q. z (ap (λ (y : Term). sort_width (sort_of y)) (made s.closed s.low s.marked h t refl) ∙ q))
    (not_variable t a) (not_const t b) (not_row t c)

-- a variable, by its decoded term
pub bv_variable : {job work : Bytes} {n x : ℕ} {t : Decoded} → TermOn job work n x t → (m v : ℕ) → t ≡ D.BvVar m v → T (is_variable (tree_at (listed job work n) x))
bv_variable {job} {work} {n} h m v e = subst (λ (y : Term). T (is_variable y)) (sym (h.term_at.made ∙ ap (λ (z : Decoded). tree_of (listed job work n) (op_of z) (arguments_of job z)) e)) tt

-- its arguments lie in the job
pub row_inside : {job work : Bytes} {n x : ℕ} {t : Decoded} → TermOn job work n x t → (a : Args) → t ≡ D.BvBbTerm a → Inside job a
row_inside {job} h a e = subst (λ (z : Decoded). OperandsPlaced job (operands_of z)) e h.term_at.placed
