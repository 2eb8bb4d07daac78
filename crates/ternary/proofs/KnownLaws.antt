-- The bit of a Bool, gate by gate.
use mathlib.Core.Path.{◌≡◌, refl, sym, ap, ap₂, subst, ◌∙◌}
use mathlib.Core.Bool.{Bool, true, false, ◌&&◌, ◌||◌}
use mathlib.Core.List.{List, [], ◌∷◌, map}
use Prim.Native.Nat.{ℕ, suc, ◌+◌, ◌<◌}
use native.Mathlib.Omega.{arith}
use lib.Dec.{T, ltb, ltb→lt}
use lib.Ieee.Fits.{and_l, and_r}
use lib.ListN.{length, drop, get_or}
use Rattle.theory.specs.Limit.{first_terms}
use Rattle.theory.specs.Term.{Term, fold}
use Rattle.theory.specs.Sort.{Sort, bool, bv, guard, good, sort_op, sort_of, sort_width, all_are, same_sort, is_bv_sort, fitting}
use Rattle.theory.specs.Record.{Bytes}
use Rattle.theory.specs.Plain.{Plain}
use Rattle.theory.specs.Places.{tree_at, tree_of}
use Rattle.theory.proofs.Run.{good_at}
use Rattle.theory.proofs.Sorts.{sorts_sized}
use Rattle.theory.proofs.Sound.{same_sort_eq}
use Rattle.sweeps.proofs.Fitting.{fitted}
use Rattle.terms.specs.declared.Args.{Args}
use Rattle.terms.specs.declared.Term.{Term as Decoded}
use Rattle.terms.specs.declared.Term.TheVariants as D
use Rattle.terms.specs.Decoded.{Inside, OperandsPlaced, op_of, operands_of, arguments_of, words_in}
use Rattle.store.specs.Store.{listed}
use Rattle.store.specs.Shelf.{TermOn}
use Rattle.sweeps.specs.Variables.{is_variable, sort_bits, bits_in}
use Rattle.sweeps.specs.Known.{Known, zero_bit, one_bit, of_byte, lead, known, known_op, not_known, xor_known, equal_known, ite_known, and_known, or_known}
use Rattle.store.specs.KeptTerms.{kept_width}
use Rattle.marks.specs.Marks.{mark_of}
use Rattle.evaluation.specs.Cells.{cell_at}
use Rattle.ternary.specs.Gates.{row_known}
use Rattle.ternary.specs.Bits.{cell_bit, bit_kind_in, Offset, Closed, Sound, BitOn, KnownOn}
use Rattle.ternary.specs.KnownBits.{is_marked}
use Rattle.ternary.specs.declared.bits.KnownBits.{KnownBits}
use Rattle.ternary.proofs.BitLaws.{BitAsked, sort_made, good_made, known_made, kind_made, arg_marked, arg_low, arg_bit, only_bool, good_bv, bv_bool, first_bit, offset_bit}

-- the bit may be asked of the Bool at a place
pub record KnownAsked (job work : Bytes) (n place : ℕ) : Type 0 where
  pub closed : Closed job work n
  pub low : place < first_terms + n
  pub marked : T (mark_of job work place)
  pub bool_there : sort_width (sort_of (tree_at (listed job work n) place)) ≡ 0

pub known_asked : (k : KnownBits) {place : ℕ} → place < first_terms + k.terms.rows → T (is_marked k place) → kept_width k.terms place ≡ 0
    → KnownAsked k.terms.job.now k.terms.work.now k.terms.rows place
known_asked k l m b = record { closed = k.closed; low = l; marked = m; bool_there = b }

row_same : (f g : ℕ → Known) (ks : List ℕ) → ((i : ℕ) → i < length ks → f (get_or ks i 0) ≡ g (get_or ks i 0)) → map f ks ≡ map g ks
row_same f g [] h = refl
row_same f g (k ∷ ks) h = ap₂ (λ (b : Known) (bs : List Known). b ∷ bs) (h 0 (omega arith)) (row_same f g ks (λ i l. h (suc i) (omega arith)))

map_map : (f : ℕ → List Known) (ks : List ℕ) → map (λ (k : ℕ). lead (f k)) ks ≡ map lead (map f ks)
map_map f [] = refl
map_map f (k ∷ ks) = ap (λ (bs : List Known). lead (f k) ∷ bs) (map_map f ks)

bv_bits : (s : Sort) → T (is_bv_sort s) → sort_width s ≡ sort_bits s
bv_bits (bv m) h = refl
bv_bits Rattle.theory.specs.Sort.bad h = elim h [ ]
bv_bits bool h = elim h [ ]

module _ {job work : Bytes} {n place : ℕ} (s : KnownAsked job work n place) {t : Decoded} (h : TermOn job work n place t) where
  abbrev list : Plain
  list = listed job work n

  bool_is : sort_of (tree_at list place) ≡ bool
  bool_is = only_bool (sort_of (tree_at list place)) (good_at list place s.closed.shelf.sorted (omega (arith, s.closed.shelf.count, s.low))) (sorts_sized (tree_at list place)) s.bool_there

  abbrev ArgsAreBool : Decoded → Type 0
  ArgsAreBool u = T (all_are bool (map (λ (k : ℕ). sort_of (tree_at list k)) (arguments_of job u)))

  module _ (u : Decoded) (e : t ≡ u) where
    -- the bit from what the arguments' bits come to
    pub known_out : {inputs values : Bytes} {r : Known}
        → ((input : Term → List Known) → Sound input list job work inputs values place → (T (is_variable (tree_at list place)) → Offset input list inputs values place)
        → r ≡ lead (known_op input (op_of u) (map (λ (k : ℕ). known input (tree_at list k)) (arguments_of job u))))
        → KnownOn list job work inputs values place r
    known_out f input sound own = f input sound own ∙ ap lead (sym (known_made s.closed s.low s.marked h u e input))

    -- a Bool argument's bit
    pub cell_is : ArgsAreBool u → {inputs values : Bytes} (input : Term → List Known) → Sound input list job work inputs values place → (i : ℕ) → i < length (arguments_of job u)
        → cell_bit values (get_or (arguments_of job u) i 0) ≡ lead (known input (tree_at list (get_or (arguments_of job u) i 0)))
    cell_is a input sound i l = arg_bit s.closed s.low s.marked h u e a input sound i l

    good_here : T (good (sort_op (op_of u) (map (λ (k : ℕ). sort_of (tree_at list k)) (arguments_of job u))))
    good_here = good_made s.closed s.low s.marked h u e

    fitted_here : T (fitting (op_of u) (map (λ (k : ℕ). sort_of (tree_at list k)) (arguments_of job u)))
    fitted_here = fitted (op_of u) (map (λ (k : ℕ). sort_of (tree_at list k)) (arguments_of job u)) good_here

    -- no bit-vector
    pub not_wide : (b : Bool) (m : ℕ) → sort_op (op_of u) (map (λ (k : ℕ). sort_of (tree_at list k)) (arguments_of job u)) ≡ guard b (bv m) → ⊥
    not_wide b m q =
        bv_bool m (sym (good_bv b m (subst (λ (z : Sort). T (good z)) q good_here)) ∙ sym q ∙ sym (sort_made s.closed s.low s.marked h u e) ∙ bool_is)

  pub known_true : t ≡ D.True → {inputs values : Bytes} → KnownOn list job work inputs values place one_bit
  unfolding known_op
  known_true e = known_out D.True e (λ input sound own. refl)

  pub known_false : t ≡ D.False → {inputs values : Bytes} → KnownOn list job work inputs values place zero_bit
  unfolding known_op
  known_false e = known_out D.False e (λ input sound own. refl)

  pub known_variable : (x : ℕ) → t ≡ D.BoolVar x → {inputs values : Bytes} {c : ℕ} {r : Known} → c ≡ cell_at values place → r ≡ of_byte (get_or (drop c inputs) 0 2) → KnownOn list job work inputs values place r
  known_variable x e {inputs} {values} d g input sound own =
      let v : T (is_variable (tree_at list place)) = subst (λ (z : Term). T (is_variable z)) (sym (h.term_at.made ∙ ap (λ (z : Decoded). tree_of list (op_of z) (arguments_of job z)) e)) tt in
      let b : bits_in (tree_at list place) ≡ 1 = ap sort_bits bool_is in
      g ∙ ap (λ (j : ℕ). of_byte (get_or (drop j inputs) 0 2)) d ∙ offset_bit (own v) 0 (omega arith) ∙ first_bit (known input (tree_at list place))

  pub known_not : (x : ℕ) → t ≡ D.Not x → {inputs values : Bytes} {c r : Known} → c ≡ cell_bit values x → r ≡ not_known c → KnownOn list job work inputs values place r
  unfolding known_op
  known_not x e {inputs} {values} d g =
      known_out (D.Not x) e (λ input sound own. g ∙ ap not_known (d ∙ cell_is (D.Not x) e (fitted_here (D.Not x) e) input sound 0 (omega arith)))

  pub known_xor : (x y : ℕ) → t ≡ D.Xor x y → {inputs values : Bytes} {c d r : Known} → c ≡ cell_bit values x → d ≡ cell_bit values y → r ≡ xor_known c d → KnownOn list job work inputs values place r
  unfolding known_op
  known_xor x y e a b g =
      known_out (D.Xor x y) e (λ input sound own. let q = fitted_here (D.Xor x y) e in
      g ∙ ap₂ xor_known (a ∙ cell_is (D.Xor x y) e q input sound 0 (omega arith)) (b ∙ cell_is (D.Xor x y) e q input sound 1 (omega arith)))

  -- an Equals that is bit-level is one of Bools
  equal_bools : (x y : ℕ) (e : t ≡ D.Equals x y) → ArgsAreBool (D.Equals x y)
  unfolding fold
  equal_bools x y e =
      let k = kind_made s.closed s.low s.marked h (D.Equals x y) e in
      let f : T (good (sort_of (tree_at list x)) && all_are (sort_of (tree_at list x)) (sort_of (tree_at list x) ∷ sort_of (tree_at list y) ∷ [])) = fitted_here (D.Equals x y) e in
      subst (λ (z : Sort). T (all_are z (sort_of (tree_at list x) ∷ sort_of (tree_at list y) ∷ []))) (same_sort_eq (sort_of (tree_at list x)) bool (only (same_sort (sort_of (tree_at list x)) bool) k)) (and_r (good (sort_of (tree_at list x))) (all_are (sort_of (tree_at list x)) (sort_of (tree_at list x) ∷ sort_of (tree_at list y) ∷ [])) f)
    where
      only : (b : Bool) → T (b || false) → T b
      only true q = tt
      only false q = q

  pub known_equals : (x y : ℕ) → t ≡ D.Equals x y → {inputs values : Bytes} {c d r : Known} → c ≡ cell_bit values x → d ≡ cell_bit values y → r ≡ equal_known c d → KnownOn list job work inputs values place r
  unfolding known_op
  known_equals x y e a b g =
      known_out (D.Equals x y) e (λ input sound own. let q = equal_bools x y e in
      g ∙ ap₂ equal_known (a ∙ cell_is (D.Equals x y) e q input sound 0 (omega arith)) (b ∙ cell_is (D.Equals x y) e q input sound 1 (omega arith)))

  pub known_ite : (z x y : ℕ) → t ≡ D.Ite z x y → {inputs values : Bytes} {b c d r : Known} → b ≡ cell_bit values z → c ≡ cell_bit values x → d ≡ cell_bit values y → r ≡ ite_known b c d → KnownOn list job work inputs values place r
  unfolding known_op
  known_ite z x y e f a b g =
      known_out (D.Ite z x y) e (λ input sound own.
      let q = fitted_here (D.Ite z x y) e in
      g ∙ (λ i. ite_known (f i) (a i) (b i))
      ∙ (λ i. ite_known (cell_is (D.Ite z x y) e q input sound 0 (omega arith) i) (cell_is (D.Ite z x y) e q input sound 1 (omega arith) i) (cell_is (D.Ite z x y) e q input sound 2 (omega arith) i)))

  -- a row
  leads_are : (u : Decoded) (e : t ≡ u) → ArgsAreBool u → {inputs values : Bytes} (input : Term → List Known) → Sound input list job work inputs values place
      → map (cell_bit values) (arguments_of job u) ≡ map lead (map (λ (k : ℕ). known input (tree_at list k)) (arguments_of job u))
  leads_are u e a {inputs} {values} input sound =
      row_same (cell_bit values) (λ (k : ℕ). lead (known input (tree_at list k))) (arguments_of job u) (cell_is u e a input sound) ∙ map_map (λ (k : ℕ). known input (tree_at list k)) (arguments_of job u)

  pub known_and : (a : Args) → t ≡ D.And a → {inputs values : Bytes} {r : Known} → r ≡ row_known false (map (cell_bit values) (words_in job a)) → KnownOn list job work inputs values place r
  unfolding known_op
  known_and a e g = known_out (D.And a) e (λ input sound own. g ∙ ap and_known (leads_are (D.And a) e (fitted_here (D.And a) e) input sound))

  pub known_or : (a : Args) → t ≡ D.Or a → {inputs values : Bytes} {r : Known} → r ≡ row_known true (map (cell_bit values) (words_in job a)) → KnownOn list job work inputs values place r
  unfolding known_op
  known_or a e g = known_out (D.Or a) e (λ input sound own. g ∙ ap or_known (leads_are (D.Or a) e (fitted_here (D.Or a) e) input sound))

  pub and_inside : (a : Args) → t ≡ D.And a → Inside job a
  and_inside a e = subst (λ (z : Decoded). OperandsPlaced job (operands_of z)) e h.term_at.placed

  pub or_inside : (a : Args) → t ≡ D.Or a → Inside job a
  or_inside a e = subst (λ (z : Decoded). OperandsPlaced job (operands_of z)) e h.term_at.placed

  -- a bit of a bit-vector
  module _ (i x : ℕ) (e : t ≡ D.BvBitOf i x) where
    below : x < place
    below = arg_low s.closed s.low s.marked h (D.BvBitOf i x) e 0 (omega arith)

    pub bit_asked : BitAsked job work n x i
    bit_asked =
        let q = ltb i (sort_width (sort_of (tree_at list x))) in
        let f : T (is_bv_sort (sort_of (tree_at list x)) && ltb i (sort_width (sort_of (tree_at list x)))) = fitted_here (D.BvBitOf i x) e in
        let v = and_l (is_bv_sort (sort_of (tree_at list x))) q f in
        let l = ltb→lt i (sort_width (sort_of (tree_at list x))) (and_r (is_bv_sort (sort_of (tree_at list x))) q f) in
        record {
          closed = s.closed;
          low = omega (arith, below, s.low);
          marked = arg_marked s.closed s.low s.marked h (D.BvBitOf i x) e 0 (omega arith);
          bit_low = subst (λ (z : ℕ). i < z) (bv_bits (sort_of (tree_at list x)) v) l;
        }

    pub known_bit : {inputs values : Bytes} {r : Known} → BitOn list job work inputs values x i r → KnownOn list job work inputs values place r
    unfolding known_op
    known_bit b = known_out (D.BvBitOf i x) e (λ input sound own. b input (λ j l m. sound j (omega (arith, below)) m))

  -- a kind that is not bit-level
  known_never : (u : Decoded) (e : t ≡ u) → T (bit_kind_in (tree_of list (op_of u) (arguments_of job u)))
  known_never u e = kind_made s.closed s.low s.marked h u e

  -- no other kind is that of a Bool that is bit-level
  none_of : (u : Decoded) → t ≡ u → (u ≡ D.True → ⊥) → (u ≡ D.False → ⊥) → ((v : ℕ) → u ≡ D.BoolVar v → ⊥) → ((x : ℕ) → u ≡ D.Not x → ⊥) → ((a : Args) → u ≡ D.And a → ⊥) → ((a : Args) → u ≡ D.Or a → ⊥)
      → ((x y : ℕ) → u ≡ D.Xor x y → ⊥) → ((x y : ℕ) → u ≡ D.Equals x y → ⊥) → ((z x y : ℕ) → u ≡ D.Ite z x y → ⊥) → ((i x : ℕ) → u ≡ D.BvBitOf i x → ⊥) → ⊥
  none_of D.True e n0 n1 n2 n3 n4 n5 n6 n7 n8 n9 = n0 refl
  none_of D.False e n0 n1 n2 n3 n4 n5 n6 n7 n8 n9 = n1 refl
  none_of (D.BoolVar v) e n0 n1 n2 n3 n4 n5 n6 n7 n8 n9 = n2 v refl
  none_of (D.Not x) e n0 n1 n2 n3 n4 n5 n6 n7 n8 n9 = n3 x refl
  none_of (D.And a) e n0 n1 n2 n3 n4 n5 n6 n7 n8 n9 = n4 a refl
  none_of (D.Or a) e n0 n1 n2 n3 n4 n5 n6 n7 n8 n9 = n5 a refl
  none_of (D.Xor x y) e n0 n1 n2 n3 n4 n5 n6 n7 n8 n9 = n6 x y refl
  none_of (D.Equals x y) e n0 n1 n2 n3 n4 n5 n6 n7 n8 n9 = n7 x y refl
  none_of (D.Ite z x y) e n0 n1 n2 n3 n4 n5 n6 n7 n8 n9 = n8 z x y refl
  none_of (D.BvBitOf i x) e n0 n1 n2 n3 n4 n5 n6 n7 n8 n9 = n9 i x refl
  none_of (D.BvVar m v) e n0 n1 n2 n3 n4 n5 n6 n7 n8 n9 = not_wide (D.BvVar m v) e _ _ refl
  none_of (D.Const m v) e n0 n1 n2 n3 n4 n5 n6 n7 n8 n9 = not_wide (D.Const m v) e _ _ refl
  none_of (D.BvBbTerm a) e n0 n1 n2 n3 n4 n5 n6 n7 n8 n9 = not_wide (D.BvBbTerm a) e _ _ refl
  none_of u e n0 n1 n2 n3 n4 n5 n6 n7 n8 n9 = known_never u e

  pub known_none : (t ≡ D.True → ⊥) → (t ≡ D.False → ⊥) → ((v : ℕ) → t ≡ D.BoolVar v → ⊥) → ((x : ℕ) → t ≡ D.Not x → ⊥) → ((a : Args) → t ≡ D.And a → ⊥) → ((a : Args) → t ≡ D.Or a → ⊥)
      → ((x y : ℕ) → t ≡ D.Xor x y → ⊥) → ((x y : ℕ) → t ≡ D.Equals x y → ⊥) → ((z x y : ℕ) → t ≡ D.Ite z x y → ⊥) → ((i x : ℕ) → t ≡ D.BvBitOf i x → ⊥) → ⊥
  known_none = none_of t refl
