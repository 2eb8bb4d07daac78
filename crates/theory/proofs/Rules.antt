-- The right side of each rule has the left side's value.
use mathlib.Core.Path.{◌≡◌, refl, sym, ap, ap₂, ◌∙◌, subst}
use mathlib.Core.Bool.{Bool, true, false, ◌&&◌, ◌||◌, not, beq}
use mathlib.Core.List.{List, [], ◌∷◌, map, foldl}
use Prim.Native.Nat.{ℕ, ◌+◌, ◌-◌, ◌%◌, ◌^◌}
use native.Mathlib.Nat.{add-zero}
use lib.Bits.{bit_xor}
use lib.Dec.{T, eqb_refl, eqb}
use lib.Ieee.Fits.{and_l, and_r}
use lib.ListN.{length, length-map}
use Rattle.theory.specs.Kind.{Op, False, Not, And, Or, Xor, Equals, BvNot, BvNeg, BvAnd, BvOr, BvXor, BvAdd, BvXNor, BvComp, BvULt, BvSLt, many, takes}
use Rattle.theory.specs.Term.{fold, Term, Terms, node, nil, cons, to_list, two}
use Rattle.theory.specs.Sort.{Sort, bad, bv, same_sort, guard, all_are, is_bv_sort, first, alike, sort_of, sorts_of}
use Rattle.theory.specs.Value.{Assign, Val, truth, number, bit, to_number, same, fold1, num1, num2, add_n, neg_n, not_n, and_n, or_n, xor_n, xnor_n, xor, meaning, value, values}
use Rattle.theory.specs.Gates.{bool_gates, term_gates}
use Rattle.theory.specs.Circuit.{ripple_carry_adder, negate, bitblast_ult, slt, zip_with, equality}
use Rattle.theory.specs.Bits.{get_term_bits, bb, zipped, fold_terms, add_bits}
use Rattle.theory.proofs.Sound.{same_sort_eq}
use Rattle.theory.proofs.Natural.{map_not_hom}
use Rattle.theory.proofs.Numbers.{negate_length, Pair, pair, adder_mod, adder_length, zip_and, zip_or, zip_xor, zip_xnor, map_not, zip_length, negate_mod, ult_lt, slt_lt, equality_eq}
use Rattle.theory.proofs.Blast.{truth_hom, and_one, or_one, vals, fold_hom, Bits, bits_of, bb_bits, bb_value, guard_yes, adder_reads, negate_reads, ult_reads, slt_reads, equality_reads, zip_reads}
use Rattle.theory.proofs.Basics.{T_true}

-- ---- the rules
module _ (ρ : Assign) (x y : Term) (n : ℕ) (sx : sort_of x ≡ bv n) (sy : sort_of y ≡ bv n) where
  abbrev bx : Bits ρ x n
  bx = bits_of ρ x n sx

  abbrev by : Bits ρ y n
  by = bits_of ρ y n sy

  alike_bits : Pair bx.bits by.bits
  alike_bits = pair bx.bits by.bits (bx.size ∙ sym by.size)

  -- the operation's value, by the bits
  two_value : (o : Op) → value ρ (two o x y) ≡ meaning ρ o (number n (to_number bx.bits) ∷ number n (to_number by.bits) ∷ [])
  unfolding fold
  two_value o = ap₂ (λ (u v : Val). meaning ρ o (u ∷ v ∷ [])) bx.means by.means

  pub ult_holds : value ρ (bitblast_ult term_gates (get_term_bits x) (get_term_bits y)) ≡ value ρ (two BvULt x y)
  unfolding meaning
  ult_holds =
      ult_reads ρ (get_term_bits x) (get_term_bits y) bx.bits by.bits bx.reads by.reads
      ∙ ap truth (ult_lt alike_bits) ∙ sym (two_value BvULt)

  pub slt_holds : value ρ (slt term_gates (get_term_bits x) (get_term_bits y)) ≡ value ρ (two BvSLt x y)
  unfolding meaning
  slt_holds =
      slt_reads ρ (get_term_bits x) (get_term_bits y) bx.bits by.bits bx.reads by.reads
      ∙ ap truth (slt_lt alike_bits ∙ rw (bx.size, by.size)) ∙ sym (two_value BvSLt)

  same_width : (a b : ℕ) → same (number n a) (number n b) ≡ eqb a b
  same_width a b = rw (T_true (eqb n n) (eqb_refl n))

  pub equality_holds : value ρ (equality term_gates (get_term_bits x) (get_term_bits y)) ≡ value ρ (two Equals x y)
  unfolding meaning
  equality_holds =
      equality_reads ρ (get_term_bits x) (get_term_bits y) bx.bits by.bits bx.reads by.reads
      ∙ ap truth (equality_eq alike_bits ∙ sym (same_width (to_number bx.bits) (to_number by.bits))) ∙ sym (two_value Equals)

  pub comp_holds : value ρ (bb (equality term_gates (get_term_bits x) (get_term_bits y) ∷ [])) ≡ value ρ (two BvComp x y)
  unfolding meaning
  comp_holds =
      bb_value ρ (equality term_gates (get_term_bits x) (get_term_bits y) ∷ []) (equality bool_gates bx.bits by.bits ∷ [])
      (ap (λ (v : Val). v ∷ []) (equality_reads ρ (get_term_bits x) (get_term_bits y) bx.bits by.bits bx.reads by.reads))
      ∙ ap (number 1) (add-zero _ ∙ ap bit (equality_eq alike_bits ∙ sym (same_width (to_number bx.bits) (to_number by.bits)))) ∙ sym (two_value BvComp)

pub neg_holds : (ρ : Assign) (x : Term) (n : ℕ) → sort_of x ≡ bv n
    → value ρ (bb (negate term_gates (get_term_bits x))) ≡ value ρ (node BvNeg (cons x nil))
unfolding fold meaning neg_n
neg_holds ρ x n sx =
    let bx : Bits ρ x n = bits_of ρ x n sx in
    let l : length (negate bool_gates bx.bits) ≡ n = negate_length bx.bits ∙ bx.size in
    let m : to_number (negate bool_gates bx.bits) ≡ (2 ^ n - to_number bx.bits) % 2 ^ n
    = negate_mod bx.bits ∙ ap (λ (k : ℕ). (2 ^ k - to_number bx.bits) % 2 ^ k) bx.size in
    bb_value ρ (negate term_gates (get_term_bits x)) (negate bool_gates bx.bits) (negate_reads ρ (get_term_bits x) bx.bits bx.reads)
    ∙ ap₂ number l m ∙ sym (ap (num1 neg_n) bx.means)

-- ---- add, of any number of arguments
-- the arguments of an operation on 1 to 64 numbers of one width
pub many_sorts : (t : Term) (us : Terms) (n : ℕ)
    → guard (takes many (length (sorts_of (cons t us))) && alike (sorts_of (cons t us))) (first (sorts_of (cons t us))) ≡ bv n
    → (sort_of t ≡ bv n) × T (all_are (bv n) (sorts_of us))
unfolding fold
many_sorts t us n e =
    let g : T (takes many (length (sort_of t ∷ sorts_of us)) && alike (sort_of t ∷ sorts_of us)) × (sort_of t ≡ bv n)
    = guard_yes _ (sort_of t) (bv n) tt e in
    (g.1, subst (λ (s : Sort). T (all_are s (sorts_of us))) g.1 (and_r (same_sort (sort_of t) (sort_of t)) _ (and_r (is_bv_sort (sort_of t)) _ (and_r (takes many (length (sort_of t ∷ sorts_of us))) _ g.0))))

-- one step of `add`: the sum so far reads as `cs`
add_step : (ρ : Assign) (n : ℕ) (t : Term) → sort_of t ≡ bv n → (acc : List Term) (cs : List Bool)
    → map (value ρ) acc ≡ map truth cs → length cs ≡ n
    → (ds : List Bool) × (map (value ρ) (ripple_carry_adder term_gates (node False nil) acc (get_term_bits t)) ≡ map truth ds) × (length ds ≡ n)
    × (number n (to_number ds) ≡ num2 add_n (number n (to_number cs)) (value ρ t))
unfolding add_n fold meaning
add_step ρ n t s acc cs r l =
    let bt : Bits ρ t n = bits_of ρ t n s in
    let p : Pair cs bt.bits = pair cs bt.bits (l ∙ sym bt.size) in
    let m : to_number (ripple_carry_adder bool_gates false cs bt.bits) ≡ (to_number cs + to_number bt.bits) % 2 ^ n
    = adder_mod false p ∙ ap₂ (λ (z k : ℕ). z % 2 ^ k) (add-zero _) l in (
      ripple_carry_adder bool_gates false cs bt.bits,
      adder_reads ρ (node False nil) false refl acc (get_term_bits t) cs bt.bits r bt.reads,
      adder_length bool_gates false p ∙ l,
      ap (number n) m ∙ sym (ap (num2 add_n (number n (to_number cs))) bt.means),
    )

pub head_sort : (n : ℕ) (t : Term) (ts : Terms) → T (all_are (bv n) (sorts_of (cons t ts))) → (sort_of t ≡ bv n) × T (all_are (bv n) (sorts_of ts))
unfolding fold
head_sort n t ts a = (sym (same_sort_eq (bv n) (sort_of t) (and_l (same_sort (bv n) (sort_of t)) _ a)), and_r (same_sort (bv n) (sort_of t)) _ a)

add_fold : (ρ : Assign) (n : ℕ) (acc : List Term) (cs : List Bool) → map (value ρ) acc ≡ map truth cs → length cs ≡ n
    → (ts : Terms) → T (all_are (bv n) (sorts_of ts))
    → value ρ (bb (foldl (λ a u. ripple_carry_adder term_gates (node False nil) a (get_term_bits u)) acc (to_list ts)))
    ≡ foldl (num2 add_n) (number n (to_number cs)) (values ρ ts)
unfolding fold
add_fold ρ n acc cs r l nil a = bb_value ρ acc cs r ∙ ap (λ (k : ℕ). number k (to_number cs)) l
add_fold ρ n acc cs r l (cons t ts) a =
    let h = head_sort n t ts a in
    let d = add_step ρ n t h.0 acc cs r l in
    add_fold ρ n (ripple_carry_adder term_gates (node False nil) acc (get_term_bits t)) d.0 d.1 d.2 ts h.1
    ∙ ap (λ (v : Val). foldl (num2 add_n) v (values ρ ts)) d.3

pub add_holds : (ρ : Assign) (ts : Terms) (n : ℕ) → sort_of (node BvAdd ts) ≡ bv n
    → value ρ (bb (add_bits (to_list ts))) ≡ value ρ (node BvAdd ts)
unfolding add_bits fold meaning
add_holds ρ nil n s = absurd (guard_yes _ bad (bv n) tt s).0
add_holds ρ (cons t ts) n s =
    let h = many_sorts t ts n s in
    let bt = bits_of ρ t n h.0 in
    add_fold ρ n (get_term_bits t) bt.bits bt.reads bt.size ts h.1
    ∙ ap (λ (v : Val). foldl (num2 add_n) v (values ρ ts)) (sym bt.means)

-- ---- bit by bit, of any number of arguments: folded over terms
module _ (ρ : Assign) (n : ℕ) (f : ℕ → ℕ → ℕ → ℕ) (step : Term → Term → Term)
    (right : (a t : Term) → Bits ρ a n → Bits ρ t n → Bits ρ (step a t) n × (value ρ (step a t) ≡ num2 f (value ρ a) (value ρ t))) where
  pub term_fold : (a : Term) → Bits ρ a n → (ts : Terms) → T (all_are (bv n) (sorts_of ts))
      → value ρ (foldl step a (to_list ts)) ≡ foldl (num2 f) (value ρ a) (values ρ ts)
  unfolding fold
  term_fold a b nil h = refl
  term_fold a b (cons t ts) h =
      let s = head_sort n t ts h in
      let r = right a t b (bits_of ρ t n s.0) in
      term_fold (step a t) r.0 ts s.1 ∙ ap (λ (v : Val). foldl (num2 f) v (values ρ ts)) r.1

module _ (ρ : Assign) (n : ℕ) (o : Op) (k : Bool → Bool → Bool) (f : ℕ → ℕ → ℕ → ℕ)
    (gate : (a b : Bool) → truth (k a b) ≡ meaning ρ o (truth a ∷ truth b ∷ []))
    (number_of : (xs ys : List Bool) → Pair xs ys → length xs ≡ n → to_number (zip_with k xs ys) ≡ f n (to_number xs) (to_number ys)) where
  zipped_right : (a t : Term) → Bits ρ a n → Bits ρ t n
      → Bits ρ (zipped (two o) a t) n × (value ρ (zipped (two o) a t) ≡ num2 f (value ρ a) (value ρ t))
  unfolding fold
  zipped_right a t ba bt =
      let p : Pair ba.bits bt.bits = pair ba.bits bt.bits (ba.size ∙ sym bt.size) in
      let ds = zip_with k ba.bits bt.bits in
      let l : length ds ≡ n = zip_length k p ∙ ba.size in
      let r = zip_reads ρ (two o) (λ u v. meaning ρ o (u ∷ v ∷ [])) k (λ x y. refl) gate (get_term_bits a) (get_term_bits t) ba.bits bt.bits ba.reads bt.reads in
      let b : Bits ρ (zipped (two o) a t) n = subst (λ (m : ℕ). Bits ρ (zipped (two o) a t) m) l (bb_bits ρ (zip_with (two o) (get_term_bits a) (get_term_bits t)) ds r) in (
        b,
        bb_value ρ (zip_with (two o) (get_term_bits a) (get_term_bits t)) ds r
            ∙ ap₂ number l (number_of ba.bits bt.bits p ba.size) ∙ sym (ap₂ (num2 f) ba.means bt.means),
      )

-- an operation on 1 to 64 numbers of one width, whose circuit is a gate at each bit
module _ (ρ : Assign) (n : ℕ) (o : Op) (k : Bool → Bool → Bool) (f : ℕ → ℕ → ℕ → ℕ)
    (gate : (a b : Bool) → truth (k a b) ≡ meaning ρ o (truth a ∷ truth b ∷ []))
    (number_of : (xs ys : List Bool) → Pair xs ys → length xs ≡ n → to_number (zip_with k xs ys) ≡ f n (to_number xs) (to_number ys)) where
  pub zipped_fold : (ts : Terms) → guard (takes many (length (sorts_of ts)) && alike (sorts_of ts)) (first (sorts_of ts)) ≡ bv n
      → value ρ (fold_terms (zipped (two o)) (to_list ts)) ≡ fold1 (num2 f) (values ρ ts)
  unfolding fold_terms fold
  zipped_fold nil s = absurd (guard_yes _ bad (bv n) tt s).0
  zipped_fold (cons t ts) s =
      let h = many_sorts t ts n s in
      term_fold ρ n f (zipped (two o)) (zipped_right ρ n o k f gate number_of) t (bits_of ρ t n h.0) ts h.1

pub and_holds : (ρ : Assign) (ts : Terms) (n : ℕ) → sort_of (node BvAnd ts) ≡ bv n
    → value ρ (fold_terms (zipped (two And)) (to_list ts)) ≡ value ρ (node BvAnd ts)
unfolding fold meaning and_n
and_holds ρ ts n s =
    zipped_fold ρ n And ◌&&◌ and_n (λ a b. ap truth (sym (and_one a b))) (λ xs ys p e. zip_and p) ts s

pub or_holds : (ρ : Assign) (ts : Terms) (n : ℕ) → sort_of (node BvOr ts) ≡ bv n
    → value ρ (fold_terms (zipped (two Or)) (to_list ts)) ≡ value ρ (node BvOr ts)
unfolding fold meaning or_n
or_holds ρ ts n s =
    zipped_fold ρ n Or ◌||◌ or_n (λ a b. ap truth (sym (or_one a b))) (λ xs ys p e. zip_or p) ts s

pub xor_holds : (ρ : Assign) (ts : Terms) (n : ℕ) → sort_of (node BvXor ts) ≡ bv n
    → value ρ (fold_terms (zipped (two Xor)) (to_list ts)) ≡ value ρ (node BvXor ts)
unfolding fold meaning xor_n
xor_holds ρ ts n s = zipped_fold ρ n Xor xor xor_n (λ a b. refl) (λ xs ys p e. zip_xor p) ts s

pub xnor_holds : (ρ : Assign) (x y : Term) (n : ℕ) → sort_of x ≡ bv n → sort_of y ≡ bv n
    → value ρ (zipped (two Equals) x y) ≡ value ρ (two BvXNor x y)
unfolding fold meaning xnor_n
xnor_holds ρ x y n sx sy =
    (zipped_right ρ n Equals beq xnor_n (λ a b. refl)
    (λ xs ys p e. zip_xnor p ∙ ap (λ (m : ℕ). 2 ^ m - 1 - bit_xor (to_number xs) (to_number ys)) e)
    x y (bits_of ρ x n sx) (bits_of ρ y n sy)).1

not_reads : (ρ : Assign) (xs : List Term) (bs : List Bool) → map (value ρ) xs ≡ map truth bs
    → map (value ρ) (map (λ t. node Not (cons t nil)) xs) ≡ map truth (map not bs)
not_reads ρ xs bs r =
    map_not_hom (fold_hom (meaning ρ)) xs ∙ ap (map (vals ρ).not_gate) r ∙ sym (map_not_hom (truth_hom ρ) bs)

pub not_holds : (ρ : Assign) (x : Term) (n : ℕ) → sort_of x ≡ bv n
    → value ρ (bb (map (λ t. node Not (cons t nil)) (get_term_bits x))) ≡ value ρ (node BvNot (cons x nil))
unfolding fold meaning not_n
not_holds ρ x n sx =
    let bx = bits_of ρ x n sx in
    bb_value ρ (map (λ t. node Not (cons t nil)) (get_term_bits x)) (map not bx.bits) (not_reads ρ (get_term_bits x) bx.bits bx.reads)
    ∙ ap₂ number (length-map bx.bits not ∙ bx.size) (map_not bx.bits ∙ ap (λ (m : ℕ). 2 ^ m - 1 - to_number bx.bits) bx.size)
    ∙ sym (ap (num1 not_n) bx.means)

-- ---- a literal (= left right) holds where both have one value
pub same_refl : (v : Val) → same v v ≡ true
same_refl (truth true) = refl
same_refl (truth false) = refl
same_refl (number n x) = rw (T_true (eqb n n) (eqb_refl n), T_true (eqb x x) (eqb_refl x))

pub literal_holds : (ρ : Assign) (l r : Term) → value ρ r ≡ value ρ l → value ρ (two Equals l r) ≡ truth true
unfolding fold meaning
literal_holds ρ l r e = ap truth (ap (same (value ρ l)) e ∙ same_refl (value ρ l))
