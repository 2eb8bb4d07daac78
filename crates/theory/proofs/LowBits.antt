-- A high bit cannot move a low one: `take i` commutes with the circuits of rules 10, 11 and 12, over any gates and widths; what that says
-- of their values, and of every job.
use mathlib.Core.Path.{◌≡◌, refl, sym, ap, ap₂, subst, ◌∙◌}
use mathlib.Core.Bool.{Bool, true, false, ◌&&◌}
use mathlib.Core.List.{List, [], ◌∷◌, map, foldl}
use Rattle.std.specs.Prelude.{Some as some}
use Prim.Native.Nat.{ℕ, zero, suc, ◌+◌, ◌*◌, ◌≤◌}
use native.Mathlib.Nat.{le_of_suc-le-suc, not-suc-le-zero, le_refl}
use native.Mathlib.Omega.{arith}
use lib.Dec.{T, eqb→eq}
use lib.Ieee.Fits.{and_l}
use lib.ListN.{length, take, length-take}
use Rattle.theory.specs.Kind.{Op, False, Equals, BvNeg, BvAdd, BvMul, exactly, takes}
use Rattle.theory.specs.Term.{fold, Term, Terms, node, nil, cons, to_list, from_list, two}
use Rattle.theory.specs.Sort.{bad, bv, all_are, alike, good, sort_of, sort_width, sorts_of}
use Rattle.theory.specs.Value.{Assign, truth, bit, to_number, value}
use Rattle.theory.specs.Gates.{Gates, bool_gates, term_gates}
use Rattle.theory.specs.Circuit.{ripple_carry_adder, negate, sum_bit, next_carry, partial_products, add_rows, shift_add_multiplier}
use Rattle.theory.specs.Bits.{get_term_bits, bb, fold_terms, add_bits, product}
use Rattle.theory.specs.Verdict.{Verdict, held}
use Rattle.theory.specs.RuleTable.{Rule}
use Rattle.theory.specs.Rule.{args_of, form, compare, verdict, on_sides}
use Rattle.theory.specs.Plain.{Plain, plain_after, at_place, at_places}
use Rattle.theory.specs.Answer.{Answer}
use Rattle.theory.specs.Job.{answer_to}
use Rattle.theory.specs.Claim.{low_bits, SameLow, Counts, rule_10, rule_11, rule_12, LowBits, LowHeld, LowBitsHeld}
use Rattle.theory.proofs.Basics.{some_inj, cons_some_is}
use Rattle.theory.proofs.Blast.{bits_of, bb_value, guard_yes, to_from_list, adder_reads, negate_reads}
use Rattle.theory.proofs.Slices.{map_take, to_number_take, false_value}
use Rattle.theory.proofs.Rules.{many_sorts, head_sort}
use Rattle.theory.proofs.Multiplier.{multiplier_reads}
use Rattle.theory.proofs.Same.{decode}
use Rattle.theory.proofs.Form.{code_held, unary_held, binary_held, many_held, one_claim, many_claim, sides_of}
use Rattle.theory.proofs.Verdict.{guard_good, equal_sorts, neg_wide, add_wide, mul_wide, equals_bool}
use Rattle.theory.proofs.Places.{term_there}
use Rattle.theory.proofs.Run.{AllGood, good_at, sorted_after}
use Rattle.theory.proofs.Demands.{reached_done, demand_2}

-- ---- `take i` commutes with the circuits
module _ {A : Type 0} (G : Gates A) where
  -- the second list may keep more
  take_adder_to : (i k : ℕ) → i ≤ k → (c : A) (ps qs : List A) → take i (ripple_carry_adder G c ps qs) ≡ ripple_carry_adder G c (take i ps) (take k qs)
  unfolding ripple_carry_adder
  take_adder_to zero k h c ps qs = refl
  take_adder_to (suc i) zero h c ps qs = absurd (not-suc-le-zero h)
  take_adder_to (suc i) (suc k) h c [] qs = refl
  take_adder_to (suc i) (suc k) h c (p ∷ ps) [] = refl
  take_adder_to (suc i) (suc k) h c (p ∷ ps) (q ∷ qs) =
      ap (λ (l : List A). sum_bit G p q c ∷ l) (take_adder_to i k (le_of_suc-le-suc h) (next_carry G p q c) ps qs)

  pub take_adder : (i : ℕ) (c : A) (ps qs : List A) → take i (ripple_carry_adder G c ps qs) ≡ ripple_carry_adder G c (take i ps) (take i qs)
  take_adder i = take_adder_to i i (le_refl i)

  pub take_negate : (i : ℕ) (xs : List A) → take i (negate G xs) ≡ negate G (take i xs)
  take_negate i xs =
      take_adder i G.true_gate (map G.not_gate xs) (map (λ (x : A). G.false_gate) xs)
      ∙ ap₂ (ripple_carry_adder G G.true_gate) (sym (map_take G.not_gate i xs)) (sym (map_take (λ (x : A). G.false_gate) i xs))

  no_rows : (xs ys : List A) → add_rows G xs [] ys ≡ []
  unfolding add_rows
  no_rows xs [] = refl
  no_rows xs (y ∷ ys) = refl

  take_rows : (i k l : ℕ) → i ≤ k → i ≤ suc l → (xs acc ys : List A) → take i (add_rows G xs acc ys) ≡ add_rows G (take k xs) (take i acc) (take l ys)
  unfolding add_rows
  take_rows zero k l h g xs acc ys = sym (no_rows (take k xs) (take l ys))
  take_rows (suc i) k zero h g xs acc [] = refl
  take_rows (suc i) k (suc l) h g xs acc [] = refl
  take_rows (suc i) k zero h g xs [] (y ∷ ys) = refl
  take_rows (suc i) k (suc l) h g xs [] (y ∷ ys) = refl
  take_rows (suc i) k zero h g xs (a ∷ acc) (y ∷ ys) =
      let e : i ≡ 0 = omega arith in
      rw e
  take_rows (suc i) k (suc l) h g xs (a ∷ acc) (y ∷ ys) =
      ap (λ (t : List A). a ∷ t)
      (take_rows i k l (omega arith) (le_of_suc-le-suc g) xs (ripple_carry_adder G G.false_gate acc (partial_products G y xs)) ys
      ∙ ap (λ (t : List A). add_rows G (take k xs) t (take l ys))
      (take_adder_to i k (omega arith) G.false_gate acc (partial_products G y xs)
      ∙ ap (ripple_carry_adder G G.false_gate (take i acc)) (sym (map_take (G.and_gate y) k xs))))

  pub take_multiplier : (i : ℕ) (xs ys : List A) → take i (shift_add_multiplier G xs ys) ≡ shift_add_multiplier G (take i xs) (take i ys)
  unfolding shift_add_multiplier
  take_multiplier zero xs [] = refl
  take_multiplier (suc i) xs [] = refl
  take_multiplier zero xs (y ∷ ys) = refl
  take_multiplier (suc i) xs (y ∷ ys) =
      take_rows (suc i) (suc i) i (le_refl (suc i)) (le_refl (suc i)) xs (partial_products G y xs) ys
      ∙ ap (λ (t : List A). add_rows G (take (suc i) xs) t (take i ys)) (sym (map_take (G.and_gate y) (suc i) xs))

-- ---- a number and a length determine the bits
digits : (a b : Bool) (m n : ℕ) → bit a + 2 * m ≡ bit b + 2 * n → (a ≡ b) × (m ≡ n)
digits true true m n e = (refl, omega arith)
digits true false m n e = absurd (omega arith)
digits false true m n e = absurd (omega arith)
digits false false m n e = (refl, omega arith)

to_number_inj : (xs ys : List Bool) → length xs ≡ length ys → to_number xs ≡ to_number ys → xs ≡ ys
to_number_inj [] [] e v = refl
to_number_inj [] (y ∷ ys) e v = absurd (omega arith)
to_number_inj (x ∷ xs) [] e v = absurd (omega arith)
to_number_inj (x ∷ xs) (y ∷ ys) e v =
    let d = digits x y (to_number xs) (to_number ys) v in
    ap₂ (λ (z : Bool) (zs : List Bool). z ∷ zs) d.0 (to_number_inj xs ys (omega arith) d.1)

-- ---- two assignments, and lists of terms whose lowest i have the same values under both
module _ (i : ℕ) (ρ σ : Assign) where
  record Agree (xs : List Term) : Type 0 where
    first : List Bool
    second : List Bool
    reads_first : map (value ρ) xs ≡ map truth first
    reads_second : map (value σ) xs ≡ map truth second
    same : take i first ≡ take i second

  agree_of : (t : Term) (n : ℕ) → sort_of t ≡ bv n → low_bits i (value ρ t) ≡ low_bits i (value σ t) → Agree (get_term_bits t)
  agree_of t n s e =
      let b = bits_of ρ t n s in
      let d = bits_of σ t n s in
      let l : length (take i b.bits) ≡ length (take i d.bits) = rw (length-take, length-take, b.size, d.size) in
      let v : to_number (take i b.bits) ≡ to_number (take i d.bits)
      = to_number_take i b.bits ∙ ap (low_bits i) (sym b.means) ∙ e ∙ ap (low_bits i) d.means ∙ sym (to_number_take i d.bits) in
      record { first = b.bits; second = d.bits; reads_first = b.reads; reads_second = d.reads; same = to_number_inj (take i b.bits) (take i d.bits) l v }

  agree_value : {xs : List Term} → Agree xs → low_bits i (value ρ (bb xs)) ≡ low_bits i (value σ (bb xs))
  agree_value {xs} a =
      ap (low_bits i) (bb_value ρ xs a.first a.reads_first) ∙ sym (to_number_take i a.first)
      ∙ ap to_number a.same
      ∙ to_number_take i a.second ∙ ap (low_bits i) (sym (bb_value σ xs a.second a.reads_second))

  agree_adder : {xs ys : List Term} → Agree xs → Agree ys → Agree (ripple_carry_adder term_gates (node False nil) xs ys)
  agree_adder {xs} {ys} a b =
      record {
        first = ripple_carry_adder bool_gates false a.first b.first;
        second = ripple_carry_adder bool_gates false a.second b.second;
        reads_first = adder_reads ρ (node False nil) false (false_value ρ) xs ys a.first b.first a.reads_first b.reads_first;
        reads_second = adder_reads σ (node False nil) false (false_value σ) xs ys a.second b.second a.reads_second b.reads_second;
        same = take_adder bool_gates i false a.first b.first ∙ ap₂ (ripple_carry_adder bool_gates false) a.same b.same ∙ sym (take_adder bool_gates i false a.second b.second);
      }

  agree_product : {xs ys : List Term} → Agree xs → Agree ys → Agree (shift_add_multiplier term_gates xs ys)
  agree_product {xs} {ys} a b =
      record {
        first = shift_add_multiplier bool_gates a.first b.first;
        second = shift_add_multiplier bool_gates a.second b.second;
        reads_first = multiplier_reads ρ xs ys a.first b.first a.reads_first b.reads_first;
        reads_second = multiplier_reads σ xs ys a.second b.second a.reads_second b.reads_second;
        same = take_multiplier bool_gates i a.first b.first ∙ ap₂ (shift_add_multiplier bool_gates) a.same b.same ∙ sym (take_multiplier bool_gates i a.second b.second);
      }

  agree_negate : {xs : List Term} → Agree xs → Agree (negate term_gates xs)
  agree_negate {xs} a =
      record {
        first = negate bool_gates a.first;
        second = negate bool_gates a.second;
        reads_first = negate_reads ρ xs a.first a.reads_first;
        reads_second = negate_reads σ xs a.second a.reads_second;
        same = take_negate bool_gates i a.first ∙ ap (negate bool_gates) a.same ∙ sym (take_negate bool_gates i a.second);
      }

  -- ---- add and mult, of any number of arguments
  module _ (n : ℕ) where
    add_agrees : (acc : List Term) → Agree acc → (ts : Terms) → T (all_are (bv n) (sorts_of ts)) → SameLow i ρ σ ts
        → Agree (foldl (λ a u. ripple_carry_adder term_gates (node False nil) a (get_term_bits u)) acc (to_list ts))
    add_agrees acc a nil h e = a
    add_agrees acc a (cons t ts) h e =
        let s = head_sort n t ts h in
        add_agrees (ripple_carry_adder term_gates (node False nil) acc (get_term_bits t)) (agree_adder a (agree_of t n s.0 e.0)) ts s.1 e.1

    bb_agrees : (ts : List Term) → Agree ts → Agree (get_term_bits (bb ts))
    unfolding get_term_bits
    bb_agrees ts a = subst Agree (sym (to_from_list ts)) a

    mult_agrees : (t : Term) → Agree (get_term_bits t) → low_bits i (value ρ t) ≡ low_bits i (value σ t) → (ts : Terms) → T (all_are (bv n) (sorts_of ts)) → SameLow i ρ σ ts
        → low_bits i (value ρ (foldl product t (to_list ts))) ≡ low_bits i (value σ (foldl product t (to_list ts)))
    mult_agrees t a e nil h d = e
    mult_agrees t a e (cons u ts) h d =
        let s = head_sort n u ts h in
        let p = agree_product a (agree_of u n s.0 d.0) in
        mult_agrees (product t u) (bb_agrees (shift_add_multiplier term_gates (get_term_bits t) (get_term_bits u)) p) (agree_value p) ts s.1 d.1

    add_low : (ts : Terms) → sort_of (node BvAdd ts) ≡ bv n → SameLow i ρ σ ts → low_bits i (value ρ (bb (add_bits (to_list ts)))) ≡ low_bits i (value σ (bb (add_bits (to_list ts))))
    unfolding add_bits fold
    add_low nil s e = absurd (guard_yes _ bad (bv n) tt s).0
    add_low (cons t ts) s e =
        let h = many_sorts t ts n s in
        agree_value (add_agrees (get_term_bits t) (agree_of t n h.0 e.0) ts h.1 e.1)

    mult_low : (ts : Terms) → sort_of (node BvMul ts) ≡ bv n → SameLow i ρ σ ts → low_bits i (value ρ (fold_terms product (to_list ts))) ≡ low_bits i (value σ (fold_terms product (to_list ts)))
    unfolding fold_terms fold
    mult_low nil s e = absurd (guard_yes _ bad (bv n) tt s).0
    mult_low (cons t ts) s e =
        let h = many_sorts t ts n s in
        mult_agrees t (agree_of t n h.0 e.0) e.0 ts h.1 e.1

    neg_low : (x : Term) → sort_of x ≡ bv n → low_bits i (value ρ x) ≡ low_bits i (value σ x)
        → low_bits i (value ρ (bb (negate term_gates (get_term_bits x)))) ≡ low_bits i (value σ (bb (negate term_gates (get_term_bits x))))
    neg_low x s e = agree_value (agree_negate (agree_of x n s e))

-- ---- the rules
neg_sort : (x : Term) (n : ℕ) → sort_of (node BvNeg (cons x nil)) ≡ bv n → sort_of x ≡ bv n
unfolding fold
neg_sort x n s = (guard_yes _ (sort_of x) (bv n) tt s).1

neg_none : (n : ℕ) → sort_of (node BvNeg nil) ≡ bv n → ⊥
unfolding fold
neg_none n s = (guard_yes _ bad (bv n) tt s).0

neg_more : (x y : Term) (ts : Terms) (n : ℕ) → sort_of (node BvNeg (cons x (cons y ts))) ≡ bv n → ⊥
unfolding fold
neg_more x y ts n s =
    let g : T (takes (exactly 1) (length (sorts_of (cons x (cons y ts)))) && alike (sorts_of (cons x (cons y ts)))) = (guard_yes _ (sort_of x) (bv n) tt s).0 in
    let z : suc (suc (length (sorts_of ts))) ≡ 1 = eqb→eq _ 1 (and_l (takes (exactly 1) (length (sorts_of (cons x (cons y ts))))) _ g) in
    absurd (omega arith)

pub sides_low : {rule : Rule} {o : Op} → Counts rule o → (ts : Terms) (r : Term) (n : ℕ) → sort_of (node o ts) ≡ bv n → on_sides rule (node o ts) r ≡ held
    → (i : ℕ) (ρ σ : Assign) → SameLow i ρ σ ts → low_bits i (value ρ r) ≡ low_bits i (value σ r)
unfolding on_sides
sides_low rule_10 ts r n s e i ρ σ d =
    subst (λ (t : Term). low_bits i (value ρ t) ≡ low_bits i (value σ t)) (many_claim 45 BvAdd (λ is. refl) (λ us. bb (add_bits us)) ts r e) (add_low i ρ σ n ts s d)
sides_low rule_11 ts r n s e i ρ σ d =
    subst (λ (t : Term). low_bits i (value ρ t) ≡ low_bits i (value σ t)) (many_claim 46 BvMul (λ is. refl) (fold_terms product) ts r e) (mult_low i ρ σ n ts s d)
sides_low rule_12 nil r n s e i ρ σ d = absurd (neg_none n s)
sides_low rule_12 (cons x (cons y ts)) r n s e i ρ σ d = absurd (neg_more x y ts n s)
sides_low rule_12 (cons x nil) r n s e i ρ σ d =
    subst (λ (t : Term). low_bits i (value ρ t) ≡ low_bits i (value σ t)) (one_claim 41 BvNeg (λ is. refl) (λ u. bb (negate term_gates (get_term_bits u))) x r e)
    (neg_low i ρ σ n x (neg_sort x n s) d.0)

pub low_bits_agree : LowBits
low_bits_agree number rule o ts right n of s e = sides_low of ts right n s (sides_of rule (node o ts) right (code_held (verdict rule (two Equals (node o ts) right)) e))

-- ---- of every job
neg_bv : (x : Term) → T (good (sort_of (node BvNeg (cons x nil)))) → sort_of (node BvNeg (cons x nil)) ≡ bv (sort_width (sort_of x))
unfolding fold
neg_bv x h = (guard_good _ (sort_of x) h).1 ∙ neg_wide x h

-- the left side of a held step of these rules
record Left (o : Op) (l : Term) : Type 0 where
  operands : Terms
  width : ℕ
  is : l ≡ node o operands
  wide : sort_of (node o operands) ≡ bv width

-- one whose arguments are many
many_left : (k : ℕ) (o : Op) → ((is : List ℕ) → decode k is ≡ o) → ((ts : Terms) → T (good (sort_of (node o ts))) → sort_of (node o ts) ≡ bv (sort_width (sort_of (node o ts))))
    → (f : List Term → Verdict) (l : Term) → T (good (sort_of l)) → form (args_of k l) f ≡ held → Left o l
many_left k o known wide f l g e =
    let u = many_held k l f e in
    let ts = from_list u.all in
    let i : l ≡ node o ts = u.is ∙ ap (λ (p : Op). node p ts) (known u.numbers) in
    record { operands = ts; width = sort_width (sort_of (node o ts)); is = i; wide = wide ts (subst (λ (t : Term). T (good (sort_of t))) i g) }

left_of : {rule : Rule} {o : Op} → Counts rule o → (l r : Term) → T (good (sort_of l)) → on_sides rule l r ≡ held → Left o l
unfolding on_sides
left_of rule_10 l r g e = many_left 45 BvAdd (λ is. refl) add_wide (λ ts. compare held (bb (add_bits ts)) r) l g e
left_of rule_11 l r g e = many_left 46 BvMul (λ is. refl) mul_wide (λ ts. compare held (fold_terms product ts) r) l g e
left_of rule_12 l r g e =
    let u = unary_held 41 l (λ x. compare held (bb (negate term_gates (get_term_bits x))) r) e in
    record {
      operands = cons u.one nil;
      width = sort_width (sort_of u.one);
      is = u.is;
      wide = neg_bv u.one (subst (λ (t : Term). T (good (sort_of t))) u.is g);
    }

-- of a literal at a place
low_at : {rule : Rule} {o : Op} → Counts rule o → (list : Plain) (p : ℕ) (t : Term) → at_place list p ≡ some t → T (good (sort_of t)) → verdict rule t ≡ held → LowHeld o list (p ∷ [])
unfolding verdict
low_at {rule} {o} of list p t there g e =
    let u = binary_held 24 t (on_sides rule) e in
    let s = equals_bool u.left u.right (subst (λ (z : Term). T (good (sort_of z))) u.is g) in
    let l = left_of of u.left u.right (equal_sorts u.left u.right s).0 u.after in
    record {
      place = p;
      operands = l.operands;
      right = u.right;
      one_literal = refl;
      on_list = there ∙ ap some (u.is ∙ ap (λ (z : Term). two Equals z u.right) l.is);
      agree = sides_low of l.operands u.right l.width l.wide (ap (λ (z : Term). on_sides rule z u.right) (sym l.is) ∙ u.after);
    }

-- code 0 is of one literal
low_of : {rule : Rule} {o : Op} → Counts rule o → (number : ℕ) (list : Plain) → AllGood list → (ks : List ℕ) (ts : List Term) → at_places list ks ≡ some ts
    → (answer_to number rule ts).code ≡ 0 → LowHeld o list ks
low_of {rule} of number list g [] ts e c =
    absurd (let z : (answer_to number rule []).code ≡ 0 = subst (λ (us : List Term). (answer_to number rule us).code ≡ 0) (sym (some_inj [] ts e)) c in omega arith)
low_of {rule} of number list g (p ∷ []) ts e c =
    let h = cons_some_is (at_place list p) (some []) ts e in
    let x = h.0 in
    let i : ts ≡ x ∷ [] = h.4 ∙ ap (λ (ys : List Term). x ∷ ys) (sym (some_inj [] h.1 h.3)) in
    let z : (answer_to number rule (x ∷ [])).code ≡ 0 = subst (λ (us : List Term). (answer_to number rule us).code ≡ 0) i c in
    let t = term_there list p x h.2 in
    low_at of list p x h.2 (subst (λ (u : Term). T (good (sort_of u))) t.1 (good_at list p g t.0)) (code_held (verdict rule x) z)
low_of {rule} of number list g (p ∷ q ∷ ks) ts e c =
    let h = cons_some_is (at_place list p) (at_places list (q ∷ ks)) ts e in
    let k = cons_some_is (at_place list q) (at_places list ks) h.1 h.3 in
    let i : ts ≡ h.0 ∷ k.0 ∷ k.1 = h.4 ∙ ap (λ (ys : List Term). h.0 ∷ ys) k.4 in
    absurd (let z : (answer_to number rule (h.0 ∷ k.0 ∷ k.1)).code ≡ 0 = subst (λ (us : List Term). (answer_to number rule us).code ≡ 0) i c in omega arith)

pub low_bits_held : LowBitsHeld
low_bits_held limits job work space m r number places rule o a h e q of f c =
    let s = (demand_2 limits job work space).steps m r number places h e in
    let l = reached_done limits job work space m r h in
    let i : s.rule ≡ rule = some_inj s.rule rule (sym s.rule_is ∙ q) in
    let j : answer_to number s.rule s.literals ≡ a = some_inj (answer_to number s.rule s.literals) a (sym s.answered ∙ f) in
    let z : (answer_to number rule s.literals).code ≡ 0 =
    ap (λ (t : Rule). (answer_to number t s.literals).code) (sym i) ∙ ap (λ (b : Answer). b.code) j ∙ c in
    low_of of number (plain_after m job) (sorted_after limits job work space m (omega arith)) places s.literals s.literals_are z
