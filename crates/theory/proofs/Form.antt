-- What the verdict held says of the form of the literal.
use mathlib.Core.Path.{◌≡◌, refl, sym, ap, ap₂, subst, ◌∙◌}
use mathlib.Core.Bool.{not, Bool, true, false, cond}
use mathlib.Core.List.{List, [], ◌∷◌, map}
use Rattle.std.specs.Prelude.{Option, None as none, Some as some}
use Prim.Native.Nat.{ℕ}
use native.Mathlib.Omega.{arith}
use lib.Dec.{T, eqb, eqb→eq}
use Rattle.theory.specs.Kind.{Op, True, False, Equals, kind, indices}
use Rattle.theory.specs.Term.{Term, Terms, node, nil, cons, to_list, from_list, same_term, two}
use Rattle.theory.specs.Verdict.{Verdict, held, form_only, not_one_literal, wrong_form, not_bit_vector, not_constant, bit_not_literal, other_value, terms_differ, index_not_next, premise_broken, code_of}
use Rattle.theory.specs.RuleTable.{Rule}
use Rattle.theory.specs.Rule.{args_of, one_of, two_of, form, unary, binary, compare, on_one, on_two, on_many, literal_bit, literal_bits, on_sides, verdict}
use Rattle.theory.proofs.Basics.{none_some, some_inj, cons_some_is}
use Rattle.theory.proofs.Blast.{from_to_list, to_from_list}
use Rattle.theory.proofs.Slices.{literal}
use Rattle.theory.proofs.Same.{decode, decode_kind, same_eq}

-- a verdict other than held
abbrev pub refusal : Verdict → Bool
refusal v = not (eqb (code_of v) 0)

pub not_held : (v : Verdict) → T (refusal v) → v ≡ held → ⊥
not_held v r e = subst (λ (w : Verdict). T (refusal w)) e r

pub form_held : {A : Type 0} (p : Option A) (f : A → Verdict) → form p f ≡ held → (a : A) × (p ≡ some a) × (f a ≡ held)
form_held none f e = absurd (not_held wrong_form tt e)
form_held (some a) f e = (a, refl, e)

-- code 0 is held alone
pub code_held : (v : Verdict) → code_of v ≡ 0 → v ≡ held
code_held held e = refl
code_held form_only e = absurd (omega arith)
code_held not_one_literal e = absurd (omega arith)
code_held wrong_form e = absurd (omega arith)
code_held not_bit_vector e = absurd (omega arith)
code_held not_constant e = absurd (omega arith)
code_held bit_not_literal e = absurd (omega arith)
code_held other_value e = absurd (omega arith)
code_held terms_differ e = absurd (omega arith)
code_held index_not_next e = absurd (omega arith)
code_held premise_broken e = absurd (omega arith)

-- the test passed, and what comes after it is held
pub then_held : (b : Bool) (v w : Verdict) → T (refusal v) → cond b w v ≡ held → T b × (w ≡ held)
then_held true v w r e = (tt, e)
then_held false v w r e = absurd (not_held v r e)

pub else_held : (b : Bool) (v w : Verdict) → T (refusal v) → cond (not b) v w ≡ held → T b × (w ≡ held)
else_held true v w r e = (tt, e)
else_held false v w r e = absurd (not_held v r e)

pub same_of : (e c : Term) → compare held e c ≡ held → e ≡ c
same_of e c h = same_eq e c (then_held (same_term e c) terms_differ held tt h).0

-- ---- a term of kind k
kind_is : (o : Op) (k : ℕ) → kind o ≡ k → o ≡ decode k (indices o)
kind_is o k e = sym (decode_kind o) ∙ ap (λ (j : ℕ). decode j (indices o)) e

pub args_held : (k : ℕ) (t : Term) (ts : List Term) → args_of k t ≡ some ts → (is : List ℕ) × (t ≡ node (decode k is) (from_list ts))
unfolding args_of
args_held k (node o us) ts e = go (eqb (kind o) k) refl e
  where
    go : (b : Bool) → eqb (kind o) k ≡ b → cond b (some (to_list us)) none ≡ some ts → (is : List ℕ) × (node o us ≡ node (decode k is) (from_list ts))
    go true t d =
        (indices o, ap₂ node (kind_is o k (eqb→eq (kind o) k (subst T (sym t) tt))) (sym (from_to_list us) ∙ ap from_list (some_inj (to_list us) ts d)))
    go false t d = absurd (none_some ts d)

one_held : (ts : List Term) (x : Term) → one_of ts ≡ some x → ts ≡ x ∷ []
one_held [] x e = absurd (none_some x e)
one_held (y ∷ []) x e = ap (λ (z : Term). z ∷ []) (some_inj y x e)
one_held (y ∷ z ∷ zs) x e = absurd (none_some x e)

two_held : (ts : List Term) (p : Term × Term) → two_of ts ≡ some p → ts ≡ p.0 ∷ p.1 ∷ []
two_held [] p e = absurd (none_some p e)
two_held (x ∷ []) p e = absurd (none_some p e)
two_held (x ∷ y ∷ []) p e = ap (λ (q : Term × Term). q.0 ∷ q.1 ∷ []) (some_inj (x, y) p e)
two_held (x ∷ y ∷ z ∷ zs) p e = absurd (none_some p e)

pub record Unary (k : ℕ) (t : Term) (f : Term → Verdict) : Type 0 where
  pub one : Term
  pub numbers : List ℕ
  pub is : t ≡ node (decode k numbers) (cons one nil)
  pub after : f one ≡ held

pub unary_held : (k : ℕ) (t : Term) (f : Term → Verdict) → unary k t f ≡ held → Unary k t f
unary_held k t f e =
    let p = form_held (args_of k t) (λ ts. form (one_of ts) f) e in
    let q = form_held (one_of p.0) f p.2 in
    let a = args_held k t p.0 p.1 in
    record {
      one = q.0;
      numbers = a.0;
      is = a.1 ∙ ap (λ (ts : List Term). node (decode k a.0) (from_list ts)) (one_held p.0 q.0 q.1);
      after = q.2;
    }

pub record Binary (k : ℕ) (t : Term) (f : Term → Term → Verdict) : Type 0 where
  pub left : Term
  pub right : Term
  pub numbers : List ℕ
  pub is : t ≡ node (decode k numbers) (cons left (cons right nil))
  pub after : f left right ≡ held

pub binary_held : (k : ℕ) (t : Term) (f : Term → Term → Verdict) → binary k t f ≡ held → Binary k t f
binary_held k t f e =
    let p = form_held (args_of k t) (λ ts. form (two_of ts) (λ p. f p.0 p.1)) e in
    let q = form_held (two_of p.0) (λ p. f p.0 p.1) p.2 in
    let a = args_held k t p.0 p.1 in
    record {
      left = q.0.0;
      right = q.0.1;
      numbers = a.0;
      is = a.1 ∙ ap (λ (ts : List Term). node (decode k a.0) (from_list ts)) (two_held p.0 q.0 q.1);
      after = q.2;
    }

pub record Many (k : ℕ) (t : Term) (f : List Term → Verdict) : Type 0 where
  pub all : List Term
  pub numbers : List ℕ
  pub is : t ≡ node (decode k numbers) (from_list all)
  pub after : f all ≡ held

pub many_held : (k : ℕ) (t : Term) (f : List Term → Verdict) → form (args_of k t) f ≡ held → Many k t f
many_held k t f e =
    let p = form_held (args_of k t) f e in
    let a = args_held k t p.0 p.1 in
    record { all = p.0; numbers = a.0; is = a.1; after = p.2 }

-- ---- bits that are literally true or false
literal_bit_is : (t : Term) (b : Bool) → literal_bit t ≡ some b → t ≡ literal b
literal_bit_is t b e = go (same_term t (node True nil)) (same_term t (node False nil)) (same_eq t (node True nil)) (same_eq t (node False nil)) e
  where
    go : (p q : Bool) → (T p → t ≡ node True nil) → (T q → t ≡ node False nil)
        → cond p (some true) (cond q (some false) none) ≡ some b → t ≡ literal b
    go true q f g d = f tt ∙ ap literal (some_inj true b d)
    go false true f g d = g tt ∙ ap literal (some_inj false b d)
    go false false f g d = absurd (none_some b d)

pub literal_bits_are : (ts : List Term) (bs : List Bool) → literal_bits ts ≡ some bs → ts ≡ map literal bs
unfolding literal_bits
literal_bits_are [] bs e = ap (map literal) (some_inj [] bs e)
literal_bits_are (t ∷ ts) bs e =
    let q = cons_some_is (literal_bit t) (literal_bits ts) bs e in
    ap₂ (λ (u : Term) (us : List Term). u ∷ us) (literal_bit_is t q.0 q.2) (literal_bits_are ts q.1 q.3) ∙ ap (map literal) (sym q.4)

-- ---- a held step of such a left side: the right side is what the rule expects
module _ (k : ℕ) (o : Op) (known : (is : List ℕ) → decode k is ≡ o) where
  pub two_claim : (expected : Term → Term → Term) (x y r : Term) → on_two held k expected (two o x y) r ≡ held → expected x y ≡ r
  two_claim expected x y r e =
      let u = binary_held k (two o x y) (λ x y. compare held (expected x y) r) e in
      let i : two o x y ≡ two o u.left u.right = u.is ∙ ap (λ (p : Op). two p u.left u.right) (known u.numbers) in
      let a : x ≡ u.left = cc in
      let b : y ≡ u.right = cc in
      ap₂ expected a b ∙ same_of (expected u.left u.right) r u.after

  pub one_claim : (expected : Term → Term) (x r : Term) → on_one k expected (node o (cons x nil)) r ≡ held → expected x ≡ r
  one_claim expected x r e =
      let u = unary_held k (node o (cons x nil)) (λ x. compare held (expected x) r) e in
      let i : node o (cons x nil) ≡ node o (cons u.one nil) = u.is ∙ ap (λ (p : Op). node p (cons u.one nil)) (known u.numbers) in
      let a : x ≡ u.one = cc in
      ap expected a ∙ same_of (expected u.one) r u.after

  pub many_claim : (expected : List Term → Term) (ts : Terms) (r : Term) → on_many k expected (node o ts) r ≡ held → expected (to_list ts) ≡ r
  many_claim expected ts r e =
      let u = many_held k (node o ts) (λ ts. compare held (expected ts) r) e in
      let i : node o ts ≡ node o (from_list u.all) = u.is ∙ ap (λ (p : Op). node p (from_list u.all)) (known u.numbers) in
      let a : ts ≡ from_list u.all = cc in
      ap (λ (us : Terms). expected (to_list us)) a ∙ ap expected (to_from_list u.all) ∙ same_of (expected u.all) r u.after

pub sides_of : (rule : Rule) (l r : Term) → verdict rule (two Equals l r) ≡ held → on_sides rule l r ≡ held
unfolding verdict
sides_of rule l r e =
    let u = binary_held 24 (two Equals l r) (on_sides rule) e in
    let i : two Equals l r ≡ two Equals u.left u.right = u.is in
    let a : l ≡ u.left = cc in
    let b : r ≡ u.right = cc in
    ap₂ (on_sides rule) a b ∙ u.after
