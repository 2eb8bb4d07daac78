-- `same_term` is equality of terms, and a kind is its number and the numbers in it.
use mathlib.Core.Path.{◌≡◌, refl, sym, ap, ap₂, subst, ◌∙◌}
use mathlib.Core.List.{List, [], ◌∷◌}
use Prim.Native.Nat.{ℕ, ◌-◌}
use lib.Dec.{T, leb, eqb, eqb→eq, eqb_refl}
use lib.ListN.{get_or}
use mathlib.Core.Bool.{◌&&◌, cond}
use Rattle.theory.specs.Kind.{Op, True, False, Not, And, Or, Xor, Equals, Ite, BoolVar, BvVar, Const, BvBitOf, BvBbTerm, BvNot, BvNeg, BvAnd, BvOr, BvXor, BvAdd, BvMul, BvXNor, BvComp, BvULt, BvSLt, BvShl, BvLShr, BvAShr, BvUDiv, BvURem, BvConcat, BvExtract, SignExtend, ZeroExtend, RotateLeft, RotateRight, Repeat, kind, indices}
use Rattle.theory.specs.Term.{Term, Terms, node, nil, cons, same_numbers, same_op, same_term, same_terms}
use Rattle.theory.specs.Rule.{nth}
use Rattle.theory.proofs.Basics.{T_same}
use lib.Ieee.Fits.{and_l, and_r, and_i}

-- ---- the kind of a number and of the numbers in it; of no use where there is none
abbrev pick : List Op → ℕ → ℕ → Op
pick os a k = get_or os (k - a) True

abbrev pub decode : ℕ → List ℕ → Op
decode k is =
    cond (leb k 1) (pick (True ∷ False ∷ []) 0 k)
    (cond (leb k 12) (pick (BoolVar (nth 0 is) ∷ BvVar (nth 0 is) (nth 1 is) ∷ Const (nth 0 is) (nth 1 is) ∷ []) 10 k)
    (cond (leb k 25) (pick (Not ∷ And ∷ Or ∷ Xor ∷ Equals ∷ Ite ∷ []) 20 k)
    (cond (leb k 31) (pick (BvBitOf (nth 0 is) ∷ BvBbTerm ∷ []) 30 k)
    (cond (leb k 58) (pick (BvNot ∷ BvNeg ∷ BvAnd ∷ BvOr ∷ BvXor ∷ BvAdd ∷ BvMul ∷ BvXNor ∷ BvComp ∷ BvULt ∷ BvSLt ∷ BvShl ∷ BvLShr ∷ BvAShr ∷ BvUDiv ∷ BvURem ∷ BvConcat ∷ BvExtract (nth 0 is) (nth 1 is) ∷ SignExtend (nth 0 is) ∷ []) 40 k)
    (pick (ZeroExtend (nth 0 is) ∷ RotateLeft (nth 0 is) ∷ RotateRight (nth 0 is) ∷ Repeat (nth 0 is) ∷ []) 60 k)))))

pub decode_kind : (o : Op) → decode (kind o) (indices o) ≡ o
decode_kind True = refl
decode_kind False = refl
decode_kind Not = refl
decode_kind And = refl
decode_kind Or = refl
decode_kind Xor = refl
decode_kind Equals = refl
decode_kind Ite = refl
decode_kind (BoolVar x) = refl
decode_kind (BvVar n x) = refl
decode_kind (Const n x) = refl
decode_kind (BvBitOf i) = refl
decode_kind BvBbTerm = refl
decode_kind BvNot = refl
decode_kind BvNeg = refl
decode_kind BvAnd = refl
decode_kind BvOr = refl
decode_kind BvXor = refl
decode_kind BvAdd = refl
decode_kind BvMul = refl
decode_kind BvXNor = refl
decode_kind BvComp = refl
decode_kind BvULt = refl
decode_kind BvSLt = refl
decode_kind BvShl = refl
decode_kind BvLShr = refl
decode_kind BvAShr = refl
decode_kind BvUDiv = refl
decode_kind BvURem = refl
decode_kind BvConcat = refl
decode_kind (BvExtract i j) = refl
decode_kind (SignExtend k) = refl
decode_kind (ZeroExtend k) = refl
decode_kind (RotateLeft k) = refl
decode_kind (RotateRight k) = refl
decode_kind (Repeat k) = refl

pub same_numbers_eq : (xs ys : List ℕ) → T (same_numbers xs ys) → xs ≡ ys
same_numbers_eq [] [] h = refl
same_numbers_eq (x ∷ xs) (y ∷ ys) h =
    ap₂ (λ (z : ℕ) (zs : List ℕ). z ∷ zs) (eqb→eq x y (and_l (eqb x y) _ h)) (same_numbers_eq xs ys (and_r (eqb x y) _ h))
same_numbers_eq [] (y ∷ ys) h = elim h [ ]
same_numbers_eq (x ∷ xs) [] h = elim h [ ]

pub same_op_eq : (o p : Op) → T (same_op o p) → o ≡ p
unfolding same_op
same_op_eq o p h =
    sym (decode_kind o)
    ∙ ap₂ decode (eqb→eq (kind o) (kind p) (and_l (eqb (kind o) (kind p)) _ h)) (same_numbers_eq (indices o) (indices p) (and_r (eqb (kind o) (kind p)) _ h))
    ∙ decode_kind p

pub same_numbers_refl : (ks : List ℕ) → T (same_numbers ks ks)
same_numbers_refl [] = tt
same_numbers_refl (k ∷ ks) = and_i (eqb k k) (same_numbers ks ks) (eqb_refl k) (same_numbers_refl ks)

pub same_op_refl : (o : Op) → T (same_op o o)
unfolding same_op
same_op_refl o = and_i (eqb (kind o) (kind o)) (same_numbers (indices o) (indices o)) (eqb_refl (kind o)) (same_numbers_refl (indices o))

mutual
  unfolding same_term

  pub same_eq : (t u : Term) → T (same_term t u) → t ≡ u
  same_eq (node o ts) (node p us) h = ap₂ node (same_op_eq o p (and_l (same_op o p) _ h)) (sames_eq ts us (and_r (same_op o p) _ h))

  sames_eq : (ts us : Terms) → T (same_terms ts us) → ts ≡ us
  sames_eq nil nil h = refl
  sames_eq (cons t ts) (cons u us) h = ap₂ cons (same_eq t u (and_l (same_term t u) _ h)) (sames_eq ts us (and_r (same_term t u) _ h))
  sames_eq nil (cons u us) h = elim h [ ]
  sames_eq (cons t ts) nil h = elim h [ ]

mutual
  unfolding same_term

  pub same_self : (t : Term) → T (same_term t t)
  same_self (node o ts) = and_i (same_op o o) (same_terms ts ts) (same_op_refl o) (sames_self ts)

  sames_self : (ts : Terms) → T (same_terms ts ts)
  sames_self nil = tt
  sames_self (cons t ts) = and_i (same_term t t) (same_terms ts ts) (same_self t) (sames_self ts)

pub eq_same : (t u : Term) → t ≡ u → T (same_term t u)
eq_same t u e = subst (λ (v : Term). T (same_term t v)) e (same_self t)

-- ---- a kind by its number and the first two numbers in it: none has more
decode_two : (k : ℕ) (is js : List ℕ) → nth 0 is ≡ nth 0 js → nth 1 is ≡ nth 1 js → decode k is ≡ decode k js
decode_two k is js e f = ap₂ (λ (i j : ℕ). decode k (i ∷ j ∷ [])) e f

pub same_op_two : (o p : Op) → same_op o p ≡ (eqb (kind o) (kind p) && (eqb (nth 0 (indices o)) (nth 0 (indices p)) && eqb (nth 1 (indices o)) (nth 1 (indices p))))
same_op_two o p =
    T_same (same_op o p) _
    (λ t. subst (λ (q : Op). T (eqb (kind o) (kind q) && (eqb (nth 0 (indices o)) (nth 0 (indices q)) && eqb (nth 1 (indices o)) (nth 1 (indices q))))) (same_op_eq o p t)
    (and_i (eqb (kind o) (kind o)) _ (eqb_refl (kind o)) (and_i (eqb (nth 0 (indices o)) (nth 0 (indices o))) _ (eqb_refl (nth 0 (indices o))) (eqb_refl (nth 1 (indices o))))))
    (λ t.
    let a = eqb→eq (kind o) (kind p) (and_l (eqb (kind o) (kind p)) _ t) in
    let r = and_r (eqb (kind o) (kind p)) _ t in
    let b = eqb→eq (nth 0 (indices o)) (nth 0 (indices p)) (and_l (eqb (nth 0 (indices o)) (nth 0 (indices p))) _ r) in
    let c = eqb→eq (nth 1 (indices o)) (nth 1 (indices p)) (and_r (eqb (nth 0 (indices o)) (nth 0 (indices p))) _ r) in
    let e : o ≡ p = sym (decode_kind o) ∙ ap (λ (k : ℕ). decode k (indices o)) a ∙ decode_two (kind p) (indices o) (indices p) b c ∙ decode_kind p in
    subst (λ (q : Op). T (same_op o q)) e (same_op_refl o))
