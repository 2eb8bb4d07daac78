-- `==` of two heads, as its derive has it, compares the numbers of their kinds and those in them.
use mathlib.Core.Path.{◌≡◌, refl, sym, ap, ap₂, ◌∙◌}
use mathlib.Core.Bool.{Bool, false, cond, ◌&&◌}
use mathlib.Core.List.{List, [], ◌∷◌}
use Prim.Native.Nat.{ℕ, suc, ◌<◌}
use native.Mathlib.Omega.{arith}
use lib.Dec.{eqb, eqb→eq}
use lib.Ieee.Fits.{eq→eqb}
use borrow.Author.Tests.{ne_eqb}
use denote.Enum.Declared.{tag_of}
use denote.Enum.Bare.{sameb, tag_one}
use Rattle.theory.specs.Term.{same_op}
use Rattle.theory.proofs.Basics.{T_same}
use Rattle.theory.proofs.Same.{same_op_two}
use Rattle.terms.specs.declared.kind.Kind.{Kind}
use Rattle.terms.specs.declared.kind.Kind.TheVariants as D
use Rattle.terms.specs.contracts.kind.Kind as E
use Rattle.terms.specs.declared.Term.{Term}
use Rattle.terms.specs.declared.Head.{Head}
use Rattle.terms.specs.declared.Head.TheVariants as H
use Rattle.terms.specs.Numbered.{number_of}
use Rattle.terms.specs.Decoded.{op_of, head_of, told_head}
use Rattle.terms.proofs.Cases.{kinds}
use Rattle.terms.specs.contracts.HeadPartialEq.TheImpl as Derived

-- where a number stands in a list
abbrev place_in : List ℕ → ℕ → ℕ
place_in [] n = 0
place_in (k ∷ ks) n = cond (eqb k n) 0 (suc (place_in ks n))

-- each kind's number stands once, after those of `True` and `False`
number_place : (k : Kind) → place_in kinds (number_of k) ≡ suc (suc (tag_of E.the_type k))
number_place D.BoolVar = refl
number_place D.BvVar = refl
number_place D.Const = refl
number_place D.Not = refl
number_place D.And = refl
number_place D.Or = refl
number_place D.Xor = refl
number_place D.Equals = refl
number_place D.Ite = refl
number_place D.BvBitOf = refl
number_place D.BvBbTerm = refl
number_place D.BvNot = refl
number_place D.BvNeg = refl
number_place D.BvAnd = refl
number_place D.BvOr = refl
number_place D.BvXor = refl
number_place D.BvAdd = refl
number_place D.BvMul = refl
number_place D.BvXNor = refl
number_place D.BvComp = refl
number_place D.BvULt = refl
number_place D.BvSLt = refl
number_place D.BvShl = refl
number_place D.BvLShr = refl
number_place D.BvAShr = refl
number_place D.BvUDiv = refl
number_place D.BvURem = refl
number_place D.BvConcat = refl
number_place D.BvExtract = refl
number_place D.SignExtend = refl
number_place D.ZeroExtend = refl
number_place D.RotateLeft = refl
number_place D.RotateRight = refl
number_place D.Repeat = refl

kinds_by_number : (k m : Kind) → sameb E.the_type k m ≡ eqb (number_of k) (number_of m)
kinds_by_number k m =
    T_same (sameb E.the_type k m) (eqb (number_of k) (number_of m))
    (λ t. eq→eqb (ap number_of (tag_one E.the_type tt k m (eqb→eq (tag_of E.the_type k) (tag_of E.the_type m) t))))
    (λ t. let e = sym (number_place k) ∙ ap (place_in kinds) (eqb→eq (number_of k) (number_of m) t) ∙ number_place m in eq→eqb (omega (arith, e)))

-- no kind has the number of `True` or `False`
other_number : (n : ℕ) (k : Kind) → place_in kinds n < 2 → eqb n (number_of k) ≡ false
other_number n k h = ne_eqb n (number_of k) (λ e. let f = ap (place_in kinds) e ∙ number_place k in omega (arith, f, h))

number_other : (n : ℕ) (k : Kind) → place_in kinds n < 2 → eqb (number_of k) n ≡ false
number_other n k h = ne_eqb (number_of k) n (λ e. let f = ap (place_in kinds) (sym e) ∙ number_place k in omega (arith, f, h))

abbrev same_told : ℕ × (ℕ × ℕ) → ℕ × (ℕ × ℕ) → Bool
same_told x y = eqb x.0 y.0 && (eqb x.1.0 y.1.0 && eqb x.1.1 y.1.1)

heads_by_number : (a b : Head) → (Derived.ghosts).eq a b ≡ same_told (told_head a) (told_head b)
heads_by_number H.True H.True = refl
heads_by_number H.True H.False = refl
heads_by_number H.True (H.Of k x y) = rw (other_number 0 k (omega arith)) refl
heads_by_number H.False H.True = refl
heads_by_number H.False H.False = refl
heads_by_number H.False (H.Of k x y) = rw (other_number 1 k (omega arith)) refl
heads_by_number (H.Of k x y) H.True = rw (number_other 0 k (omega arith)) refl
heads_by_number (H.Of k x y) H.False = rw (number_other 1 k (omega arith)) refl
heads_by_number (H.Of k x y) (H.Of m z w) = ap (λ b. b && (eqb x z && eqb y w)) (kinds_by_number k m)

-- so it compares the kinds of the terms
pub same_heads : (s t : Term) (a b : Head) → told_head a ≡ head_of s → told_head b ≡ head_of t → (Derived.ghosts).eq a b ≡ same_op (op_of s) (op_of t)
same_heads s t a b e f = heads_by_number a b ∙ ap₂ same_told e f ∙ sym (same_op_two (op_of s) (op_of t))
