-- `let V(..) = t else { .. }` on a decoded term, for callers: the kind of each case, and that the other cases have other kinds.
use mathlib.Core.Path.{◌≡◌, refl, sym, subst}
use mathlib.Core.Bool.{Bool, true, false, not, ◌&&◌}
use mathlib.Core.List.{List, [], ◌∷◌}
use Prim.Native.Nat.{ℕ}
use lib.Dec.{T, eqb}
use lib.Ieee.Fits.{and_l, and_r}
use lib.ListN.{get_or}
use mathlib.Core.Logic.{inl, inr}
use types.Run.{OneOf}
use denote.Enum.Declared.{tag_of}
use Rattle.theory.specs.Kind.{kind}
use Rattle.terms.specs.declared.Term.{Term}
use Rattle.terms.specs.declared.Term.TheVariants as D
use Rattle.terms.specs.Decoded.{op_of}
use Rattle.terms.specs.contracts.Term as E

-- the kind of each case of the enum, in its order
abbrev pub kinds : List ℕ
kinds = 0 ∷ 1 ∷ 10 ∷ 11 ∷ 12 ∷ 20 ∷ 21 ∷ 22 ∷ 23 ∷ 24 ∷ 25 ∷ 30 ∷ 31 ∷ 40 ∷ 41 ∷ 42 ∷ 43 ∷ 44 ∷ 45 ∷ 46 ∷ 47 ∷ 48 ∷ 49 ∷ 50 ∷ 51 ∷ 52 ∷ 53 ∷ 54 ∷ 55 ∷ 56 ∷ 57 ∷ 58 ∷ 60 ∷ 61 ∷ 62 ∷ 63 ∷ []

pub kind_tag : (t : Term) → kind (op_of t) ≡ get_or kinds (tag_of E.the_type t) 0
kind_tag D.True = refl
kind_tag D.False = refl
kind_tag (D.BoolVar x) = refl
kind_tag (D.BvVar n x) = refl
kind_tag (D.Const n x) = refl
kind_tag (D.Not x) = refl
kind_tag (D.And a) = refl
kind_tag (D.Or a) = refl
kind_tag (D.Xor x y) = refl
kind_tag (D.Equals x y) = refl
kind_tag (D.Ite c x y) = refl
kind_tag (D.BvBitOf i x) = refl
kind_tag (D.BvBbTerm a) = refl
kind_tag (D.BvNot x) = refl
kind_tag (D.BvNeg x) = refl
kind_tag (D.BvAnd a) = refl
kind_tag (D.BvOr a) = refl
kind_tag (D.BvXor a) = refl
kind_tag (D.BvAdd a) = refl
kind_tag (D.BvMul a) = refl
kind_tag (D.BvXNor x y) = refl
kind_tag (D.BvComp x y) = refl
kind_tag (D.BvULt x y) = refl
kind_tag (D.BvSLt x y) = refl
kind_tag (D.BvShl x y) = refl
kind_tag (D.BvLShr x y) = refl
kind_tag (D.BvAShr x y) = refl
kind_tag (D.BvUDiv x y) = refl
kind_tag (D.BvURem x y) = refl
kind_tag (D.BvConcat a) = refl
kind_tag (D.BvExtract i j x) = refl
kind_tag (D.SignExtend k x) = refl
kind_tag (D.ZeroExtend k x) = refl
kind_tag (D.RotateLeft k x) = refl
kind_tag (D.RotateRight k x) = refl
kind_tag (D.Repeat k x) = refl

-- none of these cases has the kind k
abbrev pub all_other : ℕ → List ℕ → Bool
all_other k [] = true
all_other k (j ∷ js) = not (eqb (get_or kinds j 0) k) && all_other k js

others : (k j : ℕ) (js : List ℕ) (x : ℕ) → T (all_other k (j ∷ js)) → OneOf (j ∷ js) x → T (not (eqb (get_or kinds x 0) k))
others k j [] x h e = subst (λ (y : ℕ). T (not (eqb (get_or kinds y 0) k))) (sym e) (and_l (not (eqb (get_or kinds j 0) k)) true h)
others k j (i ∷ js) x h (inl e) = subst (λ (y : ℕ). T (not (eqb (get_or kinds y 0) k))) (sym e) (and_l (not (eqb (get_or kinds j 0) k)) _ h)
others k j (i ∷ js) x h (inr r) = others k i js x (and_r (not (eqb (get_or kinds j 0) k)) _ h) r

-- in the else of a pattern of kind k: the term's case is one of the others, so its kind is another
pub other_kind : (k j : ℕ) (js : List ℕ) (t : Term) → OneOf (j ∷ js) (tag_of E.the_type t) → T (all_other k (j ∷ js)) → eqb (kind (op_of t)) k ≡ false
other_kind k j js t e h =
    off (eqb (kind (op_of t)) k) (subst (λ (x : ℕ). T (not (eqb x k))) (sym (kind_tag t)) (others k j js (tag_of E.the_type t) h e))
  where
    off : (b : Bool) → T (not b) → b ≡ false
    off true g = absurd g
    off false g = refl
