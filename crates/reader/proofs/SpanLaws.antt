-- How many arguments a kind has.
use mathlib.Core.Path.{◌≡◌, refl, sym, ap, ap₂, ◌∙◌}
use mathlib.Core.Bool.{Bool, ◌&&◌}
use mathlib.Core.List.{[]}
use Prim.Native.Nat.{ℕ, ◌≤◌}
use native.Mathlib.Omega.{arith}
use native.Mathlib.Decide.{dec_le}
use lib.Dec.{eqb, leb}
use borrow.Author.Tests.{eq-eqb, ne_eqb, le-leb, lt-leb}
use Rattle.theory.specs.Kind.{Arity, exactly, many, arity, takes}
use Rattle.theory.specs.Record.{make}
use Rattle.terms.specs.Bodies.{least, most, form_of}
use Rattle.terms.specs.Numbered.{shape}
use Rattle.terms.specs.declared.kind.Form.{Form}
use Rattle.terms.specs.declared.kind.Kind.{Kind}
use Rattle.terms.specs.declared.kind.Kind.TheVariants as D
use Rattle.names.specs.Kinds.{shaped}

-- whatever the numbers in it
arity_made : (k : Kind) (x y : ℕ) → arity (shaped (shape k) x y) ≡ arity (make (shape k) [])
arity_made D.BoolVar x y = refl
arity_made D.BvVar x y = refl
arity_made D.Const x y = refl
arity_made D.Not x y = refl
arity_made D.And x y = refl
arity_made D.Or x y = refl
arity_made D.Xor x y = refl
arity_made D.Equals x y = refl
arity_made D.Ite x y = refl
arity_made D.BvBitOf x y = refl
arity_made D.BvBbTerm x y = refl
arity_made D.BvNot x y = refl
arity_made D.BvNeg x y = refl
arity_made D.BvAnd x y = refl
arity_made D.BvOr x y = refl
arity_made D.BvXor x y = refl
arity_made D.BvAdd x y = refl
arity_made D.BvMul x y = refl
arity_made D.BvXNor x y = refl
arity_made D.BvComp x y = refl
arity_made D.BvULt x y = refl
arity_made D.BvSLt x y = refl
arity_made D.BvShl x y = refl
arity_made D.BvLShr x y = refl
arity_made D.BvAShr x y = refl
arity_made D.BvUDiv x y = refl
arity_made D.BvURem x y = refl
arity_made D.BvConcat x y = refl
arity_made D.BvExtract x y = refl
arity_made D.SignExtend x y = refl
arity_made D.ZeroExtend x y = refl
arity_made D.RotateLeft x y = refl
arity_made D.RotateRight x y = refl
arity_made D.Repeat x y = refl

takes_span : (a : Arity) (n : ℕ) → takes a n ≡ (leb (least a) n && leb n (most a))
takes_span many n = refl
takes_span (exactly k) n = go (dec_le k n) (dec_le n k)
  where
    go : Dec (k ≤ n) → Dec (n ≤ k) → eqb n k ≡ (leb k n && leb n k)
    go (yes p) (yes q) = eq-eqb n k (omega arith) ∙ sym (ap₂ (λ (x y : Bool). x && y) (le-leb k n p) (le-leb n k q))
    go (yes p) (no q) = ne_eqb n k (λ e. omega arith) ∙ sym (ap₂ (λ (x y : Bool). x && y) (le-leb k n p) (lt-leb n k (omega arith)))
    go (no p) q = ne_eqb n k (λ e. omega arith) ∙ sym (ap (λ (x : Bool). x && leb n k) (lt-leb k n (omega arith)))

pub takes_by : (k : Kind) (x y : ℕ) {f : Form} → f ≡ form_of (shape k) → (n : ℕ) → takes (arity (shaped (shape k) x y)) n ≡ (leb f.least n && leb n f.most)
takes_by k x y e n =
    ap (λ (a : Arity). takes a n) (arity_made k x y) ∙ takes_span (arity (make (shape k) [])) n ∙ ap (λ (f : Form). leb f.least n && leb n f.most) (sym e)
