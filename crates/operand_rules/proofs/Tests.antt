-- Tests of numbers that the last test of a rule makes.
use mathlib.Core.Path.{◌≡◌, sym, ap, ◌∙◌}
use mathlib.Core.Bool.{true}
use Prim.Native.Nat.{ℕ}
use lib.Dec.{eqb, eqb_refl}
use Rattle.theory.proofs.Basics.{T_true}

pub same_eqb : (k : ℕ) → eqb k k ≡ true
same_eqb k = T_true (eqb k k) (eqb_refl k)

pub eqb_yes : {x y : ℕ} → x ≡ y → eqb x y ≡ true
eqb_yes {x} e = ap (eqb x) (sym e) ∙ same_eqb x
