-- Rule 20 where x is a BvBbTerm that ends in `false`: its circuit is rule 26's, which has SMT-LIB's value.
use mathlib.Core.Path.{◌≡◌, refl, sym, ap, subst, ◌∙◌}
use mathlib.Core.Bool.{Bool, true, false, cond}
use mathlib.Core.List.{List, [], ◌∷◌}
use Prim.Native.Nat.{ℕ, zero, suc}
use lib.Dec.{T, eqb}
use Rattle.theory.specs.Kind.{True, False, BvBbTerm, BvAShr, kind}
use Rattle.theory.specs.Term.{Term, node, nil, to_list, same_op, same_term, two}
use Rattle.theory.specs.Sort.{bv, is_width, sort_width, sort_of}
use Rattle.theory.specs.Value.{Assign, value}
use Rattle.theory.specs.Gates.{term_gates}
use Rattle.theory.specs.Circuit.{last, ashr}
use Rattle.theory.specs.Bits.{select, get_term_bits, shifted, literally_false}
use Rattle.theory.specs.Rule.{ends_in_false}
use Rattle.theory.proofs.Same.{same_eq}
use Rattle.theory.proofs.Shift.{ashr_standard_holds}

-- ---- by the bits of x: only a BvBbTerm has the bit `false`
select_last : (t : Term) (i k : ℕ) → literally_false (last (node True nil) (select t i k)) ≡ false
unfolding select last same_term same_op
select_last t i zero = refl
select_last t i (suc zero) = refl
select_last t i (suc (suc k)) = select_last t (suc i) (suc k)

pub ends_bits : (x : Term) → ends_in_false x ≡ literally_false (last (node True nil) (get_term_bits x))
unfolding get_term_bits
ends_bits (node o ts) = go (eqb (kind o) (kind BvBbTerm)) refl
  where
    go : (b : Bool) → eqb (kind o) (kind BvBbTerm) ≡ b
        → ends_in_false (node o ts) ≡ literally_false (last (node True nil) (cond (eqb (kind o) (kind BvBbTerm)) (to_list ts) (select (node o ts) 0 (sort_width (sort_of (node o ts))))))
    go true e = rw e
    go false e = rw e (sym (select_last (node o ts) 0 (sort_width (sort_of (node o ts)))))

-- whatever stands for no bit at all
last_false : (ts : List Term) → T (literally_false (last (node True nil) ts)) → last (node False nil) ts ≡ node False nil
unfolding last same_term same_op
last_false [] h = absurd h
last_false (t ∷ []) h = same_eq t (node False nil) h
last_false (t ∷ t' ∷ ts) h = last_false (t' ∷ ts) h

pub top_false : (x : Term) → T (ends_in_false x) → last (node False nil) (get_term_bits x) ≡ node False nil
top_false x h = last_false (get_term_bits x) (subst T (ends_bits x) h)

-- ---- rule 20's circuit is then rule 26's
same_circuit : (x y : Term) → T (ends_in_false x) → shifted (ashr term_gates false) x y ≡ shifted (ashr term_gates true) x y
unfolding ashr
same_circuit x y h = rw (top_false x h)

pub ashr_holds : (ρ : Assign) (x y : Term) (n : ℕ) → sort_of x ≡ bv n → sort_of y ≡ bv n → T (is_width n) → T (ends_in_false x)
    → value ρ (shifted (ashr term_gates false) x y) ≡ value ρ (two BvAShr x y)
ashr_holds ρ x y n sx sy w h = ap (value ρ) (same_circuit x y h) ∙ ashr_standard_holds ρ x y n sx sy w
