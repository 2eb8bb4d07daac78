-- Folds of terms from the left. These laws are ghost members of list_rules' operations, and stand here since no source
-- cites proofs of its own crate.
use mathlib.Core.Path.{◌≡◌, refl, ap, ◌∙◌}
use mathlib.Core.List.{List, [], ◌∷◌, foldl}
use Prim.Native.Nat.{suc, ◌<◌, ◌≤◌}
use native.Mathlib.Omega.{arith}
use lib.ListN.{length}
use Rattle.theory.specs.Kind.{False}
use Rattle.theory.specs.Term.{Term, node, nil}
use Rattle.theory.specs.Gates.{term_gates}
use Rattle.theory.specs.Circuit.{ripple_carry_adder}
use Rattle.theory.specs.Bits.{get_term_bits, bb, fold_terms, add_bits}
use Rattle.operand_rules.proofs.Numbers.{bb_bits}

-- ---- an operation's circuit, from the left
module _ (circuit : List Term → List Term → List Term) where
  -- the bits of one more term
  abbrev pub on_bits : List Term → Term → List Term
  on_bits us t = circuit us (get_term_bits t)

  -- one more term, as a term
  abbrev pub on_terms : Term → Term → Term
  on_terms a t = bb (on_bits (get_term_bits a) t)

  -- the bits of a term of bits are these bits, so a fold of terms is the term of a fold of bits
  fold_bb : (us ts : List Term) → foldl on_terms (bb us) ts ≡ bb (foldl on_bits us ts)
  fold_bb us [] = refl
  fold_bb us (t ∷ ts) = ap (λ (vs : List Term). foldl on_terms (bb (on_bits vs t)) ts) (bb_bits us) ∙ fold_bb (on_bits us t) ts

  -- of two terms or more it is a term of bits
  pub two_or_more : (t : Term) (ts : List Term) → 2 ≤ suc (length ts) → fold_terms on_terms (t ∷ ts) ≡ bb (foldl on_bits (get_term_bits t) ts)
  unfolding fold_terms
  two_or_more t [] h = absurd (omega arith)
  two_or_more t (u ∷ ts) h = fold_bb (on_bits (get_term_bits t) u) ts

-- fewer than two terms are one, which is itself
pub one_alone : (g : Term → Term → Term) (t : Term) (ts : List Term) → suc (length ts) < 2 → fold_terms g (t ∷ ts) ≡ t
unfolding fold_terms
one_alone g t [] h = refl
one_alone g t (u ∷ ts) h = absurd (omega arith)

-- the sum of any number of terms is a term of bits
pub sum_bits : (t : Term) (ts : List Term) → bb (add_bits (t ∷ ts)) ≡ bb (foldl (on_bits (ripple_carry_adder term_gates (node False nil))) (get_term_bits t) ts)
unfolding add_bits
sum_bits t ts = refl

-- and fewer than one are none
pub none_fewer : (t : Term) (ts : List Term) → suc (length ts) < 1 → bb (add_bits (t ∷ ts)) ≡ t
none_fewer t ts h = absurd (omega arith)
