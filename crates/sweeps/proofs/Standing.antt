-- What stands in a term: the term itself, and what stands in an argument of it.
use mathlib.Core.Path.{◌≡◌}
use mathlib.Core.Bool.{Bool, true, false, ◌||◌}
use lib.Dec.{T}
use Rattle.theory.specs.Kind.{Op}
use Rattle.theory.specs.Term.{Term, Terms, node, nil, cons, same_term}
use Rattle.theory.proofs.Basics.{or_left, or_right}
use Rattle.theory.proofs.Same.{same_eq, same_self}
use Rattle.sweeps.specs.Variables.{stands, stands_any}

pub stands_self : (t : Term) → T (stands t t)
unfolding stands
stands_self (node o ts) = or_left (same_term (node o ts) (node o ts)) (stands_any (node o ts) ts) (same_self (node o ts))

pub stands_in : (u : Term) (o : Op) (ts : Terms) → T (stands_any u ts) → T (stands u (node o ts))
unfolding stands
stands_in u o ts h = or_right (same_term u (node o ts)) (stands_any u ts) h

pub stands_first : (u t : Term) (ts : Terms) → T (stands u t) → T (stands_any u (cons t ts))
unfolding stands
stands_first u t ts h = or_left (stands u t) (stands_any u ts) h

pub stands_rest : (u t : Term) (ts : Terms) → T (stands_any u ts) → T (stands_any u (cons t ts))
unfolding stands
stands_rest u t ts h = or_right (stands u t) (stands_any u ts) h

-- it is the term, or it stands in an argument
pub stands_cases : (P : Type 0) (u : Term) (o : Op) (ts : Terms) → T (stands u (node o ts)) → (u ≡ node o ts → P) → (T (stands_any u ts) → P) → P
unfolding stands
stands_cases P u o ts h f g = go (same_term u (node o ts)) (same_eq u (node o ts)) h
  where
    go : (b : Bool) → (T b → u ≡ node o ts) → T (b || stands_any u ts) → P
    go true e k = f (e tt)
    go false e k = g k

pub any_cases : (P : Type 0) (u t : Term) (ts : Terms) → T (stands_any u (cons t ts)) → (T (stands u t) → P) → (T (stands_any u ts) → P) → P
unfolding stands
any_cases P u t ts h f g = go (stands u t) f h
  where
    go : (b : Bool) → (T b → P) → T (b || stands_any u ts) → P
    go true e k = e tt
    go false e k = g k

pub no_arguments : (u : Term) → T (stands_any u nil) → ⊥
unfolding stands
no_arguments u h = h
