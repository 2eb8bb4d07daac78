-- What it says of a term's arguments that the term has a sort.
use mathlib.Core.Path.{◌≡◌, refl}
use mathlib.Core.Bool.{◌&&◌}
use mathlib.Core.List.{List}
use Prim.Native.Nat.{suc}
use native.Mathlib.Omega.{arith}
use lib.Dec.{T, eqb→eq}
use lib.Ieee.Fits.{and_l, and_r}
use lib.ListN.{length}
use Rattle.theory.specs.Kind.{Op, exactly, arity, takes}
use Rattle.theory.specs.Term.{Terms, nil, cons, fold}
use Rattle.theory.specs.Sort.{Sort, good, fitting, result_sort, sort_op, sorts_of}
use Rattle.theory.proofs.Verdict.{guard_good}

module _ (o : Op) (ss : List Sort) (g : T (good (sort_op o ss))) where
  passes : T (takes (arity o) (length ss) && fitting o ss)
  passes = (guard_good (takes (arity o) (length ss) && fitting o ss) (result_sort o ss) g).0

  -- they are as many as its kind takes
  pub counted : T (takes (arity o) (length ss))
  counted = and_l (takes (arity o) (length ss)) (fitting o ss) passes

  -- and their sorts fit
  pub fitted : T (fitting o ss)
  fitted = and_r (takes (arity o) (length ss)) (fitting o ss) passes

-- a term that takes no arguments has none
pub no_terms : (ts : Terms) → T (takes (exactly 0) (length (sorts_of ts))) → ts ≡ nil
unfolding fold
no_terms nil h = refl
no_terms (cons t ts) h = let e = eqb→eq (suc (length (sorts_of ts))) 0 h in absurd (omega arith)
