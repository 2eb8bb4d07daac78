-- The asked term is one of the final store.
use mathlib.Core.Path.{◌≡◌}
use mathlib.Core.Bool.{Bool, true, false, cond}
use mathlib.Core.List.{[], ◌∷◌}
use Rattle.std.specs.Prelude.{Option, None as none, Some as some}
use Prim.Native.Nat.{ℕ, zero, suc, ◌<◌}
use native.Mathlib.Omega.{arith}
use lib.Dec.{T, eqb, eqb→eq}
use lib.ListN.{length}
use Rattle.theory.specs.Limit.{rack}
use Rattle.theory.specs.Term.{Term}
use Rattle.theory.specs.Record.{Bytes}
use Rattle.theory.specs.Plain.{Plain, at_place}
use Rattle.theory.specs.Job.{run}
use Rattle.theory.proofs.Basics.{none_some, some_inj}
use Rattle.theory.specs.Places.{tree_at}
use Rattle.sweeps.specs.Calls.{final, asked}

-- t is at that place of the list
pub record Stands (list : Plain) (number : ℕ) (t : Term) : Type 0 where
  pub low : number < length list
  pub is : tree_at list number ≡ t

pub stands_at : (list : Plain) (number : ℕ) (t : Term) → at_place list number ≡ some t → Stands list number t
stands_at [] number t e = absurd (none_some t e)
stands_at (d ∷ list) zero t e = record { low = omega arith; is = some_inj d.tree t e }
stands_at (d ∷ list) (suc number) t e = let s = stands_at list number t e in record { low = omega (arith, s.low); is = s.is }

asked_cases : (b : Bool) (q : Option Term) (t : Term) → cond b q none ≡ some t → T b × (q ≡ some t)
asked_cases true q t e = (tt, e)
asked_cases false q t e = absurd (none_some t e)

module _ (job : Bytes) (work space number : ℕ) (t : Term) (e : asked job work space number ≡ some t) where
  pub asked_at : at_place (final job work space) number ≡ some t
  asked_at = (asked_cases (eqb (run rack job work space).stop 0) (at_place (final job work space) number) t e).1

  pub asked_place : Stands (final job work space) number t
  asked_place = stands_at (final job work space) number t asked_at
