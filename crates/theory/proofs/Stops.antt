-- Which codes can stop a job.
use mathlib.Core.Bool.{Bool, true, false, cond}
use mathlib.Core.List.{List, [], ◌∷◌}
use Prim.Native.Nat.{ℕ}
use lib.Dec.{T, eqb}
use lib.ListN.{length}
use Rattle.theory.specs.Limit.{Limits}
use Rattle.theory.specs.Record.{Bytes, records_of, total_length, ending, Item, term, step, chain, back, unknown, misfit, read}
use Rattle.theory.specs.Plain.{Plain}
use Rattle.theory.specs.Codes.{first_fault, tests, fault}
use Rattle.theory.specs.Claim.{element, stop_codes}

abbrev pub Stop : ℕ → Type 0
Stop c = T (element c stop_codes)

abbrev AllStops : List (Bool × ℕ) → Type 0
AllStops [] = Unit {0}
AllStops (t ∷ ts) = Stop t.1 × AllStops ts

first_stop : (ts : List (Bool × ℕ)) → AllStops ts → Stop (first_fault ts)
first_stop [] h = tt
first_stop (t ∷ ts) h = go t.0 h.0 (first_stop ts h.1)
  where
    go : (b : Bool) → Stop t.1 → Stop (first_fault ts) → Stop (cond b (first_fault ts) t.1)
    go true p q = q
    go false p q = p

tests_stop : (place b : ℕ) (limits : Limits) (work space : ℕ) (list : Plain) (answered : ℕ) (r : Bytes) (i : Item) → AllStops (tests place b limits work space list answered r i)
tests_stop place b limits work space list answered r unknown = (tt, (tt, tt))
tests_stop place b limits work space list answered r misfit = (tt, tt)
tests_stop place b limits work space list answered r (term o ks) = (tt, (tt, (tt, tt)))
tests_stop place b limits work space list answered r (step n ks) = (tt, (tt, (tt, tt)))
tests_stop place b limits work space list answered r (chain n ps k) = (tt, (tt, (tt, tt)))
tests_stop place b limits work space list answered r (back n) = (tt, tt)

pub fault_code : (place b : ℕ) (limits : Limits) (work space : ℕ) (list : Plain) (answered : ℕ) (r : Bytes) → Stop (fault place b limits work space list answered r)
unfolding fault
fault_code place b limits work space list answered r = first_stop (tests place b limits work space list answered r (read b r)) (tests_stop place b limits work space list answered r (read b r))

pub ending_code : (job : Bytes) → Stop (ending job)
ending_code job = go (eqb (total_length (records_of job)) (length job))
  where
    go : (b : Bool) → Stop (cond b 0 3)
    go true = tt
    go false = tt
