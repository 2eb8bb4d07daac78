-- A pass over the marked Bools.
use Rattle.std.specs.Prelude.{◌≡◌, List, ℕ, suc, ◌*◌, ◌<◌, ◌≤◌, T, length}
use Rattle.theory.specs.Term.{Term}
use Rattle.theory.specs.Record.{Bytes}
use Rattle.theory.specs.Plain.{Plain}
use Rattle.theory.specs.Places.{tree_at}
use Rattle.store.specs.Store.{listed}
use Rattle.sweeps.specs.Variables.{is_variable}
use Rattle.sweeps.specs.Known.{Known}
use Rattle.sweeps.specs.Calls.{cell_bytes}
use Rattle.marks.specs.Marks.{mark_of, Marked}
use Rattle.ternary.specs.Bits.{Closed, Offset, Sound}
use Rattle.store.specs.KeptTerms.{kept_terms}
use Rattle.marks.specs.declared.Asked.{Asked}

-- the marks are those of the asked term, whose kinds are not refused, and the cells have room
pub record Ready (job work : Bytes) (n : ℕ) (values : Bytes) (asked : ℕ) : Type 0 where
  pub marked : Marked job work n asked
  pub closed : Closed job work n
  pub room : cell_bytes * length (listed job work n) ≤ length values

-- the cells of the marked variables say where their bits stand
abbrev pub Offsets : (Term → List Known) → Plain → Bytes → Bytes → Bytes → Bytes → Type 0
Offsets input list job work inputs values =
    (p : ℕ) → p < length list → T (mark_of job work p) → T (is_variable (tree_at list p)) → Offset input list inputs values p

-- then the cells up to the asked one are sound
pub record Passed (list : Plain) (job work inputs : Bytes) (asked : ℕ) (values after : Bytes) : Type 0 where
  pub length_is : length after ≡ length values
  pub sound : (input : Term → List Known) → Offsets input list job work inputs values → Sound input list job work inputs after (suc asked)

-- the asked term's Bools may be passed over in that buffer
abbrev pub ReadyIn : Asked → Bytes → Type 0
ReadyIn k values = Ready k.terms.job.now k.terms.work.now k.terms.rows values k.place

-- they were, and the buffer is after it
abbrev pub PassedIn : Asked → Bytes → Bytes → Bytes → Type 0
PassedIn k inputs = Passed (kept_terms k.terms) k.terms.job.now k.terms.work.now inputs k.place
