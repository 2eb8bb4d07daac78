-- The bits of a term of the final store, by its number.
use Rattle.std.specs.Prelude.{◌≡◌, Bool, true, map, ℕ, ◌*◌, ◌≤◌, length}
use Rattle.theory.specs.Record.{Bytes}
use Rattle.theory.specs.Plain.{Plain, at_place}
use Rattle.theory.specs.Codes.{first_fault}
use Rattle.theory.specs.Places.{tree_at}
use Rattle.store.specs.Store.{listed}
use Rattle.sweeps.specs.Variables.{variables, total_bits, bits_in}
use Rattle.sweeps.specs.Known.{known_byte, known, input_of}
use Rattle.sweeps.specs.Calls.{cell_bytes, derivable, Derived, derived, known_tests}
use Rattle.marks.specs.Marks.{Marked}
use Rattle.partial.specs.Levels.{BitLevel}
use Rattle.store.specs.KeptTerms.{kept_terms}
use Rattle.marks.specs.declared.Asked.{Asked}

-- r says whether the bits of the asked term are given
pub record Derivable (list : Plain) (job work : Bytes) (n asked : ℕ) (inputs : Bytes) (output : ℕ) (r : Bool) : Type 0 where
  pub is : r ≡ derivable list (tree_at list asked) inputs output
  pub level : r ≡ true → BitLevel list job work n asked true

-- they are, and the memories have room
pub record Accepted (job work : Bytes) (n : ℕ) (values : Bytes) (asked : ℕ) (inputs outputs : Bytes) : Type 0 where
  pub marked : Marked job work n asked
  pub level : BitLevel (listed job work n) job work n asked true
  pub inputs_are : length inputs ≡ total_bits (variables (listed job work n) (tree_at (listed job work n) asked))
  pub room : cell_bytes * length (listed job work n) ≤ length values
  pub output_room : bits_in (tree_at (listed job work n) asked) ≤ length outputs

-- the bytes of the asked term's bits
abbrev pub bits_of : Plain → ℕ → Bytes → Bytes
bits_of list asked inputs = map known_byte (known (input_of (variables list (tree_at list asked)) inputs) (tree_at list asked))

-- what is derived of a term of the final store
unfoldable pub derived_number : Plain → ℕ → ℕ → Bytes → ℕ → Derived
derived_number list number values inputs output =
    derived list (at_place list number) inputs (first_fault (known_tests list (at_place list number) values inputs output))

-- the same of the asked term
abbrev pub IsDerivable : Asked → Bytes → ℕ → Bool → Type 0
IsDerivable k = Derivable (kept_terms k.terms) k.terms.job.now k.terms.work.now k.terms.rows k.place

-- the asked term's bits are given
abbrev pub IsAccepted : Asked → Bytes → Bytes → Bytes → Type 0
IsAccepted k values = Accepted k.terms.job.now k.terms.work.now k.terms.rows values k.place
