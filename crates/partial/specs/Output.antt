-- The bits of the asked term, written as bytes.
use Rattle.std.specs.Prelude.{◌≡◌, List, ℕ, suc, ◌+◌, ◌≤◌, ◌<◌, T, length, get_or}
use Rattle.theory.specs.Limit.{first_terms}
use Rattle.theory.specs.Term.{Term}
use Rattle.theory.specs.Record.{Bytes}
use Rattle.theory.specs.Plain.{Plain}
use Rattle.theory.specs.Places.{tree_at}
use Rattle.store.specs.Store.{listed}
use Rattle.sweeps.specs.Variables.{bits_in}
use Rattle.sweeps.specs.Known.{Known, unknown, known_byte, known}
use Rattle.marks.specs.Marks.{mark_of}
use Rattle.counter.specs.Counting.{Holds}
use Rattle.ternary.specs.Bits.{Closed, Sound}
use Rattle.store.specs.KeptTerms.{kept_terms}
use Rattle.ternary.specs.declared.bits.KnownBits.{KnownBits}

-- the asked term has so many bits, and the memory has room for them
pub record Output (job work : Bytes) (n asked bits : ℕ) (outputs : Bytes) : Type 0 where
  pub closed : Closed job work n
  pub low : asked < first_terms + n
  pub marked : T (mark_of job work asked)
  pub bits_are : bits ≡ bits_in (tree_at (listed job work n) asked)
  pub room : bits ≤ length outputs

-- byte j of a term
abbrev pub byte_of : (Term → List Known) → Term → ℕ → ℕ
byte_of input t j = known_byte (get_or (known input t) j unknown)

-- the first bytes are those of the asked term's bits, where the cells are sound, and the others are as before
pub record Wrote (list : Plain) (job work inputs values : Bytes) (asked bits : ℕ) (outputs after : Bytes) : Type 0 where
  pub length_is : length after ≡ length outputs
  pub holds : (input : Term → List Known) → Sound input list job work inputs values (suc asked)
      → Holds (byte_of input (tree_at list asked)) bits outputs after

-- so many bits of the term at a place may be written
abbrev pub MayWrite : KnownBits → ℕ → ℕ → Bytes → Type 0
MayWrite k = Output k.terms.job.now k.terms.work.now k.terms.rows

-- they were
abbrev pub HasWritten : KnownBits → ℕ → ℕ → Bytes → Bytes → Type 0
HasWritten k = Wrote (kept_terms k.terms) k.terms.job.now k.terms.work.now k.inputs.now k.values.now
