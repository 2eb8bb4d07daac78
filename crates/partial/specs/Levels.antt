-- A term that is not refused for its kinds.
use Rattle.std.specs.Prelude.{◌≡◌, Bool, true, ℕ, ◌+◌, ◌<◌, T}
use Rattle.theory.specs.Limit.{first_terms}
use Rattle.theory.specs.Record.{Bytes}
use Rattle.theory.specs.Plain.{Plain}
use Rattle.theory.specs.Places.{tree_at}
use Rattle.sweeps.specs.Known.{bit_level}
use Rattle.marks.specs.Marks.{mark_of}
use Rattle.ternary.specs.Bits.{bit_kind_in}
use Rattle.store.specs.KeptTerms.{kept_terms}
use Rattle.marks.specs.declared.Asked.{Asked}

-- r says whether the asked term is one; the kind of every marked term is then not refused
pub record BitLevel (list : Plain) (job work : Bytes) (n asked : ℕ) (r : Bool) : Type 0 where
  pub is : r ≡ bit_level (tree_at list asked)
  pub kinds : r ≡ true → (p : ℕ) → p < first_terms + n → T (mark_of job work p) → T (bit_kind_in (tree_at list p))

-- the same of the asked term
abbrev pub IsBitLevel : Asked → Bool → Type 0
IsBitLevel k = BitLevel (kept_terms k.terms) k.terms.job.now k.terms.work.now k.terms.rows k.place
