-- What contracts say of the bits that are read.
use Rattle.std.specs.Prelude.{Bool, ℕ}
use Rattle.store.specs.KeptTerms.{kept_terms}
use Rattle.sweeps.specs.Known.{Known}
use Rattle.marks.specs.Marks.{mark_of}
use Rattle.ternary.specs.Bits.{BitOn, KnownOn}
use Rattle.ternary.specs.declared.bits.KnownBits.{KnownBits}

-- the term at a place is marked
abbrev pub is_marked : KnownBits → ℕ → Bool
is_marked k p = mark_of k.terms.job.now k.terms.work.now p

-- r is bit i of the term at place x
abbrev pub IsBitOf : KnownBits → ℕ → ℕ → Known → Type 0
IsBitOf k = BitOn (kept_terms k.terms) k.terms.job.now k.terms.work.now k.inputs.now k.values.now

-- r is the bit of the Bool at a place
abbrev pub IsKnownAt : KnownBits → ℕ → Known → Type 0
IsKnownAt k = KnownOn (kept_terms k.terms) k.terms.job.now k.terms.work.now k.inputs.now k.values.now
