-- What contracts say of an asked term.
use Rattle.std.specs.Prelude.{ℕ}
use Rattle.marks.specs.Marks.{following}
use Rattle.marks.specs.declared.Asked.{Asked}

-- the place that a marked one's link leads to
abbrev pub next_of : Asked → ℕ → ℕ
next_of a p = following a.terms.job.now a.terms.work.now a.place p
