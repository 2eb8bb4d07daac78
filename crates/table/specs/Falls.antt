-- Where a walk through a bucket may stand. A link has l bytes.
use Rattle.std.specs.Prelude.{ℕ, ◌+◌, ◌*◌, ◌≤◌, ◌<◌, length}
use Rattle.theory.specs.Record.{Bytes}
use Rattle.terms.specs.Bodies.{Length}
use Rattle.rows.specs.Layout.{link_at, row_size}

-- the rows below `held` lie in the work memory, and each links to an earlier one
pub record Falls (l : ℕ) (work : Bytes) (held : ℕ) : Type 0 where
  pub sized : Length l
  pub inside : (k : ℕ) → k < held → k * row_size l + row_size l ≤ length work
  pub earlier : (k : ℕ) → k < held → link_at l work k ≤ k
