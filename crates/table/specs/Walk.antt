-- The rows of a bucket, one after the other. A link has l bytes.
use Rattle.std.specs.Prelude.{◌≡◌, ℕ, ◌-◌, ◌<◌}
use Rattle.std.specs.Prelude.{Option, None as none, Some as some}
use Rattle.rows.specs.Layout.{link_at}
use Rattle.table.specs.declared.walk.Bucket.{Bucket}

-- the walk s gives the row that it stands before, and goes on to the one that this row links to
pub record Gives (s : Bucket) (k : ℕ) (t : Bucket) : Type 0 where
  pub more : 0 < s.held
  pub item_is : k ≡ s.held - 1
  pub work_is : t.work ≡ s.work
  pub length_is : t.link_bytes ≡ s.link_bytes
  pub next_is : t.held ≡ link_at s.link_bytes s.work.now k

-- or there is no row left
abbrev pub GivesNext : Bucket → Option ℕ → Bucket → Type 0
GivesNext s none t = (s.held ≡ 0) × (t ≡ s)
GivesNext s (some k) t = Gives s k t
