-- The marked places, one after the other.
use Rattle.std.specs.Prelude.{◌≡◌, ℕ, ◌<◌, ◌≤◌}
use Rattle.std.specs.Prelude.{Option, None as none, Some as some}
use Rattle.marks.specs.Asked.{next_of}
use Rattle.marks.specs.declared.Places.{Places}

-- the walk s gives the place where it stands, which is marked, and goes on to the next marked one
pub record Gives (s : Places) (k : ℕ) (t : Places) : Type 0 where
  pub low : s.next ≤ s.asked.place
  pub item_is : k ≡ s.next
  pub asked_is : t.asked ≡ s.asked
  pub next_is : t.next ≡ next_of s.asked k

-- or there is no marked place above
abbrev pub GivesNext : Places → Option ℕ → Places → Type 0
GivesNext s none t = (s.asked.place < s.next) × (t ≡ s)
GivesNext s (some k) t = Gives s k t
