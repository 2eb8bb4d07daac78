-- The terms that are read from kept records.
use Rattle.std.specs.Prelude.{◌≡◌, ℕ, ◌+◌, ◌*◌, ◌≤◌, length}
use Rattle.theory.specs.Limit.{number_bytes}
use Rattle.theory.specs.Term as T
use Rattle.theory.specs.Sort.{sort_of, sort_width}
use Rattle.theory.specs.Record.{Bytes}
use Rattle.theory.specs.Places.{tree_at}
use Rattle.theory.specs.Plain.{Plain}
use Rattle.rows.specs.Layout.{Bounded, link_size, measure_at, number_at, offset_at, place_end}
use Rattle.terms.specs.declared.Term.{Term}
use Rattle.store.specs.Shelf.{TermOn}
pub use Rattle.store.specs.Shelf.{root_kind}
use Rattle.store.specs.Store.{listed}
use Rattle.store.specs.declared.shelf.Row.{Row}
use Rattle.store.specs.declared.shelf.Terms.{Terms}

-- k holds n rows of a job
pub record Holds (k : Terms) (job work : Bytes) (n : ℕ) : Type 0 where
  pub job_is : k.job.now ≡ job
  pub work_is : k.work.now ≡ work
  pub rows_are : k.rows ≡ n

-- all of them, `true` and `false` first
abbrev pub kept_terms : Terms → Plain
kept_terms k = listed k.job.now k.work.now k.rows

-- the term at a place
abbrev pub kept_term : Terms → ℕ → T.Term
kept_term k x = tree_at (kept_terms k) x

-- its width, 0 for a Bool
abbrev pub kept_width : Terms → ℕ → ℕ
kept_width k x = sort_width (sort_of (kept_term k x))

-- t is the term at a place, and has the arguments that its record says
abbrev pub IsTermOn : Terms → ℕ → Term → Type 0
IsTermOn k place t = TermOn k.job.now k.work.now k.rows place t

-- r is what stands at row i: its record lies in the job, and has a length and a kind
pub record Stands (k : Terms) (i : ℕ) (r : Row) : Type 0 where
  pub at_is : r.at ≡ offset_at (link_size k.job.now) k.work.now i
  pub inside : r.at + 2 * number_bytes ≤ length k.job.now
  pub kind_is : r.kind ≡ number_at k.job.now (r.at + number_bytes) number_bytes
  pub measure_is : Bounded r.measure (measure_at (link_size k.job.now) k.work.now i) place_end
