-- What holds of the kept terms even where nothing is looked up any more: as `Store`, without the table.
use Rattle.std.specs.Prelude.{◌≡◌, List, [], ℕ, ◌+◌, ◌<◌, length}
use Rattle.theory.specs.Limit.{first_terms}
use Rattle.theory.specs.Kind.{kind}
use Rattle.theory.specs.Term as T
use Rattle.theory.specs.Record.{Bytes, Item, term, step, chain, back, unknown, misfit, read, number_length}
use Rattle.theory.specs.Plain.{Plain}
use Rattle.theory.specs.Places.{entry_at, tree_at}
use Rattle.theory.specs.Listed.{AllGood, WellKept}
use Rattle.rows.specs.Layout.{link_size, measure_at}
use Rattle.rows.specs.Rows.{kept, Rows}
use Rattle.terms.specs.declared.Term.{Term}
use Rattle.terms.specs.Decoded.{arguments_of}
use Rattle.store.specs.Measure.{measure}
use Rattle.store.specs.Store.{listed, records}
use Rattle.store.specs.Terms.{TermAt}

-- each row builds a term of its own, and has that term's measure
pub record Shelf (job work : Bytes) (n : ℕ) : Type 0 where
  pub rows : Rows (link_size job) job work n
  pub well : WellKept (number_length job) (listed job work n)
  pub sorted : AllGood (listed job work n)
  pub count : length (listed job work n) ≡ first_terms + n
  pub records_are : records (listed job work n) ≡ kept job work n
  pub measures_are : (k : ℕ) → k < n → measure_at (link_size job) work k ≡ measure (tree_at (listed job work n) (first_terms + k))

-- the arguments that a record says
abbrev pub item_args : Item → List ℕ
item_args (term o ks) = ks
item_args (step k ks) = []
item_args (chain k ps p) = []
item_args (back k) = []
item_args unknown = []
item_args misfit = []

-- the places of the arguments of the term at a place, by its record, where the numbers of terms have b bytes
unfoldable pub args_at : ℕ → Plain → ℕ → List ℕ
args_at b list k = item_args (read b (entry_at list k).bytes)

-- t is the term at a place, and has the arguments that its record says
pub record TermOn (job work : Bytes) (n place : ℕ) (t : Term) : Type 0 where
  pub term_at : TermAt job work n place t
  pub args_are : arguments_of job t ≡ args_at (number_length job) (listed job work n) place

-- the number of the kind of a term
abbrev pub root_kind : T.Term → ℕ
root_kind (T.node o ts) = kind o
