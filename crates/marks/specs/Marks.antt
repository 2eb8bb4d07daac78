-- The marks: where they stand, and which terms are marked.
use Rattle.std.specs.Prelude.{◌≡◌, Bool, true, false, not, cond, ℕ, zero, suc, ◌+◌, ◌-◌, ◌*◌, ◌≤◌, ◌<◌, T, eqb, length}
use Rattle.theory.specs.Limit.{first_terms}
use Rattle.theory.specs.Record.{Bytes}
use Rattle.theory.specs.Places.{tree_at}
use Rattle.rows.specs.Layout.{link_at, row_size, link_size}
use Rattle.store.specs.Store.{listed}
use Rattle.store.specs.Shelf.{Shelf}
use Rattle.sweeps.specs.Variables.{stands}

-- the term at a place is marked; `true` and `false` always are
abbrev pub mark_of : Bytes → Bytes → ℕ → Bool
mark_of job work zero = true
mark_of job work (suc zero) = true
mark_of job work (suc (suc k)) = not (eqb (link_at (link_size job) work k) 0)

-- the row of a place lies in the work memory; `true` and `false` have none
pub record Room (job work : Bytes) (place : ℕ) : Type 0 where
  pub room : first_terms ≤ place → place * row_size (link_size job) ≤ length work + row_size (link_size job)

-- ---- threads
-- q is the next marked place above p, or the one after the asked place
pub record Next (job work : Bytes) (asked p q : ℕ) : Type 0 where
  pub above : p < q
  pub most : q ≤ suc asked
  pub between : (r : ℕ) → p < r → r < q → mark_of job work r ≡ false
  pub marked : q ≤ asked → T (mark_of job work q)

-- where the link of a marked row leads: to the next marked place. `true` and `false` have no link; the asked place is the last, and its
-- link leads to the first row that is marked
unfoldable pub following : Bytes → Bytes → ℕ → ℕ → ℕ
following job work asked p =
    cond (eqb p asked) (suc asked) (cond (eqb p 0) 1
    (cond (eqb p 1) (link_at (link_size job) work (asked - first_terms)) (link_at (link_size job) work (p - first_terms))))

-- from each marked place one comes to the next
abbrev pub Threads : Bytes → Bytes → ℕ → Type 0
Threads job work asked = (p : ℕ) → p ≤ asked → T (mark_of job work p) → Next job work asked p (following job work asked p)

-- ---- the marks of the asked term
-- exactly the terms that stand in it are marked, it is the last, and they are threaded
pub record Marks (job work : Bytes) (n asked : ℕ) (after : Bytes) : Type 0 where
  pub shelf : Shelf job after n
  pub list_is : listed job after n ≡ listed job work n
  pub length_is : length after ≡ length work
  pub marks_are : (p : ℕ) → first_terms ≤ p → p < first_terms + n
      → mark_of job after p ≡ stands (tree_at (listed job work n) p) (tree_at (listed job work n) asked)
  pub last : (p : ℕ) → first_terms ≤ p → asked < p → p < first_terms + n → mark_of job after p ≡ false
  pub threads : Threads job after asked

-- the rows can be read, and exactly the terms that stand in the asked one, which is the last of them, are marked and threaded
pub record Marked (job work : Bytes) (n asked : ℕ) : Type 0 where
  pub shelf : Shelf job work n
  pub low : asked < first_terms + n
  pub marks_are : (p : ℕ) → first_terms ≤ p → p < first_terms + n
      → mark_of job work p ≡ stands (tree_at (listed job work n) p) (tree_at (listed job work n) asked)
  pub last : (p : ℕ) → first_terms ≤ p → asked < p → p < first_terms + n → mark_of job work p ≡ false
  pub threads : Threads job work asked

-- ---- what a call may leave of them
-- the rows say the list that they said, and the memory is as long as it was; their links are free
pub record LinksFree (job work : Bytes) (n : ℕ) (after : Bytes) : Type 0 where
  pub shelf : Shelf job after n
  pub list_is : listed job after n ≡ listed job work n
  pub length_is : length after ≡ length work
