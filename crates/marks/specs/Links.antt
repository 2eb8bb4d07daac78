-- The links of a job's rows, in which marks stand: what stays where they are written, and which terms are marked.
use Rattle.std.specs.Prelude.{◌≡◌, Bool, false, ◌||◌, List, ℕ, suc, ◌+◌, ◌-◌, ◌^◌, ◌≤◌, ◌<◌, T, eqb, length}
use Rattle.theory.specs.Limit.{first_terms}
use Rattle.theory.specs.Record.{number_length}
use Rattle.theory.specs.Plain.{Plain}
use Rattle.theory.specs.Codes.{all_below}
use Rattle.theory.specs.Claim.{element}
use Rattle.theory.specs.Places.{tree_at}
use Rattle.rows.specs.Layout.{link_at, link_size}
use Rattle.store.specs.Store.{listed}
use Rattle.store.specs.Shelf.{args_at}
use Rattle.sweeps.specs.Variables.{stands}
use Rattle.marks.specs.Marks.{mark_of, Threads}
use Rattle.marks.specs.declared.links.Links.{Links}

-- the number in the link of row k
abbrev pub link_of : Links → ℕ → ℕ
link_of l k = link_at (link_size l.job.now) l.work.now k

-- the term at a place is marked
abbrev pub is_marked : Links → ℕ → Bool
is_marked l p = mark_of l.job.now l.work.now p

-- the list that the rows say
abbrev pub list_of : Links → Plain
list_of l = listed l.job.now l.work.now l.rows

-- the places of the arguments of the term at a place
abbrev pub args_of : Links → ℕ → List ℕ
args_of l place = args_at (number_length l.job.now) (list_of l) place

-- these are places of rows, or of `true` and `false`
abbrev pub InRows : Links → List ℕ → Type 0
InRows l ks = T (all_below (first_terms + l.rows) ks)

-- the memory is the same, and the rows say the list that they said
pub record Kept (old new : Links) : Type 0 where
  pub job_is : new.job.now ≡ old.job.now
  pub rows_are : new.rows ≡ old.rows
  pub memory_is : new.work.ghost_name ≡ old.work.ghost_name
  pub length_is : length new.work.now ≡ length old.work.now
  pub list_is : list_of new ≡ list_of old

-- the link of row k holds v, where it fits, and the others what they held
pub record Put (old : Links) (k v : ℕ) (new : Links) : Type 0 where
  pub kept : Kept old new
  pub here : v < 256 ^ link_size old.job.now → link_of new k ≡ v
  pub others : (i : ℕ) → (i ≡ k → ⊥) → link_of new i ≡ link_of old i

-- the link of a place holds v, and the others what they held
pub record Linked (old : Links) (place v : ℕ) (new : Links) : Type 0 where
  pub kept : Kept old new
  pub here : first_terms ≤ place → link_of new (place - first_terms) ≡ v
  pub others : (i : ℕ) → (suc (suc i) ≡ place → ⊥) → link_of new i ≡ link_of old i

-- no row is marked
pub record Cleared (old new : Links) : Type 0 where
  pub kept : Kept old new
  pub clear : (p : ℕ) → first_terms ≤ p → p < first_terms + old.rows → is_marked new p ≡ false

-- the term at a place is marked, and the others are as before
pub record Set (old : Links) (place : ℕ) (new : Links) : Type 0 where
  pub kept : Kept old new
  pub marks_are : (p : ℕ) → is_marked new p ≡ eqb p place || is_marked old p

-- the terms at these places are marked, and the others are as before
pub record SetAll (old : Links) (ks : List ℕ) (new : Links) : Type 0 where
  pub kept : Kept old new
  pub marks_are : (p : ℕ) → is_marked new p ≡ element p ks || is_marked old p

-- the arguments of the term at a place are
abbrev pub SetTerm : Links → ℕ → Links → Type 0
SetTerm old place new = SetAll old (args_of old place) new

-- exactly the terms that stand in the asked one are marked, and it is the last
pub record Reaches (old : Links) (asked : ℕ) (new : Links) : Type 0 where
  pub kept : Kept old new
  pub marks_are : (p : ℕ) → first_terms ≤ p → p < first_terms + old.rows
      → is_marked new p ≡ stands (tree_at (list_of old) p) (tree_at (list_of old) asked)
  pub last : (p : ℕ) → first_terms ≤ p → asked < p → p < first_terms + old.rows → is_marked new p ≡ false

-- the marks are threaded, and are as before
pub record Threaded (old : Links) (asked : ℕ) (new : Links) : Type 0 where
  pub kept : Kept old new
  pub marks_are : (p : ℕ) → is_marked new p ≡ is_marked old p
  pub threads : Threads new.job.now new.work.now asked
