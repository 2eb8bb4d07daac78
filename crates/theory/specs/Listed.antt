-- What holds of the plain list of every job, and of a list that a program keeps: what the contracts between the crates cite of it.
use Rattle.std.specs.Prelude.{◌≡◌, List, [], ◌∷◌, ℕ, ◌+◌, ◌<◌, ◌≤◌, T, length}
use Rattle.std.specs.Prelude.{Some as some}
use Rattle.std.specs.Prelude.{slice_get as get_elem?}
use Rattle.theory.specs.Limit.{first_terms}
use Rattle.theory.specs.Kind.{Op, True, False}
use Rattle.theory.specs.Term.{node, nil}
use Rattle.theory.specs.Sort.{good, sort_of}
use Rattle.theory.specs.Record.{Bytes, AllBytes, word, term, read}
use Rattle.theory.specs.Plain.{Entry, entry, Plain}
use Rattle.theory.specs.Codes.{all_below}
use Rattle.theory.specs.Places.{tree_of}

-- every term of the list has a sort
abbrev pub AllGood : Plain → Type 0
AllGood [] = Unit {0}
AllGood (e ∷ list) = T (good (sort_of e.tree)) × AllGood list

-- a whole record: bytes, as many as its length says, and a kind among them
pub record Sound (r : Bytes) : Type 0 where
  pub bytes : AllBytes r
  pub size : length r ≡ 2 + word r
  pub long : 4 ≤ length r

-- entry i, after the first two, where the numbers of terms have b bytes: its record says its term, the arguments stand before it,
-- and no record before it is the same
pub record Entered (b : ℕ) (list : Plain) (i : ℕ) (e : Entry) : Type 0 where
  pub sound : Sound e.bytes
  pub op : Op
  pub args : List ℕ
  pub says : read b e.bytes ≡ term op args
  pub below : T (all_below i args)
  pub made : e.tree ≡ tree_of list op args
  pub new : (j : ℕ) (d : Entry) → j < i → get_elem? list j ≡ some d → d.bytes ≡ e.bytes → ⊥

-- the list starts as `true` and `false`, and every other entry is one that a record entered
pub record WellKept (b : ℕ) (list : Plain) : Type 0 where
  pub is_true : get_elem? list 0 ≡ some (entry (node True nil) [])
  pub is_false : get_elem? list 1 ≡ some (entry (node False nil) [])
  pub kept : (i : ℕ) (e : Entry) → first_terms ≤ i → get_elem? list i ≡ some e → Entered b list i e
