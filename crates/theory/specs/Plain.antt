-- Document 01, "Demand 3 over a whole job": the plain list, fed the job's records and nothing else.
use Rattle.std.specs.Prelude.{Bool, false, ◌||◌, cond, ℕ, take}
use mathlib.Core.List.{List, [], ◌∷◌, ◌++◌, map, foldl}
use Rattle.std.specs.Prelude.{Option, None as none, Some as some}
use Rattle.std.specs.Prelude.{slice_get as get_elem?}
use Rattle.theory.specs.Kind.{Op, True, False}
use Rattle.theory.specs.Term.{Term, node, nil, from_list, same_numbers}
use Rattle.theory.specs.Optional.{either, collect}
use Rattle.theory.specs.Record.{Bytes, records_of, Item, term, step, chain, back, unknown, misfit, read, number_length}

-- a place of the list: a term, and the bytes of its record
pub record Entry : Type 0 where
  pub tree : Term
  pub bytes : Bytes

-- an entry by its parts
abbrev pub entry : Term → Bytes → Entry
entry t r = record { tree = t; bytes = r }

-- the plain list
abbrev pub Plain : Type 0
Plain = List Entry

-- it starts as `true` and `false`, which have no record
abbrev pub start : Plain
start = entry (node True nil) [] ∷ entry (node False nil) [] ∷ []

-- the term at a place
abbrev pub at_place : Plain → ℕ → Option Term
at_place list i = either none (λ e. some e.tree) (get_elem? list i)

-- the terms at several places
abbrev pub at_places : Plain → List ℕ → Option (List Term)
at_places list ks = collect (map (at_place list) ks)

-- the term of kind o whose arguments are at these places
abbrev pub term_of : Plain → Op → List ℕ → Option Term
term_of list o ks = either none (λ ts. some (node o (from_list ts))) (at_places list ks)

-- a record on the list equals it in all bytes
abbrev pub has : Plain → Bytes → Bool
has [] r = false
has (e ∷ list) r = same_numbers e.bytes r || has list r

-- a term is put at the end, unless its record is there
abbrev pub put : Plain → Bytes → Option Term → Plain
put list r none = list
put list r (some t) = cond (has list r) list (list ++ (entry t r ∷ []))

-- a back keeps the first terms, as many as its count; any other record changes nothing
abbrev pub feed_item : Plain → Bytes → Item → Plain
feed_item list r (term o ks) = put list r (term_of list o ks)
feed_item list r (step n ks) = list
feed_item list r (chain n ps k) = list
feed_item list r (back n) = take n list
feed_item list r unknown = list
feed_item list r misfit = list

-- the list after one more record, where the numbers of terms have b bytes
unfoldable pub feed : ℕ → Plain → Bytes → Plain
feed b list r = feed_item list r (read b r)

-- 1 for a repeat, which is a term record that stands on the list already; else 0
abbrev pub repeat_item : Plain → Bytes → Item → ℕ
repeat_item list r (term o ks) = cond (has list r) 1 0
repeat_item list r (step n ks) = 0
repeat_item list r (chain n ps k) = 0
repeat_item list r (back n) = 0
repeat_item list r unknown = 0
repeat_item list r misfit = 0

-- the repeats that one more record adds, `list` being the plain list before it
unfoldable pub repeat_of : ℕ → Plain → Bytes → ℕ
repeat_of b list r = repeat_item list r (read b r)

-- the list after the first m records of the job; it is the document's as long as no record before has stopped the job
abbrev pub plain_after : ℕ → Bytes → Plain
plain_after m job = foldl (feed (number_length job)) start (take m (records_of job))
