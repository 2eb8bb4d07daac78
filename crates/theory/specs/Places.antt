-- The terms at the places of a plain list, and the place of a term: what the contracts between the crates cite of them.
use Rattle.std.specs.Prelude.{Bool, false, ◌&&◌, cond, List, [], ◌∷◌, map, ℕ, suc, get_or}
use Rattle.std.specs.Prelude.{Option, None as none, Some as some}
use Rattle.theory.specs.Kind.{Op, True, False}
use Rattle.theory.specs.Term.{Term, node, nil, fold, from_list, same_numbers, same_op}
use Rattle.theory.specs.Optional.{either, collect}
use Rattle.theory.specs.Record.{Item, term, step, chain, back, unknown, misfit, read}
use Rattle.theory.specs.Plain.{Entry, entry, Plain}

-- the entry at a place; past the end that of `true`. Plain's `at_place` says where there is none
abbrev pub entry_at : Plain → ℕ → Entry
entry_at list i = get_or list i (entry (node True nil) [])

-- the term at a place; past the end it is `true`
abbrev pub tree_at : Plain → ℕ → Term
tree_at list i = (entry_at list i).tree

-- the term of kind o with arguments at these places; an argument past the end is `true`
abbrev pub tree_of : Plain → Op → List ℕ → Term
tree_of list o ks = node o (from_list (map (tree_at list) ks))

-- ---- the place of a term
-- a record says the term of kind o with the arguments ks
abbrev pub item_is : Item → Op → List ℕ → Bool
item_is (term p js) o ks = same_op p o && same_numbers js ks
item_is (step n js) o ks = false
item_is (chain n ps k) o ks = false
item_is (back n) o ks = false
item_is unknown o ks = false
item_is misfit o ks = false

-- so does an entry's record, where the numbers of terms have b bytes
abbrev pub agrees : ℕ → Entry → Op → List ℕ → Bool
agrees b e o ks = item_is (read b e.bytes) o ks

-- the place of the first entry that says it, the list's first having place n
unfoldable pub find_from : ℕ → ℕ → Plain → Op → List ℕ → Option ℕ
find_from b n [] o ks = none
find_from b n (e ∷ list) o ks = cond (agrees b e o ks) (some n) (find_from b (suc n) list o ks)

-- its place on a list that starts as `true` and `false`, which have no record
unfoldable pub find : ℕ → Plain → Op → List ℕ → Option ℕ
find b list o ks =
    cond (same_op True o && same_numbers [] ks) (some 0) (cond (same_op False o && same_numbers [] ks) (some 1) (find_from b 0 list o ks))

-- the same, where the arguments may be missing: then it is missing
abbrev pub lookup : ℕ → Plain → Op → List (Option ℕ) → Option ℕ
lookup b list o ps = either none (find b list o) (collect ps)

-- the place of a term, or none
abbrev pub place : ℕ → Plain → Term → Option ℕ
place b list = fold (lookup b list)
