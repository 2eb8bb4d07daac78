-- What the code says of conjunctions and slices.
use Rattle.std.specs.Prelude.{◌≡◌, ◌&&◌, not, cond, ℕ, ◌+◌, ◌<◌, eqb}
use Rattle.std.specs.Prelude.{Option, None as none, Some as some, Result, Ok as ok, Err as err}
use Rattle.theory.specs.Limit.{first_terms}
use Rattle.theory.specs.Kind.{BvAnd, kind}
use Rattle.theory.specs.Term.{Term}
use Rattle.theory.specs.Optional.{either}
use Rattle.theory.specs.Verdict.{Verdict as Said, wrong_form, terms_differ, index_not_next}
use Rattle.theory.specs.Rule.{args_of, two_of}
use Rattle.store.specs.declared.gates.Kept.{Kept}
use Rattle.store.specs.Kept.{kept_term}
use Rattle.operand_rules.specs.Rules.{verdict_of}
use Rattle.operand_rules.specs.declared.Verdict.{Verdict}
use Rattle.slice_rules.specs.declared.parts.Extraction.{Extraction}

-- the arguments of a term of kind k, where there are just two
abbrev pub two_args : ℕ → Term → Option (Term × Term)
two_args k t = either none two_of (args_of k t)

-- the terms at two places
abbrev pub pair_of : Kept → Option (ℕ × ℕ) → Option (Term × Term)
pair_of kept (some (x, y)) = some (kept_term kept x, kept_term kept y)
pair_of kept none = none

-- they are kept
abbrev pub PairKept : Kept → Option (ℕ × ℕ) → Type 0
PairKept kept (some (x, y)) = (x < first_terms + kept.lookup.rows) × (y < first_terms + kept.lookup.rows)
PairKept kept none = Unit {0}

-- r are the arguments of the conjunction at a place, where there are just two
pub record Conjunction (k : Kept) (place : ℕ) (r : Option (ℕ × ℕ)) : Type 0 where
  pub arguments : pair_of k r ≡ two_args (kind BvAnd) (kept_term k place)
  pub kept : PairKept k r

-- the verdict after a slice: what the next ones make of its lower index, or its own
abbrev pub after : Result ℕ Verdict → (ℕ → Said) → Said
after (ok j) next = next j
after (err v) next = verdict_of v

-- the tests on a slice, by numbers: bits of x and of y, where a and c are sliced and `done` is the lowest index so far
abbrev pub number_tests : (a c done : ℕ) → Extraction → ℕ → Extraction → ℕ → (ℕ → Said) → Said
number_tests a c done p x q y next =
    cond (not (eqb p.upper q.upper && eqb p.lower q.lower)) wrong_form
    (cond (not (eqb (p.upper + 1) done)) index_not_next (cond (not (eqb a x && eqb c y)) terms_differ (next p.lower)))

-- r is what f makes of a slice, whatever the next ones make of its lower index
abbrev pub Answers : Result ℕ Verdict → ((ℕ → Said) → Said) → Type 0
Answers r f = (next : ℕ → Said) → after r next ≡ f next
