-- The arguments of a term, over the struct that has them.
use Rattle.std.specs.Prelude.{List, ℕ, get_or}
use Rattle.theory.specs.Term.{Term}
use Rattle.theory.specs.Sort.{Sort}
use Rattle.theory.specs.Plain.{Plain}
use Rattle.terms.specs.Decoded.{numbers_of}
use Rattle.store.specs.Kept.{kept_terms, kept_term}
use Rattle.store.specs.Sorts.{sorts_at, deepest_at}
use Rattle.intern.specs.declared.arguments.Arguments.{Arguments}

-- their places
abbrev pub places : Arguments → List ℕ
places a = numbers_of a.kept.lookup.job.now a.list

-- the kept terms, which these are places of
abbrev pub given_terms : Arguments → Plain
given_terms a = kept_terms a.kept

-- argument i
abbrev pub argument_term : Arguments → ℕ → Term
argument_term a i = kept_term a.kept (get_or (places a) i 0)

-- the sorts of all of them
abbrev pub argument_sorts : Arguments → List Sort
argument_sorts a = sorts_at (given_terms a) (places a)

-- the depth of the deepest
abbrev pub deepest_argument : Arguments → ℕ
deepest_argument a = deepest_at (given_terms a) (places a)
