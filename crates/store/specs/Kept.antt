-- The terms that are read where they can also be looked up.
use Rattle.std.specs.Prelude.{List, map, ℕ}
use Rattle.theory.specs.Term as T
use Rattle.theory.specs.Sort.{sort_of, sort_width}
use Rattle.theory.specs.Bits.{get_term_bits}
use Rattle.theory.specs.Record.{number_length}
use Rattle.theory.specs.Plain.{Plain}
use Rattle.theory.specs.Places.{place, tree_at}
use Rattle.terms.specs.declared.Args.{Args}
use Rattle.terms.specs.declared.Operands.{Operands}
use Rattle.terms.specs.declared.Term.{Term}
use Rattle.terms.specs.Decoded.{words_in}
use Rattle.store.specs.Numbers.{number}
use Rattle.store.specs.Store.{listed}
use Rattle.store.specs.Terms.{TermAt}
use Rattle.store.specs.Sorts.{Arguments}
use Rattle.store.specs.KeptTerms.{Holds}
use Rattle.store.specs.declared.gates.Kept.{Kept}
use Rattle.store.specs.declared.shelf.Terms.{Terms}

-- t has the rows of k
abbrev pub Reads : Kept → Terms → Type 0
Reads k t = Holds t k.lookup.job.now k.lookup.work.now k.lookup.rows

-- all of them, `true` and `false` first
abbrev pub kept_terms : Kept → Plain
kept_terms k = listed k.lookup.job.now k.lookup.work.now k.lookup.rows

-- the term at a place
abbrev pub kept_term : Kept → ℕ → T.Term
kept_term k x = tree_at (kept_terms k) x

-- its bits
abbrev pub kept_bits : Kept → ℕ → List T.Term
kept_bits k x = get_term_bits (kept_term k x)

-- its width, 0 for a Bool
abbrev pub kept_width : Kept → ℕ → ℕ
kept_width k x = sort_width (sort_of (kept_term k x))

-- the numbers in an argument list
abbrev pub words_of : Kept → Args → List ℕ
words_of k list = words_in k.lookup.job.now list

-- the terms that it names
abbrev pub kept_arguments : Kept → Args → List T.Term
kept_arguments k list = map (kept_term k) (words_of k list)

-- the number of a term, missing where it is not kept
abbrev pub kept_number : Kept → T.Term → ℕ
kept_number k t = number (place (number_length k.lookup.job.now) (kept_terms k) t)

-- t is the term at a place
abbrev pub IsTermAt : Kept → ℕ → Term → Type 0
IsTermAt k place t = TermAt k.lookup.job.now k.lookup.work.now k.lookup.rows place t

-- the arguments of a kept term
abbrev pub KeptArguments : Kept → Operands → Type 0
KeptArguments k ops = Arguments k.lookup.job.now k.lookup.work.now k.lookup.rows ops
