-- What the check of a rule may take for granted, from the sorts of terms that fit; and the bit that a number says.
use Rattle.std.specs.Prelude.{Bool, true, false, cond, List, map, ℕ, ◌+◌, ◌<◌, ◌≤◌, T, eqb}
use Rattle.std.specs.Prelude.{Option, None as none, Some as some}
use Rattle.theory.specs.Limit.{first_terms, max_width}
use Rattle.theory.specs.Sort.{Sort, all_bv, sum_widths, sort_of}
use Rattle.terms.specs.declared.Args.{Args}
use Rattle.terms.specs.declared.Operands.TheVariants.{List as Listed}
use Rattle.store.specs.Numbers.{true_number, false_number}
use Rattle.store.specs.declared.gates.Kept.{Kept}
use Rattle.store.specs.Kept.{KeptArguments, kept_term, words_of}

-- the sorts of the terms at these places
abbrev pub sorts_in : Kept → List ℕ → List Sort
sorts_in kept ks = map sort_of (map (kept_term kept) ks)

-- a list of bit-vectors, their widths at most 64 together, and the claim
pub record Concat (kept : Kept) (list : Args) (claim : ℕ) : Type 0 where
  pub arguments : KeptArguments kept (Listed list)
  pub bit_vectors : T (all_bv (sorts_in kept (words_of kept list)))
  pub fits : sum_widths (sorts_in kept (words_of kept list)) ≤ max_width
  pub claimed : claim < first_terms + kept.lookup.rows

-- the bit that a term's number says literally
abbrev pub literal_number : ℕ → Option Bool
literal_number k = cond (eqb k true_number) (some true) (cond (eqb k false_number) (some false) none)
