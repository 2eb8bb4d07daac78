-- Which earlier steps may be premises, as the memories say it: an answer holds the place of its step's record while the job runs, and a row
-- the place of its term's record. What these come to is theory's list of earlier steps, by the law of origins (theory, proofs/Origins).
use Rattle.std.specs.Prelude.{◌≡◌, Bool, true, false, ◌&&◌, cond, List, [], ◌∷◌, map, ℕ, suc, ◌*◌, ◌≤◌, ◌<◌, leb, eqb, length, drop}
use Rattle.std.specs.Prelude.{Option, None as none, Some as some}
use Rattle.std.specs.Prelude.{slice_get as get_elem?}
use Rattle.theory.specs.Limit.{answer_bytes}
use Rattle.theory.specs.Term.{Term, same_term}
use Rattle.theory.specs.Optional.{either, collect}
use Rattle.theory.specs.RuleTable.{ChainRule}
use Rattle.theory.specs.Record.{Bytes, whole, read, claim_of, number_length}
use Rattle.theory.specs.Plain.{Plain}
use Rattle.theory.specs.Chain.{Earlier, premise_at, joins}
use Rattle.theory.specs.Chain as C
use Rattle.theory.specs.Places.{tree_at}
use Rattle.theory.specs.Origins.{Mark, all_standing}
use Rattle.terms.specs.Framing.{record_at}
use Rattle.rows.specs.Layout.{link_size}
use Rattle.rows.specs.Rows.{column, offsets}
use Rattle.store.specs.Store.{Store}
use Rattle.steps.specs.Answering.{step_place, step_code}

-- ---- what the memories hold
-- the literal that the record at a place claims: the first, if it is a step of either kind that has one
unfoldable pub claimed_at : Bytes → ℕ → Option ℕ
claimed_at job place = either none (λ c. get_elem? c.1 0) (claim_of (read (number_length job) (record_at job place)))

-- what step k left: its literal, where its code is 0
unfoldable pub left_at : Bytes → Bytes → ℕ → Option ℕ
left_at job memory k = cond (eqb (step_code (number_length job) memory k) 0) (claimed_at job (step_place (number_length job) memory k)) none

-- where step k's record stands, and what it left
abbrev pub mark_at : Bytes → Bytes → ℕ → Mark
mark_at job memory k = (step_place (number_length job) memory k, left_at job memory k)

-- of all steps so far
unfoldable pub marks_in : Bytes → Bytes → ℕ → List Mark
marks_in job memory answered = column (mark_at job memory) answered

-- the origins of the terms: `true` and `false` are there from the start
unfoldable pub origins : Bytes → Bytes → ℕ → List ℕ
origins job work n = 0 ∷ 0 ∷ map suc (offsets (link_size job) work n)

-- the earlier steps
abbrev pub earlier_in : Bytes → Bytes → Bytes → ℕ → ℕ → Earlier
earlier_in job work memory n answered = all_standing (origins job work n) (marks_in job memory answered)

-- a term is at that place, and its origin is not after `at`
unfoldable pub origin_before : Bytes → Bytes → ℕ → ℕ → ℕ → Bool
origin_before job work n place at = either false (λ o. leb o at) (get_elem? (origins job work n) place)

-- ---- what is granted: the store, room for the answers, and a whole record at the place of each step
pub record Noted (job work memory : Bytes) (n answered : ℕ) : Type 0 where
  pub store : Store job work n
  pub roomy : answer_bytes (number_length job) * answered ≤ length memory
  pub places : (k : ℕ) → k < answered → whole (drop (step_place (number_length job) memory k) job) ≡ true

-- ---- what premises show
-- the sides of the premise with that number
unfoldable pub sides_in : Earlier → Plain → ℕ → Option C.Sides
sides_in earlier list k = either none C.sides (premise_at earlier list k)

-- it is the equality of l and r
abbrev pub is_equality : Term → Term → Option C.Sides → Bool
is_equality l r none = false
is_equality l r (some p) = same_term p.0 l && same_term p.1 r

-- the premises lead from l to r
abbrev pub leads_in : Term → List (Option C.Sides) → Term → Bool
leads_in l [] r = same_term l r
leads_in l (none ∷ ps) r = false
leads_in l (some p ∷ ps) r = same_term l p.0 && leads_in p.1 ps r

-- each premise is the equality of the terms at two places, one of each list; there are as many of each
abbrev pub argued : Plain → List (Option C.Sides) → List ℕ → List ℕ → Bool
argued list [] [] [] = true
argued list [] [] (y ∷ ys) = false
argued list [] (x ∷ xs) ys = false
argued list (p ∷ ps) [] ys = false
argued list (p ∷ ps) (x ∷ xs) [] = false
argued list (p ∷ ps) (x ∷ xs) (y ∷ ys) = is_equality (tree_at list x) (tree_at list y) p && argued list ps xs ys

-- the premises with these numbers join to the claim (= l r)
unfoldable pub joins_in : ChainRule → Earlier → Plain → List ℕ → Term → Term → Bool
joins_in rule earlier list ps l r = either false (λ qs. joins rule qs l r) (collect (map (sides_in earlier list) ps))
