-- How a program can tell that a literal has not been dropped since its step: the record of the term that now has the literal's place begins
-- before the step's record. A term that is added again has a later record.
use Rattle.std.specs.Prelude.{cond, List, [], ◌∷◌, ◌++◌, map, ℕ, suc, leb, take}
use Rattle.std.specs.Prelude.{Option, None as none, Some as some}
use Rattle.std.specs.Prelude.{slice_get as get_elem?}
use Rattle.theory.specs.Optional.{either}
use Rattle.theory.specs.Record.{Bytes, Item, term, step, chain, back, unknown, misfit}
use Rattle.theory.specs.Plain.{Plain, has}
use Rattle.theory.specs.Chain.{Earlier}

-- ---- one literal
-- The origin of a term is 0 for `true` and `false`, and for any other one more than the place in the job where its record begins.
-- p, where the term with this origin was there before s
abbrev pub before : Option ℕ → ℕ → ℕ → Option ℕ
before origin s p = either none (λ o. cond (leb o s) (some p) none) origin

-- what a step that begins at s left, a literal or none, by the origins of the terms that are there now
abbrev pub standing : List ℕ → ℕ → Option ℕ → Option ℕ
standing origins s none = none
standing origins s (some p) = before (get_elem? origins p) s p

-- ---- all steps so far
-- where a step begins, and what it left when it was answered
abbrev pub Mark : Type 0
Mark = ℕ × Option ℕ

-- what each of them left that is there still
abbrev pub all_standing : List ℕ → List Mark → Earlier
all_standing os marks = map (λ (m : Mark). standing os m.0 m.1) marks

-- the origins after a record that begins at `at`
abbrev pub origins_item : List ℕ → Plain → ℕ → Bytes → Item → List ℕ
origins_item os list at r (term o ks) = cond (has list r) os (os ++ (suc at ∷ []))
origins_item os list at r (step n ks) = os
origins_item os list at r (chain n ps k) = os
origins_item os list at r (back n) = take n os
origins_item os list at r unknown = os
origins_item os list at r misfit = os
