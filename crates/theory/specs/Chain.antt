-- Document 02, P12: steps joined into a chain. What its rules ask of premises and claim, and which earlier steps may be premises.
use Rattle.std.specs.Prelude.{Bool, true, false, ◌&&◌, cond, List, [], ◌∷◌, ◌++◌, map, ℕ, zero, suc, leb, ltb, eqb, length}
use Rattle.std.specs.Prelude.{Option, None as none, Some as some}
use Rattle.std.specs.Prelude.{slice_get as get_elem?}
use Rattle.theory.specs.Kind.{Equals, kind}
use Rattle.theory.specs.Term.{Term, node, to_list, same_op, same_term}
use Rattle.theory.specs.Optional.{either, collect}
use Rattle.theory.specs.Verdict.{Verdict, held, wrong_form, premise_broken}
use Rattle.theory.specs.RuleTable.{ChainRule, by_symm, by_trans, by_cong}
use Rattle.theory.specs.Rule.{args_of, two_of, form, binary}
use Rattle.theory.specs.Record.{Item, term, step, chain, back, unknown, misfit}
use Rattle.theory.specs.Plain.{Plain, at_place}
use Rattle.theory.specs.Answer.{Answer}

-- ---- the rules, over equalities taken apart into their two sides; no premise is turned round
-- the two sides of an equality
abbrev pub Sides : Type 0
Sides = Term × Term

-- of a term that is one
abbrev pub sides : Term → Option Sides
sides t = either none two_of (args_of (kind Equals) t)

-- symm: one premise, (= b a) for the claim (= a b)
abbrev pub turned : List Sides → Term → Term → Bool
turned [] l r = false
turned (p ∷ []) l r = same_term p.1 l && same_term p.0 r
turned (p ∷ q ∷ ps) l r = false

-- the premises lead from l to r: the first begins at l, each other one where the one before it ends, and the last ends at r
abbrev pub leads : Term → List Sides → Term → Bool
leads l [] r = same_term l r
leads l (p ∷ ps) r = same_term l p.0 && leads p.1 ps r

-- premise i is (= a b) for argument a of one side and b of the other, at place i; there are as many of each
abbrev pub argument_wise : List Sides → List Term → List Term → Bool
argument_wise [] [] [] = true
argument_wise [] [] (u ∷ us) = false
argument_wise [] (t ∷ ts) us = false
argument_wise (p ∷ ps) [] us = false
argument_wise (p ∷ ps) (t ∷ ts) [] = false
argument_wise (p ∷ ps) (t ∷ ts) (u ∷ us) = same_term p.0 t && (same_term p.1 u && argument_wise ps ts us)

-- cong: both sides are of one kind with the same numbers in it, and their arguments are equal by the premises
abbrev pub congruent : List Sides → Term → Term → Bool
congruent ps (node o ts) (node p us) = same_op o p && argument_wise ps (to_list ts) (to_list us)

-- the premises join to the claim (= l r)
unfoldable pub joins : ChainRule → List Sides → Term → Term → Bool
joins by_symm ps l r = turned ps l r
joins by_trans ps l r = leb 2 (length ps) && leads l ps r
joins by_cong ps l r = congruent ps l r

-- the verdict on a claim, from the literals of the premises
unfoldable pub chain_verdict : ChainRule → List Term → Term → Verdict
chain_verdict rule premises claim =
    binary (kind Equals) claim (λ l r. form (collect (map sides premises)) (λ ps. cond (joins rule ps l r) held wrong_form))

-- ---- earlier steps
-- for each step of either kind so far, in their order: the place of its literal, as long as the step is held and the literal not dropped
abbrev pub Earlier : Type 0
Earlier = List (Option ℕ)

-- what a step with this answer leaves: where it is held, its literal, the only one
abbrev pub leaves : List ℕ → Answer → Option ℕ
leaves ks a = cond (eqb a.code 0) (get_elem? ks 0) none

-- a back drops the terms at its count and above; a term that is added again is not the one that was dropped
abbrev pub unless_dropped : ℕ → Option ℕ → Option ℕ
unless_dropped n none = none
unless_dropped n (some p) = cond (ltb p n) (some p) none

-- after one more record, with its answer if it has one
abbrev pub recall_item : Earlier → Item → List Answer → Earlier
recall_item earlier (term o ks) answers = earlier
recall_item earlier (step n ks) answers = earlier ++ map (leaves ks) answers
recall_item earlier (chain n ps k) answers = earlier ++ map (leaves (k ∷ [])) answers
recall_item earlier (back n) answers = map (unless_dropped n) earlier
recall_item earlier unknown answers = earlier
recall_item earlier misfit answers = earlier

-- ---- premises
-- the place of the literal of the premise with that number, counted from 1;
-- missing where no earlier step has it, or that step may not be one
abbrev pub premise_place : Earlier → ℕ → Option ℕ
premise_place earlier zero = none
premise_place earlier (suc k) = either none (λ p. p) (get_elem? earlier k)

-- that literal
abbrev pub premise_at : Earlier → Plain → ℕ → Option Term
premise_at earlier list n = either none (at_place list) (premise_place earlier n)

-- all of them, where none is missing
abbrev pub premises_at : Earlier → Plain → List ℕ → Option (List Term)
premises_at earlier list ps = collect (map (premise_at earlier list) ps)

-- the premises first, then the joining
abbrev pub joined : ChainRule → Option (List Term) → Term → Verdict
joined rule none claim = premise_broken
joined rule (some premises) claim = chain_verdict rule premises claim
