-- The answer to a clause: the code of a verdict, the depth of the right side, and clauses of one literal and of others.
use mathlib.Core.Path.{◌≡◌, refl, sym, ap, ◌∙◌}
use mathlib.Core.Bool.{Bool, true, false, cond}
use mathlib.Core.List.{List, [], ◌∷◌, map}
use Prim.Native.Nat.{ℕ}
use native.Mathlib.Omega.{arith}
use lib.ListN.{length, get_or, length-map}
use Rattle.theory.specs.Term.{Term}
use Rattle.theory.specs.Verdict.{Verdict, code_of, accepted}
use Rattle.theory.specs.RuleTable.{Rule}
use Rattle.theory.specs.Rule.{on_sides, verdict}
use Rattle.theory.specs.Record.{Bytes}
use Rattle.theory.specs.Plain.{Plain}
use Rattle.theory.specs.Job.{right_depth, judged, unjudged, answer_to}
use Rattle.theory.proofs.Places.{tree_at}
use Rattle.theory.proofs.Bytes.{words_length}
use Rattle.terms.specs.declared.Args.{Args}
use Rattle.terms.specs.Decoded.{words_in}
use Rattle.operand_rules.specs.Rules.{verdict_of}
use Rattle.steps.specs.declared.answers.Reply.{Reply}
use Rattle.steps.specs.Answering.{given, equation_depth, Judged}
use Rattle.steps.proofs.Equations.{accepted_depth}

-- it is theory's, where an accepted literal has a right side
pub judged_is : (n : ℕ) {v : Verdict} {t : Term} {r : Reply} → Judged v t r → (accepted v ≡ true → equation_depth t ≡ right_depth t) → given n r ≡ judged n v t
judged_is n {v} {t} {r} j f = given_by (ap code_of j.verdict_is) (j.depth_is ∙ go (accepted v) f)
  where
    go : (b : Bool) → (b ≡ true → equation_depth t ≡ right_depth t) → cond b (equation_depth t) 0 ≡ cond b (right_depth t) 0
    go true g = g refl
    go false g = refl

    given_by : {c d : ℕ} → code_of (verdict_of r.verdict) ≡ c → r.depth ≡ d → given n r ≡ record { rule = n; code = c; depth = d }
    given_by p q = rw (p, q)

-- a rule's verdict
rule_depth : (rule : Rule) (t : Term) → accepted (verdict rule t) ≡ true → equation_depth t ≡ right_depth t
unfolding verdict
rule_depth rule t a = accepted_depth t (on_sides rule) a

-- ---- clauses
-- a clause that is not of one literal
not_one : (n : ℕ) (rule : Rule) (ts : List Term) → (length ts ≡ 1 → ⊥) → unjudged n ≡ answer_to n rule ts
not_one n rule [] h = refl
not_one n rule (t ∷ []) h = absurd (h refl)
not_one n rule (t ∷ u ∷ us) h = refl

-- by the count of its literals in the job
pub others_unjudged : (n : ℕ) (rule : Rule) (list : Plain) (job : Bytes) (a : Args) → (a.count ≡ 1 → ⊥)
    → unjudged n ≡ answer_to n rule (map (tree_at list) (words_in job a))
others_unjudged n rule list job a h =
    not_one n rule (map (tree_at list) (words_in job a)) (λ e. h (sym (words_length a.bytes a.count _) ∙ sym (length-map (words_in job a) (tree_at list)) ∙ e))

-- the answer to a clause of one
one_literal : (n : ℕ) {v : Verdict} (rule : Rule) (list : Plain) (ks : List ℕ) → length ks ≡ 1 → {x : ℕ} → x ≡ get_or ks 0 0 → v ≡ verdict rule (tree_at list x)
    → {r : Reply} → Judged v (tree_at list x) r → given n r ≡ answer_to n rule (map (tree_at list) ks)
one_literal n rule list [] l e f j = absurd (omega arith)
one_literal n rule list (k ∷ j ∷ js) l e f g = absurd (omega arith)
one_literal n {v} rule list (k ∷ []) l {x} e f {r} g =
    judged_is n g (λ a. rule_depth rule (tree_at list x) (ap accepted (sym f) ∙ a))
    ∙ ap (λ (w : Verdict). judged n w (tree_at list x)) f ∙ ap (λ (i : ℕ). judged n (verdict rule (tree_at list i)) (tree_at list i)) e

-- by its literals in the job
pub one_judged : (n : ℕ) {v : Verdict} (rule : Rule) (list : Plain) (job : Bytes) (a : Args) → a.count ≡ 1 → {x : ℕ} → x ≡ get_or (words_in job a) 0 0 → v ≡ verdict rule (tree_at list x)
    → {r : Reply} → Judged v (tree_at list x) r → given n r ≡ answer_to n rule (map (tree_at list) (words_in job a))
one_judged n rule list job a c e f j = one_literal n rule list (words_in job a) (words_length a.bytes a.count _ ∙ c) e f j
