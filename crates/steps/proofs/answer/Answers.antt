-- `answer`: a clause of one literal has the rule's verdict on it, any other has code 10.
use mathlib.Core.Path.{ap, subst, ◌∙◌}
use Rattle.theory.specs.Term.{Term}
use Rattle.theory.specs.Rule.{verdict}
use Rattle.store.specs.Kept.{kept_terms}
use Rattle.operand_rules.specs.Rules.{verdict_of}
use Rattle.operand_rules.proofs.Literals.{literal_at}
use Rattle.rules.specs.Rules.{rule_of}
use Rattle.steps.specs.Answering.{Judged}
use Rattle.steps.proofs.Judging.{others_unjudged, one_judged}
use Rattle.steps.proofs.answer.Goals as goal

pub returns-then-literals-ne1 : goal.returns-then-literals-ne1
returns-then-literals-ne1 c = let a = c.args in
    λ n. others_unjudged n (rule_of a.rule) (kept_terms a.kept.now) a.kept.now.lookup.job.now a.literals c.if-literals-ne1.true

pub returns : goal.returns
returns c = let e = literal_at c.new-literal.ensures in
    λ n. one_judged n (rule_of c.args.rule) (kept_terms c.args.kept.now) c.args.kept.now.lookup.job.now c.args.literals c.if-literals-ne1.false c.argument-place.ensures
    (c.verdict.ensures ∙ ap (verdict (rule_of c.args.rule)) e) (subst (λ (t : Term). Judged (verdict_of c.verdict.result) t c.judge.result) e c.judge.ensures)
