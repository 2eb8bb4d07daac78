-- `term_record`: the arguments are tested here, sort and room by `intern`.
use mathlib.Core.Path.{sym, ap, ◌∙◌}
use Rattle.std.specs.Prelude.{Ok}
use Rattle.intern.specs.declared.Interned.{Interned}
use native.Mathlib.Omega.{arith}
use Rattle.intern.specs.Interning.{limits_of}
use Rattle.records.proofs.Turns.{same_err, few_terms, not_below, term_turned}
use Rattle.records.proofs.keeping.term_record.Goals as goal

pub overflow_cast-here : goal.overflow_cast-here
overflow_cast-here c = omega (arith, few_terms c.requires.store)

pub returns-then-not-below : goal.returns-then-not-below
returns-then-not-below c = λ place answers. not_below (limits_of c.args.limits) place c.requires answers c.args.here.now.answered (sym c.below.ensures ∙ c.if-not-below.true)

pub returns-in_err-kept : goal.returns-in_err-kept
returns-in_err-kept c = λ place answers. rw (same_err c.from_residual.result c.from_residual.ensures.1)
    (term_turned (limits_of c.args.limits) place c.requires answers c.args.here.now.answered (sym c.below.ensures ∙ c.if-not-below.false) c.intern.ensures c.in_err-kept.was)

pub returns-in-Found : goal.returns-in-Found
returns-in-Found c = λ place answers. rw c.unanswered.ensures
    (term_turned (limits_of c.args.limits) place c.requires answers c.args.here.now.answered (sym c.below.ensures ∙ c.if-not-below.false) c.intern.ensures
    (c.in_ok-kept.was ∙ ap (λ (k : Interned). Ok k) c.in-Found.is))

pub returns-in-New : goal.returns-in-New
returns-in-New c = λ place answers. rw c.unanswered-in-New.ensures
    (term_turned (limits_of c.args.limits) place c.requires answers c.args.here.now.answered (sym c.below.ensures ∙ c.if-not-below.false) c.intern.ensures
    (c.in_ok-kept.was ∙ ap (λ (k : Interned). Ok k) c.in-New.is))
