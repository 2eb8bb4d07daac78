-- `next`: a frame that is not whole is code 3, and a whole one has the record's size.
use mathlib.Core.Path.{refl, sym, ap, ◌∙◌}
use Prim.Native.Nat.{ℕ, ◌+◌}
use native.Mathlib.Omega.{arith}
use lib.ListN.{drop}
use Rattle.std.specs.Prelude.{Ok, Err}
use Rattle.terms.specs.declared.stop.Stop.{Stop}
use Rattle.terms.proofs.Reading.{broken_learnt, whole_learnt, stands}
use Rattle.intern.specs.Interning.{limits_of}
use Rattle.intern.proofs.Taking.{ok_told, err_told}
use Rattle.records.proofs.Turns.{same_err}
use Rattle.runs.specs.Walking.{state, stood, broken, taken, stopped}
use Rattle.runs.proofs.Walks.{turn_repeats, turned_as}
use Rattle.runs.proofs.walk.next.Goals as goal

pub returns-in_err-size-clause-next : goal.returns-in_err-size-clause-next
returns-in_err-size-clause-next c =
    let q = err_told c.frame.result _ c.ok_or.ensures.value c.in_err-size.was in
    broken (broken_learnt (drop c.args.s.now.at c.args.job.now) (sym q.0 ∙ c.frame.ensures)) refl refl
    (ap (stood c.args.s.now) (same_err c.from_residual.result c.from_residual.ensures.1 ∙ ap (λ (x : Stop). Err x) q.1))

pub take_record-requires-clause-stands : goal.take_record-requires-clause-stands
take_record-requires-clause-stands c = (whole_learnt (drop c.args.s.now.at c.args.job.now) (sym (ok_told c.frame.result _ c.ok_or.ensures.value c.in_ok-size.was) ∙ c.frame.ensures)).0

pub returns-in_err-t-clause-next : goal.returns-in_err-t-clause-next
returns-in_err-t-clause-next c =
    stopped (whole_learnt (drop c.args.s.now.at c.args.job.now) (sym (ok_told c.frame.result _ c.ok_or.ensures.value c.in_ok-size.was) ∙ c.frame.ensures)).0 _
    (turned_as (limits_of c.args.limits) c.args.job.now c.args.work.now c.args.answers.now c.take_record.new.work c.take_record.new.answers c.args.s.now c.in_err-t.was c.take_record.ensures)
    (ap (stood c.args.s.now) (same_err c.from_residual-in_err-t.result c.from_residual-in_err-t.ensures.1))

pub overflow_add-s : goal.overflow_add-s
overflow_add-s c =
    let e = whole_learnt (drop c.args.s.now.at c.args.job.now) (sym (ok_told c.frame.result _ c.ok_or.ensures.value c.in_ok-size.was) ∙ c.frame.ensures) in
    omega (arith, e.1, (stands c.args.job.now c.args.s.now.at e.0).end)

pub overflow_add-s-2 : goal.overflow_add-s-2
overflow_add-s-2 c =
    let e = whole_learnt (drop c.args.s.now.at c.args.job.now) (sym (ok_told c.frame.result _ c.ok_or.ensures.value c.in_ok-size.was) ∙ c.frame.ensures) in
    omega (arith, c.requires.counted, (stands c.args.job.now c.args.s.now.at e.0).end)

pub overflow_add-s-3 : goal.overflow_add-s-3
overflow_add-s-3 c =
    let e = whole_learnt (drop c.args.s.now.at c.args.job.now) (sym (ok_told c.frame.result _ c.ok_or.ensures.value c.in_ok-size.was) ∙ c.frame.ensures) in
    let few = turn_repeats (turned_as (limits_of c.args.limits) c.args.job.now c.args.work.now c.args.answers.now c.take_record.new.work c.take_record.new.answers c.args.s.now c.in_ok-t.was c.take_record.ensures) in
    omega (arith, few, c.requires.counted, c.requires.repeated, (stands c.args.job.now c.args.s.now.at e.0).end)

pub returns-clause-next : goal.returns-clause-next
returns-clause-next c =
    let s = c.args.s.now in
    let t = c.in_ok-t.t in
    let e = whole_learnt (drop s.at c.args.job.now) (sym (ok_told c.frame.result _ c.ok_or.ensures.value c.in_ok-size.was) ∙ c.frame.ensures) in
    taken e.0 t
    (turned_as (limits_of c.args.limits) c.args.job.now c.args.work.now c.args.answers.now c.take_record.new.work c.take_record.new.answers s c.in_ok-t.was c.take_record.ensures)
    (ap (λ (m : ℕ). Ok (state (s.at + m) s.stop (s.records + 1) t.answers t.rows (s.repeats + t.repeats))) e.1)
