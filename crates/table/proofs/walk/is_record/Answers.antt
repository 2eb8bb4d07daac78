-- the bytes agree from the last down, or one differs
use mathlib.Core.Path.{◌≡◌, sym, ap, ◌∙◌}
use mathlib.Core.List.{[], append-nil}
use Prim.Native.Nat.{ℕ, ◌+◌, ◌-◌}
use native.Mathlib.Omega.{arith}
use lib.ListN.{length, take, drop, length-drop}
use lib.Seq.{length-take-le}
use Rattle.theory.specs.Record.{extent}
use Rattle.std.proofs.Common.{Iter, rules}
use Rattle.theory.specs.Term.{same_numbers}
use Rattle.rows.proofs.RowLaws.{record_long, same_differ}
use Rattle.table.proofs.SameLaws.{Side, checked}
use Rattle.table.proofs.walk.is_record.Goals as goal

pub returns-then-number_of-wanted : goal.returns-then-number_of-wanted
returns-then-number_of-wanted c = sym (same_differ _ _ (record_long _ _ _ c.requires (λ e. c.if-number_of-wanted.true (omega (arith, c.number_of.ensures.value, e)))))

pub returns : goal.returns
returns c =
    let a = c.args in
    let kept = take (a.at + length a.wanted.now - a.at) (drop a.at a.job.now) in
    let whole : length a.wanted.now ≡ extent (drop a.at a.job.now) = omega (arith, c.number_of.ensures.value, c.if-number_of-wanted.false) in
    let size : a.at + length a.wanted.now - a.at ≡ length a.wanted.now = omega arith in
    let long : length kept ≡ length a.wanted.now = length-take-le _ (drop a.at a.job.now) (omega (arith, c.requires, whole, length-drop a.at a.job.now)) ∙ size in
    let first : c.zip.result.a.iter.rest.now ≡ kept = ap (λ (s : Side). s.iter.rest.now) c.zip.ensures.first ∙ ap (λ (i : Iter ℕ). i.rest.now) c.rev-kept.ensures.source ∙ c.iter.ensures.rest in
    let second : c.zip.result.b.iter.rest.now ≡ a.wanted.now = ap (λ (s : Side). s.iter.rest.now) c.zip.ensures.second ∙ ap (λ (i : Iter ℕ). i.rest.now) c.rev.ensures.source ∙ c.iter-2.ensures.rest in
    checked (λ x p b q h. search rules) kept a.wanted.now c.all.new.self long (record { after = []; first_is = sym (append-nil _ ∙ first); second_is = sym (append-nil _ ∙ second) }) c.all.ensures.ran
    ∙ ap (λ (n : ℕ). same_numbers a.wanted.now (take n (drop a.at a.job.now))) (size ∙ whole)
