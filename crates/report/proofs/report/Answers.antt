-- Where the loop has ended, what is written is the whole text.
use mathlib.Core.Path.{◌≡◌, sym, ap, ◌∙◌}
use mathlib.Core.Logic.{inl, inr}
use native.Mathlib.Omega.{arith}
use lib.ListN.{length}
use Rattle.report.specs.Text.{report_text, written}
use Rattle.report.proofs.Lines.{lines_end, report_whole}
use Rattle.report.proofs.report.Goals as goal

the_end : (c : goal.In-None) → let a = c.args in let text = report_text a.stop a.terms a.repeats a.count a.bytes a.answers.now (length a.out.now) in
    (c.loop-k.out ≡ written text a.out.now) × (c.loop-k.size ≡ length text)
the_end c =
    let a = c.args in
    let e = report_whole a.stop a.terms a.repeats a.count a.bytes a.answers.now (length a.out.now) (omega arith) (omega arith) in
    let l = lines_end c.loop-k.invariant (elim c.in-None.ensures.steps [ inl s ↦ inl s.1.1.0 | inr s ↦ inr s.1.1.0 ]) in
    (l.0 ∙ ap (λ t. written t a.out.now) (sym e), l.1 ∙ ap length (sym e))

pub returns-clause-memory : goal.returns-clause-memory
returns-clause-memory c = (the_end c).0

pub returns-clause-size : goal.returns-clause-size
returns-clause-size c = (the_end c).1
