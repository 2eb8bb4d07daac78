-- The text of a job that was run.
use Rattle.std.proofs.Common.{ℕ, replicate, sym, subst}
use lib.ListN.{length-replicate}
use Rattle.theory.specs.Program.{memory}
use Rattle.terms.specs.Bodies.{Length}
use Rattle.terms.proofs.Numbers.{all_bytes, length_of}
use Rattle.console.proofs.Showing.{showed, job_shown}
use Rattle.console.proofs.bbcheck_text.Goals as goal

pub report-requires : goal.report-requires
report-requires c = subst Length (sym c.number_length-bytes.ensures) (length_of c.args.input.now)

pub returns : goal.returns
returns c =
    let a = c.args in
    let lent = sym (length-replicate {A = ℕ} memory 0) in
    let h = showed a.input.now a.out.now
    (job_shown a.input.now a.out.now (replicate memory 0) (replicate memory 0) (all_bytes a.input.now (λ i. c.type_inv.input i)) lent lent c.if-out-lt-TEXT_SPACE.false
    c.if-input-gt-MEMORY.false c.number_length-bytes.ensures c.bb_job-o.ensures.result c.bb_job-o.ensures.answers)
    (c.report.ensures.memory, c.report.ensures.size) in
    record { memory = h.0; size = h.1.0; bound = h.1.1 }
