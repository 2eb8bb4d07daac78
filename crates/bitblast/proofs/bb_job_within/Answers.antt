-- `bb_job_within`: the job is given as much work memory as it can need, all of it is wiped at the end, and the demands follow from what is
-- returned and written.
use Rattle.std.proofs.Common.{◌≡◌, length, rules}
use Rattle.terms.proofs.Numbers.{all_bytes}
use Rattle.theory.specs.Limit.{stated}
use Rattle.table.proofs.Face.{zeros}
use Rattle.bitblast.proofs.Calls.{called}
use Rattle.bitblast.proofs.AskingLaws.{lent_outcome, lent_answers}
use Rattle.bitblast.proofs.bb_job_within.Goals as goal

pub returns : goal.returns
returns c = let a = c.args in
    let r = c.check_job-outcome.ensures in
    let same : length c.lend-n.new.work ≡ length a.work.now = search rules in
    let e = c.lend-n.ensures.part in
    let h = called (stated a.width_limit a.term_limit) a.job.now a.work.now a.answers.now (all_bytes a.job.now (λ i. c.type_inv.job i)) c.check_job-outcome.result
    (lent_outcome _ _ _ _ _ _ e same r.result) (lent_answers _ _ _ _ _ _ e same r.answers)
    (zeros a.work.now c.wipe.ensures (let q : length c.wipe.new.work ≡ length a.work.now = search rules in q)) in
    record { result = h.0; answers = h.1.0; work = h.1.1.0; demand1 = h.1.1.1.0; demand2 = h.1.1.1.1.0; demand3 = h.1.1.1.1.1 }
