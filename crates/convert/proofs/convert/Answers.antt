use borrow.Author.Rules.{rules}
use mathlib.Core.Path.{◌≡◌}
use mathlib.Core.List.{[]}
use native.Mathlib.Omega.{arith}
use lib.ListN.{length}
use Rattle.table.proofs.Face.{zeros}
use Rattle.convert.proofs.TextLaws.{called_refused, called_written}
use Rattle.convert.proofs.convert.Goals as goal

pub write_job-lines-requires : goal.write_job-lines-requires
write_job-lines-requires c = c.clear.ensures.ready [] (omega arith)

pub returns-in-Err : goal.returns-in-Err
returns-in-Err c =
    let said = called_refused c.args.text.now c.args.work.now c.args.job.now c.write_job-lines.ensures c.in-Err.is
    (zeros c.args.work.now c.wipe.ensures (let l : length c.wipe.new.work ≡ length c.args.work.now = search rules in l))
    (zeros c.args.job.now c.wipe-in-Err.ensures (let l : length c.wipe-in-Err.new.work ≡ length c.args.job.now = search rules in l)) in
    record { result = said.0; work = said.1.0; job = said.1.1 }

pub returns-in-Ok : goal.returns-in-Ok
returns-in-Ok c =
    let said = called_written c.args.text.now c.args.work.now c.args.job.now c.write_job-lines.ensures c.in-Ok.is
    (zeros c.args.work.now c.wipe.ensures (let l : length c.wipe.new.work ≡ length c.args.work.now = search rules in l)) in
    record { result = said.0; work = said.1.0; job = said.1.1 }
