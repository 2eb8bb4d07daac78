use Rattle.partial.proofs.OutputLaws.{Writing}
use Rattle.partial.proofs.output.write_bits.Given as goal

abbrev pub invariant-loop-i : goal.invariant-loop-i
invariant-loop-i l = let t = l.known.terms in
    Writing t.job.now t.work.now t.rows l.known.values.now l.known.inputs.now l.asked l.bits l.initial.outputs l.outputs l.i
