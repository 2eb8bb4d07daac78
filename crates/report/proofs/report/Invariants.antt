-- The invariant: what is written, with the lines of the answers that are left, is the whole text.
use mathlib.Core.List.{◌++◌}
use Rattle.std.specs.Iterator.Adapters.{zip_first, zip_second}
use Rattle.std.specs.Slice.Iter.{chunks_exact_rest, chunks_exact_size}
use Rattle.theory.specs.Answer.{decode_answers}
use Rattle.theory.specs.Program.{answer_lines}
use Rattle.report.specs.Text.{head}
use Rattle.report.proofs.Lines.{Lines}
use Rattle.report.proofs.report.Given as goal

abbrev pub invariant-loop-k : goal.invariant-loop-k
invariant-loop-k l =
    let s = zip_first l.k-iterator in
    let t = zip_second l.k-iterator in
    Lines l.bytes l.count l.fn.out (head l.count l.terms l.repeats l.stop ++ answer_lines 1 (decode_answers l.bytes l.count l.answers)) l.out l.size s.start s.end (chunks_exact_size t) (chunks_exact_rest t)
