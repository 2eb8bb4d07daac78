use Prim.Native.Nat.{ℕ}
use Rattle.marks.proofs.Walking.{Walking}
use Rattle.partial.proofs.InputLaws.{Placing}
use Rattle.partial.proofs.inputs.place_inputs.Given as goal

abbrev pub invariant-loop-k : goal.invariant-loop-k
invariant-loop-k l = let t = l.asked.terms in
    Walking l.asked (λ (k : ℕ). Placing t.job.now t.work.now t.rows l.asked.place l.initial.values l.values l.at k) l.k-iterator
