use Prim.Native.Nat.{ℕ}
use Rattle.marks.proofs.Walking.{Walking}
use Rattle.partial.proofs.PassLaws.{Knowing}
use Rattle.partial.proofs.pass.known_all.Given as goal

abbrev pub invariant-loop-k : goal.invariant-loop-k
invariant-loop-k l = let t = l.asked.terms in
    Walking l.asked (λ (k : ℕ). Knowing t.job.now t.work.now t.rows l.inputs l.asked.place l.initial.values l.values k) l.k-iterator
