use mathlib.Core.Path.{sym, ap, ◌∙◌}
use Prim.Native.Nat.{ℕ, ◌+◌, ◌*◌}
use lib.Seq.{sets}
use Rattle.theory.specs.Record.{bytes_of}
use Rattle.table.proofs.MemoryLaws.{head_in, head_out}
use Rattle.table.proofs.buckets.Heads.put.Goals as goal

pub returns-then-j-self : goal.returns-then-j-self
returns-then-j-self g c = c.put_number.ensures ∙ ap (λ (l : ℕ). sets c.args.work.now (c.args.self.start + c.args.j * l) (bytes_of l c.args.v)) c.LINK_BYTES-len.ensures ∙ sym (head_in _ _ _ _ _ _ c.if-j-self.true)

pub returns-else-j-self : goal.returns-else-j-self
returns-else-j-self g c = sym (head_out _ _ _ _ _ _ c.if-j-self.false)
