use mathlib.Core.Path.{sym, ap, ◌∙◌}
use Prim.Native.Nat.{ℕ, ◌+◌, ◌*◌}
use Rattle.rows.specs.Layout.{number_at}
use Rattle.table.specs.Buckets.{head_at}
use Rattle.table.proofs.BucketLaws.{first_outside, first_within}
use Rattle.table.proofs.buckets.Heads.first_in.Goals as goal

pub returns-then-j-self : goal.returns-then-j-self
unfolding head_at
returns-then-j-self g c = c.number.ensures.value ∙ ap (λ (l : ℕ). number_at c.args.work.now (c.args.self.start + c.args.j * l) l) c.LINK_BYTES-len.ensures ∙ sym (first_within _ _ _ _ _ _ c.if-j-self.true)

pub returns : goal.returns
returns g c = sym (first_outside _ _ _ _ _ _ c.if-j-self.false)
