use mathlib.Core.Path.{ap, ◌∙◌}
use Prim.Native.Nat.{ℕ, ◌-◌, ◌/◌, min}
use Rattle.table.proofs.MemoryLaws.{count_none, count_is}
use Rattle.table.proofs.buckets.head_count.Goals as goal

pub returns-then-left-lt-SEED_BYTES : goal.returns-then-left-lt-SEED_BYTES
returns-then-left-lt-SEED_BYTES g c = count_none _ _ _ c.if-left-lt-SEED_BYTES.true

pub returns : goal.returns
returns g c = c.min.ensures ∙ ap (λ (l : ℕ). min ((c.args.len - c.args.start - 4) / l) c.most_heads.result) c.LINK_BYTES.ensures ∙ ap (λ (m : ℕ). min ((c.args.len - c.args.start - 4) / g.N.Lengths.LINK_BYTES) m) c.most_heads.ensures ∙ count_is g.N.Lengths.LINK_BYTES c.args.len c.args.start
