use mathlib.Core.Path.{sym, ap, ◌∙◌}
use Prim.Native.Nat.{ℕ, ◌+◌, ◌*◌, ◌/◌, ◌%◌}
use Rattle.table.specs.Buckets.{bucket_of, hash_of, multiplier, seed_in}
use Rattle.table.proofs.BucketLaws.{bucket_none}
use Rattle.table.proofs.buckets.Heads.bucket.Goals as goal

pub returns-then-self-eq0 : goal.returns-then-self-eq0
returns-then-self-eq0 c = sym (bucket_none _ _ _ c.if-self-eq0.true)

pub returns : goal.returns
unfolding bucket_of multiplier seed_in
returns c = let a = c.args in
    ap (λ (h : ℕ). h * a.self.count / 2147483648) (c.hash.ensures.value ∙ ap (λ (s : ℕ). hash_of ((s + 668265263) % 1073741824 + 1) a.wanted.now) c.number_of-seed.ensures.value)
