use mathlib.Core.Path.{sym, ap, subst, ◌∙◌}
use Prim.Native.Nat.{ℕ, ◌<◌, ◌≤◌}
use Rattle.table.specs.Buckets.{unless_missing}
use Rattle.rows.proofs.RowLaws.{link_back}
use Rattle.table.proofs.BucketLaws.{told_none}
use Rattle.table.proofs.KeyLaws.{indexed_none, indexed_is}
use Rattle.table.proofs.kept.KeptRecords.find_indexed.Goals as goal

pub returns-then-last_number-a : goal.returns-then-last_number-a
returns-then-last_number-a g c = told_none (sym (indexed_none g.N.Lengths.BYTES c.args.a _ _ (subst (λ (m : ℕ). m ≤ c.args.a) c.last_number.ensures c.if-last_number-a.true) _))

pub returns : goal.returns
returns g c = let l = (link_back c.args.self.now.table.rows.link_length).few_bytes in
    c.find_numbered.ensures ∙ ap unless_missing (indexed_is _ _ c.to_le_bytes.ensures c.BYTES.ensures l (subst (λ (m : ℕ). c.args.a < m) c.last_number.ensures c.if-last_number-a.false) _)
