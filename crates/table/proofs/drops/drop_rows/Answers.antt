-- the job's number length is two or four, and the same for any
use mathlib.Core.Path.{subst}
use Prim.Native.Nat.{ℕ}
use Rattle.table.specs.Promise.{Cut}
use Rattle.table.proofs.Face.{table_long}
use Rattle.terms.proofs.Numbers.{long_length}
use Rattle.table.proofs.drops.drop_rows.Goals as goal

pub returns : goal.returns
returns c = let a = c.args in
    subst (λ (b : ℕ). Cut b a.job.now a.work.now c.drop_rows_as-2.new.work a.n a.m) (long_length _ c.number_length.ensures c.if-number_length-eq-NUMBER_BYTES.false) c.drop_rows_as-2.ensures

pub drop_rows_as-requires-2-clause-kept : goal.drop_rows_as-requires-2-clause-kept
drop_rows_as-requires-2-clause-kept c = table_long _ c.number_length.ensures c.if-number_length-eq-NUMBER_BYTES.false c.requires.kept
