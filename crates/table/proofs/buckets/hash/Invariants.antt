use mathlib.Core.Path.{◌≡◌}
use Prim.Native.Nat.{◌/◌, ◌≤◌}
use lib.ListN.{length}
use Rattle.std.specs.Slice.Iter.{chunks_exact_rest, chunks_exact_size}
use Rattle.table.specs.Buckets.{hash_from, hash_of}
use Rattle.table.proofs.buckets.hash.Given as goal

abbrev pub invariant-loop-word : goal.invariant-loop-word
invariant-loop-word l =
    let rest = chunks_exact_rest l.word-iterator in
    (l.h ≤ 4295032832) × ((chunks_exact_size l.word-iterator ≡ 2) × (hash_of l.m l.s ≡ hash_from l.m (length rest / 2) l.h rest))
