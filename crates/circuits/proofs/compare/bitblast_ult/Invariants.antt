use Rattle.std.specs.Iterator.Adapters.{zip_first, zip_second}
use Rattle.std.specs.Slice.Iter.{iter_rest}
use Rattle.store.specs.Lookup.{gates}
use Rattle.std.specs.Prelude.{◌≡◌}
use Rattle.theory.specs.Circuit.{bitblast_ult, ult_from}
use Rattle.circuits.proofs.compare.bitblast_ult.Given as goal

abbrev pub invariant-loop-a : goal.invariant-loop-a
invariant-loop-a l = let g = gates l.lookup in
    ult_from g l.res (iter_rest (zip_first l.a-iterator)) (iter_rest (zip_second l.a-iterator)) ≡ bitblast_ult g l.x l.y
