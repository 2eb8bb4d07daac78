use Rattle.std.proofs.Common.{arith}
use Rattle.operations.proofs.ApplyLaws.{extend_in, extend_wide, extend_le, extend_fits}
use Rattle.operations.proofs.apply.extended.Goals as goal

pub overflow_sub-m : goal.overflow_sub-m
overflow_sub-m c = (extend_in _ _ _ c.requires).0.least

pub overflow_add-m : goal.overflow_add-m
overflow_add-m c = record { fits = let w = extend_in _ _ _ c.requires in omega (arith, w.1) }

pub ones-requires : goal.ones-requires
ones-requires c = extend_wide _ _ _ c.requires

pub ones-requires-then-bit : goal.ones-requires-then-bit
ones-requires-then-bit c = (extend_in _ _ _ c.requires).0

pub overflow_sub-result : goal.overflow_sub-result
overflow_sub-result c = extend_le _ _ _ _ c.ones.ensures c.ones-then-bit.ensures

pub overflow_add-result : goal.overflow_add-result
overflow_add-result c = record { fits = extend_fits _ _ _ _ _ c.requires c.ones.ensures c.ones-then-bit.ensures }
