use Rattle.std.proofs.Common.{arith}
use Rattle.operations.proofs.ApplyLaws.{in_one, bit_low, extract_in}
use Rattle.operations.proofs.apply.apply_one.Goals as goal

pub bit-requires : goal.bit-requires
bit-requires c = bit_low _ _ _ (in_one _ _ c.in-BitOf.is c.requires)

pub overflow_sub-i : goal.overflow_sub-i
overflow_sub-i c = (extract_in _ _ _ _ (in_one _ _ c.in-Extract.is c.requires)).order

pub overflow_add-i : goal.overflow_add-i
overflow_add-i c = record { fits = let h = (in_one _ _ c.in-Extract.is c.requires) in let w = extract_in _ _ _ _ h in let f = h.first.few in omega (arith, w.inside, w.order, f) }

pub overflow_shr-x : goal.overflow_shr-x
overflow_shr-x c = let h = (in_one _ _ c.in-Extract.is c.requires) in let w = extract_in _ _ _ _ h in let f = h.first.few in omega (arith, w.inside, w.order, f)

pub low-requires : goal.low-requires
low-requires c = let h = (in_one _ _ c.in-Extract.is c.requires) in let w = extract_in _ _ _ _ h in let f = h.first.few in record { least = omega arith; most = omega (arith, w.inside, w.order, f) }
