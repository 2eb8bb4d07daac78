use mathlib.Core.Logic.{inl, inr}
use Rattle.operations.proofs.ManyLaws.{concat_small, at_and, at_or, at_bits, at_bvand, at_bvor, at_bvxor, at_concat}
use Rattle.operations.proofs.many.extend.Goals as goal

pub overflow_add-result-in-Concat-2 : goal.overflow_add-result-in-Concat-2
overflow_add-result-in-Concat-2 c = record { fits = concat_small _ c.requires c.in-Concat.is }

pub returns-in-And : goal.returns-in-And
returns-in-And c = elim c.in-And.is [ inl e ↦ at_and _ c.requires e | inr e ↦ at_bvand _ c.requires e ]

pub returns-in-Or : goal.returns-in-Or
returns-in-Or c = elim c.in-Or.is [ inl e ↦ at_or _ c.requires e | inr e ↦ at_bvor _ c.requires e ]

pub returns-in-Bits : goal.returns-in-Bits
returns-in-Bits c = at_bits _ c.requires c.in-Bits.is

pub returns-in-BvXor : goal.returns-in-BvXor
returns-in-BvXor c = at_bvxor _ c.requires c.in-BvXor.is

pub returns-in-Concat : goal.returns-in-Concat
returns-in-Concat c = at_concat _ c.requires c.in-Concat.is
