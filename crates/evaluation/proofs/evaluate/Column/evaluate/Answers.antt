use Rattle.evaluation.proofs.TermLaws.{standing, given_at, done_at, placed_at}
use Rattle.evaluation.proofs.evaluate.Column.evaluate.Goals as goal

pub one-requires : goal.one-requires
one-requires c = given_at (standing c.args.self.now c.requires.low c.requires.term) _ c.in-Not.is

pub one-requires-in-BvNot : goal.one-requires-in-BvNot
one-requires-in-BvNot c = given_at (standing c.args.self.now c.requires.low c.requires.term) _ c.in-BvNot.is

pub one-requires-in-BvNeg : goal.one-requires-in-BvNeg
one-requires-in-BvNeg c = given_at (standing c.args.self.now c.requires.low c.requires.term) _ c.in-BvNeg.is

pub one-requires-in-BvBitOf : goal.one-requires-in-BvBitOf
one-requires-in-BvBitOf c = given_at (standing c.args.self.now c.requires.low c.requires.term) _ c.in-BvBitOf.is

pub one-requires-in-BvExtract : goal.one-requires-in-BvExtract
one-requires-in-BvExtract c = given_at (standing c.args.self.now c.requires.low c.requires.term) _ c.in-BvExtract.is

pub one-requires-in-SignExtend : goal.one-requires-in-SignExtend
one-requires-in-SignExtend c = given_at (standing c.args.self.now c.requires.low c.requires.term) _ c.in-SignExtend.is

pub one-requires-in-ZeroExtend : goal.one-requires-in-ZeroExtend
one-requires-in-ZeroExtend c = given_at (standing c.args.self.now c.requires.low c.requires.term) _ c.in-ZeroExtend.is

pub one-requires-in-RotateLeft : goal.one-requires-in-RotateLeft
one-requires-in-RotateLeft c = given_at (standing c.args.self.now c.requires.low c.requires.term) _ c.in-RotateLeft.is

pub one-requires-in-RotateRight : goal.one-requires-in-RotateRight
one-requires-in-RotateRight c = given_at (standing c.args.self.now c.requires.low c.requires.term) _ c.in-RotateRight.is

pub one-requires-in-Repeat : goal.one-requires-in-Repeat
one-requires-in-Repeat c = given_at (standing c.args.self.now c.requires.low c.requires.term) _ c.in-Repeat.is

pub two-requires : goal.two-requires
two-requires c = given_at (standing c.args.self.now c.requires.low c.requires.term) _ c.in-Xor.is

pub two-requires-in-Equals : goal.two-requires-in-Equals
two-requires-in-Equals c = given_at (standing c.args.self.now c.requires.low c.requires.term) _ c.in-Equals.is

pub two-requires-in-BvXNor : goal.two-requires-in-BvXNor
two-requires-in-BvXNor c = given_at (standing c.args.self.now c.requires.low c.requires.term) _ c.in-BvXNor.is

pub two-requires-in-BvComp : goal.two-requires-in-BvComp
two-requires-in-BvComp c = given_at (standing c.args.self.now c.requires.low c.requires.term) _ c.in-BvComp.is

pub two-requires-in-BvULt : goal.two-requires-in-BvULt
two-requires-in-BvULt c = given_at (standing c.args.self.now c.requires.low c.requires.term) _ c.in-BvULt.is

pub two-requires-in-BvSLt : goal.two-requires-in-BvSLt
two-requires-in-BvSLt c = given_at (standing c.args.self.now c.requires.low c.requires.term) _ c.in-BvSLt.is

pub two-requires-in-BvShl : goal.two-requires-in-BvShl
two-requires-in-BvShl c = given_at (standing c.args.self.now c.requires.low c.requires.term) _ c.in-BvShl.is

pub two-requires-in-BvLShr : goal.two-requires-in-BvLShr
two-requires-in-BvLShr c = given_at (standing c.args.self.now c.requires.low c.requires.term) _ c.in-BvLShr.is

pub two-requires-in-BvAShr : goal.two-requires-in-BvAShr
two-requires-in-BvAShr c = given_at (standing c.args.self.now c.requires.low c.requires.term) _ c.in-BvAShr.is

pub two-requires-in-BvUDiv : goal.two-requires-in-BvUDiv
two-requires-in-BvUDiv c = given_at (standing c.args.self.now c.requires.low c.requires.term) _ c.in-BvUDiv.is

pub two-requires-in-BvURem : goal.two-requires-in-BvURem
two-requires-in-BvURem c = given_at (standing c.args.self.now c.requires.low c.requires.term) _ c.in-BvURem.is

pub three-requires : goal.three-requires
three-requires c = given_at (standing c.args.self.now c.requires.low c.requires.term) _ c.in-Ite.is

pub many-requires : goal.many-requires
many-requires c = record { inside = placed_at (standing c.args.self.now c.requires.low c.requires.term) _ c.in-And.is; given = given_at (standing c.args.self.now c.requires.low c.requires.term) _ c.in-And.is }

pub many-requires-in-Or : goal.many-requires-in-Or
many-requires-in-Or c = record { inside = placed_at (standing c.args.self.now c.requires.low c.requires.term) _ c.in-Or.is; given = given_at (standing c.args.self.now c.requires.low c.requires.term) _ c.in-Or.is }

pub many-requires-in-BvBbTerm : goal.many-requires-in-BvBbTerm
many-requires-in-BvBbTerm c = record { inside = placed_at (standing c.args.self.now c.requires.low c.requires.term) _ c.in-BvBbTerm.is; given = given_at (standing c.args.self.now c.requires.low c.requires.term) _ c.in-BvBbTerm.is }

pub many-requires-in-BvAnd : goal.many-requires-in-BvAnd
many-requires-in-BvAnd c = record { inside = placed_at (standing c.args.self.now c.requires.low c.requires.term) _ c.in-BvAnd.is; given = given_at (standing c.args.self.now c.requires.low c.requires.term) _ c.in-BvAnd.is }

pub many-requires-in-BvOr : goal.many-requires-in-BvOr
many-requires-in-BvOr c = record { inside = placed_at (standing c.args.self.now c.requires.low c.requires.term) _ c.in-BvOr.is; given = given_at (standing c.args.self.now c.requires.low c.requires.term) _ c.in-BvOr.is }

pub many-requires-in-BvXor : goal.many-requires-in-BvXor
many-requires-in-BvXor c = record { inside = placed_at (standing c.args.self.now c.requires.low c.requires.term) _ c.in-BvXor.is; given = given_at (standing c.args.self.now c.requires.low c.requires.term) _ c.in-BvXor.is }

pub many-requires-in-BvAdd : goal.many-requires-in-BvAdd
many-requires-in-BvAdd c = record { inside = placed_at (standing c.args.self.now c.requires.low c.requires.term) _ c.in-BvAdd.is; given = given_at (standing c.args.self.now c.requires.low c.requires.term) _ c.in-BvAdd.is }

pub many-requires-in-BvMul : goal.many-requires-in-BvMul
many-requires-in-BvMul c = record { inside = placed_at (standing c.args.self.now c.requires.low c.requires.term) _ c.in-BvMul.is; given = given_at (standing c.args.self.now c.requires.low c.requires.term) _ c.in-BvMul.is }

pub many-requires-in-BvConcat : goal.many-requires-in-BvConcat
many-requires-in-BvConcat c = record { inside = placed_at (standing c.args.self.now c.requires.low c.requires.term) _ c.in-BvConcat.is; given = given_at (standing c.args.self.now c.requires.low c.requires.term) _ c.in-BvConcat.is }

pub returns-in-Not : goal.returns-in-Not
returns-in-Not c = done_at (standing c.args.self.now c.requires.low c.requires.term) _ c.in-Not.is c.one.ensures

pub returns-in-BvNot : goal.returns-in-BvNot
returns-in-BvNot c = done_at (standing c.args.self.now c.requires.low c.requires.term) _ c.in-BvNot.is c.one-in-BvNot.ensures

pub returns-in-BvNeg : goal.returns-in-BvNeg
returns-in-BvNeg c = done_at (standing c.args.self.now c.requires.low c.requires.term) _ c.in-BvNeg.is c.one-in-BvNeg.ensures

pub returns-in-BvBitOf : goal.returns-in-BvBitOf
returns-in-BvBitOf c = done_at (standing c.args.self.now c.requires.low c.requires.term) _ c.in-BvBitOf.is c.one-in-BvBitOf.ensures

pub returns-in-BvExtract : goal.returns-in-BvExtract
returns-in-BvExtract c = done_at (standing c.args.self.now c.requires.low c.requires.term) _ c.in-BvExtract.is c.one-in-BvExtract.ensures

pub returns-in-SignExtend : goal.returns-in-SignExtend
returns-in-SignExtend c = done_at (standing c.args.self.now c.requires.low c.requires.term) _ c.in-SignExtend.is c.one-in-SignExtend.ensures

pub returns-in-ZeroExtend : goal.returns-in-ZeroExtend
returns-in-ZeroExtend c = done_at (standing c.args.self.now c.requires.low c.requires.term) _ c.in-ZeroExtend.is c.one-in-ZeroExtend.ensures

pub returns-in-RotateLeft : goal.returns-in-RotateLeft
returns-in-RotateLeft c = done_at (standing c.args.self.now c.requires.low c.requires.term) _ c.in-RotateLeft.is c.one-in-RotateLeft.ensures

pub returns-in-RotateRight : goal.returns-in-RotateRight
returns-in-RotateRight c = done_at (standing c.args.self.now c.requires.low c.requires.term) _ c.in-RotateRight.is c.one-in-RotateRight.ensures

pub returns-in-Repeat : goal.returns-in-Repeat
returns-in-Repeat c = done_at (standing c.args.self.now c.requires.low c.requires.term) _ c.in-Repeat.is c.one-in-Repeat.ensures

pub returns-in-Xor : goal.returns-in-Xor
returns-in-Xor c = done_at (standing c.args.self.now c.requires.low c.requires.term) _ c.in-Xor.is c.two.ensures

pub returns-in-Equals : goal.returns-in-Equals
returns-in-Equals c = done_at (standing c.args.self.now c.requires.low c.requires.term) _ c.in-Equals.is c.two-in-Equals.ensures

pub returns-in-BvXNor : goal.returns-in-BvXNor
returns-in-BvXNor c = done_at (standing c.args.self.now c.requires.low c.requires.term) _ c.in-BvXNor.is c.two-in-BvXNor.ensures

pub returns-in-BvComp : goal.returns-in-BvComp
returns-in-BvComp c = done_at (standing c.args.self.now c.requires.low c.requires.term) _ c.in-BvComp.is c.two-in-BvComp.ensures

pub returns-in-BvULt : goal.returns-in-BvULt
returns-in-BvULt c = done_at (standing c.args.self.now c.requires.low c.requires.term) _ c.in-BvULt.is c.two-in-BvULt.ensures

pub returns-in-BvSLt : goal.returns-in-BvSLt
returns-in-BvSLt c = done_at (standing c.args.self.now c.requires.low c.requires.term) _ c.in-BvSLt.is c.two-in-BvSLt.ensures

pub returns-in-BvShl : goal.returns-in-BvShl
returns-in-BvShl c = done_at (standing c.args.self.now c.requires.low c.requires.term) _ c.in-BvShl.is c.two-in-BvShl.ensures

pub returns-in-BvLShr : goal.returns-in-BvLShr
returns-in-BvLShr c = done_at (standing c.args.self.now c.requires.low c.requires.term) _ c.in-BvLShr.is c.two-in-BvLShr.ensures

pub returns-in-BvAShr : goal.returns-in-BvAShr
returns-in-BvAShr c = done_at (standing c.args.self.now c.requires.low c.requires.term) _ c.in-BvAShr.is c.two-in-BvAShr.ensures

pub returns-in-BvUDiv : goal.returns-in-BvUDiv
returns-in-BvUDiv c = done_at (standing c.args.self.now c.requires.low c.requires.term) _ c.in-BvUDiv.is c.two-in-BvUDiv.ensures

pub returns-in-BvURem : goal.returns-in-BvURem
returns-in-BvURem c = done_at (standing c.args.self.now c.requires.low c.requires.term) _ c.in-BvURem.is c.two-in-BvURem.ensures

pub returns-in-Ite : goal.returns-in-Ite
returns-in-Ite c = done_at (standing c.args.self.now c.requires.low c.requires.term) _ c.in-Ite.is c.three.ensures

pub returns-in-And : goal.returns-in-And
returns-in-And c = done_at (standing c.args.self.now c.requires.low c.requires.term) _ c.in-And.is c.many.ensures

pub returns-in-Or : goal.returns-in-Or
returns-in-Or c = done_at (standing c.args.self.now c.requires.low c.requires.term) _ c.in-Or.is c.many-in-Or.ensures

pub returns-in-BvBbTerm : goal.returns-in-BvBbTerm
returns-in-BvBbTerm c = done_at (standing c.args.self.now c.requires.low c.requires.term) _ c.in-BvBbTerm.is c.many-in-BvBbTerm.ensures

pub returns-in-BvAnd : goal.returns-in-BvAnd
returns-in-BvAnd c = done_at (standing c.args.self.now c.requires.low c.requires.term) _ c.in-BvAnd.is c.many-in-BvAnd.ensures

pub returns-in-BvOr : goal.returns-in-BvOr
returns-in-BvOr c = done_at (standing c.args.self.now c.requires.low c.requires.term) _ c.in-BvOr.is c.many-in-BvOr.ensures

pub returns-in-BvXor : goal.returns-in-BvXor
returns-in-BvXor c = done_at (standing c.args.self.now c.requires.low c.requires.term) _ c.in-BvXor.is c.many-in-BvXor.ensures

pub returns-in-BvAdd : goal.returns-in-BvAdd
returns-in-BvAdd c = done_at (standing c.args.self.now c.requires.low c.requires.term) _ c.in-BvAdd.is c.many-in-BvAdd.ensures

pub returns-in-BvMul : goal.returns-in-BvMul
returns-in-BvMul c = done_at (standing c.args.self.now c.requires.low c.requires.term) _ c.in-BvMul.is c.many-in-BvMul.ensures

pub returns-in-BvConcat : goal.returns-in-BvConcat
returns-in-BvConcat c = done_at (standing c.args.self.now c.requires.low c.requires.term) _ c.in-BvConcat.is c.many-in-BvConcat.ensures
