-- `Term::of_kind`: each kind by the law of its form of body (Arms).
use mathlib.Core.Path.{refl}
use Rattle.theory.specs.Kind as K
use Rattle.terms.proofs.Arms.{fitted, by_kind, by_kind_too, twice_none, valued_none, plain_one, many_there, plain_two, plain_three, twice_one, indexed_one}
use Rattle.terms.proofs.records.Body.term.Goals as goal

pub returns-in-BvVar : goal.returns-in-BvVar
returns-in-BvVar c = record { says = by_kind c.in-BvVar.is (fitted c.args.self.now c.args.kind c.requires.fits c.requires.front) (λ h. twice_none K.BvVar h c.index-in-BvVar.ensures c.index-in-BvVar-2.ensures (λ i j. refl)); placed = tt }

pub returns-in-Const : goal.returns-in-Const
returns-in-Const c = record { says = by_kind c.in-Const.is (fitted c.args.self.now c.args.kind c.requires.fits c.requires.front) (λ h. valued_none K.Const h c.index-in-Const.ensures c.value.ensures (λ i j. refl)); placed = tt }

pub returns-in-Not : goal.returns-in-Not
returns-in-Not c = record { says = by_kind c.in-Not.is (fitted c.args.self.now c.args.kind c.requires.fits c.requires.front) (λ h. plain_one K.Not h refl c.argument-x.ensures); placed = tt }

pub returns-in-And : goal.returns-in-And
returns-in-And c = let p = by_kind_too c.in-And.is (fitted c.args.self.now c.args.kind c.requires.fits c.requires.front) (λ h. many_there K.And h refl c.arguments-list.ensures) in record { says = p.0; placed = p.1 }

pub returns-in-Or : goal.returns-in-Or
returns-in-Or c = let p = by_kind_too c.in-Or.is (fitted c.args.self.now c.args.kind c.requires.fits c.requires.front) (λ h. many_there K.Or h refl c.arguments-list.ensures) in record { says = p.0; placed = p.1 }

pub returns-in-Xor : goal.returns-in-Xor
returns-in-Xor c = record { says = by_kind c.in-Xor.is (fitted c.args.self.now c.args.kind c.requires.fits c.requires.front) (λ h. plain_two K.Xor h c.argument-x.ensures c.argument-y.ensures refl); placed = tt }

pub returns-in-Equals : goal.returns-in-Equals
returns-in-Equals c = record { says = by_kind c.in-Equals.is (fitted c.args.self.now c.args.kind c.requires.fits c.requires.front) (λ h. plain_two K.Equals h c.argument-x.ensures c.argument-y.ensures refl); placed = tt }

pub returns-in-Ite : goal.returns-in-Ite
returns-in-Ite c = record { says = by_kind c.in-Ite.is (fitted c.args.self.now c.args.kind c.requires.fits c.requires.front) (λ h. plain_three K.Ite h c.argument-x.ensures c.argument-y.ensures refl c.argument.ensures); placed = tt }

pub returns-in-BvBitOf : goal.returns-in-BvBitOf
returns-in-BvBitOf c = record { says = by_kind c.in-BvBitOf.is (fitted c.args.self.now c.args.kind c.requires.fits c.requires.front) (λ h. indexed_one K.BvBitOf h c.index-in-BvBitOf.ensures (λ i. refl) c.argument-x.ensures); placed = tt }

pub returns-in-BvBbTerm : goal.returns-in-BvBbTerm
returns-in-BvBbTerm c = let p = by_kind_too c.in-BvBbTerm.is (fitted c.args.self.now c.args.kind c.requires.fits c.requires.front) (λ h. many_there K.BvBbTerm h refl c.arguments-list.ensures) in record { says = p.0; placed = p.1 }

pub returns-in-BvNot : goal.returns-in-BvNot
returns-in-BvNot c = record { says = by_kind c.in-BvNot.is (fitted c.args.self.now c.args.kind c.requires.fits c.requires.front) (λ h. plain_one K.BvNot h refl c.argument-x.ensures); placed = tt }

pub returns-in-BvNeg : goal.returns-in-BvNeg
returns-in-BvNeg c = record { says = by_kind c.in-BvNeg.is (fitted c.args.self.now c.args.kind c.requires.fits c.requires.front) (λ h. plain_one K.BvNeg h refl c.argument-x.ensures); placed = tt }

pub returns-in-BvAnd : goal.returns-in-BvAnd
returns-in-BvAnd c = let p = by_kind_too c.in-BvAnd.is (fitted c.args.self.now c.args.kind c.requires.fits c.requires.front) (λ h. many_there K.BvAnd h refl c.arguments-list.ensures) in record { says = p.0; placed = p.1 }

pub returns-in-BvOr : goal.returns-in-BvOr
returns-in-BvOr c = let p = by_kind_too c.in-BvOr.is (fitted c.args.self.now c.args.kind c.requires.fits c.requires.front) (λ h. many_there K.BvOr h refl c.arguments-list.ensures) in record { says = p.0; placed = p.1 }

pub returns-in-BvXor : goal.returns-in-BvXor
returns-in-BvXor c = let p = by_kind_too c.in-BvXor.is (fitted c.args.self.now c.args.kind c.requires.fits c.requires.front) (λ h. many_there K.BvXor h refl c.arguments-list.ensures) in record { says = p.0; placed = p.1 }

pub returns-in-BvAdd : goal.returns-in-BvAdd
returns-in-BvAdd c = let p = by_kind_too c.in-BvAdd.is (fitted c.args.self.now c.args.kind c.requires.fits c.requires.front) (λ h. many_there K.BvAdd h refl c.arguments-list.ensures) in record { says = p.0; placed = p.1 }

pub returns-in-BvMul : goal.returns-in-BvMul
returns-in-BvMul c = let p = by_kind_too c.in-BvMul.is (fitted c.args.self.now c.args.kind c.requires.fits c.requires.front) (λ h. many_there K.BvMul h refl c.arguments-list.ensures) in record { says = p.0; placed = p.1 }

pub returns-in-BvXNor : goal.returns-in-BvXNor
returns-in-BvXNor c = record { says = by_kind c.in-BvXNor.is (fitted c.args.self.now c.args.kind c.requires.fits c.requires.front) (λ h. plain_two K.BvXNor h c.argument-x.ensures c.argument-y.ensures refl); placed = tt }

pub returns-in-BvComp : goal.returns-in-BvComp
returns-in-BvComp c = record { says = by_kind c.in-BvComp.is (fitted c.args.self.now c.args.kind c.requires.fits c.requires.front) (λ h. plain_two K.BvComp h c.argument-x.ensures c.argument-y.ensures refl); placed = tt }

pub returns-in-BvULt : goal.returns-in-BvULt
returns-in-BvULt c = record { says = by_kind c.in-BvULt.is (fitted c.args.self.now c.args.kind c.requires.fits c.requires.front) (λ h. plain_two K.BvULt h c.argument-x.ensures c.argument-y.ensures refl); placed = tt }

pub returns-in-BvSLt : goal.returns-in-BvSLt
returns-in-BvSLt c = record { says = by_kind c.in-BvSLt.is (fitted c.args.self.now c.args.kind c.requires.fits c.requires.front) (λ h. plain_two K.BvSLt h c.argument-x.ensures c.argument-y.ensures refl); placed = tt }

pub returns-in-BvShl : goal.returns-in-BvShl
returns-in-BvShl c = record { says = by_kind c.in-BvShl.is (fitted c.args.self.now c.args.kind c.requires.fits c.requires.front) (λ h. plain_two K.BvShl h c.argument-x.ensures c.argument-y.ensures refl); placed = tt }

pub returns-in-BvLShr : goal.returns-in-BvLShr
returns-in-BvLShr c = record { says = by_kind c.in-BvLShr.is (fitted c.args.self.now c.args.kind c.requires.fits c.requires.front) (λ h. plain_two K.BvLShr h c.argument-x.ensures c.argument-y.ensures refl); placed = tt }

pub returns-in-BvAShr : goal.returns-in-BvAShr
returns-in-BvAShr c = record { says = by_kind c.in-BvAShr.is (fitted c.args.self.now c.args.kind c.requires.fits c.requires.front) (λ h. plain_two K.BvAShr h c.argument-x.ensures c.argument-y.ensures refl); placed = tt }

pub returns-in-BvUDiv : goal.returns-in-BvUDiv
returns-in-BvUDiv c = record { says = by_kind c.in-BvUDiv.is (fitted c.args.self.now c.args.kind c.requires.fits c.requires.front) (λ h. plain_two K.BvUDiv h c.argument-x.ensures c.argument-y.ensures refl); placed = tt }

pub returns-in-BvURem : goal.returns-in-BvURem
returns-in-BvURem c = record { says = by_kind c.in-BvURem.is (fitted c.args.self.now c.args.kind c.requires.fits c.requires.front) (λ h. plain_two K.BvURem h c.argument-x.ensures c.argument-y.ensures refl); placed = tt }

pub returns-in-BvConcat : goal.returns-in-BvConcat
returns-in-BvConcat c = let p = by_kind_too c.in-BvConcat.is (fitted c.args.self.now c.args.kind c.requires.fits c.requires.front) (λ h. many_there K.BvConcat h refl c.arguments-list.ensures) in record { says = p.0; placed = p.1 }

pub returns-in-BvExtract : goal.returns-in-BvExtract
returns-in-BvExtract c = record { says = by_kind c.in-BvExtract.is (fitted c.args.self.now c.args.kind c.requires.fits c.requires.front) (λ h. twice_one K.BvExtract h c.index-in-BvExtract.ensures c.index-in-BvExtract-2.ensures (λ i j. refl) c.argument-x.ensures); placed = tt }

pub returns-in-SignExtend : goal.returns-in-SignExtend
returns-in-SignExtend c = record { says = by_kind c.in-SignExtend.is (fitted c.args.self.now c.args.kind c.requires.fits c.requires.front) (λ h. indexed_one K.SignExtend h c.index-in-SignExtend.ensures (λ i. refl) c.argument-x.ensures); placed = tt }

pub returns-in-ZeroExtend : goal.returns-in-ZeroExtend
returns-in-ZeroExtend c = record { says = by_kind c.in-ZeroExtend.is (fitted c.args.self.now c.args.kind c.requires.fits c.requires.front) (λ h. indexed_one K.ZeroExtend h c.index-in-ZeroExtend.ensures (λ i. refl) c.argument-x.ensures); placed = tt }

pub returns-in-RotateLeft : goal.returns-in-RotateLeft
returns-in-RotateLeft c = record { says = by_kind c.in-RotateLeft.is (fitted c.args.self.now c.args.kind c.requires.fits c.requires.front) (λ h. indexed_one K.RotateLeft h c.index-in-RotateLeft.ensures (λ i. refl) c.argument-x.ensures); placed = tt }

pub returns-in-RotateRight : goal.returns-in-RotateRight
returns-in-RotateRight c = record { says = by_kind c.in-RotateRight.is (fitted c.args.self.now c.args.kind c.requires.fits c.requires.front) (λ h. indexed_one K.RotateRight h c.index-in-RotateRight.ensures (λ i. refl) c.argument-x.ensures); placed = tt }

pub returns-in-Repeat : goal.returns-in-Repeat
returns-in-Repeat c = record { says = by_kind c.in-Repeat.is (fitted c.args.self.now c.args.kind c.requires.fits c.requires.front) (λ h. indexed_one K.Repeat h c.index-in-Repeat.ensures (λ i. refl) c.argument-x.ensures); placed = tt }
