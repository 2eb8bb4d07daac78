-- Kinds of terms as the code says them, and what a text declares.
use Rattle.std.specs.Prelude.{List, [], ◌∷◌, ℕ, Option, option_map}
use Rattle.theory.specs.Kind.{Op, True, False}
use Rattle.theory.specs.Optional.{either}
use Rattle.theory.specs.Record.{Bytes, Shape, plain, indexed, twice_indexed, valued}
use Rattle.terms.specs.Numbered.{shape}
use Rattle.text.specs.Reading.{Declared, Number, a_number}
use Rattle.text.specs.Convert.{lines}
use Rattle.text.specs.Claim.{declared_by}
use Rattle.names.specs.declared.kinds.Index.{Index}
use Rattle.names.specs.declared.kinds.Operator.{Operator}
use Rattle.names.specs.declared.kinds.Operator.TheVariants as O
use Rattle.names.specs.declared.kinds.Indices.{Indices}
use Rattle.names.specs.declared.kinds.Indices.TheVariants as F

-- a kind of that shape, with these numbers in it
abbrev pub shaped : Shape → ℕ → ℕ → Op
shaped (plain o) x y = o
shaped (indexed f) x y = f x
shaped (twice_indexed f) x y = f x y
shaped (valued f) x y = f x y

-- theory's kind of what the code says
abbrev pub op_of : Operator → Op
op_of O.True = True
op_of O.False = False
op_of (O.Of k x y) = shaped (shape k) x y

-- the family of a shape
abbrev pub family_of : Shape → Indices
family_of (plain o) = F.Plain
family_of (indexed f) = F.Indexed
family_of (twice_indexed f) = F.TwiceIndexed
family_of (valued f) = F.Valued

-- what lines declare
unfoldable pub declarations : List Bytes → List Declared
declarations [] = []
declarations (l ∷ ls) = either (declarations ls) (λ d. d ∷ declarations ls) (declared_by l)

-- what the declarations of a text declare
abbrev pub declared_in : Bytes → List Declared
declared_in text = declarations (lines text)

-- a number as the code says it
abbrev pub told_index : Option Index → Option Number
told_index r = option_map (λ i. a_number i.number i.rest.now) r

-- a kind, where one was read
abbrev pub told_op : Option Operator → Option Op
told_op r = option_map op_of r
