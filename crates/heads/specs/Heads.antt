-- How a term begins, as the code says it.
use Rattle.std.specs.Prelude.{Option, option_map}
use Rattle.text.specs.Reading.{Head, leaf, branch}
use Rattle.text.specs.Reading as R
use Rattle.names.specs.Kinds.{op_of}
use Rattle.heads.specs.declared.heads.Operation.{Operation}
use Rattle.heads.specs.declared.heads.Start.{Start}
use Rattle.heads.specs.declared.heads.Start.TheVariants.{Leaf, Branch}

-- how a term begins, as the code says it
abbrev pub told_head : Start → Head
told_head (Leaf k rest) = leaf (op_of k) rest.now
told_head (Branch k rest) = branch (op_of k) rest.now

-- how a term begins, where one does
abbrev pub told_start : Option Start → Option Head
told_start r = option_map told_head r

-- an operation, where one was read
abbrev pub told_operation : Option Operation → Option R.Operation
told_operation r = option_map (λ o. R.operation (op_of o.operator) o.rest.now) r
