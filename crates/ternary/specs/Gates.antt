-- Bits of which some are not known, and And and Or under one name.
use Rattle.std.specs.Prelude.{Bool, true, false, List, Option, None as none, Some as some}
use Rattle.sweeps.specs.Known.{Known, unknown, of_bool, and_known, or_known}

-- the bit, where there is one; none where it is not known
abbrev pub bit_of : Option Bool → Known
bit_of none = unknown
bit_of (some b) = of_bool b

-- of bits in a row: Or where the flag is set, else And
abbrev pub row_known : Bool → List Known → Known
row_known true = or_known
row_known false = and_known
