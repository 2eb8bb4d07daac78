-- Sorts and declarations, as the code says them.
use Rattle.std.specs.Prelude.{Option, option_map}
use Rattle.text.specs.Reading.{Declared, Sorted}
use Rattle.names.specs.declared.names.Sort as sort
use Rattle.names.specs.declared.names.Declaration.{Declaration}

-- a sort as the code says it
abbrev pub told_sort : Option sort.Sort → Option Sorted
told_sort r = option_map (λ s. record { width = s.width; rest = s.rest.now }) r

-- a declaration as the code says it
abbrev pub told_declaration : Option Declaration → Option Declared
told_declaration r = option_map (λ d. record { name = d.name.now; width = d.width }) r
