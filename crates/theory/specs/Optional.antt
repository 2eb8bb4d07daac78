-- Values that may be missing.
use Rattle.std.specs.Prelude.{Bool, true, false, List, [], ◌∷◌}
use Rattle.std.specs.Prelude.{Option, None as none, Some as some}

-- it is there
abbrev pub is_some : {A : Type 0} → Option A → Bool
is_some none = false
is_some (some a) = true

-- f of it, and d where it is missing
abbrev pub either : {A B : Type 0} → B → (A → B) → Option A → B
either d f none = d
either d f (some a) = f a

-- one more before a list
abbrev pub cons_some : {A : Type 0} → Option A → Option (List A) → Option (List A)
cons_some none q = none
cons_some (some a) none = none
cons_some (some a) (some bs) = some (a ∷ bs)

-- all of them, where none is missing
abbrev pub collect : {A : Type 0} → List (Option A) → Option (List A)
collect [] = some []
collect (p ∷ ps) = cons_some p (collect ps)
