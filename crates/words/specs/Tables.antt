-- Tables of words, and options of the code.
use Rattle.std.specs.Prelude.{◌≡◌, cond, List, [], ◌∷◌}
use Rattle.std.specs.Borrow.{Bor}
use Rattle.std.specs.Prelude.{Option, None as none, Some as some, option_map}
use Rattle.theory.specs.Term.{same_numbers}
use Rattle.theory.specs.Record.{Bytes}

-- the value beside a word
abbrev pub beside : {A : Type 0} → Bytes → List (Bor Bytes × A) → Option A
beside w [] = none
beside w (r ∷ rs) = cond (same_numbers w r.0.now) (some r.1) (beside w rs)

-- the code's option is what is expected, and its value has a property
pub record Reads {A B : Type 0} (tell : A → B) (Fits : A → Type 0) (expected : Option B) (r : Option A) : Type 0 where
  pub is : option_map tell r ≡ expected
  pub fits : (a : A) → r ≡ some a → Fits a

-- what a search of a table gives
pub record Beside {A : Type 0} (w : Bytes) (rs : List (Bor Bytes × A)) (r : Option A) : Type 0 where
  pub is : r ≡ beside w rs
