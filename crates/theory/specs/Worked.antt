-- Values by document 01's Meaning, worked by hand, of what no held step speaks of: bvashr, bvudiv, bvurem, a Bool variable, an Or of three.
-- x and y are variables.
use Rattle.std.specs.Prelude.{Bool, true, false, List, [], ◌∷◌, ℕ, eqb}
use Rattle.theory.specs.Kind.{Op, Or, BoolVar, BvAShr, BvUDiv, BvURem}
use Rattle.theory.specs.Term.{Term, node, nil, from_list, two}
use Rattle.theory.specs.Value.{Assign, truth, number, same, value}
use Rattle.theory.specs.Specimen.{x, y, x_and_y}

-- at width n the operation on a and b has the value v
abbrev pub comes_to : Op → ℕ → ℕ → ℕ → ℕ → Bool
comes_to o n a b v = same (value (x_and_y a b) (two o (x n) (y n))) (number n v)

-- Bool variable k alone is true
abbrev pub only : ℕ → Assign
only k = record { bool_at = eqb k; number_at = λ n v. (x_and_y 0 0).number_at n v; below = λ n v. (x_and_y 0 0).below n v }

-- Bool variable k
abbrev pub bool_variable : ℕ → Term
bool_variable k = node (BoolVar k) nil

-- the Or of Bool variables 0, 1 and 2
abbrev pub or_of_three : Term
or_of_three = node Or (from_list (bool_variable 0 ∷ bool_variable 1 ∷ bool_variable 2 ∷ []))

-- where Bool variable k alone is true, t is b
abbrev pub told : ℕ → Term → Bool → Bool
told k t b = same (value (only k) t) (truth b)

-- the worked values
abbrev pub worked : List Bool
worked =
    -- by 0 all ones, and x
    comes_to BvUDiv 2 1 0 3 ∷ comes_to BvUDiv 3 0 0 7 ∷ comes_to BvURem 2 1 0 1 ∷ comes_to BvURem 3 6 0 6
    -- rounded down, and what is left
    ∷ comes_to BvUDiv 3 7 2 3 ∷ comes_to BvURem 3 7 2 1 ∷ comes_to BvUDiv 3 2 7 0 ∷ comes_to BvURem 3 2 7 2
    -- copies of the top bit come in; of n or more only copies
    ∷ comes_to BvAShr 3 4 0 4 ∷ comes_to BvAShr 3 4 1 6 ∷ comes_to BvAShr 3 5 2 7 ∷ comes_to BvAShr 3 4 3 7 ∷ comes_to BvAShr 3 4 7 7
    ∷ comes_to BvAShr 3 3 1 1 ∷ comes_to BvAShr 3 3 3 0
    -- both ends of 64 bits
    ∷ comes_to BvAShr 64 9223372036854775808 63 18446744073709551615 ∷ comes_to BvUDiv 64 18446744073709551615 0 18446744073709551615
    ∷ comes_to BvURem 64 18446744073709551615 10 5
    -- a Bool variable has its own value, and one true argument is enough, wherever it stands
    ∷ told 1 (bool_variable 1) true ∷ told 1 (bool_variable 0) false
    ∷ told 0 or_of_three true ∷ told 1 or_of_three true ∷ told 2 or_of_three true ∷ told 3 or_of_three false ∷ []
