-- The bits of a term, and the terms that the circuits build of them.
use Rattle.std.specs.Prelude.{Bool, cond, ℕ, zero, suc, ◌-◌, eqb, take, drop, replicate}
use mathlib.Core.List.{List, [], ◌∷◌, ◌++◌, foldl}
use Rattle.theory.specs.Kind.{False, BvBitOf, BvBbTerm, Const, kind}
use Rattle.theory.specs.Term.{Term, node, nil, cons, to_list, from_list, same_term}
use Rattle.theory.specs.Sort.{sort_width, sort_of}
use Rattle.theory.specs.Move.{bit_of, Move, moved}
use Rattle.theory.specs.Gates.{term_gates}
use Rattle.theory.specs.Circuit.{zip_with, last, ripple_carry_adder, shift_add_multiplier}

-- BvBitOf of t, k times, from bit i
unfoldable pub select : Term → ℕ → ℕ → List Term
select t i zero = []
select t i (suc k) = node (BvBitOf i) (cons t nil) ∷ select t (suc i) k

-- get_term_bits: a BvBbTerm gives its arguments; any other term, constants too, BvBitOf 0 to n - 1
unfoldable pub get_term_bits : Term → List Term
get_term_bits (node o ts) = cond (eqb (kind o) (kind BvBbTerm)) (to_list ts) (select (node o ts) 0 (sort_width (sort_of (node o ts))))

-- the term of these bits
abbrev pub bb : List Term → Term
bb ts = node BvBbTerm (from_list ts)

-- from the left; one argument is itself
unfoldable pub fold_terms : (Term → Term → Term) → List Term → Term
fold_terms g [] = node False nil
fold_terms g (t ∷ ts) = foldl g t ts

-- and, or, xor, xnor: a gate between the bits of two terms
abbrev pub zipped : (Term → Term → Term) → Term → Term → Term
zipped g a t = bb (zip_with g (get_term_bits a) (get_term_bits t))

-- add: the sum of all arguments from the left, as bits
unfoldable pub add_bits : List Term → List Term
add_bits [] = []
add_bits (t ∷ ts) = foldl (λ a u. ripple_carry_adder term_gates (node False nil) a (get_term_bits u)) (get_term_bits t) ts

-- mult: the product of two terms
abbrev pub product : Term → Term → Term
product a t = bb (shift_add_multiplier term_gates (get_term_bits a) (get_term_bits t))

-- extract: bits j to i
abbrev pub extract_bits : ℕ → ℕ → List Term → List Term
extract_bits i j xs = take (suc (i - j)) (drop j xs)

-- concat: the last argument's bits first
unfoldable pub concat_bits : List Term → List Term
concat_bits [] = []
concat_bits (t ∷ ts) = concat_bits ts ++ get_term_bits t

-- sign_extend: k copies of the top bit above
abbrev pub extend_bits : ℕ → List Term → List Term
extend_bits k xs = xs ++ replicate k (last (node False nil) xs)

-- zero_extend, rotate_left, rotate_right, repeat: the bits moved, `false` where there is none
abbrev pub moved_bits : Move → List Term → List Term
moved_bits v xs = moved v (bit_of (node False nil) xs)

-- shl, lshr, ashr: the bits of the width, as a constant of that width
abbrev pub size_bits : Term → List Term
size_bits x = let n = sort_width (sort_of x) in get_term_bits (node (Const n n) nil)

-- the term that a shift circuit builds of x and y
abbrev pub shifted : (List Term → List Term → List Term → List Term) → Term → Term → Term
shifted circuit x y = bb (circuit (size_bits x) (get_term_bits x) (get_term_bits y))

-- the divider's test: the bit is the term `false` itself
abbrev pub literally_false : Term → Bool
literally_false t = same_term t (node False nil)

-- the term that the quotient's or the remainder's circuit builds of x and y
abbrev pub divided : ((Term → Bool) → List Term → List Term → List Term) → Term → Term → Term
divided circuit x y = bb (circuit literally_false (get_term_bits x) (get_term_bits y))
