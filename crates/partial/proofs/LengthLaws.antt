-- A bit-level term has as many bits as its sort says.
use mathlib.Core.Path.{◌≡◌, refl, ap, ◌∙◌}
use mathlib.Core.Bool.{Bool, true, false}
use mathlib.Core.List.{List, [], ◌∷◌, map}
use Prim.Native.Nat.{ℕ, zero, suc}
use lib.Dec.{T}
use lib.ListN.{length}
use Rattle.theory.specs.Kind.{Op, True, False, BoolVar, BvVar, Const, Not, And, Or, Xor, Equals, Ite, BvBitOf, BvBbTerm}
use Rattle.theory.specs.Term.{Term, Terms, node, nil, cons, fold, folds}
use Rattle.theory.specs.Sort.{bool, bv, guard, good, sort_op, sort_of, sorts_of}
use Rattle.sweeps.specs.Variables.{is_variable, sort_bits, bits_in}
use Rattle.sweeps.specs.Known.{Known, lead, of_bool, known, known_op, number_bits}
use Rattle.ternary.specs.Bits.{bit_kind_in}

bool_bits : (b : Bool) → T (good (guard b bool)) → 1 ≡ sort_bits (guard b bool)
unfolding guard
bool_bits true g = refl
bool_bits false g = absurd g

wide_bits : (b : Bool) (m : ℕ) → T (good (guard b (bv m))) → m ≡ sort_bits (guard b (bv m))
unfolding guard
wide_bits true m g = refl
wide_bits false m g = absurd g

length_const : (x k m : ℕ) → length (map of_bool (number_bits x k m)) ≡ m
length_const x k zero = refl
length_const x k (suc m) = ap suc (length_const x (suc k) m)

length_leads : (bs : List (List Known)) → length (map lead bs) ≡ length bs
length_leads [] = refl
length_leads (b ∷ bs) = ap suc (length_leads bs)

length_folds : {A B : Type 0} (f : Op → List A → A) (g : Op → List B → B) (ts : Terms) → length (folds f ts) ≡ length (folds g ts)
unfolding fold
length_folds f g nil = refl
length_folds f g (cons t ts) = ap suc (length_folds f g ts)

pub length_known : (input : Term → List Known) (t : Term) → T (bit_kind_in t) → T (good (sort_of t)) → (T (is_variable t) → length (known input t) ≡ bits_in t) → length (known input t) ≡ bits_in t
unfolding fold known_op
length_known input (node True ts) h g v = bool_bits _ g
length_known input (node False ts) h g v = bool_bits _ g
length_known input (node (BoolVar x) ts) h g v = v tt
length_known input (node (BvVar m x) ts) h g v = v tt
length_known input (node (Const m x) ts) h g v = length_const x 0 m ∙ wide_bits _ m g
length_known input (node Not ts) h g v = bool_bits _ g
length_known input (node And ts) h g v = bool_bits _ g
length_known input (node Or ts) h g v = bool_bits _ g
length_known input (node Xor ts) h g v = bool_bits _ g
length_known input (node Equals ts) h g v = bool_bits _ g
length_known input (node Ite ts) h g v = bool_bits _ g
length_known input (node (BvBitOf j) ts) h g v = bool_bits _ g
length_known input (node BvBbTerm ts) h g v = length_leads (folds (known_op input) ts) ∙ length_folds (known_op input) sort_op ts ∙ wide_bits _ (length (sorts_of ts)) g
length_known input _ h g v = elim h [ ]
