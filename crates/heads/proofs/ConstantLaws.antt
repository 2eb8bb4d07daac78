-- Constants.
use mathlib.Core.Path.{◌≡◌, refl, ap, ◌∙◌}
use Rattle.std.specs.Prelude.{Option, None as none, Some as some}
use Prim.Native.Nat.{ℕ, ◌<◌, ◌≤◌}
use Rattle.theory.specs.Kind.{Op, Const}
use Rattle.text.specs.Reading.{bind, below, number_end, value_end, constant}
use Rattle.words.proofs.NumberLaws.{below_over, below_under}

-- ---- constants
abbrev with_value : Option ℕ → Option ℕ → Option Op
with_value v q = bind q (λ n. bind (below value_end v) (λ x. some (Const n x)))

abbrev with_width : ℕ → Option ℕ → Option Op
with_width n q = bind q (λ x. some (Const n x))

pub wide : (n : ℕ) (v : Option ℕ) → number_end ≤ n → constant (some n) v ≡ none
wide n v h = ap (with_value v) (below_over number_end n h)

bind_none : (q : Option ℕ) → ◌≡◌ {A = Option Op} (bind q (λ n. none)) none
bind_none none = refl
bind_none (some n) = refl

pub no_value : (p v : Option ℕ) → below value_end v ≡ none → constant p v ≡ none
no_value p v e = ap (λ (x : Option ℕ). bind (below number_end p) (λ n. with_width n x)) e ∙ bind_none (below number_end p)

pub const_is : {n x : ℕ} (v : Option ℕ) → n < number_end → below value_end v ≡ some x → constant (some n) v ≡ some (Const n x)
const_is {n} {x} v h e = ap (with_value v) (below_under number_end n h) ∙ ap (with_width n) e
