-- A number that the match on the rules takes by none of its arms is no rule's.
use mathlib.Core.Path.{◌≡◌, refl, subst}
use mathlib.Core.List.{List, [], ◌∷◌}
use Rattle.std.specs.Prelude.{None as none}
use Prim.Native.Nat.{ℕ, zero, suc, ◌+◌}
use native.Mathlib.Omega.{arith}
use Rattle.std.specs.Prelude.{slice_get as get_elem?}
use Rattle.theory.specs.RuleTable.{rules, rule_at}

-- n is not a, not a + 1, and so on, as many as the list is long
abbrev pub Past : {A : Type 0} → ℕ → ℕ → List A → Type 0
Past n a [] = Unit {0}
Past n a (x ∷ xs) = (n ≡ a → ⊥) × Past n (suc a) xs

past_none : {A : Type 0} (xs : List A) (a k : ℕ) → Past (a + k) a xs → get_elem? xs k ≡ none
past_none [] a k p = refl
past_none (x ∷ xs) a zero p = absurd (p.0 (omega arith))
past_none (x ∷ xs) a (suc k) p = past_none xs (suc a) k (subst (λ (n : ℕ). Past n (suc a) xs) (let e : a + suc k ≡ suc a + k = omega arith in e) p.1)

-- no other number is a rule's
pub no_rule : (n : ℕ) → Past n 1 rules → rule_at n ≡ none
no_rule zero p = refl
no_rule (suc k) p = past_none rules 1 k (subst (λ (n : ℕ). Past n 1 rules) (let e : suc k ≡ 1 + k = omega arith in e) p)
