-- Demand 3 shuts out a false "held". This job says (= true false), and a step claims it: an outcome that answers it with code 0 does not meet
-- demand 3, whatever its rule and depth.
use mathlib.Core.Path.{◌≡◌, refl, sym, ap, subst, ◌∙◌}
use mathlib.Core.List.{List, [], ◌∷◌}
use Rattle.std.specs.Prelude.{Option, Some as some}
use Prim.Native.Nat.{ℕ, zero, suc, ◌<◌}
use native.Mathlib.Omega.{arith}
use Rattle.std.specs.Prelude.{slice_get as get_elem?}
use Rattle.theory.specs.Limit.{rack}
use Rattle.theory.specs.Kind.{True, False, Equals}
use Rattle.theory.specs.Term.{Term, node, nil, two, fold}
use Rattle.theory.specs.Value.{Assign, value, meaning}
use Rattle.theory.specs.Record.{Bytes, records_of, read, number_length, cut, shape_of, claim_of}
use Rattle.theory.specs.Plain.{plain_after, at_place, feed}
use Rattle.theory.specs.Answer.{Answer}
use Rattle.theory.specs.Demand.{Held, Demand3}
use Rattle.theory.specs.Specimen.{x_and_y}
use Rattle.theory.proofs.Basics.{none_some, some_inj}

-- Equals of `true` and `false`; a step of rule 2 on it
abbrev job : Bytes
job = 0x06 ∷ 0x00 ∷ 0x18 ∷ 0x00 ∷ 0x00 ∷ 0x00 ∷ 0x01 ∷ 0x00 ∷ 0x06 ∷ 0x00 ∷ 0x64 ∷ 0x00 ∷ 0x02 ∷ 0x00 ∷ 0x02 ∷ 0x00 ∷ []

-- the sides of an equation
left_is : (s t l r : Term) → two Equals s t ≡ two Equals l r → s ≡ l
left_is s t l r e = cc

right_is : (s t l r : Term) → two Equals s t ≡ two Equals l r → t ≡ r
right_is s t l r e = cc

-- `true` and `false` differ under every assignment
never : (ρ : Assign) → value ρ (node True nil) ≡ value ρ (node False nil) → ⊥
unfolding fold meaning
never ρ e = let z : ◌≡◌ {A = ℕ} 0 1 = cc in omega arith

literals_are : (n : ℕ) (ks : List ℕ) → ◌≡◌ {A = Option (ℕ × List ℕ)} (some (2, 2 ∷ [])) (some (n, ks)) → 2 ∷ [] ≡ ks
literals_are n ks e = ap (λ (p : ℕ × List ℕ). p.1) (some_inj (2, 2 ∷ []) (n, ks) e)

place_is : (p : ℕ) → 2 ∷ [] ≡ p ∷ [] → 2 ≡ p
place_is p e = cc

not_held : Held (plain_after 1 job) (2 ∷ []) → ⊥
unfolding cut shape_of read number_length feed
not_held h =
    let p : 2 ≡ h.place = place_is h.place h.one_literal in
    let e : at_place (plain_after 1 job) 2 ≡ some (two Equals h.left h.right) = ap (at_place (plain_after 1 job)) p ∙ h.on_list in
    let f : two Equals (node True nil) (node False nil) ≡ two Equals h.left h.right = some_inj _ _ e in
    let ρ = x_and_y 0 0 in
    never ρ (ap (value ρ) (left_is _ _ _ _ f) ∙ h.equal ρ ∙ sym (ap (value ρ) (right_is _ _ _ _ f)))

at_step : (m : ℕ) (bytes : Bytes) (n : ℕ) (ks : List ℕ) → m < 2 → get_elem? (records_of job) m ≡ some bytes → claim_of (read (number_length job) bytes) ≡ some (n, ks)
    → Held (plain_after m job) ks → ⊥
unfolding cut shape_of read number_length
at_step zero bytes n ks l s r h = none_some (n, ks) (ap (λ (bs : Bytes). claim_of (read (number_length job) bs)) (some_inj _ _ s) ∙ r)
at_step (suc zero) bytes n ks l s r h =
    not_held (subst (Held (plain_after 1 job)) (sym (literals_are n ks (ap (λ (bs : Bytes). claim_of (read (number_length job) bs)) (some_inj _ _ s) ∙ r))) h)
at_step (suc (suc m)) bytes n ks l s r h = absurd (omega arith)

pub shut_out_held : (a : Answer) → a.code ≡ 0 → Demand3 rack job 64 64 2 (a ∷ []) → ⊥
shut_out_held a c d =
    let k = d.each 0 a refl in
    at_step k.m k.bytes a.rule k.literals k.m_done k.reached.stands k.is_step (k.held c)
