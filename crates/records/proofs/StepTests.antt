-- The tests of a step, as the code makes them one after the other.
use mathlib.Core.Path.{◌≡◌, ap, ◌∙◌}
use mathlib.Core.Bool.{Bool, true, false, cond}
use mathlib.Core.List.{List, [], ◌∷◌}
use Prim.Native.Nat.{ℕ, suc, ◌+◌, ◌-◌, ◌*◌, ◌<◌, ◌≤◌}
use native.Mathlib.Omega.{arith}
use lib.Dec.{leb}
use lib.ListN.{length, drop}
use borrow.Author.Tests.{eq-eqb, ne_eqb, lt-ltb, le-ltb}
use Rattle.theory.specs.Limit.{answer_bytes}
use Rattle.theory.specs.Record.{Bytes, word, whole, kind_of, body_of, long_kind}
use Rattle.terms.specs.Framing.{record_at}
use Rattle.terms.proofs.Parts.{length_part}
use Rattle.terms.proofs.Reading.{stands, body_there}
use Rattle.theory.specs.Codes.{first_fault, all_below, step_tests, opening_tests}

-- ---- the literal of a chain
pub one_kept : (n k : ℕ) → k < n → all_below n (k ∷ []) ≡ true
one_kept n k h = rw (lt-ltb k n h)

pub one_gone : (n k : ℕ) → n ≤ k → all_below n (k ∷ []) ≡ false
one_gone n k h = rw (le-ltb k n h)

-- ---- the first test that fails gives the code
module _ (b terms space answered : ℕ) (known : Bool) (ks : List ℕ) where
  -- a literal is not kept
  pub fault_6 : all_below terms ks ≡ false → 6 ≡ first_fault (step_tests b terms space answered known ks)
  fault_6 a = rw a

  -- there is no such rule
  pub fault_9 : all_below terms ks ≡ true → known ≡ false → 9 ≡ first_fault (step_tests b terms space answered known ks)
  fault_9 a k = rw (a, k)

  -- what the last test says
  pub fault_room : all_below terms ks ≡ true → known ≡ true → {c : ℕ} → c ≡ cond (leb (answer_bytes b * suc answered) space) 0 19
      → c ≡ first_fault (step_tests b terms space answered known ks)
  fault_room a k e = e ∙ rw (a, k)

-- ---- a record that says no term, step, chain or back: the job's first may ask for long numbers
module _ (place : ℕ) (r : Bytes) where
  -- it asks for something else
  pub opening_other : place ≡ 0 → (kind_of r ≡ long_kind → ⊥) → 4 ≡ first_fault (opening_tests place r)
  opening_other e h = rw (eq-eqb place 0 e, ne_eqb (kind_of r) long_kind h)

  -- it has a body
  pub opening_body : place ≡ 0 → kind_of r ≡ long_kind → (length (body_of r) ≡ 0 → ⊥) → 5 ≡ first_fault (opening_tests place r)
  opening_body e k h = rw (eq-eqb place 0 e, eq-eqb (kind_of r) long_kind k, ne_eqb (length (body_of r)) 0 h)

  -- it has none
  pub opening_none : place ≡ 0 → kind_of r ≡ long_kind → length (body_of r) ≡ 0 → 0 ≡ first_fault (opening_tests place r)
  opening_none e k h = rw (eq-eqb place 0 e, eq-eqb (kind_of r) long_kind k, eq-eqb (length (body_of r)) 0 h)

-- the length of its body
pub body_length : (job : Bytes) (at n : ℕ) → whole (drop at job) ≡ true → n ≡ word (drop at job) → length (body_of (record_at job at)) ≡ n - 2
body_length job at n w e =
    let s = stands job at w in
    let low = s.low in
    let end = s.end in
    ap length (body_there s e) ∙ length_part job (at + 4) (n - 2) (omega arith)
