-- The pass, upwards: the cells so far are sound, and those above are as they were.
use mathlib.Core.Path.{◌≡◌, refl, sym, ap, subst, ◌∙◌}
use mathlib.Core.Bool.{Bool, true, false, true≢false}
use mathlib.Core.List.{List, map}
use Prim.Native.Nat.{ℕ, suc, ◌+◌, ◌-◌, ◌*◌, ◌≤◌, ◌<◌}
use native.Mathlib.Omega.{arith}
use lib.Dec.{T, eqb, leb, leb→le}
use lib.Ieee.Fits.{and_l}
use lib.ListN.{length, take, drop}
use borrow.Author.Tests.{eqb-true, eqb-false}
use Rattle.theory.specs.Limit.{first_terms}
use Rattle.theory.specs.Term.{Term}
use Rattle.theory.specs.Sort.{Sort, sort_of, sort_width}
use Rattle.theory.specs.Record.{Bytes}
use Rattle.theory.specs.Plain.{Plain}
use Rattle.theory.specs.Places.{tree_at}
use Rattle.theory.proofs.Sorts.{sized, sorts_sized}
use Rattle.store.specs.Store.{listed}
use Rattle.store.specs.Sorts.{sort_read}
use Rattle.store.specs.declared.sorts.Sort.{Sort as Read}
use Rattle.store.specs.declared.sorts.Sort.TheVariants as R
use Rattle.store.specs.contracts.sorts.SortPartialEq.TheImpl as Derived
use Rattle.sweeps.specs.Variables.{bits_in}
use Rattle.sweeps.specs.Known.{Known, known_byte, of_byte}
use Rattle.sweeps.specs.Calls.{cell_bytes}
use Rattle.marks.specs.Marks.{mark_of, Next}
use Rattle.marks.proofs.Threading.{jump}
use Rattle.evaluation.specs.Cells.{cell_at, stored_cell}
use Rattle.passes.proofs.CellLaws.{length_cell, cell_here, cell_other}
use Rattle.ternary.specs.Bits.{Offset, Tells, Sound, KnownOn}
use Rattle.partial.specs.Passing.{Ready, Offsets, Passed}

-- what a cell tells, by its number
module _ {input : Term → List Known} {list : Plain} {inputs values now : Bytes} {p : ℕ} (e : cell_at now p ≡ cell_at values p) where
  offset_moved : Offset input list inputs values p → Offset input list inputs now p
  offset_moved o = record {
    fits = subst (λ (k : ℕ). k + bits_in (tree_at list p) ≤ length inputs) (sym e) o.fits;
    bits_are = o.bits_are ∙ ap (λ (k : ℕ). map of_byte (take (bits_in (tree_at list p)) (drop k inputs))) (sym e);
  }

  tells_moved : Tells input list inputs values p → Tells input list inputs now p
  tells_moved t = record { bool_is = λ z. e ∙ t.bool_is z; variable_is = λ z v. offset_moved (t.variable_is z v) }

-- ---- is it a Bool?
bool_has : (r : Read) {s : Sort} → sort_read r ≡ s → (Derived.ghosts).eq r R.Bool ≡ true → sort_width s ≡ 0
bool_has R.Bool e f = sym (ap sort_width e)
bool_has (R.Bv w) e f = absurd (true≢false (sym f))

other_has : (r : Read) {s : Sort} → sort_read r ≡ s → T (sized s) → (Derived.ghosts).eq r R.Bool ≡ false → sort_width s ≡ 0 → ⊥
other_has R.Bool e z f h = absurd (true≢false f)
other_has (R.Bv w) {s} e z f h =
    let a = leb→le 1 w (and_l (leb 1 w) (leb w 64) (subst (λ (x : Sort). T (sized x)) (sym e) z)) in
    let b = ap sort_width e in
    omega (arith, a, b, h)

module _ (r : Read) (t : Term) (e : sort_read r ≡ sort_of t) {b : Bool} (g : b ≡ (Derived.ghosts).eq r R.Bool) where
  pub bool_width : b ≡ true → sort_width (sort_of t) ≡ 0
  bool_width f = bool_has r e (sym g ∙ f)

  pub other_width : b ≡ false → sort_width (sort_of t) ≡ 0 → ⊥
  other_width f = other_has r e (sorts_sized t) (sym g ∙ f)

-- ---- the loop
pub record Knowing (job work : Bytes) (n : ℕ) (inputs : Bytes) (asked : ℕ) (values now : Bytes) (k : ℕ) : Type 0 where
  pub ready : Ready job work n values asked
  pub most : k ≤ suc asked
  pub length_is : length now ≡ length values
  pub above : (p : ℕ) → k ≤ p → cell_at now p ≡ cell_at values p
  pub sound : (input : Term → List Known) → Offsets input (listed job work n) job work inputs values → Sound input (listed job work n) job work inputs now k

module _ {job work : Bytes} {n : ℕ} {inputs : Bytes} {asked : ℕ} {values : Bytes} where
  pub knowing_start : Ready job work n values asked → Knowing job work n inputs asked values values 0
  knowing_start r = record { ready = r; most = omega arith; length_is = refl; above = λ p l. refl; sound = λ input o j l. absurd (omega arith) }

  module _ {now : Bytes} {k : ℕ} (s : Knowing job work n inputs asked values now k) (l : k ≤ asked) where
    pub know_low : k < first_terms + n
    know_low = omega (arith, s.ready.marked.low)

    list_low : k < length (listed job work n)
    list_low = omega (arith, s.ready.closed.shelf.count, know_low)

    pub know_cell : k * cell_bytes + cell_bytes ≤ length now
    know_cell = omega (arith, s.ready.room, s.length_is, list_low)

    lower : (p : ℕ) → p < k + 1 → (p ≡ k → ⊥) → p < k
    lower p h f = omega arith

    by_place : (P : ℕ → Type 0) → P k → ((p : ℕ) → (p ≡ k → ⊥) → P p) → (p : ℕ) → P p
    by_place P v w p = to (eqb p k) (eqb-true p k) (eqb-false p k)
      where
        to : (c : Bool) → (c ≡ true → p ≡ k) → (c ≡ false → p ≡ k → ⊥) → P p
        to true y u = subst P (sym (y refl)) v
        to false y u = w p (u refl)

    -- a Bool's bit is stored
    pub know_turn : T (mark_of job work k) → sort_width (sort_of (tree_at (listed job work n) k)) ≡ 0 → {b : Known} {v : ℕ} {after : Bytes} → v < 18446744073709551616
        → KnownOn (listed job work n) job work inputs now k b → v ≡ known_byte b → after ≡ stored_cell now k v → Knowing job work n inputs asked values after (k + 1)
    know_turn t d {b} {v} {after} f g said e = subst (λ (m : Bytes). Knowing job work n inputs asked values m (k + 1)) (sym e) (record {
      ready = s.ready;
      most = omega arith;
      length_is = length_cell now k v know_cell ∙ s.length_is;
      above = λ p h. cell_other now k v know_cell p (λ z. absurd (omega arith)) ∙ s.above p (omega arith);
      sound = λ input o. by_place (λ p. p < k + 1 → T (mark_of job work p) → Tells input (listed job work n) inputs (stored_cell now k v) p)
          (λ h m. record {
            bool_is = λ z. cell_here now k v know_cell f ∙ said ∙ ap known_byte (g input (s.sound input o) (λ i. offset_moved (s.above k (omega arith)) (o k list_low m i)));
            variable_is = λ z. absurd (z d);
          })
          (λ p q h m. tells_moved (cell_other now k v know_cell p q) (s.sound input o p (lower p h q) m));
    })

    -- any other term is passed by
    pub know_over : (T (mark_of job work k) → sort_width (sort_of (tree_at (listed job work n) k)) ≡ 0 → ⊥) → Knowing job work n inputs asked values now (k + 1)
    know_over b = record {
      ready = s.ready;
      most = omega arith;
      length_is = s.length_is;
      above = λ p h. s.above p (omega arith);
      sound = λ input o. by_place (λ p. p < k + 1 → T (mark_of job work p) → Tells input (listed job work n) inputs now p)
          (λ h m. record { bool_is = λ z. absurd (b m z); variable_is = λ z i. offset_moved (s.above k (omega arith)) (o k list_low m i) })
          (λ p q h m. s.sound input o p (lower p h q) m);
    }

  -- on to the next marked place
  pub know_next : {now : Bytes} {k q : ℕ} → Knowing job work n inputs asked values now (k + 1) → Next job work asked k q → Knowing job work n inputs asked values now q
  know_next {now} {k} {q} s e =
      jump (Knowing job work n inputs asked values now) (λ r. mark_of job work r ≡ false) q
      (λ j l m i. know_over i (omega (arith, e.most)) (λ t. absurd (subst T m t))) (q - (k + 1)) (k + 1) (omega (arith, e.above)) (λ r a b. e.between r (omega arith) b) s

  pub know_done : {now : Bytes} {k : ℕ} → Knowing job work n inputs asked values now k → asked < k → Passed (listed job work n) job work inputs asked values now
  know_done {now} {k} s l = record { length_is = s.length_is; sound = λ input o j h m. s.sound input o j (omega arith) m }
