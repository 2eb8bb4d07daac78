-- Indices; bvN.
use mathlib.Core.Path.{◌≡◌, refl, sym, ap, ◌∙◌}
use mathlib.Core.Bool.{Bool, true, false, cond}
use mathlib.Core.List.{[], ◌∷◌}
use Rattle.std.specs.Prelude.{Option, None as none, Some as some}
use Prim.Native.Nat.{ℕ, ◌<◌, ◌≤◌}
use native.Mathlib.Omega.{arith}
use lib.Dec.{eqb}
use lib.ListN.{length, drop, get_or}
use borrow.Author.Tests.{eq-eqb, ne_eqb}
use Rattle.theory.specs.Record.{Bytes}
use Rattle.text.specs.Reading.{bind, below, number_end, numeral, Number, a_number, Word, first_word, index, past, bv_value}
use Rattle.words.proofs.ReadLaws.{told_none, told_some}
use Rattle.names.specs.declared.kinds.Index.{Index}
use Rattle.names.specs.Kinds.{told_index}

-- ---- an index
after_word : (bs : Bytes) {w : Word} → first_word bs ≡ some w → index bs ≡ bind (below number_end (numeral w.name)) (λ n. some (a_number n w.rest))
after_word bs e = ap (λ (q : Option Word). bind q (λ w. bind (below number_end (numeral w.name)) (λ n. some (a_number n w.rest)))) e

pub index_none : (bs : Bytes) → first_word bs ≡ none → none ≡ index bs
index_none bs e = sym (ap (λ (q : Option Word). bind q (λ w. bind (below number_end (numeral w.name)) (λ n. some (a_number n w.rest)))) e)

module _ (bs : Bytes) {w : Word} (e : first_word bs ≡ some w) where
  pub index_bad : {q : Option ℕ} → q ≡ below number_end (numeral w.name) → q ≡ none → none ≡ index bs
  index_bad g h = sym (after_word bs e ∙ ap (λ (q : Option ℕ). bind q (λ n. some (a_number n w.rest))) (sym g ∙ h))

  pub index_is : {q : Option ℕ} {n : ℕ} → q ≡ below number_end (numeral w.name) → q ≡ some n → some (a_number n w.rest) ≡ index bs
  index_is g h = sym (after_word bs e ∙ ap (λ (q : Option ℕ). bind q (λ n. some (a_number n w.rest))) (sym g ∙ h))

module _ {q : Option Number} where
  pub no_index : (r : Option Index) → told_index r ≡ q → r ≡ none → q ≡ none
  no_index r h e = told_none (λ i. a_number i.number i.rest.now) r h e

  pub some_index : (r : Option Index) → told_index r ≡ q → {i : Index} → r ≡ some i → q ≡ some (a_number i.number i.rest.now)
  some_index r h e = told_some (λ i. a_number i.number i.rest.now) r h e

-- ---- the value of bvN
pub bv_short : (w : Bytes) → length w < 2 → bv_value w ≡ none
bv_short [] h = refl
bv_short (a ∷ []) h = go (eqb 98 a)
  where
    go : (b : Bool) → bind (cond b (past (118 ∷ []) []) none) numeral ≡ none
    go true = refl
    go false = refl
bv_short (a ∷ b ∷ w) h = absurd (omega arith)

pub bv_first : (w : Bytes) → 2 ≤ length w → (get_or w 0 0 ≡ 98 → ⊥) → bv_value w ≡ none
bv_first [] h f = refl
bv_first (a ∷ w) h f = rw (ne_eqb 98 a (λ e. f (sym e)))

pub bv_second : (w : Bytes) → 2 ≤ length w → get_or w 0 0 ≡ 98 → (get_or w 1 0 ≡ 118 → ⊥) → bv_value w ≡ none
bv_second [] h e f = absurd (omega arith)
bv_second (a ∷ []) h e f = absurd (omega arith)
bv_second (a ∷ b ∷ w) h e f = rw (eq-eqb 98 a (sym e), ne_eqb 118 b (λ d. f (sym d)))

pub bv_rest : (w : Bytes) → 2 ≤ length w → get_or w 0 0 ≡ 98 → get_or w 1 0 ≡ 118 → bv_value w ≡ numeral (drop 2 w)
bv_rest [] h e f = absurd (omega arith)
bv_rest (a ∷ []) h e f = absurd (omega arith)
bv_rest (a ∷ b ∷ w) h e f = rw (eq-eqb 98 a (sym e), eq-eqb 118 b (sym f))
