-- A step line.
use mathlib.Core.Path.{◌≡◌, refl, sym, ap, ◌∙◌}
use mathlib.Core.Bool.{Bool, true}
use mathlib.Core.List.{List}
use Rattle.std.specs.Prelude.{Option, None as none, Some as some}
use Prim.Native.Nat.{ℕ}
use Rattle.theory.specs.Record.{Bytes}
use Rattle.text.specs.Reading as R
use Rattle.text.specs.Reading.{bind, Declared, Word, first_word, is_symbol, step_front, step_back, read_term, max_nesting}
use Rattle.text.specs.Writing.{Placed, placed, write, put_step}
use Rattle.text.specs.Convert.{State, state, take_step}
use Rattle.writer.specs.declared.places.Writer.{Writer}
use Rattle.writer.specs.Written as W
use Rattle.writer.specs.Written.{job_of}
use Rattle.reader.specs.Reader.{Got, got, read_write}
use Rattle.entries.specs.Steps.{told_step}

-- ---- the step
abbrev put_so : List Declared → ℕ → ℕ → Placed → Option State
put_so vars room rule p = bind (put_step room rule p) (λ j. some (state vars true j))

abbrev with_rule : List Declared → ℕ → Got → Option ℕ → Option State
with_rule vars room g q = bind q (λ rule. put_so vars room rule (placed g.number g.job))

abbrev with_literal : List Declared → ℕ → Option Got → Option State
with_literal vars room q = bind q (λ g. with_rule vars room g (step_back g.rest))

abbrev with_front : List Declared → ℕ → Bytes → Option Bytes → Option State
with_front vars room job q = bind q (λ a. with_literal vars room (read_write max_nesting vars room a job))

swap : (vars : List Declared) (room : ℕ) (rest : Bytes) (p : Option ℕ) (q : Option Placed)
    → bind p (λ rule. bind q (λ x. put_so vars room rule x)) ≡ bind (bind q (λ x. some (got x.number rest x.job))) (λ g. with_rule vars room g p)
swap vars room rest none none = refl
swap vars room rest none (some x) = refl
swap vars room rest (some r) none = refl
swap vars room rest (some r) (some x) = refl

literal_so : (vars : List Declared) (room : ℕ) (job : Bytes) (q : Option R.Read)
    → bind q (λ t. bind (step_back t.rest) (λ rule. bind (write t.term room job) (λ p. put_so vars room rule p)))
    ≡ with_literal vars room (bind q (λ t. bind (write t.term room job) (λ p. some (got p.number t.rest p.job))))
literal_so vars room job none = refl
literal_so vars room job (some t) = go (write t.term room job)
  where
    go : (q : Option Placed) → bind (step_back t.rest) (λ rule. bind q (λ p. put_so vars room rule p))
        ≡ with_literal vars room (bind q (λ p. some (got p.number t.rest p.job)))
    go none = bind_none (step_back t.rest)
      where
        bind_none : (q : Option ℕ) → ◌≡◌ {A = Option State} (bind q (λ n. none)) none
        bind_none none = refl
        bind_none (some n) = refl
    go (some x) = refl

whole_so : (vars : List Declared) (room : ℕ) (job : Bytes) (q : Option Bytes)
    → bind q (λ a. bind (read_term max_nesting vars a) (λ t. bind (step_back t.rest) (λ rule. bind (write t.term room job) (λ p. put_so vars room rule p))))
    ≡ with_front vars room job q
unfolding read_write
whole_so vars room job none = refl
whole_so vars room job (some a) = literal_so vars room job (read_term max_nesting vars a)

step_is : (vars : List Declared) (begun : Bool) (room : ℕ) (job bs : Bytes) → take_step room (state vars begun job) bs ≡ with_front vars room job (step_front bs)
unfolding take_step
step_is vars begun room job bs = whole_so vars room job (step_front bs)

module _ (vars : List Declared) (begun : Bool) (room : ℕ) (job bs : Bytes) where
  pub step_1 : step_front bs ≡ none → take_step room (state vars begun job) bs ≡ none
  step_1 e = step_is vars begun room job bs ∙ ap (with_front vars room job) e

  module _ {a : Bytes} (e : step_front bs ≡ some a) where
    pub step_2 : read_write max_nesting vars room a job ≡ none → take_step room (state vars begun job) bs ≡ none
    step_2 f = step_is vars begun room job bs ∙ ap (with_front vars room job) e ∙ ap (with_literal vars room) f

    module _ {k : ℕ} {rest j : Bytes} (f : read_write max_nesting vars room a job ≡ some (got k rest j)) where
      pub step_3 : step_back rest ≡ none → take_step room (state vars begun job) bs ≡ none
      step_3 g = step_is vars begun room job bs ∙ ap (with_front vars room job) e ∙ ap (with_literal vars room) f ∙ ap (with_rule vars room (got k rest j)) g

      pub step_4 : {rule : ℕ} → step_back rest ≡ some rule → take_step room (state vars begun job) bs ≡ put_so vars room rule (placed k j)
      step_4 g = step_is vars begun room job bs ∙ ap (with_front vars room job) e ∙ ap (with_literal vars room) f ∙ ap (with_rule vars room (got k rest j)) g

-- a step that is put after its literal, or does not fit
pub stepped : (vars : List Declared) (mid new : Writer) (room rule k : ℕ) {p : Option State} (r : Option (Unit {0})) → W.room mid ≡ room
    → W.told_job new r ≡ put_step (W.room mid) rule (placed k (job_of mid))
    → p ≡ put_so vars room rule (placed k (job_of mid)) → told_step vars new r ≡ p
stepped vars mid new room rule k r l h e =
    told_state r
    ∙ ap (λ (q : Option Bytes). bind q (λ b. some (state vars true b))) h
    ∙ ap (λ (j : ℕ). put_so vars j rule (placed k (job_of mid))) l ∙ sym e
  where
    told_state : (q : Option (Unit {0})) → told_step vars new q ≡ bind (W.told_job new q) (λ b. some (state vars true b))
    told_state none = refl
    told_state (some t) = refl
