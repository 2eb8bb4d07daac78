-- One line of a text.
use mathlib.Core.Path.{◌≡◌, refl, sym, ap, ◌∙◌}
use mathlib.Core.Bool.{Bool, true, false}
use mathlib.Core.List.{List, [], ◌∷◌, ◌++◌}
use Rattle.std.specs.Prelude.{Option, None as none, Some as some}
use Rattle.std.specs.Borrow.{Bor}
use Prim.Native.Nat.{ℕ, ◌+◌}
use native.Mathlib.Omega.{arith}
use lib.ListN.{length, length-append}
use Rattle.theory.specs.Optional.{either}
use Rattle.theory.specs.Record.{Bytes}
use Rattle.text.specs.Tokens.{ascii, left, word, after}
use Rattle.text.specs.Reading.{bind, Declared, declaration}
use Rattle.text.specs.Convert.{lines, State, state, declare, take_step, take_line}
use Rattle.text.specs.Claim.{declared_by}
use Rattle.theory.proofs.Basics.{none_some}
use Rattle.words.proofs.ReadLaws.{told_some, reads_some}
use Rattle.names.specs.Kinds.{declarations, declared_in}
use Rattle.writer.specs.declared.places.Writer.{Writer}
use Rattle.writer.specs.Written.{job_of, room}
use Rattle.entries.specs.Steps.{told_step}
use Rattle.entries.specs.Declarations.{and_declared, told_declared}
use Rattle.convert.specs.declared.line.State as code
use Rattle.convert.specs.Line.{told_state, Lined}
use Rattle.convert.proofs.CutLaws.{declared_more}

abbrev kind_of_line : ℕ → State → Bytes → Option Bytes → Option State
kind_of_line room s a q = either (bind (after (word (ascii "step")) a) (take_step room s)) (λ b. bind (declaration b) (declare room s)) q

abbrev in_left : ℕ → State → Option Bytes → Option State
in_left room s q = bind q (λ a. kind_of_line room s a (after (word (ascii "declare-const")) a))

line_is : (room : ℕ) (s : State) (line : Bytes) → take_line room s line ≡ in_left room s (after left line)
unfolding take_line
line_is room s line = refl

declared_is : (line : Bytes) {a b : Bytes} → after left line ≡ some a → after (word (ascii "declare-const")) a ≡ some b → declared_by line ≡ declaration b
unfolding declared_by
declared_is line {a} e f =
    ap (λ (q : Option Bytes). bind q (λ x. bind (after (word (ascii "declare-const")) x) declaration)) e ∙ ap (λ (q : Option Bytes). bind q declaration) f

begun_not : (room : ℕ) (vars : List Declared) (job : Bytes) (q : Option Declared) → bind q (declare room (state vars true job)) ≡ none
unfolding declare
begun_not room vars job none = refl
begun_not room vars job (some d) = refl

module _ (room : ℕ) (s : State) (line : Bytes) where
  pub line_1 : after left line ≡ none → take_line room s line ≡ none
  line_1 e = line_is room s line ∙ ap (in_left room s) e

  module _ {a : Bytes} (e : after left line ≡ some a) where
    line_so : take_line room s line ≡ kind_of_line room s a (after (word (ascii "declare-const")) a)
    line_so = line_is room s line ∙ ap (in_left room s) e

    module _ (f : after (word (ascii "declare-const")) a ≡ none) where
      pub line_2 : after (word (ascii "step")) a ≡ none → take_line room s line ≡ none
      line_2 g = line_so ∙ ap (kind_of_line room s a) f ∙ ap (λ (q : Option Bytes). bind q (take_step room s)) g

      pub line_3 : {b : Bytes} → after (word (ascii "step")) a ≡ some b → take_line room s line ≡ take_step room s b
      line_3 g = line_so ∙ ap (kind_of_line room s a) f ∙ ap (λ (q : Option Bytes). bind q (take_step room s)) g

    pub line_4 : {b : Bytes} → after (word (ascii "declare-const")) a ≡ some b → take_line room s line ≡ bind (declared_by line) (declare room s)
    line_4 f = line_so ∙ ap (kind_of_line room s a) f ∙ ap (λ (q : Option Declared). bind q (declare room s)) (sym (declared_is line e f))

-- a step was read before: no declaration
pub line_5 : (room : ℕ) (vars : List Declared) (job line : Bytes) {a b : Bytes} → after left line ≡ some a → after (word (ascii "declare-const")) a ≡ some b
    → take_line room (state vars true job) line ≡ none
line_5 room vars job line e f = line_4 room (state vars true job) line e f ∙ begun_not room vars job (declared_by line)

never : {A : Type 0} → false ≡ true → A
never e = absurd (let z : ◌≡◌ {A = ℕ} 0 1 = cc in omega arith)

-- ---- a line that is taken
module _ (line : Bytes) (through : Bor Bytes) (old new : Writer) (s : code.State) (g : s.declared ≡ length (declared_in s.declarations.now)) where
  -- a step
  pub lined_step : (r : Option (Unit {0})) {x : Unit {0}} {q : Option State}
      → told_step (declared_in s.declarations.now) new r ≡ q → r ≡ some x
      → {p : Option State} → p ≡ q → Lined through.now new p (some (record { declarations = s.declarations; declared = s.declared; begun = true }))
  lined_step r d f l = reads_some (l ∙ told_some _ r d f) (record { counted = g; level = λ y. never (sym y) })

  -- a declaration
  pub lined_declared : (s.begun ≡ false → lines through.now ≡ lines s.declarations.now ++ (line ∷ [])) → (r : Option (Unit {0})) {x : Unit {0}} → s.begun ≡ false
      → told_declared line (declared_in s.declarations.now) new r
      ≡ bind (declared_by line) (declare (room old) (state (declared_in s.declarations.now) false (job_of old)))
      → r ≡ some x → {p : Option State}
      → p ≡ bind (declared_by line) (declare (room old) (told_state old s))
      → Lined through.now new p (some (record { declarations = through; declared = s.declared + 1; begun = false }))
  lined_declared t r n d f {p} l = go (declared_by line) refl
    where
      so : p ≡ some (state (and_declared line (declared_in s.declarations.now)) false (job_of new))
      so =
          l ∙ ap (λ (x : Bool). bind (declared_by line) (declare (room old) (state (declared_in s.declarations.now) x (job_of old)))) n
          ∙ told_some _ r d f

      go : (q : Option Declared) → declared_by line ≡ q
          → Lined through.now new p (some (record { declarations = through; declared = s.declared + 1; begun = false }))
      go none y =
          absurd (let z : p ≡ none = l ∙ ap (λ (x : Option Declared). bind x (declare (room old) (told_state old s))) y in
          none_some (state (and_declared line (declared_in s.declarations.now)) false (job_of new)) (sym z ∙ so))
      go (some v) y =
          let nd : declared_in through.now ≡ declared_in s.declarations.now ++ (v ∷ [])
          = ap declarations (t n) ∙ declared_more (lines s.declarations.now) line y in
          let ad : and_declared line (declared_in s.declarations.now) ≡ declared_in s.declarations.now ++ (v ∷ [])
          = ap (λ (x : Option Declared). either (declared_in s.declarations.now) (λ w. declared_in s.declarations.now ++ (w ∷ [])) x) y in
          let len : length (declared_in s.declarations.now ++ (v ∷ [])) ≡ length (declared_in s.declarations.now) + 1 = length-append (declared_in s.declarations.now) (v ∷ []) in
          let all : length (declared_in through.now) ≡ length (declared_in s.declarations.now ++ (v ∷ [])) = ap length nd in
          reads_some (so ∙ ap (λ (x : List Declared). some (state x false (job_of new))) (ad ∙ sym nd)) (record {
            counted = omega arith;
            level = λ z. refl;
          })

-- a declaration after a step is refused
pub line_begun : (room : ℕ) (vars : List Declared) {begun : Bool} (job line : Bytes) {a b : Bytes} → begun ≡ true → after left line ≡ some a → after (word (ascii "declare-const")) a ≡ some b
    → take_line room (state vars begun job) line ≡ none
line_begun room vars job line e f g = ap (λ (x : Bool). take_line room (state vars x job) line) e ∙ line_5 room vars job line f g

-- a declaration that is refused
pub line_undeclared : (room : ℕ) (vars : List Declared) {begun : Bool} (job line : Bytes) {a b : Bytes} → begun ≡ false → after left line ≡ some a → after (word (ascii "declare-const")) a ≡ some b
    → bind (declared_by line) (declare room (state vars false job)) ≡ none → take_line room (state vars begun job) line ≡ none
line_undeclared room vars job line e f g h = ap (λ (x : Bool). take_line room (state vars x job) line) e ∙ line_4 room (state vars false job) line f g ∙ h
