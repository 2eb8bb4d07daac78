-- Sorts, declarations, and variables by their names.
use mathlib.Core.Path.{◌≡◌, refl, sym, ap, ◌∙◌}
use mathlib.Core.Bool.{Bool, true, false, ◌&&◌, not, cond}
use mathlib.Core.List.{List, [], ◌∷◌}
use Rattle.std.specs.Prelude.{Option, None as none, Some as some}
use Prim.Native.Nat.{ℕ, suc}
use Rattle.theory.specs.Term.{same_numbers}
use Rattle.theory.specs.Record.{Bytes}
use Rattle.text.specs.Tokens.{ascii, left, right, end, word, after}
use Rattle.text.specs.Reading.{bind, Word, first_word, is_symbol, reserved, Declared, variable, find_name, Sorted, sort_in, declaration}
use Rattle.text.specs.Convert.{lines}
use Rattle.text.specs.Claim.{declared_by}
use Rattle.names.specs.Kinds.{declarations, declared_in}
use Rattle.names.specs.declared.names.Sort as sort
use Rattle.names.specs.declared.names.Declaration.{Declaration}
use Rattle.names.specs.Names.{told_sort, told_declaration}
use Rattle.words.proofs.ReadLaws.{told_none, told_some}
use Rattle.words.proofs.WordLaws.{same_differ}

-- ---- sorts
module _ {q : Option Sorted} where
  pub no_sort : (r : Option sort.Sort) → told_sort r ≡ q → r ≡ none → q ≡ none
  no_sort r h e = told_none (λ s. record { width = s.width; rest = s.rest.now }) r h e

  pub some_sort : (r : Option sort.Sort) → told_sort r ≡ q → {s : sort.Sort} → r ≡ some s → q ≡ some (record { width = s.width; rest = s.rest.now })
  some_sort r h e = told_some (λ s. record { width = s.width; rest = s.rest.now }) r h e

-- ---- declarations
pub declares_none : (l : Bytes) (ls : List Bytes) → declared_by l ≡ none → declarations (l ∷ ls) ≡ declarations ls
unfolding declarations
declares_none l ls e = rw (e, declarations)

pub declares_some : (l : Bytes) (ls : List Bytes) {d : Declared} → declared_by l ≡ some d → declarations (l ∷ ls) ≡ d ∷ declarations ls
unfolding declarations
declares_some l ls e = rw (e, declarations)

-- ---- a name is a symbol
bound : {A B : Type 0} (q : Option A) (f : A → Option B) {b : B} → bind q f ≡ some b → (a : A) × (f a ≡ some b)
bound none f e = absurd (cc)
bound (some a) f e = (a, e)

named_symbol : (n : Bytes) (width : Option ℕ) (t : Bool) {d : Declared} → cond (is_symbol n && t) (some (record { name = n; width = width })) none ≡ some d
    → is_symbol d.name ≡ true
named_symbol n width t {d} e = go (is_symbol n) refl t e
  where
    go : (b : Bool) → is_symbol n ≡ b → (t : Bool) → cond (b && t) (some (record { name = n; width = width })) none ≡ some d → is_symbol d.name ≡ true
    go true f true e = let q : ◌≡◌ {A = Declared} (record { name = n; width = width }) d = cc in sym (ap (λ (d : Declared). is_symbol d.name) q) ∙ f
    go true f false e = absurd (cc)
    go false f t e = absurd (cc)

declared_symbol : (line : Bytes) {d : Declared} → declared_by line ≡ some d → is_symbol d.name ≡ true
unfolding declared_by declaration
declared_symbol line e =
    let a = bound (after left line) (λ a. bind (after (word (ascii "declare-const")) a) declaration) e in
    let b = bound (after (word (ascii "declare-const")) a.0) declaration a.1 in
    let rest : Word → Option Declared = λ w. bind (sort_in w.rest) (λ s. bind (after right s.rest) (λ a. bind (after end a) (λ b.
    cond (is_symbol w.name && not (reserved w.name)) (some (record { name = w.name; width = s.width })) none))) in
    let w = bound (first_word b.0) rest b.1 in
    let s = bound (sort_in w.0.rest) (λ s. bind (after right s.rest) (λ a. bind (after end a) (λ b.
    cond (is_symbol w.0.name && not (reserved w.0.name)) (some (record { name = w.0.name; width = s.width })) none))) w.1 in
    let c = bound (after right s.0.rest) (λ a. bind (after end a) (λ b.
    cond (is_symbol w.0.name && not (reserved w.0.name)) (some (record { name = w.0.name; width = s.0.width })) none)) s.1 in
    let f = bound (after end c.0) (λ b.
    cond (is_symbol w.0.name && not (reserved w.0.name)) (some (record { name = w.0.name; width = s.0.width })) none) c.1 in
    named_symbol w.0.name s.0.width (not (reserved w.0.name)) f.1

unnamed : (k : ℕ) (w : Bytes) (ls : List Bytes) → is_symbol w ≡ false → find_name k w (declarations ls) ≡ none
unfolding declarations
unnamed k w [] s = refl
unnamed k w (l ∷ ls) s = go (unnamed k w ls s) (unnamed (suc k) w ls s) (declared_by l) refl
  where
    go : find_name k w (declarations ls) ≡ none → find_name (suc k) w (declarations ls) ≡ none → (q : Option Declared) → declared_by l ≡ q
        → find_name k w (declarations (l ∷ ls)) ≡ none
    go ih jh none e = ap (find_name k w) (declares_none l ls e) ∙ ih
    go ih jh (some d) e =
        let differ : same_numbers w d.name ≡ false
        = same_differ w d.name (λ f. let z : true ≡ false = sym (declared_symbol l e) ∙ ap is_symbol (sym f) ∙ s in absurd (cc)) in
        ap (find_name k w) (declares_some l ls e)
        ∙ ap (λ (x : Bool). cond x (some (variable k d)) (find_name (suc k) w (declarations ls))) differ ∙ jh

-- a word that is no symbol is no name
pub no_name : (text w : Bytes) {b : Bool} → b ≡ is_symbol w → b ≡ false → find_name 0 w (declared_in text) ≡ none
no_name text w e f = unnamed 0 w (lines text) (sym e ∙ f)

-- ---- what `declared_by` says
module _ {q : Option Declared} where
  pub no_declaration : (r : Option Declaration) → told_declaration r ≡ q → r ≡ none → q ≡ none
  no_declaration r h e = told_none (λ d. record { name = d.name.now; width = d.width }) r h e

  pub some_declaration : (r : Option Declaration) → told_declaration r ≡ q → {d : Declaration} → r ≡ some d → q ≡ some (record { name = d.name.now; width = d.width })
  some_declaration r h e = told_some (λ d. record { name = d.name.now; width = d.width }) r h e
