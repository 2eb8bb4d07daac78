-- A text cut where a line starts, and what is declared up to there.
use mathlib.Core.Path.{◌≡◌, refl, sym, ap, ◌∙◌}
use mathlib.Core.List.{List, [], ◌∷◌, ◌++◌, append_assoc, append-nil}
use mathlib.Core.Logic.{inl, inr}
use Rattle.std.specs.Prelude.{Option, None as none, Some as some}
use Prim.Native.Nat.{ℕ, suc, ◌+◌, ◌-◌, ◌≤◌, min}
use native.Mathlib.Omega.{arith}
use lib.ListN.{length, take, drop, length-append, length-drop, drop_of_length-le, take-append-drop}
use lib.Seq.{take_at, drop_at, take_all, length-take-le}
use Rattle.theory.specs.Record.{Bytes}
use Rattle.theory.specs.Optional.{either}
use Rattle.text.specs.Reading.{Declared}
use Rattle.text.specs.Convert.{lines}
use Rattle.text.specs.Claim.{declared_by}
use Rattle.names.specs.Kinds.{declarations, declared_in}
use Rattle.names.proofs.LineLaws.{lines_few, line_before, Plain, Parted, parted}

-- what is declared by one more line
pub declared_more : (ls : List Bytes) (l : Bytes) {d : Declared} → declared_by l ≡ some d → declarations (ls ++ (l ∷ [])) ≡ declarations ls ++ (d ∷ [])
unfolding declarations
declared_more [] l e = rw (e, declarations)
declared_more (k ∷ ls) l {d} e = go (declared_by k) refl (declared_more ls l e)
  where
    go : (q : Option Declared) → declared_by k ≡ q → declarations (ls ++ (l ∷ [])) ≡ declarations ls ++ (d ∷ []) → declarations (k ∷ (ls ++ (l ∷ []))) ≡ declarations (k ∷ ls) ++ (d ∷ [])
    go none f ih = rw (f, declarations) ih
    go (some c) f ih = rw (f, declarations) (ap (λ (x : List Declared). c ∷ x) ih)

-- no more than lines, and no more than bytes
lines_declare : (ls : List Bytes) → length (declarations ls) ≤ length ls
unfolding declarations
lines_declare [] = omega arith
lines_declare (l ∷ ls) = go (declared_by l) (lines_declare ls)
  where
    go : (q : Option Declared) → length (declarations ls) ≤ length ls → length (either (declarations ls) (λ d. d ∷ declarations ls) q) ≤ suc (length ls)
    go none h = omega arith
    go (some d) h = omega arith

pub declared_few : (text : Bytes) → length (declared_in text) ≤ length text
declared_few text = let a = lines_declare (lines text) in let b = lines_few text in omega arith

-- a line starts after these bytes: the lines of what follows are lines of their own
pub record Cut (before : Bytes) : Type 0 where
  pub apart : (bs : Bytes) → lines (before ++ bs) ≡ lines before ++ lines bs

-- the text to a line's start, and the lines that are left
pub record Stands (text : Bytes) (next : ℕ) (left : List Bytes) : Type 0 where
  pub within : next ≤ length text
  pub left_is : lines (drop next text) ≡ left
  pub cut : (next ≡ length text → ⊥) → Cut (take next text)

pub stands_first : (text : Bytes) → Stands text 0 (lines text)
unfolding lines
stands_first text = record { within = omega arith; left_is = refl; cut = λ f. record { apart = λ bs. refl } }

module _ {text : Bytes} {next : ℕ} {l : Bytes} {ls : List Bytes} (g : Stands text next (l ∷ ls)) where
  -- one line more
  pub record More (m : ℕ) : Type 0 where
    pub stands : Stands text m ls
    pub through : lines (take m text) ≡ lines (take next text) ++ (l ∷ [])
    pub long : next + length l ≤ length text

  abbrev before : Bytes
  before = take next text

  halves : text ≡ before ++ drop next text
  halves = sym (take-append-drop next text)

  before_long : length before ≡ next
  before_long = length-take-le next text g.within

  started : next ≡ length text → ⊥
  unfolding lines
  started e =
      let none : drop next text ≡ [] = drop_of_length-le text {i = next} (omega arith) in
      let same : ◌≡◌ {A = List Bytes} [] (l ∷ ls) = sym (ap lines none) ∙ g.left_is in
      absurd cc

  module _ {m : ℕ} (h : m ≡ min (length text) (next + length l + 1)) where
    -- a newline stands after the line
    module _ (p : Plain l) (cs : Bytes) (e : drop next text ≡ l ++ (10 ∷ cs)) where
      abbrev front : Bytes
      front = before ++ (l ++ (10 ∷ []))

      bytes : (next + length l ≤ length text) × (m ≡ next + length l + 1)
      bytes =
          let d : length (drop next text) ≡ length text - next = length-drop next text in
          let k : length (l ++ (10 ∷ cs)) ≡ length l + suc (length cs) = length-append l (10 ∷ cs) in
          let q : length (drop next text) ≡ length (l ++ (10 ∷ cs)) = ap length e in
          let w = g.within in
          (omega arith, omega arith)

      front_long : length front ≡ m
      front_long =
          let a : length front ≡ length before + length (l ++ (10 ∷ [])) = length-append before (l ++ (10 ∷ [])) in
          let b : length (l ++ (10 ∷ [])) ≡ length l + 1 = length-append l (10 ∷ []) in
          let c = before_long in
          let n = bytes.1 in
          omega arith

      whole : text ≡ front ++ cs
      whole =
          halves ∙ ap (λ (x : Bytes). before ++ x) (e ∙ sym (append_assoc l (10 ∷ []) cs))
          ∙ sym (append_assoc before (l ++ (10 ∷ [])) cs)

      taken : take m text ≡ front
      taken = ap (take m) whole ∙ take_at front cs m front_long

      lines_on : (bs : Bytes) → lines (take m text ++ bs) ≡ lines before ++ (l ∷ lines bs)
      lines_on bs =
          ap (λ (x : Bytes). lines (x ++ bs)) taken
          ∙ ap lines (append_assoc before (l ++ (10 ∷ [])) bs ∙ ap (λ (x : Bytes). before ++ x) (append_assoc l (10 ∷ []) bs))
          ∙ (g.cut started).apart (l ++ (10 ∷ bs)) ∙ ap (λ (x : List Bytes). lines before ++ x) (line_before l bs p)

      lines_here : lines (take m text) ≡ lines before ++ (l ∷ [])
      unfolding lines
      lines_here = ap lines (sym (append-nil (take m text))) ∙ lines_on []

      newline_more : lines cs ≡ ls → More m
      newline_more f = record {
        stands = record {
          within = omega (arith, bytes.1);
          left_is = ap lines (ap (drop m) whole ∙ drop_at front cs m front_long) ∙ f;
          cut = λ x. record {
            apart = λ bs. lines_on bs ∙ sym (append_assoc (lines before) (l ∷ []) (lines bs)) ∙ ap (λ (y : List Bytes). y ++ lines bs) (sym lines_here);
          };
        };
        through = lines_here;
        long = bytes.0;
      }

    -- none does
    last_more : drop next text ≡ l → ls ≡ [] → More m
    unfolding lines
    last_more e f =
        let d : length (drop next text) ≡ length text - next = length-drop next text in
        let q : length (drop next text) ≡ length l = ap length e in
        let w = g.within in
        let n : m ≡ length text = omega arith in
        record {
          stands = record {
            within = omega arith;
            left_is = ap lines (drop_of_length-le text {i = m} (omega arith)) ∙ sym f;
            cut = λ x. absurd (x n);
          };
          through =
              ap lines (take_all m text (omega arith) ∙ halves) ∙ (g.cut started).apart (drop next text)
              ∙ ap (λ (x : List Bytes). lines before ++ x) (g.left_is ∙ ap (λ (y : List Bytes). l ∷ y) f);
          long = omega arith;
        }

    pub more : More m
    more = let p = parted (drop next text) g.left_is in go p.0 p.1
      where
        go : Plain l → Parted (drop next text) l ls → More m
        go p (inl (cs, e, f)) = newline_more p cs e f
        go p (inr (e, f)) = last_more e f
