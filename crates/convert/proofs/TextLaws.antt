-- The lines of a text, one after the other, and the call.
use mathlib.Core.Path.{◌≡◌, refl, sym, ap, ap₂, subst, ◌∙◌}
use mathlib.Core.Bool.{Bool, false}
use mathlib.Core.List.{List, [], ◌∷◌, ◌++◌}
use Rattle.std.specs.Prelude.{Option, None as none, Some as some, Result, Ok, Err}
use Rattle.std.specs.Option.{ok_or}
use Prim.Native.Nat.{ℕ, suc, ◌+◌, ◌≤◌, min}
use native.Mathlib.Omega.{arith}
use native.Mathlib.Numerals.{add-one}
use lib.ListN.{length, take, drop, replicate, take-append-drop}
use lib.Seq.{length-take-le}
use Rattle.theory.specs.Record.{Bytes}
use Rattle.text.specs.Convert as C
use Rattle.text.specs.Convert.{lines, take_line, convert_from, Outcome, written, refused, call}
use Rattle.words.proofs.ReadLaws.{read_none, read_some}
use Rattle.names.specs.Kinds.{declarations, declared_in}
use Rattle.writer.specs.declared.places.Writer.{Writer}
use Rattle.writer.specs.Written.{room, Moved}
use Rattle.writer.proofs.Moves.{moved_none, moved_on}
use Rattle.convert.specs.declared.line.State as code
use Rattle.convert.specs.declared.Converted.{Converted}
use Rattle.convert.specs.Line.{told_state, Between, Lined}
use Rattle.convert.specs.Text as T
use Rattle.convert.specs.Text.{Taken}
use Rattle.convert.proofs.CutLaws.{Stands, stands_first, more}

-- ---- between two lines
-- `count` lines of the text are read, and these are left
pub record Running (text : Bytes) (start now : Writer) (next count : ℕ) (s : code.State) (left : List Bytes) : Type 0 where
  pub stands : Stands text next left
  pub between : Between (take next text) s
  pub moved : Moved start now
  pub leads : C.convert (room start) text ≡ convert_from (room start) (count + 1) (told_state now s) left

pub running_start : {text : Bytes} {left : List Bytes} (w : Writer) {s : code.State} {count : ℕ} → w.spot.done ≡ 0 → s.declarations.now ≡ [] → s.declared ≡ 0 → s.begun ≡ false
    → count ≡ 0 → left ≡ lines text → Running text w w 0 count s left
unfolding lines declarations
running_start {text} {left} w {s} {count} e d n b c l = record {
  stands = subst (Stands text 0) (sym l) (stands_first text);
  between = record { counted = n ∙ ap (λ (x : Bytes). length (declared_in x)) (sym d); level = λ x. d };
  moved = moved_none w;
  leads =
      ap (λ (j : ℕ). convert_from (room w) 1 (C.state [] false (take j w.out.now)) (lines text)) (sym e)
      ∙ ap₂ (λ (x : Bytes) (y : Bool). convert_from (room w) 1 (C.state (declared_in x) y (take w.spot.done w.out.now)) (lines text)) (sym d) (sym b)
      ∙ ap₂ (λ (j : ℕ) (x : List Bytes). convert_from (room w) (j + 1) (told_state w s) x) (sym c) (sym l);
}

refused_at : (q : Option code.State) {n e : ℕ} → ok_or q n ≡ Err e → (q ≡ none) × (n ≡ e)
refused_at none h = (refl, cc)
refused_at (some t) h = absurd cc

module _ {text : Bytes} {start now : Writer} {next count : ℕ} {s : code.State} {left : List Bytes} {l : Bytes} {ls : List Bytes} (g : Running text start now next count s left)
    (first : left ≡ l ∷ ls) where
  stands : Stands text next (l ∷ ls)
  stands = subst (Stands text next) first g.stands

  leads : C.convert (room start) text ≡ convert_from (room start) (count + 1) (told_state now s) (l ∷ ls)
  leads = g.leads ∙ ap (convert_from (room start) (count + 1) (told_state now s)) first

  room_same : {r : Option C.State} → take_line (room now) (told_state now s) l ≡ r → take_line (room start) (told_state now s) l ≡ r
  room_same f = ap (λ (n : ℕ). take_line n (told_state now s) l) (sym g.moved.memory.out_size) ∙ f

  after_line : {t : C.State} → take_line (room start) (told_state now s) l ≡ some t → C.convert (room start) text ≡ convert_from (room start) (suc (count + 1)) t ls
  unfolding convert_from
  after_line f = leads ∙ rw (f, convert_from)

  at_line : take_line (room start) (told_state now s) l ≡ none → C.convert (room start) text ≡ refused (count + 1)
  unfolding convert_from
  at_line f = leads ∙ rw (f, convert_from)

  module _ {m : ℕ} (h : m ≡ min (length text) (next + length l + 1)) where
    pub follows : s.begun ≡ false → lines (take m text) ≡ lines s.declarations.now ++ (l ∷ [])
    follows e = (more stands h).through ∙ ap (λ (x : Bytes). lines x ++ (l ∷ [])) (sym (g.between.level e))

    pub running_on : {new : Writer} {r : Option code.State} {t : code.State} {j : ℕ} → Lined (take m text) new (take_line (room now) (told_state now s) l) r → r ≡ some t
        → Moved now new → j ≡ count + 1 → Running text start new m j t ls
    running_on {new} {r} {t} {j} d ok v c = record {
      stands = (more stands h).stands;
      between = d.fits t ok;
      moved = moved_on g.moved v;
      leads = after_line (room_same (read_some d ok)) ∙ ap (λ (n : ℕ). convert_from (room start) n (told_state new t) ls) (sym (add-one (count + 1)) ∙ ap (λ (i : ℕ). i + 1) (sym c));
    }

    pub running_refused : (new : Writer) {q : Option code.State} {k e : ℕ} {after : Bytes} {r : Result ℕ ℕ}
        → Lined (take m text) new (take_line (room now) (told_state now s) l) q → ok_or q (k + 1) ≡ Err e → k ≡ count → r ≡ Err e → Taken text start.out.now after r
    running_refused new {q} {k} {e} {after} {r} d bad at f =
        let none_e = refused_at q bad in
        let place : e ≡ count + 1 = omega (arith, none_e.1) in
        record {
          is = ap (T.told_lines after) f ∙ ap refused place ∙ sym (at_line (room_same (read_none d none_e.0)));
          within = λ n h. let z : ◌≡◌ {A = Result ℕ ℕ} (Err e) (Ok n) = sym f ∙ h in absurd cc;
          past = λ n h. let z : ◌≡◌ {A = Result ℕ ℕ} (Err e) (Ok n) = sym f ∙ h in absurd cc;
        }

pub running_end : {text : Bytes} {start now : Writer} {next count : ℕ} {s : code.State} {left : List Bytes} → Running text start now next count s left → left ≡ []
    → Taken text start.out.now now.out.now (Ok now.spot.done)
unfolding convert_from
running_end {text} {start} {now} {next} {count} {s} {left} g h = record {
  is = sym (g.leads ∙ ap (convert_from (room start) (count + 1) (told_state now s)) h);
  within = λ n q. let e : now.spot.done ≡ n = cc in subst (λ (m : ℕ). m ≤ length now.out.now) e now.ready.within;
  past = λ n q. let e : now.spot.done ≡ n = cc in subst (λ (m : ℕ). drop m now.out.now ≡ drop m start.out.now) e g.moved.past;
}

-- ---- the call
-- the three promises of a call
abbrev pub Called : Bytes → Bytes → Bytes → Bytes → Bytes → Converted → Type 0
Called text work old work' new r =
    (T.told r ≡ (call text work old).result) × ((work' ≡ (call text work old).work_memory) × (new ≡ (call text work old).job_memory))

-- a line was refused
pub called_refused : (text work old : Bytes) {mid work' new : Bytes} {r : Result ℕ ℕ} {place : ℕ} → Taken text old mid r → r ≡ Err place → work' ≡ replicate (length work) 0 → new ≡ replicate (length old) 0
    → Called text work old work' new (record { code = 25; line = place; length = 0 })
called_refused text work old {mid} {work'} {new} {r} {place} t f w n =
    let o : refused place ≡ C.convert (length old) text = ap (T.told_lines mid) (sym f) ∙ t.is in
    (ap C.returned o, (w, n ∙ ap (λ (x : Outcome). C.job_after x old) o))

-- none was
pub called_written : (text work old : Bytes) {mid work' : Bytes} {r : Result ℕ ℕ} {n : ℕ} → Taken text old mid r → r ≡ Ok n → work' ≡ replicate (length work) 0
    → Called text work old work' mid (record { code = 0; line = 0; length = n })
called_written text work old {mid} {work'} {r} {n} t f w =
    let j = take n mid in
    let o : written j ≡ C.convert (length old) text = ap (T.told_lines mid) (sym f) ∙ t.is in
    let l : length j ≡ n = length-take-le n mid (t.within n f) in (
      ap (λ (k : ℕ). record { code = 0; line = 0; length = k }) (sym l) ∙ ap C.returned o,
      (
        w,
        sym (take-append-drop n mid) ∙ ap (λ (x : Bytes). j ++ x) (t.past n f) ∙ ap (λ (k : ℕ). j ++ drop k old) (sym l)
            ∙ ap (λ (x : Outcome). C.job_after x old) o,
      ),
    )
