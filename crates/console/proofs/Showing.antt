-- The text of a job is theory's, case by case.
use mathlib.Core.Path.{◌≡◌, refl, sym, ap, ap₂, ◌∙◌}
use mathlib.Core.Bool.{Bool, true, false}
use mathlib.Core.List.{List, [], ◌++◌}
use Prim.Native.Nat.{ℕ, ◌+◌, ◌*◌, ◌/◌, ◌≤◌, ◌<◌}
use native.Mathlib.Omega.{arith}
use borrow.Author.Tests.{le-leb, lt-leb}
use lib.ListN.{length, drop, length-append}
use Rattle.theory.specs.Limit.{rack, answer_bytes, number_bytes}
use Rattle.theory.specs.Record.{Bytes, AllBytes, number_length}
use Rattle.theory.specs.Answer.{Answer}
use Rattle.theory.specs.Job.{Returned, run, answers_after, call}
use Rattle.theory.specs.Program.{memory, end_line, too_long_text, outcome_text, bbcheck}
use Rattle.theory.proofs.Bounds.{run_fits}
use Rattle.theory.proofs.Lengths.{either_length}
use Rattle.theory.proofs.Written.{answers_read, answers_kept}
use Rattle.report.specs.Text.{head_space, line_space, report_text, too_long, written}
use Rattle.console.specs.Shown.{text_space, shown}

-- the two cases of `bbcheck`
module _ (input : Bytes) where
  told : Bool → Bytes
  told b = elim b [ true ↦ outcome_text (run rack input memory memory) | false ↦ too_long_text ++ end_line ]

  of_run : length input ≤ memory → outcome_text (run rack input memory memory) ≡ bbcheck input
  unfolding bbcheck told
  of_run h = sym (ap told (le-leb (length input) memory h))

  pub of_long : memory < length input → too_long_text ++ end_line ≡ bbcheck input
  unfolding bbcheck told
  of_long h = sym (ap told (lt-leb (length input) memory h))

-- the two cases of `shown` that need no run
module _ (input : Bytes) (space : ℕ) where
  pub shown_none : space < text_space → shown input space ≡ []
  unfolding shown
  shown_none h = rw (lt-leb _ _ h) refl

  pub shown_long : text_space ≤ space → memory < length input → shown input space ≡ too_long space
  unfolding shown too_long
  shown_long h l = sym (rw (le-leb text_space space h, le-leb head_space space (omega arith)) (of_long input l))

module _ (input old : Bytes) where
  -- a memory is left as `bbcheck` says, and so many bytes of it are the text
  abbrev pub Showed : Bytes → ℕ → Type 0
  Showed new p = let text = shown input (length old) in (new ≡ written text old) × ((p ≡ length text) × (p ≤ length new))

  -- the text that was written is `bbcheck`'s
  pub showed : {text new : Bytes} {p : ℕ} → text ≡ shown input (length old) → (new ≡ written text old) × (p ≡ length text) → Showed new p
  showed {text} {new} e w =
      let l : length new ≡ length text + length (drop (length text) old) = ap length w.0 ∙ length-append text (drop (length text) old) in
      let q = w.1 in
      (w.0 ∙ ap (λ (t : Bytes). written t old) e, (w.1 ∙ ap length e, omega arith))

  -- no more answers fit than short ones
  few_answers : (n : ℕ) → answer_bytes (number_length input) * n ≤ memory → n ≤ memory / answer_bytes number_bytes
  few_answers n = either_length (λ b. answer_bytes b * n ≤ memory → n ≤ memory / answer_bytes number_bytes) (λ h. omega arith) (λ h. omega arith) input

  -- the answers in the memory are the run's, and there is space for their lines
  pub run_shown : (work answers : Bytes) → AllBytes input → length work ≡ memory → length answers ≡ memory → text_space ≤ length old → length input ≤ memory
      → let c = call rack input work answers in
      report_text c.result.stop c.result.terms c.result.repeats c.result.answers (number_length input) c.answer_memory (length old) ≡ shown input (length old)
  unfolding shown report_text
  run_shown work answers bytes w a h l =
      let o = run rack input (length work) (length answers) in
      let n = length o.answers in
      let f = (run_fits rack input (length work) (length answers)).answers_fit in
      let k = (answers_kept rack input work answers).0 in
      let few = few_answers n (omega (arith, f, a)) in
      rw (
        le-leb (n * answer_bytes (number_length input)) (length (answers_after (number_length input) o.answers answers)) (omega arith),
        le-leb (head_space + n * line_space) (length old) (omega arith),
        le-leb text_space (length old) h,
      )
      (ap (λ (ls : List Answer). outcome_text (record { stop = o.stop; records = 0; answers = ls; terms = o.terms; repeats = o.repeats })) (answers_read rack input bytes (length work) (length answers) answers)
      ∙ ap₂ (λ (x y : ℕ). outcome_text (run rack input x y)) w a ∙ of_run input l)

  -- what a job came to, as it is returned and stands in the memory
  pub job_shown : (work answers : Bytes) → AllBytes input → memory ≡ length work → memory ≡ length answers → text_space ≤ length old → length input ≤ memory
      → {q : Returned} {m : Bytes} {b : ℕ} → b ≡ number_length input → q ≡ (call rack input work answers).result → m ≡ (call rack input work answers).answer_memory
      → report_text q.stop q.terms q.repeats q.answers b m (length old) ≡ shown input (length old)
  job_shown work answers bytes w a h l {q} {m} g e f =
      ap (λ (d : ℕ). report_text q.stop q.terms q.repeats q.answers d m (length old)) g
      ∙ ap₂ (λ (r : Returned) (n : Bytes). report_text r.stop r.terms r.repeats r.answers (number_length input) n (length old)) e f
      ∙ run_shown work answers bytes (sym w) (sym a) h l

-- a text in a memory that is long enough has all its bytes
pub all_shown : (input : Bytes) (space : ℕ) {size : ℕ} → space ≡ text_space → size ≡ length (shown input space) → size ≡ length (bbcheck input)
unfolding shown
all_shown input space h e =
    let whole : length (shown input space) ≡ length (bbcheck input) = rw (le-leb text_space space (omega arith)) refl in
    e ∙ whole
