-- What is printed for the start of an input that was read is what is printed for all of it.
use Rattle.std.proofs.Common.{◌≡◌, ◌+◌, ◌<◌, inl, inr, ℕ, [], ◌++◌, length, take, None, Some, IfSome, Option, refl, sym, ap, ◌∙◌, subst, arith, append-nil, length-append, le-leb}
use lib.Seq.{take-append_seam}
use Rattle.std.proofs.lemmas.Bool.Decides.{leb_tells}
use Rattle.std.specs.Io.KnownBytes.{Appends}
use Rattle.theory.specs.Record.{Bytes}
use Rattle.theory.specs.Program.{memory, bbcheck}
use Rattle.report.specs.Text.{written}
use Rattle.console.specs.Shown.{text_space, shown, Checked}
use Rattle.console.proofs.Showing.{of_long}

-- what is lent holds all of the input, or only says that it is too long
by_start : (start rest : Bytes) → (length start < memory + 1 → rest ≡ []) → bbcheck (start ++ rest) ≡ bbcheck start
by_start start rest h =
    elim (leb_tells (length start) memory) [
      | inl e ↦ ap (λ (r : Bytes). bbcheck (start ++ r)) (h (omega (arith, e.1))) ∙ ap bbcheck (append-nil start)
      | inr e ↦ sym (of_long (start ++ rest) (omega (arith, e.1, length-append start rest))) ∙ of_long start e.1
    ]

-- what was written is the text of all that the reader had
pub text_of_all : (a b d e : Option Bytes) {size : ℕ} → Checked a b d e size → IfSome a (λ xs. Appends d e (bbcheck xs))
text_of_all None b d e c = tt
text_of_all (Some xs) None d e c = absurd c.read
text_of_all (Some xs) (Some ys) d e c = subst (Appends d e) (sym (by_start c.input ys c.whole) ∙ ap bbcheck (sym c.read)) c.wrote

-- the text stands at the start of a memory that is long enough
pub text_first : (input old : Bytes) (n : ℕ) → length old ≡ text_space → n ≡ length (shown input (length old)) → take n (written (shown input (length old)) old) ≡ bbcheck input
unfolding shown
text_first input old n h e =
    ap (λ m. take m (written (shown input (length old)) old)) e ∙ take-append_seam (shown input (length old)) _ ∙ rw (le-leb text_space (length old) (omega arith)) refl
