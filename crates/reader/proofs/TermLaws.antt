-- A term, by how it begins.
use mathlib.Core.Path.{◌≡◌, refl, sym, ap, ◌∙◌}
use mathlib.Core.Bool.{Bool, true, false, cond}
use mathlib.Core.List.{List}
use Rattle.std.specs.Prelude.{Option, None as none, Some as some}
use Prim.Native.Nat.{ℕ, suc, ◌-◌, ◌≤◌}
use native.Mathlib.Omega.{arith}
use native.Mathlib.Decide.{dec_le}
use Rattle.theory.specs.Limit.{first_terms, max_arguments}
use Rattle.theory.specs.Kind.{Op, kind}
use Rattle.theory.specs.Record.{Bytes}
use Rattle.theory.specs.Codes.{all_below}
use Rattle.text.specs.Reading.{bind, number_end, Declared, branch, head}
use Rattle.writer.specs.declared.places.Writer.{Writer}
use Rattle.writer.specs.Written.{job_of, room, Moved}
use Rattle.reader.specs.declared.reading.Read.{Read}
use Rattle.reader.specs.declared.reading.List as list
use Rattle.reader.specs.Reader.{GotAll, read_write, read_write_all, finish, fitting, told_read, got_list, told_list}
use Rattle.reader.proofs.ReaderLaws.{too_deep, at_branch}
use Rattle.writer.proofs.PutLaws.{put_over}
use Rattle.reader.proofs.FinishLaws.{finish_not, finish_full, low_takes}

-- ---- arguments whose numbers do not fit make no term
finish_large : (room : ℕ) (o : Op) (g : GotAll) → all_below number_end g.numbers ≡ false → finish room o g ≡ none
finish_large room o g e = by_kind (dec_le first_terms (kind o))
  where
    by_kind : Dec (first_terms ≤ kind o) → finish room o g ≡ none
    by_kind (yes h) = finish_full room o g.numbers g.rest g.job (put_over room o g.numbers g.job h e)
    by_kind (no h) = finish_not room o g.numbers g.rest g.job (low_takes o (omega arith) g.numbers e)

finish_fitting : (room : ℕ) (o : Op) (q : Option GotAll) → bind q (finish room o) ≡ bind (fitting q) (finish room o)
finish_fitting room o none = refl
finish_fitting room o (some g) = go (all_below number_end g.numbers) refl
  where
    go : (b : Bool) → all_below number_end g.numbers ≡ b → finish room o g ≡ bind (cond b (some g) none) (finish room o)
    go true e = refl
    go false e = finish_large room o g e

module _ (vars : List Declared) (room : ℕ) (n : ℕ) (bs job : Bytes) (o : Op) (rest : Bytes) where
  pub at_zero : n ≡ 0 → head vars bs ≡ some (branch o rest) → read_write n vars room bs job ≡ none
  at_zero e h = ap (λ (m : ℕ). read_write m vars room bs job) e ∙ too_deep vars room bs job o rest h

  pub at_more : ((n ≡ 0) → ⊥) → head vars bs ≡ some (branch o rest)
      → read_write n vars room bs job ≡ bind (fitting (read_write_all (n - 1) vars room max_arguments rest job)) (finish room o)
  at_more f h =
      let e : n ≡ suc (n - 1) = omega arith in
      ap (λ (m : ℕ). read_write m vars room bs job) e ∙ at_branch vars room (n - 1) bs job o rest h ∙ finish_fitting room o (read_write_all (n - 1) vars room max_arguments rest job)

  -- arguments that are refused
  pub at_none : ((n ≡ 0) → ⊥) → head vars bs ≡ some (branch o rest) → fitting (read_write_all (n - 1) vars room max_arguments rest job) ≡ none → read_write n vars room bs job ≡ none
  at_none f h e = at_more f h ∙ ap (λ (q : Option GotAll). bind q (finish room o)) e

-- a term whose arguments were read and written
pub branch_reads : (vars : List Declared) (n : ℕ) (bs : Bytes) (o : Op) (rest : Bytes) (old mid new : Writer) {p : Option (Unit {0})} {u : Unit {0}} (l : list.List) (r : Option Read)
    → ((n ≡ 0) → ⊥) → head vars bs ≡ some (branch o rest) → Moved old mid
    → told_list mid l p ≡ fitting (read_write_all (n - 1) vars (room old) max_arguments rest (job_of old)) → p ≡ some u
    → told_read new r ≡ finish (room mid) o (got_list mid l)
    → told_read new r ≡ read_write n vars (room old) bs (job_of old)
branch_reads vars n bs o rest old mid new {p} {u} l r f h m g w d =
    d
    ∙ ap (λ (z : ℕ). finish z o (got_list mid l)) m.memory.out_size
    ∙ ap (λ (q : Option (Unit {0})). bind (told_list mid l q) (finish (room old) o)) (sym w)
    ∙ ap (λ (q : Option GotAll). bind q (finish (room old) o)) g
    ∙ sym (at_more vars (room old) n bs (job_of old) o rest f h)
