-- The loop over arguments: what is read so far, and what is left, is the whole.
use mathlib.Core.Path.{◌≡◌, refl, sym, ap, subst, ◌∙◌}
use mathlib.Core.Bool.{Bool, true, false, ◌&&◌, cond}
use mathlib.Core.List.{List, [], ◌∷◌, ◌++◌, append_assoc, append-nil}
use Rattle.std.specs.Prelude.{Option, None as none, Some as some}
use Prim.Native.Nat.{ℕ, suc, ◌+◌, ◌-◌, ◌<◌, ◌≤◌}
use native.Mathlib.Omega.{arith}
use native.Mathlib.Numerals.{add-one}
use lib.Dec.{ltb}
use borrow.Author.Tests.{lt-ltb, le-ltb}
use lib.ListN.{length, length-append, take, set}
use lib.Seq.{take-suc-set}
use Rattle.theory.specs.Limit.{max_arguments}
use Rattle.theory.specs.Record.{Bytes}
use Rattle.text.specs.Tokens.{right, after}
use Rattle.theory.specs.Codes.{all_below}
use Rattle.rows.proofs.RowLaws.{and_first, and_second}
use Rattle.text.specs.Reading.{bind, number_end, Declared}
use Rattle.writer.specs.declared.places.Writer.{Writer}
use Rattle.writer.specs.Written.{job_of, room, Moved}
use Rattle.writer.proofs.Moves.{moved_none, moved_on}
use Rattle.reader.specs.declared.reading.Read.{Read}
use Rattle.reader.specs.declared.reading.List as list
use Rattle.reader.specs.Reader.{Got, GotAll, got_all, read_write, read_write_all, fitting, before, told_read}
use Rattle.reader.proofs.ReaderLaws.{none_more, too_many, one_more}

-- ---- the loop
before_nothing : (q : Option GotAll) → before [] q ≡ q
before_nothing none = refl
before_nothing (some g) = refl

before_before : (ks : List ℕ) (k : ℕ) (q : Option GotAll) → before ks (before (k ∷ []) q) ≡ before (ks ++ (k ∷ [])) q
before_before ks k none = refl
before_before ks k (some g) = ap (λ (l : List ℕ). some (got_all l g.rest g.job)) (sym (append_assoc ks (k ∷ []) g.numbers))

-- ---- numbers that fit
below_snoc : (ks : List ℕ) (k : ℕ) → all_below number_end ks ≡ true → k < number_end → all_below number_end (ks ++ (k ∷ [])) ≡ true
below_snoc [] k e h = rw (lt-ltb k number_end h)
below_snoc (x ∷ ks) k e h =
    let p = and_first (ltb x number_end) (all_below number_end ks) e in
    let q = and_second (ltb x number_end) (all_below number_end ks) e in
    rw (p, below_snoc ks k q h)

not_below : (ks : List ℕ) (k : ℕ) (ls : List ℕ) → number_end ≤ k → all_below number_end (ks ++ (k ∷ []) ++ ls) ≡ false
not_below [] k ls h = rw (le-ltb k number_end h)
not_below (x ∷ ks) k ls h = rw (not_below ks k ls h) (go (ltb x number_end))
  where
    go : (b : Bool) → (b && false) ≡ false
    go true = refl
    go false = refl

never_fits : (ks : List ℕ) (k : ℕ) (q : Option GotAll) → number_end ≤ k → fitting (before (ks ++ (k ∷ [])) q) ≡ none
never_fits ks k none h = refl
never_fits ks k (some g) h = ap (λ (b : Bool). cond b (some (got_all (ks ++ (k ∷ []) ++ g.numbers) g.rest g.job)) none) (not_below ks k g.numbers h)

-- before an argument: those before it are read, `count` of them
pub record Going (bs : Bytes) (old now : Writer) (vars : List Declared) (n : ℕ) (numbers : List ℕ) (count : ℕ) (rest : Bytes) : Type 0 where
  pub few : count ≤ max_arguments
  pub counted : length numbers ≡ count
  pub moved : Moved old now
  pub fit : all_below number_end numbers ≡ true
  pub leads : read_write_all n vars (room old) max_arguments bs (job_of old)
      ≡ before numbers (read_write_all n vars (room old) (max_arguments - count) rest (job_of now))

pub goes : {bs : Bytes} (w : Writer) {vars : List Declared} {n : ℕ} {numbers : List ℕ} → numbers ≡ [] → Going bs w w vars n numbers 0 bs
goes {bs} w {vars} {n} e = subst (λ (ks : List ℕ). Going bs w w vars n ks 0 bs) (sym e) (record {
  few = omega arith;
  counted = refl;
  moved = moved_none w;
  fit = refl;
  leads = sym (before_nothing _);
})

module _ {bs : Bytes} {old now : Writer} {vars : List Declared} {n : ℕ} {numbers : List ℕ} {count : ℕ} {rest : Bytes} (g : Going bs old now vars n numbers count rest) where
  abbrev pub whole : Option GotAll
  whole = read_write_all n vars (room old) max_arguments bs (job_of old)

  -- one more argument is read
  module _ (next : Writer) (r : Option Read) (c : after right rest ≡ none) (f : count < max_arguments)
      (h : told_read next r ≡ read_write n vars (room now) rest (job_of now)) where
    first_is : whole ≡ before numbers (bind (told_read next r) (λ x. before (x.number ∷ []) (read_write_all n vars (room old) (max_arguments - (count + 1)) x.rest x.job)))
    first_is =
        let m : max_arguments - count ≡ suc (max_arguments - (count + 1)) = omega arith in
        g.leads
        ∙ ap (λ (z : ℕ). before numbers (read_write_all n vars (room old) z rest (job_of now))) m
        ∙ ap (before numbers) (one_more vars (room old) n (max_arguments - (count + 1)) rest (job_of now) c)
        ∙ ap (λ (z : Option Got). before numbers (bind z (λ x. before (x.number ∷ []) (read_write_all n vars (room old) (max_arguments - (count + 1)) x.rest x.job))))
        (ap (λ (z : ℕ). read_write n vars z rest (job_of now)) (sym g.moved.memory.out_size) ∙ sym h)

    -- it is refused
    pub goes_bad : r ≡ none → none ≡ fitting whole
    goes_bad e =
        sym (ap fitting (first_is ∙ ap (λ (z : Option Read). before numbers (bind (told_read next z) (λ x. before (x.number ∷ []) (read_write_all n vars (room old) (max_arguments - (count + 1)) x.rest x.job)))) e))

    module _ {t : Read} (e : r ≡ some t) where
      next_leads : whole ≡ before (numbers ++ (t.number ∷ [])) (read_write_all n vars (room old) (max_arguments - (count + 1)) t.rest.now (job_of next))
      next_leads =
          first_is
          ∙ ap (λ (z : Option Read). before numbers (bind (told_read next z) (λ x. before (x.number ∷ []) (read_write_all n vars (room old) (max_arguments - (count + 1)) x.rest x.job)))) e
          ∙ before_before numbers t.number (read_write_all n vars (room old) (max_arguments - (count + 1)) t.rest.now (job_of next))

      -- its number fits
      pub goes_on : Moved now next → {k : ℕ} → (t.number < number_end) × (k ≡ t.number) → {numbers' : List ℕ} → numbers' ≡ numbers ++ (k ∷ [])
          → Going bs old next vars n numbers' (count + 1) t.rest.now
      goes_on m {k} b {numbers'} s =
          let counted = g.counted in
          let l : length (numbers ++ (t.number ∷ [])) ≡ length numbers + 1 = length-append numbers (t.number ∷ []) in
          subst (λ (ks : List ℕ). Going bs old next vars n ks (count + 1) t.rest.now) (sym (s ∙ ap (λ (j : ℕ). numbers ++ (j ∷ [])) b.1)) (record {
            few = omega arith;
            counted = omega arith;
            moved = moved_on g.moved m;
            fit = below_snoc numbers t.number g.fit b.0;
            leads = next_leads;
          })

      -- it does not fit
      pub goes_large : number_end ≤ t.number → none ≡ fitting whole
      goes_large b =
          sym (ap fitting next_leads ∙ never_fits numbers t.number (read_write_all n vars (room old) (max_arguments - (count + 1)) t.rest.now (job_of next)) b)

  -- no more arguments
  pub goes_out : {a : Bytes} → after right rest ≡ some a → some (got_all numbers a (job_of now)) ≡ fitting whole
  goes_out {a} c =
      sym (ap fitting (g.leads ∙ ap (before numbers) (none_more vars (room old) n (max_arguments - count) rest (job_of now) a c)
      ∙ ap (λ (l : List ℕ). some (got_all l a (job_of now))) (append-nil numbers))
      ∙ ap (λ (b : Bool). cond b (some (got_all numbers a (job_of now))) none) g.fit)

  -- too many
  pub goes_over : after right rest ≡ none → count ≡ max_arguments → none ≡ fitting whole
  goes_over c e =
      let m : max_arguments - count ≡ 0 = omega arith in
      sym (ap fitting
      (g.leads ∙ ap (λ (z : ℕ). before numbers (read_write_all n vars (room old) z rest (job_of now))) m
      ∙ ap (before numbers) (too_many vars (room old) n rest (job_of now) c)))

-- ---- the list that is filled
-- before an argument: the list has those before it
pub record Filling (from : list.List) (old : Writer) (l : list.List) (now : Writer) (vars : List Declared) (n count : ℕ) : Type 0 where
  pub long : length l.numbers ≡ max_arguments
  pub filled : l.count ≡ count
  pub going : Going from.rest.now old now vars n (take l.count l.numbers) count l.rest.now

pub fills : {l : list.List} (w : Writer) {vars : List Declared} {n : ℕ} → length l.numbers ≡ max_arguments → l.count ≡ 0 → Filling l w l w vars n 0
fills {l} w {vars} {n} long e = record {
  long = long;
  filled = e;
  going = goes w (ap (λ (c : ℕ). take c l.numbers) e);
}

-- one more number
pub one_longer : (ks : List ℕ) {c count : ℕ} → length ks ≡ max_arguments → c ≡ count → count < max_arguments → (k : ℕ) → take (count + 1) (set ks count k) ≡ take c ks ++ (k ∷ [])
one_longer ks {c} {count} long e h k =
    ap (λ (j : ℕ). take j (set ks count k)) (add-one count) ∙ take-suc-set ks count k (omega arith) ∙ ap (λ (j : ℕ). take j ks ++ (k ∷ [])) (sym e)

pub fills_few : {from l : list.List} {old now : Writer} {vars : List Declared} {n count : ℕ} → Filling from old l now vars n count → l.count ≤ max_arguments
fills_few f =
    let few = f.going.few in
    let filled = f.filled in
    omega arith
