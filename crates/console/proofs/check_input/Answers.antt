-- The text is that of what was read.
use Rattle.std.proofs.Common.{◌≡◌, ℕ, replicate, ◌+◌, ◌∙◌, ap, subst, arith, length, take, length-take, Result, Ok, Err, OnErr, inr}
use lib.ListN.{length-replicate}
use Rattle.std.specs.Io.KnownBytes.{Appends}
use Rattle.theory.specs.Program.{memory, bbcheck}
use Rattle.console.specs.Shown.{text_space, Checked}
use Rattle.console.proofs.Showing.{all_shown}
use Rattle.console.proofs.Seen.{text_first, text_of_all}
use Rattle.console.proofs.check_input.Goals as goal

pub returns : goal.returns
returns g c =
    let job = c.read_full.new.buf in
    let n = c.in_ok-n.n in
    let t = c.bbcheck_text-size in
    let space = length-replicate {A = ℕ} text_space 0 in
    let k : length job ≡ memory + 1 = c.read_full.auto.buf ∙ length-replicate {A = ℕ} (memory + 1) 0 in
    let text : take t.result t.new.out ≡ bbcheck (take n job) = ap (take t.result) t.ensures.memory ∙ text_first (take n job) (replicate text_space 0) t.result space t.ensures.size in
    let checked : Checked _ _ _ _ t.result = record {
      input = take n job;
      short = omega (arith, length-take n job, k);
      read = c.in_ok-n.ensures.bytes;
      whole = λ h. c.in_ok-n.ensures.end (omega (arith, length-take n job, k, h));
      wrote = subst (Appends _ _) text c.in_ok-write_all.ensures.bytes;
      size_is = all_shown (take n job) _ space t.ensures.size;
    } in
    record {
      printed = record { input = checked.input; short = checked.short; size_is = checked.size_is };
      text = text_of_all _ _ _ _ checked;
      checked = checked;
      stopped = tt;
    }

on_err : {T E P : Type 0} (r : Result T E) → P → OnErr r P
on_err (Ok v) p = tt
on_err (Err e) p = p

-- all had been read before the write that failed
pub returns-in_err-write_all-clause-stopped : goal.returns-in_err-write_all-clause-stopped
returns-in_err-write_all-clause-stopped g c =
    let job = c.read_full.new.buf in
    let n = c.in_ok-n.n in
    let k : length job ≡ memory + 1 = c.read_full.auto.buf ∙ length-replicate {A = ℕ} (memory + 1) 0 in
    on_err c.from_residual-in_err-write_all.result (record {
      input = take n job;
      short = omega (arith, length-take n job, k);
      read = c.in_ok-n.ensures.bytes;
      unwritten = inr (λ h. c.in_ok-n.ensures.end (omega (arith, length-take n job, k, h)));
    })
