-- From one place of a job to the next.
use mathlib.Core.Path.{◌≡◌, refl, sym, ap, ◌∙◌}
use Prim.Native.Nat.{ℕ, ◌+◌, ◌-◌, ◌≤◌}
use native.Mathlib.Omega.{arith}
use lib.ListN.{drop}
use lib.Seq.{drop-drop}
use Rattle.theory.specs.Record.{Bytes}
use Rattle.writer.specs.declared.places.Writer.{Writer}
use Rattle.writer.specs.Written.{SameMemory, Moved}

-- ---- from place to place
pub past_more : (a b c : Bytes) (m n : ℕ) → m ≤ n → drop n c ≡ drop n b → drop m b ≡ drop m a → drop n c ≡ drop n a
past_more a b c m n h e f =
    let k : n ≡ m + (n - m) = omega arith in
    e ∙ ap (λ (j : ℕ). drop j b) k ∙ sym (drop-drop (n - m) m b) ∙ ap (drop (n - m)) f ∙ drop-drop (n - m) m a ∙ ap (λ (j : ℕ). drop j a) (sym k)

pub same_none : (w : Writer) → SameMemory w w
same_none w = record { out_name = refl; work_name = refl; out_size = refl; work_size = refl }

pub same_on : {a b c : Writer} → SameMemory a b → SameMemory b c → SameMemory a c
same_on p q = record {
  out_name = q.out_name ∙ p.out_name;
  work_name = q.work_name ∙ p.work_name;
  out_size = q.out_size ∙ p.out_size;
  work_size = q.work_size ∙ p.work_size;
}

pub moved_none : (w : Writer) → Moved w w
moved_none w = record { memory = same_none w; grown = omega arith; past = refl }

pub moved_on : {a b c : Writer} → Moved a b → Moved b c → Moved a c
moved_on {a} {b} {c} p q =
    let g = p.grown in
    let h = q.grown in
    record {
      memory = same_on p.memory q.memory;
      grown = omega arith;
      past = past_more a.out.now b.out.now c.out.now b.spot.done c.spot.done h q.past p.past;
    }
