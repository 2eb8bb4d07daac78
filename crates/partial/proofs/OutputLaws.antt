-- The bytes of the asked term's bits, one after the other.
use mathlib.Core.Path.{◌≡◌, sym, ap, subst, ◌∙◌}
use mathlib.Core.List.{List}
use Prim.Native.Nat.{ℕ, suc, ◌+◌, ◌≤◌, ◌<◌}
use native.Mathlib.Numerals.{add-one}
use native.Mathlib.Omega.{arith}
use lib.ListN.{length, set, length-set}
use Rattle.theory.specs.Term.{Term}
use Rattle.theory.specs.Record.{Bytes}
use Rattle.theory.specs.Places.{tree_at}
use Rattle.store.specs.Store.{listed}
use Rattle.sweeps.specs.Known.{Known, known_byte}
use Rattle.counter.specs.Counting.{Holds}
use Rattle.counter.proofs.CountLaws.{holds_more}
use Rattle.ternary.specs.Bits.{Sound, BitOn}
use Rattle.partial.specs.Output.{Output, byte_of, Wrote}

pub record Writing (job work : Bytes) (n : ℕ) (values inputs : Bytes) (asked bits : ℕ) (outputs now : Bytes) (i : ℕ) : Type 0 where
  pub able : Output job work n asked bits outputs
  pub most : i ≤ bits
  pub length_is : length now ≡ length outputs
  pub holds : (input : Term → List Known) → Sound input (listed job work n) job work inputs values (suc asked) → Holds (byte_of input (tree_at (listed job work n) asked)) i outputs now

module _ {job work : Bytes} {n : ℕ} {values inputs : Bytes} {asked bits : ℕ} {outputs : Bytes} where
  module _ {now : Bytes} {i : ℕ} (s : Writing job work n values inputs asked bits outputs now i) (l : i < bits) where
    pub writing_turn : {x : Known} {v : ℕ} → BitOn (listed job work n) job work inputs values asked i x → v ≡ known_byte x → Writing job work n values inputs asked bits outputs (set now i v) (i + 1)
    writing_turn {x} {v} b e = record {
      able = s.able;
      most = omega arith;
      length_is = length-set now i v ∙ s.length_is;
      holds = λ input sound. subst (λ (k : ℕ). Holds (byte_of input (tree_at (listed job work n) asked)) k outputs (set now i v)) (sym (add-one i))
          (holds_more (byte_of input (tree_at (listed job work n) asked)) i v outputs now (omega (arith, s.able.room))
          (e ∙ ap known_byte (b input sound)) (s.holds input sound));
    }

  pub writing_done : {now : Bytes} {i : ℕ} → Writing job work n values inputs asked bits outputs now i → bits ≤ i → Wrote (listed job work n) job work inputs values asked bits outputs now
  writing_done {now} {i} s h = record {
    length_is = s.length_is;
    holds = λ input sound. subst (λ (k : ℕ). Holds (byte_of input (tree_at (listed job work n) asked)) k outputs now) (let z : i ≡ bits = omega (arith, s.most) in z) (s.holds input sound);
  }
