-- Numbers in decimal are what std prints.
use mathlib.Core.Path.{◌≡◌, sym, ◌∙◌}
use mathlib.Core.List.{[], append-nil}
use Prim.Native.Nat.{ℕ, suc, ◌^◌, ◌<◌, ◌≤◌}
use native.Mathlib.Omega.{arith}
use borrow.Author.Tests.{lt-ltb, le-ltb}
use lib.ListN.{length}
use Rattle.std.specs.Fmt as fmt
use Rattle.std.proofs.lemmas.Fmt.{PrependsLastDigit, decimal_from_prepends, length-decimal-le_succ, length-decimal-le}
use Rattle.theory.specs.Program.{digits, decimal}

by_digits : PrependsLastDigit digits
unfolding digits
by_digits = record { one = λ k n acc h. rw (digits, lt-ltb n 10 h); more = λ k n acc h. rw (digits, le-ltb n 10 h) }

-- std prints a number as theory does
pub printed : (n : ℕ) → n < 4294967296 → fmt.decimal n ≡ decimal n
printed n h =
    let f : n < 2 ^ 64 = omega arith in
    let l : length (fmt.decimal n) ≤ suc n = omega (arith, length-decimal-le_succ n f) in
    sym (decimal_from_prepends digits by_digits (suc n) n [] f l ∙ append-nil (fmt.decimal n))

-- a number of two bytes has at most five digits
pub word_short : (n : ℕ) → n < 65536 → length (fmt.decimal n) ≤ 5
word_short n h = length-decimal-le 5 n (omega arith) (omega arith) (omega arith)
