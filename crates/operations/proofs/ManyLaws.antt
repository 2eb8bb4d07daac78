-- Operations of one argument or more, one argument after the other.
use Rattle.std.proofs.Common.{◌≡◌, ℕ, zero, suc, ◌+◌, ◌*◌, ◌%◌, ◌^◌, ◌<◌, ◌≤◌, ◌&&◌, ◌||◌, eqb, sym, refl, ap, ◌∙◌, subst, ap₂, mod-lt, add-one, arith, pow_pos, pow_mono, pow-add, shl_exact}
use lib.Arith.{digits_lt}
use lib.Bits.{bit_and, bit_or, bit_xor, and_lt, or_lt, xor_lt, and_zero_l, and_zero_r, and_self, or_zero_l, or_zero_r, or_self}
use Rattle.theory.specs.Value.{Val, truth, number, value_width, number_of, bit, num2, concat2, and_n, or_n, xor_n, add_n, mul_n}
use Rattle.operations.specs.declared.apply.Many.{Many}
use Rattle.operations.specs.declared.apply.Many.TheVariants as M
use Rattle.operations.specs.declared.apply.Word.{Word}
use Rattle.operations.specs.Width.{Wide}
use Rattle.operations.specs.Apply.{bits_by, val_by, start_width, Starts, Started, Extends, Extended}
use Rattle.operations.proofs.ApplyLaws.{bit_back}

-- a word by its parts
abbrev pub word : ℕ → ℕ → Word
word w v = record { width = w; value = v }

-- a width that is no Bool's
pub val_word : (w x : ℕ) → 1 ≤ w → val_by w x ≡ number w x
val_word zero x h = absurd (omega arith)
val_word (suc w) x h = refl

pub bits_word : (w : ℕ) → 1 ≤ w → bits_by w ≡ w
bits_word zero h = absurd (omega arith)
bits_word (suc w) h = refl

-- a number of at most 64 bits
bits_64 : (n : ℕ) {r : ℕ} → 1 ≤ n → n ≤ 64 → r < 2 ^ bits_by n → r < 18446744073709551616
bits_64 zero h k l = absurd (omega arith)
bits_64 (suc n) h k l = let p = pow_mono {i = suc n} {j = 64} k in omega arith

-- ---- the first argument
starts : (op : Many) (m x : ℕ) → Starts op m x → Started op m x (word (start_width op m) x)
starts M.And zero x h = record { is = refl; width_is = refl; below = h.first.below }
starts M.And (suc m) x h = absurd (omega (arith, h.fits))
starts M.Or zero x h = record { is = refl; width_is = refl; below = h.first.below }
starts M.Or (suc m) x h = absurd (omega (arith, h.fits))
starts M.Bits zero x h = record { is = ap (number 1) (bit_back x h.first.below); width_is = refl; below = h.first.below }
starts M.Bits (suc m) x h = absurd (omega (arith, h.fits))
starts M.BvAnd m x h = record { is = refl; width_is = refl; below = h.first.below }
starts M.BvOr m x h = record { is = refl; width_is = refl; below = h.first.below }
starts M.BvXor m x h = record { is = refl; width_is = refl; below = h.first.below }
starts M.Add m x h = record { is = refl; width_is = refl; below = h.first.below }
starts M.Mul m x h = record { is = refl; width_is = refl; below = h.first.below }
starts M.Concat m x h = record { is = refl; width_is = refl; below = h.first.below }

-- in a case of the code
pub start_at : {m x : ℕ} (op u : Many) → op ≡ u → Starts op m x → Started op m x (word (start_width u m) x)
start_at {m} {x} op u e h = subst (λ (z : Many). Started op m x (word (start_width z m) x)) e (starts op m x h)

-- ---- one more argument
-- Bools
and_bits : (v x : ℕ) → v < 2 → x < 2 → eqb (bit_and v x) 1 ≡ eqb v 1 && eqb x 1
and_bits zero x h k = ap (λ (z : ℕ). eqb z 1) (and_zero_l x)
and_bits (suc zero) zero h k = ap (λ (z : ℕ). eqb z 1) (and_zero_r 1)
and_bits (suc zero) (suc zero) h k = ap (λ (z : ℕ). eqb z 1) (and_self 1)
and_bits (suc (suc v)) x h k = absurd (omega arith)
and_bits (suc zero) (suc (suc x)) h k = absurd (omega arith)

or_bits : (v x : ℕ) → v < 2 → x < 2 → eqb (bit_or v x) 1 ≡ eqb v 1 || eqb x 1
or_bits zero x h k = ap (λ (z : ℕ). eqb z 1) (or_zero_l x)
or_bits (suc zero) zero h k = ap (λ (z : ℕ). eqb z 1) (or_zero_r 1)
or_bits (suc zero) (suc zero) h k = ap (λ (z : ℕ). eqb z 1) (or_self 1)
or_bits (suc (suc v)) x h k = absurd (omega arith)
or_bits (suc zero) (suc (suc x)) h k = absurd (omega arith)

extend_and : (w v m x : ℕ) → Extends M.And (word w v) m x → Extended M.And (word w v) m x (word w (bit_and v x))
extend_and zero v zero x h = record { is = ap truth (and_bits v x h.before h.next); width_is = refl; below = and_lt 1 v x h.before h.next }
extend_and (suc w) v m x h = absurd (omega (arith, h.room.0))
extend_and zero v (suc m) x h = absurd (omega (arith, h.room.1.0))

extend_or : (w v m x : ℕ) → Extends M.Or (word w v) m x → Extended M.Or (word w v) m x (word w (bit_or v x))
extend_or zero v zero x h = record { is = ap truth (or_bits v x h.before h.next); width_is = refl; below = or_lt 1 v x h.before h.next }
extend_or (suc w) v m x h = absurd (omega (arith, h.room.0))
extend_or zero v (suc m) x h = absurd (omega (arith, h.room.1.0))

-- words of one width
module _ (w v x : ℕ) (wide : Wide w) where
  word_is : (f : ℕ → ℕ → ℕ → ℕ) (r m : ℕ) → m ≡ w → r ≡ f w v x → val_by w r ≡ num2 f (val_by w v) (val_by m x)
  word_is f r m e g =
      let a = val_word w v wide.least in
      val_word w r wide.least ∙ ap (number w) g ∙ sym (ap₂ (num2 f) a (ap (λ (k : ℕ). val_by k x) e ∙ val_word w x wide.least))

  word_below : (r : ℕ) → r < 2 ^ w → r < 2 ^ bits_by w
  word_below r h = subst (λ (k : ℕ). r < 2 ^ k) (sym (bits_word w wide.least)) h

  below_word : (r : ℕ) (m : ℕ) → m ≡ w → r < 2 ^ bits_by m → r < 2 ^ w
  below_word r m e h = subst (λ (k : ℕ). r < 2 ^ k) (ap bits_by e ∙ bits_word w wide.least) h

extend_bvand : (w v m x : ℕ) → Extends M.BvAnd (word w v) m x → Extended M.BvAnd (word w v) m x (word w (bit_and v x))
unfolding and_n
extend_bvand w v m x h =
    let d = h.room.0 in
    let e = h.room.1.0 in
    record { is = word_is w v x d and_n (bit_and v x) m e refl; width_is = refl; below = word_below w v x d _ (and_lt w v x (below_word w v x d v w refl h.before) (below_word w v x d x m e h.next)) }

extend_bvor : (w v m x : ℕ) → Extends M.BvOr (word w v) m x → Extended M.BvOr (word w v) m x (word w (bit_or v x))
unfolding or_n
extend_bvor w v m x h =
    let d = h.room.0 in
    let e = h.room.1.0 in
    record { is = word_is w v x d or_n (bit_or v x) m e refl; width_is = refl; below = word_below w v x d _ (or_lt w v x (below_word w v x d v w refl h.before) (below_word w v x d x m e h.next)) }

extend_bvxor : (w v m x : ℕ) → Extends M.BvXor (word w v) m x → Extended M.BvXor (word w v) m x (word w (bit_xor v x))
unfolding xor_n
extend_bvxor w v m x h =
    let d = h.room.0 in
    let e = h.room.1.0 in
    record { is = word_is w v x d xor_n (bit_xor v x) m e refl; width_is = refl; below = word_below w v x d _ (xor_lt w v x (below_word w v x d v w refl h.before) (below_word w v x d x m e h.next)) }

add_below : (w v x : ℕ) → add_n w v x < 2 ^ w
unfolding add_n
add_below w v x = mod-lt (v + x) (pow_pos w)

mul_below : (w v x : ℕ) → mul_n w v x < 2 ^ w
unfolding mul_n
mul_below w v x = mod-lt (v * x) (pow_pos w)

extend_add : (w v m x r : ℕ) → r ≡ add_n w v x → Extends M.Add (word w v) m x → Extended M.Add (word w v) m x (word w r)
extend_add w v m x r g h =
    let d = h.room.0 in
    record { is = word_is w v x d add_n r m h.room.1.0 g; width_is = refl; below = word_below w v x d r (subst (λ (z : ℕ). z < 2 ^ w) (sym g) (add_below w v x)) }

extend_mul : (w v m x r : ℕ) → r ≡ mul_n w v x → Extends M.Mul (word w v) m x → Extended M.Mul (word w v) m x (word w r)
extend_mul w v m x r g h =
    let d = h.room.0 in
    record { is = word_is w v x d mul_n r m h.room.1.0 g; width_is = refl; below = word_below w v x d r (subst (λ (z : ℕ). z < 2 ^ w) (sym g) (mul_below w v x)) }

-- one bit more
bits_exact : (w x : ℕ) → w < 64 → x < 2 → x * 2 ^ w % 18446744073709551616 ≡ x * 2 ^ w
bits_exact w x h k = shl_exact {a = x} 1 w 64 k (omega arith)

extend_bits : (w v m x : ℕ) → Extends M.Bits (word w v) m x → Extended M.Bits (word w v) m x (word (w + 1) (v + x * 2 ^ w % 18446744073709551616))
extend_bits w v zero x h =
    let one = h.room.0 in
    let few : w + 1 ≤ 64 = h.room.1.1 in
    let k : x < 2 = h.next in
    let b : v < 2 ^ w = subst (λ (z : ℕ). v < 2 ^ z) (bits_word w one) h.before in
    let s : v + x * 2 ^ w % 18446744073709551616 ≡ v + x * 2 ^ w = ap (λ (z : ℕ). v + z) (bits_exact w x (omega arith) k) in
    record {
      is = val_word (w + 1) _ (omega arith) ∙ ap₂ number (add-one w) (s ∙ ap (λ (z : ℕ). v + z * 2 ^ w) (bit_back x k))
          ∙ sym (ap (λ (u : Val). number (suc (value_width u)) (number_of u + bit (eqb x 1) * 2 ^ value_width u)) (val_word w v one));
      width_is = refl;
      below = subst (λ (z : ℕ). z < 2 ^ bits_by (w + 1)) (sym s) (subst (λ (z : ℕ). v + x * 2 ^ w < 2 ^ z) (sym (bits_word (w + 1) (omega arith))) (fits x k b));
    }
  where
    fits : (x : ℕ) → x < 2 → v < 2 ^ w → v + x * 2 ^ w < 2 ^ (w + 1)
    fits zero k b = let p : 2 ^ (w + 1) ≡ 2 ^ w * 2 ^ 1 = pow-add 2 w 1 in omega arith
    fits (suc zero) k b = let p : 2 ^ (w + 1) ≡ 2 ^ w * 2 ^ 1 = pow-add 2 w 1 in omega arith
    fits (suc (suc x)) k b = absurd (omega arith)
extend_bits w v (suc m) x h = absurd (omega (arith, h.room.1.0))

-- joined
extend_concat : (w v m x : ℕ) → Extends M.Concat (word w v) m x → Extended M.Concat (word w v) m x (word (w + m) (v * 2 ^ m % 18446744073709551616 + x))
extend_concat w v m x h =
    let one = h.room.0 in
    let more = h.room.1.0 in
    let few : w + m ≤ 64 = h.room.1.1 in
    let b : v < 2 ^ w = subst (λ (z : ℕ). v < 2 ^ z) (bits_word w one) h.before in
    let k : x < 2 ^ m = subst (λ (z : ℕ). x < 2 ^ z) (bits_word m more) h.next in
    let s : v * 2 ^ m % 18446744073709551616 + x ≡ v * 2 ^ m + x = ap (λ (z : ℕ). z + x) (shl_exact {a = v} w m 64 b few) in
    record {
      is = val_word (w + m) _ (omega arith) ∙ ap (number (w + m)) s ∙ sym (ap₂ concat2 (val_word w v one) (val_word m x more));
      width_is = refl;
      below = subst (λ (z : ℕ). z < 2 ^ bits_by (w + m)) (sym s)
          (subst (λ (z : ℕ). v * 2 ^ m + x < 2 ^ z) (sym (bits_word (w + m) (omega arith))) (rw (pow-add 2 w m) (digits_lt b k)));
    }

-- ---- in a case of the code
pub in_many : {a : Word} {m x : ℕ} (op u : Many) → op ≡ u → Extends op a m x → Extends u a m x
in_many {a} {m} {x} op u e h = subst (λ (z : Many). Extends z a m x) e h

out_many : {a : Word} {m x : ℕ} {r : Word} (op u : Many) → op ≡ u → Extended u a m x r → Extended op a m x r
out_many {a} {m} {x} {r} op u e h = subst (λ (z : Many). Extended z a m x r) (sym e) h

module _ {a : Word} {m x : ℕ} (op : Many) (h : Extends op a m x) where
  pub at_and : op ≡ M.And → Extended op a m x (word a.width (bit_and a.value x))
  at_and e = out_many op M.And e (extend_and a.width a.value m x (in_many op M.And e h))

  pub at_or : op ≡ M.Or → Extended op a m x (word a.width (bit_or a.value x))
  at_or e = out_many op M.Or e (extend_or a.width a.value m x (in_many op M.Or e h))

  pub at_bits : op ≡ M.Bits → Extended op a m x (word (a.width + 1) (a.value + x * 2 ^ a.width % 18446744073709551616))
  at_bits e = out_many op M.Bits e (extend_bits a.width a.value m x (in_many op M.Bits e h))

  pub at_bvand : op ≡ M.BvAnd → Extended op a m x (word a.width (bit_and a.value x))
  at_bvand e = out_many op M.BvAnd e (extend_bvand a.width a.value m x (in_many op M.BvAnd e h))

  pub at_bvor : op ≡ M.BvOr → Extended op a m x (word a.width (bit_or a.value x))
  at_bvor e = out_many op M.BvOr e (extend_bvor a.width a.value m x (in_many op M.BvOr e h))

  pub at_bvxor : op ≡ M.BvXor → Extended op a m x (word a.width (bit_xor a.value x))
  at_bvxor e = out_many op M.BvXor e (extend_bvxor a.width a.value m x (in_many op M.BvXor e h))

  pub at_add : op ≡ M.Add → (r : ℕ) → r ≡ add_n a.width a.value x → Extended op a m x (word a.width r)
  at_add e r g = out_many op M.Add e (extend_add a.width a.value m x r g (in_many op M.Add e h))

  pub at_mul : op ≡ M.Mul → (r : ℕ) → r ≡ mul_n a.width a.value x → Extended op a m x (word a.width r)
  at_mul e r g = out_many op M.Mul e (extend_mul a.width a.value m x r g (in_many op M.Mul e h))

  pub at_concat : op ≡ M.Concat → Extended op a m x (word (a.width + m) (a.value * 2 ^ m % 18446744073709551616 + x))
  at_concat e = out_many op M.Concat e (extend_concat a.width a.value m x (in_many op M.Concat e h))

  -- what the code needs on the way
  pub add_wide : op ≡ M.Add → Wide a.width
  add_wide e = (in_many op M.Add e h).room.0

  pub mul_wide : op ≡ M.Mul → Wide a.width
  mul_wide e = (in_many op M.Mul e h).room.0

  pub bits_room : op ≡ M.Bits → a.width + 1 ≤ 64
  bits_room e = (in_many op M.Bits e h).room.1.1

  pub concat_room : op ≡ M.Concat → (1 ≤ a.width) × (a.width + m ≤ 64)
  concat_room e = ((in_many op M.Concat e h).room.0, (in_many op M.Concat e h).room.1.1)

  pub bits_small : op ≡ M.Bits → a.value + x * 2 ^ a.width % 18446744073709551616 < 18446744073709551616
  bits_small e = bits_64 (a.width + 1) (omega arith) (bits_room e) (at_bits e).below

  pub concat_small : op ≡ M.Concat → a.value * 2 ^ m % 18446744073709551616 + x < 18446744073709551616
  concat_small e = bits_64 (a.width + m) (omega (arith, (concat_room e).0)) (concat_room e).1 (at_concat e).below
