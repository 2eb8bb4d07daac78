-- Numbers in bytes, the lowest first: the library's readings and ours.
use mathlib.Core.Path.{◌≡◌, refl, sym, ap, ap₂, ◌∙◌}
use mathlib.Core.List.{[], ◌∷◌, ◌++◌}
use Prim.Native.Nat.{ℕ, zero, suc, min, ◌+◌, ◌-◌, ◌*◌, ◌/◌, ◌%◌, ◌^◌, ◌<◌, ◌≤◌}
use native.Mathlib.Nat.{div-one, div-div-eq-div-mul, pow-succ', pow-le-pow_right}
use native.Mathlib.Decide.{dec_le}
use native.Mathlib.Omega.{arith}
use mir.Syntax.{Width, w8, w16, w32, w64, w128}
use lib.ListN.{length, take, drop, get_or, drop_of_length-le, length-append, length-drop}
use lib.Seq.{take_all}
use borrow.Rule.Slice.PartMut.{put_mid}
use Rattle.std.specs.Int.{byte_len, byte_at, byte_worth, bytes_low_first, sum_through, from_le_bytes, to_le_bytes}
use Rattle.theory.specs.Record.{AllBytes, Bytes, bytes_of, little_endian}

-- ---- the library's reading
highest : (k : ℕ) (bs : Bytes) → little_endian (take (suc k) bs) ≡ little_endian (take k bs) + get_or bs k 0 * 256 ^ k
highest zero [] = refl
highest zero (b ∷ bs) = omega arith
highest (suc k) [] = omega arith
highest (suc k) (b ∷ bs) =
    let e : get_or bs k 0 * 256 ^ suc k ≡ 256 * (get_or bs k 0 * 256 ^ k) = rw pow-succ' (omega arith) in
    omega (arith, highest k bs, e)

summed : (k : ℕ) (bs : Bytes) → sum_through (λ i. byte_worth i (get_or bs i 0)) k ≡ little_endian (take (suc k) bs)
summed zero [] = refl
summed zero (b ∷ bs) = omega arith
summed (suc k) bs = rw (summed k bs) (sym (highest (suc k) bs))

pub from_le : (w : Width) (bs : Bytes) → from_le_bytes w bs ≡ little_endian (take (byte_len w) bs)
from_le w8 bs = summed 0 bs
from_le w16 bs = summed 1 bs
from_le w32 bs = summed 3 bs
from_le w64 bs = summed 7 bs
from_le w128 bs = summed 15 bs

-- ---- the library's bytes of a number
bytes_from : (k i n : ℕ) → bytes_low_first i k n ≡ bytes_of k (n / 256 ^ i)
bytes_from zero i n = refl
bytes_from (suc k) i n =
    let e : 256 ^ suc i ≡ 256 ^ i * 256 = rw pow-succ' (omega arith) in
    ap₂ (λ (b : ℕ) (bs : Bytes). b ∷ bs) (byte i) (bytes_from k (suc i) n ∙ ap (bytes_of k) (ap (λ (p : ℕ). n / p) e ∙ sym (div-div-eq-div-mul n (256 ^ i) 256)))
  where
    byte : (i : ℕ) → byte_at i n ≡ n / 256 ^ i % 256
    byte zero = ap (λ (m : ℕ). m % 256) (sym (div-one n))
    byte (suc i) = refl

pub to_le : (w : Width) (n : ℕ) → to_le_bytes w n ≡ bytes_of (byte_len w) n
to_le w n = bytes_from (byte_len w) 0 n ∙ ap (bytes_of (byte_len w)) (div-one n)

-- ---- zeros above a number
zeros_above : (bs zs : Bytes) → little_endian zs ≡ 0 → little_endian (bs ++ zs) ≡ little_endian bs
zeros_above [] zs h = h
zeros_above (b ∷ bs) zs h = ap (λ (n : ℕ). b + 256 * n) (zeros_above bs zs h)

zeros_left : (k : ℕ) (zs : Bytes) → little_endian zs ≡ 0 → little_endian (drop k zs) ≡ 0
zeros_left zero zs h = h
zeros_left (suc k) [] h = refl
zeros_left (suc k) (z ∷ zs) h = zeros_left k zs (omega (arith, h))

-- eight bytes that were zeros, of which the first k are stored
pub padded : {k : ℕ} (bs zs : Bytes) → length zs ≡ 8 → little_endian zs ≡ 0 → length bs ≡ k → k ≤ 8 → from_le_bytes w64 (put_mid 0 k zs bs) ≡ little_endian bs
padded {k} bs zs l h e f =
    from_le w64 (bs ++ drop k zs)
    ∙ ap little_endian (take_all 8 (bs ++ drop k zs) (omega (arith, length-append bs (drop k zs), length-drop k zs, l, e, f)))
    ∙ zeros_above bs (drop k zs) (zeros_left k zs h)

-- ---- a number of n bytes is below 256 ^ n
pub below : (n : ℕ) (bs : Bytes) → AllBytes bs → little_endian (take n bs) < 256 ^ n
below zero bs h = omega arith
below (suc n) [] h = let l : 0 ≤ suc n = omega arith in let q : 256 ^ 0 ≤ 256 ^ suc n = pow-le-pow_right (omega arith) l in omega arith
below (suc n) (b ∷ bs) h = rw pow-succ' (omega (arith, below n bs h.1, h.0))

-- ---- the n bytes from a place on, as far as they are there
short_take : (n : ℕ) (bs : Bytes) → take (min n (length bs)) bs ≡ take n bs
short_take n bs = go (dec_le n (length bs))
  where
    go : Dec (n ≤ length bs) → take (min n (length bs)) bs ≡ take n bs
    go (yes h) = let e : min n (length bs) ≡ n = omega arith in rw e
    go (no h) = let e : min n (length bs) ≡ length bs = omega arith in rw e (take_all (length bs) bs (omega arith) ∙ sym (take_all n bs (omega arith)))

short_drop : (at : ℕ) (s : Bytes) → drop (min at (length s)) s ≡ drop at s
short_drop at s = go (dec_le at (length s))
  where
    go : Dec (at ≤ length s) → drop (min at (length s)) s ≡ drop at s
    go (yes h) = let e : min at (length s) ≡ at = omega arith in rw e
    go (no h) = let e : min at (length s) ≡ length s = omega arith in rw e (drop_of_length-le s {i = length s} (omega arith) ∙ sym (drop_of_length-le s {i = at} (omega arith)))

pub bytes_there : (s : Bytes) (at n : ℕ) {start size : ℕ} → start ≡ min at (length s) → size ≡ min n (length (take (length s - start) (drop start s)))
    → take size (take (length s - start) (drop start s)) ≡ take n (drop at s)
bytes_there s at n {start} p q =
    let rest : Bytes = take (length s - start) (drop start s) in
    rw q (short_take n rest ∙ ap (take n) (take_all (length s - start) (drop start s) (omega (arith, length-drop start s)) ∙ rw p (short_drop at s)))
