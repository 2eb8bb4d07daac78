-- Laws of a record that is built in an array, number by number.
use mathlib.Core.Path.{◌≡◌, refl, sym, ap, subst, ◌∙◌}
use mathlib.Core.Bool.{Bool, true, false, and-false, cond}
use mathlib.Core.List.{List, [], ◌∷◌, ◌++◌, append_assoc, append-nil}
use Prim.Native.Nat.{ℕ, zero, suc, ◌+◌, ◌*◌, ◌-◌, ◌/◌, ◌%◌, ◌^◌, ◌≤◌, ◌<◌}
use Rattle.std.specs.Prelude.{Option, None as none, Some as some}
use native.Mathlib.Nat.{not-suc-le-zero, le_of_suc-le-suc, mul-le-mul_right}
use native.Mathlib.Numerals.{add-one}
use native.Mathlib.Omega.{arith}
use lib.Dec.{ltb}
use lib.ListN.{length-append, length-replicate, drop, get_or, length, replicate, take}
use lib.Seq.{sets, sets-eq, length-sets, length-take-le, take_at, take-suc, take_all}
use Rattle.std.specs.Int.{to_le_bytes, w32, w64}
use borrow.Author.Tests.{le-ltb, lt-ltb}
use Rattle.theory.specs.Record.{Bytes, bytes_of}
use Rattle.rows.specs.Layout.{missing}
use Rattle.rows.specs.Rows.{place_of}
use Rattle.table.specs.Keys.{few_arguments, list_bytes, key_bytes, Roomy, last_number, all_places, built_length, Built, words_bytes, place_constant, place_indexed, place_list, record_of}
use Rattle.rows.proofs.RowLaws.{and_first, and_second, length_bytes}
use Rattle.terms.specs.Bodies.{Length}
use Rattle.theory.specs.Limit.{number_bytes, value_bytes, max_arguments, long_bytes}

-- ---- the first `at` bytes of the array are p

pub record Written (size : ℕ) (key p : Bytes) (at : ℕ) : Type 0 where
  pub long : length key ≡ size
  pub bytes : take at key ≡ p

take_sets : (l : Bytes) (i : ℕ) (vs : Bytes) → i + length vs ≤ length l → take (i + length vs) (sets l i vs) ≡ take i l ++ vs
take_sets l i vs h =
    ap (λ (xs : Bytes). take (i + length vs) xs) (sets-eq vs l i h)
    ∙ take_at (take i l ++ vs) (drop (i + length vs) l) (i + length vs)
    (length-append (take i l) vs ∙ ap (λ (n : ℕ). n + length vs) (length-take-le i l (omega arith)))

pub written_none : (key : Bytes) → Written (length key) key [] 0
written_none key = record { long = refl; bytes = refl }

pub written_more : {size : ℕ} {key p : Bytes} {at : ℕ} → Written size key p at → (k x : ℕ) → at + k ≤ size → {after : Bytes} → after ≡ sets key at (bytes_of k x)
    → Written size after (p ++ bytes_of k x) (at + k)
written_more {size} {key} {p} {at} w k x h e =
    rw e (record {
      long = length-sets key at (bytes_of k x) ∙ w.long;
      bytes = ap (λ (m : ℕ). take (at + m) (sets key at (bytes_of k x))) (sym (length_bytes k x))
          ∙ take_sets key at (bytes_of k x) (omega (arith, w.long, length_bytes k x)) ∙ ap (λ (l : Bytes). l ++ bytes_of k x) w.bytes;
    })

-- by the array's own length
pub written_own : {size : ℕ} {key p : Bytes} {at : ℕ} → Written size key p at → Written (length key) key p at
written_own w = record { long = refl; bytes = w.bytes }

pub roomy_own : {size b count : ℕ} {key p : Bytes} {at : ℕ} → Written size key p at → Roomy b count size → Roomy b count (length key)
roomy_own {size} {b} {count} w r = subst (Roomy b count) (sym w.long) r

-- ---- the last number

last_small : (k : ℕ) → 0 < suc k → suc k ≤ 4 → 1 * 2 ^ (8 * suc k) % 18446744073709551616 - 1 ≡ last_number (suc k)
unfolding last_number
last_small zero a b = refl
last_small (suc zero) a b = refl
last_small (suc (suc zero)) a b = refl
last_small (suc (suc (suc zero))) a b = refl
last_small (suc (suc (suc (suc k)))) a b = absurd (omega arith)

pub last_is : {b n : ℕ} → Length b → n ≡ b → 1 * 2 ^ (8 * n) % 18446744073709551616 - 1 ≡ last_number b
last_is {b = zero} {n} l e = absurd (omega (arith, l.some_bytes))
last_is {b = suc k} {n} l e = rw e (last_small k l.some_bytes l.few_bytes)

-- ---- a list of numbers

words_bytes_append : (nb : ℕ) (xs ys : List ℕ) → words_bytes nb (xs ++ ys) ≡ words_bytes nb xs ++ words_bytes nb ys
unfolding words_bytes
words_bytes_append nb [] ys = refl
words_bytes_append nb (x ∷ xs) ys =
    ap (λ (l : Bytes). bytes_of nb x ++ l) (words_bytes_append nb xs ys) ∙ sym (append_assoc (bytes_of nb x) (words_bytes nb xs) (words_bytes nb ys))

words_bytes_one : (nb x : ℕ) → words_bytes nb (x ∷ []) ≡ bytes_of nb x
unfolding words_bytes
words_bytes_one nb x = append-nil (bytes_of nb x)

pub words_bytes_length : (nb : ℕ) (xs : List ℕ) → length (words_bytes nb xs) ≡ length xs * nb
unfolding words_bytes
words_bytes_length nb [] = omega arith
words_bytes_length nb (x ∷ xs) =
    length-append (bytes_of nb x) (words_bytes nb xs) ∙ (let e = length_bytes nb x in let f = words_bytes_length nb xs in omega arith)

places_more : (nb : ℕ) (xs : List ℕ) (x : ℕ) → all_places nb xs ≡ true → x < last_number nb → all_places nb (xs ++ (x ∷ [])) ≡ true
unfolding all_places
places_more nb [] x e h = rw (lt-ltb x (last_number nb) h)
places_more nb (y ∷ xs) x e h =
    rw (and_first (ltb y (last_number nb)) (all_places nb xs) e, places_more nb xs x (and_second (ltb y (last_number nb)) (all_places nb xs) e) h)

places_no : (nb : ℕ) (xs : List ℕ) (i : ℕ) → i < length xs → last_number nb ≤ get_or xs i 0 → all_places nb xs ≡ false
unfolding all_places
places_no nb [] i h l = absurd (not-suc-le-zero h)
places_no nb (x ∷ xs) zero h l = rw (le-ltb x (last_number nb) l)
places_no nb (x ∷ xs) (suc i) h l = rw (places_no nb xs i (le_of_suc-le-suc h) l) (and-false (ltb x (last_number nb)))

-- the arguments of a record have few bytes
pub few_words : {nb m : ℕ} → nb ≤ 4 → m ≤ 64 → m * nb ≤ 256
few_words {nb} l h = let p = mul-le-mul_right nb h in omega (arith, p, l)

-- the first arguments of a record are no longer than the array has room for
pub room_for_words : {nb count size : ℕ} (i : ℕ) → Roomy nb count size → i ≤ count → 4 + i * nb ≤ size
room_for_words {nb} {count} i r h = let p : i * nb ≤ count * nb = mul-le-mul_right nb h in omega (arith, r.room)

-- the arrays have room for the records that are built in them
pub few_room : {count : ℕ} → count ≤ few_arguments → Roomy long_bytes count key_bytes
few_room h = record { few = omega arith; room = omega arith }

pub list_room : {count : ℕ} → count ≤ max_arguments → Roomy long_bytes count list_bytes
list_room h = record { few = h; room = omega arith }

pub roomy_less : {count space : ℕ} → Roomy long_bytes count space → Roomy number_bytes count space
roomy_less r = record { few = r.few; room = let p = r.room in omega arith }

pub roomy_new : {b count : ℕ} (space : ℕ) → Roomy b count space → Roomy b count (length (replicate {A = ℕ} space 0))
roomy_new {b} {count} space r = subst (Roomy b count) (sym (length-replicate {A = ℕ} space 0)) r

-- ---- the loop over the numbers: the array has the record's head and the first i of them

pub record Building (size nb kind : ℕ) (xs : List ℕ) (key : Bytes) (at i : ℕ) : Type 0 where
  pub many : i ≤ length xs
  pub far : at ≡ 4 + i * nb
  pub places : all_places nb (take i xs) ≡ true
  pub written : Written size key ((bytes_of number_bytes (2 + length (words_bytes nb xs)) ++ bytes_of number_bytes kind) ++ words_bytes nb (take i xs)) at

pub building_start : {size : ℕ} (nb kind : ℕ) (xs : List ℕ) {key : Bytes} → Written size key (([] ++ bytes_of number_bytes (2 + length xs * nb)) ++ bytes_of number_bytes kind) 4
    → Building size nb kind xs key 4 0
unfolding words_bytes all_places
building_start nb kind xs w = record { many = omega arith; far = omega arith; places = refl; written = rw (words_bytes_length nb xs) w }

pub building_turn : {size nb kind : ℕ} {xs : List ℕ} {key : Bytes} {at i : ℕ} → Building size nb kind xs key at i → Roomy nb (length xs) size → i < length xs
    → (x : ℕ) → x ≡ get_or xs i 0 → x < last_number nb → {after : Bytes} → after ≡ sets key at (bytes_of nb x) → Building size nb kind xs after (at + nb) (i + 1)
building_turn {size} {nb} {kind} {xs} {key} {at} {i} b roomy h x e low {after} stored = record {
  many = omega arith;
  far = omega (arith, b.far);
  places = rw more (places_more nb (take i xs) x b.places low);
  written = rw (more, words_bytes_append, words_bytes_one)
      (rw append_assoc at (written_more b.written nb x (let p = room_for_words (suc i) roomy h in omega (arith, b.far)) stored));
}
  where
    more : take (i + 1) xs ≡ take i xs ++ (x ∷ [])
    more = rw (add-one, take-suc xs i 0 h, e)

-- after the last of them, or where one can't be a place, the record is built or there is none
pub built_all : {size nb kind space : ℕ} {xs : List ℕ} {key : Bytes} {at i : ℕ} → Building size nb kind xs key at i → length xs ≤ i → length key ≡ space
    → Built nb kind xs space key (some at)
unfolding built_length record_of
built_all {size} {nb} {kind} {space} {xs} {key} {at} {i} b h l =
    let t : take i xs ≡ xs = take_all i xs h in
    let all : all_places nb xs ≡ true = ap (all_places nb) (sym t) ∙ b.places in
    let whole : i ≡ length xs = omega (arith, b.many) in
    let far : at ≡ 2 * number_bytes + length xs * nb = b.far ∙ rw whole in
    record { long = l; end_is = rw (all, far); record_is = λ e. ap (λ (m : ℕ). take m key) (sym far) ∙ b.written.bytes ∙ rw t }

pub built_none : {nb kind space : ℕ} {xs : List ℕ} {key : Bytes} (i : ℕ) → i < length xs → last_number nb ≤ get_or xs i 0 → length key ≡ space → Built nb kind xs space key none
unfolding built_length
built_none {nb} {kind} {space} {xs} {key} i h l e =
    let none_fits = places_no nb xs i h l in
    record { long = e; end_is = rw none_fits; record_is = λ all. absurd (let z : ◌≡◌ {A = ℕ} 0 1 = ap (λ (t : Bool). cond t 1 0) (sym none_fits ∙ all) in omega arith) }

-- ---- a record that is built

-- its length
told : Option ℕ → ℕ
told (some n) = n
told none = 0

module _ {nb kind space : ℕ} {xs : List ℕ} {key : Bytes} {r : Option ℕ} (b : Built nb kind xs space key r) where
  pub built_missing : r ≡ none → (rows : List Bytes) → missing ≡ place_list nb kind xs rows
  unfolding built_length place_list told
  built_missing is rows = go (all_places nb xs) (sym is ∙ b.end_is)
    where
      go : (t : Bool) → none ≡ cond t (some (2 * number_bytes + length xs * nb)) none → missing ≡ cond t (place_of (record_of kind (words_bytes nb xs)) rows) missing
      go true e = absurd (let z : ◌≡◌ {A = ℕ} 0 (4 + length xs * nb) = ap told e in omega arith)
      go false e = refl

  module _ {end : ℕ} (is : r ≡ some end) where
    built_fits : (all_places nb xs ≡ true) × (end ≡ 2 * number_bytes + length xs * nb)
    unfolding built_length told
    built_fits = go (all_places nb xs) (sym is ∙ b.end_is)
      where
        go : (t : Bool) → some end ≡ cond t (some (2 * number_bytes + length xs * nb)) none → (t ≡ true) × (end ≡ 2 * number_bytes + length xs * nb)
        go true e = (refl, ap told e)
        go false e = cc

    pub built_inside : Roomy nb (length xs) space → end ≤ space
    built_inside r = omega (arith, built_fits.1, r.room)

    pub built_place : (rows : List Bytes) → place_of (take end key) rows ≡ place_list nb kind xs rows
    unfolding place_list
    built_place rows = rw (built_fits.0, built_fits.1, b.record_is built_fits.0)

-- in an array that was new, of `space` bytes
pub built_new : (space : ℕ) {nb kind end : ℕ} {xs : List ℕ} {key : Bytes} {r : Option ℕ} → Built nb kind xs (length (replicate {A = ℕ} space 0)) key r → r ≡ some end
    → Roomy nb (length xs) space → end ≤ space
built_new space b is r = let i = built_inside b is (roomy_new space r) in let l = length-replicate {A = ℕ} space 0 in omega arith

-- ---- a number's lowest bytes

pub low_bytes : (k x : ℕ) → k ≤ 4 → take k (to_le_bytes w32 x) ≡ bytes_of k x
low_bytes zero x h = refl
low_bytes (suc zero) x h = refl
low_bytes (suc (suc zero)) x h = refl
low_bytes (suc (suc (suc zero))) x h = let e : x / 65536 ≡ x / 256 / 256 = omega arith in rw e refl
low_bytes (suc (suc (suc (suc zero)))) x h =
    let e : x / 65536 ≡ x / 256 / 256 = omega arith in let f : x / 16777216 ≡ x / 256 / 256 / 256 = omega arith in rw (e, f) refl
low_bytes (suc (suc (suc (suc (suc k))))) x h = absurd (omega arith)

-- all eight of a value
value_low : (x : ℕ) → to_le_bytes w64 x ≡ bytes_of value_bytes x
value_low x =
    let a : x / 65536 ≡ x / 256 / 256 = omega arith in
    let b : x / 16777216 ≡ x / 65536 / 256 = omega arith in
    let c : x / 4294967296 ≡ x / 16777216 / 256 = omega arith in
    let d : x / 1099511627776 ≡ x / 4294967296 / 256 = omega arith in
    let e : x / 281474976710656 ≡ x / 1099511627776 / 256 = omega arith in
    let f : x / 72057594037927936 ≡ x / 281474976710656 / 256 = omega arith in
    rw (f, e, d, c, b, a) refl

-- ---- an index and an argument

pub indexed_is : {nb k x : ℕ} (kind index : ℕ) {bs : Bytes} → bs ≡ to_le_bytes w32 x → k ≡ nb → nb ≤ 4 → x < last_number nb → (rows : List Bytes)
    → place_of (record_of kind (bytes_of number_bytes index ++ take k bs)) rows ≡ place_indexed nb kind index x rows
unfolding place_indexed all_places
indexed_is {nb} {k} {x} kind index e f l h rows =
    rw (e, f, low_bytes nb x l, lt-ltb x (last_number nb) h, words_bytes_one nb x) refl

pub indexed_none : (nb x kind index : ℕ) → last_number nb ≤ x → (rows : List Bytes) → missing ≡ place_indexed nb kind index x rows
unfolding place_indexed all_places
indexed_none nb x kind index h rows = rw (le-ltb x (last_number nb) h)

-- ---- a constant

pub constant_is : (kind width value : ℕ) (rows : List Bytes)
    → place_of (record_of kind (bytes_of number_bytes width ++ to_le_bytes w64 value)) rows ≡ place_constant kind width value rows
unfolding place_constant
constant_is kind width value rows = rw (value_low value) refl
