-- Laws of the rows: numbers in bytes, the list of kept records, the search in it, and what a stored row changes.
use mathlib.Core.Path.{◌≡◌, refl, sym, ap, ap₂, subst, ◌∙◌}
use mathlib.Core.Bool.{Bool, true, false, ◌&&◌, cond}
use mathlib.Core.Logic.{◌⊎◌, inl, inr, ⊎_elim}
use mathlib.Core.List.{[], ◌∷◌, ◌++◌, append_assoc, append-nil}
use borrow.Rule.Slice.PartMut.{put_mid, Post-is}
use Prim.Native.Nat.{ℕ, zero, suc, ◌+◌, ◌*◌, ◌-◌, ◌/◌, ◌%◌, ◌^◌, ◌≤◌, ◌<◌}
use native.Mathlib.Nat.{not-suc-le-zero, add-zero, mul-le-mul_right, pow-le-pow_right}
use native.Mathlib.Decide.{dec_lt, ℕ_discrete}
use native.Mathlib.Numerals.{add-one}
use native.Mathlib.Omega.{arith}
use lib.Dec.{eqb}
use lib.ListN.{length-append, length-take, length-drop, get_or-append, drop_of_length-le, drop, get_or, length, set, take}
use lib.Seq.{length-take-le, sets, drop-cons, get_or-drop, get_or_at, get_or-set_other, length-sets, sets-eq, take_all, take_at, take-nil, drop_at, drop-drop, take-append-le}
use borrow.Author.Tests.{eq-eqb, eqb-true, ne_eqb}
use borrow.Author.Count.{below_more}
use Rattle.theory.specs.Record.{Bytes, extent, little_endian, bytes_of, number_length}
use Rattle.terms.specs.Framing.{record_at}
use Rattle.rows.specs.Layout.{link_at, link_bytes, link_size, measure_at, missing, number_at, offset_at, offset_bytes, row_size}
use Rattle.rows.specs.Rows.{Rows, column, kept_as, place_from, row_bytes, row_record, stored_link, stored_row}
use Rattle.theory.specs.Term.{same_numbers}
use Rattle.theory.specs.Limit.{first_terms}
use Rattle.theory.proofs.Written.{number_exact}
use Rattle.terms.specs.Bodies.{Length}
use Rattle.terms.proofs.Numbers.{place_small, short_length, long_length}

-- ---- numbers in bytes

-- a number is its bytes: where these are the same, so is it
pub number_same : (len : ℕ) (s t : Bytes) (at : ℕ) → ((i : ℕ) → i < len → get_or s (at + i) 0 ≡ get_or t (at + i) 0) → number_at s at len ≡ number_at t at len
number_same zero s t at h = refl
number_same (suc len) s t at h =
    first len s at ∙ ap₂ (λ (x y : ℕ). x + 256 * y) (ap (λ (k : ℕ). get_or s k 0) (sym (add-zero at)) ∙ h 0 (omega arith) ∙ ap (λ (k : ℕ). get_or t k 0) (add-zero at))
    (number_same len s t (at + 1) (λ i l. let e : at + 1 + i ≡ at + suc i = omega arith in rw e (h (suc i) (omega arith))))
    ∙ sym (first len t at)
  where
    digit : (m : ℕ) (xs : Bytes) → little_endian (take (suc m) xs) ≡ get_or xs 0 0 + 256 * little_endian (take m (drop 1 xs))
    digit m [] = rw take-nil
    digit m (x ∷ xs) = refl

    first : (m : ℕ) (s : Bytes) (at : ℕ) → number_at s at (suc m) ≡ get_or s at 0 + 256 * number_at s (at + 1) m
    first m s at = digit m (drop at s) ∙ rw (get_or-drop at s 0 0, add-zero, drop-drop 1 at s)

-- the part of s that is read
pub part_whole : {whole : Bytes} (s : Bytes) (at len : ℕ) → whole ≡ take (at + len - at) (drop at s) → whole ≡ take len (drop at s)
part_whole s at len w = w ∙ ap (λ (k : ℕ). take k (drop at s)) (let m : at + len - at ≡ len = omega arith in m)

pub part_length : {whole : Bytes} (s : Bytes) (at len : ℕ) → whole ≡ take (at + len - at) (drop at s) → at + len ≤ length s → length whole ≡ len
part_length s at len w h = rw (part_whole s at len w) (length-take-le len (drop at s) (omega (arith, length-drop at s)))

-- the bytes of a number are stored one by one
pub put_turn : (s : Bytes) (len i rest : ℕ) → i < len
    → sets s i (bytes_of (len - i) rest) ≡ sets (set s i (rest % 256)) (i + 1) (bytes_of (len - (i + 1)) (rest / 256))
put_turn s len i rest h =
    let e : len - i ≡ suc (len - (i + 1)) = omega arith in
    let f : i + 1 ≡ suc i = omega arith in
    rw (e, f)

-- and none is left
pub put_done : (s : Bytes) (len i rest : ℕ) → len ≤ i → sets s i (bytes_of (len - i) rest) ≡ s
put_done s len i rest h = let e : len - i ≡ 0 = omega arith in rw e

-- a part of s that is written is stored into s
pub part_put : (s bs : Bytes) (at len : ℕ) → at + len ≤ length s → length bs ≡ len → put_mid at (at + len - at) s bs ≡ sets s at bs
part_put s bs at len h e =
    let f : at + len ≡ at + length bs = omega (arith, e) in
    ap (λ (y : Bytes). take at s ++ (bs ++ y)) (Post-is at (at + len) s (omega arith) ∙ ap (λ (j : ℕ). drop j s) f)
    ∙ sym (append_assoc (take at s) bs (drop (at + length bs) s)) ∙ sym (sets-eq bs s at (omega (arith, e)))

-- and so are stores into it
pub part_stored : (s bs : Bytes) (at len : ℕ) → at + len ≤ length s → length bs ≡ len → put_mid at (at + len - at) s (sets (take (at + len - at) (drop at s)) 0 bs) ≡ sets s at bs
part_stored s bs at len h e =
    let m : at + len - at ≡ len = omega arith in
    let part : Bytes = take (at + len - at) (drop at s) in
    let l : length part ≡ length bs = rw m (length-take-le len (drop at s) (omega (arith, length-drop at s))) ∙ sym e in
    ap (put_mid at (at + len - at) s)
    (sets-eq bs part 0 (omega (arith, l)) ∙ ap (λ (xs : Bytes). bs ++ xs) (drop_of_length-le part {i = 0 + length bs} (omega (arith, l))) ∙ append-nil bs)
    ∙ part_put s bs at len h e

-- one run of stores after the other
pub sets_append : (s : Bytes) (i : ℕ) (a b : Bytes) → sets s i (a ++ b) ≡ sets (sets s i a) (i + length a) b
sets_append s i [] b = rw add-zero
sets_append s i (x ∷ a) b =
    let e : i + suc (length a) ≡ suc i + length a = omega arith in
    sets_append (set s i x) (suc i) a b ∙ ap (λ (j : ℕ). sets (sets (set s i x) (suc i) a) j b) (sym e)

-- ---- a list with one entry for each row

module _ {A : Type 0} (f : ℕ → A) where
  pub length_column : (n : ℕ) → length (column f n) ≡ n
  unfolding column
  length_column zero = refl
  length_column (suc n) = length-append (column f n) (f n ∷ []) ∙ ap (λ (m : ℕ). m + 1) (length_column n) ∙ add-one n

  pub column_more : (n : ℕ) → column f (n + 1) ≡ column f n ++ (f n ∷ [])
  unfolding column
  column_more n = rw add-one

  pub get_or_column : (d : A) (n k : ℕ) → k < n → get_or (column f n) k d ≡ f k
  unfolding column
  get_or_column d zero k h = absurd (not-suc-le-zero h)
  get_or_column d (suc n) k h = go (λ l. get_or_column d n k l) (dec_lt k n)
    where
      go : (k < n → get_or (column f n) k d ≡ f k) → Dec (k < n) → get_or (column f n ++ (f n ∷ [])) k d ≡ f k
      go ih (yes l) = get_or-append (column f n) (f n ∷ []) d k (rw length_column l) ∙ ih l
      go ih (no l) =
          let e : k ≡ n = omega arith in
          get_or_at (column f n) (f n) [] d k (length_column n ∙ sym e) ∙ ap f (sym e)

  pub column_take : (m d : ℕ) → column f m ≡ take m (column f (m + d))
  column_take m zero = rw add-zero (sym (take_all m (column f m) (omega (arith, length_column m))))
  column_take m (suc d) =
      let e : m + suc d ≡ m + d + 1 = omega arith in
      rw (e, column_more (m + d), take-append-le m (column f (m + d)) (f (m + d) ∷ []) (omega (arith, length_column (m + d)))) (column_take m d)

  pub column_same : (g : ℕ → A) (n : ℕ) → ((k : ℕ) → k < n → f k ≡ g k) → column f n ≡ column g n
  unfolding column
  column_same g zero h = refl
  column_same g (suc n) h = rw (column_same g n (λ k l. h k (omega arith)), h n (omega arith))

pub column_added : {A : Type 0} (f g : ℕ → A) (n : ℕ) (x : A) → ((k : ℕ) → k < n → g k ≡ f k) → g n ≡ x → column g (n + 1) ≡ column f n ++ (x ∷ [])
column_added f g n x h e = column_more g n ∙ rw (column_same g f n h, e)

-- ---- the list of kept records

module _ (b : ℕ) (job work : Bytes) (n : ℕ) where
  pub length_kept : length (kept_as b job work n) ≡ n
  unfolding kept_as
  length_kept = length_column (row_record b job work) n

  pub get_or_kept : (k : ℕ) → k < n → get_or (kept_as b job work n) k [] ≡ row_record b job work k
  unfolding kept_as
  get_or_kept k h = get_or_column (row_record b job work) [] n k h

-- ---- equality of lists, as a test

pub and_first : (a b : Bool) → (a && b) ≡ true → a ≡ true
and_first true b e = refl
and_first false b e = e

pub and_second : (a b : Bool) → (a && b) ≡ true → b ≡ true
and_second true b e = e
and_second false b e = cc

pub same_refl : (x : Bytes) → same_numbers x x ≡ true
same_refl [] = refl
same_refl (a ∷ x) = rw (eq-eqb a a refl) (same_refl x)

pub same_sound : (x y : Bytes) → same_numbers x y ≡ true → x ≡ y
same_sound [] [] e = refl
same_sound [] (b ∷ y) e = cc
same_sound (a ∷ x) [] e = cc
same_sound (a ∷ x) (b ∷ y) e =
    let p : a ≡ b = eqb-true a b (and_first (eqb a b) (same_numbers x y) e) in
    let q : x ≡ y = same_sound x y (and_second (eqb a b) (same_numbers x y) e) in
    cc

pub same_equal : {x y : Bytes} → x ≡ y → same_numbers x y ≡ true
same_equal {x} e = rw (← e) (same_refl x)

pub same_differ : (x y : Bytes) → (x ≡ y → ⊥) → same_numbers x y ≡ false
same_differ x y h = go (same_numbers x y) refl
  where
    go : (b : Bool) → same_numbers x y ≡ b → same_numbers x y ≡ false
    go true e = absurd (h (same_sound x y e))
    go false e = e

-- ---- the search

module _ (b : ℕ) (job work : Bytes) (n : ℕ) (x : Bytes) (p : ℕ) where
  pub place_end : (k : ℕ) → n ≤ k → place_from p x (drop k (kept_as b job work n)) ≡ missing
  unfolding place_from
  place_end k h = rw (drop_of_length-le (kept_as b job work n) {i = k} (omega (arith, length_kept b job work n)))

  module _ (k : ℕ) (h : k < n) where
    split : drop k (kept_as b job work n) ≡ record_at job (offset_at b work k) ∷ drop (suc k) (kept_as b job work n)
    split =
        drop-cons (kept_as b job work n) k [] (rw length_kept h)
        ∙ ap (λ (r : Bytes). r ∷ drop (suc k) (kept_as b job work n)) (get_or_kept b job work n k h)

    pub place_found : x ≡ record_at job (offset_at b work k) → place_from p x (drop k (kept_as b job work n)) ≡ p
    unfolding place_from
    place_found e = rw (split, ← e, same_refl x)

    pub place_next : (x ≡ record_at job (offset_at b work k) → ⊥)
        → place_from p x (drop k (kept_as b job work n)) ≡ place_from (suc p) x (drop (suc k) (kept_as b job work n))
    unfolding place_from
    place_next e = rw (split, same_differ x (record_at job (offset_at b work k)) e)

-- ---- a record in the job

module _ (job x : Bytes) (at : ℕ) (inside : at + extent (drop at job) ≤ length job) where
  pub length_record : length (record_at job at) ≡ extent (drop at job)
  length_record = simp (length-take, length-drop) (omega arith)

  pub record_long : (length x ≡ extent (drop at job) → ⊥) → x ≡ record_at job at → ⊥
  record_long h e = h (ap length e ∙ length_record)

-- ---- a run of stores

pub sets_before : (l : Bytes) (i : ℕ) (vs : Bytes) (j d : ℕ) → j < i → get_or (sets l i vs) j d ≡ get_or l j d
sets_before l i [] j d h = refl
sets_before l i (a ∷ vs) j d h = sets_before (set l i a) (suc i) vs j d (omega arith) ∙ get_or-set_other l i j a d (omega arith)

pub sets_after : (l : Bytes) (i : ℕ) (vs : Bytes) (j d : ℕ) → i + length vs ≤ j → get_or (sets l i vs) j d ≡ get_or l j d
sets_after l i [] j d h = refl
sets_after l i (a ∷ vs) j d h = sets_after (set l i a) (suc i) vs j d (omega arith) ∙ get_or-set_other l i j a d (omega arith)

-- ---- numbers beside a run of stores, and one that is stored

pub number_before : (l : Bytes) (i : ℕ) (vs : Bytes) (at len : ℕ) → at + len ≤ i → number_at (sets l i vs) at len ≡ number_at l at len
number_before l i vs at len h = number_same len (sets l i vs) l at (λ k b. sets_before l i vs (at + k) 0 (omega arith))

pub number_after : (l : Bytes) (i : ℕ) (vs : Bytes) (at len : ℕ) → i + length vs ≤ at → number_at (sets l i vs) at len ≡ number_at l at len
number_after l i vs at len h = number_same len (sets l i vs) l at (λ k b. sets_after l i vs (at + k) 0 (omega arith))

pub length_bytes : (k x : ℕ) → length (bytes_of k x) ≡ k
length_bytes zero x = refl
length_bytes (suc k) x = ap suc (length_bytes k (x / 256))

pub number_stored : (l : Bytes) (at len v : ℕ) → at + len ≤ length l → v < 256 ^ len → number_at (sets l at (bytes_of len v)) at len ≡ v
number_stored l at len v h small =
    let e = length_bytes len v in
    ap little_endian
    (ap (λ (xs : Bytes). take len (drop at xs)) (sets-eq (bytes_of len v) l at (omega arith))
    ∙ ap (take len) (ap (drop at) (append_assoc (take at l) (bytes_of len v) (drop (at + length (bytes_of len v)) l)) ∙ drop_at (take at l) _ at (length-take at l ∙ omega arith))
    ∙ take_at (bytes_of len v) _ len e)
    ∙ number_exact len v small

-- ---- the bytes of a link

pub link_cases : (b : ℕ) → ((b ≡ 4) × (link_bytes b ≡ 3)) ⊎ ((b ≡ 4 → ⊥) × (link_bytes b ≡ b))
unfolding link_bytes
link_cases b = go (ℕ_discrete b 4)
  where
    go : Dec (b ≡ 4) → ((b ≡ 4) × (cond (eqb b 4) 3 b ≡ 3)) ⊎ ((b ≡ 4 → ⊥) × (cond (eqb b 4) 3 b ≡ b))
    go (yes e) = inl (e, rw (eq-eqb b 4 e))
    go (no f) = inr (f, rw (ne_eqb b 4 f))

pub link_least : (b : ℕ) → link_bytes b ≤ b
link_least b = ⊎_elim (λ w. omega arith) (λ w. omega arith) (link_cases b)

pub link_whole : {b : ℕ} → Length b → Length (link_bytes b)
link_whole {b} l =
    let s = l.some_bytes in let f = l.few_bytes in
    record { some_bytes = ⊎_elim (λ w. omega arith) (λ w. omega arith) (link_cases b); few_bytes = omega (arith, link_least b) }

-- the bytes of a link where numbers have two, and where they have four
pub short_sized : Length 2
short_sized = record { some_bytes = omega arith; few_bytes = omega arith }

pub long_sized : Length 4
long_sized = record { some_bytes = omega arith; few_bytes = omega arith }

pub link_short : 2 ≡ link_bytes 2
unfolding link_bytes
link_short = refl

pub link_long : 3 ≡ link_bytes 4
unfolding link_bytes
link_long = refl

-- a link has as many as a number can have
pub link_sized : {b l : ℕ} → l ≡ link_bytes b → Length b → Length l
link_sized e sized = subst Length (sym e) (link_whole sized)

-- a link has two bytes where a term's number has two, else three
pub short_link : (job : Bytes) {r : ℕ} → r ≡ number_length job → r ≡ 2 → 2 ≡ link_size job
unfolding link_bytes
short_link job e f = ap link_bytes (short_length job e f)

pub long_link : (job : Bytes) {r : ℕ} → r ≡ number_length job → (r ≡ 2 → ⊥) → 3 ≡ link_size job
unfolding link_bytes
long_link job e f = ap link_bytes (long_length job e f)

pub link_back : {b : ℕ} → Length (link_bytes b) → Length b
link_back {b} l =
    let s = l.some_bytes in let f = l.few_bytes in
    record { some_bytes = omega (arith, link_least b); few_bytes = ⊎_elim (λ w. omega arith) (λ w. omega arith) (link_cases b) }

-- a place that a link can name is one that a number can name
pub link_holds : (b x : ℕ) → x < 256 ^ link_bytes b → x < 256 ^ b
link_holds b x h = let q : 256 ^ link_bytes b ≤ 256 ^ b = pow-le-pow_right (omega arith) (link_least b) in omega arith

-- ---- rows of r bytes
-- an earlier row ends where a later one starts, or before
pub row_before : (r : ℕ) {k n : ℕ} → k < n → k * r + r ≤ n * r
row_before r {k} {n} h = let e : suc k * r ≤ n * r = mul-le-mul_right r h in let f : suc k * r ≡ k * r + r = omega arith in omega arith

pub row_least : (r : ℕ) {k n : ℕ} → k ≤ n → k * r ≤ n * r
row_least r h = mul-le-mul_right r h

-- ---- a row that is stored

module _ (b : ℕ) (work : Bytes) (n offset measure link : ℕ) (room : n * row_size b + row_size b ≤ length work) where
  pub length_stored : length (stored_row b work n offset measure link) ≡ length work
  unfolding stored_row
  length_stored = length-sets work (n * row_size b) (row_bytes b offset measure link)

  length_row : length (row_bytes b offset measure link) ≡ row_size b
  unfolding row_bytes
  length_row = let e = length_bytes b measure in let g = length_bytes b link in let f = length-append (bytes_of b measure) (bytes_of b link) in omega arith

  -- its three parts, stored one after the other
  pub stored_parts : (p q r : Bytes) → p ≡ sets work (n * row_size b) (bytes_of offset_bytes offset) → q ≡ sets p (n * row_size b + 3) (bytes_of b measure)
      → r ≡ sets q (n * row_size b + 3 + b) (bytes_of b link) → r ≡ stored_row b work n offset measure link
  unfolding stored_row row_bytes
  stored_parts p q r x y z =
      z
      ∙ ap (λ (j : ℕ). sets q j (bytes_of b link)) (ap (λ (j : ℕ). n * row_size b + 3 + j) (sym (length_bytes b measure)))
      ∙ ap (λ (l : Bytes). sets l (n * row_size b + 3 + length (bytes_of b measure)) (bytes_of b link)) y
      ∙ sym (sets_append p (n * row_size b + 3) (bytes_of b measure) (bytes_of b link))
      ∙ ap (λ (l : Bytes). sets l (n * row_size b + 3) (bytes_of b measure ++ bytes_of b link)) x
      ∙ sym (sets_append work (n * row_size b) (bytes_of offset_bytes offset) (bytes_of b measure ++ bytes_of b link))

  -- the bytes before it stay, and those after it
  number_before_stored : (at len : ℕ) → at + len ≤ n * row_size b → number_at (stored_row b work n offset measure link) at len ≡ number_at work at len
  unfolding stored_row
  number_before_stored at len h = number_before work (n * row_size b) (row_bytes b offset measure link) at len h

  pub number_after_stored : (at len : ℕ) → n * row_size b + row_size b ≤ at → number_at (stored_row b work n offset measure link) at len ≡ number_at work at len
  unfolding stored_row
  number_after_stored at len h = number_after work (n * row_size b) (row_bytes b offset measure link) at len (let e = length_row in omega arith)

  pub offset_before : (k : ℕ) → k < n → offset_at b (stored_row b work n offset measure link) k ≡ offset_at b work k
  unfolding offset_at
  offset_before k h = number_before_stored (k * row_size b) 3 (omega (arith, row_before (row_size b) h))

  pub measure_before : (k : ℕ) → k < n → measure_at b (stored_row b work n offset measure link) k ≡ measure_at b work k
  unfolding measure_at
  measure_before k h = number_before_stored (k * row_size b + 3) b (omega (arith, row_before (row_size b) h))

  pub link_before : (k : ℕ) → k < n → link_at b (stored_row b work n offset measure link) k ≡ link_at b work k
  unfolding link_at
  link_before k h = number_before_stored (k * row_size b + 3 + b) b (omega (arith, row_before (row_size b) h))

  -- its own parts
  first_part : Bytes
  first_part = sets work (n * row_size b) (bytes_of offset_bytes offset)

  second_part : Bytes
  second_part = sets first_part (n * row_size b + 3) (bytes_of b measure)

  third_part : Bytes
  third_part = sets second_part (n * row_size b + 3 + b) (bytes_of b link)

  in_parts : stored_row b work n offset measure link ≡ third_part
  unfolding first_part second_part third_part
  in_parts = sym (stored_parts first_part second_part third_part refl refl refl)

  pub offset_stored : offset < 16777216 → offset_at b (stored_row b work n offset measure link) n ≡ offset
  unfolding offset_at first_part second_part third_part
  offset_stored h =
      ap (λ (l : Bytes). number_at l (n * row_size b) 3) in_parts
      ∙ number_before second_part (n * row_size b + 3 + b) (bytes_of b link) (n * row_size b) 3 (omega arith)
      ∙ number_before first_part (n * row_size b + 3) (bytes_of b measure) (n * row_size b) 3 (omega arith)
      ∙ number_stored work (n * row_size b) 3 offset (omega arith) (omega arith)

  pub measure_stored : measure < 256 ^ b → measure_at b (stored_row b work n offset measure link) n ≡ measure
  unfolding measure_at first_part second_part third_part
  measure_stored h =
      ap (λ (l : Bytes). number_at l (n * row_size b + 3) b) in_parts
      ∙ number_before second_part (n * row_size b + 3 + b) (bytes_of b link) (n * row_size b + 3) b (omega arith)
      ∙ number_stored first_part (n * row_size b + 3) b measure (rw length-sets (omega arith)) h

  pub link_stored : link < 256 ^ b → link_at b (stored_row b work n offset measure link) n ≡ link
  unfolding link_at first_part second_part third_part
  link_stored h =
      ap (λ (l : Bytes). number_at l (n * row_size b + 3 + b) b) in_parts
      ∙ number_stored second_part (n * row_size b + 3 + b) b link (rw (length-sets, length-sets) (omega arith)) h

  pub rows_stored : (job : Bytes) → Rows b job work n → first_terms + suc n < 256 ^ b → offset < 16777216 → offset + extent (drop offset job) ≤ length job
      → Rows b job (stored_row b work n offset measure link) (n + 1)
  rows_stored job rows few small inside = record {
    link_length = rows.link_length;
    short = rows.short;
    few = let e : first_terms + (n + 1) ≡ first_terms + suc n = omega arith in rw e few;
    room = rw length_stored (omega arith);
    inside = below_more _ n (λ k h. rw (offset_before k h) (rows.inside k h)) (rw (offset_stored small) inside);
  }

-- ---- a link that is stored

module _ (l : ℕ) (work : Bytes) (k v : ℕ) (room : k * row_size l + row_size l ≤ length work) where
  pub length_linked : length (stored_link l work k v) ≡ length work
  unfolding stored_link
  length_linked = length-sets work (k * row_size l + 3 + l) (bytes_of l v)

  -- what stands elsewhere stays: before the link, or from the next row on
  number_elsewhere : (at len : ℕ) → (at + len ≤ k * row_size l + 3 + l) ⊎ (k * row_size l + row_size l ≤ at) → number_at (stored_link l work k v) at len ≡ number_at work at len
  unfolding stored_link
  number_elsewhere at len (inl h) = number_before work (k * row_size l + 3 + l) (bytes_of l v) at len h
  number_elsewhere at len (inr h) = number_after work (k * row_size l + 3 + l) (bytes_of l v) at len (let e = length_bytes l v in omega arith)

  -- the offset and the measure of any row, and the link of another
  beside : (j at len : ℕ) → at + len ≤ row_size l → (j ≡ k → at + len ≤ 3 + l) → number_at (stored_link l work k v) (j * row_size l + at) len ≡ number_at work (j * row_size l + at) len
  beside j at len h here = number_elsewhere (j * row_size l + at) len (go (dec_lt j k) (dec_lt k j))
    where
      go : Dec (j < k) → Dec (k < j) → (j * row_size l + at + len ≤ k * row_size l + 3 + l) ⊎ (k * row_size l + row_size l ≤ j * row_size l + at)
      go (yes b) d = inl (let r : j * row_size l + row_size l ≤ k * row_size l = row_before (row_size l) b in omega arith)
      go (no b) (yes d) = inr (let r : k * row_size l + row_size l ≤ j * row_size l = row_before (row_size l) d in omega arith)
      go (no b) (no d) =
          let e : j ≡ k = omega arith in
          inl (let r : j * row_size l ≡ k * row_size l = ap (λ (i : ℕ). i * row_size l) e in let g = here e in omega arith)

  pub offset_linked : (j : ℕ) → offset_at l (stored_link l work k v) j ≡ offset_at l work j
  unfolding offset_at
  offset_linked j = rw add-zero at (beside j 0 3 (omega arith) (λ e. omega arith))

  pub measure_linked : (j : ℕ) → measure_at l (stored_link l work k v) j ≡ measure_at l work j
  unfolding measure_at
  measure_linked j = beside j 3 l (omega arith) (λ e. omega arith)

  pub link_other : (j : ℕ) → (j ≡ k → ⊥) → link_at l (stored_link l work k v) j ≡ link_at l work j
  unfolding link_at
  link_other j d =
      let e : j * row_size l + (3 + l) ≡ j * row_size l + 3 + l = omega arith in
      rw e at (beside j (3 + l) l (omega arith) (λ q. absurd (d q)))

  pub link_here : v < 256 ^ l → link_at l (stored_link l work k v) k ≡ v
  unfolding link_at stored_link
  link_here h = number_stored work (k * row_size l + 3 + l) l v (omega arith) h

-- ---- what the invariant says of numbers: places fit into 32 bits, and row k lies in the work memory
module _ {b : ℕ} {job work : Bytes} {n : ℕ} (rows : Rows b job work n) where
  pub rows_small : first_terms + n < 4294967296
  rows_small = place_small b (first_terms + n) rows.link_length.few_bytes rows.few

  pub row_room : {k : ℕ} → k < n → k * row_size b + row_size b ≤ length work
  row_room h = let r = rows.room in omega (arith, row_before (row_size b) h)
