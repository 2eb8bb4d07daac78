-- Laws of the buckets: the newest row of each, and the walk through one. Assumes nothing.
use mathlib.Core.Path.{◌≡◌, refl, sym, ap, ap₂, ◌∙◌}
use mathlib.Core.Bool.{Bool, true, false, cond}
use mathlib.Core.List.{◌++◌}
use Rattle.std.specs.Prelude.{Option, None as none, Some as some, unwrap_or}
use Prim.Native.Nat.{ℕ, zero, suc, ◌+◌, ◌*◌, ◌-◌, ◌/◌, ◌%◌, ◌≤◌, ◌<◌}
use native.Mathlib.Nat.{not-suc-le-zero, mod-lt}
use native.Mathlib.Decide.{dec_lt, dec_le, ℕ_discrete}
use native.Mathlib.Numerals.{add-one}
use native.Mathlib.Omega.{arith}
use lib.Dec.{eqb, ltb}
use lib.ListN.{drop, get_or, length, length-append, length-drop, take}
use lib.Seq.{drop_at, take_all}
use Rattle.std.proofs.lemmas.List.{take-append-le}
use borrow.Author.Tests.{eq-eqb, le-ltb, lt-ltb, ne_eqb}
use Rattle.theory.specs.Record.{Bytes, little_endian}
use Rattle.terms.specs.Framing.{record_at}
use Rattle.rows.specs.Layout.{link_at, missing, number_at, offset_at, row_size}
use Rattle.rows.specs.Rows.{kept_as, place_from, place_of, row_record}
use Rattle.table.specs.Buckets.{Sought, TableOf, bucket_of, first_in, fold, hash_from, hash_of, head_at, multiplier, newest, row_bucket, seed_in, unless_missing}
use Rattle.table.specs.Falls.{Falls}
use Rattle.rows.proofs.RowLaws.{place_end, place_found, place_next, row_before, row_least}

-- ---- the newest row

module _ (f : ℕ → ℕ) (j : ℕ) where
  pub newest_here : (n : ℕ) → f n ≡ j → newest f j (n + 1) ≡ n + 1
  unfolding newest
  newest_here n e = rw (add-one, eq-eqb (f n) j e)

  pub newest_other : (n : ℕ) → (f n ≡ j → ⊥) → newest f j (n + 1) ≡ newest f j n
  unfolding newest
  newest_other n e = rw (add-one, ne_eqb (f n) j e)

  pub newest_low : (n : ℕ) → newest f j n ≤ n
  unfolding newest
  newest_low zero = omega arith
  newest_low (suc n) = go (eqb (f n) j) (newest_low n)
    where
      go : (t : Bool) → newest f j n ≤ n → cond t (suc n) (newest f j n) ≤ suc n
      go true h = omega arith
      go false h = omega arith

  -- after the newest there is none ..
  pub newest_none : (n k : ℕ) → newest f j n ≤ k → k < n → f k ≡ j → ⊥
  unfolding newest
  newest_none zero k a b e = not-suc-le-zero b
  newest_none (suc n) k a b e = go (ℕ_discrete (f n) j) (λ x y. newest_none n k x y e)
    where
      go : Dec (f n ≡ j) → (newest f j n ≤ k → k < n → ⊥) → ⊥
      go (yes q) ih =
          let z : cond (eqb (f n) j) (suc n) (newest f j n) ≡ suc n = rw (eq-eqb (f n) j q) in
          omega arith
      go (no q) ih =
          let z : cond (eqb (f n) j) (suc n) (newest f j n) ≡ newest f j n = rw (ne_eqb (f n) j q) in
          let d : k ≡ n → ⊥ = λ r. q (ap f (sym r) ∙ e) in
          ih (omega arith) (omega (arith, d))

  -- .. and it is one
  pub newest_at : (n k : ℕ) → newest f j n ≡ suc k → f k ≡ j
  unfolding newest
  newest_at zero k e = absurd (omega arith)
  newest_at (suc n) k e = go (ℕ_discrete (f n) j) (λ x. newest_at n k x)
    where
      go : Dec (f n ≡ j) → (newest f j n ≡ suc k → f k ≡ j) → f k ≡ j
      go (yes q) ih =
          let z : cond (eqb (f n) j) (suc n) (newest f j n) ≡ suc n = rw (eq-eqb (f n) j q) in
          let r : k ≡ n = omega arith in
          ap f r ∙ q
      go (no q) ih =
          let z : cond (eqb (f n) j) (suc n) (newest f j n) ≡ newest f j n = rw (ne_eqb (f n) j q) in
          ih (sym z ∙ e)

  pub newest_all : (n : ℕ) → ((k : ℕ) → k < n → f k ≡ j) → newest f j n ≡ n
  unfolding newest
  newest_all zero h = refl
  newest_all (suc n) h = rw (eq-eqb (f n) j (h n (omega arith)))

pub newest_same : (f g : ℕ → ℕ) (j n : ℕ) → ((k : ℕ) → k < n → g k ≡ f k) → newest g j n ≡ newest f j n
unfolding newest
newest_same f g j zero h = refl
newest_same f g j (suc n) h = rw (h n (omega arith), newest_same f g j n (λ k l. h k (omega arith)))

-- ---- the buckets

-- a word more
pub hash_turn : (m h w : ℕ) {s : Bytes} (x rest : Bytes) → s ≡ x ++ rest → length x ≡ 2 → w ≡ number_at x 0 2
    → hash_from m (length s / 2) h s ≡ hash_from m (length rest / 2) (fold ((h + w) * m)) rest
unfolding hash_from
hash_turn m h w {s} x rest a l e =
    let q : length s / 2 ≡ suc (length rest / 2) = omega (arith, ap length a, length-append x rest) in
    let front : number_at s 0 2 ≡ w = ap (λ (y : Bytes). number_at y 0 2) a ∙ ap little_endian (take-append-le 2 x rest (omega arith)) ∙ sym e in
    let left : drop 2 s ≡ rest = ap (drop 2) a ∙ drop_at x rest 2 l in
    rw q (ap₂ (λ (v : ℕ) (y : Bytes). hash_from m (length rest / 2) (fold ((h + v) * m)) y) front left)

pub hash_short : (m : ℕ) (s : Bytes) → length s < 4 → 0 ≡ hash_of m s
unfolding hash_of
hash_short m s h = sym (rw (lt-ltb (length s) 4 h))

pub hash_start : (m : ℕ) (s : Bytes) {k : ℕ} {rest : Bytes} → 4 ≤ length s → k ≡ get_or s 2 0 → rest ≡ take (length s - 4) (drop 4 s)
    → hash_of m s ≡ hash_from m (length rest / 2) (k * 65536) rest
unfolding hash_of
hash_start m s {rest = rest} h e r =
    let all : rest ≡ drop 4 s = r ∙ take_all (length s - 4) (drop 4 s) (omega (arith, length-drop 4 s)) in
    rw (le-ltb (length s) 4 h, e, all, length-drop 4 s)

pub hash_last : (m h : ℕ) (s : Bytes) → length s < 2 → hash_from m (length s / 2) h s ≡ h % 2147483648
unfolding hash_from
hash_last m h s l =
    let q : length s / 2 ≡ 0 = omega arith in
    rw q

-- the products of the hash fit, and what they are folded to stays small
pub hash_fits : (h w m : ℕ) → h ≤ 4295032832 → w < 65536 → m ≤ 1073741824 → (h + w) * m ≤ 4611826754842001408
hash_fits h w m a b c =
    let q : (h + w) * m ≤ 4295098367 * m = row_least m (let z : h + w ≤ 4295098367 = omega arith in z) in
    omega arith

pub fold_low : (h w m : ℕ) → h ≤ 4295032832 → w < 65536 → m ≤ 1073741824 → fold ((h + w) * m) ≤ 4295032832
fold_low h w m a b c = let q = hash_fits h w m a b c in let d = mod-lt ((h + w) * m) (let z : 0 < 2147483648 = omega arith in z) in omega arith

hash_low_from : (m q h : ℕ) (x : Bytes) → hash_from m q h x < 2147483648
unfolding hash_from
hash_low_from m zero h x = mod-lt h (omega arith)
hash_low_from m (suc q) h x = hash_low_from m q (fold ((h + number_at x 0 2) * m)) (drop 2 x)

hash_low : (m : ℕ) (x : Bytes) → hash_of m x < 2147483648
unfolding hash_of
hash_low m x = go (ltb (length x) 4)
  where
    go : (b : Bool) → cond b 0 (hash_from m ((length x - 4) / 2) (get_or x 2 0 * 65536) (drop 4 x)) < 2147483648
    go true = omega arith
    go false = hash_low_from m ((length x - 4) / 2) (get_or x 2 0 * 65536) (drop 4 x)

scaled : (h c : ℕ) → h < 2147483648 → 0 < c → h * c / 2147483648 < c
scaled h c a b = let r : h * c + c ≤ 2147483648 * c = row_before c a in omega arith

pub bucket_below : (work : Bytes) (c : ℕ) (x : Bytes) → 0 < c → bucket_of work c x < c
unfolding bucket_of
bucket_below work c x h = scaled (hash_of (multiplier (seed_in work)) x) c (hash_low (multiplier (seed_in work)) x) h

pub bucket_none : (work : Bytes) (c : ℕ) (x : Bytes) → c ≡ 0 → bucket_of work c x ≡ 0
unfolding bucket_of
bucket_none work c x e = rw e (omega arith)

bucket_at : (work after : Bytes) (c : ℕ) (x : Bytes) → seed_in after ≡ seed_in work → bucket_of after c x ≡ bucket_of work c x
unfolding bucket_of
bucket_at work after c x e = rw e

-- memories with one seed have the same buckets
pub bucket_same : (work after : Bytes) (c : ℕ) (x : Bytes) → (0 < c → seed_in after ≡ seed_in work) → bucket_of after c x ≡ bucket_of work c x
bucket_same work after c x e = go (ℕ_discrete c 0)
  where
    go : Dec (c ≡ 0) → bucket_of after c x ≡ bucket_of work c x
    go (yes z) = bucket_none after c x z ∙ sym (bucket_none work c x z)
    go (no z) = bucket_at work after c x (e (omega (arith, z)))

-- the newest row, with a head and without
pub first_within : (l : ℕ) (work : Bytes) (n start c j : ℕ) → j < c → first_in l work n start c j ≡ head_at l work start j
unfolding first_in
first_within l work n start c j h = rw (lt-ltb j c h)

pub first_outside : (l : ℕ) (work : Bytes) (n start c j : ℕ) → c ≤ j → first_in l work n start c j ≡ n
unfolding first_in
first_outside l work n start c j h = rw (le-ltb j c h)

row_none : (l : ℕ) (job work : Bytes) (c k : ℕ) → c ≡ 0 → row_bucket l job work c k ≡ 0
unfolding row_bucket
row_none l job work c k z = bucket_none work c (row_record l job work k) z

-- what is read is the newest row of its bucket
pub first_newest : {l : ℕ} {job work : Bytes} {n start c : ℕ} (x : Bytes) → TableOf l job work n start c
    → first_in l work n start c (bucket_of work c x) ≡ newest (row_bucket l job work c) (bucket_of work c x) n
first_newest {l} {job} {work} {n} {start} {c} x table = go (ℕ_discrete c 0)
  where
    go : Dec (c ≡ 0) → first_in l work n start c (bucket_of work c x) ≡ newest (row_bucket l job work c) (bucket_of work c x) n
    go (yes z) =
        let e = bucket_none work c x z in
        first_outside l work n start c (bucket_of work c x) (omega arith)
        ∙ sym (newest_all (row_bucket l job work c) (bucket_of work c x) n (λ k h. row_none l job work c k z ∙ sym e))
    go (no z) =
        let h : bucket_of work c x < c = bucket_below work c x (omega (arith, z)) in
        first_within l work n start c (bucket_of work c x) h ∙ table.heads (bucket_of work c x) h

pub sought_from : {l : ℕ} {job work : Bytes} {n start c j first : ℕ} (x : Bytes) → TableOf l job work n start c → j ≡ bucket_of work c x → first ≡ first_in l work n start c j
    → Sought l job work n first x
sought_from {l} {job} {work} {n} {start} {c} x table e f = record {
  start = start;
  c = c;
  table = table;
  first_is = f ∙ ap (λ (i : ℕ). first_in l work n start c i) e ∙ first_newest x table;
}

-- ---- the search in the list of kept records

module _ (l : ℕ) (job work : Bytes) (n : ℕ) (x : Bytes) where
  place_skip : (k : ℕ) → k ≤ n → ((j : ℕ) → j < k → x ≡ record_at job (offset_at l work j) → ⊥)
      → place_of x (kept_as l job work n) ≡ place_from (k + 2) x (drop k (kept_as l job work n))
  place_skip zero h f = refl
  place_skip (suc k) h f =
      let e : suc (k + 2) ≡ suc k + 2 = omega arith in
      place_skip k (omega arith) (λ j l. f j (omega arith))
      ∙ place_next l job work n x (k + 2) k h (f k (omega arith))
      ∙ ap (λ (m : ℕ). place_from m x (drop (suc k) (kept_as l job work n))) e

  pub place_none : ((j : ℕ) → j < n → x ≡ record_at job (offset_at l work j) → ⊥) → place_of x (kept_as l job work n) ≡ missing
  place_none f = place_skip n (omega arith) f ∙ place_end l job work n x (n + 2) n (omega arith)

  pub place_only : (k : ℕ) → k < n → x ≡ record_at job (offset_at l work k) → ((j : ℕ) → j < k → x ≡ record_at job (offset_at l work j) → ⊥)
      → place_of x (kept_as l job work n) ≡ k + 2
  place_only k h e f = place_skip k (omega arith) f ∙ place_found l job work n x (k + 2) k h e

-- ---- the walk through a bucket

-- `held` names the newest row of x's bucket that is still to be seen, and no row from it on has x
pub record Seeking (l : ℕ) (job work : Bytes) (n : ℕ) (x : Bytes) (held : ℕ) : Type 0 where
  pub start : ℕ
  pub c : ℕ
  pub table : TableOf l job work n start c
  pub low : held ≤ n
  pub here : (k : ℕ) → held ≡ suc k → row_bucket l job work c k ≡ bucket_of work c x
  pub passed : (k : ℕ) → held ≤ k → k < n → x ≡ row_record l job work k → ⊥

same_bucket : (l : ℕ) (job work x : Bytes) (c k : ℕ) → x ≡ row_record l job work k → row_bucket l job work c k ≡ bucket_of work c x
unfolding row_bucket
same_bucket l job work x c k e = ap (λ (y : Bytes). bucket_of work c y) (sym e)

module _ {l : ℕ} {job work : Bytes} {n : ℕ} {x : Bytes} where
  pub seek_start : {first : ℕ} → Sought l job work n first x → Seeking l job work n x first
  seek_start {first} s = record {
    start = s.start;
    c = s.c;
    table = s.table;
    low = omega (arith, s.first_is, newest_low (row_bucket l job work s.c) (bucket_of work s.c x) n);
    here = λ k e. newest_at (row_bucket l job work s.c) (bucket_of work s.c x) n k (sym s.first_is ∙ e);
    passed = λ k a b e. newest_none (row_bucket l job work s.c) (bucket_of work s.c x) n k (omega (arith, s.first_is)) b (same_bucket l job work x s.c k e);
  }

  module _ {held : ℕ} (s : Seeking l job work n x held) where
    -- the rows from there on can be walked through
    pub seek_falls : Falls l work held
    seek_falls = record {
      sized = s.table.rows.link_length;
      inside = λ k h. let r : k * row_size l + row_size l ≤ n * row_size l = row_before (row_size l) (let z : k < n = omega (arith, s.low) in z) in omega (arith, s.table.rows.room);
      earlier = λ k h. omega (arith, s.table.links k (omega (arith, s.low)), newest_low (row_bucket l job work s.c) (row_bucket l job work s.c k) k);
    }

    pub seek_none : held ≡ 0 → place_of x (kept_as l job work n) ≡ missing
    seek_none z = place_none l job work n x (λ k h. s.passed k (omega arith) h)

    module _ (more : held ≡ 0 → ⊥) where
      row_below : held - 1 < n
      row_below = omega (arith, s.low, more)

      pub seek_row : held - 1 < n
      seek_row = row_below

      pub seek_found : {at : ℕ} → at ≡ offset_at l work (held - 1) → x ≡ record_at job at → held - 1 + 2 ≡ place_of x (kept_as l job work n)
      seek_found {at} e q =
          let r : x ≡ record_at job (offset_at l work (held - 1)) = q ∙ ap (λ (o : ℕ). record_at job o) e in
          sym (place_only l job work n x (held - 1) row_below r
          (λ i h p. let same_row : i ≡ held - 1 = s.table.distinct i (held - 1) (omega (arith, row_below)) row_below (sym p ∙ r) in omega arith))

      bucket_here : row_bucket l job work s.c (held - 1) ≡ bucket_of work s.c x
      bucket_here = s.here (held - 1) (omega (arith, more))

      pub seek_next : {at next : ℕ} → at ≡ offset_at l work (held - 1) → next ≡ link_at l work (held - 1) → (x ≡ record_at job at → ⊥) → Seeking l job work n x next
      seek_next {at} {next} e f other =
          let f_is : next ≡ newest (row_bucket l job work s.c) (bucket_of work s.c x) (held - 1)
          = f ∙ s.table.links (held - 1) row_below ∙ ap (λ (j : ℕ). newest (row_bucket l job work s.c) j (held - 1)) bucket_here in
          record {
            start = s.start;
            c = s.c;
            table = s.table;
            low = omega (arith, row_below, f_is, newest_low (row_bucket l job work s.c) (bucket_of work s.c x) (held - 1));
            here = λ k q. newest_at (row_bucket l job work s.c) (bucket_of work s.c x) (held - 1) k (sym f_is ∙ q);
            passed = λ k a b q. go f_is k a b q (dec_lt k (held - 1)) (dec_le held k);
          }
        where
          go : next ≡ newest (row_bucket l job work s.c) (bucket_of work s.c x) (held - 1) → (k : ℕ) → next ≤ k → k < n → x ≡ row_record l job work k
              → Dec (k < held - 1) → Dec (held ≤ k) → ⊥
          go f_is k a b q (yes h) d = newest_none (row_bucket l job work s.c) (bucket_of work s.c x) (held - 1) k (omega arith) h (same_bucket l job work x s.c k q)
          go f_is k a b q (no h) (yes d) = s.passed k d b q
          go f_is k a b q (no h) (no d) =
              let r : k ≡ held - 1 = omega (arith, more) in
              other (q ∙ ap (λ (o : ℕ). record_at job o) (ap (offset_at l work) r ∙ sym e))

-- ---- a place as an Option

pub told_some : {p q : ℕ} → p ≡ q → (p ≡ missing → ⊥) → some p ≡ unless_missing q
unfolding unless_missing
told_some {p} {q} e d = rw (← e, ne_eqb p missing d)

pub told_none : {q : ℕ} → q ≡ missing → none ≡ unless_missing q
unfolding unless_missing
told_none {q} e = rw (eq-eqb q missing e)

module _ {r : Option ℕ} {q : ℕ} (told : r ≡ unless_missing q) where
  pub told_found : {p : ℕ} → r ≡ some p → (p ≡ q) × (p ≡ missing → ⊥)
  told_found {p} f = go (ℕ_discrete q missing)
    where
      go : Dec (q ≡ missing) → (p ≡ q) × (p ≡ missing → ⊥)
      go (yes m) = let z : some p ≡ none = sym f ∙ told ∙ sym (told_none m) in cc
      go (no d) =
          let z : some p ≡ some q = sym f ∙ told ∙ sym (told_some refl d) in
          let s : p ≡ q = cc in
          (s, λ m. d (sym s ∙ m))

  pub told_missing : r ≡ none → q ≡ missing
  told_missing f = go (ℕ_discrete q missing)
    where
      go : Dec (q ≡ missing) → q ≡ missing
      go (yes m) = m
      go (no d) = let z : none ≡ some q = sym f ∙ told ∙ sym (told_some refl d) in cc

  -- the number that a gate is
  pub told_number : {p : ℕ} → p ≡ unwrap_or r missing → p ≡ q
  told_number {p} f = go (ℕ_discrete q missing)
    where
      go : Dec (q ≡ missing) → p ≡ q
      go (yes m) = f ∙ ap (λ (o : Option ℕ). unwrap_or o missing) (told ∙ sym (told_none m)) ∙ sym m
      go (no d) = f ∙ ap (λ (o : Option ℕ). unwrap_or o missing) (told ∙ sym (told_some refl d))
