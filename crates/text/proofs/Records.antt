-- The records of a job that grows by a record.
use mathlib.Core.Path.{◌≡◌, refl, sym, ap, ap₂, ◌∙◌}
use mathlib.Core.Bool.{Bool, true, false, ◌&&◌, cond}
use mathlib.Core.List.{List, [], ◌∷◌, ◌++◌, append-nil}
use Prim.Native.Nat.{ℕ, zero, suc, ◌+◌, ◌-◌, ◌≤◌}
use native.Mathlib.Omega.{arith}
use lib.Dec.{T, leb, eqb}
use lib.ListN.{length, take, drop, length-append, length-take, length-drop}
use lib.Seq.{take-append-le, drop-append-le, take_all, drop-length}
use borrow.Author.Tests.{le-leb, leb-true, eq-eqb, ne_eqb}
use Rattle.theory.specs.Limit.{number_bytes, long_bytes}
use Rattle.theory.specs.Term.{same_numbers}
use Rattle.theory.specs.Record.{Bytes, little_endian, word, extent, whole, cut, records_of, total_length, ending, kind_of, step_kind, long_kind, long_record, number_length}
use Rattle.theory.proofs.Same.{same_numbers_eq}
use Rattle.theory.proofs.Positions.{records_whole, records_broken, ends_whole}
use Rattle.text.specs.Writing.{Lone, Clean, terms_of, kept}

-- ---- whole records
and_true : (a b : Bool) → (a && b) ≡ true → (a ≡ true) × (b ≡ true)
and_true true b e = (refl, e)
and_true false b e = absurd (let z : ◌≡◌ {A = ℕ} 0 1 = cc in omega arith)

pub record Stands (bs : Bytes) : Type 0 where
  pub two : 2 ≤ length bs
  pub least : 2 ≤ word bs
  pub all : extent bs ≤ length bs

pub stands : (bs : Bytes) → whole bs ≡ true → Stands bs
stands bs w =
    let a = and_true (leb 2 (length bs)) _ w in
    let b = and_true (leb 2 (word bs)) _ a.1 in
    record { two = leb-true 2 (length bs) a.0; least = leb-true 2 (word bs) b.0; all = leb-true (extent bs) (length bs) b.1 }

pub to_whole : (bs : Bytes) → Stands bs → whole bs ≡ true
to_whole bs s = rw (le-leb 2 (length bs) s.two, le-leb 2 (word bs) s.least, le-leb (extent bs) (length bs) s.all)

-- ---- bytes after a whole record change nothing of it
word_before : (bs cs : Bytes) → 2 ≤ length bs → word (bs ++ cs) ≡ word bs
word_before bs cs h = ap little_endian (take-append-le 2 bs cs h)

pub before_whole : (bs cs : Bytes) → whole bs ≡ true → (whole (bs ++ cs) ≡ true) × (extent (bs ++ cs) ≡ extent bs)
before_whole bs cs w =
    let s = stands bs w in
    let two = s.two in
    let all = s.all in
    let e : word (bs ++ cs) ≡ word bs = word_before bs cs two in
    let l : length (bs ++ cs) ≡ length bs + length cs = length-append bs cs in
    let least = s.least in
    (to_whole (bs ++ cs) (record { two = omega arith; least = omega arith; all = omega arith }), ap (λ (n : ℕ). 2 + n) e)

pub empty_clean : Clean []
unfolding Clean cut
empty_clean = refl

-- a lone record's records
lone_records : (r : Bytes) → Lone r → records_of r ≡ r ∷ []
unfolding cut
lone_records r l =
    records_whole r l.is_whole
    ∙ ap (λ (n : ℕ). take n r ∷ records_of (drop n r)) l.size
    ∙ ap₂ (λ (x y : Bytes). x ∷ records_of y) (take_all (length r) r (omega arith)) (drop-length r)

-- ONE RECORD MORE
grow_none : (r : Bytes) → Lone r → records_of ([] ++ r) ≡ records_of [] ++ (r ∷ [])
unfolding cut
grow_none r l = lone_records r l

grow_first : (n : ℕ) (r : Bytes) → ((x : Bytes) → length x ≤ n → total_length (records_of x) ≡ length x → records_of (x ++ r) ≡ records_of x ++ (r ∷ []))
    → (job : Bytes) → whole job ≡ true → length job ≤ suc n → total_length (records_of job) ≡ length job → records_of (job ++ r) ≡ records_of job ++ (r ∷ [])
grow_first n r ih job w h c =
    let s = stands job w in
    let all = s.all in
    let least = s.least in
    let e = extent job in
    let rest = drop e job in
    let lr : length rest ≡ length job - e = length-drop e job in
    let lt : length (take e job) ≡ e = length-take e job ∙ omega arith in
    let q = records_whole job w in
    let ct : length (take e job) + total_length (records_of rest) ≡ length job = sym (ap total_length q) ∙ c in
    let b2 = before_whole job r w in
    records_whole (job ++ r) b2.0
    ∙ ap (λ (m : ℕ). take m (job ++ r) ∷ records_of (drop m (job ++ r))) b2.1
    ∙ ap₂ (λ (x y : Bytes). x ∷ records_of y) (take-append-le e job r all) (drop-append-le e job r all)
    ∙ ap (λ (rs : List Bytes). take e job ∷ rs) (ih rest (omega arith) (omega arith))
    ∙ ap (λ (rs : List Bytes). rs ++ (r ∷ [])) (sym q)

grow_step : (n : ℕ) (r : Bytes) → Lone r → ((x : Bytes) → length x ≤ n → total_length (records_of x) ≡ length x → records_of (x ++ r) ≡ records_of x ++ (r ∷ []))
    → (job : Bytes) → length job ≤ suc n → total_length (records_of job) ≡ length job → records_of (job ++ r) ≡ records_of job ++ (r ∷ [])
grow_step n r l ih [] h c = grow_none r l
grow_step n r l ih (b ∷ bs) h c = go (whole (b ∷ bs)) refl
  where
    go : (w : Bool) → whole (b ∷ bs) ≡ w → records_of ((b ∷ bs) ++ r) ≡ records_of (b ∷ bs) ++ (r ∷ [])
    go false w = absurd (let z : total_length (records_of (b ∷ bs)) ≡ 0 = ap total_length (records_broken (b ∷ bs) w) in omega arith)
    go true w = grow_first n r ih (b ∷ bs) w h c

grow : (n : ℕ) (r : Bytes) → Lone r → (job : Bytes) → length job ≤ n → total_length (records_of job) ≡ length job → records_of (job ++ r) ≡ records_of job ++ (r ∷ [])
grow zero r l job h c = grow_empty job h
  where
    grow_empty : (job : Bytes) → length job ≤ 0 → records_of (job ++ r) ≡ records_of job ++ (r ∷ [])
    grow_empty [] h = grow_none r l
    grow_empty (b ∷ bs) h = absurd (omega arith)
grow (suc n) r l job h c = grow_step n r l (grow n r l) job h c

pub records_more : (job r : Bytes) → Clean job → Lone r → records_of (job ++ r) ≡ records_of job ++ (r ∷ [])
unfolding Clean
records_more job r c l = grow (length job) r l job (omega arith) c

total_append : (rs ss : List Bytes) → total_length (rs ++ ss) ≡ total_length rs + total_length ss
total_append [] ss = omega arith
total_append (r ∷ rs) ss = let e = total_append rs ss in omega arith

pub clean_more : (job r : Bytes) → Clean job → Lone r → Clean (job ++ r)
unfolding Clean
clean_more job r c l =
    let a : total_length (records_of (job ++ r)) ≡ total_length (records_of job) + (length r + 0) = ap total_length (records_more job r c l) ∙ total_append (records_of job) (r ∷ []) in
    let b : length (job ++ r) ≡ length job + length r = length-append job r in
    omega arith

-- ---- the bytes of a term's number: two, where the job does not begin with the record that asks for four
short_unless : (job : Bytes) → (take 4 job ≡ long_record → ⊥) → number_length job ≡ number_bytes
unfolding number_length
short_unless job f = go (same_numbers (take 4 job) long_record) (same_numbers_eq (take 4 job) long_record)
  where
    go : (t : Bool) → (T t → take 4 job ≡ long_record) → cond t long_bytes number_bytes ≡ number_bytes
    go true g = absurd (f (g tt))
    go false g = refl

short_begins : (job : Bytes) → number_length job ≡ number_bytes → take 4 job ≡ long_record → ⊥
unfolding number_length
short_begins job e f = let z : number_length job ≡ 4 = ap (λ (bs : Bytes). cond (same_numbers bs long_record) long_bytes number_bytes) f in omega arith

-- that record's kind
begins_kind : (r : Bytes) → take 4 r ≡ long_record → kind_of r ≡ long_kind
begins_kind [] e = absurd (let z = ap length e in omega arith)
begins_kind (a ∷ []) e = absurd (let z = ap length e in omega arith)
begins_kind (a ∷ b ∷ []) e = absurd (let z = ap length e in omega arith)
begins_kind (a ∷ b ∷ c ∷ []) e = absurd (let z = ap length e in omega arith)
begins_kind (a ∷ b ∷ c ∷ d ∷ r) e = let x : c ≡ 103 = cc in let y : d ≡ 0 = cc in omega arith

-- one record more of another kind
pub short_more : (job r : Bytes) → Clean job → (kind_of r ≡ long_kind → ⊥) → number_length job ≡ number_bytes → number_length (job ++ r) ≡ number_bytes
unfolding Clean
short_more [] r c f e = short_unless r (λ z. f (begins_kind r z))
short_more (b ∷ bs) r c f e = short_unless ((b ∷ bs) ++ r) (λ z. short_begins (b ∷ bs) e (sym (take-append-le 4 (b ∷ bs) r (go (whole (b ∷ bs)) refl)) ∙ z))
  where
    go : (w : Bool) → whole (b ∷ bs) ≡ w → 4 ≤ length (b ∷ bs)
    go false w = absurd (let z : total_length (records_of (b ∷ bs)) ≡ 0 = ap total_length (records_broken (b ∷ bs) w) in omega arith)
    go true w = let s = stands (b ∷ bs) w in let x = s.least in let y = s.all in omega arith

-- ---- the terms among them
terms_append : (rs ss : List Bytes) → terms_of (rs ++ ss) ≡ terms_of rs ++ terms_of ss
terms_append [] ss = refl
terms_append (r ∷ rs) ss = go (eqb (kind_of r) step_kind) (terms_append rs ss)
  where
    go : (b : Bool) → terms_of (rs ++ ss) ≡ terms_of rs ++ terms_of ss
        → elim b as (λ x. List Bytes) [ true ↦ terms_of (rs ++ ss) | false ↦ r ∷ terms_of (rs ++ ss) ]
        ≡ elim b as (λ x. List Bytes) [ true ↦ terms_of rs | false ↦ r ∷ terms_of rs ] ++ terms_of ss
    go true e = e
    go false e = ap (λ (l : List Bytes). r ∷ l) e

pub kept_more : (job r : Bytes) → Clean job → Lone r → (kind_of r ≡ step_kind → ⊥) → kept (job ++ r) ≡ kept job ++ (r ∷ [])
unfolding kept
kept_more job r c l f =
    ap terms_of (records_more job r c l) ∙ terms_append (records_of job) (r ∷ [])
    ∙ ap (λ (b : Bool). terms_of (records_of job) ++ elim b as (λ x. List Bytes) [ true ↦ [] | false ↦ r ∷ [] ]) (ne_eqb (kind_of r) step_kind f)

pub kept_step : (job r : Bytes) → Clean job → Lone r → kind_of r ≡ step_kind → kept (job ++ r) ≡ kept job
unfolding kept
kept_step job r c l f =
    ap terms_of (records_more job r c l) ∙ terms_append (records_of job) (r ∷ [])
    ∙ ap (λ (b : Bool). terms_of (records_of job) ++ elim b as (λ x. List Bytes) [ true ↦ [] | false ↦ r ∷ [] ]) (eq-eqb (kind_of r) step_kind f)
    ∙ append-nil (terms_of (records_of job))

pub clean_ending : (job : Bytes) → Clean job → ending job ≡ 0
unfolding Clean
clean_ending job c = ends_whole job c
