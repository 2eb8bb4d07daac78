-- Laws of the places in a job: the walk over its records, and a record put at its end.
use mathlib.Core.Path.{◌≡◌, refl, sym, ap, ap₂, subst, ◌∙◌}
use mathlib.Core.Bool.{Bool, cond}
use mathlib.Core.List.{List, [], ◌∷◌, ◌++◌, append_assoc, append-nil}
use Rattle.std.specs.Prelude.{Option, None as none, Some as some}
use Rattle.std.specs.Int.{to_le_bytes, bytes_low_first, byte_at}
use Rattle.std.proofs.Math.Nat.{div-div-eq-div-mul}
use mir.Syntax.{w64}
use Prim.Native.Nat.{ℕ, zero, suc, ◌+◌, ◌-◌, ◌*◌, ◌/◌, ◌%◌, ◌^◌, ◌<◌, ◌≤◌}
use native.Mathlib.Omega.{arith}
use native.Mathlib.Nat.{pow-succ'}
use native.Mathlib.Numerals.{add-one}
use lib.ListN.{length, take, drop, get_or, set, length-append}
use lib.Seq.{sets, sets-eq, length-sets, take_at, drop_at, take-suc, take-take, take-add, length-take-le, take_all}
use borrow.Author.Tests.{le-leb, lt-leb}
use Rattle.theory.specs.Limit.{first_terms, number_bytes, max_arguments, max_job, value_bytes}
use Rattle.theory.specs.Kind.{Op, kind}
use Rattle.theory.specs.Record.{Bytes, bytes_of, word_bytes, extent, kind_of, step_kind, Shape, plain, indexed, twice_indexed, valued, front}
use Rattle.terms.specs.declared.kind.Kind.{Kind}
use Rattle.terms.specs.declared.kind.Kind.TheVariants as D
use Rattle.terms.specs.Numbered.{shape, number_of}
use borrow.Rule.Slice.PartMut.{put_mid, Post-is}
use Rattle.text.specs.Reading.{bind}
use Rattle.text.specs.Writing.{Clean, Lone, kept, place_from, append, Placed, placed, keep, words_bytes, front_bytes, term_record}
use Rattle.text.proofs.Records.{stands, clean_more, kept_more}
use Rattle.text.proofs.Encoding.{words_length}
use Rattle.text.proofs.Placed.{small}
use Rattle.rows.specs.Rows as R
use Rattle.rows.proofs.RowLaws.{sets_append}
use Rattle.table.specs.Buckets.{TableAs, unless_missing}
use Rattle.table.specs.Promise.{Grown}
use Rattle.table.specs.declared.kept.Added.{Added}
use Rattle.table.specs.declared.kept.Added.TheVariants.{New}
use Rattle.words.specs.Words.{piece}
use Rattle.words.proofs.WordLaws.{piece_length}
use Rattle.writer.specs.declared.places.Spot.{Spot}
use Rattle.writer.specs.declared.places.Writer.{Writer}
use Rattle.writer.specs.Written.{room}
use Rattle.names.specs.declared.kinds.Indices.{Indices}
use Rattle.names.specs.declared.kinds.Indices.TheVariants as F
use Rattle.names.specs.Kinds.{shaped, family_of}
use Rattle.writer.specs.Places.{so_far, row_records, Covered, Ready, Longer, Grows, key_bytes}
use Rattle.writer.proofs.CoverLaws.{part_is, covered_more, covered_table, record_ends, covered_row, found_row, found_rest}

-- ---- bytes put at the end
module _ (out : Bytes) (done : ℕ) (r : Bytes) (fits : done + length r ≤ length out) where
  put_is : sets out done r ≡ (take done out ++ r) ++ drop (done + length r) out
  put_is = sets-eq r out done fits

  front_length : length (take done out ++ r) ≡ done + length r
  front_length = length-append (take done out) r ∙ ap (λ (n : ℕ). n + length r) (length-take-le done out (omega arith))

  pub put_front : take (done + length r) (sets out done r) ≡ take done out ++ r
  put_front =
      ap (take (done + length r)) put_is
      ∙ take_at (take done out ++ r) (drop (done + length r) out) (done + length r) front_length

  pub put_past : drop (done + length r) (sets out done r) ≡ drop (done + length r) out
  put_past =
      ap (drop (done + length r)) put_is
      ∙ drop_at (take done out ++ r) (drop (done + length r) out) (done + length r) front_length

-- a part that was written over
pub part_set : (a b : ℕ) (out bs : Bytes) {now : Bytes} → a + length bs ≤ length out → b ≡ a + length bs → now ≡ bs → put_mid a (b - a) out now ≡ sets out a bs
part_set a b out bs h e n =
    ap₂ (λ (x y : Bytes). take a out ++ (x ++ y)) n (Post-is a b out (omega arith) ∙ ap (λ (j : ℕ). drop j out) e)
    ∙ sym (append_assoc (take a out) bs (drop (a + length bs) out)) ∙ sym (sets-eq bs out a h)

-- ---- bytes put past the job
module _ {out work : Bytes} {s : Spot} (g : Ready out work s) (r : Bytes) (f : s.done + length r ≤ length out) {new : Bytes} (n : new ≡ sets out s.done r) where
  so_long : length (so_far out s) ≡ s.done
  so_long = length-take-le s.done out g.within

  pub so_put : take (s.done + length r) new ≡ so_far out s ++ r
  so_put = ap (take (s.done + length r)) n ∙ put_front out s.done r f

  so_same : so_far new s ≡ so_far out s
  so_same =
      let l = so_long in
      sym (take-take s.done (s.done + length r) new (omega arith)) ∙ ap (take s.done) so_put ∙ take_at (so_far out s) r s.done l

  piece_put : piece s.done (s.done + length r) new ≡ r
  piece_put = part_is s.done (s.done + length r) new (omega arith) ∙ ap (drop s.done) so_put ∙ drop_at (so_far out s) r s.done so_long

  pub put_long : length new ≡ length out
  put_long = ap length n ∙ length-sets out s.done r

  pub past_put : {m : ℕ} → m ≡ s.done + length r → drop m new ≡ drop m out
  past_put {m} e = ap (λ (k : ℕ). drop k new) e ∙ ap (drop (s.done + length r)) n ∙ put_past out s.done r f ∙ ap (λ (k : ℕ). drop k out) (sym e)

  -- the job is what it was
  pub still_ready : Ready new work s
  still_ready =
      let l = put_long in
      let w = g.within in
      record {
        within = omega arith;
        counted = g.counted ∙ ap (λ (x : Bytes). length (kept x)) (sym so_same);
        clean = subst Clean (sym so_same) g.clean;
        few = g.few;
        rows = subst (λ (x : Bytes). Covered x work s.rows s.covered) (sym so_same) g.rows;
      }

  pub put_longer : {end : ℕ} → end ≡ s.done + length r → Lone r → kind_of r < step_kind → Longer new work s end
  put_longer {end} e lone low =
      let l = put_long in
      let w = g.within in
      record {
        ready = still_ready;
        on = omega arith;
        within = omega arith;
        lone = subst Lone (sym piece_put ∙ ap (λ (k : ℕ). piece s.done k new) (sym e)) lone;
        low = subst (λ (x : Bytes). kind_of x < step_kind) (sym piece_put ∙ ap (λ (k : ℕ). piece s.done k new) (sym e)) low;
      }

-- a record is put at the end, and counted
pub put_moved : (old : Writer) {out : Bytes} (t : Spot) (r : Bytes) {end : ℕ} → old.spot.done + length r ≤ room old → out ≡ sets old.out.now old.spot.done r → end ≡ old.spot.done + length r → t.done ≡ end
    → (old.spot.done ≤ t.done) × ((length out ≡ room old) × (drop t.done out ≡ drop t.done old.out.now))
put_moved old {out} t r {end} f n e d = (omega arith, (put_long old.ready r f n, past_put old.ready r f n (d ∙ e)))

-- ---- what keep says
module _ {out work : Bytes} {s : Spot} (r : Bytes) (g : Ready out work s) {q : Option ℕ} (e : q ≡ place_from first_terms r (kept (so_far out s))) where
  pub keep_there : {k : ℕ} → q ≡ some k → some (placed k (so_far out s)) ≡ keep (length out) r (so_far out s)
  unfolding keep
  keep_there {k} f = sym (ap (λ (p : Option ℕ). elim p as (λ x. Option Placed) [
    | none ↦ bind (append (length out) r (so_far out s)) (λ j. some (placed (first_terms + length (kept (so_far out s))) j))
    | some n ↦ some (placed n (so_far out s))
  ]) (sym e ∙ f))

  missing_is : q ≡ none → keep (length out) r (so_far out s) ≡ bind (append (length out) r (so_far out s)) (λ j. some (placed (first_terms + length (kept (so_far out s))) j))
  unfolding keep
  missing_is f = ap (λ (q : Option ℕ). elim q as (λ x. Option Placed) [
    | none ↦ bind (append (length out) r (so_far out s)) (λ j. some (placed (first_terms + length (kept (so_far out s))) j))
    | some n ↦ some (placed n (so_far out s))
  ]) (sym e ∙ f)

  job_long : length (so_far out s) ≡ s.done
  job_long = length-take-le s.done out g.within

  pub keep_full : q ≡ none → length out < s.done + length r → none ≡ keep (length out) r (so_far out s)
  keep_full n f =
      sym (missing_is n ∙ ap (λ (b : Bool). bind (cond b (some (so_far out s ++ r)) none) (λ j. some (placed (first_terms + length (kept (so_far out s))) j)))
      (lt-leb (length (so_far out s) + length r) (length out) (let l = job_long in omega arith)))

  -- the record is put at the end, and counted
  pub keep_put : q ≡ none → (f : s.done + length r ≤ length out) → {new : Bytes} → new ≡ sets out s.done r → (t : Spot) → t.done ≡ s.done + length r
      → some (placed (s.terms + 2) (so_far new t)) ≡ keep (length out) r (so_far out s)
  keep_put m f {new} n t d =
      let job = so_far out s in
      let l = job_long in
      let cnt = g.counted in
      let far : so_far new t ≡ job ++ r = ap (λ (j : ℕ). take j new) d ∙ so_put g r f n in
      sym (missing_is m
      ∙ ap (λ (b : Bool). bind (cond b (some (job ++ r)) none) (λ j. some (placed (first_terms + length (kept job)) j))) (le-leb (length job + length r) (length out) (omega arith))
      ∙ ap₂ (λ (k : ℕ) (j : Bytes). some (placed k j)) (let q : first_terms + length (kept job) ≡ s.terms + 2 = omega arith in q) (sym far))

-- ---- a term's record, counted
module _ {out work : Bytes} {s : Spot} {end : ℕ} (g : Longer out work s end) where
  abbrev last : Bytes
  last = piece s.done end out

  spot_long : length (so_far out s) ≡ s.done
  spot_long = length-take-le s.done out g.ready.within

  last_long : length last ≡ end - s.done
  last_long = let o = g.on in let w = g.within in piece_length out s.done end o w

  far : take end out ≡ so_far out s ++ last
  far = let o = g.on in let e : end ≡ s.done + (end - s.done) = omega arith in ap (λ (n : ℕ). take n out) e ∙ take-add s.done (end - s.done) out

  no_step : kind_of last ≡ step_kind → ⊥
  no_step e = let h = g.low in omega arith

  counts : length (kept (take end out)) ≡ s.terms + 1
  counts =
      let c = g.ready.counted in
      let l : length (kept (so_far out s) ++ (last ∷ [])) ≡ length (kept (so_far out s)) + 1 = length-append (kept (so_far out s)) (last ∷ []) in
      let k : length (kept (take end out)) ≡ length (kept (so_far out s) ++ (last ∷ []))
      = ap (λ (x : Bytes). length (kept x)) far ∙ ap length (kept_more (so_far out s) last g.ready.clean g.lone no_step) in
      omega arith

  grows : {work' : Bytes} {rows covered : ℕ} → Covered (so_far out s ++ last) work' rows covered
      → Grows out work' end (record { done = end; terms = s.terms + 1; rows = rows; covered = covered })
  grows {work'} {rows} {covered} c =
      let n = counts in
      let few = g.ready.few in
      let l = last_long in
      let big : 2 ≤ length last = (stands last g.lone.is_whole).two in
      record {
        done_is = refl;
        ready = record {
          within = g.within;
          counted = sym counts;
          clean = subst Clean (sym far) (clean_more (so_far out s) last g.ready.clean g.lone);
          few = omega arith;
          rows = subst (λ (x : Bytes). Covered x work' rows covered) (sym far) c;
        };
      }

  -- without a row
  pub grows_plain : {work' : Bytes} → work' ≡ work → Grows out work' end (record { done = end; terms = s.terms + 1; rows = s.rows; covered = s.covered })
  grows_plain {work'} e =
      subst (λ (x : Bytes). Grows out x end (record { done = end; terms = s.terms + 1; rows = s.rows; covered = s.covered })) (sym e)
      (grows (covered_more g.ready.rows last g.ready.clean g.lone no_step))

  -- with one
  module _ (short : end ≤ max_job) where
    fits_job : length (so_far out s ++ last) ≤ max_job
    fits_job = let l = spot_long in let m = last_long in let o = g.on in let n : length (so_far out s ++ last) ≡ length (so_far out s) + length last = length-append (so_far out s) last in omega arith

    pub add_ready : TableAs number_bytes (take end out) work s.rows
    add_ready = subst (λ (x : Bytes). TableAs number_bytes x work s.rows) (sym far) (covered_table g.ready.rows last g.ready.clean g.lone no_step fits_job)

    pub add_ends : s.done + extent (drop s.done (take end out)) ≤ length (take end out)
    add_ends =
        subst (λ (x : Bytes). s.done + extent (drop s.done x) ≤ length x) (sym far)
        (subst (λ (n : ℕ). n + extent (drop n (so_far out s ++ last)) ≤ length (so_far out s ++ last)) spot_long
        (record_ends g.ready.rows last g.ready.clean g.lone no_step fits_job))

    pub grows_row : {work' : Bytes} {a : Option Added} {limit p : ℕ} → s.rows ≡ s.terms → Grown number_bytes (take end out) work work' s.rows limit s.done 0 a → a ≡ some (New p)
        → Grows out work' end (record { done = end; terms = s.terms + 1; rows = s.terms + 1; covered = end })
    grows_row {work'} {a} {limit} {p} e h d =
        let j = spot_long in
        let m = last_long in
        let o = g.on in
        let n : length (so_far out s ++ last) ≡ end = length-append (so_far out s) last ∙ omega arith in
        let k : Grown number_bytes (so_far out s ++ last) work work' s.rows limit (length (so_far out s)) 0 a
        = subst (λ (x : Bytes). Grown number_bytes x work work' s.rows limit (length (so_far out s)) 0 a) far
        (subst (λ (i : ℕ). Grown number_bytes (take end out) work work' s.rows limit i 0 a) (sym j) h) in
        let c : Covered (so_far out s ++ last) work' (s.rows + 1) (length (so_far out s ++ last))
        = covered_row g.ready.rows last g.ready.clean g.lone no_step fits_job (e ∙ g.ready.counted) k d in
        let q : s.rows + 1 ≡ s.terms + 1 = omega arith in
        grows (subst (λ (i : ℕ). Covered (so_far out s ++ last) work' i end) q (subst (λ (i : ℕ). Covered (so_far out s ++ last) work' (s.rows + 1) i) n c))

-- ---- a record is looked up
module _ {out work : Bytes} {s : Spot} (g : Ready out work s) where
  covered_on : s.covered ≤ s.done
  covered_on = let b = g.rows.before in let l : length (so_far out s) ≡ s.done = length-take-le s.done out g.within in omega arith

  covered_is : take s.covered (so_far out s) ≡ take s.covered out
  covered_is = take-take s.covered s.done out covered_on

  module _ (w : Bytes) {r : Option ℕ} (told : r ≡ unless_missing (R.place_of w (row_records (take s.covered out) work s.rows))) where
    told_here : r ≡ unless_missing (R.place_of w (row_records (take s.covered (so_far out s)) work s.rows))
    told_here = told ∙ ap (λ (x : Bytes). unless_missing (R.place_of w (row_records x work s.rows))) (sym covered_is)

    pub find_row : {p : ℕ} → r ≡ some p → some p ≡ place_from first_terms w (kept (so_far out s))
    find_row e = found_row g.rows w told_here e

    pub find_rest : r ≡ none → place_from (s.rows + 2) w (kept (piece s.covered s.done out)) ≡ place_from first_terms w (kept (so_far out s))
    find_rest e =
        ap (λ (x : Bytes). place_from (s.rows + 2) w (kept x)) (part_is s.covered s.done out covered_on)
        ∙ found_rest g.rows w told_here e

-- ---- a kind with numbers in it
-- their bytes by the family
abbrev pub by_family : Indices → ℕ → ℕ → Bytes
by_family F.Plain x y = []
by_family F.Indexed x y = word_bytes x
by_family F.TwiceIndexed x y = word_bytes x ++ word_bytes y
by_family F.Valued x y = word_bytes x ++ bytes_of value_bytes y

-- the kind has its number, which is none of `true` and `false`, and these bytes
record Numbered (k : Kind) (x y : ℕ) : Type 0 where
  number : kind (shaped (shape k) x y) ≡ number_of k
  high : first_terms ≤ number_of k
  front_is : front_bytes (shaped (shape k) x y) ≡ by_family (family_of (shape k)) x y

numbered : (k : Kind) (x y : ℕ) → Numbered k x y
unfolding front_bytes
numbered D.BoolVar x y = record { number = refl; high = omega arith; front_is = refl }
numbered D.BvVar x y = record { number = refl; high = omega arith; front_is = refl }
numbered D.Const x y = record { number = refl; high = omega arith; front_is = refl }
numbered D.Not x y = record { number = refl; high = omega arith; front_is = refl }
numbered D.And x y = record { number = refl; high = omega arith; front_is = refl }
numbered D.Or x y = record { number = refl; high = omega arith; front_is = refl }
numbered D.Xor x y = record { number = refl; high = omega arith; front_is = refl }
numbered D.Equals x y = record { number = refl; high = omega arith; front_is = refl }
numbered D.Ite x y = record { number = refl; high = omega arith; front_is = refl }
numbered D.BvBitOf x y = record { number = refl; high = omega arith; front_is = refl }
numbered D.BvBbTerm x y = record { number = refl; high = omega arith; front_is = refl }
numbered D.BvNot x y = record { number = refl; high = omega arith; front_is = refl }
numbered D.BvNeg x y = record { number = refl; high = omega arith; front_is = refl }
numbered D.BvAnd x y = record { number = refl; high = omega arith; front_is = refl }
numbered D.BvOr x y = record { number = refl; high = omega arith; front_is = refl }
numbered D.BvXor x y = record { number = refl; high = omega arith; front_is = refl }
numbered D.BvAdd x y = record { number = refl; high = omega arith; front_is = refl }
numbered D.BvMul x y = record { number = refl; high = omega arith; front_is = refl }
numbered D.BvXNor x y = record { number = refl; high = omega arith; front_is = refl }
numbered D.BvComp x y = record { number = refl; high = omega arith; front_is = refl }
numbered D.BvULt x y = record { number = refl; high = omega arith; front_is = refl }
numbered D.BvSLt x y = record { number = refl; high = omega arith; front_is = refl }
numbered D.BvShl x y = record { number = refl; high = omega arith; front_is = refl }
numbered D.BvLShr x y = record { number = refl; high = omega arith; front_is = refl }
numbered D.BvAShr x y = record { number = refl; high = omega arith; front_is = refl }
numbered D.BvUDiv x y = record { number = refl; high = omega arith; front_is = refl }
numbered D.BvURem x y = record { number = refl; high = omega arith; front_is = refl }
numbered D.BvConcat x y = record { number = refl; high = omega arith; front_is = refl }
numbered D.BvExtract x y = record { number = refl; high = omega arith; front_is = refl }
numbered D.SignExtend x y = record { number = refl; high = omega arith; front_is = refl }
numbered D.ZeroExtend x y = record { number = refl; high = omega arith; front_is = refl }
numbered D.RotateLeft x y = record { number = refl; high = omega arith; front_is = refl }
numbered D.RotateRight x y = record { number = refl; high = omega arith; front_is = refl }
numbered D.Repeat x y = record { number = refl; high = omega arith; front_is = refl }

pub kind_number : (k : Kind) (x y : ℕ) → kind (shaped (shape k) x y) ≡ number_of k
kind_number k x y = (numbered k x y).number

pub kind_high : (k : Kind) (x y : ℕ) → first_terms ≤ kind (shaped (shape k) x y)
kind_high k x y = let n = numbered k x y in let h = n.high in let e = n.number in omega arith

pub front_long : (k : Kind) (x y : ℕ) → length (front_bytes (shaped (shape k) x y)) ≡ front (shape k)
front_long k x y = ap length (numbered k x y).front_is ∙ go (shape k)
  where
    go : (s : Shape) → length (by_family (family_of s) x y) ≡ front s
    go (plain o) = refl
    go (indexed f) = refl
    go (twice_indexed f) = refl
    go (valued f) = refl

-- the numbers in a kind after what is there
module _ (k : Kind) (x y : ℕ) {q p : Indices} (e : q ≡ family_of (shape k)) (f : q ≡ p) where
  front_by : front_bytes (shaped (shape k) x y) ≡ by_family p x y
  front_by = (numbered k x y).front_is ∙ ap (λ (p : Indices). by_family p x y) (sym e ∙ f)

  pub fronted : (key : Bytes) {new : Bytes} → new ≡ key ++ by_family p x y → new ≡ key ++ front_bytes (shaped (shape k) x y)
  fronted key h = h ∙ ap (λ (bs : Bytes). key ++ bs) (sym front_by)

-- ---- a record, number by number
-- the first bytes of a number
low_first : (i k x : ℕ) → bytes_low_first i k x ≡ bytes_of k (x / 256 ^ i)
low_first i zero x = refl
low_first i (suc k) x = ap₂ (λ (b : ℕ) (bs : Bytes). b ∷ bs) (here i) (low_first (suc i) k x ∙ ap (bytes_of k) further)
  where
    here : (i : ℕ) → byte_at i x ≡ x / 256 ^ i % 256
    here zero = omega arith
    here (suc i) = refl

    further : x / 256 ^ suc i ≡ x / 256 ^ i / 256
    further = ap (λ (n : ℕ). x / n) (let e : 256 ^ suc i ≡ 256 ^ i * 256 = rw pow-succ' (omega arith) in e) ∙ sym (div-div-eq-div-mul x (256 ^ i) 256)

take_low : (i k m x : ℕ) → k ≤ m → take k (bytes_low_first i m x) ≡ bytes_low_first i k x
take_low i zero m x h = refl
take_low i (suc k) zero x h = absurd (omega arith)
take_low i (suc k) (suc m) x h = ap (λ (bs : Bytes). byte_at i x ∷ bs) (take_low (suc i) k m x (omega arith))

pub low_bytes : (n x : ℕ) → n ≤ 8 → take n (to_le_bytes w64 x) ≡ bytes_of n x
low_bytes n x h = take_low 0 n 8 x h ∙ low_first 0 n x ∙ ap (bytes_of n) (let e : x / 256 ^ 0 ≡ x = omega arith in e)

words_more : (numbers : List ℕ) (i : ℕ) → i < length numbers → words_bytes (take (i + 1) numbers) ≡ words_bytes (take i numbers) ++ word_bytes (get_or numbers i 0)
words_more numbers i h = ap words_bytes (ap (λ (j : ℕ). take j numbers) (add-one i) ∙ take-suc numbers i 0 h) ∙ append_words (take i numbers) (get_or numbers i 0)
  where
    append_words : (ks : List ℕ) (k : ℕ) → words_bytes (ks ++ (k ∷ [])) ≡ words_bytes ks ++ word_bytes k
    append_words [] k = refl
    append_words (x ∷ ks) k = ap (λ (b : Bytes). word_bytes x ++ b) (append_words ks k)

pub front_few : (o : Op) → length (front_bytes o) ≤ 10
front_few o = (small o).1

-- before argument i: those before it stand after the head
pub record Filled (head now : Bytes) (numbers : List ℕ) (i : ℕ) : Type 0 where
  pub is : now ≡ head ++ words_bytes (take i numbers)
  pub low : length head ≤ 14
  pub on : i ≤ length numbers
  pub few : length numbers ≤ max_arguments

pub fill_start : {head now : Bytes} {numbers : List ℕ} → now ≡ head → length head ≤ 14 → length numbers ≤ max_arguments → Filled head now numbers 0
fill_start {head} e h f = record { is = e ∙ sym (append-nil head); low = h; on = omega arith; few = f }

pub fill_room : {head now : Bytes} {numbers : List ℕ} {i : ℕ} → Filled head now numbers i → i < length numbers → length now + 2 ≤ key_bytes
fill_room {head} {now} {numbers} {i} g h =
    let l = ap length g.is in
    let a : length (head ++ words_bytes (take i numbers)) ≡ length head + length (words_bytes (take i numbers)) = length-append head (words_bytes (take i numbers)) in
    let w : length (words_bytes (take i numbers)) ≡ 2 * i = words_length (take i numbers) ∙ ap (λ (n : ℕ). 2 * n) (length-take-le i numbers (omega arith)) in
    let few = g.few in
    let low = g.low in
    omega arith

pub fill_turn : {head now next : Bytes} {numbers : List ℕ} {i : ℕ} → Filled head now numbers i → i < length numbers → next ≡ now ++ bytes_of 2 (get_or numbers i 0) → Filled head next numbers (i + 1)
fill_turn {head} {now} {next} {numbers} {i} g h e = record {
  is = e ∙ ap (λ (x : Bytes). x ++ word_bytes (get_or numbers i 0)) g.is
      ∙ append_assoc head (words_bytes (take i numbers)) (word_bytes (get_or numbers i 0))
      ∙ ap (λ (x : Bytes). head ++ x) (sym (words_more numbers i h));
  low = g.low;
  on = omega arith;
  few = g.few;
}

-- all of it is the record of the term
pub fill_end : {now key₀ key₁ key₂ key₃ : Bytes} (o : Op) (k size : ℕ) {ks : List ℕ} {i : ℕ} → kind o ≡ k → key₀ ≡ [] → key₁ ≡ key₀ ++ bytes_of 2 (2 + size) → key₂ ≡ key₁ ++ bytes_of 2 k → key₃ ≡ key₂ ++ front_bytes o
    → size ≡ length (front_bytes o) + 2 * length ks → Filled key₃ now ks i → length ks ≤ i → now ≡ term_record o ks
unfolding term_record
fill_end {now} {key₀} {key₁} {key₂} {key₃} o k size {ks} {i} ke e₀ e₁ e₂ e₃ sz g ce =
    let front = front_bytes o in
    let w : length (words_bytes ks) ≡ 2 * length ks = words_length ks in
    let body : length (front ++ words_bytes ks) ≡ length front + length (words_bytes ks) = length-append front (words_bytes ks) in
    let long : 2 + size ≡ 2 + length (front ++ words_bytes ks) = omega arith in
    g.is ∙ ap (λ (x : List ℕ). key₃ ++ words_bytes x) (take_all i ks ce)
    ∙ ap (λ (x : Bytes). x ++ words_bytes ks) (e₃ ∙ ap (λ (x : Bytes). x ++ front) (e₂ ∙ ap (λ (x : Bytes). x ++ bytes_of 2 k) (e₁ ∙ ap (λ (x : Bytes). x ++ bytes_of 2 (2 + size)) e₀)))
    ∙ append_assoc (word_bytes (2 + size) ++ word_bytes k) front (words_bytes ks)
    ∙ ap₂ (λ (m n : ℕ). (word_bytes m ++ word_bytes n) ++ (front ++ words_bytes ks)) long (sym ke)

-- ---- a copy
pub copy_turn : (old bs : Bytes) (at i : ℕ) → i < length bs → set (sets old at (take i bs)) (at + i) (get_or bs i 0) ≡ sets old at (take (i + 1) bs)
copy_turn old bs at i h =
    let l : length (take i bs) ≡ i = length-take-le i bs (omega arith) in
    ap (λ (j : ℕ). set (sets old at (take i bs)) (at + j) (get_or bs i 0)) (sym l)
    ∙ sym (sets_append old at (take i bs) (get_or bs i 0 ∷ []))
    ∙ ap (sets old at) (sym (ap (λ (j : ℕ). take j bs) (add-one i) ∙ take-suc bs i 0 h))

pub copy_end : (old bs : Bytes) (at i : ℕ) → length bs ≤ i → sets old at (take i bs) ≡ sets old at bs
copy_end old bs at i h = ap (sets old at) (take_all i bs h)
