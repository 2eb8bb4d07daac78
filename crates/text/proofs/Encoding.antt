-- The records that are written, read again.
use mathlib.Core.Path.{◌≡◌, refl, ap, ap₂, ◌∙◌}
use mathlib.Core.Bool.{Bool, true, false, ◌&&◌, cond}
use mathlib.Core.List.{List, [], ◌∷◌, ◌++◌}
use Rattle.std.specs.Prelude.{Option, Some as some}
use Prim.Native.Nat.{ℕ, ◌+◌, ◌-◌, ◌*◌, ◌/◌, ◌%◌, ◌<◌, ◌≤◌}
use native.Mathlib.Omega.{arith}
use lib.Dec.{eqb, ltb}
use lib.ListN.{length, length-append}
use lib.Seq.{drop_at}
use borrow.Author.Tests.{le-leb, eq-eqb, ne_eqb, ltb-true}
use Rattle.theory.specs.Limit.{value_bytes, number_bytes}
use Rattle.theory.specs.Kind.{Op, True, False, Not, And, Or, Xor, Equals, Ite, BoolVar, BvVar, Const, BvBitOf, BvBbTerm, BvNot, BvNeg, BvAnd, BvOr, BvXor, BvAdd, BvMul, BvXNor, BvComp, BvULt, BvSLt, BvShl, BvLShr, BvAShr, BvUDiv, BvURem, BvConcat, BvExtract, SignExtend, ZeroExtend, RotateLeft, RotateRight, Repeat, kind, arity, takes}
use Rattle.theory.specs.Record.{Bytes, little_endian, word, words, bytes_of, word_bytes, kind_of, body_of, fits, arguments, Shape, plain, indexed, twice_indexed, valued, front, make, shape_of, term, step, misfit, read, read_term, read_step, read_chain, read_back}
use Rattle.theory.specs.Codes.{all_below}
use Rattle.text.specs.Reading.{number_end, value_end}
use Rattle.text.specs.Writing.{Lone, record_of, words_bytes, front_bytes, term_record, step_record}
use Rattle.text.proofs.Records.{to_whole}

and_true : (a b : Bool) → (a && b) ≡ true → (a ≡ true) × (b ≡ true)
and_true true b e = (refl, e)
and_true false b e = absurd (let z : ◌≡◌ {A = ℕ} 0 1 = cc in omega arith)

-- ---- numbers
pub word_back : (n : ℕ) (rest : Bytes) → n < number_end → word (word_bytes n ++ rest) ≡ n
word_back n rest h = omega arith

pub value_back : (x : ℕ) → x < value_end → little_endian (bytes_of value_bytes x) ≡ x
value_back x h = omega arith

-- ---- a record's parts
module _ (k : ℕ) (body : Bytes) where
  pub record_length : length (record_of k body) ≡ 4 + length body
  record_length = omega arith

  pub record_kind : k < number_end → kind_of (record_of k body) ≡ k
  record_kind h = word_back k body h

  pub record_lone : 2 + length body < number_end → Lone (record_of k body)
  record_lone h =
      let e : word (record_of k body) ≡ 2 + length body = word_back (2 + length body) (word_bytes k ++ body) h in
      let l = record_length in
      record { is_whole = to_whole (record_of k body) (record { two = omega arith; least = omega arith; all = omega arith }); size = omega arith }

-- ---- arguments
pub words_length : (ks : List ℕ) → length (words_bytes ks) ≡ 2 * length ks
words_length [] = refl
words_length (k ∷ ks) = let e = words_length ks in omega arith

pub words_back : (ks : List ℕ) → all_below number_end ks ≡ true → words number_bytes (length ks) (words_bytes ks) ≡ ks
words_back [] h = refl
words_back (k ∷ ks) h =
    let p = and_true (ltb k number_end) (all_below number_end ks) h in
    ap₂ (λ (x : ℕ) (xs : List ℕ). x ∷ xs) (word_back k [] (ltb-true k number_end p.0)) (words_back ks p.1)

-- ---- the kinds that have a record, by the numbers that stand before their arguments
pub data Formed : Op → Type 0 where
  formed_plain : (o : Op) → shape_of (kind o) ≡ some (plain o) → front_bytes o ≡ [] → 2 ≤ kind o → kind o < 100 → Formed o
  formed_indexed : (f : ℕ → Op) (x : ℕ) → x < number_end → shape_of (kind (f x)) ≡ some (indexed f) → front_bytes (f x) ≡ word_bytes x → 2 ≤ kind (f x) → kind (f x) < 100
      → Formed (f x)
  formed_twice : (f : ℕ → ℕ → Op) (x y : ℕ) → x < number_end → y < number_end → shape_of (kind (f x y)) ≡ some (twice_indexed f) → front_bytes (f x y) ≡ word_bytes x ++ word_bytes y
      → 2 ≤ kind (f x y) → kind (f x y) < 100 → Formed (f x y)
  formed_valued : (f : ℕ → ℕ → Op) (x y : ℕ) → x < number_end → y < value_end → shape_of (kind (f x y)) ≡ some (valued f) → front_bytes (f x y) ≡ word_bytes x ++ bytes_of value_bytes y
      → 2 ≤ kind (f x y) → kind (f x y) < 100 → Formed (f x y)

-- the numbers in a kind fit
abbrev pub Fit : Op → Type 0
Fit True = Unit {0}
Fit False = Unit {0}
Fit Not = Unit {0}
Fit And = Unit {0}
Fit Or = Unit {0}
Fit Xor = Unit {0}
Fit Equals = Unit {0}
Fit Ite = Unit {0}
Fit BvBbTerm = Unit {0}
Fit BvNot = Unit {0}
Fit BvNeg = Unit {0}
Fit BvAnd = Unit {0}
Fit BvOr = Unit {0}
Fit BvXor = Unit {0}
Fit BvAdd = Unit {0}
Fit BvMul = Unit {0}
Fit BvXNor = Unit {0}
Fit BvComp = Unit {0}
Fit BvULt = Unit {0}
Fit BvSLt = Unit {0}
Fit BvShl = Unit {0}
Fit BvLShr = Unit {0}
Fit BvAShr = Unit {0}
Fit BvUDiv = Unit {0}
Fit BvURem = Unit {0}
Fit BvConcat = Unit {0}
Fit (BoolVar x) = x < number_end
Fit (BvVar n x) = (n < number_end) × (x < number_end)
Fit (Const n x) = (n < number_end) × (x < value_end)
Fit (BvBitOf i) = i < number_end
Fit (BvExtract i j) = (i < number_end) × (j < number_end)
Fit (SignExtend k) = k < number_end
Fit (ZeroExtend k) = k < number_end
Fit (RotateLeft k) = k < number_end
Fit (RotateRight k) = k < number_end
Fit (Repeat k) = k < number_end

pub formed : (o : Op) → Fit o → 2 ≤ kind o → Formed o
unfolding shape_of front_bytes
formed True h k = absurd (omega arith)
formed False h k = absurd (omega arith)
formed Not h k = formed_plain Not refl refl (omega arith) (omega arith)
formed And h k = formed_plain And refl refl (omega arith) (omega arith)
formed Or h k = formed_plain Or refl refl (omega arith) (omega arith)
formed Xor h k = formed_plain Xor refl refl (omega arith) (omega arith)
formed Equals h k = formed_plain Equals refl refl (omega arith) (omega arith)
formed Ite h k = formed_plain Ite refl refl (omega arith) (omega arith)
formed BvBbTerm h k = formed_plain BvBbTerm refl refl (omega arith) (omega arith)
formed BvNot h k = formed_plain BvNot refl refl (omega arith) (omega arith)
formed BvNeg h k = formed_plain BvNeg refl refl (omega arith) (omega arith)
formed BvAnd h k = formed_plain BvAnd refl refl (omega arith) (omega arith)
formed BvOr h k = formed_plain BvOr refl refl (omega arith) (omega arith)
formed BvXor h k = formed_plain BvXor refl refl (omega arith) (omega arith)
formed BvAdd h k = formed_plain BvAdd refl refl (omega arith) (omega arith)
formed BvMul h k = formed_plain BvMul refl refl (omega arith) (omega arith)
formed BvXNor h k = formed_plain BvXNor refl refl (omega arith) (omega arith)
formed BvComp h k = formed_plain BvComp refl refl (omega arith) (omega arith)
formed BvULt h k = formed_plain BvULt refl refl (omega arith) (omega arith)
formed BvSLt h k = formed_plain BvSLt refl refl (omega arith) (omega arith)
formed BvShl h k = formed_plain BvShl refl refl (omega arith) (omega arith)
formed BvLShr h k = formed_plain BvLShr refl refl (omega arith) (omega arith)
formed BvAShr h k = formed_plain BvAShr refl refl (omega arith) (omega arith)
formed BvUDiv h k = formed_plain BvUDiv refl refl (omega arith) (omega arith)
formed BvURem h k = formed_plain BvURem refl refl (omega arith) (omega arith)
formed BvConcat h k = formed_plain BvConcat refl refl (omega arith) (omega arith)
formed (BoolVar x) h k = formed_indexed BoolVar x h refl refl (omega arith) (omega arith)
formed (BvVar n x) h k = formed_twice BvVar n x h.0 h.1 refl refl (omega arith) (omega arith)
formed (Const n x) h k = formed_valued Const n x h.0 h.1 refl refl (omega arith) (omega arith)
formed (BvBitOf i) h k = formed_indexed BvBitOf i h refl refl (omega arith) (omega arith)
formed (BvExtract i j) h k = formed_twice BvExtract i j h.0 h.1 refl refl (omega arith) (omega arith)
formed (SignExtend n) h k = formed_indexed SignExtend n h refl refl (omega arith) (omega arith)
formed (ZeroExtend n) h k = formed_indexed ZeroExtend n h refl refl (omega arith) (omega arith)
formed (RotateLeft n) h k = formed_indexed RotateLeft n h refl refl (omega arith) (omega arith)
formed (RotateRight n) h k = formed_indexed RotateRight n h refl refl (omega arith) (omega arith)
formed (Repeat n) h k = formed_indexed Repeat n h refl refl (omega arith) (omega arith)

-- ---- what the record of a term says
fits_all : (n : ℕ) (allowed : ℕ → Bool) (xs : Bytes) (ks : List ℕ) → length xs ≡ n → allowed (length ks) ≡ true → fits number_bytes n allowed (xs ++ words_bytes ks) ≡ true
fits_all n allowed xs ks e a =
    let l : length (xs ++ words_bytes ks) ≡ n + 2 * length ks = length-append xs (words_bytes ks) ∙ (let w = words_length ks in omega arith) in
    let d : (length (xs ++ words_bytes ks) - n) % 2 ≡ 0 = omega arith in
    let h : (length (xs ++ words_bytes ks) - n) / 2 ≡ length ks = omega arith in
    let m : n ≤ length (xs ++ words_bytes ks) = omega arith in
    rw (le-leb n (length (xs ++ words_bytes ks)) m, eq-eqb ((length (xs ++ words_bytes ks) - n) % 2) 0 d, h) a

arguments_all : (n : ℕ) (xs : Bytes) (ks : List ℕ) → length xs ≡ n → all_below number_end ks ≡ true → arguments number_bytes n (xs ++ words_bytes ks) ≡ ks
arguments_all n xs ks e a =
    let l : length (xs ++ words_bytes ks) ≡ n + 2 * length ks = length-append xs (words_bytes ks) ∙ (let w = words_length ks in omega arith) in
    let h : (length (xs ++ words_bytes ks) - n) / 2 ≡ length ks = omega arith in
    ap₂ (λ (m : ℕ) (b : Bytes). words number_bytes m b) h (drop_at xs (words_bytes ks) n e) ∙ words_back ks a

-- by its shape: the front is xs
said : (s : Shape) (o : Op) (xs : Bytes) (ks : List ℕ) → length xs ≡ front s → make s (xs ++ words_bytes ks) ≡ o → takes (arity o) (length ks) ≡ true → all_below number_end ks ≡ true
    → read_term number_bytes (some s) (xs ++ words_bytes ks) ≡ term o ks
said s o xs ks e m t a =
    ap (λ (p : Op). cond (fits number_bytes (front s) (takes (arity p)) (xs ++ words_bytes ks)) (term p (arguments number_bytes (front s) (xs ++ words_bytes ks))) misfit) m
    ∙ ap₂ (λ (b : Bool) (l : List ℕ). cond b (term o l) misfit) (fits_all (front s) (takes (arity o)) xs ks e t) (arguments_all (front s) xs ks e a)

by_front : (o : Op) (s : Shape) (ks : List ℕ) (xs : Bytes) → shape_of (kind o) ≡ some s → front_bytes o ≡ xs → 2 ≤ kind o → kind o < 100
    → read_term number_bytes (some s) (xs ++ words_bytes ks) ≡ term o ks → read number_bytes (term_record o ks) ≡ term o ks
unfolding read term_record
by_front o s ks xs e f lo hi d =
    let r = record_of (kind o) (front_bytes o ++ words_bytes ks) in
    let k : kind_of r ≡ kind o = record_kind (kind o) (front_bytes o ++ words_bytes ks) (omega arith) in
    let a : eqb (kind_of r) 100 ≡ false = ne_eqb (kind_of r) 100 (λ q. omega arith) in
    let b : eqb (kind_of r) 104 ≡ false = ne_eqb (kind_of r) 104 (λ q. omega arith) in
    let c : eqb (kind_of r) 101 ≡ false = ne_eqb (kind_of r) 101 (λ q. omega arith) in
    let t = read_term number_bytes (shape_of (kind_of r)) (body_of r) in
    ap (λ (x : Bool). cond x (read_step number_bytes (body_of r)) (cond (eqb (kind_of r) 104) (read_chain number_bytes (body_of r)) (cond (eqb (kind_of r) 101) (read_back number_bytes (body_of r)) t))) a
    ∙ ap₂ (λ (x y : Bool). cond x (read_chain number_bytes (body_of r)) (cond y (read_back number_bytes (body_of r)) t)) b c
    ∙ ap₂ (λ (q : Option Shape) (x : Bytes). read_term number_bytes q (x ++ words_bytes ks)) (ap shape_of k ∙ e) f ∙ d

module _ (ks : List ℕ) (a : all_below number_end ks ≡ true) where
  by_form : {o : Op} → Formed o → takes (arity o) (length ks) ≡ true → read number_bytes (term_record o ks) ≡ term o ks
  by_form (formed_plain o e f lo hi) t = by_front o (plain o) ks [] e f lo hi (said (plain o) o [] ks refl refl t a)
  by_form (formed_indexed f x h e g lo hi) t =
      by_front (f x) (indexed f) ks (word_bytes x) e g lo hi (said (indexed f) (f x) (word_bytes x) ks refl (ap f (word_back x (words_bytes ks) h)) t a)
  by_form (formed_twice f x y h j e g lo hi) t =
      by_front (f x y) (twice_indexed f) ks (word_bytes x ++ word_bytes y) e g lo hi
      (said (twice_indexed f) (f x y) (word_bytes x ++ word_bytes y) ks refl (ap₂ f (word_back x (word_bytes y ++ words_bytes ks) h) (word_back y (words_bytes ks) j)) t a)
  by_form (formed_valued f x y h j e g lo hi) t =
      by_front (f x y) (valued f) ks (word_bytes x ++ bytes_of value_bytes y) e g lo hi
      (said (valued f) (f x y) (word_bytes x ++ bytes_of value_bytes y) ks refl (ap₂ f (word_back x (bytes_of value_bytes y ++ words_bytes ks) h) (value_back y j)) t a)

-- A TERM'S RECORD SAYS THE TERM
pub term_says : (o : Op) (ks : List ℕ) → Fit o → 2 ≤ kind o → takes (arity o) (length ks) ≡ true → all_below number_end ks ≡ true → read number_bytes (term_record o ks) ≡ term o ks
term_says o ks f k t a = by_form ks a (formed o f k) t

-- A STEP'S RECORD SAYS THE STEP
pub step_says : (rule literal : ℕ) → rule < number_end → literal < number_end → read number_bytes (step_record rule literal) ≡ step rule (literal ∷ [])
unfolding read step_record
step_says rule literal h k =
    ap₂ (λ (x y : ℕ). step x (y ∷ [])) (word_back rule (word_bytes literal) h) (word_back literal [] k)
