-- A record built from a kind and numbers says the term of that kind with these arguments, where it may have so many.
use mathlib.Core.Path.{◌≡◌, refl, ap, ap₂, ◌∙◌}
use mathlib.Core.Bool.{Bool, true, false, ◌&&◌, cond}
use mathlib.Core.List.{List, [], ◌∷◌, ◌++◌}
use Rattle.std.specs.Prelude.{Some as some}
use Prim.Native.Nat.{ℕ, zero, suc, ◌+◌, ◌-◌, ◌*◌, ◌/◌, ◌%◌, ◌^◌, ◌<◌}
use native.Mathlib.Nat.{mul-div_cancel, mul-mod_left, zero-mod, zero-div}
use native.Mathlib.Omega.{arith}
use lib.Dec.{T, leb, ltb, eqb, ltb→lt, eqb→eq, le→leb}
use lib.Seq.{drop_at, take_at}
use lib.Ieee.Fits.{and_l, and_r}
use lib.ListN.{length, take, length-append}
use Rattle.theory.specs.Limit.{number_bytes, value_bytes}
use Rattle.theory.specs.Kind.{Op, Const, kind, Arity, exactly, arity, takes}
use Rattle.theory.specs.Record.{Bytes, AllBytes, little_endian, word, words, bytes_of, kind_of, body_of, fits, arguments, Shape, plain, indexed, valued, shape_of, term, misfit, read_term, read_step, read_chain, read_back, read}
use Rattle.theory.proofs.Bytes.{Sound}
use Rattle.theory.proofs.Written.{number_exact}
use Rattle.terms.specs.Bodies.{Length}
use Rattle.rows.proofs.RowLaws.{length_bytes}
use Rattle.table.specs.Keys.{record_of, words_bytes, last_number, all_places}
use Rattle.table.proofs.KeyLaws.{words_bytes_length}
use Rattle.theory.proofs.Basics.{T_true}

-- ---- numbers as bytes
word_of : (x : ℕ) (more : Bytes) → x < 65536 → word (x % 256 ∷ x / 256 % 256 ∷ more) ≡ x
word_of x more h = omega arith

-- a number of b bytes at the start
number_first : (b x : ℕ) (more : Bytes) → x < 256 ^ b → little_endian (take b (bytes_of b x ++ more)) ≡ x
number_first b x more h = ap little_endian (take_at (bytes_of b x) more b (length_bytes b x)) ∙ number_exact b x h

-- a place is a number that b bytes hold
pub place_held : (b x : ℕ) → x < last_number b → x < 256 ^ b
unfolding last_number
place_held b x h = omega arith

pub words_of_bytes : (b : ℕ) (xs : List ℕ) → T (all_places b xs) → words b (length xs) (words_bytes b xs) ≡ xs
unfolding words_bytes all_places
words_of_bytes b [] h = refl
words_of_bytes b (x ∷ xs) h =
    let l : x < last_number b = ltb→lt x (last_number b) (and_l (ltb x (last_number b)) _ h) in
    ap₂ (λ (y : ℕ) (ys : List ℕ). y ∷ ys) (number_first b x (words_bytes b xs) (place_held b x l))
    (ap (words b (length xs)) (drop_at (bytes_of b x) (words_bytes b xs) b (length_bytes b x)) ∙ words_of_bytes b xs (and_r (ltb x (last_number b)) _ h))

bytes_small : (b x : ℕ) (more : Bytes) → AllBytes more → AllBytes (bytes_of b x ++ more)
bytes_small zero x more h = h
bytes_small (suc b) x more h = (omega arith, bytes_small b (x / 256) more h)

pub words_bytes_small : (b : ℕ) (xs : List ℕ) → AllBytes (words_bytes b xs)
unfolding words_bytes
words_bytes_small b [] = tt
words_bytes_small b (x ∷ xs) = bytes_small b x (words_bytes b xs) (words_bytes_small b xs)

-- an index before them
pub indexed_small : (b i : ℕ) (xs : List ℕ) → AllBytes (bytes_of 2 i ++ words_bytes b xs)
indexed_small b i xs = bytes_small 2 i (words_bytes b xs) (words_bytes_small b xs)

-- ---- a record's parts
pub record_kind : (k : ℕ) (body : Bytes) → k < 65536 → kind_of (record_of k body) ≡ k
unfolding record_of
record_kind k body h = word_of k body h

pub record_body : (k : ℕ) (body : Bytes) → body_of (record_of k body) ≡ body
unfolding record_of
record_body k body = refl

pub record_sound : (k : ℕ) (body : Bytes) → 2 + length body < 65536 → AllBytes body → Sound (record_of k body)
unfolding record_of
record_sound k body h b = record {
  bytes = bytes_small 2 (2 + length body) (bytes_of 2 k ++ body) (bytes_small 2 k body b);
  size = omega (arith, word_of (2 + length body) (k % 256 ∷ k / 256 % 256 ∷ body) h);
  long = omega arith;
}

-- a term's record: not a step's kind, not a chain's, not a back's
read_as : (c k : ℕ) (s : Shape) (body : Bytes) → k < 100 → shape_of k ≡ some s → read c (record_of k body) ≡ read_term c (some s) body
unfolding read
read_as c k s body h e =
    let kk : kind_of (record_of k body) ≡ k = record_kind k body (omega arith) in
    by_kind (eqb (kind_of (record_of k body)) 100) (eqb (kind_of (record_of k body)) 104) (eqb (kind_of (record_of k body)) 101)
    (λ t. let z = eqb→eq (kind_of (record_of k body)) 100 t in omega arith)
    (λ t. let z = eqb→eq (kind_of (record_of k body)) 104 t in omega arith)
    (λ t. let z = eqb→eq (kind_of (record_of k body)) 101 t in omega arith)
    ∙ ap₂ (read_term c) (ap shape_of kk ∙ e) (record_body k body)
  where
    by_kind : (x y z : Bool) → (T x → ⊥) → (T y → ⊥) → (T z → ⊥)
        → cond x (read_step c (body_of (record_of k body))) (cond y (read_chain c (body_of (record_of k body)))
        (cond z (read_back c (body_of (record_of k body))) (read_term c (shape_of (kind_of (record_of k body))) (body_of (record_of k body)))))
        ≡ read_term c (shape_of (kind_of (record_of k body))) (body_of (record_of k body))
    by_kind true y z f g h = absurd (f tt)
    by_kind false true z f g h = absurd (g tt)
    by_kind false false true f g h = absurd (h tt)
    by_kind false false false f g h = refl

-- ---- a body: some bytes, then arguments
front_length : (b : ℕ) (pre : Bytes) (ks : List ℕ) → length (pre ++ words_bytes b ks) ≡ length pre + length ks * b
front_length b pre ks = length-append pre (words_bytes b ks) ∙ ap (λ (n : ℕ). length pre + n) (words_bytes_length b ks)

-- so many numbers of b bytes, counted
counted_rest : (b m k l : ℕ) → l ≡ m + k * b → l - m ≡ k * b
counted_rest b m k l e = omega arith

module _ {b : ℕ} (lb : Length b) (pre : Bytes) (ks : List ℕ) where
  rest_is : length (pre ++ words_bytes b ks) - length pre ≡ length ks * b
  rest_is = counted_rest b (length pre) (length ks) (length (pre ++ words_bytes b ks)) (front_length b pre ks)

  count_is : (length (pre ++ words_bytes b ks) - length pre) / b ≡ length ks
  count_is = ap (λ (n : ℕ). n / b) rest_is ∙ mul-div_cancel (length ks) lb.some_bytes

  even_is : (length (pre ++ words_bytes b ks) - length pre) % b ≡ 0
  even_is = ap (λ (n : ℕ). n % b) rest_is ∙ mul-mod_left (length ks) b

  fits_front : (allowed : ℕ → Bool) → fits b (length pre) allowed (pre ++ words_bytes b ks) ≡ allowed (length ks)
  fits_front allowed =
      let l = front_length b pre ks in
      let a : leb (length pre) (length (pre ++ words_bytes b ks)) ≡ true = T_true _ (le→leb (length pre) (length (pre ++ words_bytes b ks)) (omega arith)) in
      rw (a, even_is, count_is)

  arguments_front : T (all_places b ks) → arguments b (length pre) (pre ++ words_bytes b ks) ≡ ks
  arguments_front h = ap₂ (words b) count_is (drop_at pre (words_bytes b ks) (length pre) refl) ∙ words_of_bytes b ks h

-- what a record of kind o with these arguments says
abbrev pub Says : ℕ → Bytes → Op → List ℕ → Type 0
Says b r o ks = read b r ≡ cond (takes (arity o) (length ks)) (term o ks) misfit

-- a kind without indices
pub read_plain : {b : ℕ} (lb : Length b) (o : Op) (ks : List ℕ) → kind o < 100 → shape_of (kind o) ≡ some (plain o) → T (all_places b ks) → Says b (record_of (kind o) (words_bytes b ks)) o ks
read_plain {b} lb o ks h e p =
    read_as b (kind o) (plain o) (words_bytes b ks) h e
    ∙ ap₂ (λ (t : Bool) (js : List ℕ). cond t (term o js) misfit) (fits_front lb [] ks (takes (arity o))) (arguments_front lb [] ks p)

-- a kind with one index, which stands before the argument
pub read_indexed : {b : ℕ} (lb : Length b) (f : ℕ → Op) (i x : ℕ) → kind (f i) < 100 → shape_of (kind (f i)) ≡ some (indexed f) → arity (f i) ≡ exactly 1 → i < 65536
    → T (all_places b (x ∷ [])) → read b (record_of (kind (f i)) (bytes_of 2 i ++ words_bytes b (x ∷ []))) ≡ term (f i) (x ∷ [])
read_indexed {b} lb f i x h e a l p =
    let body = bytes_of 2 i ++ words_bytes b (x ∷ []) in
    let w : word body ≡ i = word_of i (words_bytes b (x ∷ [])) l in
    read_as b (kind (f i)) (indexed f) body h e
    ∙ ap₂ (λ (t : Bool) (js : List ℕ). cond t (term (f (word body)) js) misfit)
    (fits_front lb (bytes_of 2 i) (x ∷ []) (takes (arity (f (word body)))) ∙ ap (λ (j : ℕ). takes (arity (f j)) 1) w ∙ ap (λ (r : Arity). takes r 1) a)
    (arguments_front lb (bytes_of 2 i) (x ∷ []) p)
    ∙ ap (λ (j : ℕ). term (f j) (x ∷ [])) w

-- a constant
pub read_constant : {b : ℕ} (lb : Length b) (n v : ℕ) → n < 65536 → v < 18446744073709551616
    → read b (record_of (kind (Const n v)) (bytes_of number_bytes n ++ bytes_of value_bytes v)) ≡ term (Const n v) []
unfolding shape_of
read_constant {b} lb n v h l =
    read_as b 12 (valued Const) (bytes_of 2 n ++ bytes_of 8 v) (omega arith) refl
    ∙ ap (λ (t : Bool). cond t (term (Const (word (bytes_of 2 n ++ bytes_of 8 v)) (little_endian (bytes_of 8 v))) (words b (0 / b) [])) misfit) (no_arguments b lb)
    ∙ ap₂ (λ (m x : ℕ). term (Const m x) (words b (0 / b) [])) (word_of n (bytes_of 8 v) h) (eight v l)
    ∙ ap (λ (k : ℕ). term (Const n v) (words b k [])) (zero-div b)
  where
    eight : (x : ℕ) → x < 18446744073709551616 → little_endian (bytes_of 8 x) ≡ x
    eight x b = omega arith

    no_arguments : (b : ℕ) → Length b → (eqb (0 % b) 0 && eqb (0 / b) 0) ≡ true
    no_arguments b lb = rw (zero-mod b, zero-div b)
