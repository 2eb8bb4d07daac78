-- var, value, concat, extract, sign_extend: the bits are moved, and there are no gates.
use mathlib.Core.Path.{◌≡◌, refl, sym, ap, ap₂, ◌∙◌}
use mathlib.Core.Bool.{Bool, true, false, ◌&&◌, cond}
use mathlib.Core.List.{List, [], ◌∷◌, ◌++◌, map, foldl, append-nil}
use Prim.Native.Nat.{ℕ, zero, suc, ◌+◌, ◌-◌, ◌*◌, ◌/◌, ◌%◌, ◌^◌, ◌<◌, ◌≤◌}
use native.Mathlib.Nat.{pow-succ', pow-suc, div-eq_of_lt, div-one, mod-eq_of_lt, mod-one, div-div-eq-div-mul}
use native.Mathlib.Omega.{arith}
use lib.Arith.{mod-mul}
use lib.Dec.{T}
use lib.Ieee.Fits.{and_l, and_r}
use lib.ListN.{length, length-append, length-take, length-drop, length-replicate, take, drop, replicate}
use lib.Pow.{pow_pos, pow-add, suc_ones}
use Rattle.theory.specs.Kind.{True, False, Const, BvConcat, BvExtract, SignExtend, many, takes}
use Rattle.theory.specs.Term.{fold, Term, Terms, node, nil, cons, to_list}
use Rattle.theory.specs.Sort.{bv, is_bv_sort, all_bv, sum_widths, sort_width, is_width, sort_of, sorts_of}
use Rattle.theory.specs.Value.{Assign, Val, truth, number, number_of, bit, to_number, bit_at, concat2, meaning, value, values}
use Rattle.theory.specs.Circuit.{last}
use Rattle.theory.specs.Bits.{get_term_bits, bb, concat_bits, extend_bits}
use Rattle.theory.proofs.Numbers.{half, odd, top, top_bit}
use Rattle.theory.proofs.Blast.{Bits, bits_of, bb_value, guard_yes}
use Rattle.theory.proofs.Sorts.{is_bv}

-- ---- numbers of lists
pub to_number_append : (xs ys : List Bool) → to_number (xs ++ ys) ≡ to_number xs + 2 ^ length xs * to_number ys
to_number_append [] ys = omega arith
to_number_append (x ∷ xs) ys = rw pow-succ' (omega (arith, to_number_append xs ys))

pub map_append : {A B : Type 0} (f : A → B) (xs ys : List A) → map f (xs ++ ys) ≡ map f xs ++ map f ys
map_append f [] ys = refl
map_append {B = B} f (x ∷ xs) ys = ap (λ (zs : List B). f x ∷ zs) (map_append f xs ys)

pub map_drop : {A B : Type 0} (f : A → B) (i : ℕ) (xs : List A) → map f (drop i xs) ≡ drop i (map f xs)
map_drop f zero xs = refl
map_drop f (suc i) [] = refl
map_drop f (suc i) (x ∷ xs) = map_drop f i xs

pub map_take : {A B : Type 0} (f : A → B) (i : ℕ) (xs : List A) → map f (take i xs) ≡ take i (map f xs)
map_take f zero xs = refl
map_take f (suc i) [] = refl
map_take {B = B} f (suc i) (x ∷ xs) = ap (λ (zs : List B). f x ∷ zs) (map_take f i xs)

-- the bits above the lowest i; the lowest i bits
pub to_number_drop : (i : ℕ) (xs : List Bool) → to_number (drop i xs) ≡ to_number xs / 2 ^ i
to_number_drop zero xs = sym (div-one (to_number xs))
to_number_drop (suc i) [] = sym (div-eq_of_lt (pow_pos (suc i)))
to_number_drop (suc i) (x ∷ xs) =
    to_number_drop i xs ∙ ap (λ (z : ℕ). z / 2 ^ i) (sym (half x (to_number xs)))
    ∙ div-div-eq-div-mul (bit x + 2 * to_number xs) 2 (2 ^ i) ∙ rw pow-succ'

pub to_number_take : (i : ℕ) (xs : List Bool) → to_number (take i xs) ≡ to_number xs % 2 ^ i
to_number_take zero xs = sym (mod-one (to_number xs))
to_number_take (suc i) [] = sym (mod-eq_of_lt (pow_pos (suc i)))
to_number_take (suc i) (x ∷ xs) =
    let m : (bit x + 2 * to_number xs) % 2 ^ suc i ≡ ((bit x + 2 * to_number xs) / 2 % 2 ^ i) * 2 + (bit x + 2 * to_number xs) % 2
    = rw pow-suc (mod-mul (bit x + 2 * to_number xs) (pow_pos i) (omega arith)) in
    let e : (bit x + 2 * to_number xs) / 2 % 2 ^ i ≡ to_number (take i xs)
    = ap (λ (z : ℕ). z % 2 ^ i) (half x (to_number xs)) ∙ sym (to_number_take i xs) in
    let o = odd x (to_number xs) in
    omega arith

-- ---- var: the bits of x
pub var_holds : (ρ : Assign) (x : Term) (n : ℕ) → sort_of x ≡ bv n → value ρ (bb (get_term_bits x)) ≡ value ρ x
var_holds ρ x n s =
    let bx = bits_of ρ x n s in
    bb_value ρ (get_term_bits x) bx.bits bx.reads ∙ ap (λ (k : ℕ). number k (to_number bx.bits)) bx.size ∙ sym bx.means

-- ---- value: a constant, and bits that are literally true or false
abbrev pub literal : Bool → Term
literal true = node True nil
literal false = node False nil

literal_reads : (ρ : Assign) (bs : List Bool) → map (value ρ) (map literal bs) ≡ map truth bs
unfolding fold meaning
literal_reads ρ [] = refl
literal_reads ρ (true ∷ bs) = ap (λ (vs : List Val). truth true ∷ vs) (literal_reads ρ bs)
literal_reads ρ (false ∷ bs) = ap (λ (vs : List Val). truth false ∷ vs) (literal_reads ρ bs)

pub value_holds : (ρ : Assign) (n x : ℕ) (bs : List Bool) → length bs ≡ n → to_number bs ≡ x
    → value ρ (bb (map literal bs)) ≡ value ρ (node (Const n x) nil)
unfolding fold meaning
value_holds ρ n x bs l e = bb_value ρ (map literal bs) bs (literal_reads ρ bs) ∙ ap₂ number l e

-- ---- extract
pub extract_holds : (ρ : Assign) (x : Term) (n i j : ℕ) → sort_of x ≡ bv n → j ≤ i → i < n
    → value ρ (bb (take (suc (i - j)) (drop j (get_term_bits x)))) ≡ value ρ (node (BvExtract i j) (cons x nil))
unfolding fold meaning
extract_holds ρ x n i j s h k =
    let bx = bits_of ρ x n s in
    let cs = take (suc (i - j)) (drop j bx.bits) in
    let r : map (value ρ) (take (suc (i - j)) (drop j (get_term_bits x))) ≡ map truth cs
    = map_take (value ρ) (suc (i - j)) (drop j (get_term_bits x)) ∙ ap (take (suc (i - j))) (map_drop (value ρ) j (get_term_bits x) ∙ ap (drop j) bx.reads ∙ sym (map_drop truth j bx.bits))
    ∙ sym (map_take truth (suc (i - j)) (drop j bx.bits)) in
    let z = bx.size in
    let l : length cs ≡ suc (i - j) = rw (length-take, length-drop) (omega arith) in
    let m : to_number cs ≡ to_number bx.bits / 2 ^ j % 2 ^ suc (i - j)
    = to_number_take (suc (i - j)) (drop j bx.bits) ∙ ap (λ (z : ℕ). z % 2 ^ suc (i - j)) (to_number_drop j bx.bits) in
    bb_value ρ (take (suc (i - j)) (drop j (get_term_bits x))) cs r
    ∙ ap₂ number l m ∙ sym (ap (λ (v : Val). number (suc (i - j)) (number_of v / 2 ^ j % 2 ^ suc (i - j))) bx.means)

-- ---- concat: the last argument's bits first
join_numbers : (w d a b c : ℕ) → (a * 2 ^ w + b) * 2 ^ d + c ≡ a * 2 ^ (d + w) + (c + 2 ^ d * b)
join_numbers w d a b c = rw (pow-add 2 d w) (omega arith)

-- what the bits of the arguments come to
record Joined (ρ : Assign) (ts : Terms) (cs : List Bool) : Type 0 where
  reads : map (value ρ) (concat_bits (to_list ts)) ≡ map truth cs
  means : (m a : ℕ) → foldl concat2 (number m a) (values ρ ts) ≡ number (m + length cs) (a * 2 ^ length cs + to_number cs)

concat_step : (ρ : Assign) (t : Term) (ts : Terms) (n : ℕ) (ds : List Bool) → Joined ρ ts ds → (bt : Bits ρ t n) → Joined ρ (cons t ts) (ds ++ bt.bits)
unfolding fold concat_bits
concat_step ρ t ts n ds j bt =
    record {
      reads = map_append (value ρ) (concat_bits (to_list ts)) (get_term_bits t) ∙ ap₂ (λ (us vs : List Val). us ++ vs) j.reads bt.reads ∙ sym (map_append truth ds bt.bits);
      means = λ m a.
          let z = bt.size in
          ap (λ (v : Val). foldl concat2 (concat2 (number m a) v) (values ρ ts)) bt.means
          ∙ j.means (m + n) (a * 2 ^ n + to_number bt.bits)
          ∙ ap₂ number (rw length-append (omega arith))
          (join_numbers n (length ds) a (to_number bt.bits) (to_number ds)
          ∙ rw (length-append, bt.size, to_number_append));
    }

concat_fold : (ρ : Assign) (ts : Terms) → T (all_bv (sorts_of ts)) → (cs : List Bool) × Joined ρ ts cs
unfolding fold concat_bits
concat_fold ρ nil h = ([], record { reads = refl; means = λ m a. ap₂ number (omega arith) (omega arith) })
concat_fold ρ (cons t ts) h =
    let r = concat_fold ρ ts (and_r (is_bv_sort (sort_of t)) _ h) in
    let bt = bits_of ρ t (sort_width (sort_of t)) (is_bv (sort_of t) (and_l (is_bv_sort (sort_of t)) _ h)) in
    (r.0 ++ bt.bits, concat_step ρ t ts (sort_width (sort_of t)) r.0 r.1 bt)

concat_first : (ρ : Assign) (t : Term) (ts : Terms) (n : ℕ) (ds : List Bool) → Joined ρ ts ds → Bits ρ t n
    → value ρ (bb (concat_bits (t ∷ to_list ts))) ≡ foldl concat2 (value ρ t) (values ρ ts)
concat_first ρ t ts n ds j bt =
    let z = bt.size in
    bb_value ρ (concat_bits (t ∷ to_list ts)) (ds ++ bt.bits) (concat_step ρ t ts n ds j bt).reads
    ∙ ap₂ number (rw length-append (omega arith)) (to_number_append ds bt.bits ∙ omega arith)
    ∙ sym (j.means n (to_number bt.bits)) ∙ sym (ap (λ (v : Val). foldl concat2 v (values ρ ts)) bt.means)

pub concat_holds : (ρ : Assign) (ts : Terms) (n : ℕ) → sort_of (node BvConcat ts) ≡ bv n
    → value ρ (bb (concat_bits (to_list ts))) ≡ value ρ (node BvConcat ts)
unfolding fold meaning
concat_holds ρ nil n s = absurd (guard_yes _ (bv 0) (bv n) tt s).0
concat_holds ρ (cons t ts) n s =
    let g = (guard_yes (takes many (length (sorts_of (cons t ts))) && (all_bv (sorts_of (cons t ts)) && is_width (sum_widths (sorts_of (cons t ts))))) _ (bv n) tt s).0 in
    let h : T (all_bv (sorts_of (cons t ts))) = and_l (all_bv (sorts_of (cons t ts))) _ (and_r (takes many (length (sorts_of (cons t ts)))) _ g) in
    let r = concat_fold ρ ts (and_r (is_bv_sort (sort_of t)) _ h) in
    concat_first ρ t ts (sort_width (sort_of t)) r.0 r.1
    (bits_of ρ t (sort_width (sort_of t)) (is_bv (sort_of t) (and_l (is_bv_sort (sort_of t)) _ h)))

pub false_value : (ρ : Assign) → value ρ (node False nil) ≡ truth false
unfolding fold meaning
false_value ρ = refl

-- ---- sign_extend: k copies of the top bit above
pub last_map : {A B : Type 0} (f : A → B) (d : A) (xs : List A) → f (last d xs) ≡ last (f d) (map f xs)
unfolding last
last_map f d [] = refl
last_map f d (x ∷ []) = refl
last_map f d (x ∷ x' ∷ xs) = last_map f d (x' ∷ xs)

pub last_top : (bs : List Bool) → last false bs ≡ top bs
unfolding last top
last_top [] = refl
last_top (x ∷ []) = refl
last_top (x ∷ x' ∷ xs) = last_top (x' ∷ xs)

pub map_replicate : {A B : Type 0} (f : A → B) (k : ℕ) (x : A) → map f (replicate k x) ≡ replicate k (f x)
map_replicate f zero x = refl
map_replicate {B = B} f (suc k) x = ap (λ (ys : List B). f x ∷ ys) (map_replicate f k x)

pub copies : (k : ℕ) (b : Bool) → to_number (replicate k b) ≡ cond b (2 ^ k - 1) 0
copies zero true = refl
copies zero false = refl
copies (suc k) true = rw pow-succ' (omega (arith, copies k true, pow_pos k))
copies (suc k) false = omega (arith, copies k false)

extended : (n k x : ℕ) (b : Bool) → x + 2 ^ n * cond b (2 ^ k - 1) 0 ≡ x + cond b (2 ^ (n + k) - 2 ^ n) 0
extended n k x true = rw (pow-add 2 n k) (omega (arith, ap (λ (z : ℕ). 2 ^ n * z) (suc_ones k)))
extended n k x false = omega arith

pub top_at : (bs : List Bool) → bit_at (length bs - 1) (to_number bs) ≡ top bs
unfolding top
top_at [] = refl
top_at (x ∷ xs) = ap (λ (i : ℕ). bit_at i (to_number (x ∷ xs))) (let z : suc (length xs) - 1 ≡ length xs = omega arith in z) ∙ top_bit x xs

-- the value of the last bit of a term's bits
pub top_reads : (ρ : Assign) (xs : List Term) (bs : List Bool) → map (value ρ) xs ≡ map truth bs → value ρ (last (node False nil) xs) ≡ truth (top bs)
top_reads ρ xs bs r = last_map (value ρ) (node False nil) xs ∙ ap₂ last (false_value ρ) r ∙ sym (last_map truth false bs) ∙ ap truth (last_top bs)

extend_reads : (ρ : Assign) (k : ℕ) (xs : List Term) (bs : List Bool) → map (value ρ) xs ≡ map truth bs
    → map (value ρ) (extend_bits k xs) ≡ map truth (bs ++ replicate k (top bs))
extend_reads ρ k xs bs r =
    map_append (value ρ) xs (replicate k (last (node False nil) xs))
    ∙ ap₂ (λ (us vs : List Val). us ++ vs) r
    (map_replicate (value ρ) k (last (node False nil) xs) ∙ ap (replicate k) (top_reads ρ xs bs r) ∙ sym (map_replicate truth k (top bs)))
    ∙ sym (map_append truth bs (replicate k (top bs)))

extend_number : (k : ℕ) (bs : List Bool)
    → to_number (bs ++ replicate k (top bs)) ≡ to_number bs + cond (bit_at (length bs - 1) (to_number bs)) (2 ^ (length bs + k) - 2 ^ length bs) 0
extend_number k bs =
    to_number_append bs (replicate k (top bs))
    ∙ ap (λ (z : ℕ). to_number bs + 2 ^ length bs * z) (copies k (top bs))
    ∙ extended (length bs) k (to_number bs) (top bs)
    ∙ ap (λ (b : Bool). to_number bs + cond b (2 ^ (length bs + k) - 2 ^ length bs) 0) (sym (top_at bs))

pub extend_holds : (ρ : Assign) (x : Term) (n k : ℕ) → sort_of x ≡ bv n
    → value ρ (bb (extend_bits k (get_term_bits x))) ≡ value ρ (node (SignExtend k) (cons x nil))
unfolding fold meaning
extend_holds ρ x n k s =
    let bx = bits_of ρ x n s in
    bb_value ρ (extend_bits k (get_term_bits x)) (bx.bits ++ replicate k (top bx.bits)) (extend_reads ρ k (get_term_bits x) bx.bits bx.reads)
    ∙ ap₂ number (length-append bx.bits (replicate k (top bx.bits)) ∙ ap₂ ◌+◌ bx.size (length-replicate k (top bx.bits)))
    (extend_number k bx.bits ∙ ap (λ (m : ℕ). to_number bx.bits + cond (bit_at (m - 1) (to_number bx.bits)) (2 ^ (m + k) - 2 ^ m) 0) bx.size)
    ∙ sym (ap (λ (v : Val). meaning ρ (SignExtend k) (v ∷ [])) bx.means)

-- with k 0 the rule asks for x itself
pub extend_zero : (ρ : Assign) (x : Term) (n : ℕ) → sort_of x ≡ bv n → value ρ x ≡ value ρ (node (SignExtend 0) (cons x nil))
extend_zero ρ x n s =
    sym (var_holds ρ x n s) ∙ ap (λ (ts : List Term). value ρ (bb ts)) (sym (append-nil (get_term_bits x))) ∙ extend_holds ρ x n 0 s
