-- Records as bytes: two whole records that say the same term are the same bytes.
use mathlib.Core.Path.{◌≡◌, refl, sym, ap, ap₂, subst, ◌∙◌}
use mathlib.Core.Bool.{Bool, true, false, cond}
use mathlib.Core.List.{List, [], ◌∷◌, ◌++◌}
use Rattle.std.specs.Prelude.{Option, None as none, Some as some}
use Prim.Native.Nat.{ℕ, zero, suc, ◌+◌, ◌-◌, ◌*◌, ◌/◌, ◌%◌, ◌<◌, ◌≤◌}
use native.Mathlib.Nat.{div-add-mod}
use native.Mathlib.Omega.{arith}
use lib.Dec.{T, leb, eqb, eqb→eq, leb→le}
use lib.Ieee.Fits.{and_l, and_r}
use lib.ListN.{length, take, drop, length-take, length-drop, take-append-drop}
use Rattle.std.specs.Prelude.{slice_get as get_elem?}
use lib.Seq.{take-take, take-add}
use Rattle.theory.specs.Limit.{number_bytes, value_bytes}
use Rattle.theory.specs.Kind.{Op, kind, arity, takes}
use Rattle.theory.specs.Record.{Bytes, AllBytes, little_endian, word, words, extent, whole, cut, records_of, kind_of, body_of, fits, arguments, Shape, plain, indexed, twice_indexed, valued, front, make, shapes, find_shape, shape_of, Item, term, step, back, misfit, read, read_term, read_step, read_back, chain, premise_count, chain_front, before_literal, chain_fits, read_chain}
pub use Rattle.theory.specs.Listed.{Sound}
use Rattle.theory.proofs.Basics.{none_some, some_inj}

-- ---- lists of bytes
pub take_bytes : (n : ℕ) (bs : Bytes) → AllBytes bs → AllBytes (take n bs)
take_bytes zero bs h = tt
take_bytes (suc n) [] h = tt
take_bytes (suc n) (b ∷ bs) h = (h.0, take_bytes n bs h.1)

pub drop_bytes : (n : ℕ) (bs : Bytes) → AllBytes bs → AllBytes (drop n bs)
drop_bytes zero bs h = h
drop_bytes (suc n) [] h = tt
drop_bytes (suc n) (b ∷ bs) h = drop_bytes n bs h.1

-- ---- a number says its bytes
digit : (a b x y : ℕ) → a < 256 → b < 256 → a + 256 * x ≡ b + 256 * y → (a ≡ b) × (x ≡ y)
digit a b x y p q e = (omega arith, omega arith)

number_inj : (bs cs : Bytes) → AllBytes bs → AllBytes cs → length bs ≡ length cs → little_endian bs ≡ little_endian cs → bs ≡ cs
number_inj [] [] p q l e = refl
number_inj [] (c ∷ cs) p q l e = absurd (omega arith)
number_inj (b ∷ bs) [] p q l e = absurd (omega arith)
number_inj (b ∷ bs) (c ∷ cs) p q l e =
    let d = digit b c (little_endian bs) (little_endian cs) p.0 q.0 e in
    ap₂ (λ (x : ℕ) (xs : Bytes). x ∷ xs) d.0 (number_inj bs cs p.1 q.1 (omega arith) d.1)

part_inj : (n : ℕ) (bs cs : Bytes) → AllBytes bs → AllBytes cs → n ≤ length bs → n ≤ length cs
    → little_endian (take n bs) ≡ little_endian (take n cs) → take n bs ≡ take n cs
part_inj n bs cs p q l k e =
    number_inj (take n bs) (take n cs) (take_bytes n bs p) (take_bytes n cs q) (length-take n bs ∙ omega arith ∙ sym (length-take n cs)) e

-- a number of two bytes and one of n after it
two_numbers : (n : ℕ) (bs cs : Bytes) → AllBytes bs → AllBytes cs → 2 + n ≤ length bs → 2 + n ≤ length cs
    → word bs ≡ word cs → little_endian (take n (drop 2 bs)) ≡ little_endian (take n (drop 2 cs)) → take (2 + n) bs ≡ take (2 + n) cs
two_numbers n bs cs p q l m e f =
    take-add 2 n bs
    ∙ ap₂ (λ (x y : Bytes). x ++ y) (part_inj 2 bs cs p q (omega arith) (omega arith) e)
    (part_inj n (drop 2 bs) (drop 2 cs) (drop_bytes 2 bs p) (drop_bytes 2 cs q) (rw length-drop (omega arith)) (rw length-drop (omega arith)) f)
    ∙ sym (take-add 2 n cs)

words_inj : (b k : ℕ) (bs cs : Bytes) → AllBytes bs → AllBytes cs → length bs ≡ b * k → length cs ≡ b * k → words b k bs ≡ words b k cs → bs ≡ cs
words_inj b zero [] [] p q l m e = refl
words_inj b zero [] (c ∷ cs) p q l m e = absurd (omega arith)
words_inj b zero (c ∷ bs) cs p q l m e = absurd (omega arith)
words_inj b (suc k) bs cs p q l m e =
    let a : little_endian (take b bs) ≡ little_endian (take b cs) = cc in
    let t : words b k (drop b bs) ≡ words b k (drop b cs) = cc in
    sym (take-append-drop b bs)
    ∙ ap₂ (λ (x y : Bytes). x ++ y) (part_inj b bs cs p q (omega arith) (omega arith) a)
    (words_inj b k (drop b bs) (drop b cs) (drop_bytes b bs p) (drop_bytes b cs q) (length-drop b bs ∙ omega arith) (length-drop b cs ∙ omega arith) t)
    ∙ take-append-drop b cs

pub words_length : (b k : ℕ) (bs : Bytes) → length (words b k bs) ≡ k
words_length b zero bs = refl
words_length b (suc k) bs = ap suc (words_length b k (drop b bs))

-- ---- shapes: the numbers in a kind can be read off it, and do not change its number
abbrev Lawful1 : (ℕ → Op) → Type 0
Lawful1 f = ((m : ℕ) → kind (f m) ≡ kind (f 0)) × ((m n : ℕ) → f m ≡ f n → m ≡ n)

abbrev Lawful2 : (ℕ → ℕ → Op) → Type 0
Lawful2 f = ((m n : ℕ) → kind (f m n) ≡ kind (f 0 0)) × ((m n p q : ℕ) → f m n ≡ f p q → (m ≡ p) × (n ≡ q))

abbrev Lawful : Shape → Type 0
Lawful (plain o) = Unit {0}
Lawful (indexed f) = Lawful1 f
Lawful (twice_indexed f) = Lawful2 f
Lawful (valued f) = Lawful2 f

-- of a list, those with numbers in them
abbrev AllLawful : List Shape → Type 0
AllLawful [] = Unit {0}
AllLawful (plain o ∷ ss) = AllLawful ss
AllLawful (indexed f ∷ ss) = Lawful1 f × AllLawful ss
AllLawful (twice_indexed f ∷ ss) = Lawful2 f × AllLawful ss
AllLawful (valued f ∷ ss) = Lawful2 f × AllLawful ss

shapes_lawful : AllLawful shapes
shapes_lawful = (
  (λ m. refl, λ m n e. cc),
  (
    (λ m n. refl, λ m n p q e. (cc, cc)),
    (
      (λ m n. refl, λ m n p q e. (cc, cc)),
      (
        (λ m. refl, λ m n e. cc),
        (
          (λ m n. refl, λ m n p q e. (cc, cc)),
          (
            (λ m. refl, λ m n e. cc),
            ((λ m. refl, λ m n e. cc), ((λ m. refl, λ m n e. cc), ((λ m. refl, λ m n e. cc), ((λ m. refl, λ m n e. cc), tt)))),
          ),
        ),
      ),
    ),
  ),
)

lawful_split : (t : Shape) (ss : List Shape) → AllLawful (t ∷ ss) → Lawful t × AllLawful ss
lawful_split (plain o) ss h = (tt, h)
lawful_split (indexed f) ss h = h
lawful_split (twice_indexed f) ss h = h
lawful_split (valued f) ss h = h

find_lawful : (k : ℕ) (ss : List Shape) → AllLawful ss → (s : Shape) → find_shape k ss ≡ some s → Lawful s × (kind (make s []) ≡ k)
find_lawful k [] h s e = absurd (none_some s e)
find_lawful k (t ∷ ss) h s e =
    go (eqb (kind (make t [])) k) (eqb→eq (kind (make t [])) k) (find_lawful k ss (lawful_split t ss h).1 s) e
  where
    go : (b : Bool) → (T b → kind (make t []) ≡ k) → (find_shape k ss ≡ some s → Lawful s × (kind (make s []) ≡ k))
        → cond b (some t) (find_shape k ss) ≡ some s → Lawful s × (kind (make s []) ≡ k)
    go true f ih d = subst (λ (u : Shape). Lawful u × (kind (make u []) ≡ k)) (some_inj t s d) ((lawful_split t ss h).0, f tt)
    go false f ih d = ih d

pub shape_lawful : (k : ℕ) (s : Shape) → shape_of k ≡ some s → Lawful s × (kind (make s []) ≡ k)
unfolding shape_of
shape_lawful k s e = find_lawful k shapes shapes_lawful s e

make_kind : (s : Shape) → Lawful s → (body : Bytes) → kind (make s body) ≡ kind (make s [])
make_kind (plain o) h body = refl
make_kind (indexed f) h body = h.0 (word body)
make_kind (twice_indexed f) h body = h.0 (word body) (word (drop number_bytes body))
make_kind (valued f) h body = h.0 (word body) (little_endian (take value_bytes (drop number_bytes body)))

front_inj : (s : Shape) → Lawful s → (bs cs : Bytes) → AllBytes bs → AllBytes cs → front s ≤ length bs → front s ≤ length cs
    → make s bs ≡ make s cs → take (front s) bs ≡ take (front s) cs
front_inj (plain o) h bs cs p q l m e = refl
front_inj (indexed f) h bs cs p q l m e = part_inj 2 bs cs p q l m (h.1 (word bs) (word cs) e)
front_inj (twice_indexed f) h bs cs p q l m e = let z = h.1 _ _ _ _ e in two_numbers 2 bs cs p q l m z.0 z.1
front_inj (valued f) h bs cs p q l m e = let z = h.1 _ _ _ _ e in two_numbers 8 bs cs p q l m z.0 z.1

-- ---- a record that says a term: its shape, and the parts of its body
pub record SaysTerm (b : ℕ) (r : Bytes) (o : Op) (ks : List ℕ) : Type 0 where
  pub shape : Shape
  pub is_shape : shape_of (kind_of r) ≡ some shape
  pub fit : T (fits b (front shape) (takes (arity o)) (body_of r))
  pub made : make shape (body_of r) ≡ o
  pub args : arguments b (front shape) (body_of r) ≡ ks

pub says_term : (b : ℕ) (r : Bytes) (o : Op) (ks : List ℕ) → read b r ≡ term o ks → SaysTerm b r o ks
unfolding read
says_term b r o ks e = by_kind (eqb (kind_of r) 100) (eqb (kind_of r) 104) (eqb (kind_of r) 101) e
  where
    wrong : (t : Bool) (i : Item) → (i ≡ term o ks → ⊥) → cond t i misfit ≡ term o ks → ⊥
    wrong true i f d = f d
    wrong false i f d = let z : ◌≡◌ {A = ℕ} 0 1 = cc in omega arith

    by_shape : (q : Option Shape) → shape_of (kind_of r) ≡ q → read_term b q (body_of r) ≡ term o ks → SaysTerm b r o ks
    by_shape none f d = absurd (let z : ◌≡◌ {A = ℕ} 0 1 = cc in omega arith)
    by_shape (some s) f d = go (fits b (front s) (takes (arity (make s (body_of r)))) (body_of r)) (λ t. t) d
      where
        go : (t : Bool) → (T t → T (fits b (front s) (takes (arity (make s (body_of r)))) (body_of r)))
            → cond t (term (make s (body_of r)) (arguments b (front s) (body_of r))) misfit ≡ term o ks → SaysTerm b r o ks
        go true h c =
            let m : make s (body_of r) ≡ o = cc in
            record {
              shape = s;
              is_shape = f;
              fit = subst (λ (p : Op). T (fits b (front s) (takes (arity p)) (body_of r))) m (h tt);
              made = m;
              args = cc;
            }
        go false h c = absurd (let z : ◌≡◌ {A = ℕ} 0 1 = cc in omega arith)

    by_kind : (p q s : Bool)
        → cond p (read_step b (body_of r)) (cond q (read_chain b (body_of r)) (cond s (read_back b (body_of r)) (read_term b (shape_of (kind_of r)) (body_of r)))) ≡ term o ks
        → SaysTerm b r o ks
    by_kind true q s d =
        absurd (wrong (fits b number_bytes (λ n. leb n 64) (body_of r)) (step (word (body_of r)) (arguments b number_bytes (body_of r))) (λ c. let z : ◌≡◌ {A = ℕ} 0 1 = cc in omega arith) d)
    by_kind false true s d =
        let n = premise_count (body_of r) in
        absurd (wrong (chain_fits b (body_of r))
        (chain (word (body_of r)) (words number_bytes n (drop chain_front (body_of r))) (little_endian (take b (drop (before_literal (body_of r)) (body_of r)))))
        (λ c. let z : ◌≡◌ {A = ℕ} 0 1 = cc in omega arith) d)
    by_kind false false true d =
        absurd (wrong (eqb (length (body_of r)) b) (back (little_endian (take b (body_of r)))) (λ c. let z : ◌≡◌ {A = ℕ} 0 1 = cc in omega arith) d)
    by_kind false false false d = by_shape (shape_of (kind_of r)) refl d

pub term_kind : (b : ℕ) (r : Bytes) (o : Op) (ks : List ℕ) → read b r ≡ term o ks → kind_of r ≡ kind o
term_kind b r o ks e =
    let s = says_term b r o ks e in
    let h = shape_lawful (kind_of r) s.shape s.is_shape in
    sym h.1 ∙ sym (make_kind s.shape h.0 (body_of r)) ∙ ap kind s.made

-- no record says `true` or `false`
low_shapeless : (k : ℕ) → k < 2 → (s : Shape) → shape_of k ≡ some s → ⊥
unfolding shape_of
low_shapeless zero h s f = none_some s f
low_shapeless (suc zero) h s f = none_some s f
low_shapeless (suc (suc k)) h s f = omega arith

pub not_constant : (b : ℕ) (r : Bytes) (o : Op) (ks : List ℕ) → read b r ≡ term o ks → kind o < 2 → ⊥
not_constant b r o ks e l =
    let s = says_term b r o ks e in
    low_shapeless (kind_of r) (subst (λ (k : ℕ). k < 2) (sym (term_kind b r o ks e)) l) s.shape s.is_shape

-- ---- whole records
divided : (b n : ℕ) → n % b ≡ 0 → n ≡ b * (n / b)
divided b n e = let d = div-add-mod n b in omega arith

length_body : (r : Bytes) → 4 ≤ length r → length r ≡ 4 + length (body_of r)
length_body r h = let l : length (body_of r) ≡ length r - 4 = length-drop 4 r in omega arith

-- a body that fits: its arguments are all of it after the front
record Fit (b n : ℕ) (body : Bytes) : Type 0 where
  long : n ≤ length body
  rest : length (drop n body) ≡ b * ((length body - n) / b)

fit_parts : (b n : ℕ) (allowed : ℕ → Bool) (body : Bytes) → T (fits b n allowed body) → Fit b n body
fit_parts b n allowed body t =
    let l : n ≤ length body = leb→le n (length body) (and_l (leb n (length body)) _ t) in
    let e = eqb→eq ((length body - n) % b) 0 (and_l (eqb ((length body - n) % b) 0) _ (and_r (leb n (length body)) _ t)) in
    record { long = l; rest = length-drop n body ∙ divided b (length body - n) e }

same_rest : (b n : ℕ) (bs cs : Bytes) → AllBytes bs → AllBytes cs → Fit b n bs → Fit b n cs → arguments b n bs ≡ arguments b n cs → drop n bs ≡ drop n cs
same_rest b n bs cs p q f g e =
    let k = (length bs - n) / b in
    let half : k ≡ (length cs - n) / b
    = sym (words_length b k (drop n bs)) ∙ ap length e ∙ words_length b ((length cs - n) / b) (drop n cs) in
    words_inj b k (drop n bs) (drop n cs) (drop_bytes n bs p) (drop_bytes n cs q) f.rest (g.rest ∙ ap (λ (m : ℕ). b * m) (sym half))
    (e ∙ ap (λ (m : ℕ). words b m (drop n cs)) (sym half))

pub same_record : (n : ℕ) (r s : Bytes) (o : Op) (ks : List ℕ) → Sound r → Sound s → read n r ≡ term o ks → read n s ≡ term o ks → r ≡ s
same_record n r s o ks a b er es =
    let kk : kind_of r ≡ kind_of s = term_kind n r o ks er ∙ sym (term_kind n s o ks es) in
    let sr = says_term n r o ks er in
    let ss = says_term n s o ks es in
    let sh = sr.shape in
    let same : sh ≡ ss.shape = some_inj sh ss.shape (sym sr.is_shape ∙ ap shape_of kk ∙ ss.is_shape) in
    let br : AllBytes (body_of r) = drop_bytes 4 r a.bytes in
    let bs : AllBytes (body_of s) = drop_bytes 4 s b.bytes in
    let fr = fit_parts n (front sh) (takes (arity o)) (body_of r) sr.fit in
    let fs = fit_parts n (front sh) (takes (arity o)) (body_of s) (subst (λ (t : Shape). T (fits n (front t) (takes (arity o)) (body_of s))) (sym same) ss.fit) in
    let f : take (front sh) (body_of r) ≡ take (front sh) (body_of s)
    = front_inj sh (shape_lawful (kind_of r) sh sr.is_shape).0 (body_of r) (body_of s) br bs fr.long fs.long
    (sr.made ∙ sym ss.made ∙ ap (λ (t : Shape). make t (body_of s)) (sym same)) in
    let g : drop (front sh) (body_of r) ≡ drop (front sh) (body_of s)
    = same_rest n (front sh) (body_of r) (body_of s) br bs fr fs (sr.args ∙ sym ss.args ∙ ap (λ (t : Shape). arguments n (front t) (body_of s)) (sym same)) in
    whole_record kk
    (sym (take-append-drop (front sh) (body_of r)) ∙ ap₂ (λ (x y : Bytes). x ++ y) f g ∙ take-append-drop (front sh) (body_of s))
  where
    whole_record : kind_of r ≡ kind_of s → body_of r ≡ body_of s → r ≡ s
    whole_record kk body =
        let l : length r ≡ length s = length_body r a.long ∙ ap (λ (x : Bytes). 4 + length x) body ∙ sym (length_body s b.long) in
        let hr = a.long in
        let hs = b.long in
        let w : word r ≡ word s = (let x = a.size in let y = b.size in omega arith) in
        let head : take 4 r ≡ take 4 s = two_numbers 2 r s a.bytes b.bytes (omega arith) (omega arith) w kk in
        sym (take-append-drop 4 r) ∙ ap₂ (λ (x y : Bytes). x ++ y) head body ∙ take-append-drop 4 s

-- ---- the records of a job are whole
pub cut_start : (bs : Bytes) → AllBytes bs → T (whole bs) → Sound (take (extent bs) bs)
cut_start bs h w =
    let t = and_r (leb 2 (length bs)) _ w in
    let two : 2 ≤ word bs = leb→le 2 (word bs) (and_l (leb 2 (word bs)) _ t) in
    let fit : 2 + word bs ≤ length bs = leb→le (extent bs) (length bs) (and_r (leb 2 (word bs)) _ t) in
    let l : length (take (extent bs) bs) ≡ 2 + word bs = length-take (extent bs) bs ∙ omega arith in
    let z : word (take (extent bs) bs) ≡ word bs = ap little_endian (take-take 2 (extent bs) bs (omega arith)) in
    record { bytes = take_bytes (extent bs) bs h; size = l ∙ ap (λ (n : ℕ). 2 + n) (sym z); long = omega arith }

cut_sound : (fuel : ℕ) (bs : Bytes) → AllBytes bs → (m : ℕ) (r : Bytes) → get_elem? (cut fuel bs) m ≡ some r → Sound r
unfolding cut
cut_sound zero bs h m r e = absurd (none_some r e)
cut_sound (suc fuel) bs h m r e =
    go (whole bs) (λ w. cut_start bs h w) (cut_sound fuel (drop (extent bs) bs) (drop_bytes (extent bs) bs h)) m e
  where
    go : (b : Bool) → (T b → Sound (take (extent bs) bs)) → ((m : ℕ) (r : Bytes) → get_elem? (cut fuel (drop (extent bs) bs)) m ≡ some r → Sound r)
        → (m : ℕ) → get_elem? (elim b as (λ z. List Bytes) [ true ↦ take (extent bs) bs ∷ cut fuel (drop (extent bs) bs) | false ↦ [] ]) m ≡ some r → Sound r
    go true f g zero d = subst Sound (some_inj (take (extent bs) bs) r d) (f tt)
    go true f g (suc k) d = g k r d
    go false f g k d = absurd (none_some r d)

pub record_sound : (job : Bytes) → AllBytes job → (m : ℕ) (r : Bytes) → get_elem? (records_of job) m ≡ some r → Sound r
record_sound job h = cut_sound (length job) job h
