-- Argument lists: the numbers in them, and the test that all are below a count.
use mathlib.Core.Path.{◌≡◌, sym, ap, ap₂, ◌∙◌}
use mathlib.Core.List.{List, [], ◌∷◌, ◌++◌}
use Prim.Native.Nat.{ℕ, zero, suc, ◌+◌, ◌-◌, ◌*◌, ◌<◌, ◌≤◌}
use native.Mathlib.Omega.{arith}
use lib.ListN.{length, take, drop, get_or}
use lib.Seq.{drop-drop}
use Rattle.theory.specs.Record.{Bytes, little_endian, words}
use Rattle.theory.proofs.Bytes.{words_length}
use Rattle.terms.specs.declared.Args.{Args}
use Rattle.terms.specs.Decoded.{Inside, words_in}

-- ---- argument i is the number at its place
words_at : (b k : ℕ) (bs : Bytes) (i : ℕ) → i < k → get_or (words b k bs) i 0 ≡ little_endian (take b (drop (b * i) bs))
words_at b zero bs i h = absurd (omega arith)
words_at b (suc k) bs zero h = let e : b * 0 ≡ 0 = omega arith in rw e
words_at b (suc k) bs (suc i) h =
    let e : b + b * i ≡ b * suc i = omega arith in
    words_at b k (drop b bs) i (omega arith) ∙ rw (drop-drop, e)

pub argument_is : (job : Bytes) (a : Args) (i : ℕ) → i < a.count → {x : ℕ} → x ≡ little_endian (take a.bytes (drop (a.at + a.bytes * i) job)) → x ≡ get_or (words_in job a) i 0
argument_is job a i h e = e ∙ sym (words_at a.bytes a.count (drop a.at job) i h ∙ rw drop-drop)

pub words_in_length : (job : Bytes) (a : Args) → length (words_in job a) ≡ a.count
words_in_length job a = words_length a.bytes a.count (drop a.at job)

pub words_few : (job : Bytes) (a : Args) → Inside job a → length (words_in job a) ≤ 64
words_few job a h = omega (arith, words_in_length job a, h.few)

-- ---- the first number stands before the others
pub first_of : (job : Bytes) (a : Args) → 0 < a.count → {x : ℕ} → x ≡ get_or (words_in job a) 0 0 → words_in job a ≡ x ∷ words a.bytes (a.count - 1) (drop (a.at + a.bytes) job)
first_of job a h f =
    let e : a.count ≡ suc (a.count - 1) = omega arith in
    let w : words_in job a ≡ little_endian (take a.bytes (drop a.at job)) ∷ words a.bytes (a.count - 1) (drop a.bytes (drop a.at job)) = ap (λ (k : ℕ). words a.bytes k (drop a.at job)) e in
    w ∙ ap₂ (λ (y : ℕ) (ys : List ℕ). y ∷ ys) (sym (f ∙ ap (λ (ks : List ℕ). get_or ks 0 0) w)) (ap (words a.bytes (a.count - 1)) (drop-drop a.bytes a.at job))

-- ---- the last number stands after the others
words_snoc : (b k : ℕ) (bs : Bytes) → words b (suc k) bs ≡ words b k bs ++ little_endian (take b (drop (b * k) bs)) ∷ []
words_snoc b zero bs = let e : b * 0 ≡ 0 = omega arith in rw e
words_snoc b (suc k) bs =
    let e : b + b * k ≡ b * suc k = omega arith in
    ap (λ (ks : List ℕ). little_endian (take b bs) ∷ ks) (words_snoc b k (drop b bs) ∙ rw (drop-drop, e))

pub last_of : (job : Bytes) (a : Args) → (a.count ≡ 0 → ⊥) → {x : ℕ} → x ≡ get_or (words_in job a) (a.count - 1) 0 → words_in job a ≡ words a.bytes (a.count - 1) (drop a.at job) ++ x ∷ []
last_of job a h f =
    let e : a.count ≡ suc (a.count - 1) = omega arith in
    ap (λ (k : ℕ). words a.bytes k (drop a.at job)) e
    ∙ words_snoc a.bytes (a.count - 1) (drop a.at job)
    ∙ ap (λ (x : ℕ). words a.bytes (a.count - 1) (drop a.at job) ++ x ∷ []) (sym (f ∙ words_at a.bytes a.count (drop a.at job) (a.count - 1) (omega arith)))
