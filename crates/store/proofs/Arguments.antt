-- The arguments of a term: their count, and each is the number of a kept term.
use mathlib.Core.Path.{◌≡◌, refl}
use mathlib.Core.Bool.{Bool, true, false, ◌&&◌}
use mathlib.Core.List.{List, [], ◌∷◌}
use Prim.Native.Nat.{ℕ, zero, suc, ◌+◌, ◌<◌}
use native.Mathlib.Omega.{arith}
use lib.Dec.{ltb}
use lib.ListN.{length, drop, get_or}
use borrow.Author.Tests.{ltb-true}
use Rattle.theory.specs.Limit.{first_terms}
use Rattle.theory.specs.Record.{Bytes}
use Rattle.theory.specs.Codes.{all_below}
use Rattle.theory.proofs.Bytes.{words_length}
use Rattle.terms.specs.declared.Operands.{Operands}
use Rattle.terms.specs.declared.Operands.TheVariants.{None, One, Two, Three, List as Listed}
use Rattle.terms.specs.Decoded.{numbers_of}
use Rattle.store.specs.Sorts.{count_of, Arguments}

pub count_length : (job : Bytes) (ops : Operands) → length (numbers_of job ops) ≡ count_of ops
count_length job None = refl
count_length job (One x) = refl
count_length job (Two x y) = refl
count_length job (Three x y z) = refl
count_length job (Listed a) = words_length a.bytes a.count (drop a.at job)

below_at : (m : ℕ) (ks : List ℕ) (i : ℕ) → all_below m ks ≡ true → i < length ks → get_or ks i 0 < m
below_at m [] i e h = absurd (omega arith)
below_at m (k ∷ ks) i e h = go (ltb k m) (ltb-true k m) (below_at m ks) i e h
  where
    go : (b : Bool) → (b ≡ true → k < m) → ((j : ℕ) → all_below m ks ≡ true → j < length ks → get_or ks j 0 < m)
        → (i : ℕ) → b && all_below m ks ≡ true → i < length (k ∷ ks) → get_or (k ∷ ks) i 0 < m
    go true f g zero d l = f refl
    go true f g (suc j) d l = g j d (omega arith)
    go false f g j d l = absurd (let z : ◌≡◌ {A = ℕ} 0 1 = cc in omega arith)

-- argument i is the number of a kept term
pub operand_below : {job work : Bytes} {n : ℕ} {ops : Operands} → Arguments job work n ops → (i : ℕ) → i < count_of ops
    → {x : ℕ} → x ≡ get_or (numbers_of job ops) i 0 → x < first_terms + n
operand_below {job} {work} {n} {ops} a i h e =
    let l = count_length job ops in
    let b = below_at (first_terms + n) (numbers_of job ops) i a.below (omega arith) in
    omega arith
