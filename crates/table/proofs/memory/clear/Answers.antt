-- `clear`: every byte is zero, up to the seed.
use mathlib.Core.Path.{sym, ap, ◌∙◌, subst}
use mathlib.Core.List.{List, ◌++◌}
use Prim.Native.Nat.{ℕ, ◌-◌}
use native.Mathlib.Omega.{arith}
use lib.ListN.{drop, length, replicate}
use lib.Seq.{length-take-le}
use Rattle.table.specs.Promise.{Cleared, cleared}
use Rattle.table.proofs.MemoryLaws.{cleared_short, clears}
use Rattle.table.proofs.memory.clear.Goals as goal

pub returns-then-work-lt-SEED_BYTES : goal.returns-then-work-lt-SEED_BYTES
returns-then-work-lt-SEED_BYTES c = subst (Cleared c.args.work.now) (cleared_short _ c.if-work-lt-SEED_BYTES.true) (clears c.args.work.now)

pub returns : goal.returns
unfolding cleared
returns c = let w = c.args.work.now in
    subst (Cleared w)
    (sym (ap (λ (xs : List ℕ). xs ++ drop (length w - 4) w) (c.fill.ensures.after (λ y e. e) ∙ ap (λ (n : ℕ). replicate n 0) (length-take-le _ _ (omega arith)))))
    (clears w)
