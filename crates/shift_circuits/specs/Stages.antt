-- Stages one after another.
use Rattle.std.specs.Prelude.{List, [], ◌∷◌, ℕ, suc}

-- a stage for each bit of y that is read, from stage s on, each over what those before it gave
unfoldable pub staged : (ℕ → ℕ → List ℕ → List ℕ) → ℕ → List ℕ → List ℕ → List ℕ
staged stage s [] xs = xs
staged stage s (y ∷ ys) xs = staged stage (suc s) ys (stage s y xs)
