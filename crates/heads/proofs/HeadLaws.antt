-- How a term begins.
use mathlib.Core.Path.{◌≡◌, refl, ap, ◌∙◌}
use mathlib.Core.Bool.{Bool, false, cond}
use Rattle.std.specs.Prelude.{Option, None as none, Some as some}
use Rattle.theory.specs.Record.{Bytes, Shape, plain, indexed, twice_indexed, valued}
use Rattle.theory.specs.Term.{same_numbers}
use Rattle.text.specs.Tokens.{ascii, Next, followed, next, left, right, end, bad, word}
use Rattle.text.specs.Spelling.{named, kind_names}
use Rattle.text.specs.Reading.{bind, index, operation, bv_constant, with_numbers, indexed_operation, alone, Head, leaf, branch, opened}
use Rattle.names.specs.declared.kinds.Indices.TheVariants as F
use Rattle.names.specs.Kinds.{shaped, family_of}

-- ---- the numbers in a kind, by its family
pub plain_alone : (s : Shape) → family_of s ≡ F.Plain → alone s ≡ some (shaped s 0 0)
plain_alone (plain o) e = refl
plain_alone (indexed o) e = absurd cc
plain_alone (twice_indexed o) e = absurd cc
plain_alone (valued o) e = absurd cc

pub not_alone : (s : Shape) → (family_of s ≡ F.Plain → ⊥) → alone s ≡ none
not_alone (plain o) h = absurd (h refl)
not_alone (indexed o) h = refl
not_alone (twice_indexed o) h = refl
not_alone (valued o) h = refl

module _ (bs : Bytes) where
  pub one_number : (s : Shape) → family_of s ≡ F.Indexed → with_numbers s bs ≡ bind (index bs) (λ i. some (operation (shaped s i.value 0) i.rest))
  one_number (plain o) e = absurd cc
  one_number (indexed o) e = refl
  one_number (twice_indexed o) e = absurd cc
  one_number (valued o) e = absurd cc

  pub two_numbers : (s : Shape) → family_of s ≡ F.TwiceIndexed
      → with_numbers s bs ≡ bind (index bs) (λ i. bind (index i.rest) (λ j. some (operation (shaped s i.value j.value) j.rest)))
  two_numbers (plain o) e = absurd cc
  two_numbers (indexed o) e = absurd cc
  two_numbers (twice_indexed o) e = refl
  two_numbers (valued o) e = absurd cc

  pub no_numbers : (s : Shape) → (family_of s ≡ F.Indexed → ⊥) → (family_of s ≡ F.TwiceIndexed → ⊥) → with_numbers s bs ≡ none
  no_numbers (plain o) h k = refl
  no_numbers (indexed o) h k = absurd (h refl)
  no_numbers (twice_indexed o) h k = absurd (k refl)
  no_numbers (valued o) h k = refl

-- ---- a word after a parenthesis
abbrev opens : Next → Option Head
opens n =
    elim n.token as (λ t. Option Head) [
      | left ↦ bind (indexed_operation n.rest) (λ g. some (branch g.op g.rest))
      | right ↦ none
      | end ↦ none
      | bad ↦ none
      | word w ↦ cond (same_numbers w (ascii "_")) (bind (bv_constant n.rest) (λ g. some (leaf g.op g.rest))) (bind (bind (named w kind_names) alone) (λ o. some (branch o n.rest)))
    ]

pub opened_word : (bs : Bytes) {w rest : Bytes} → next bs ≡ followed (word w) rest → same_numbers w (ascii "_") ≡ false
    → opened bs ≡ bind (bind (named w kind_names) alone) (λ o. some (branch o rest))
unfolding opened
opened_word bs {w} {rest} e f =
    ap opens e ∙ ap (λ (b : Bool). cond b (bind (bv_constant rest) (λ g. some (leaf g.op g.rest))) (bind (bind (named w kind_names) alone) (λ o. some (branch o rest)))) f
