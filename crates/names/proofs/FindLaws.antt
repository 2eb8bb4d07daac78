-- A name among the declarations, which are iterated over.
use mathlib.Core.Path.{◌≡◌, refl, sym, ap, ◌∙◌}
use mathlib.Core.Bool.{Bool, true, false, cond}
use mathlib.Core.List.{List, [], ◌∷◌}
use Rattle.std.specs.Prelude.{Option, None as none, Some as some, option_map}
use Prim.Native.Nat.{ℕ, ◌+◌}
use native.Mathlib.Numerals.{add-one}
use lib.Dec.{eqb}
use lib.ListN.{length}
use denote.Param.Members.{Mut}
use Rattle.std.specs.Borrow.{Bor}
use Rattle.std.specs.Cmp.Lexicographic.{pointwise}
use Rattle.std.specs.Fn.{Called}
use Rattle.std.specs.Iterator.{Yields, YieldsThen, YieldsFirstRef}
use Rattle.std.specs.Iterator.Adapters.{filter_map_source, filter_map_callee, filter_map_steps}
use Rattle.std.specs.List.{FoldsTo, find, enumerate_from}
use Rattle.std.specs.Option.{MatchOption, IsSome}
use Rattle.std.proofs.lemmas.Iterator.{YieldsList}
use Rattle.std.proofs.lemmas.Iterator.Consumers.{YieldsList-from_shown}
use Rattle.std.specs.declared.iter.FilterMap.{FilterMap}
use Rattle.theory.specs.Kind.{Op}
use Rattle.theory.specs.Record.{Bytes}
use Rattle.text.specs.Reading.{Declared, variable, find_name}
use Rattle.text.specs.Claim.{declared_by}
use Rattle.words.proofs.WordLaws.{same_said}
use Rattle.names.specs.declared.lines.Lines.{Lines}
use Rattle.names.specs.declared.names.Declaration.{Declaration}
use Rattle.names.specs.Kinds.{declarations}
use Rattle.names.specs.Lines.{lines_left}
use Rattle.names.specs.Names.{told_declaration}
use Rattle.names.proofs.NameLaws.{declares_none, declares_some}

-- a declaration, as the text says it
abbrev pub told : Declaration → Declared
told d = record { name = d.name.now; width = d.width }

-- what the lines that are left declare
abbrev pub declared_left : {F : Type 0} → FilterMap Lines F → List Declared
declared_left s = declarations (lines_left (filter_map_source s))

module _ {F : Type 0} (g : Mut F (Bor Bytes × Unit {0}) (Option Declaration))
    (says : (f : F) (x : Bor Bytes) (r : Option Declaration) (q : F) → Called g f (x, tt) r q → told_declaration r ≡ declared_by x.now) where
  abbrev steps : FilterMap Lines F → Option Declaration → FilterMap Lines F → Type 0
  steps = filter_map_steps (YieldsFirstRef lines_left) g

  -- lines that declare nothing
  skips : (xs : List (Bor Bytes)) (s t : Lines) (f q : F) → Yields (YieldsFirstRef lines_left) s xs t → FoldsTo (λ p x q. Called g p (x, tt) none q) f xs q
      → declarations (lines_left s) ≡ declarations (lines_left t)
  skips [] s t f q y h = ap (λ (s : Lines). declarations (lines_left s)) y
  skips (x ∷ xs) s t f q y h =
      ap declarations y.1 ∙ declares_none x.now (lines_left y.0) (sym (says f x none h.0 h.1)) ∙ skips xs y.0 t h.0 q y.2 h.2

  ended : (s t : FilterMap Lines F) → steps s none t → length (declared_left s) ≡ 0
  unfolding declarations
  ended s t h = go h.1 h.3 h.5
    where
      go : (o : Option (Bor Bytes)) → YieldsThen (YieldsFirstRef lines_left) (filter_map_source s) h.0 o (filter_map_source t)
          → MatchOption o ((◌≡◌ {A = Option Declaration} none none) × (filter_map_callee t ≡ h.2)) (λ x. Called g h.2 (x, tt) none (filter_map_callee t) × IsSome {T = Declaration} none)
          → length (declared_left s) ≡ 0
      go none y m = ap length (skips h.0 (filter_map_source s) y.0 (filter_map_callee s) h.2 y.1 h.4 ∙ ap declarations y.2.0)
      go (some x) y m = absurd (cc)

  gives : (s : FilterMap Lines F) (d : Declaration) (t : FilterMap Lines F) → steps s (some d) t → declared_left s ≡ told d ∷ declared_left t
  gives s d t h = go h.1 h.3 h.5
    where
      go : (o : Option (Bor Bytes)) → YieldsThen (YieldsFirstRef lines_left) (filter_map_source s) h.0 o (filter_map_source t)
          → MatchOption o ((◌≡◌ {A = Option Declaration} (some d) none) × (filter_map_callee t ≡ h.2)) (λ x. Called g h.2 (x, tt) (some d) (filter_map_callee t) × IsSome (some d))
          → declared_left s ≡ told d ∷ declared_left t
      go none y m = absurd (cc)
      go (some x) y m =
          skips h.0 (filter_map_source s) y.0 (filter_map_callee s) h.2 y.1 h.4
          ∙ ap declarations y.2
          ∙ declares_some x.now (lines_left (filter_map_source t)) (sym (says h.2 x (some d) (filter_map_callee t) m.0))

  pub YieldsList-from_declared : (s : FilterMap Lines F) → YieldsList steps told s (declared_left s)
  YieldsList-from_declared = YieldsList-from_shown steps told declared_left ended gives

-- the first of a name, with its number
abbrev pub numbered : Option (ℕ × Declared) → Option Op
numbered r = option_map (λ p. variable p.0 p.1) r

pub found_name : (w : Bytes) (i : ℕ) (ds : List Declared) → numbered (find (λ p. pointwise eqb w p.1.name) (enumerate_from i ds)) ≡ find_name i w ds
found_name w i [] = refl
found_name w i (d ∷ ds) = go (pointwise eqb w d.name) refl (found_name w (i + 1) ds)
  where
    go : (b : Bool) → pointwise eqb w d.name ≡ b → numbered (find (λ p. pointwise eqb w p.1.name) (enumerate_from (i + 1) ds)) ≡ find_name (i + 1) w ds
        → numbered (cond b (some (i, d)) (find (λ p. pointwise eqb w p.1.name) (enumerate_from (i + 1) ds))) ≡ find_name i w (d ∷ ds)
    go true e ih = sym (rw (same_said w d.name (sym e)))
    go false e ih = ih ∙ ap (λ (j : ℕ). find_name j w ds) (add-one i) ∙ sym (rw (same_said w d.name (sym e)))

-- what `find` gave
module _ (w : Bytes) (ds vars : List Declared) (r : Option (ℕ × Declaration))
    (is : option_map (λ p. (p.0, told p.1)) r ≡ find (λ p. pointwise eqb w p.1.name) (enumerate_from 0 ds)) (same : ds ≡ vars) where
  found : option_map (λ p. variable p.0 (told p.1)) r ≡ find_name 0 w vars
  found = through r ∙ ap numbered is ∙ found_name w 0 ds ∙ ap (find_name 0 w) same
    where
      through : (r : Option (ℕ × Declaration)) → option_map (λ p. variable p.0 (told p.1)) r ≡ numbered (option_map (λ p. (p.0, told p.1)) r)
      through none = refl
      through (some p) = refl

  pub none_named : r ≡ none → none ≡ find_name 0 w vars
  none_named e = sym (ap (option_map (λ p. variable p.0 (told p.1))) e) ∙ found

  pub one_named : {k : ℕ} {d : Declaration} → r ≡ some (k, d) → {o : Op} → o ≡ variable k (told d) → some o ≡ find_name 0 w vars
  one_named e f = ap some f ∙ sym (ap (option_map (λ p. variable p.0 (told p.1))) e) ∙ found
