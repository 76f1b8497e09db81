-- Marks of lines, by their numbers.
use Rattle.std.specs.Prelude.{◌≡◌, ◌≢◌, ℕ, ◌<◌, ◌≤◌, ◌⊎◌, ◌&&◌, Bool, true, false, List, [], ◌∷◌, length, get_or}
use Rattle.ffc_line.specs.declared.line.Line.{Line}
use Rattle.ffc_line.specs.Lines.{Parts}
use Rattle.ffc_stack.specs.Generators.{parts_at, Names, LeadsTo}

-- one line more is marked, where there is one with this number
pub record IsMarked (k : ℕ) (old new : List Bool) : Type 0 where
  pub len : length new ≡ length old
  pub here : k < length old → get_or new k false ≡ true
  pub others : (h : ℕ) → h ≢ k → get_or new h false ≡ get_or old h false

-- the lines that parts name are marked beside those that were marked before
pub record IsMarkedBy (parts : Parts) (old new : List Bool) : Type 0 where
  pub len : length new ≡ length old
  pub kept : (h : ℕ) → get_or old h false ≡ true → get_or new h false ≡ true
  pub named : (h : ℕ) → h < length old → Names parts h → get_or new h false ≡ true
  pub only : (h : ℕ) → get_or new h false ≡ true → (get_or old h false ≡ true) ⊎ Names parts h

-- where the line at a place is marked, the lines that its parts name are marked too
pub record IsMarkedFrom {F O : Type 0} (ls : List (Line F O)) (place : ℕ) (old new : List Bool) : Type 0 where
  pub marked : get_or old place false ≡ true → IsMarkedBy (parts_at ls place) old new
  pub unmarked : get_or old place false ≡ false → new ≡ old

-- whether these are no parts
abbrev pub are_none : Parts → Bool
are_none [] = true
are_none (t ∷ ts) = false

-- whether the line is a generator that is marked
abbrev pub is_marked_generator : {F O : Type 0} → List (Line F O) → List Bool → ℕ → Bool
is_marked_generator ls reached n = get_or reached n false && are_none (parts_at ls n)

-- Of the lines that line i leads to, those are marked that are found from the lines from a place on.
pub record IsReachedTo {F O : Type 0} (ls : List (Line F O)) (i place : ℕ) (marks : List Bool) : Type 0 where
  pub len : length marks ≡ length ls
  pub first : i < length ls → get_or marks i false ≡ true
  pub leads : (h : ℕ) → get_or marks h false ≡ true → LeadsTo ls i h
  pub closed : (h k : ℕ) → place ≤ h → get_or marks h false ≡ true → Names (parts_at ls h) k → get_or marks k false ≡ true
