-- Pairs that name constants in turn, with their values.
use Rattle.std.proofs.Common.{◌≡◌, ℕ, ◌+◌, ◌<◌, ◌≤◌, ◌==◌, ◌&&◌, nat_lt, Bool, true, false, cond, List, length, get_or, drop, Some, sym, ap, ap₂, ◌∙◌, arith, eq-eqb}
use Rattle.std.proofs.lemmas.Bool.{lt-ltb, le-ltb}
use Rattle.std.proofs.lemmas.List.{drop_more}
use Rattle.ffc_term.specs.declared.node.Node.{Node}
use Rattle.ffc_term.specs.Nodes.{node_at}
use Rattle.ffc_term.specs.Measuring.{value_count}
use Rattle.ffc_rules.specs.Entries.{first_misfit}

module _ (ns : List Node) (declared : List ℕ) (pairs : List (ℕ × ℕ)) (i : ℕ) (inside : i < length declared) (same : length pairs ≡ length declared) where
  -- the constant and the pair at a place, and whether they fit
  abbrev pub id : ℕ
  id = get_or declared i 0

  abbrev pub pair : ℕ × ℕ
  pair = get_or pairs i (0, 0)

  abbrev pub fits : Bool
  fits = pair.0 == id && nat_lt pair.1 (value_count (node_at ns id))

  one_more : (line : ℕ) → first_misfit ns (drop i declared) (drop i pairs) line ≡ cond fits (first_misfit ns (drop (i + 1) declared) (drop (i + 1) pairs) (line + 1)) (Some line)
  one_more line = ap₂ (λ ids ps. first_misfit ns ids ps line) (drop_more declared i 0 inside) (drop_more pairs i (0, 0) (omega arith))

  abbrev pub SoFar : ℕ → Type 0
  SoFar k = (line : ℕ) → first_misfit ns (drop k declared) (drop k pairs) (line + k) ≡ first_misfit ns declared pairs line

  pub passes : pair.0 ≡ id → pair.1 < value_count (node_at ns id) → SoFar i → SoFar (i + 1)
  passes named below so_far line =
      let test : fits ≡ true = ap₂ (λ (a b : Bool). a && b) (eq-eqb pair.0 id named) (lt-ltb pair.1 (value_count (node_at ns id)) below) in
      ap (first_misfit ns (drop (i + 1) declared) (drop (i + 1) pairs)) (omega arith)
      ∙ sym (ap (λ b. cond b (first_misfit ns (drop (i + 1) declared) (drop (i + 1) pairs) (line + i + 1)) (Some (line + i))) test)
      ∙ sym (one_more (line + i)) ∙ so_far line

  pub fails : fits ≡ false → SoFar i → (line : ℕ) → first_misfit ns declared pairs line ≡ Some (line + i)
  fails test so_far line =
      sym (so_far line) ∙ one_more (line + i)
      ∙ ap (λ b. cond b (first_misfit ns (drop (i + 1) declared) (drop (i + 1) pairs) (line + i + 1)) (Some (line + i))) test

  pub too_great : pair.0 ≡ id → value_count (node_at ns id) ≤ pair.1 → fits ≡ false
  too_great named above = ap₂ (λ (a b : Bool). a && b) (eq-eqb pair.0 id named) (le-ltb pair.1 (value_count (node_at ns id)) above)
