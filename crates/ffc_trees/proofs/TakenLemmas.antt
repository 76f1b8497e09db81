-- The lines that a tree is taken off from: there is one at least, and none is a clause.
use Rattle.std.proofs.Common.{◌≡◌, ℕ, false, List, [], ◌∷◌, ◌++◌, map, All, Ok, refl, ap, ◌∙◌, sym, arith, append_assoc}
use Rattle.std.proofs.lemmas.List.Elements.{All-cons, All-nil, All-append}
use Rattle.ffc_cert.specs.declared.entries.CertLine.{CertLine}
use Rattle.ffc_cert.specs.declared.entries.CertLine.TheVariants.{Combine, Bits, Chain, Split, Values, Close}
use Rattle.ffc_cert.specs.Spelling.{is_clause}
use Rattle.ffc_ring.specs.Polynomial.{Terms}
use Rattle.ffc_uni.specs.Chains.{Pair}
use Rattle.ffc_trees.specs.TreeLines.{Limits}
use Rattle.ffc_trees.specs.Trees.{tree_read}
use Rattle.ffc_trees.specs.Closing.{written_step, Closes, CloseAll}
use Rattle.ffc_trees.specs.Closing.Closes.{combine, bits, chain, split, values, close}
use Rattle.ffc_trees.specs.Closing.CloseAll.{no_cases, each}
use Rattle.ffc_trees.specs.Laws.{IsTakenOff}
use Rattle.ffc_trees.proofs.ReadLemmas.{tree_read-closes}

abbrev IsInTree : CertLine → Type 0
IsInTree line = is_clause line ≡ false

-- the lines of no tree or more
record AreTakenOff (tree rest : List CertLine) : Type 0 where
  front : List CertLine
  parts : tree ≡ front ++ rest
  in_tree : All IsInTree front

one_more : (line : CertLine) (tree rest : List CertLine) → is_clause line ≡ false → AreTakenOff tree rest → IsTakenOff (line ∷ tree) rest
one_more line tree rest is old = record {
  front = line ∷ old.front;
  parts = ap (λ xs. line ∷ xs) old.parts;
  some = omega arith;
  in_tree = All-cons IsInTree line old.front is old.in_tree;
}

as_none_or_more : (tree rest : List CertLine) → IsTakenOff tree rest → AreTakenOff tree rest
as_none_or_more tree rest old = record { front = old.front; parts = old.parts; in_tree = old.in_tree }

in_sequence : (tree after rest : List CertLine) → AreTakenOff tree after → AreTakenOff after rest → AreTakenOff tree rest
in_sequence tree after rest one two = record {
  front = one.front ++ two.front;
  parts = one.parts ∙ ap (λ xs. one.front ++ xs) two.parts ∙ sym (append_assoc one.front two.front rest);
  in_tree = All-append IsInTree one.front two.front one.in_tree two.in_tree;
}

steps_in_tree : (steps : List Pair) → All IsInTree (map written_step steps)
unfolding is_clause
steps_in_tree [] = All-nil IsInTree
steps_in_tree (s ∷ steps) = All-cons IsInTree (written_step s) (map written_step steps) refl (steps_in_tree steps)

module _ (l : Limits) (p : ℕ) where
  mutual
    unfolding is_clause

    closed_taken : (lines : List Terms) (tree rest : List CertLine) → Closes l p lines tree rest → IsTakenOff tree rest
    closed_taken lines _ rest (combine {tree = tree} multiples line h more) =
        one_more (Combine multiples) tree rest refl (as_none_or_more tree rest (closed_taken (lines ++ line ∷ []) tree rest more))
    closed_taken lines _ rest (bits {tree = tree} sum chosen written numbers line h more) =
        one_more (Bits sum chosen written numbers) tree rest refl (as_none_or_more tree rest (closed_taken (lines ++ line ∷ []) tree rest more))
    closed_taken lines _ rest (chain {tree = tree} {after = after} k x count f steps h whole more) =
        let those : AreTakenOff tree after = record { front = map written_step steps; parts = whole.front; in_tree = steps_in_tree steps } in
        one_more (Chain k x count) tree rest refl (in_sequence tree after rest those (as_none_or_more after rest (closed_taken _ after rest more)))
    closed_taken lines _ rest (split {tree = tree} k x zeros cases h all) = one_more (Split k x zeros) tree rest refl (all_taken cases tree rest all)
    closed_taken lines _ rest (values {tree = tree} x count cases h all) = one_more (Values x count) tree rest refl (all_taken cases tree rest all)
    closed_taken lines _ rest (close is) = one_more Close rest rest refl (record { front = []; parts = refl; in_tree = All-nil IsInTree })

    all_taken : (cases : List (List Terms)) (tree rest : List CertLine) → CloseAll l p cases tree rest → AreTakenOff tree rest
    all_taken [] _ rest no_cases = record { front = []; parts = refl; in_tree = All-nil IsInTree }
    all_taken (lines ∷ cases) tree rest (each {after = after} first others) =
        in_sequence tree after rest (as_none_or_more tree after (closed_taken lines tree after first)) (all_taken cases after rest others)

  pub tree_taken : (lines : List Terms) (tree rest : List CertLine) → tree_read l p lines tree ≡ Ok rest → IsTakenOff tree rest
  tree_taken lines tree rest h = closed_taken lines tree rest (tree_read-closes l p lines tree rest h)
