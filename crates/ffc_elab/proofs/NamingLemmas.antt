-- A new name, and what follows it.
use Rattle.std.proofs.Common.{◌≡◌, Bool, true, false, List, [], ◌∷◌, All, drop, if◌then◌else◌, Option, Some, None, is_some, Result, Ok, Err, refl, sym, ap, ◌∙◌}
use Rattle.std.specs.Str.{bytes_eq}
use Rattle.std.proofs.lemmas.List.Elements.{All-nil}
use Rattle.ffc_lex.specs.Names.{is_theory_name}
use Rattle.ffc_term.specs.declared.node.Node.{Node}
use Rattle.ffc_term.specs.declared.node.Sort.{Sort}
use Rattle.ffc_smt.specs.Trees.{Word, Tree, Leaf, Trees, items_of, name_of}
use Rattle.ffc_smt.specs.Meaning.{Env, found}
use Rattle.ffc_smt.specs.Terms.{Name}
use Rattle.ffc_smt.specs.Scopes.{Meant}
use Rattle.ffc_smt.specs.Faults.{Fault, Read, Sound, Faulty, faults, faulty, read_map, item}
use Rattle.ffc_smt.specs.CommandReading.{fresh, fresh_read}
use Rattle.ffc_smt.proofs.WalkLemmas.{MayFail, one_fault}
use Rattle.ffc_terms.specs.declared.scope.Meaning.{Meaning}
use Rattle.ffc_terms.specs.Codes.{AreMeanings}
use Rattle.ffc_words.specs.Words.{AreItemsAt, word_at}
use Rattle.ffc_words.specs.Outcomes.{outcome}
use Rattle.ffc_elab.specs.Reading.{AreInOrder, and_then, later_items}
use Rattle.ffc_elab.proofs.OutcomeLemmas.{IsLeafRead, FaultsThere, outcome_map, leaf_item, with_ok, next_items, next_order, read_word}
use Rattle.ffc_elab.proofs.PlainLemmas.{named_leaf}

fresh_at : (P : Fault → Type 0) (test : Name → Bool) (w : Word) (name : Name) → MayFail P w → All P (faults (fresh (test name) w name))
fresh_at P test w name m = by_test (test name) (is_theory_name name)
  where
    by_test : (b c : Bool) → All P (faults {A = Name} (if b then faulty 9 w else (if c then faulty 9 w else Sound name)))
    by_test true c = one_fault P 9 w m
    by_test false true = one_fault P 9 w m
    by_test false false = All-nil P

pub fresh_leaf : (test : Name → Bool) → IsLeafRead (fresh_read test)
fresh_leaf test =
    let by = named_leaf (λ w name. fresh (test name) w name) (λ P w name m. fresh_at P test w name m) in
    record { paren = by.paren; group = λ o items c. refl; at = by.at }

-- the same names are taken
pub fresh_same : (test other : Name → Bool) → ((name : Name) → test name ≡ other name) → (w : Word) → fresh_read test (Leaf w) ≡ fresh_read other (Leaf w)
fresh_same test other h w = by_name (name_of w)
  where
    by_name : (o : Option Name) → (elim o as (λ x. Read Name) [ None ↦ faulty 5 w | Some name ↦ fresh (test name) w name ]) ≡ (elim o as (λ x. Read Name) [ None ↦ faulty 5 w | Some name ↦ fresh (other name) w name ])
    by_name None = refl
    by_name (Some name) = ap (λ b. fresh b w name) (h name)

pub meanings_taken : (nodes : List Node) (ms : Env Meaning) (xs : Env Meant) (name : Name) → AreMeanings nodes ms xs → is_some (found ms name) ≡ is_some (found xs name)
meanings_taken nodes [] [] name h = refl
meanings_taken nodes [] (x ∷ xs) name h = absurd h
meanings_taken nodes (m ∷ ms) [] name h = absurd h
meanings_taken nodes (m ∷ ms) (x ∷ xs) name h =
    ap (λ n. is_some (if bytes_eq n name then Some m.1 else found ms name)) h.0 ∙ by_test (bytes_eq x.0 name) (meanings_taken nodes ms xs name h.2)
  where
    by_test : (b : Bool) → is_some (found ms name) ≡ is_some (found xs name) → is_some (if b then Some m.1 else found ms name) ≡ is_some (if b then Some x.1 else found xs name)
    by_test true e = refl
    by_test false e = e

module _ {B C : Type 0} (f : Name × B → C) (test : Name → Bool) (next : Word → List Tree → Read B) (words : List Word) (items : Trees) (closing : Word)
    (there : FaultsThere next) (at : AreItemsAt words 2 items closing []) (order : AreInOrder (drop 2 words)) where
  abbrev Whole : Result C Fault
  Whole = outcome (read_map f (item closing (fresh_read test) (next closing) (items_of items)))

  named_first : Whole ≡ and_then (outcome (fresh_read test (Leaf (word_at words 2)))) (λ name. outcome (read_map (λ b. f (name, b)) (next closing (items_of (later_items items)))))
  named_first =
      outcome_map f (item closing (fresh_read test) (next closing) (items_of items))
      ∙ ap (λ r. and_then r (λ p. Ok (f p))) (leaf_item (fresh_read test) next words 2 items closing [] (fresh_leaf test) there at order)
      ∙ by_name (outcome (fresh_read test (Leaf (word_at words 2)))) (next closing (items_of (later_items items)))
    where
      by_name : (r : Result Name Fault) (q : Read B) → and_then (and_then r (λ a. with_ok a (outcome q))) (λ p. Ok (f p)) ≡ and_then r (λ name. outcome (read_map (λ b. f (name, b)) q))
      by_name (Ok a) (Sound b) = refl
      by_name (Ok a) (Faulty g gs) = refl
      by_name (Err e) q = refl

  pub name_refused : (e : Fault) → Err e ≡ outcome (fresh_read test (Leaf (word_at words 2))) → Whole ≡ Err e
  name_refused e h = named_first ∙ ap (λ r. and_then r (λ name. outcome (read_map (λ b. f (name, b)) (next closing (items_of (later_items items)))))) (sym h)

  pub name_given : (name : Name) → Ok name ≡ outcome (fresh_read test (Leaf (word_at words 2))) → Whole ≡ outcome (read_map (λ b. f (name, b)) (next closing (items_of (later_items items))))
  name_given name h = named_first ∙ ap (λ r. and_then r (λ name. outcome (read_map (λ b. f (name, b)) (next closing (items_of (later_items items)))))) (sym h)

  pub name_then_items : (name : Name) → Ok name ≡ outcome (fresh_read test (Leaf (word_at words 2))) → AreItemsAt words 3 (later_items items) closing []
  name_then_items name h = next_items words 2 items closing [] at (read_word (fresh_read test) (word_at words 2) name (fresh_leaf test) (sym h))

  pub name_then_order : AreInOrder (drop 3 words)
  name_then_order = next_order words 2 items closing [] at order

read_twice : {A B C : Type 0} (g : B → C) (h : A → B) (r : Read A) → outcome (read_map (λ a. g (h a)) r) ≡ and_then (outcome (read_map h r)) (λ b. Ok (g b))
read_twice g h (Sound a) = refl
read_twice g h (Faulty f fs) = refl

-- a name with its sort
module _ {B C : Type 0} (make : Name → Sort → C) (sort_in : B → Sort) (test other : Name → Bool) (same : (name : Name) → test name ≡ other name) (next : Word → List Tree → Read B) (words : List Word) (items : Trees) (closing : Word)
    (there : FaultsThere next) (at : AreItemsAt words 2 items closing []) (order : AreInOrder (drop 2 words)) where
  abbrev Named : Result C Fault
  Named = outcome (read_map (λ p. make p.0 (sort_in p.1)) (item closing (fresh_read other) (next closing) (items_of items)))

  other_name : (r : Result Name Fault) → r ≡ outcome (fresh_read test (Leaf (word_at words 2))) → r ≡ outcome (fresh_read other (Leaf (word_at words 2)))
  other_name r e = e ∙ ap outcome (fresh_same test other same (word_at words 2))

  pub naming_refused : (e : Fault) → Err e ≡ outcome (fresh_read test (Leaf (word_at words 2))) → Err e ≡ Named
  naming_refused e h = sym (name_refused (λ p. make p.0 (sort_in p.1)) other next words items closing there at order e (other_name (Err e) h))

  pub naming_items : (name : Name) → Ok name ≡ outcome (fresh_read test (Leaf (word_at words 2))) → AreItemsAt words 3 (later_items items) closing []
  naming_items name h = name_then_items (λ p. make p.0 (sort_in p.1)) other next words items closing there at order name (other_name (Ok name) h)

  pub naming_sorted : (name : Name) (r : Result Sort Fault) → Ok name ≡ outcome (fresh_read test (Leaf (word_at words 2))) → r ≡ outcome (read_map sort_in (next closing (items_of (later_items items))))
      → and_then r (λ s. Ok (make name s)) ≡ Named
  naming_sorted name r h e =
      ap (λ q. and_then q (λ s. Ok (make name s))) e
      ∙ sym (name_given (λ p. make p.0 (sort_in p.1)) other next words items closing there at order name (other_name (Ok name) h) ∙ read_twice (make name) sort_in (next closing (items_of (later_items items))))
