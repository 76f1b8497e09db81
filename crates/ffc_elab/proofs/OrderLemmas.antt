-- The order that is named first.
use Rattle.std.proofs.Common.{◌≡◌, ℕ, suc, ◌+◌, ◌<◌, ◌≤◌, Bool, true, false, if◌then◌else◌, List, [], ◌∷◌, ◌++◌, All, length, drop, Option, Some, None, option_map, refl, sym, ap, ◌∙◌, subst, arith, append-nil}
use Rattle.std.proofs.Math.Seq.{drop-cons}
use Rattle.std.proofs.lemmas.List.{drop_all}
use Rattle.std.proofs.lemmas.List.Elements.{All-nil, All-cons, All-head, All-tail}
use Rattle.std.proofs.lemmas.Grind.{flat_map-append}
use Rattle.ffc_field.specs.declared.id.FieldId.{FieldId}
use Rattle.ffc_field.specs.Orders.{IsOrder, order_of_id}
use Rattle.ffc_lex.specs.declared.tokens.TokenKind.TheVariants as kinds
use Rattle.ffc_smt.specs.Trees.{Word, Tree, Leaf, Group, Trees, Empty, First, tokens_of, tokens_of_items}
use Rattle.ffc_smt.specs.TreeShapes.{IsProper, AreProper}
use Rattle.ffc_smt.specs.Numbers.{is_order, literal_order}
use Rattle.ffc_smt.specs.Scripts.{first_named, order_in, orders_in, orders_in_items}
use Rattle.ffc_parts.specs.Numbers.{order_only}
use Rattle.ffc_words.specs.Words.{word_at, no_word}
use Rattle.ffc_elab.specs.Orders.{orders_of}

only_order : (p q : ℕ) → order_only p ≡ Some q → p ≡ q
only_order p q e = by_test (is_order p) e
  where
    by_test : (b : Bool) → (if b then Some p else None) ≡ Some q → p ≡ q
    by_test true e = cc
    by_test false e = cc

pub literal_named : (w : Word) (q : ℕ) (r : Option FieldId) → w.kind ≡ kinds.FieldLiteral → order_only (literal_order w.bytes) ≡ Some q → (IsOrder q → option_map order_of_id r ≡ Some q)
    → All IsOrder (order_in w.kind w.bytes) → option_map order_of_id r ≡ first_named None (order_in w.kind w.bytes)
literal_named w q r k e h all =
    let same = only_order (literal_order w.bytes) q e in
    let here = subst (λ j. All IsOrder (order_in j w.bytes)) k all in
    h (subst IsOrder same (here 0 0 (omega arith))) ∙ ap Some (sym same) ∙ ap (λ j. first_named None (order_in j w.bytes)) (sym k)

-- Words one by one

first_append : (ps qs : List ℕ) (p : ℕ) → first_named None ps ≡ Some p → first_named None (ps ++ qs) ≡ Some p
first_append [] qs p e = cc
first_append (x ∷ ps) qs p e = e

none_first : (ps : List ℕ) → first_named None ps ≡ None → ps ≡ []
none_first [] e = refl
none_first (p ∷ ps) e = cc

at_word : (words : List Word) (i : ℕ) → i < length words → orders_of (drop i words) ≡ order_in (word_at words i).kind (word_at words i).bytes ++ orders_of (drop (suc i) words)
at_word words i within = ap orders_of (drop-cons words i no_word within)

all_left : {A : Type 0} (P : A → Type 0) (xs ys : List A) → All P (xs ++ ys) → All P xs
all_left P [] ys h = All-nil P
all_left P (x ∷ xs) ys h = All-cons P x xs (All-head P x (xs ++ ys) h) (all_left P xs ys (All-tail P x (xs ++ ys) h))

pub record IsFirstFrom (words : List Word) (i : ℕ) : Type 0 where
  pub orders : All IsOrder (orders_of (drop i words))
  pub same : first_named None (orders_of words) ≡ first_named None (orders_of (drop i words))

module _ (words : List Word) (i : ℕ) (within : i < length words) (h : IsFirstFrom words i) where
  abbrev Here : List ℕ
  Here = order_in (word_at words i).kind (word_at words i).bytes

  pub here_orders : All IsOrder Here
  here_orders = all_left IsOrder Here (orders_of (drop (suc i) words)) (subst (All IsOrder) (at_word words i within) h.orders)

  pub first_here : (p : ℕ) → first_named None Here ≡ Some p → first_named None (orders_of words) ≡ Some p
  first_here p e = h.same ∙ ap (first_named None) (at_word words i within) ∙ first_append Here (orders_of (drop (suc i) words)) p e

  pub first_later : first_named None Here ≡ None → IsFirstFrom words (i + 1)
  first_later e =
      let next : suc i ≡ i + 1 = omega arith in
      let is : orders_of (drop i words) ≡ orders_of (drop (i + 1) words) = at_word words i within ∙ ap (λ ps. ps ++ orders_of (drop (suc i) words)) (none_first Here e) ∙ ap (λ k. orders_of (drop k words)) next in
      record { orders = subst (All IsOrder) is h.orders; same = h.same ∙ ap (first_named None) is }

pub none_named : (words : List Word) (i : ℕ) → length words ≤ i → IsFirstFrom words i → first_named None (orders_of words) ≡ None
none_named words i past h = h.same ∙ ap (λ ws. first_named None (orders_of ws)) (drop_all i words past)

-- The orders of a tree are those of its words

mutual
  unfolding orders_in tokens_of

  pub tree_orders : (t : Tree) → IsProper t → orders_in t ≡ orders_of (tokens_of t)
  tree_orders (Leaf w) p = sym (append-nil (order_in w.kind w.bytes))
  tree_orders (Group opening items closing) p =
      items_orders items p.1
      ∙ sym (ap (λ k. order_in k opening.bytes ++ orders_of (tokens_of_items items ++ closing ∷ [])) p.0
      ∙ flat_map-append (λ w. order_in w.kind w.bytes) (tokens_of_items items) (closing ∷ [])
      ∙ ap (λ k. orders_of (tokens_of_items items) ++ (order_in k closing.bytes ++ [])) p.2 ∙ append-nil (orders_of (tokens_of_items items)))

  pub items_orders : (ts : Trees) → AreProper ts → orders_in_items ts ≡ orders_of (tokens_of_items ts)
  items_orders Empty p = refl
  items_orders (First t ts) p =
      ap (λ ps. ps ++ orders_in_items ts) (tree_orders t p.0) ∙ ap (λ ps. orders_of (tokens_of t) ++ ps) (items_orders ts p.1)
      ∙ sym (flat_map-append (λ w. order_in w.kind w.bytes) (tokens_of t) (tokens_of_items ts))
