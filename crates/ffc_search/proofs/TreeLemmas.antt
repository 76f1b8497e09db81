-- Trees that are found, and the generators of lines as the checker has them.
use Rattle.std.proofs.Common.{◌≡◌, ℕ, ◌+◌, ◌<◌, List, [], ◌∷◌, ◌++◌, length, get_or, take, refl, sym, ap, ◌∙◌, subst, arith}
use Rattle.std.proofs.lemmas.List.{append-nil}
use Rattle.ffc_ring.specs.Polynomial.{Terms}
use Rattle.ffc_uni.proofs.Rows.{taken_at}
use Rattle.ffc_trees.specs.Same.{IsSameLine, AreSameLines}
use Rattle.ffc_line.specs.declared.line.Line.{Line}
use Rattle.ffc_line.specs.Lines.{Parts}
use Rattle.ffc_stack.specs.Stacks.{own, generators}
use Rattle.ffc_cert.specs.declared.entries.CertLine.{CertLine}
use Rattle.ffc_search.specs.declared.answers.Found.{Found}
use Rattle.ffc_search.specs.declared.answers.Found.TheVariants.{Values, Closed}
use Rattle.ffc_search.specs.Finding.{OnClosed}

-- what holds of a tree that is found holds of it by another name
pub on_closed : {F : Type 0} (found : Found F) (P Q : List CertLine → Type 0) → ((tree : List CertLine) → P tree → Q tree) → OnClosed found P → OnClosed found Q
on_closed (Values values) P Q f h = tt
on_closed (Closed tree sums) P Q f h = f tree.items h

-- the generators of lines, one after another

pub generators_last : {F O : Type 0} (ls : List (Line F O)) (l : Line F O) → generators (ls ++ l ∷ []) ≡ generators ls ++ own l.parts.items l.poly
generators_last [] l = append_none (own l.parts.items l.poly)
  where
    append_none : (xs : List Terms) → xs ++ [] ≡ xs
    append_none [] = refl
    append_none (x ∷ xs) = ap (λ k. x ∷ k) (append_none xs)
generators_last (k ∷ ls) l = ap (λ gs. own k.parts.items k.poly ++ gs) (generators_last ls l) ∙ sym (assoc (own k.parts.items k.poly) (generators ls) (own l.parts.items l.poly))
  where
    assoc : (xs ys zs : List Terms) → (xs ++ ys) ++ zs ≡ xs ++ (ys ++ zs)
    assoc [] ys zs = refl
    assoc (x ∷ xs) ys zs = ap (λ k. x ∷ k) (assoc xs ys zs)

pub own_line : (parts : Parts) (ts : Terms) → parts ≡ [] → own parts ts ≡ ts ∷ []
own_line [] ts e = refl
own_line (t ∷ parts) ts e = cc

pub own_none : (parts : Parts) (ts : Terms) → 0 < length parts → own parts ts ≡ []
own_none [] ts h = absurd (omega arith)
own_none (t ∷ parts) ts h = refl

pub same_last : (p : ℕ) (fs gs : List Terms) (f g : Terms) → AreSameLines p fs gs → IsSameLine p f g → AreSameLines p (fs ++ f ∷ []) (gs ++ g ∷ [])
same_last p [] [] f g all last = (last, tt)
same_last p [] (y ∷ gs) f g all last = absurd all
same_last p (x ∷ fs) [] f g all last = absurd all
same_last p (x ∷ fs) (y ∷ gs) f g all last = (all.0, same_last p fs gs f g all.1 last)

none_of : {A : Type 0} (xs : List A) → length xs ≡ 0 → xs ≡ []
none_of [] e = refl
none_of (x ∷ xs) e = absurd (omega (arith, e))

module _ {F O : Type 0} (p : ℕ) (lines : List (Line F O)) (i : ℕ) (l : Line F O) (inside : i < length lines) (at : l ≡ get_or lines i l) (old : List Terms) (so_far : AreSameLines p old (generators (take i lines))) where
  taken : generators (take (i + 1) lines) ≡ generators (take i lines) ++ own l.parts.items l.poly
  taken = ap generators (taken_at lines i l inside at) ∙ generators_last (take i lines) l

  -- a generator more
  pub lines_more : (r : Terms) → length l.parts.items ≡ 0 → IsSameLine p r l.poly → AreSameLines p (old ++ r ∷ []) (generators (take (i + 1) lines))
  lines_more r none same =
      subst (AreSameLines p (old ++ r ∷ [])) (sym (taken ∙ ap (λ k. generators (take i lines) ++ k) (own_line l.parts.items l.poly (none_of l.parts.items none))))
      (same_last p old (generators (take i lines)) r l.poly so_far same)

  -- a line that is none
  pub lines_kept : 0 < length l.parts.items → AreSameLines p old (generators (take (i + 1) lines))
  lines_kept some =
      subst (AreSameLines p old) (sym (taken ∙ (ap (λ k. generators (take i lines) ++ k) (own_none l.parts.items l.poly some) ∙ append-nil (generators (take i lines))))) so_far
