-- The walk: branches that wait are the lines up to a mark, whatever follows them.
use Rattle.std.proofs.Common.{◌≡◌, ℕ, zero, suc, ◌+◌, ◌-◌, ◌<◌, ◌≤◌, nat_lt, true, false, List, [], ◌∷◌, ◌++◌, length, reverse, take, drop, All, Option, Some, None, Result, Ok, Err, refl, sym, ap, ap₂, ◌∙◌, subst, arith, length-take, take_all, option_to_list, MatchOption}
use Rattle.std.specs.List.{slice_get}
use Rattle.std.proofs.lemmas.Bool.{ltb-true, and_parts}
use Rattle.std.proofs.lemmas.List.{take-append-le, reverse-append}
use Rattle.std.proofs.lemmas.List.Elements.{All-head, All-tail, All-take, All-append}
use Rattle.ffc_cert.specs.declared.entries.CertLine.{CertLine}
use Rattle.ffc_ring.specs.Polynomial.{Terms}
use Rattle.ffc_trees.specs.Normal.{IsNormal, degree_of}
use Rattle.ffc_trees.specs.TreeLines.{Limits, root_line, case_lines, are_below, closes, is_nonzero_constant}
use Rattle.ffc_trees.specs.Trees.{Stage, Open, Within, kept, Broken, next_read, read_from}
use Rattle.ffc_trees.specs.Same.{IsSameLine, AreSameLines, AreSameCases, IsSameStage}
use Rattle.ffc_trees.proofs.NormalLemmas.{normal_is_normal}
use Rattle.ffc_trees.proofs.AlikeLemmas.{stages_read_alike}
use Rattle.ffc_cktree.specs.declared.cases.Case.{Case}
use Rattle.ffc_cktree.specs.declared.stop.BrokenLine.{BrokenLine}
use Rattle.ffc_cktree.specs.declared.stop.LineStop.{LineStop}
use Rattle.ffc_cktree.specs.declared.stop.LineStop.TheVariants as line_stop
use Rattle.ffc_cktree.specs.declared.stop.TreeStop.{TreeStop}
use Rattle.ffc_cktree.specs.declared.stop.TreeStop.TheVariants as tree_stops
use Rattle.ffc_cktree.specs.Lines.{AreLines}
use Rattle.ffc_cktree.specs.Waiting.{cases_at, branches_of, AreStacked}
use Rattle.ffc_cktree.specs.Walking.{is_closed, stage_read, Leads, tree_stop}

-- ---- the same lines

abbrev IsLineOf : ℕ → Terms → Type 0
IsLineOf p f = IsNormal p f × (degree_of f ≤ 1024)

pub itself : (p : ℕ) (f : Terms) → IsNormal p f → IsSameLine p f f
itself p f n = record { one = n; other = n; same = λ m. refl }

pub lines_alike : (p : ℕ) (lines : List Terms) → AreLines p lines → AreSameLines p lines lines
lines_alike p [] are = tt
lines_alike p (f ∷ lines) are = (itself p f (All-head (IsLineOf p) f lines are).0, lines_alike p lines (All-tail (IsLineOf p) f lines are))

-- the same lines with one more
pub push_alike : (p : ℕ) (lines : List Terms) (f g : Terms) → AreLines p lines → IsSameLine p f g → AreSameLines p (lines ++ f ∷ []) (lines ++ g ∷ [])
push_alike p [] f g are is = (is, tt)
push_alike p (h ∷ lines) f g are is = (itself p h (All-head (IsLineOf p) h lines are).0, push_alike p lines f g (All-tail (IsLineOf p) h lines are) is)

root_normal : (p x a : ℕ) → 0 < p → IsNormal p (root_line p x a)
unfolding root_line
root_normal p x a some = normal_is_normal p _ some

pub branches_alike : (p : ℕ) (lines : List Terms) (cases : List Case) → 0 < p → AreLines p lines → AreSameCases p (branches_of p lines cases) (branches_of p lines cases)
branches_alike p lines [] some are = tt
branches_alike p lines (c ∷ cases) some are = (
  push_alike p (take c.mark lines) (root_line p c.variable c.root) (root_line p c.variable c.root) (All-take (IsLineOf p) c.mark lines are) (itself p _ (root_normal p c.variable c.root some)),
  branches_alike p lines cases some are,
)

-- ---- branches that wait depend on the lines up to their marks alone

pub branches_stay : (p n : ℕ) (a b : List Terms) (cases : List Case) → AreStacked p n cases → ((k : ℕ) → k ≤ n → take k a ≡ take k b) → branches_of p a cases ≡ branches_of p b cases
branches_stay p n a b [] stacked h = refl
branches_stay p n a b (c ∷ cases) stacked h =
    ap₂ (λ (l : List Terms) (ls : List (List Terms)). (l ++ root_line p c.variable c.root ∷ []) ∷ ls) (h c.mark stacked.0)
    (branches_stay p c.mark a b cases stacked.2 (λ k below. h k (omega (arith, below, stacked.0))))

pub stacked_more : (p m n : ℕ) (cases : List Case) → m ≤ n → AreStacked p m cases → AreStacked p n cases
stacked_more p m n [] h stacked = tt
stacked_more p m n (c ∷ cases) h stacked = (omega (arith, h, stacked.0), stacked.1, stacked.2)

-- one line more changes no branch that waits
pub branches_push : (p : ℕ) (lines : List Terms) (f : Terms) (cases : List Case) → AreStacked p (length lines) cases → branches_of p (lines ++ f ∷ []) cases ≡ branches_of p lines cases
branches_push p lines f cases stacked =
    branches_stay p (length lines) (lines ++ f ∷ []) lines cases stacked (λ k below. take-append-le k lines (f ∷ []) below)

take_of_take : (k n : ℕ) (lines : List Terms) → k ≤ n → take k (take n lines) ≡ take k lines
take_of_take zero n lines h = refl
take_of_take (suc k) zero lines h = absurd (omega arith)
take_of_take (suc k) (suc n) [] h = refl
take_of_take (suc k) (suc n) (f ∷ lines) h = ap (λ l. f ∷ l) (take_of_take k n lines (omega arith))

pub branches_cut : (p mark : ℕ) (lines : List Terms) (f : Terms) (cases : List Case) → mark ≤ length lines → AreStacked p mark cases → branches_of p (take mark lines ++ f ∷ []) cases ≡ branches_of p lines cases
branches_cut p mark lines f cases h stacked =
    branches_stay p mark (take mark lines ++ f ∷ []) lines cases stacked (λ k below.
    take-append-le k (take mark lines) (f ∷ []) (omega (arith, length-take mark lines, h, below)) ∙ take_of_take k mark lines below)

pub lines_push : (p : ℕ) (lines : List Terms) (f : Terms) → AreLines p lines → IsNormal p f → degree_of f ≤ 1024 → AreLines p (lines ++ f ∷ [])
lines_push p lines f are n low = All-append (IsLineOf p) lines (f ∷ []) are (only (IsLineOf p) f (n, low))
  where
    only : (P : Terms → Type 0) (x : Terms) → P x → All P (x ∷ [])
    only P x h zero d below = h
    only P x h (suc k) d below = absurd (omega arith)

-- the case that is opened next
pub first_case : (old new : List Case) (o : Option Case) (c : Case) → o ≡ Some c → old ≡ new ++ option_to_list o → reverse old ≡ c ∷ reverse new
first_case old new o c is e = ap reverse (e ∙ ap (λ q. new ++ option_to_list q) is) ∙ reverse-append new (c ∷ [])

-- ---- cases that are pushed

pub cases_are : (p : ℕ) (lines : List Terms) (x : ℕ) (roots : List ℕ) (cases : List Case) → branches_of p lines (cases_at (length lines) x roots ++ cases) ≡ case_lines p lines x roots ++ branches_of p lines cases
cases_are p lines x [] cases = refl
cases_are p lines x (a ∷ roots) cases =
    ap₂ (λ (l : List Terms) (ls : List (List Terms)). (l ++ root_line p x a ∷ []) ∷ ls) (take_all (length lines) lines (omega arith)) (cases_are p lines x roots cases)

pub stacked_cases : (p n x : ℕ) (roots : List ℕ) (cases : List Case) → are_below p roots ≡ true → AreStacked p n cases → AreStacked p n (cases_at n x roots ++ cases)
stacked_cases p n x [] cases below stacked = stacked
stacked_cases p n x (a ∷ roots) cases below stacked =
    let parts = and_parts (nat_lt a p) (are_below p roots) below in
    (omega arith, ltb-true a p parts.0, stacked_cases p n x roots cases parts.1 stacked)

-- ---- the whole walk

pub read_next : (l : Limits) (p : ℕ) (s : Stage) (at : ℕ) (line : CertLine) (rest : List CertLine) → is_closed s ≡ false
    → read_from l p s at (line ∷ rest) ≡ next_read at (λ stage. read_from l p stage (suc at) rest) (stage_read l p s line)
unfolding read_from
read_next l p (Open []) at line rest h = cc
read_next l p (Open (branch ∷ others)) at line rest h = refl
read_next l p (Within c branch others) at line rest h = refl

pub read_led : (l : Limits) (p : ℕ) (s t : Stage) (at : ℕ) (line : CertLine) (rest : List CertLine) → 0 < p → is_closed s ≡ false → Leads p (stage_read l p s line) t
    → read_from l p s at (line ∷ rest) ≡ read_from l p t (suc at) rest
read_led l p s t at line rest some h leads =
    read_next l p s at line rest h ∙ ap (next_read at (λ stage. read_from l p stage (suc at) rest)) leads.kept
    ∙ sym (stages_read_alike p some l rest (suc at) t leads.stage leads.same)

pub read_broken : (l : Limits) (p : ℕ) (s : Stage) (at rule : ℕ) (line : CertLine) (rest : List CertLine) → is_closed s ≡ false → stage_read l p s line ≡ Err rule
    → read_from l p s at (line ∷ rest) ≡ Err (record { offset = at; rule = rule })
read_broken l p s at rule line rest h e =
    read_next l p s at line rest h ∙ ap (next_read at (λ stage. read_from l p stage (suc at) rest)) e

pub read_ended : (l : Limits) (p : ℕ) (s : Stage) (at : ℕ) → is_closed s ≡ false → read_from l p s at [] ≡ Err (record { offset = at; rule = 8 })
unfolding read_from
read_ended l p (Open []) at h = cc
read_ended l p (Open (branch ∷ others)) at h = refl
read_ended l p (Within c branch others) at h = refl

pub read_closed : (l : Limits) (p : ℕ) (s : Stage) (at : ℕ) (rest : List CertLine) → is_closed s ≡ true → read_from l p s at rest ≡ Ok rest
unfolding read_from
read_closed l p (Open []) at rest h = refl
read_closed l p (Open (branch ∷ others)) at rest h = cc
read_closed l p (Within c branch others) at rest h = cc

-- ---- where a rule was kept

pub kept_leads : {A : Type 0} (p : ℕ) (f : A → Stage) (r : Result A ℕ) (x : A) (s : Stage) → r ≡ Ok x → IsSameStage p s (f x) → Leads p (kept f r) s
kept_leads p f r x s e same = record { stage = f x; kept = ap (kept f) e; same = same }

pub closes_last : (p : ℕ) (lines : List Terms) (f : Terms) → Some f ≡ slice_get lines (length lines - 1) → is_nonzero_constant p f ≡ closes p lines
unfolding closes
closes_last p [] f e = cc
closes_last p (g ∷ []) f e = let same : f ≡ g = cc in ap (is_nonzero_constant p) same
closes_last p (g ∷ h ∷ lines) f e =
    let place : length (g ∷ h ∷ lines) - 1 ≡ suc (length (h ∷ lines) - 1) = omega arith in
    closes_last p (h ∷ lines) f (e ∙ ap (slice_get (g ∷ h ∷ lines)) place)

pub closes_nothing : (p : ℕ) (lines : List Terms) → None ≡ slice_get lines (length lines - 1) → false ≡ closes p lines
unfolding closes
closes_nothing p [] e = refl
closes_nothing p (g ∷ []) e = cc
closes_nothing p (g ∷ h ∷ lines) e =
    let place : length (g ∷ h ∷ lines) - 1 ≡ suc (length (h ∷ lines) - 1) = omega arith in
    closes_nothing p (h ∷ lines) (e ∙ ap (slice_get (g ∷ h ∷ lines)) place)

pub none_pushed : {A : Type 0} (old : List A) (o : Option A) (n m : ℕ) → o ≡ None → n ≡ length old → MatchOption o ((n ≡ 0) × (m ≡ 0)) (λ _. m + 1 ≡ n) → old ≡ []
none_pushed [] o n m is e none = refl
none_pushed {A} (x ∷ old) o n m is e none =
    let both = subst (λ (q : Option A). MatchOption q ((n ≡ 0) × (m ≡ 0)) (λ _. m + 1 ≡ n)) is none in absurd (omega (arith, both.0, e))

abbrev broken_at : BrokenLine → Result (List CertLine) Broken
broken_at x = Err (record { offset = x.offset; rule = x.rule })

-- a tree stops where its line does
pub stop_is : (stop : LineStop) (offset : ℕ) (b : BrokenLine) (all : Result (List CertLine) Broken) → ((rule : ℕ) → stop ≡ line_stop.Rule rule → all ≡ Err (record { offset = offset; rule = rule }))
    → tree_stop stop offset ≡ tree_stops.Broken b → all ≡ Err (record { offset = b.offset; rule = b.rule })
stop_is (line_stop.Rule rule) offset b all h e =
    let made : BrokenLine = record { offset = offset; rule = rule } in
    let same : made ≡ b = cc in
    h rule refl ∙ ap (λ (x : BrokenLine). broken_at x) same
stop_is line_stop.Memory offset b all h e = cc

pub stop_of : {T : Type 0} (r : Result T TreeStop) (stop : TreeStop) (b : BrokenLine) → r ≡ Err stop → r ≡ Err (tree_stops.Broken b) → stop ≡ tree_stops.Broken b
stop_of r stop b is e = cc

pub broken_is : {T : Type 0} (r : Result T LineStop) (stop : LineStop) (rule : ℕ) → r ≡ Err stop → stop ≡ line_stop.Rule rule → r ≡ Err (line_stop.Rule rule)
broken_is r stop rule is e = is ∙ ap (λ s. Err s) e

pub rule_of : (k rule : ℕ) → line_stop.Rule k ≡ line_stop.Rule rule → k ≡ rule
rule_of k rule e = cc

abbrev pub broken_in : ℕ → ℕ → Result (List CertLine) Broken
broken_in offset rule = Err (record { offset = offset; rule = rule })

abbrev pub ok_drop : ℕ → List CertLine → Result (List CertLine) Broken
ok_drop n lines = Ok (drop n lines)
