-- What the scanner holds as it goes on, and the window's bytes as the text's.
use Rattle.std.proofs.Common.{◌≡◌, ℕ, true, ◌+◌, ◌-◌, ◌<◌, ◌≤◌, List, [], ◌∷◌, length, drop, get_or, refl, sym, ap, ◌∙◌, arith, Some}
use Rattle.std.proofs.lemmas.List.{get_or-drop, length-drop}
use Rattle.std.proofs.lemmas.List.Elements.{All-nil, All-head}
use Rattle.std.proofs.lemmas.Option.{slice_get-get_or}
use Rattle.ffc_lex.specs.declared.tokens.Token.{Token}
use Rattle.ffc_lex.specs.declared.tokens.Place.{Place}
use Rattle.ffc_lex.specs.declared.modes.Mode.{Mode}
use Rattle.ffc_lex.specs.declared.modes.Mode.TheVariants as modes
use Rattle.ffc_lex.specs.Scan.{Scan, IsBetween, IsHeld, IsInRange, IsReady, IsFacing, first_start, is_ended_by, reach}

-- the first token ends before the place where the next one may begin
first_ends : (gone next high : ℕ) (t : Token) (ts : List Token) → IsHeld gone next high (t ∷ ts) → t.start + t.length ≤ high
first_ends gone next high t ts h = (All-head (IsBetween t.start high) t ts h.between).1

-- no token
pub held_none : (gone next high : ℕ) → gone ≤ next → IsHeld gone next high []
held_none gone next high le = record { kept = le; between = All-nil (IsBetween next high) }

-- the first token begins before the next one
pub first_le : (gone next high : ℕ) (ts : List Token) → high ≤ next → IsHeld gone next high ts → first_start ts next ≤ next
first_le gone next high [] le h = omega arith
first_le gone next high (t ∷ ts) le h = omega (arith, first_ends gone next high t ts h, le)

pub reach_le : (mode : Mode) (at start : Place) → start.index ≤ at.index → reach mode at start ≤ at.index
reach_le modes.Between at start le = le
reach_le modes.Comment at start le = omega arith
reach_le modes.Word at start le = le
reach_le modes.Keyword at start le = le
reach_le modes.FieldLiteral at start le = le
reach_le modes.Quoted at start le = le
reach_le modes.Str at start le = le
reach_le modes.StrMark at start le = le

pub le_reach : (mode : Mode) (at start : Place) → start.index ≤ at.index → start.index ≤ reach mode at start
le_reach modes.Between at start le = omega arith
le_reach modes.Comment at start le = le
le_reach modes.Word at start le = omega arith
le_reach modes.Keyword at start le = omega arith
le_reach modes.FieldLiteral at start le = omega arith
le_reach modes.Quoted at start le = omega arith
le_reach modes.Str at start le = omega arith
le_reach modes.StrMark at start le = omega arith

pub kept_le_at : (kept : ℕ) (at start : Place) (mode : Mode) (opened : ℕ) (ts : List Token) → IsInRange kept at start mode opened ts → kept ≤ at.index
kept_le_at kept at start mode opened ts h =
    let low : kept ≤ first_start ts (reach mode at start) = h.held.kept in
    let first : first_start ts (reach mode at start) ≤ reach mode at start = first_le kept (reach mode at start) start.index ts (le_reach mode at start h.order) h.held in
    let last : reach mode at start ≤ at.index = reach_le mode at start h.order in
    omega arith

pub kept_le_reach : (kept : ℕ) (at start : Place) (mode : Mode) (opened : ℕ) (ts : List Token) → IsInRange kept at start mode opened ts → kept ≤ reach mode at start
kept_le_reach kept at start mode opened ts h =
    let low : kept ≤ first_start ts (reach mode at start) = h.held.kept in
    let first : first_start ts (reach mode at start) ≤ reach mode at start = first_le kept (reach mode at start) start.index ts (le_reach mode at start h.order) h.held in
    omega arith

-- what the next byte ends is no comment
pub ended_reach : (mode : Mode) (c : ℕ) (at start : Place) → is_ended_by mode c ≡ true → reach mode at start ≡ start.index
ended_reach modes.Between c at start e = refl
ended_reach modes.Comment c at start e = absurd (cc)
ended_reach modes.Word c at start e = refl
ended_reach modes.Keyword c at start e = refl
ended_reach modes.FieldLiteral c at start e = refl
ended_reach modes.Quoted c at start e = refl
ended_reach modes.Str c at start e = refl
ended_reach modes.StrMark c at start e = refl

-- the window's byte at a place is the text's
pub faced : (n : ℕ) (text window : List ℕ) (at kept : ℕ) (s : Scan) → window ≡ drop s.kept text → IsReady n text s → at ≡ s.at.index → kept ≡ s.kept → kept ≤ at
    → s.at.index < s.kept + length window → IsFacing n text (get_or window (at - kept) 0) s
faced n text window at kept s is ready e k low lt =
    let len : length window ≡ length text - s.kept = ap length is ∙ length-drop s.kept text in
    let inside : s.at.index < length text = omega (arith, len, lt, low, e, k) in
    let i : s.kept + (at - kept) ≡ s.at.index = omega (arith, low, e, k) in
    let same : get_or window (at - kept) 0 ≡ get_or text s.at.index 0 =
    ap (λ xs. get_or xs (at - kept) 0) is ∙ (get_or-drop s.kept text (at - kept) 0 ∙ ap (λ j. get_or text j 0) i) in
    record { ready = ready; next = slice_get-get_or text s.at.index 0 inside ∙ ap (λ c. Some c) (sym same) }
