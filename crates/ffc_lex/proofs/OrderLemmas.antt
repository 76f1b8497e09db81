-- The tokens of a form are in order.
use Rattle.std.proofs.Common.{◌≡◌, ℕ, zero, suc, ◌+◌, ◌-◌, ◌<◌, ◌≤◌, ◌⊎◌, inl, inr, ⊎_elim, ◌==◌, Bool, true, false, if◌then◌else◌, List, [], ◌∷◌, ◌++◌, length, get_or, All, refl, sym, ap, ◌∙◌, subst, arith, length-append}
use Rattle.std.specs.List.{AllPairs}
use Rattle.std.proofs.lemmas.Bool.{cases_lt, cases_eq}
use Rattle.std.proofs.lemmas.Bool.Decides.{nat_tests}
use Rattle.std.proofs.lemmas.List.Elements.{All-cons, All-nil, All-push, All-weaker}
use Rattle.std.proofs.Math.ListN.{get_or-append}
use Rattle.std.proofs.Math.Seq.{get_or-append_seam}
use Rattle.ffc_lex.specs.declared.tokens.TokenKind.{TokenKind}
use Rattle.ffc_lex.specs.declared.tokens.TokenKind.TheVariants as kinds
use Rattle.ffc_lex.specs.declared.tokens.Token.{Token}
use Rattle.ffc_lex.specs.declared.tokens.Place.{Place}
use Rattle.ffc_lex.specs.Limits.{max_depth}
use Rattle.ffc_lex.specs.Lexeme.{Lexeme, Skip, Token as Lexed, Bad, Unended, lexeme_at}
use Rattle.ffc_lex.specs.Reading.{Open, Next, Halt, Move, Give, End, Stopped, fault_at, Reading, outside, past, origin, token_at, after_token, after_left, after_right, after_kind, after_lexeme, next_at, read, reading_of, forms_of, with_form}
use Rattle.ffc_lex.specs.Order.{IsPlaceBefore, IsLeftOf, IsInOrder}
use Rattle.ffc_lex.proofs.DepthLemmas.{FitsDepth, LexemeFits, lexeme_fits}

pairs_push : {A : Type 0} (R : A → A → Type 0) (xs : List A) (y : A) → AllPairs R xs → All (λ x. R x y) xs → AllPairs R (xs ++ y ∷ [])
pairs_push R xs y pairs all i j d less inside =
    let long : length (xs ++ y ∷ []) ≡ length xs + 1 = length-append xs (y ∷ []) in
    let first : i < length xs = omega arith in
    ⊎_elim
    (λ (early : j < length xs). subst (λ a. R a (get_or (xs ++ y ∷ []) j d)) (sym (get_or-append xs (y ∷ []) d i first)) (subst (R (get_or xs i d)) (sym (get_or-append xs (y ∷ []) d j early)) (pairs i j d less early)))
    (λ (late : length xs ≤ j).
    let at : j ≡ length xs = omega arith in
    let last : get_or (xs ++ y ∷ []) j d ≡ y = ap (λ k. get_or (xs ++ y ∷ []) k d) at ∙ get_or-append_seam xs y [] d in
    subst (λ a. R a (get_or (xs ++ y ∷ []) j d)) (sym (get_or-append xs (y ∷ []) d i first)) (subst (R (get_or xs i d)) (sym last) (all i d first)))
    (cases_lt j (length xs))

place_trans : (l c m d n e : ℕ) → IsPlaceBefore l c m d → IsPlaceBefore m d n e → IsPlaceBefore l c n e
place_trans l c m d n e (inl a) (inl b) = inl (omega arith)
place_trans l c m d n e (inl a) (inr b) = inl (let same : m ≡ n = b.0 in omega arith)
place_trans l c m d n e (inr a) (inl b) = inl (let same : l ≡ m = a.0 in omega arith)
place_trans l c m d n e (inr a) (inr b) = inr (a.0 ∙ b.0, let one : c < d = a.1 in let two : d < e = b.1 in omega arith)

past_place : (b : ℕ) (place : Place) → IsPlaceBefore place.line place.column (past b place).line (past b place).column
past_place b place = by_test (b == 10)
  where
    by_test : (t : Bool) → IsPlaceBefore place.line place.column (if t then place.line + 1 else place.line) (if t then 1 else place.column + 1)
    by_test true = inl (omega arith)
    by_test false = inr (refl, omega arith)

module _ (text : List ℕ) where
  -- the token ends before so many bytes after the place, and begins to the left of it
  abbrev IsBehind : Place → ℕ → Token → Type 0
  IsBehind place later t = (t.start + t.length ≤ place.index + later) × IsPlaceBefore t.line t.column place.line place.column

  abbrev IsOpened : List Token → Type 0
  IsOpened tokens = (first : Token) × (others : List Token) × (tokens ≡ first ∷ others) × (first.kind ≡ kinds.LeftParen)

  abbrev HasDepth : ℕ → List Token → Type 0
  HasDepth depth tokens = ((depth ≡ 0) × (tokens ≡ [])) ⊎ ((0 < depth) × IsOpened tokens)

  pub record IsPlaced (place : Place) (later : ℕ) (o : Open) : Type 0 where
    pub order : AllPairs IsLeftOf o.tokens
    pub behind_it : All (IsBehind place later) o.tokens
    pub depth : HasDepth o.depth o.tokens

  behind_next : (c : ℕ) (place : Place) (k n : ℕ) (t : Token) → k ≤ n + 1 → IsBehind place k t → IsBehind (past c place) n t
  behind_next c place k n t le h =
      (let end : t.start + t.length ≤ place.index + k = h.0 in omega arith, place_trans t.line t.column place.line place.column (past c place).line (past c place).column h.1 (past_place c place))

  one_further : (c : ℕ) (place : Place) (later : ℕ) (o : Open) → IsPlaced place (suc later) o → IsPlaced (past c place) later o
  one_further c place later o h = record {
    order = h.order;
    behind_it = All-weaker (IsBehind place (suc later)) (IsBehind (past c place) later) (λ t g. behind_next c place (suc later) later t (omega arith) g) o.tokens h.behind_it;
    depth = h.depth;
  }

  abbrev IsGood : ℕ → Place → Next → Type 0
  IsGood c place (Halt e) = Unit {0}
  IsGood c place (Move n left) = IsPlaced (past c place) (n - 1) left
  IsGood c place (Give form) = IsInOrder text form

  halts_or : (c : ℕ) (place : Place) (b : Bool) (e : End) (next : Next) → IsGood c place next → IsGood c place (if b then Halt e else next)
  halts_or c place true e next h = tt
  halts_or c place false e next h = h

  pushed_order : (place : Place) (o : Open) (k : TokenKind) (n : ℕ) → IsPlaced place 0 o → AllPairs IsLeftOf (o.tokens ++ token_at k n place ∷ [])
  pushed_order place o k n h =
      pairs_push IsLeftOf o.tokens (token_at k n place) h.order
      (All-weaker (IsBehind place 0) (λ t. IsLeftOf t (token_at k n place)) (λ t g. (let end : t.start + t.length ≤ place.index + 0 = g.0 in omega arith, g.1)) o.tokens h.behind_it)

  pushed_behind : (c : ℕ) (place : Place) (o : Open) (k : TokenKind) (n : ℕ) → IsPlaced place 0 o → All (IsBehind (past c place) (n - 1)) (o.tokens ++ token_at k n place ∷ [])
  pushed_behind c place o k n h =
      All-push (IsBehind (past c place) (n - 1)) o.tokens (token_at k n place)
      (All-weaker (IsBehind place 0) (IsBehind (past c place) (n - 1)) (λ t g. behind_next c place 0 (n - 1) t (omega arith) g) o.tokens h.behind_it)
      (omega arith, past_place c place)

  opened_more : (tokens : List Token) (t : Token) → IsOpened tokens → IsOpened (tokens ++ t ∷ [])
  opened_more tokens t (first, others, is, left) = (first, others ++ t ∷ [], ap (λ xs. xs ++ t ∷ []) is, left)

  -- a token that leaves this depth
  token_good : (c : ℕ) (place : Place) (o : Open) (k : TokenKind) (n m : ℕ) (f : Place) → IsPlaced place 0 o → HasDepth m (o.tokens ++ token_at k n place ∷ [])
      → IsGood c place (Move n (record { depth = m; first = f; tokens = o.tokens ++ token_at k n place ∷ [] }))
  token_good c place o k n m f h d = record { order = pushed_order place o k n h; behind_it = pushed_behind c place o k n h; depth = d }

  inside_opened : (depth : ℕ) (tokens : List Token) → 0 < depth → HasDepth depth tokens → IsOpened tokens
  inside_opened depth tokens some (inl h) = absurd (let none : depth ≡ 0 = h.0 in omega arith)
  inside_opened depth tokens some (inr h) = h.1

  atom_good : (c : ℕ) (k : TokenKind) (n : ℕ) (place : Place) (o : Open) → 0 < o.depth → IsPlaced place 0 o → IsGood c place (after_token k n place o)
  atom_good c k n place o some h = token_good c place o k n o.depth o.first h (inr (some, opened_more o.tokens (token_at k n place) (inside_opened o.depth o.tokens some h.depth)))

  left_depth : (place : Place) (o : Open) → HasDepth o.depth o.tokens → HasDepth (o.depth + 1) (o.tokens ++ token_at kinds.LeftParen 1 place ∷ [])
  left_depth place o (inl (none, e)) = inr (omega arith, (token_at kinds.LeftParen 1 place, [], ap (λ xs. xs ++ token_at kinds.LeftParen 1 place ∷ []) e, refl))
  left_depth place o (inr (some, opened)) = inr (omega arith, opened_more o.tokens (token_at kinds.LeftParen 1 place) opened)

  left_good : (c : ℕ) (place : Place) (o : Open) → IsPlaced place 0 o → IsGood c place (after_left place o)
  left_good c place o h =
      halts_or c place (o.depth == max_depth) _ _ (token_good c place o kinds.LeftParen 1 (o.depth + 1) (if o.depth == 0 then place else o.first) h (left_depth place o h.depth))

  given : (place : Place) (o : Open) → place.index < length text → 0 < o.depth → IsPlaced place 0 o → IsInOrder text (o.tokens ++ token_at kinds.RightParen 1 place ∷ [])
  given place o inside some h =
      let opened = opened_more o.tokens (token_at kinds.RightParen 1 place) (inside_opened o.depth o.tokens some h.depth) in
      record {
        places = pushed_order place o kinds.RightParen 1 h;
        within =
            All-push (λ t. t.start + t.length ≤ length text) o.tokens (token_at kinds.RightParen 1 place)
            (All-weaker (IsBehind place 0) (λ t. t.start + t.length ≤ length text) (λ t g. let end : t.start + t.length ≤ place.index + 0 = g.0 in omega arith) o.tokens h.behind_it) (omega arith);
        first = opened.0;
        others = opened.1;
        split = opened.2;
        opened = opened.3;
      }

  by_number : (n k : ℕ) (P : Bool → Type 0) → (n ≡ k → P true) → ((n ≡ k → ⊥) → P false) → P (n == k)
  by_number n k P one other =
      ⊎_elim (λ e. subst P (sym (let t : (n == k) ≡ true = grind (arith, nat_tests) in t)) (one e)) (λ d. subst P (sym (let t : (n == k) ≡ false = grind (arith, nat_tests) in t)) (other d)) (cases_eq n k)

  right_good : (c : ℕ) (place : Place) (o : Open) → place.index < length text → IsPlaced place 0 o → IsGood c place (after_right place o)
  right_good c place o inside h =
      let t = token_at kinds.RightParen 1 place in
      by_number o.depth 0 (λ b. IsGood c place (if b then Halt (Stopped (fault_at 3 place)) else (if o.depth == 1 then Give (o.tokens ++ t ∷ []) else Move 1 (record { depth = o.depth - 1; first = o.first; tokens = o.tokens ++ t ∷ [] }))))
      (λ e. tt)
      (λ more.
      by_number o.depth 1 (λ b. IsGood c place (if b then Give (o.tokens ++ t ∷ []) else Move 1 (record { depth = o.depth - 1; first = o.first; tokens = o.tokens ++ t ∷ [] })))
      (λ e. given place o inside (omega arith) h)
      (λ still. token_good c place o kinds.RightParen 1 (o.depth - 1) o.first h (inr (omega arith, opened_more o.tokens t (inside_opened o.depth o.tokens (omega arith) h.depth)))))

  kind_good : (c : ℕ) (k : TokenKind) (n : ℕ) (place : Place) (o : Open) → FitsDepth k o.depth → place.index < length text → IsPlaced place 0 o → IsGood c place (after_kind k n place o)
  kind_good c kinds.LeftParen n place o fits inside h = left_good c place o h
  kind_good c kinds.RightParen n place o fits inside h = right_good c place o inside h
  kind_good c kinds.Numeral n place o fits inside h = atom_good c kinds.Numeral n place o fits h
  kind_good c kinds.Decimal n place o fits inside h = atom_good c kinds.Decimal n place o fits h
  kind_good c kinds.Symbol n place o fits inside h = atom_good c kinds.Symbol n place o fits h
  kind_good c kinds.Quoted n place o fits inside h = atom_good c kinds.Quoted n place o fits h
  kind_good c kinds.Keyword n place o fits inside h = atom_good c kinds.Keyword n place o fits h
  kind_good c kinds.Str n place o fits inside h = atom_good c kinds.Str n place o fits h
  kind_good c kinds.FieldLiteral n place o fits inside h = atom_good c kinds.FieldLiteral n place o fits h

  skip_good : (c : ℕ) (place : Place) (n : ℕ) (o : Open) → IsPlaced place 0 o → IsPlaced (past c place) (n - 1) o
  skip_good c place n o h = record {
    order = h.order;
    behind_it = All-weaker (IsBehind place 0) (IsBehind (past c place) (n - 1)) (λ t g. behind_next c place 0 (n - 1) t (omega arith) g) o.tokens h.behind_it;
    depth = h.depth;
  }

  lexeme_good : (c : ℕ) (l : Lexeme) (bytes : List ℕ) (place : Place) (o : Open) → LexemeFits l o.depth → place.index < length text → IsPlaced place 0 o → IsGood c place (after_lexeme l bytes place o)
  unfolding after_lexeme
  lexeme_good c (Skip n) bytes place o fits inside h = skip_good c place n o h
  lexeme_good c (Lexed kind n) bytes place o fits inside h = kind_good c kind n place o fits inside h
  lexeme_good c (Bad n size) bytes place o fits inside h = tt
  lexeme_good c (Unended more) bytes place o fits inside h = tt

  next_good : (c : ℕ) (bytes : List ℕ) (place : Place) (o : Open) → place.index < length text → IsPlaced place 0 o → IsGood c place (next_at bytes place o)
  unfolding next_at
  next_good c bytes place o inside h = halts_or c place _ _ _ (lexeme_good c (lexeme_at o.depth bytes) bytes place o (lexeme_fits o.depth bytes) inside h)

  outside_placed : (place : Place) → IsPlaced place 0 (outside place)
  outside_placed place = record { order = λ i j d less inside. absurd (omega arith); behind_it = All-nil (IsBehind place 0); depth = inl (refl, refl) }

  abbrev AllInOrder : Reading → Type 0
  AllInOrder reading = All (IsInOrder text) reading.forms

  read_good : (bytes : List ℕ) (later : ℕ) (place : Place) (o : Open) → place.index + length bytes ≡ length text → IsPlaced place later o → AllInOrder (read bytes later place o)
  unfolding read
  read_good [] later place o e h = All-nil (IsInOrder text)
  read_good (c ∷ cs) (suc later) place o e h = read_good cs later (past c place) o (omega arith) (one_further c place later o h)
  read_good (c ∷ cs) zero place o e h =
      let rest : place.index + 1 + length cs ≡ length text = omega arith in
      by_next (next_at (c ∷ cs) place o) (next_good c (c ∷ cs) place o (omega arith) h) (λ n left g. read_good cs n (past c place) left rest g)
      (read_good cs 0 (past c place) (outside (past c place)) rest (outside_placed (past c place)))
    where
      by_next : (next : Next) → IsGood c place next → ((n : ℕ) (left : Open) → IsPlaced (past c place) n left → AllInOrder (read cs n (past c place) left)) → AllInOrder (read cs 0 (past c place) (outside (past c place)))
          → AllInOrder (elim next [ Halt e ↦ record { forms = []; end = e } | Move n left ↦ read cs (n - 1) (past c place) left | Give form ↦ with_form form (read cs 0 (past c place) (outside (past c place))) ])
      by_next (Halt e) g f rest = All-nil (IsInOrder text)
      by_next (Move n left) g f rest = f (n - 1) left g
      by_next (Give form) g f rest = All-cons (IsInOrder text) form _ g rest

  pub forms_in_order : All (IsInOrder text) (forms_of text)
  unfolding reading_of
  forms_in_order = read_good text 0 origin (outside origin) (omega arith) (outside_placed origin)
