-- How many words a tree has, by counting parentheses.
use Rattle.std.specs.Prelude.{ℕ, zero, suc, List, [], ◌∷◌}
use Rattle.ffc_lex.specs.declared.tokens.TokenKind.{TokenKind}
use Rattle.ffc_lex.specs.declared.tokens.TokenKind.TheVariants.{LeftParen, RightParen}
use Rattle.ffc_smt.specs.Trees.{Word}

abbrev pub less_one : ℕ → ℕ
less_one zero = zero
less_one (suc d) = d

-- how many parentheses are open after a word
abbrev pub depth_after : TokenKind → ℕ → ℕ
depth_after LeftParen d = suc d
depth_after RightParen d = less_one d
depth_after _ d = d

-- of a word and those after it, unless it is the last one
abbrev pub size_with : ℕ → ℕ → ℕ
size_with zero n = 1
size_with (suc d) n = suc n

-- how many words there are up to the one after which none is open
unfoldable pub size_from : ℕ → List Word → ℕ
size_from d [] = 0
size_from d (w ∷ ws) = size_with (depth_after w.kind d) (size_from (depth_after w.kind d) ws)
