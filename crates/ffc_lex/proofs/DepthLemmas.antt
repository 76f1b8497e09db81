-- What a byte begins at a depth: outside of a form no token but a parenthesis.
use Rattle.std.proofs.Common.{ℕ, zero, suc, ◌<◌, if◌then◌else◌, Bool, true, false, List, [], ◌∷◌, arith}
use Rattle.ffc_lex.specs.declared.byte_classes.ByteClass.{ByteClass}
use Rattle.ffc_lex.specs.declared.byte_classes.ByteClass.TheVariants as classes
use Rattle.ffc_lex.specs.declared.tokens.TokenKind.{TokenKind}
use Rattle.ffc_lex.specs.declared.tokens.TokenKind.TheVariants as kinds
use Rattle.ffc_lex.specs.Bytes.{byte_class}
use Rattle.ffc_lex.specs.Lexeme.{Lexeme, Skip, Token as Lexed, Bad, Unended, lexeme_at, comment_at, outside_at}

-- a token other than a parenthesis is inside one
abbrev pub FitsDepth : TokenKind → ℕ → Type 0
FitsDepth kinds.LeftParen depth = Unit {0}
FitsDepth kinds.RightParen depth = Unit {0}
FitsDepth _ depth = 0 < depth

abbrev pub LexemeFits : Lexeme → ℕ → Type 0
LexemeFits (Skip n) depth = Unit {0}
LexemeFits (Lexed kind n) depth = FitsDepth kind depth
LexemeFits (Bad n size) depth = Unit {0}
LexemeFits (Unended more) depth = Unit {0}

kind_inside : (k : TokenKind) (depth : ℕ) → 0 < depth → FitsDepth k depth
kind_inside kinds.LeftParen depth h = tt
kind_inside kinds.RightParen depth h = tt
kind_inside _ depth h = h

lexeme_inside : (l : Lexeme) (depth : ℕ) → 0 < depth → LexemeFits l depth
lexeme_inside (Skip n) depth h = tt
lexeme_inside (Lexed kind n) depth h = kind_inside kind depth h
lexeme_inside (Bad n size) depth h = tt
lexeme_inside (Unended more) depth h = tt

either_fits : (b : Bool) (l m : Lexeme) (depth : ℕ) → LexemeFits l depth → LexemeFits m depth → LexemeFits (if b then l else m) depth
either_fits true l m depth h g = h
either_fits false l m depth h g = g

comment_fits : (bytes : List ℕ) (depth : ℕ) → LexemeFits (comment_at bytes) depth
unfolding comment_at
comment_fits bytes depth = either_fits _ (Skip _) (Unended true) depth tt tt

outside_fits : (class : ByteClass) (cs : List ℕ) (depth : ℕ) → LexemeFits (outside_at class cs) depth
outside_fits classes.White cs depth = tt
outside_fits classes.Semicolon cs depth = comment_fits cs depth
outside_fits classes.LeftParen cs depth = tt
outside_fits classes.RightParen cs depth = tt
outside_fits classes.Bar cs depth = tt
outside_fits classes.Quote cs depth = tt
outside_fits classes.Colon cs depth = tt
outside_fits classes.Hash cs depth = tt
outside_fits classes.Word cs depth = tt
outside_fits classes.Other cs depth = tt

pub lexeme_fits : (depth : ℕ) (bytes : List ℕ) → LexemeFits (lexeme_at depth bytes) depth
unfolding lexeme_at
lexeme_fits zero [] = tt
lexeme_fits zero (c ∷ cs) = outside_fits (byte_class c) cs 0
lexeme_fits (suc d) bytes = lexeme_inside (lexeme_at (suc d) bytes) (suc d) (omega arith)
