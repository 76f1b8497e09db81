-- What an answer needs of a command beside its terms: the text of a term that is asked for, and what the command does to
-- the model that was found before. SMT-LIB 2.6, section 4.1.1 (modes of a solver).
use Rattle.std.specs.Prelude.{◌≡◌, ℕ, Bool, List, [], ◌∷◌, ◌++◌}
use Rattle.ffc_lex.specs.declared.tokens.TokenKind.{TokenKind}
use Rattle.ffc_lex.specs.declared.tokens.TokenKind.TheVariants.{LeftParen, RightParen}
use Rattle.ffc_smt.specs.Trees.{Word, tokens_of}
use Rattle.ffc_smt.specs.Terms.{Asked, Setting, Command, Declare, DefineSort, Define, Assert, Push, Pop, ResetAssertions, Reset}
use Rattle.ffc_smt.specs.Scopes.{Options, State, option_of, with_option}
use Rattle.ffc_smt.specs.Scripts.{changed}

-- The text of tokens: as written, a space between two of them, but none after `(` and none before `)`.

abbrev pub space_between : TokenKind → TokenKind → List ℕ
space_between LeftParen next = []
space_between _ RightParen = []
space_between _ _ = 32 ∷ []

abbrev pub text_after : Word → List Word → List ℕ
text_after w [] = []
text_after w (v ∷ vs) = space_between w.kind v.kind ++ v.bytes ++ text_after v vs

abbrev pub text_of : List Word → List ℕ
text_of [] = []
text_of (w ∷ ws) = w.bytes ++ text_after w ws

-- a term or an assumption, as it was written
abbrev pub asked_text : Asked → List ℕ
asked_text a = text_of (tokens_of a.tree)

-- What becomes of the last model, and of the last core

pub data Effect : Type 0 where
  -- they stay
  Keeps : Effect
  -- they are gone
  EndsModel : Effect
  -- and the last verdict too
  Forgets : Effect

abbrev pub effect_of : Command → Effect
effect_of Reset = Forgets
effect_of (Declare name s) = EndsModel
effect_of (DefineSort name s) = EndsModel
effect_of (Define name parameters s t) = EndsModel
effect_of (Assert label t) = EndsModel
effect_of (Push n) = EndsModel
effect_of (Pop n) = EndsModel
effect_of ResetAssertions = EndsModel
effect_of _ = Keeps

-- A command that keeps the model changes no level, no name, no assertion and no constant.
pub record KeepsScopes (c : Command) (s : State) : Type 0 where
  pub levels : (changed c s).levels ≡ s.levels
  pub base : (changed c s).base ≡ s.base
  pub constants : (changed c s).constants ≡ s.constants

abbrev pub KeepingEffectsKeep : Type 0
KeepingEffectsKeep = (c : Command) (s : State) → effect_of c ≡ Keeps → KeepsScopes c s

-- The options by name: setting one gives it this value, and leaves the others.
pub record OptionsAreSet : Type 0 where
  pub set : (o : Options) (k : Setting) (b : Bool) → option_of (with_option o k b) k ≡ b
  pub others : (o : Options) (k j : Setting) (b : Bool) → (j ≡ k → ⊥) → option_of (with_option o k b) j ≡ option_of o j
