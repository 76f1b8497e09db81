-- Words by their kind and bytes.
use Rattle.std.proofs.Common.{◌≡◌, ℕ, List, refl}
use Rattle.ffc_lex.specs.declared.tokens.TokenKind.{TokenKind}
use Rattle.ffc_smt.specs.Trees.{Word}
use Rattle.ffc_smt.specs.TermReading.{is_named}
use Rattle.ffc_parts.specs.Words.{is_name_by_kind}

pub named_as : (name : List ℕ) (w : Word) (kind : TokenKind) (bytes : List ℕ) → kind ≡ w.kind → bytes ≡ w.bytes → is_named name w ≡ is_name_by_kind name kind bytes
named_as name w kind bytes k b = rw (k, b) refl
