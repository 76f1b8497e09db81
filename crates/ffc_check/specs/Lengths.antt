-- How long the lists of an entry are that is not too long.
use Rattle.std.specs.Prelude.{◌^◌, ◌<◌, length}
use Rattle.ffc_cert.specs.declared.entries.CertLine.{CertLine}
use Rattle.ffc_cert.specs.declared.entries.CertLine.TheVariants.{Lemma}

-- a lemma has few literals: the variables of their inverses have numbers of 32 bits
abbrev pub FewLiterals : CertLine → Type 0
FewLiterals (Lemma order lits) = length lits < 2 ^ 31
FewLiterals _ = Unit {0}
