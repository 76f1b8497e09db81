-- The arguments of the checker, `ffcheck CERT [--cores] [--bits]`: a simple command of `clap` without a help flag.
use Rattle.std.specs.Prelude.{◌≡◌, Bool, true, false, [], List, codes, Some, unwrap_or, option_map}
use Rattle.std.specs.Str.{bytes_eq}
use Rattle.clap.specs.Words.{App, Rule, Text, fault_of, first_of, matches_of, new_app, new_rule, with_rule}
use Rattle.clap.specs.declared.builder.action.ArgAction.TheVariants.{Set, SetTrue}

-- the name of the certificate
abbrev pub cert_rule : Rule
cert_rule = record (new_rule (codes "cert")) { action = Some Set; required = true }

abbrev pub cores_rule : Rule
cores_rule = record (new_rule (codes "cores")) { long = Some (codes "cores"); action = Some SetTrue }

abbrev pub bits_rule : Rule
bits_rule = record (new_rule (codes "bits")) { long = Some (codes "bits"); action = Some SetTrue }

abbrev pub without_help : App → App
without_help a = record a { top = record a.top { disable_help_flag = true } }

abbrev pub check_app : App
check_app = with_rule (with_rule (with_rule (without_help (new_app (codes "ffcheck"))) cert_rule) cores_rule) bits_rule

-- `clap` takes the arguments, the program's name first
abbrev pub AreTaken : List Text → Type 0
AreTaken words = fault_of check_app words ≡ []

-- the name of the certificate that the arguments give
abbrev pub cert_name : List Text → Text
cert_name words = unwrap_or (first_of (codes "cert") (matches_of check_app words)) []

abbrev pub is_set : Text → Bool
is_set text = bytes_eq text (codes "true")

-- the arguments ask for cores
abbrev pub wants_cores : List Text → Bool
wants_cores words = unwrap_or (option_map is_set (first_of (codes "cores") (matches_of check_app words))) (false)

-- the arguments ask for certificates of version 3
abbrev pub wants_bits : List Text → Bool
wants_bits words = unwrap_or (option_map is_set (first_of (codes "bits") (matches_of check_app words))) (false)
