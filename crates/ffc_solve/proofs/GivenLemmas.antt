-- A value that the arguments give has passed the parser of its argument.
use Rattle.std.proofs.Common.{◌≡◌, ◌∙◌, ◌<◌, ℕ, true, false, List, [], ◌∷◌, map, length, Option, Some, None, unwrap_or, refl, sym, ap, subst, inl, inr, arith, zero, suc, slice_index, slice_get, option_map, codes}
use Rattle.std.specs.List.{All, list_all, slice_index_or}
use Rattle.std.specs.Str.{bytes_eq}
use Rattle.std.specs.Borrow.{Bor}
use Rattle.std.proofs.lemmas.Bool.{cases_lt}
use Rattle.std.proofs.lemmas.List.{get_or-map, length-map}
use Rattle.std.proofs.lemmas.Slice.Eq.{bytes_eq-Decides}
use Rattle.clap.specs.Facts.{Entry, EntryPasses, HasReading, PassesArg, ValuesPass, args_of, groups_of, parser_of, parser_of_value}
use Rattle.clap.specs.Built.{IsAuto, IsParsedFrom, SameRules}
use Rattle.clap.specs.Matches.{found_of, matched_of, one_text}
use Rattle.clap.specs.Simple.{App, app_of}
use Rattle.clap.specs.Values.{Accepts, IsUnsignedIn, reading_of}
use Rattle.clap.specs.Walk.{Rule, Text, rule_of}
use Rattle.clap.specs.declared.builder.arg.Arg.{Arg}
use Rattle.clap.specs.declared.builder.command.Command.{Command}
use Rattle.clap.specs.declared.builder.value_parser.Reading.{Reading}
use Rattle.clap.specs.declared.builder.value_parser.Reading.TheVariants.{AsWritten}
use Rattle.clap.specs.declared.builder.value_parser.ValueParser.{ValueParser}
use Rattle.clap.specs.declared.builder.value_parser.ValueParser.TheVariants.{Unsigned}
use Rattle.clap.specs.declared.parser.matches.ArgMatches.{ArgMatches}
use Rattle.clap.specs.declared.parser.matches.MatchedArg.{MatchedArg}
use Rattle.clap.proofs.CallerLemmas.{entry_by_id}
use Rattle.clap.proofs.SimpleLemmas.{plain_fields, simple_groups}
use Rattle.ffc_solve.specs.Arguments.{bits_rule, cert_rule, make_rule, solve_app, steps_rule}

-- each of the arguments that has this id has this parser
abbrev HasParser : List Arg → Text → ValueParser → Type 0
HasParser args id q = (j : ℕ) (d : Arg) → j < length args → (slice_index_or args j d).id.now ≡ id
    → ((slice_index_or args j d).value_parser ≡ Some q) × ((slice_index_or args j d).ignore_case ≡ false)

-- an id that no argument has which building adds
pub record IsOwn (id : Text) : Type 0 where
  pub some : id ≡ [] → ⊥
  pub help : codes "help" ≡ id → ⊥
  pub version : codes "version" ≡ id → ⊥

module _ (c : Command) (m : ArgMatches) (p : IsParsedFrom c m) (id : Text) (q : ValueParser) (own : IsOwn id) (has : HasParser (args_of c) id q) where
  parser_kept : (j : ℕ) (x : Arg) → j < length (args_of p.built) → slice_index_or (args_of p.built) j x ≡ x → bytes_eq x.id.now id ≡ true → (parser_of x ≡ q) × (x.ignore_case ≡ false)
  parser_kept j x high at same =
      let x_id : x.id.now ≡ id = (bytes_eq-Decides x.id.now id).0 same in
      elim (cases_lt j (length (args_of c))) [
        | inl under ↦
            let s = subst (λ w. SameRules (slice_index_or (args_of c) j x) w) at (p.from.kept j x under).1 in
            let one = has j x under (ap (λ b. b.now) (sym s.id) ∙ x_id) in
            (ap parser_of_value (s.parser q one.0), s.ignore_case ∙ one.1)
        | inr over ↦ elim (subst IsAuto at (p.from.extra j x over high)) [
          | inl h ↦ absurd (own.help (sym h ∙ x_id))
          | inr h ↦ absurd (own.version (sym h ∙ x_id))
        ]
      ]

  value_passes : (v : Text) → PassesArg p.built id v → Accepts false q v
  value_passes v pass =
      let kept = parser_kept pass.0 pass.1 pass.2 pass.3 pass.4.0 in
      subst (λ b. Accepts b q v) kept.1 (subst (λ w. Accepts pass.1.ignore_case w v) kept.0 pass.4.1)

  reads_so : (r : Reading) → HasReading p.built id r → r ≡ reading_of q
  reads_so r h = sym h.4.1 ∙ ap reading_of (parser_kept h.0 h.1 h.2 h.3 h.4.0).0

  -- the entry of this id is no group's
  module _ (none : groups_of p.built ≡ []) (x : MatchedArg) (e : Entry) (same : e.1 ≡ x) (key : e.0.now ≡ id) (pass : EntryPasses p.built e) where
    no_group : e.1.is_group ≡ true → ⊥
    no_group g = elim (pass.3 g) [
      | inl empty ↦ own.some (sym key ∙ empty)
      | inr lots ↦ let bad : 0 < 0 = subst (λ gs. 0 < length gs) none lots in absurd (omega arith)
    ]

    values_pass : All (λ (v : Bor Text). Accepts false q v.now) x.vals.items
    values_pass = elim pass.0 [
      | inl g ↦ absurd (no_group g)
      | inr vals ↦
          let here : All (λ (v : Bor Text). PassesArg p.built id v.now) x.vals.items =
          subst (λ (w : Text). All (λ v. PassesArg p.built w v.now) x.vals.items) key (subst (λ (y : MatchedArg). All (λ v. PassesArg p.built e.0.now v.now) y.vals.items) same vals) in
          λ k d lt. value_passes (slice_index_or x.vals.items k d).now (here k d lt)
    ]

    reading_is : x.reading ≡ reading_of q
    reading_is = elim pass.4 [
      | inl g ↦ absurd (no_group g)
      | inr h ↦ reads_so x.reading (subst (λ (w : Text). HasReading p.built w x.reading) key (subst (λ (y : MatchedArg). HasReading p.built e.0.now y.reading) same h))
    ]

  one_passes : groups_of p.built ≡ [] → ValuesPass p.built (found_of m) → reading_of q ≡ AsWritten → (t : Text) → one_text (found_of m) id ≡ Some t → Accepts false q t
  one_passes none values written t = by_entry (matched_of (found_of m) id) refl
    where
      by_values : (vs : List (Bor Text)) → All (λ (v : Bor Text). Accepts false q v.now) vs → option_map (λ (s : Bor Text). s.now) (slice_get vs 0) ≡ Some t → Accepts false q t
      by_values [] all found = cc
      by_values (v ∷ vs) all found = subst (Accepts false q) (ap (λ (o : Option Text). unwrap_or o v.now) found) (all 0 v (omega arith))

      by_entry : (o : Option MatchedArg) → matched_of (found_of m) id ≡ o → one_text (found_of m) id ≡ Some t → Accepts false q t
      by_entry None e h =
          let bad : ◌≡◌ {A = Option Text} None (Some t) = rw e at h in
          cc
      by_entry (Some x) e h =
          let got = entry_by_id (EntryPasses p.built) (found_of m).entries.items id x values e in
          let key = (bytes_eq-Decides got.0.0.now id).0 got.2 in
          let how = reading_is none x got.0 got.1 key got.3 ∙ written in
          by_values x.vals.items (values_pass none x got.0 got.1 key got.3) (rw how at (rw e at h))

-- The arguments of the solver

abbrev solve_rules : List Rule
solve_rules = cert_rule ∷ steps_rule ∷ make_rule ∷ bits_rule ∷ []

abbrev RulesParse : Text → ValueParser → Type 0
RulesParse id q = (j : ℕ) (r : Rule) → j < 4 → (slice_index_or solve_rules j r).id ≡ id → ((slice_index_or solve_rules j r).parser ≡ Some q) × ((slice_index_or solve_rules j r).ignore_case ≡ false)

steps_parse : RulesParse (codes "steps") (Unsigned 1 1000000000000)
steps_parse zero r lt key = absurd (let bad : 99 ≡ 115 = ap (λ t. slice_index t 0) key in omega arith)
steps_parse (suc zero) r lt key = (refl, refl)
steps_parse (suc (suc zero)) r lt key = absurd (let bad : 109 ≡ 115 = ap (λ t. slice_index t 0) key in omega arith)
steps_parse (suc (suc (suc zero))) r lt key = absurd (let bad : 98 ≡ 115 = ap (λ t. slice_index t 0) key in omega arith)
steps_parse (suc (suc (suc (suc j)))) r lt key = absurd (omega arith)

make_parses : RulesParse (codes "make") (Unsigned 1 10000)
make_parses zero r lt key = absurd (let bad : 99 ≡ 109 = ap (λ t. slice_index t 0) key in omega arith)
make_parses (suc zero) r lt key = absurd (let bad : 115 ≡ 109 = ap (λ t. slice_index t 0) key in omega arith)
make_parses (suc (suc zero)) r lt key = (refl, refl)
make_parses (suc (suc (suc zero))) r lt key = absurd (let bad : 98 ≡ 109 = ap (λ t. slice_index t 0) key in omega arith)
make_parses (suc (suc (suc (suc j)))) r lt key = absurd (omega arith)

module _ (c : Command) (m : ArgMatches) (is : app_of c ≡ solve_app) (p : IsParsedFrom c m) where
  has_parser : (id : Text) (q : ValueParser) → RulesParse id q → HasParser (args_of c) id q
  has_parser id q parse j d lt key =
      let rules : map rule_of (args_of c) ≡ solve_rules = ap (λ (a : App). a.top.rules) is in
      let a = slice_index_or (args_of c) j d in
      let r = slice_index_or solve_rules j (rule_of d) in
      let four : length (args_of c) ≡ 4 = sym (length-map (args_of c) rule_of) ∙ ap (λ (rs : List Rule). length rs) rules in
      let at : rule_of a ≡ r = sym (get_or-map rule_of (args_of c) j d (rule_of d) lt) ∙ ap (λ (rs : List Rule). slice_index_or rs j (rule_of d)) rules in
      let one = parse j (rule_of d) (omega arith) (ap (λ (x : Rule). x.id) (sym at) ∙ key) in
      (ap (λ (x : Rule). x.parser) at ∙ one.0, ap (λ (x : Rule). x.ignore_case) at ∙ one.1)

  number_passes : (id : Text) (most : ℕ) → IsOwn id → RulesParse id (Unsigned 1 most) → (t : Text) → one_text (found_of m) id ≡ Some t → IsUnsignedIn 1 most t
  number_passes id most own parse =
      let plain = plain_fields c (ap (λ (a : App). a.top.is_plain) is) in
      let kept = p.from.same_groups (simple_groups c (ap (λ (a : App). list_all (λ r. r.is_simple) a.top.rules) is)) in
      one_passes c m p id (Unsigned 1 most) own (has_parser id (Unsigned 1 most) parse) (kept.1 ∙ plain.groups) (p.parsed (p.from.globals ∙ plain.globals)).values refl

  pub steps_pass : (t : Text) → one_text (found_of m) (codes "steps") ≡ Some t → IsUnsignedIn 1 1000000000000 t
  steps_pass = number_passes (codes "steps") 1000000000000 (record { some = λ e. absurd (omega (arith, ap length e)); help = λ e. absurd (let bad : 104 ≡ 115 = ap (λ t. slice_index t 0) e in omega arith); version = λ e. absurd (let bad : 118 ≡ 115 = ap (λ t. slice_index t 0) e in omega arith) }) steps_parse

  pub make_passes : (t : Text) → one_text (found_of m) (codes "make") ≡ Some t → IsUnsignedIn 1 10000 t
  make_passes = number_passes (codes "make") 10000 (record { some = λ e. absurd (omega (arith, ap length e)); help = λ e. absurd (let bad : 104 ≡ 109 = ap (λ t. slice_index t 0) e in omega arith); version = λ e. absurd (let bad : 118 ≡ 109 = ap (λ t. slice_index t 0) e in omega arith) }) make_parses
