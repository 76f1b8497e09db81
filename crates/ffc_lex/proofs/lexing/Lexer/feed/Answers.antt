use Rattle.std.proofs.Common.{◌≡◌, ℕ, List, ◌+◌, ◌-◌, ◌≤◌, ◌++◌, length, take, min, None, sym, ap, ◌∙◌, arith}
use Rattle.std.proofs.lemmas.List.{length-drop, length-take}
use Rattle.ffc_lex.specs.declared.TheConstants.{MAX_BYTES}
use Rattle.ffc_lex.specs.Lexing.{Lexing, extended}
use Rattle.ffc_lex.proofs.KeptLemmas.{extended_by, fed, kept_fed}
use Rattle.ffc_lex.proofs.lexing.Lexer.feed.Goals as goal

pub overflow_sub-length : goal.overflow_sub-length
overflow_sub-length c =
    let text : List ℕ = c.self-2.inside.input.bytes in
    let none : c.self-2.inside.fault ≡ None =
    ap (λ v. v.fault) c.self-2.view_is ∙ (ap (λ v. v.fault) c.in_ok-let_go.ensures ∙ (sym (ap (λ v. v.fault) c.self.view_is) ∙ c.in_default.is)) in
    let within : c.self-2.inside.scanner.at.index ≤ length text = (c.self-2.invariant.ready none).within in
    let low : c.self-2.inside.scanner.kept ≤ length text = omega (arith, within, c.kept.ensures.within, c.kept.ensures.result) in
    let len : c.kept.result + c.len.result ≡ length text =
    omega (arith, low, c.kept.ensures.result, c.len.ensures, c.self-2.inside.window.ok, ap length c.self-2.invariant.window, length-drop c.self-2.inside.scanner.kept text) in
    omega (arith, len, c.self-2.invariant.limit)

pub invariant_of-self-2 : goal.invariant_of-self-2
invariant_of-self-2 c =
    let text : List ℕ = c.self-2.inside.input.bytes in
    let none : c.self-2.inside.fault ≡ None =
    ap (λ v. v.fault) c.self-2.view_is ∙ (ap (λ v. v.fault) c.in_ok-let_go.ensures ∙ (sym (ap (λ v. v.fault) c.self.view_is) ∙ c.in_default.is)) in
    let within : c.self-2.inside.scanner.at.index ≤ length text = (c.self-2.invariant.ready none).within in
    let low : c.self-2.inside.scanner.kept ≤ length text = omega (arith, within, c.kept.ensures.within, c.kept.ensures.result) in
    let len : c.kept.result + c.len.result ≡ length text =
    omega (arith, low, c.kept.ensures.result, c.len.ensures, c.self-2.inside.window.ok, ap length c.self-2.invariant.window, length-drop c.self-2.inside.scanner.kept text) in
    let piece : List ℕ = take c.min-taken.result c.args.piece.now in
    let few : length text ≤ MAX_BYTES + 1 = c.self-2.invariant.limit in
    let size : length piece ≡ min c.min-taken.result (length c.args.piece.now) = length-take c.min-taken.result c.args.piece.now in
    kept_fed text piece c.append.new.self.bytes c.self-2.inside.given c.self-2.inside.fault c.self-2.inside.scanner c.self-2.inside.window.items c.extend_from_slice.new.self.items
    c.self-2.inside.form.bytes.items c.self-2.inside.form.start c.self-2.inside.form.end c.self-2.invariant low c.in_ok-extend_from_slice.ensures.items c.append.ensures (omega (arith, few, size, len, c.min-taken.ensures))

pub returns-clause-ok : goal.returns-clause-ok
returns-clause-ok c =
    let text : List ℕ = c.self-2.inside.input.bytes in
    let none : c.self-2.inside.fault ≡ None =
    ap (λ v. v.fault) c.self-2.view_is ∙ (ap (λ v. v.fault) c.in_ok-let_go.ensures ∙ (sym (ap (λ v. v.fault) c.self.view_is) ∙ c.in_default.is)) in
    let within : c.self-2.inside.scanner.at.index ≤ length text = (c.self-2.invariant.ready none).within in
    let low : c.self-2.inside.scanner.kept ≤ length text = omega (arith, within, c.kept.ensures.within, c.kept.ensures.result) in
    let len : c.kept.result + c.len.result ≡ length text =
    omega (arith, low, c.kept.ensures.result, c.len.ensures, c.self-2.inside.window.ok, ap length c.self-2.invariant.window, length-drop c.self-2.inside.scanner.kept text) in
    let inner : Lexing = record { text = text; given = c.self-2.inside.given; fault = c.self-2.inside.fault; finished = c.self-2.inside.finished } in
    let count : c.min-taken.result ≡ min (length c.args.piece.now) (MAX_BYTES + 1 - length text) =
    c.min-taken.ensures ∙ ap (λ k. min (length c.args.piece.now) (MAX_BYTES + 1 - k)) len in
    let all : c.append.new.self.bytes ≡ extended text c.args.piece.now =
    c.append.ensures ∙ (ap (λ k. text ++ take k c.args.piece.now) count ∙ extended_by text c.args.piece.now (MAX_BYTES + 1) c.self-2.invariant.limit) in
    (sym (ap (λ v. v.fault) c.self.view_is) ∙ c.in_default.is, fed inner c.args.self.now c.args.piece.now c.append.new.self.bytes (c.self-2.view_is ∙ c.in_ok-let_go.ensures) all)
