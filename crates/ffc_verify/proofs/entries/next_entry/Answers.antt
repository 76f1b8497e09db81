use Rattle.std.proofs.Common.{◌≡◌, sym, ◌∙◌, subst, arith}
use Rattle.ffc_cert.specs.Certificate.{Certificate}
use Rattle.ffc_verify.proofs.PieceLemmas.{HasReadOn, read_further}
use Rattle.ffc_verify.proofs.TakenLemmas.{one_more_taken}
use Rattle.ffc_verify.proofs.entries.next_entry.Goals as goal

pub returns-in_err-read_piece-clause-taken : goal.returns-in_err-read_piece-clause-taken
returns-in_err-read_piece-clause-taken g c =
    one_more_taken c.args.entries.now (g.C.Source.left c.args.cert.now) c.loop.entries (g.C.Source.left c.loop.cert) (g.C.Source.left c.read_piece.new.cert) c.requires c.loop.invariant.0
    (sym c.in-Ok-None.field-0-is ∙ c.in-Ok-None.ensures.entry) c.in-Ok-None.ensures.no_fault c.loop.invariant.2 c.read_piece.ensures.taken

pub returns-then-not-branch-clause-taken : goal.returns-then-not-branch-clause-taken
returns-then-not-branch-clause-taken g c =
    one_more_taken c.args.entries.now (g.C.Source.left c.args.cert.now) c.loop.entries (g.C.Source.left c.loop.cert) (g.C.Source.left c.read_piece.new.cert) c.requires c.loop.invariant.0
    (sym c.in-Ok-None.field-0-is ∙ c.in-Ok-None.ensures.entry) c.in-Ok-None.ensures.no_fault c.loop.invariant.2 c.read_piece.ensures.taken

pub loop-preserved : goal.loop-preserved
loop-preserved g c =
    let old = c.args.entries.now in
    let left = g.C.Source.left c.args.cert.now in
    let left_now = g.C.Source.left c.loop.cert in
    let left_new = g.C.Source.left c.read_piece.new.cert in
    let same : c.next_entry.new.self ≡ c.loop.entries = rw c.in-Ok-None.field-0-is at c.in-Ok-None.ensures.none in
    let on : HasReadOn old left c.next_entry.new.self left_now = subst (λ (e : Certificate). HasReadOn old left e left_now) (sym same) c.loop.invariant.0 in (
      read_further old left c.requires c.next_entry.new.self left_now on c.read_piece.new.entries left_new c.read_piece.ensures.only c.read_piece.ensures.grows c.in_ok-read_piece.ensures.moves,
      omega (arith, c.loop.invariant.1, c.read_piece.ensures.later),
      one_more_taken old left c.loop.entries left_now left_new c.requires c.loop.invariant.0 (sym c.in-Ok-None.field-0-is ∙ c.in-Ok-None.ensures.entry) c.in-Ok-None.ensures.no_fault c.loop.invariant.2 c.read_piece.ensures.taken,
    )
