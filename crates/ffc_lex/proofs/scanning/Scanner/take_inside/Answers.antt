use Rattle.std.proofs.Common.{◌≡◌, ◌≤◌, arith, sym, ap, ◌∙◌, subst, inl, inr}
use Rattle.ffc_lex.specs.Scan.{IsReady, reach}
use Rattle.ffc_lex.proofs.HeldLemmas.{kept_le_reach}
use Rattle.ffc_lex.proofs.StepLemmas.{string_pairs, word_stays, keyword_stays, field_stays}
use Rattle.ffc_lex.proofs.scanning.Scanner.take_inside.Goals as goal

pub returns-in-Comment-clause-read : goal.returns-in-Comment-clause-read
returns-in-Comment-clause-read c n text facing e inside = c.take_in_comment.ensures.read n text facing (sym (ap (λ v. v.mode) c.self.view_is) ∙ c.in-Comment.is)

pub returns-in-StrMark-clause-read : goal.returns-in-StrMark-clause-read
returns-in-StrMark-clause-read c n text facing e inside =
    subst (λ s. IsReady n text s) (sym c.stay.ensures)
    (string_pairs n text c.args.byte c.args.self.now facing c.requires (sym (ap (λ v. v.mode) c.self.view_is) ∙ c.in-StrMark.is) e)

pub returns-in-Word-clause-read : goal.returns-in-Word-clause-read
returns-in-Word-clause-read c n text facing e inside =
    subst (λ s. IsReady n text s) (sym c.advance.ensures)
    (elim c.in-Word.is [
      | inl word ↦ word_stays n text c.args.byte c.args.self.now facing c.requires (sym (ap (λ v. v.mode) c.self.view_is) ∙ word) e
      | inr others ↦ elim others [
        | inl keyword ↦ keyword_stays n text c.args.byte c.args.self.now facing c.requires (sym (ap (λ v. v.mode) c.self.view_is) ∙ keyword) e
        | inr rest ↦ elim rest [
          | inl field ↦ field_stays n text c.args.byte c.args.self.now facing c.requires (sym (ap (λ v. v.mode) c.self.view_is) ∙ field) e
          | inr between ↦ absurd (inside (sym (ap (λ v. v.mode) c.self.view_is) ∙ between))
        ]
      ]
    ])

pub take_in_quoted-requires-clause-held : goal.take_in_quoted-requires-clause-held
take_in_quoted-requires-clause-held c =
    let low : c.self.inside.kept ≤ reach c.self.inside.mode c.self.inside.at c.self.inside.start = kept_le_reach c.self.inside.kept c.self.inside.at c.self.inside.start c.self.inside.mode c.self.inside.depth c.self.inside.tokens.items c.self.invariant in
    let here : reach c.self.inside.mode c.self.inside.at c.self.inside.start ≡ c.self.inside.start.index = ap (λ m. reach m c.self.inside.at c.self.inside.start) c.in-Quoted.is in
    omega (arith, low, here, ap (λ v. v.kept) c.self.view_is, ap (λ v. v.start.index) c.self.view_is)

pub take_in_string-requires-clause-held : goal.take_in_string-requires-clause-held
take_in_string-requires-clause-held c =
    let low : c.self.inside.kept ≤ reach c.self.inside.mode c.self.inside.at c.self.inside.start = kept_le_reach c.self.inside.kept c.self.inside.at c.self.inside.start c.self.inside.mode c.self.inside.depth c.self.inside.tokens.items c.self.invariant in
    let here : reach c.self.inside.mode c.self.inside.at c.self.inside.start ≡ c.self.inside.start.index = ap (λ m. reach m c.self.inside.at c.self.inside.start) c.in-Str.is in
    omega (arith, low, here, ap (λ v. v.kept) c.self.view_is, ap (λ v. v.start.index) c.self.view_is)

pub stay-requires-clause-held : goal.stay-requires-clause-held
stay-requires-clause-held c =
    let low : c.self.inside.kept ≤ reach c.self.inside.mode c.self.inside.at c.self.inside.start = kept_le_reach c.self.inside.kept c.self.inside.at c.self.inside.start c.self.inside.mode c.self.inside.depth c.self.inside.tokens.items c.self.invariant in
    let here : reach c.self.inside.mode c.self.inside.at c.self.inside.start ≡ c.self.inside.start.index = ap (λ m. reach m c.self.inside.at c.self.inside.start) c.in-StrMark.is in
    omega (arith, low, here, ap (λ v. v.kept) c.self.view_is, ap (λ v. v.start.index) c.self.view_is)
