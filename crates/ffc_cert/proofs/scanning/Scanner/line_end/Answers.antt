use Rattle.std.proofs.Common.{◌≡◌, ◌-◌, ◌∙◌, ap, drop, arith}
use Rattle.std.specs.List.{position_or_len}
use Rattle.std.proofs.lemmas.List.{take_rest}
use Rattle.ffc_cert.specs.Reading.{is_line_end}
use Rattle.ffc_cert.proofs.ScanLemmas.{window_rest}
use Rattle.ffc_cert.proofs.SplitLemmas.{searched_behind}
use Rattle.ffc_cert.proofs.scanning.Scanner.line_end.Goals as goal

pub returns-clause-end : goal.returns-clause-end
returns-clause-end c =
    let s = c.args.self.now in
    let text = c.args._fed.now.bytes in
    let rest = window_rest s.gone s.scanned text c.args.window.now c.requires.window (omega (arith, c.requires.kept, c.requires.within)) in
    let found : c.place_of.result ≡ position_or_len is_line_end (drop s.scanned text) =
    c.place_of.ensures.place ∙ ap (position_or_len is_line_end) (take_rest c.args.window.now (s.scanned - s.gone) ∙ rest) in
    rw found (searched_behind is_line_end s.start s.scanned text c.requires.within c.requires.unended)
