use Rattle.ffc_basis.proofs.represented.is_represented_between.Goals as goal

pub returns-then-j-i : goal.returns-then-j-i
returns-then-j-i g c = λ is.
    let both = c.is_represented-then-j-i.ensures is in
    (both.1, both.0)
