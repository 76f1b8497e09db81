use Rattle.std.proofs.Common.{◌++◌, [], ◌∷◌, List, ℕ, map, set, sym, ap, ◌∙◌}
use Rattle.std.proofs.lemmas.List.{map-set, get_or-map}
use Rattle.ffc_echelon.proofs.grouping.append.Goals as goal

pub returns : goal.returns
returns g c =
    let groups = c.args.groups.now in
    let k = c.args.column in
    map-set (λ h. h.items) groups k c.push.new.self
    ∙ ap (set (map (λ h. h.items) groups) k)
    (c.in_ok-push.ensures.items
    ∙ ap (λ (l : List (ℕ × g.row.F.Denot)). l ++ c.args.member ∷ []) (sym (get_or-map (λ h. h.items) groups k c.index-groups-column.result [] c.requires)))
