use Rattle.ffc_term.proofs.GrowthLemmas.{sort_follows, degree_follows, length_follows}
use Rattle.ffc_term.proofs.growth_laws.measures_follow_from_children.Goals as goal

pub returns : goal.returns
returns c = record {
  sort = λ nodes id n table at. sort_follows nodes id n table.well_formed at;
  degree = λ nodes id n table at. degree_follows nodes id n table.well_formed at;
  length = λ nodes id n table at. length_follows nodes id n table.well_formed at;
}
