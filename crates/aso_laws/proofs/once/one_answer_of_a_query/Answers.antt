use Rattle.aso_laws.proofs.Queries.{no_grid_refused, one_grid, one_refusal}
use Rattle.aso_laws.proofs.once.one_answer_of_a_query.Goals as goal

pub returns-clause-grid : goal.returns-clause-grid
returns-clause-grid c = λ o stored q rows columns height width text other a b. one_grid o q stored rows columns height width text other a b

pub returns-clause-refusal : goal.returns-clause-refusal
returns-clause-refusal c = λ o stored q r s a b. one_refusal o q stored r s a b

pub returns-clause-either : goal.returns-clause-either
returns-clause-either c = λ o stored q r rows columns text a b. no_grid_refused o q stored r rows columns text a b
