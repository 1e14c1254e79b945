use Rattle.std.proofs.Common.{◌≡◌, drop, false}
use Rattle.std.specs.Prelude.{slice_index_or}
use Rattle.std.specs.List.{list_all}
use Rattle.aso_sums.proofs.sums.are_marked.Given as goal

abbrev pub invariant-loop-place : goal.invariant-loop-place
invariant-loop-place l = list_all (λ k. slice_index_or l.marks k false) (drop l.place-index l.places) ≡ list_all (λ k. slice_index_or l.marks k false) l.places
