use Rattle.std.proofs.Common.{◌≡◌, [], map}
use Rattle.std.specs.Prelude.{slice_index, slice_index_or}
use Rattle.std.specs.List.{range_with_len}
use Rattle.aso_outline.specs.Members.{dim_at, leaf_names}
use Rattle.aso_cellnames.specs.Names.{texts}
use Rattle.aso_cellnames.proofs.labels.cell_names.Given as goal

abbrev pub invariant-loop-dim : goal.invariant-loop-dim
invariant-loop-dim l = texts l.names.items ≡ map (λ d. slice_index_or (leaf_names (dim_at l.outline d)) (slice_index l.key d) []) (range_with_len 0 l.dim)
