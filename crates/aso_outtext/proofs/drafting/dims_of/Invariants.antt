use Rattle.std.proofs.Common.{◌≡◌, ◌≤◌, ◌-◌, ◌++◌, map, length, drop}
use Rattle.aso_spec.specs.Drafts.{draft_dim, dims_of}
use Rattle.aso_outtext.specs.Tables.{line_of}
use Rattle.aso_outtext.proofs.drafting.dims_of.Given as goal

abbrev pub invariant-loop-at : goal.invariant-loop-at
invariant-loop-at l = record {
  dims : l.dims.items ++ map draft_dim (dims_of (map line_of (drop l.at l.members))) ≡ map draft_dim (dims_of (map line_of l.members));
  within : l.at ≤ length l.members;
}

abbrev pub decreases-loop-at : goal.decreases-loop-at
decreases-loop-at l = length l.members - l.at
