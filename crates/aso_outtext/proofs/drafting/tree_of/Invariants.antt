use Rattle.std.proofs.Common.{◌≡◌, map}
use Rattle.std.specs.List.{range_with_len}
use Rattle.aso_spec.specs.Drafts.{member_of, depths_of}
use Rattle.aso_outtext.specs.Tables.{line_of}
use Rattle.aso_outtext.proofs.DraftLemmas.{IsTable}
use Rattle.aso_outtext.proofs.drafting.tree_of.Given as goal

abbrev pub invariant-loop-i : goal.invariant-loop-i
invariant-loop-i l = record {
  members : l.members.items ≡ map (member_of (map line_of l.lines)) (range_with_len 0 l.i);
  table : IsTable (depths_of (map line_of l.lines)) l.last.items l.i;
}
