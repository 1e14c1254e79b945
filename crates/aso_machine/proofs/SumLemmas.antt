-- The cells of a record, one by one, as sums take them.
use Rattle.std.proofs.Common.{◌≡◌, ℕ, ◌+◌, ◌<◌, true, List, [], ◌∷◌, ◌++◌, length, take, get_or, map, sym, subst, ◌∙◌, ap, arith}
use Rattle.std.specs.List.{list_all}
use Rattle.std.proofs.lemmas.Bool.{true_from_ne_false, true≢false}
use Rattle.std.proofs.lemmas.List.{map_more}
use Rattle.std.proofs.lemmas.List.Folds.{list_all_at}
use Rattle.std.proofs.lemmas.Option.{get_or_from_slice_get, slice_get_within}
use Rattle.aso_catalog.specs.declared.record.LeafCell.{LeafCell}
use Rattle.aso_outline.specs.declared.draft.Draft.{Draft}
use Rattle.aso_outline.specs.Classes.{leaf_count}
use Rattle.aso_spec.specs.Cells.{Key}
use Rattle.aso_cellnames.specs.Leaves.{are_leaves, leaf_counts}
use Rattle.aso_cellnames.proofs.FirstLeaves.{leaf_below, leaves_long}
use Rattle.aso_sums.specs.Summing.{AreLeaves}
use Rattle.aso_machine.specs.State.{entry, is_cell_of}

pub are_a_cells : (o : Draft) (key : Key) → are_leaves (leaf_counts o) key ≡ true → AreLeaves o key
are_a_cells o key are = record {
  long = leaves_long o key are;
  leaves = λ d leaf at. subst (λ (x : ℕ). x < leaf_count o d) (get_or_from_slice_get key d leaf 0 at)
      (leaf_below o key d are (omega (arith, slice_get_within key d leaf at, leaves_long o key are)));
}

-- a cell of those that all are cells of the outline
pub cell_there : (counts : List ℕ) (cells : List LeafCell) (i : ℕ) (c : LeafCell) → list_all (λ (c : LeafCell). is_cell_of counts (entry c)) cells ≡ true → i < length cells → c ≡ get_or cells i c → is_cell_of counts (entry c) ≡ true
cell_there counts cells i c all within is =
    let test = λ (c : LeafCell). is_cell_of counts (entry c) in
    true_from_ne_false (test c) (λ no. true≢false (sym all ∙ list_all_at test cells i c within (ap test (sym is) ∙ no)))

-- one cell more
pub entries_more : (cells : List LeafCell) (i : ℕ) (c : LeafCell) → i < length cells → c ≡ get_or cells i c → map entry (take i cells) ++ entry c ∷ [] ≡ map entry (take (i + 1) cells)
entries_more cells i c within is =
    ap (λ (d : LeafCell). map entry (take i cells) ++ entry d ∷ []) is ∙ sym (map_more entry cells i c within)
