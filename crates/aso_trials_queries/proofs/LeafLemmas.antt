-- The leaves of a cell that names name are leaves to which sums are added.
use Rattle.std.proofs.Common.{◌≡◌, ◌<◌, ℕ, List, length, true, subst}
use Rattle.std.proofs.lemmas.Option.{slice_get_within, get_or_from_slice_get}
use Rattle.aso_outline.specs.declared.draft.Draft.{Draft}
use Rattle.aso_outline.specs.Classes.{leaf_count}
use Rattle.aso_cellnames.specs.Leaves.{are_leaves, leaf_counts}
use Rattle.aso_cellnames.proofs.FirstLeaves.{leaves_long, leaf_below}
use Rattle.aso_sums.specs.Summing.{AreLeaves}

pub key_leaves : (o : Draft) (key : List ℕ) → are_leaves (leaf_counts o) key ≡ true → AreLeaves o key
key_leaves o key h = record {
  long = leaves_long o key h;
  leaves = λ d leaf e.
      let low : d < length o.dims = subst (λ (n : ℕ). d < n) (leaves_long o key h) (slice_get_within key d leaf e) in
      subst (λ (x : ℕ). x < leaf_count o d) (get_or_from_slice_get key d leaf 0 e) (leaf_below o key d h low);
}
