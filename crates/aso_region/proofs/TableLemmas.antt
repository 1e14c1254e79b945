-- What the tables of classes have at a place, and what a leaf without a class isn't held by.
use Rattle.std.specs.Prelude.{is_some, slice_get, unwrap_or, if◌then◌else◌}
use Rattle.std.specs.Option.{option_map, option_and_then}
use Rattle.std.specs.List.{range_with_len}
use Rattle.std.proofs.Common.{◌≡◌, ◌∙◌, ℕ, ◌<◌, ◌≤◌, Bool, true, false, List, [], length, map, Option, Some, None, refl, sym, ap, arith, true≢false}
use Rattle.std.proofs.lemmas.Bool.{and_from}
use Rattle.aso_tree.specs.Trees.{class_of, height, is_under}
use Rattle.aso_tree.proofs.Classes.{has_class}
use Rattle.aso_tree.proofs.Heights.{leaf_height}
use Rattle.aso_outline.specs.declared.draft.Draft.{Draft}
use Rattle.aso_outline.specs.declared.seat.Seat.{Seat}
use Rattle.aso_outline.specs.declared.seat.Seat.TheVariants.{Inner}
use Rattle.aso_outline.specs.Classes.{class_at, leaf_count, leaf_place}
use Rattle.aso_outline.specs.Members.{dim_at, holds, is_dynamic, parents_of, resolve, tree}
use Rattle.aso_outline.specs.Parents.{one_parent_each}
use Rattle.aso_outline.specs.Rules.{broken}
use Rattle.aso_outline.proofs.ClassLemmas.{class_high, leaf_place_alternate, sharer_is_leaf}
use Rattle.aso_outline.proofs.HoldLemmas.{held, holds_resolved}
use Rattle.aso_outline.proofs.Kept.{has_trees}
use Rattle.aso_outline.proofs.LeafRows.{place_within}
use Rattle.aso_outline.proofs.NumberLemmas.{map_get}
use Rattle.aso_outline.proofs.Rooted.{kept_names, kept_sharing, kept_trees}
use Rattle.aso_region.specs.declared.chosen.Chosen.{Chosen}
use Rattle.aso_region.specs.Kept.{class_in, has_table, is_needed, table_of, tables_for, tables_in}

module _ (o : Draft) (d h leaf : ℕ) (low : d < length o.dims) (there : h < length (dim_at o d).hiers) (below : leaf < leaf_count o d) where
  pub class_there : (rows : List (List Chosen)) → has_table o d h ≡ true → is_needed rows d h ≡ true → class_in (tables_for o rows) d h leaf ≡ class_at o d h 1 leaf
  class_there rows has needed =
      let classes : List (Option ℕ) = map (class_at o d h 1) (range_with_len 0 (leaf_count o d)) in
      let in_table : List (Option ℕ) → Option ℕ = λ cs. option_and_then (λ (c : Option ℕ). c) (slice_get cs leaf) in
      let in_dim : List (List (Option ℕ)) → Option ℕ = λ hs. option_and_then in_table (slice_get hs h) in
      ap (option_and_then in_dim) (map_get (tables_in o rows) (length o.dims) d low)
      ∙ (ap (option_and_then in_table) (map_get (table_of o rows d) (length (dim_at o d).hiers) h there)
      ∙ (ap (λ (b : Bool). in_table (if b then classes else [])) (and_from (has_table o d h) (is_needed rows d h) has needed)
      ∙ ap (option_and_then (λ (c : Option ℕ). c)) (map_get (class_at o d h 1) (leaf_count o d) leaf below)))

  -- a leaf that has no class in a stored hierarchy behind the first isn't held there
  module _ (kept : broken o ≡ None) (alternate : 0 < h) (stored : is_dynamic o (Inner d h 0) ≡ false) (none : class_at o d h 1 leaf ≡ None) where
    no_place : (x : Option ℕ) → leaf_place o d h leaf ≡ x → (i : ℕ) → unwrap_or (option_map (is_under (parents_of (tree (dim_at o d) h)) i) x) false ≡ false
    no_place None is i = refl
    no_place (Some p) is i =
        let ps : List ℕ = parents_of (tree (dim_at o d) h) in
        let some : 1 ≤ length (dim_at o d).hiers = (kept_trees o kept).some_hier d low in
        let within : p < length ps = omega (arith, place_within o (kept_names o kept) (kept_sharing o kept) d low (omega (arith, some)) leaf below h p is, one_parent_each (tree (dim_at o d) h)) in
        let leaf_there = sharer_is_leaf o (kept_sharing o kept) d h leaf p (sym is ∙ leaf_place_alternate o d h leaf alternate) in
        let level : height ps p ≡ 0 = leaf_height ps ((has_trees o kept).tree (Inner d h 0)) p within leaf_there in
        let class : class_of ps 1 p ≡ None = sym (class_high o d h 1 leaf (omega arith) ∙ ap (option_and_then (class_of ps 1)) is) ∙ none in
        absurd (true≢false (sym (has_class ps 1 p p (omega arith) within (omega (arith, level))) ∙ ap is_some class))

    pub not_held : (s : Seat) (i : ℕ) → resolve o s ≡ Inner d h i → holds o s leaf ≡ false
    not_held s i is =
        let some : 1 ≤ length (dim_at o d).hiers = (kept_trees o kept).some_hier d low in
        holds_resolved o s leaf d h i is
        ∙ (held o (kept_names o kept) (kept_sharing o kept) d low leaf below (omega (arith, some)) h i there (λ _. stored)
        ∙ no_place (leaf_place o d h leaf) refl i)
