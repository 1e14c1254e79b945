use Rattle.std.proofs.Common.{◌≡◌, ◌∙◌, ◌++◌, ◌∷◌, [], List, ℕ, ap, arith, get_or, map, rules, sym}
use Rattle.std.specs.Borrow.{Bor}
use Rattle.std.specs.List.{range_with_len}
use Rattle.std.proofs.lemmas.List.{map-append}
use Rattle.aso_tree.proofs.Paths.{map_push}
use Rattle.aso_outline.specs.Members.{dim_at, leaf_names}
use Rattle.aso_cellnames.specs.Names.{texts}
use Rattle.aso_cellnames.proofs.FirstLeaves.{leaf_below, leaves_long}
use Rattle.aso_cellnames.proofs.labels.cell_names.Goals as goal

pub bounds-key-dim : goal.bounds-key-dim
bounds-key-dim c = omega (arith, leaves_long c.args.outline.now c.args.key.now c.requires, c.dims-dim-end.ensures, c.loop-dim-test.true)

pub leaf_name-requires-clause-leaf : goal.leaf_name-requires-clause-leaf
leaf_name-requires-clause-leaf c = leaf_below c.args.outline.now c.args.key.now c.loop-dim.dim c.requires (omega (arith, c.dims-dim-end.ensures, c.loop-dim-test.true))

pub loop-dim-preserved : goal.loop-dim-preserved
loop-dim-preserved c =
    let o = c.args.outline.now in
    let key = c.args.key.now in
    let f : ℕ → List ℕ = λ d. get_or (leaf_names (dim_at o d)) (get_or key d 0) [] in
    let pushed : c.push.new.self.items ≡ c.loop-dim.names.items ++ c.leaf_name.result ∷ [] = search rules in
    ap texts pushed ∙ map-append (λ (x : Bor (List ℕ)). x.now) c.loop-dim.names.items (c.leaf_name.result ∷ []) ∙ ap (λ (xs : List (List ℕ)). xs ++ c.leaf_name.result.now ∷ []) c.loop-dim.invariant
    ∙ ap (λ (x : List ℕ). map f (range_with_len 0 c.loop-dim.dim) ++ x ∷ []) c.leaf_name.ensures ∙ sym (map_push f c.loop-dim.dim)
