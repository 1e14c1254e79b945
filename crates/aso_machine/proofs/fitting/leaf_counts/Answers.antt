use Rattle.std.proofs.Common.{◌≡◌, ◌∙◌, ◌++◌, ◌∷◌, [], ℕ, List, length, map, ap, sym, arith, rules}
use Rattle.std.specs.List.{range_with_len}
use Rattle.aso_tree.proofs.Paths.{map_push}
use Rattle.aso_outline.specs.Members.{data_leaves, dim_at}
use Rattle.aso_machine.proofs.fitting.leaf_counts.Goals as goal

pub loop-dim-preserved : goal.loop-dim-preserved
loop-dim-preserved c =
    let f : ℕ → ℕ = λ d. length (data_leaves (dim_at c.args.outline.now d)) in
    let pushed : c.push.new.self.items ≡ c.loop-dim.counts.items ++ c.leaf_count.result ∷ [] = search rules in
    pushed ∙ ap (λ (xs : List ℕ). xs ++ c.leaf_count.result ∷ []) c.loop-dim.invariant ∙ ap (λ (x : ℕ). map f (range_with_len 0 c.loop-dim.dim) ++ x ∷ []) c.leaf_count.ensures ∙ sym (map_push f c.loop-dim.dim)

pub returns : goal.returns
returns c =
    let f : ℕ → ℕ = λ d. length (data_leaves (dim_at c.args.outline.now d)) in
    let all : c.loop-dim.dim ≡ length c.args.outline.now.dims = omega (arith, c.dims-dim-end.ensures, c.loop-dim-test.false, c.loop-dim.auto.dim-end) in
    c.loop-dim.invariant ∙ ap (λ n. map f (range_with_len 0 n)) all
