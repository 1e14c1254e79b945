use Rattle.std.proofs.Common.{◌∙◌, ℕ, ap, arith, map, max, sym}
use Rattle.std.specs.List.{range_with_len}
use Rattle.aso_tree.specs.Trees.{greatest}
use Rattle.aso_tree.proofs.Paths.{greatest_push}
use Rattle.aso_outline.specs.Heights.{root_height}
use Rattle.aso_outline.proofs.outline.Outline.greatest_root.Goals as goal

pub loop-hier-preserved : goal.loop-hier-preserved
loop-hier-preserved c =
    let f : ℕ → ℕ = root_height c.args.self.now c.args.dim in
    let h = c.loop-hier.hier in
    record {
      value = c.larger-height.ensures ∙ (ap (λ (k : ℕ). max k c.root_height.result) c.loop-hier.invariant.value ∙ (ap (λ (k : ℕ). max (greatest (map f (range_with_len 0 h))) k) c.root_height.ensures.value ∙ sym (greatest_push f 0 h h (omega arith))));
      bound = omega (arith, c.larger-height.ensures, c.loop-hier.invariant.bound, c.root_height.ensures.bound);
    }
