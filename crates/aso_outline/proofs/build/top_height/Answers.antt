use Rattle.std.proofs.Common.{◌∙◌, ℕ, Bool, cond, max, not, sym, ap}
use Rattle.aso_tree.specs.Trees.{height}
use Rattle.aso_outline.specs.Members.{member_is, parents_of}
use Rattle.aso_outline.proofs.TableLemmas.{greatest_more}
use Rattle.aso_outline.proofs.build.top_height.Goals as goal

pub loop-place-preserved : goal.loop-place-preserved
loop-place-preserved c =
    let ms = c.args.members.now in
    let f : ℕ → ℕ = height (parents_of ms) in
    let p : ℕ → Bool = member_is (λ m. not m.label_only) ms in
    let n = c.loop-place.place in
    c.raised-top.ensures ∙ (ap (λ (k : ℕ). cond (p n) (max k (f n)) k) c.loop-place.invariant ∙ sym (greatest_more f p n))
