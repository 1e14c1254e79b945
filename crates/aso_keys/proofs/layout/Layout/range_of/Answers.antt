use Rattle.std.proofs.Common.{◌≡◌, ◌∙◌, List, sym, ap}
use Rattle.std.specs.Prelude.{Some}
use Rattle.aso_keys.specs.declared.axis.Axis.{Axis}
use Rattle.aso_keys.specs.Axes.{range_in}
use Rattle.aso_keys.proofs.RangeLemmas.{held}
use Rattle.aso_keys.proofs.layout.Layout.range_of.Goals as goal

pub returns-clause-held : goal.returns-clause-held
returns-clause-held c o xs is =
    let has : range_in c.args.self.now c.args.dim c.args.member ≡ Some c.in-Some.range =
    sym (c.range_in.ensures ∙ ap (λ (l : List Axis). range_in l c.args.dim c.args.member) (c.items.ensures ∙ c.self.view_is)) ∙ c.in-Some.is in
    held o xs c.args.self.now c.args.dim c.args.member c.in-Some.range has is
