use Rattle.std.proofs.Common.{◌≡◌, ◌∙◌, ◌++◌, List, ℕ, OnOk, sym, ap, subst}
use Rattle.aso_outline.specs.declared.seat.Seat.{Seat}
use Rattle.aso_outline.specs.Numbers.{IsNumberOf, IsSeat}
use Rattle.aso_outline.specs.Ranks.{children}
use Rattle.aso_outline.proofs.ChildNumbers.{carried_children, carried_fits, inner_children, inner_fits}
use Rattle.aso_outline.proofs.outline.Outline.push_children.Goals as goal

pub push_nodes-requires-clause-fits : goal.push_nodes-requires-clause-fits
push_nodes-requires-clause-fits c =
    let o = c.args.self.now in
    let t = c.tree_table-table.result.now in
    inner_fits o c.args._m t.first t.forest c.in-Inner.dim c.in-Inner.hier c.in-Inner.at
    (subst (λ (s : Seat). IsSeat o s) c.in-Inner.is c.requires.there) c.keeps_counts.ensures.few_members c.tree_table-table.ensures.first c.tree_table-table.ensures.forest

pub push_nodes-requires-in-Carried-clause-fits : goal.push_nodes-requires-in-Carried-clause-fits
push_nodes-requires-in-Carried-clause-fits c =
    let o = c.args.self.now in
    let t = c.attr_table-table.result.now in
    carried_fits o c.args._m t.first t.forest c.in-Carried.attr c.in-Carried.at
    (subst (λ (s : Seat). IsSeat o s) c.in-Carried.is c.requires.there) c.keeps_counts.ensures.few_members c.attr_table-table.ensures.first c.attr_table-table.ensures.forest

pub returns-in-Inner : goal.returns-in-Inner
returns-in-Inner c =
    let o = c.args.self.now in
    let t = c.tree_table-table.result.now in
    subst (λ (all : List ℕ). OnOk c.push_nodes.result (c.push_nodes.new.numbers.items ≡ c.args.numbers.now.items ++ all))
    (inner_children o c.args._m t.first t.forest c.in-Inner.dim c.in-Inner.hier c.in-Inner.at
    (subst (λ (s : Seat). IsNumberOf o s c.args._m) c.in-Inner.is c.requires.number) c.tree_table-table.ensures.first c.tree_table-table.ensures.forest
    ∙ ap (children o c.args._m) (sym c.in-Inner.is))
    c.push_nodes.ensures

pub returns-in-Carried : goal.returns-in-Carried
returns-in-Carried c =
    let o = c.args.self.now in
    let t = c.attr_table-table.result.now in
    subst (λ (all : List ℕ). OnOk c.push_nodes-in-Carried.result (c.push_nodes-in-Carried.new.numbers.items ≡ c.args.numbers.now.items ++ all))
    (carried_children o c.args._m t.first t.forest c.in-Carried.attr c.in-Carried.at
    (subst (λ (s : Seat). IsNumberOf o s c.args._m) c.in-Carried.is c.requires.number) c.attr_table-table.ensures.first c.attr_table-table.ensures.forest
    ∙ ap (children o c.args._m) (sym c.in-Carried.is))
    c.push_nodes-in-Carried.ensures
