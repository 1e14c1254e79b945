use Rattle.std.proofs.Common.{◌≡◌, ◌∙◌, ◌+◌, ◌<◌, ◌≤◌, Some, ap, arith, length, subst, sym}
use Rattle.std.specs.Prelude.{slice_get}
use Rattle.std.proofs.lemmas.Option.{slice_get_within}
use Rattle.aso_outline.specs.declared.seat.Seat.{Seat}
use Rattle.aso_outline.specs.declared.seat.Seat.TheVariants.{Whole, Inner, Carried}
use Rattle.aso_outline.specs.Members.{seats}
use Rattle.aso_outline.specs.Numbers.{IsSeat}
use Rattle.aso_outline.proofs.NumberLemmas.{number_carried, number_inner, number_whole}
use Rattle.aso_outline.proofs.outline.Outline.number.Goals as goal

pub overflow_add-result : goal.overflow_add-result
overflow_add-result c =
    let o = c.args.self.now in
    let n = c.tree_table.result.now.first + c.in-Inner.at in
    let there : IsSeat o (Inner c.in-Inner.dim c.in-Inner.hier c.in-Inner.at) = subst (IsSeat o) c.in-Inner.is c.requires in
    let is : slice_get (seats o) n ≡ Some (Inner c.in-Inner.dim c.in-Inner.hier c.in-Inner.at) = number_inner o c.in-Inner.dim c.in-Inner.hier c.in-Inner.at n there.0 there.1 there.2 (omega (arith, c.tree_table.ensures.first)) in
    let low : n < length (seats o) = slice_get_within (seats o) n _ is in
    let few : length (seats o) ≤ 1048576 = c.keeps_counts.ensures.few_members in
    omega (arith, low, few)

pub overflow_add-result-in-Carried : goal.overflow_add-result-in-Carried
overflow_add-result-in-Carried c =
    let o = c.args.self.now in
    let n = c.attr_table.result.now.first + c.in-Carried.at in
    let there : IsSeat o (Carried c.in-Carried.attr c.in-Carried.at) = subst (IsSeat o) c.in-Carried.is c.requires in
    let is : slice_get (seats o) n ≡ Some (Carried c.in-Carried.attr c.in-Carried.at) = number_carried o c.in-Carried.attr c.in-Carried.at n there.0 there.1 (omega (arith, c.attr_table.ensures.first)) in
    let low : n < length (seats o) = slice_get_within (seats o) n _ is in
    let few : length (seats o) ≤ 1048576 = c.keeps_counts.ensures.few_members in
    omega (arith, low, few)

pub returns-in-Whole : goal.returns-in-Whole
returns-in-Whole c =
    let o = c.args.self.now in
    let there : IsSeat o (Whole c.in-Whole.dim) = subst (IsSeat o) c.in-Whole.is c.requires in
    number_whole o c.in-Whole.dim c.dim_table.result.now.first there.0 there.1 c.dim_table.ensures.first ∙ ap (λ (s : Seat). Some s) (sym c.in-Whole.is)

pub returns-in-Inner : goal.returns-in-Inner
returns-in-Inner c =
    let o = c.args.self.now in
    let n = c.tree_table.result.now.first + c.in-Inner.at in
    let there : IsSeat o (Inner c.in-Inner.dim c.in-Inner.hier c.in-Inner.at) = subst (IsSeat o) c.in-Inner.is c.requires in
    number_inner o c.in-Inner.dim c.in-Inner.hier c.in-Inner.at n there.0 there.1 there.2 (omega (arith, c.tree_table.ensures.first)) ∙ ap (λ (s : Seat). Some s) (sym c.in-Inner.is)

pub returns-in-Carried : goal.returns-in-Carried
returns-in-Carried c =
    let o = c.args.self.now in
    let n = c.attr_table.result.now.first + c.in-Carried.at in
    let there : IsSeat o (Carried c.in-Carried.attr c.in-Carried.at) = subst (IsSeat o) c.in-Carried.is c.requires in
    number_carried o c.in-Carried.attr c.in-Carried.at n there.0 there.1 (omega (arith, c.attr_table.ensures.first)) ∙ ap (λ (s : Seat). Some s) (sym c.in-Carried.is)
