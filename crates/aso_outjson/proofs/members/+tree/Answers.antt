use Rattle.std.proofs.Common.{◌≡◌, ◌-◌, arith, length, rules, subst, sym}
use Rattle.serde_json.specs.Find.{as_array}
use Rattle.serde_json.specs.View.{view}
use Rattle.aso_outjson.specs.Fields.{joined}
use Rattle.aso_outjson.specs.Gives.{Adds}
use Rattle.aso_outjson.specs.Members.{tree_at}
use Rattle.aso_outjson.specs.Words.{capped}
use Rattle.aso_outjson.proofs.Founds.{array_is, tree_ends_at, tree_fails_at}
use Rattle.aso_outjson.proofs.members.+tree.Goals as goal

pub trees-returns-in-Some : goal.trees-returns-in-Some
trees-returns-in-Some t c =
    let old = c.args.members.now.items in
    subst (λ r. Adds c.each_tree.result old c.each_tree.new.members.items r)
    (sym (array_is c.in-Some.values.now (as_array (view c.args.value.now)) (joined (tree_at c.args.levels c.args.parent) 0 (length old)) c.in-Some.ensures))
    c.each_tree.ensures

pub tree_at-returns-in-Err : goal.tree_at-returns-in-Err
tree_at-returns-in-Err t c =
    let levels = c.args.levels in
    let old = c.args.members.now.items in
    let place : c.capped-at.result ≡ capped (length old) = search rules in
    tree_fails_at levels (levels - 1) c.args.parent c.capped-at.result old c.push.new.self.items c.in_ok-member.member (view c.args.value.now) c.in-Err.trouble
    (omega (arith, c.if-levels-eq0.false)) place c.in_ok-push.ensures.items c.in_ok-member.ensures c.in-Err.ensures

pub tree_at-returns-in-Ok : goal.tree_at-returns-in-Ok
tree_at-returns-in-Ok t c =
    let levels = c.args.levels in
    let old = c.args.members.now.items in
    let place : c.capped-at.result ≡ capped (length old) = search rules in
    tree_ends_at levels (levels - 1) c.args.parent c.capped-at.result old c.push.new.self.items c.in_ok-member.member (view c.args.value.now) c.no_others.result c.children.new.members.items
    (omega (arith, c.if-levels-eq0.false)) place c.in_ok-push.ensures.items c.in_ok-member.ensures c.in-Ok.ensures c.no_others.ensures
