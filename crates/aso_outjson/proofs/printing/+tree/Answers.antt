use Rattle.std.proofs.Common.{◌≡◌, ◌∙◌, ◌+◌, ◌∷◌, [], Bool, true, false, Result, Ok, Err, IfOk, OnOk, arith, length, map, refl, sym, ap, subst, Some}
use Rattle.std.specs.Prelude.{slice_get}
use Rattle.std.proofs.lemmas.List.{map-append}
use Rattle.std.proofs.lemmas.Option.{slice_get_read}
use Rattle.serde_json.specs.View.{view}
use Rattle.aso_outjson.proofs.TreeSteps.{Walks, all_walked, goes_past, is_next, walk_begins, walk_ends, walk_goes}
use Rattle.aso_outjson.proofs.printing.+tree.Goals as goal

always : {A E : Type 0} {X : Type 0} (r : Result A E) → X → OnOk r X
always (Ok a) x = x
always (Err e) x = tt

pub loop-next-init : goal.loop-next-init
loop-next-init t c =
    subst (λ vs. Walks c.args.members.now c.args.next.now (map view vs) (c.args.next.now + 1)) (sym c.new-below.ensures.items)
    (walk_begins c.args.members.now c.requires.tree c.requires.short c.args.next.now c.requires.there (c.args.next.now + 1) refl)

pub loop-next-smaller : goal.loop-next-smaller
loop-next-smaller t c =
    let is : is_next c.args.members.now c.args.next.now c.loop-next.next ≡ true = sym c.is_child.ensures ∙ c.loop-next-test.true in
    let past = goes_past c.args.members.now c.requires.tree c.requires.short c.args.next.now c.requires.there c.loop-next.next is in
    omega (arith, past.0, past.1, c.in_ok-value.ensures.behind)

pub loop-next-preserved : goal.loop-next-preserved
loop-next-preserved t c =
    let is : is_next c.args.members.now c.args.next.now c.loop-next.next ≡ true = sym c.is_child.ensures ∙ c.loop-next-test.true in
    walk_goes c.args.members.now c.requires.tree c.requires.short c.args.next.now c.requires.there (map view c.loop-next.below.items) (map view c.push.new.self.items) c.loop-next.next c.tree.new.next (view c.in_ok-value.value)
    c.loop-next.invariant is c.in_ok-value.ensures.value c.in_ok-value.ensures.behind (ap (map view) c.in_ok-push.ensures.items ∙ map-append view c.loop-next.below.items (c.in_ok-value.value ∷ []))

pub returns-clause-value : goal.returns-clause-value
returns-clause-value t c =
    let none : is_next c.args.members.now c.args.next.now c.loop-next.next ≡ false = sym c.is_child.ensures ∙ c.loop-next-test.false in
    let there : slice_get c.args.members.now c.args.next.now ≡ Some c.index-members-at.result = slice_get_read c.args.members.now (length c.args.members.now) c.args.next.now c.index-members-at.result refl c.requires.there c.index-members-at.is in
    subst (λ d. IfOk c.member.result (λ v. view v ≡ d))
    (all_walked c.args.members.now c.requires.tree c.requires.short c.args.next.now c.requires.there (map view c.loop-next.below.items) c.loop-next.next c.index-members-at.result c.loop-next.invariant none there)
    c.member.ensures

pub returns-clause-behind : goal.returns-clause-behind
returns-clause-behind t c =
    let none : is_next c.args.members.now c.args.next.now c.loop-next.next ≡ false = sym c.is_child.ensures ∙ c.loop-next-test.false in
    always c.member.result (walk_ends c.args.members.now c.requires.tree c.requires.short c.args.next.now c.requires.there (map view c.loop-next.below.items) c.loop-next.next c.loop-next.invariant none)
