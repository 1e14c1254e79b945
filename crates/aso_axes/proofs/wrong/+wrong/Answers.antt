use Rattle.std.specs.Prelude.{IfOk}
use Rattle.std.specs.Option.{option_map}
use Rattle.std.proofs.Common.{◌≡◌, ◌∙◌, ◌-◌, ◌++◌, List, Option, length, sym, subst, ap, arith}
use Rattle.aso_outline.specs.declared.seat.DimRef.{DimRef}
use Rattle.aso_outline.specs.Members.{Name}
use Rattle.aso_mdx.specs.declared.query.SetText.{SetText}
use Rattle.aso_mdx.specs.declared.query.SetText.TheVariants.{Member, Children, Members, Descendants, Leaves, Crossjoin}
use Rattle.aso_axes.specs.declared.part.Part.TheVariants as part
use Rattle.aso_axes.specs.Sets.{Path, said_of, said_of_member, wrong_member}
use Rattle.aso_axes.proofs.SetSteps.{crossing_later, said_children, said_descendants, said_leaves, said_member, said_members, wrong_by}
use Rattle.aso_axes.proofs.WrongLemmas.{item_found, item_later, none_left, some_mapped}
use Rattle.aso_axes.proofs.wrong.+wrong.Goals as goal

pub wrong_items-returns-then-is_some : goal.wrong_items-returns-then-is_some
wrong_items-returns-then-is_some t c =
    let o = c.args.outline.now in
    let own = c.args.own.now in
    sym (item_found o own (said_of o own c.args.purpose) c.args.before.now c.args.wanted.now c.args.items.now c.loop-at.at c.index-items-at.result (omega (arith, c.loop-at-test.true)) c.index-items-at.is
    (option_map (λ s. s.now) c.in_ok-found.found) c.in_ok-found.ensures (some_mapped (λ s. s.now) c.in_ok-found.found _ (sym c.is_some.ensures ∙ c.if-is_some.true)))
    ∙ c.loop-at.invariant

pub wrong_items-loop-at-preserved : goal.wrong_items-loop-at-preserved
wrong_items-loop-at-preserved t c =
    let o = c.args.outline.now in
    let own = c.args.own.now in
    item_later o own (said_of o own c.args.purpose) c.args.before.now c.args.wanted.now c.args.items.now c.loop-at.at c.index-items-at.result (omega (arith, c.loop-at-test.true)) c.index-items-at.is
    (option_map (λ s. s.now) c.in_ok-found.found) c.in_ok-found.ensures (some_mapped (λ s. s.now) c.in_ok-found.found _ (sym c.is_some.ensures ∙ c.if-is_some.false))
    ∙ c.loop-at.invariant

pub wrong_items-returns : goal.wrong_items-returns
wrong_items-returns t c =
    let o = c.args.outline.now in
    let own = c.args.own.now in
    sym (none_left o own (said_of o own c.args.purpose) c.args.before.now c.args.wanted.now c.args.items.now c.loop-at.at (omega (arith, c.loop-at-test.false))) ∙ c.loop-at.invariant

pub wrong_in-returns-in-Member : goal.wrong_in-returns-in-Member
wrong_in-returns-in-Member t c =
    let o = c.args.outline.now in
    let own = c.args.own.now in
    let u = c.args.purpose in
    let w : Option (List DimRef) = option_map (λ w. w.now) c.args.wanted in
    subst (λ (n : Option Name). IfOk c.wrong_member.result (λ found. option_map (λ s. s.now) found ≡ n))
    (ap (λ (p : Path). wrong_member o own u part.Itself p c.args.before.now w) c.items.ensures
    ∙ wrong_by o own u c.args.set.now (Member c.in-Member.path) (said_of_member o own u part.Itself c.in-Member.path) c.in-Member.is (said_member o own u c.in-Member.path) c.args.before.now w) c.wrong_member.ensures

pub wrong_in-returns-in-Children : goal.wrong_in-returns-in-Children
wrong_in-returns-in-Children t c =
    let o = c.args.outline.now in
    let own = c.args.own.now in
    let u = c.args.purpose in
    let w : Option (List DimRef) = option_map (λ w. w.now) c.args.wanted in
    subst (λ (n : Option Name). IfOk c.wrong_member-in-Children.result (λ found. option_map (λ s. s.now) found ≡ n))
    (ap (λ (p : Path). wrong_member o own u part.Children p c.args.before.now w) c.items-in-Children.ensures
    ∙ wrong_by o own u c.args.set.now (Children c.in-Children.path) (said_of_member o own u part.Children c.in-Children.path) c.in-Children.is (said_children o own u c.in-Children.path) c.args.before.now w) c.wrong_member-in-Children.ensures

pub wrong_in-returns-in-Members : goal.wrong_in-returns-in-Members
wrong_in-returns-in-Members t c =
    let o = c.args.outline.now in
    let own = c.args.own.now in
    let u = c.args.purpose in
    let w : Option (List DimRef) = option_map (λ w. w.now) c.args.wanted in
    subst (λ (n : Option Name). IfOk c.wrong_member-in-Members.result (λ found. option_map (λ s. s.now) found ≡ n))
    (ap (λ (p : Path). wrong_member o own u part.Members p c.args.before.now w) c.items-in-Members.ensures
    ∙ wrong_by o own u c.args.set.now (Members c.in-Members.path) (said_of_member o own u part.Members c.in-Members.path) c.in-Members.is (said_members o own u c.in-Members.path) c.args.before.now w) c.wrong_member-in-Members.ensures

pub wrong_in-returns-in-Descendants : goal.wrong_in-returns-in-Descendants
wrong_in-returns-in-Descendants t c =
    let o = c.args.outline.now in
    let own = c.args.own.now in
    let u = c.args.purpose in
    let w : Option (List DimRef) = option_map (λ w. w.now) c.args.wanted in
    subst (λ (n : Option Name). IfOk c.wrong_member-in-Descendants.result (λ found. option_map (λ s. s.now) found ≡ n))
    (ap (λ (p : Path). wrong_member o own u part.Descendants p c.args.before.now w) c.items-in-Descendants.ensures
    ∙ wrong_by o own u c.args.set.now (Descendants c.in-Descendants.path) (said_of_member o own u part.Descendants c.in-Descendants.path) c.in-Descendants.is (said_descendants o own u c.in-Descendants.path) c.args.before.now w) c.wrong_member-in-Descendants.ensures

pub wrong_in-returns-in-Leaves : goal.wrong_in-returns-in-Leaves
wrong_in-returns-in-Leaves t c =
    let o = c.args.outline.now in
    let own = c.args.own.now in
    let u = c.args.purpose in
    let w : Option (List DimRef) = option_map (λ w. w.now) c.args.wanted in
    subst (λ (n : Option Name). IfOk c.wrong_member-in-Leaves.result (λ found. option_map (λ s. s.now) found ≡ n))
    (ap (λ (p : Path). wrong_member o own u part.Leaves p c.args.before.now w) c.items-in-Leaves.ensures
    ∙ wrong_by o own u c.args.set.now (Leaves c.in-Leaves.path) (said_of_member o own u part.Leaves c.in-Leaves.path) c.in-Leaves.is (said_leaves o own u c.in-Leaves.path) c.args.before.now w) c.wrong_member-in-Leaves.ensures

pub wrong_in-returns-in_ok-named-in-Crossjoin : goal.wrong_in-returns-in_ok-named-in-Crossjoin
wrong_in-returns-in_ok-named-in-Crossjoin t c =
    let o = c.args.outline.now in
    let own = c.args.own.now in
    let u = c.args.purpose in
    let before : List DimRef = c.args.before.now in
    let w : Option (List DimRef) = option_map (λ w. w.now) c.args.wanted in
    let rest : Option (List DimRef) = option_map (λ w. w.now) c.past-wanted.result in
    let named : List DimRef = c.as_slice-in-Crossjoin.result.now in
    let found : Option Name = option_map (λ s. s.now) c.in_ok-found-in-Crossjoin.found in
    let is : found ≡ (said_of o own u c.in-Crossjoin.left).wrong before w = c.in_ok-found-in-Crossjoin.ensures ∙ ap (λ (s : SetText). (said_of o own u s).wrong before w) c.get.ensures in
    let kept : c.in_ok-named-in-Crossjoin.named.items ≡ before ++ (said_of o own u c.in-Crossjoin.left).dims = c.in_ok-named-in-Crossjoin.ensures ∙ ap (λ (s : SetText). before ++ (said_of o own u s).dims) c.get-in-Crossjoin.ensures in
    subst (λ (n : Option Name). IfOk c.wrong_in-in-Crossjoin.result (λ found. option_map (λ s. s.now) found ≡ n))
    (ap (λ (s : SetText). (said_of o own u s).wrong named rest) c.get-in-Crossjoin-2.ensures
    ∙ (crossing_later o own u c.in-Crossjoin.left c.in-Crossjoin.right before w found named _ rest is (some_mapped (λ s. s.now) c.in_ok-found-in-Crossjoin.found _ (sym c.is_some.ensures ∙ c.if-is_some.false))
    (c.as_slice-in-Crossjoin.ensures.value ∙ kept) c.past-wanted.ensures (omega (arith, c.len.ensures, ap length c.as_slice-in-Crossjoin.ensures.value))
    ∙ ap (λ (s : SetText). (said_of o own u s).wrong before w) (sym c.in-Crossjoin.is))) c.wrong_in-in-Crossjoin.ensures
