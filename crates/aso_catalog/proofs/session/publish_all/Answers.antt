use Rattle.std.proofs.Common.{◌≡◌, ℕ, List, [], Some, map, get_or, inl, inr, ⊎_elim, refl, sym, ◌∙◌, ap, subst, arith, ◌+◌, ◌-◌}
use Rattle.aso_catalog.specs.View.{HasRecord}
use Rattle.aso_catalog.specs.Image.{IsBody}
use Rattle.aso_catalog.proofs.Views.{throughout_nothing, throughout_then, throughout_weaker, ith_body, is_one_of, settled_since}
use Rattle.aso_catalog.proofs.session.publish_all.Goals as goal

pub loop-body-init : goal.loop-body-init
loop-body-init g c = record {
  told = refl;
  layout = omega arith;
  holds = λ some. absurd (omega arith);
  later = omega arith;
  same = g.met.C.Slots.same_refl c.args.catalog.now.slots;
  covers = λ x is. inl is;
  any_moment = throughout_weaker c.args.catalog.now c.args.catalog.now _ _ (throughout_nothing c.args.catalog.now) (λ x e. inl e);
}

pub publish-requires : goal.publish-requires
publish-requires g c = λ less.
    let so_far = c.loop-body.invariant in
    let body = ith_body c.args.bodies.now c.loop-body.body-index c.body-item.result c.deref.result.now c.loop-body-test.true c.body-item.is c.deref.ensures.value in
    let at : c.args.catalog.now.layout + 1 + c.loop-body.body-index ≡ c.loop-body.catalog.layout + 1 = omega (arith, so_far.layout) in
    subst (λ n. IsBody n c.deref.result.now) at (subst (λ b. IsBody (c.args.catalog.now.layout + 1 + c.loop-body.body-index) b) body (c.requires c.loop-body.body-index c.loop-body-test.true))

pub returns-in_err-publish-clause-told : goal.returns-in_err-publish-clause-told
returns-in_err-publish-clause-told g c = c.publish.ensures.told ∙ c.loop-body.invariant.told

pub returns-in_err-publish-clause-any_moment : goal.returns-in_err-publish-clause-any_moment
returns-in_err-publish-clause-any_moment g c =
    let so_far = c.loop-body.invariant in
    throughout_then c.args.catalog.now c.loop-body.catalog c.publish.new.self _ _ _ so_far.any_moment c.publish.ensures.any_moment (λ x is. is)
    (λ x. ⊎_elim (so_far.covers x) (λ one. inr (is_one_of c.args.bodies.now c.loop-body.body-index c.body-item.result c.deref.result.now c.loop-body-test.true c.body-item.is c.deref.ensures.value x one)))

pub returns-in_err-publish-clause-same : goal.returns-in_err-publish-clause-same
returns-in_err-publish-clause-same g c = g.met.C.Slots.same_trans c.args.catalog.now.slots c.loop-body.catalog.slots c.publish.new.self.slots c.loop-body.invariant.same c.publish.ensures.same

pub returns-clause-told : goal.returns-clause-told
returns-clause-told g c = c.loop-body.invariant.told

pub loop-body-preserved : goal.loop-body-preserved
loop-body-preserved g c =
    let so_far = c.loop-body.invariant in
    let published = c.in_ok-publish.ensures in
    let told = published.told ∙ so_far.told in
    record {
      told = told;
      layout = omega (arith, so_far.layout, published.layout);
      holds = λ some.
          let body = ith_body c.args.bodies.now c.loop-body.body-index c.body-item.result c.deref.result.now c.loop-body-test.true c.body-item.is c.deref.ensures.value in
          let last : c.loop-body.body-index + 1 - 1 ≡ c.loop-body.body-index = omega arith in
          let is : get_or (map (λ v. v.items) c.args.bodies.now) (c.loop-body.body-index + 1 - 1) [] ≡ c.deref.result.now = ap (λ (k : ℕ). get_or (map (λ v. v.items) c.args.bodies.now) k []) last ∙ body in
          subst (λ (b : List ℕ). HasRecord c.publish.new.self (Some b)) (sym is) published.published;
      later = omega (arith, so_far.later, published.later);
      same = g.met.C.Slots.same_trans c.args.catalog.now.slots c.loop-body.catalog.slots c.publish.new.self.slots so_far.same published.same;
      covers = λ x is. ⊎_elim (λ before. inl before) (λ one. inr (is_one_of c.args.bodies.now c.loop-body.body-index c.body-item.result c.deref.result.now c.loop-body-test.true c.body-item.is c.deref.ensures.value x one))
          (settled_since c.args.catalog.now c.publish.new.self c.deref.result.now x told published.published published.settled is);
      any_moment = throughout_then c.args.catalog.now c.loop-body.catalog c.publish.new.self _ _ _ so_far.any_moment c.publish.ensures.any_moment (λ x is. is)
          (λ x. ⊎_elim (so_far.covers x) (λ one. inr (is_one_of c.args.bodies.now c.loop-body.body-index c.body-item.result c.deref.result.now c.loop-body-test.true c.body-item.is c.deref.ensures.value x one)));
    }
