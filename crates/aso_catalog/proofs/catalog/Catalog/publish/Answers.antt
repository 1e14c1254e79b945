use Rattle.std.proofs.Common.{◌≡◌, ◌+◌, ◌-◌, ◌*◌, ◌∷◌, ◌++◌, [], length, inl, inr, ⊎_elim, true, refl, sym, ◌∙◌}
use Rattle.std.specs.Int.{to_be_bytes, w32}
use Rattle.aso_catalog.specs.View.{IsLastBegun, opening}
use Rattle.aso_catalog.proofs.Begun.{nothing_begun, closing_begun, closing_last, filling_begun, filling_last, opening_begun, opening_last}
use Rattle.aso_catalog.proofs.Views.{filled_images, opened_images, shut_before, throughout_nothing, throughout_weaker}
use Rattle.aso_catalog.proofs.catalog.Catalog.publish.Goals as goal

pub returns-then-self-clause-any_moment : goal.returns-then-self-clause-any_moment
returns-then-self-clause-any_moment g c = throughout_weaker c.args.self.now c.args.self.now _ _ (throughout_nothing c.args.self.now) (λ x e. inl e)

pub returns-then-self-clause-not_begun : goal.returns-then-self-clause-not_begun
returns-then-self-clause-not_begun g c = λ other. throughout_nothing c.args.self.now

pub returns-in_default-clause-any_moment : goal.returns-in_default-clause-any_moment
returns-in_default-clause-any_moment g c = throughout_weaker c.args.self.now c.shut_area.new.self _ _ c.shut_area.ensures.any_moment (λ x e. inl e)

pub returns-in_default-fill_area-clause-keeps : goal.returns-in_default-fill_area-clause-keeps
returns-in_default-fill_area-clause-keeps g c = λ body has. c.fill_area.ensures.keeps body (c.shut_area.ensures.keeps body has)

pub returns-in_default-fill_area-clause-no_new_doubt : goal.returns-in_default-fill_area-clause-no_new_doubt
returns-in_default-fill_area-clause-no_new_doubt g c = λ other.
    let shut = c.shut_area.ensures in
    let filled = c.fill_area.ensures in
    shut_before c.args.self.now c.fill_area.new.self (filled.told ∙ shut.told) (λ body has. filled.keeps body (shut.keeps body has)) filled.shut

pub returns-in_default-fill_area-clause-any_moment : goal.returns-in_default-fill_area-clause-any_moment
returns-in_default-fill_area-clause-any_moment g c =
    let shut = c.shut_area.ensures in
    throughout_weaker c.args.self.now c.fill_area.new.self _ _
    (filled_images c.args.self.now c.shut_area.new.self c.fill_area.new.self shut.told shut.keeps c.in-Ok.ensures.shut shut.any_moment c.fill_area.ensures.any_moment) (λ x e. inl e)

pub returns-in_default-fill_area-clause-not_begun : goal.returns-in_default-fill_area-clause-not_begun
returns-in_default-fill_area-clause-not_begun g c = λ other.
    let shut = c.shut_area.ensures in
    filled_images c.args.self.now c.shut_area.new.self c.fill_area.new.self shut.told shut.keeps c.in-Ok.ensures.shut shut.any_moment c.fill_area.ensures.any_moment

pub returns-in_default-open_area-clause-keeps : goal.returns-in_default-open_area-clause-keeps
returns-in_default-open_area-clause-keeps g c = λ body has. c.in_default-open_area.ensures.keeps body (c.fill_area.ensures.keeps body (c.shut_area.ensures.keeps body has))

pub returns-in_default-open_area-clause-any_moment : goal.returns-in_default-open_area-clause-any_moment
returns-in_default-open_area-clause-any_moment g c =
    let shut = c.shut_area.ensures in
    let filled = c.fill_area.ensures in
    opened_images c.args.self.now c.fill_area.new.self c.open_area.new.self c.args.body.now (filled.told ∙ shut.told) (λ body has. filled.keeps body (shut.keeps body has)) filled.shut
    (filled_images c.args.self.now c.shut_area.new.self c.fill_area.new.self shut.told shut.keeps c.in-Ok.ensures.shut shut.any_moment filled.any_moment)
    (c.open_area.ensures.any_moment c.args.body.now c.in-Ok-fill_area.ensures.other)

pub returns-clause-published : goal.returns-clause-published
returns-clause-published g c = c.in-Ok-open_area.ensures.opened c.args.body.now c.in-Ok-fill_area.ensures.other

pub returns-clause-any_moment : goal.returns-clause-any_moment
returns-clause-any_moment g c =
    let shut = c.shut_area.ensures in
    let filled = c.fill_area.ensures in
    opened_images c.args.self.now c.fill_area.new.self c.open_area.new.self c.args.body.now (filled.told ∙ shut.told) (λ body has. filled.keeps body (shut.keeps body has)) filled.shut
    (filled_images c.args.self.now c.shut_area.new.self c.fill_area.new.self shut.told shut.keeps c.in-Ok.ensures.shut shut.any_moment filled.any_moment)
    (c.open_area.ensures.any_moment c.args.body.now c.in-Ok-fill_area.ensures.other)

pub returns-then-self-clause-begun : goal.returns-then-self-clause-begun
returns-then-self-clause-begun g c =
    let me = c.args.self.now in
    (λ has. absurd (nothing_begun (g.C.Slots.writes me.slots) (131072 * (1 - me.current), 1 ∷ []) has), ⊎_elim (λ e. absurd (cc e)) (λ e. absurd (cc e)))

pub returns-in_default-clause-begun : goal.returns-in_default-clause-begun
returns-in_default-clause-begun g c =
    let me = c.args.self.now in
    (λ has. absurd (closing_begun (g.C.Slots.writes me.slots) (g.C.Slots.writes c.shut_area.new.self.slots) me.shut (131072 * (1 - me.current)) c.shut_area.ensures.begun has), ⊎_elim (λ e. absurd (cc e)) (λ e. absurd (cc e)))

pub returns-in_default-clause-last : goal.returns-in_default-clause-last
returns-in_default-clause-last g c = λ in_doubt is.
    let me = c.args.self.now in
    let mid = c.shut_area.new.self in
    (λ yes. absurd {A = IsLastBegun mid (opening mid)} (cc (is, yes)), λ has. absurd {A = in_doubt ≡ true} (closing_last (g.C.Slots.writes me.slots) (g.C.Slots.writes mid.slots) me.shut (131072 * (1 - me.current)) (131072 * (1 - mid.current)) c.in_default.ensures.lax c.shut_area.ensures.begun has))

pub returns-in_default-fill_area-clause-begun : goal.returns-in_default-fill_area-clause-begun
returns-in_default-fill_area-clause-begun g c =
    let me = c.args.self.now in
    let mid = c.shut_area.new.self in
    let next = c.fill_area.new.self in
    let body = c.args.body.now in (
      λ has. absurd (filling_begun (g.C.Slots.writes me.slots) (g.C.Slots.writes mid.slots) (g.C.Slots.writes next.slots) me.shut (131072 * (1 - me.current)) (131072 * (1 - mid.current)) (to_be_bytes w32 (length body) ++ body)
          c.shut_area.ensures.begun c.fill_area.ensures.begun c.shut_area.ensures.gate has),
      ⊎_elim (λ e. absurd (cc e)) (λ e. absurd (cc e)),
    )

pub returns-in_default-fill_area-clause-last : goal.returns-in_default-fill_area-clause-last
returns-in_default-fill_area-clause-last g c = λ in_doubt is.
    let mid = c.shut_area.new.self in
    let next = c.fill_area.new.self in
    let body = c.args.body.now in
    (λ yes. absurd {A = IsLastBegun next (opening next)} (cc (is, yes)), λ has. absurd {A = in_doubt ≡ true} (filling_last (g.C.Slots.writes mid.slots) (g.C.Slots.writes next.slots) (131072 * (1 - mid.current)) (131072 * (1 - next.current)) (to_be_bytes w32 (length body) ++ body) c.fill_area.ensures.begun (sym c.fill_area.ensures.gate) has))

pub returns-in_default-open_area-clause-begun : goal.returns-in_default-open_area-clause-begun
returns-in_default-open_area-clause-begun g c =
    let me = c.args.self.now in
    let mid = c.shut_area.new.self in
    let next = c.fill_area.new.self in
    let body = c.args.body.now in (
      λ has. inr refl,
      λ e. opening_begun (g.C.Slots.writes me.slots) (g.C.Slots.writes mid.slots) (g.C.Slots.writes next.slots) (g.C.Slots.writes c.open_area.new.self.slots) me.shut (131072 * (1 - me.current)) (131072 * (1 - mid.current)) (131072 * (1 - next.current)) (to_be_bytes w32 (length body) ++ body)
          c.shut_area.ensures.begun c.fill_area.ensures.begun c.open_area.ensures.begun (c.fill_area.ensures.gate ∙ c.shut_area.ensures.gate),
    )

pub returns-in_default-open_area-clause-last : goal.returns-in_default-open_area-clause-last
returns-in_default-open_area-clause-last g c = λ in_doubt is.
    let next = c.fill_area.new.self in
    let new = c.open_area.new.self in
    (λ yes. opening_last (g.C.Slots.writes next.slots) (g.C.Slots.writes new.slots) (131072 * (1 - next.current)) (131072 * (1 - new.current)) c.open_area.ensures.begun (sym c.in_default-open_area.ensures.gate), λ has. cc is)

pub returns-clause-begun : goal.returns-clause-begun
returns-clause-begun g c =
    let me = c.args.self.now in
    let mid = c.shut_area.new.self in
    let next = c.fill_area.new.self in
    let body = c.args.body.now in (
      λ has. inl refl,
      λ e. opening_begun (g.C.Slots.writes me.slots) (g.C.Slots.writes mid.slots) (g.C.Slots.writes next.slots) (g.C.Slots.writes c.open_area.new.self.slots) me.shut (131072 * (1 - me.current)) (131072 * (1 - mid.current)) (131072 * (1 - next.current)) (to_be_bytes w32 (length body) ++ body)
          c.shut_area.ensures.begun c.fill_area.ensures.begun c.open_area.ensures.begun (c.fill_area.ensures.gate ∙ c.shut_area.ensures.gate),
    )
