use Rattle.std.proofs.Common.{◌≡◌, inl, ◌-◌, ℕ, List, Option, Some, sym, ◌∙◌, ap, subst, arith}
use Rattle.std.specs.Prelude.{IfSome, not}
use Rattle.aso_disk.specs.Slots.{Only}
use Rattle.aso_catalog.specs.Image.{area, body_of, layout_of, open_body, OpensWith}
use Rattle.aso_catalog.specs.Opening.{IsOpening}
use Rattle.aso_catalog.proofs.Opened.{is_catalog, opens, older, record_is, some_any, told_is}
use Rattle.aso_catalog.proofs.catalog.Catalog.open.Goals as goal

pub returns-in_default-clause-damaged : goal.returns-in_default-clause-damaged
returns-in_default-clause-damaged g c = some_any (g.C.Slots.seen c.args.slots) _ (λ image. tt)

pub invariant_of-result : goal.invariant_of-result
invariant_of-result g c =
    let choice = c.in-Ok-survey.choice in
    let found = c.in-Ok-survey.ensures in
    let slots = c.survey.new.slots in
    let durable : (s : List ℕ) → g.C.Slots.seen slots ≡ Some s → Only s (g.C.Slots.left slots (g.C.Slots.moment slots)) =
    λ s now. let P : Option (List ℕ) → Type 0 = λ o. IfSome o (λ b. Only b (g.C.Slots.left slots (g.C.Slots.moment slots))) in subst P now found.durable in
    record {
      within = found.within;
      space = c.shorten.ensures;
      room = found.size;
      known = λ e. ap not e;
      stands = λ s now.
          let same = told_is (g.C.Slots.seen c.args.slots) found.found.image s found.found.is_told (sym c.survey.ensures.seen ∙ now) in
          is_catalog s choice.current choice.layout choice.present choice.shut choice.found (subst (λ (l : List ℕ). IsOpening l choice.current choice.layout choice.present choice.shut choice.found) same found.found.has) _ (durable s now);
    }

pub returns-in-Ok-survey-clause-opened : goal.returns-in-Ok-survey-clause-opened
returns-in-Ok-survey-clause-opened g c =
    let choice = c.in-Ok-survey.choice in
    let some = c.in-Ok-survey.ensures.found in
    let all = opens some.image choice.current choice.layout choice.present choice.shut choice.found some.has in
    record {
      image = some.image;
      is_told = some.is_told;
      has = record {
        sound = all.sound;
        holds = λ s now.
            let same = told_is (g.C.Slots.seen c.args.slots) some.image s some.is_told (sym c.survey.ensures.seen ∙ now) in
            ap (λ (l : List ℕ). open_body (area choice.current l)) (sym same) ∙ sym all.taken;
        gives = record_is some.image choice.current choice.layout choice.present choice.shut choice.found some.has;
      };
    }

pub returns-in-Ok-survey-clause-settled : goal.returns-in-Ok-survey-clause-settled
returns-in-Ok-survey-clause-settled g c = λ e s now.
    let choice = c.in-Ok-survey.choice in
    let some = c.in-Ok-survey.ensures.found in
    let same = told_is (g.C.Slots.seen c.args.slots) some.image s some.is_told (sym c.survey.ensures.seen ∙ now) in
    let low = older some.image choice.current choice.layout choice.present choice.shut choice.found some.has e in
    let is : layout_of (body_of (area (1 - choice.current) some.image)) ≡ layout_of (body_of (area (1 - choice.current) s)) = ap (λ (l : List ℕ). layout_of (body_of (area (1 - choice.current) l))) same in
    omega (arith, low, is)

pub returns-in-Ok-survey-clause-synced : goal.returns-in-Ok-survey-clause-synced
returns-in-Ok-survey-clause-synced g c =
    let choice = c.in-Ok-survey.choice in
    let some = c.in-Ok-survey.ensures.found in
    let synced = c.in-Ok-survey.ensures.synced in
    let all = opens some.image choice.current choice.layout choice.present choice.shut choice.found some.has in
    record {
      at = synced.at;
      from = synced.from;
      to = synced.to;
      each = λ k x from to is s now.
          let was = sym c.survey.ensures.seen ∙ now in
          let same = told_is (g.C.Slots.seen c.args.slots) some.image s some.is_told was in
          let here : OpensWith s (open_body (area choice.current s)) = subst (λ (l : List ℕ). OpensWith l (open_body (area choice.current l))) same all in
          inl (subst (λ (l : List ℕ). OpensWith l (open_body (area choice.current s))) (sym (synced.each k x from to is s was)) here);
    }
