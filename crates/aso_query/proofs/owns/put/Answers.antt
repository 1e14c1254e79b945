use Rattle.std.proofs.Common.{inl, inr, refl, subst}
use Rattle.aso_outline.specs.declared.extend.ExtraFault.TheVariants.{InUse, Ranks}
use Rattle.aso_outline.specs.Atoms.{atoms}
use Rattle.aso_outline.specs.Extend.{IsExtraFault, first_foreign, first_unknown}
use Rattle.aso_query.proofs.Takings.{has_formula, no_foreign, no_unknown, none_some}
use Rattle.aso_query.proofs.owns.put.Goals as goal

pub returns-in-Ok-clause-next : goal.returns-in-Ok-clause-next
returns-in-Ok-clause-next c =
    let m = c.args.member in
    let taken = c.in-Ok.ensures in
    (m, record { dim = c.requires.dim; formula = c.requires.spelled; is = c.requires.is; own = taken.accepted }, taken.taken)

pub returns-in-Err-InUse-clause-refused : goal.returns-in-Err-InUse-clause-refused
returns-in-Err-InUse-clause-refused c =
    let wrong : IsExtraFault c.args.outline.now c.args.extra.now.members.items c.args.member InUse = subst (IsExtraFault c.args.outline.now c.args.extra.now.members.items c.args.member) c.in-Err-InUse.field-0-is c.in-Err-InUse.ensures.refused in
    has_formula c.args.outline.now c.args.extra.now.members.items c.args.member.dim c.args.own.now c.part.result.now c.wrong_formula.result c.requires.dim c.part.ensures
    (record { m = c.args.member; dim = refl; formula = c.requires.spelled; is = c.requires.is; wrong = inl wrong }) c.wrong_formula.ensures

pub returns-in-Err-Ranks-clause-refused : goal.returns-in-Err-Ranks-clause-refused
returns-in-Err-Ranks-clause-refused c =
    let wrong : IsExtraFault c.args.outline.now c.args.extra.now.members.items c.args.member Ranks = subst (IsExtraFault c.args.outline.now c.args.extra.now.members.items c.args.member) c.in-Err-Ranks.field-0-is c.in-Err-Ranks.ensures.refused in
    has_formula c.args.outline.now c.args.extra.now.members.items c.args.member.dim c.args.own.now c.part-in-Err-Ranks.result.now c.wrong_formula-in-Err-Ranks.result c.requires.dim c.part-in-Err-Ranks.ensures
    (record { m = c.args.member; dim = refl; formula = c.requires.spelled; is = c.requires.is; wrong = inr wrong }) c.wrong_formula-in-Err-Ranks.ensures

pub unreachable-requires : goal.unreachable-requires
unreachable-requires c =
    let o = c.args.outline.now in
    let m = c.args.member in
    let wrong = subst (IsExtraFault o c.args.extra.now.members.items m) c.in-Err-Unknown.field-0-is c.in-Err-Unknown.ensures.refused in
    none_some (first_unknown o (atoms m.formula)) c.in-Err-Unknown.field-0-0 (no_unknown o m.dim (atoms m.formula) c.requires.right) wrong

pub unreachable-requires-in-Err-Foreign : goal.unreachable-requires-in-Err-Foreign
unreachable-requires-in-Err-Foreign c =
    let o = c.args.outline.now in
    let m = c.args.member in
    let wrong = subst (IsExtraFault o c.args.extra.now.members.items m) c.in-Err-Foreign.field-0-is c.in-Err-Foreign.ensures.refused in
    none_some (first_foreign o m.dim (atoms m.formula)) c.in-Err-Foreign.field-0-0 (no_foreign o m.dim (atoms m.formula) c.requires.right) wrong.1
