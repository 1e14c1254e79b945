use Rattle.std.proofs.Common.{MutBor, IsSome, rules}
use Rattle.aso_top.proofs.RunLemmas.{lent}
use Rattle.aso_top.proofs.top.create_on.Goals as goal

pub returns-clause-crash : goal.returns-clause-crash
returns-clause-crash g c =
    let now : MutBor g.row.C.Denot → g.row.C.Denot = λ d. d.now in
    let got = lent now g.C.Slots.moment g.C.Slots.left (IsSome (g.C.Slots.seen c.args.catalog.now)) c.args.text.now _ _ c.create-device.ensures.crash in
    search (rules, got)
