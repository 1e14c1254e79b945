use Rattle.std.proofs.Common.{MutBor, rules}
use Rattle.aso_top.proofs.ScriptLemmas.{lent_script}
use Rattle.aso_top.proofs.scripts.run_script.Goals as goal

pub returns-clause-runs : goal.returns-clause-runs
returns-clause-runs g c =
    let now : MutBor g.row.C.Denot → g.row.C.Denot = λ d. d.now in
    let got = lent_script now g.C.Slots.seen g.C.Slots.moment g.C.Slots.left g.C.Slots.faults _ _ _ _ _ _ _ _ c.open_and_run-device.ensures.runs in
    search (rules, got)
