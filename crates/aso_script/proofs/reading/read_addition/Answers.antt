use Rattle.std.proofs.Common.{◌≡◌, ◌∙◌, sym, None}
use Rattle.aso_script.specs.Reading.{read_line}
use Rattle.aso_script.specs.Read.{addition}
use Rattle.aso_script.proofs.Exact.{line_found, line_whole, spells_none}
use Rattle.aso_script.proofs.reading.read_addition.Goals as goal

pub returns-in-Ok-clause-found : goal.returns-in-Ok-clause-found
returns-in-Ok-clause-found c = line_found c.args.line.now (addition c.in-Ok.read) c.in-Ok.ensures

pub returns-in-Ok-clause-only : goal.returns-in-Ok-clause-only
returns-in-Ok-clause-only c s h = sym c.in-Ok.ensures ∙ line_whole c.args.line.now s h

pub returns-in-Err-Faulty-clause-only : goal.returns-in-Err-Faulty-clause-only
returns-in-Err-Faulty-clause-only c s h =
    let none : read_line c.args.line.now ≡ None = rw c.in-Err-Faulty.field-0-is at c.in-Err-Faulty.ensures in
    sym none ∙ line_whole c.args.line.now s h

pub returns-in-Err-Faulty-clause-none : goal.returns-in-Err-Faulty-clause-none
returns-in-Err-Faulty-clause-none c =
    let none : read_line c.args.line.now ≡ None = rw c.in-Err-Faulty.field-0-is at c.in-Err-Faulty.ensures in
    spells_none c.args.line.now none
