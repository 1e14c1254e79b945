use Rattle.std.proofs.Common.{◌∙◌}
use Rattle.aso_outline.specs.Members.{parents_of}
use Rattle.aso_outline.proofs.TableLemmas.{no_fault}
use Rattle.aso_outline.proofs.build.forest.Goals as goal

pub unreachable-requires : goal.unreachable-requires
unreachable-requires c =
    let fault = rw c.in-Err-NotPreorder.field-0-is at c.in-Err-NotPreorder.ensures.fault in
    no_fault c.as_slice.result.now (parents_of c.args.members.now) fault.0 c.requires.tree (c.as_slice.ensures.value ∙ c.in_ok-parents.ensures) fault.1

pub unreachable-requires-in-Err-Deep : goal.unreachable-requires-in-Err-Deep
unreachable-requires-in-Err-Deep c =
    let fault = rw c.in-Err-Deep.field-0-is at c.in-Err-Deep.ensures.fault in
    no_fault c.as_slice.result.now (parents_of c.args.members.now) fault.0 c.requires.tree (c.as_slice.ensures.value ∙ c.in_ok-parents.ensures) fault.1
