use Rattle.std.proofs.Common.{◌≡◌, ◌+◌, ◌*◌, ◌<◌, ◌≤◌, ◌++◌, ℕ, List, length, ◌∙◌, ap, append_assoc, arith}
use Rattle.aso_catalog.specs.Record.{longest_cell}
use Rattle.std.proofs.lemmas.Result.{err_from_is_err_and}
use Rattle.aso_catalog.proofs.Fields.{written_none, written_here, written_more, written_all, one_more, some_more}
use Rattle.aso_catalog.proofs.writing.put_cells.Goals as goal

pub loop-cell-init : goal.loop-cell-init
loop-cell-init c = record { written = written_none c.args.dimensions c.args.cells.now c.args.out.now.items c.requires; most = omega arith; grows = omega arith }

pub put_cell-requires : goal.put_cell-requires
put_cell-requires c = written_here c.args.dimensions c.args.cells.now c.loop-cell.cell-index c.args.out.now.items c.loop-cell.out.items c.cell-item.result c.loop-cell.invariant.written c.loop-cell-test.true c.cell-item.is

pub returns-in_err-put_cell-clause-err : goal.returns-in_err-put_cell-clause-err
returns-in_err-put_cell-clause-err c =
    let so_far = c.loop-cell.invariant.written in
    let more = c.in_err-put_cell.ensures.err in
    let is = err_from_is_err_and c.from_residual.result c.from_residual.ensures.1 in
    rw is.1 (so_far.done ++ more.0, more.1 ∙ ap (λ (l : List ℕ). l ++ more.0) so_far.out_is ∙ append_assoc c.args.out.now.items so_far.done more.0)

pub loop-cell-preserved : goal.loop-cell-preserved
loop-cell-preserved c =
    let put = c.in_ok-put_cell.ensures.ok in
    let so_far = c.loop-cell.invariant in
    let next = one_more c.loop-cell.cell-index (longest_cell c.args.dimensions) in
    record {
      written = written_more c.args.dimensions c.args.cells.now c.loop-cell.cell-index c.args.out.now.items c.loop-cell.out.items c.put_cell.new.out.items put.0 c.cell-item.result so_far.written c.loop-cell-test.true c.cell-item.is put.1 put.2;
      most = omega (arith, so_far.most, c.in_ok-put_cell.ensures.most, next);
      grows = omega (arith, so_far.grows, c.put_cell.ensures.grows);
    }

pub returns-in_err-put_cell-clause-room : goal.returns-in_err-put_cell-clause-room
returns-in_err-put_cell-clause-room c =
    let so_far = c.loop-cell.invariant in
    let is = err_from_is_err_and c.from_residual.result c.from_residual.ensures.1 in
    let within = some_more c.loop-cell.cell-index (length c.args.cells.now) (longest_cell c.args.dimensions) c.loop-cell-test.true in
    rw is.1 (omega (arith, so_far.most, so_far.grows, c.in_err-put_cell.ensures.room, within))

pub returns-clause-ok : goal.returns-clause-ok
returns-clause-ok c = written_all c.args.dimensions c.args.cells.now c.loop-cell.cell-index c.args.out.now.items c.loop-cell.out.items c.loop-cell.invariant.written (omega arith)
