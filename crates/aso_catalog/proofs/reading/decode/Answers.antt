use Rattle.std.proofs.Common.{ℕ, List, None, length, refl, sym, subst}
use Rattle.aso_catalog.specs.Record.{AreCells}
use Rattle.aso_catalog.proofs.Fields.{bad_weaker, same_head}
use Rattle.aso_catalog.proofs.reading.decode.Goals as goal

pub returns-in_default-clause-bad : goal.returns-in_default-clause-bad
returns-in_default-clause-bad c = (refl, λ r is. c.in_default.ensures.none r.layout r.commit r.outline r.dimensions (length r.cells) is.cells is.head)

pub returns-in-Err-clause-bad : goal.returns-in-Err-clause-bad
returns-in-Err-clause-bad c =
    let head = c.in-Some.head in
    let rest = c.in-Some.rest.now in
    bad_weaker c.in-Err.fault _ _ c.in-Err.ensures.bad (λ none r is.
    let same = same_head head.layout head.commit head.dimensions head.count r.layout r.commit r.dimensions (length r.cells) head.outline.now r.outline rest is.cells c.args.bytes.now c.in-Some.ensures.found is.head in
    none r.cells (sym same.1) (subst (λ (n : ℕ). AreCells n None r.cells rest) (sym same.0) (subst (λ (l : List ℕ). AreCells r.dimensions None r.cells l) (sym same.2) is.spelled)))
