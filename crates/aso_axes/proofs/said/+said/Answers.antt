use Rattle.std.proofs.Common.{◌∙◌, ◌++◌, List, sym, ap, append_assoc}
use Rattle.aso_outline.specs.declared.seat.DimRef.{DimRef}
use Rattle.aso_mdx.specs.declared.query.SetText.{SetText}
use Rattle.aso_axes.specs.Sets.{said_of}
use Rattle.aso_axes.proofs.SetSteps.{dims_crossjoin}
use Rattle.aso_axes.proofs.said.+said.Goals as goal

pub said_of_set-returns-in_ok-said_of_set-in-Crossjoin-clause-dims : goal.said_of_set-returns-in_ok-said_of_set-in-Crossjoin-clause-dims
said_of_set-returns-in_ok-said_of_set-in-Crossjoin-clause-dims t c =
    let before : List DimRef = c.args.dims.now.items in
    let dims : SetText → List DimRef = λ s. (said_of c.args.outline.now c.args.own.now c.args.purpose s).dims in
    let left : SetText = c.in-Crossjoin.left in
    let right : SetText = c.in-Crossjoin.right in
    c.in_ok-said_of_set-in-Crossjoin.ensures.dims
    ∙ (ap (λ (xs : List DimRef). xs ++ dims c.get-in-Crossjoin.result.now) c.in_ok-first-in-Crossjoin.ensures.dims
    ∙ (append_assoc before (dims c.get.result.now) (dims c.get-in-Crossjoin.result.now)
    ∙ (ap (λ (s : SetText). before ++ (dims s ++ dims c.get-in-Crossjoin.result.now)) c.get.ensures
    ∙ (ap (λ (s : SetText). before ++ (dims left ++ dims s)) c.get-in-Crossjoin.ensures
    ∙ ap (λ (xs : List DimRef). before ++ xs) (sym (ap dims c.in-Crossjoin.is ∙ dims_crossjoin c.args.outline.now c.args.own.now c.args.purpose left right))))))
