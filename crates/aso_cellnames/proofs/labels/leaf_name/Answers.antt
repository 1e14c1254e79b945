use Rattle.std.proofs.Common.{◌∙◌, [], Option, ap, sym}
use Rattle.std.specs.Prelude.{unwrap_or}
use Rattle.std.proofs.lemmas.Option.{get_or_from_slice_get}
use Rattle.aso_outline.specs.declared.seat.Seat.{Seat}
use Rattle.aso_outline.specs.declared.seat.Seat.TheVariants.{Whole}
use Rattle.aso_outline.specs.Members.{dim_at, leaf_names}
use Rattle.aso_outline.specs.Rules.{name_at}
use Rattle.aso_outline.proofs.HoldLemmas.{leaf_name_is}
use Rattle.aso_cellnames.proofs.labels.leaf_name.Goals as goal

pub returns : goal.returns
returns c =
    let o = c.args.outline.now in
    c.name.ensures ∙ ap (λ (x : Option Seat). name_at o (unwrap_or x (Whole 0))) c.leaf_member.ensures
    ∙ sym (get_or_from_slice_get (leaf_names (dim_at o c.args.dim)) c.args.leaf _ [] (leaf_name_is o c.args.dim c.args.leaf c.requires.leaf))
