use Rattle.std.specs.Prelude.{is_some}
use Rattle.std.specs.HashMap.{get_by_text}
use Rattle.std.proofs.Common.{◌∙◌, List, ℕ, ap, sym}
use Rattle.aso_outline.specs.Members.{same_name}
use Rattle.aso_outline.proofs.Known.{same_is}
use Rattle.aso_outline.proofs.LeafNames.{known_kept, known_now}
use Rattle.aso_outline.proofs.sharers.note_name.Goals as goal

pub returns-then-is_some : goal.returns-then-is_some
returns-then-is_some c = λ q.
    known_kept (get_by_text c.args.names.now.map q) (same_name q c.args.name.now) c.args.number
    (λ h. ap (λ (w : List ℕ). is_some (get_by_text c.args.names.now.map w)) (same_is q c.args.name.now h) ∙ (ap is_some (sym c.find.ensures) ∙ (sym c.is_some.ensures ∙ c.if-is_some.true)))

pub returns : goal.returns
returns c = λ q.
    c.in_ok-add.ensures q ∙ known_now (get_by_text c.args.names.now.map q) (same_name q c.args.name.now) c.args.number
    (λ h. ap (λ (w : List ℕ). is_some (get_by_text c.args.names.now.map w)) (same_is q c.args.name.now h) ∙ (ap is_some (sym c.find.ensures) ∙ (sym c.is_some.ensures ∙ c.if-is_some.false)))
