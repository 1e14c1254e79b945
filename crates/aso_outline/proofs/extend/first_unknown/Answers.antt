use Rattle.std.proofs.Common.{◌∙◌, sym}
use Rattle.std.specs.Prelude.{is_none}
use Rattle.std.specs.Option.{option_map}
use Rattle.aso_outline.specs.Members.{find}
use Rattle.aso_outline.proofs.ExtendLemmas.{found_here, found_later, none_mapped, some_mapped}
use Rattle.aso_outline.proofs.extend.first_unknown.Goals as goal

pub returns-then-is_some : goal.returns-then-is_some
returns-then-is_some c =
    sym (found_here (λ a. a.now) (λ name. is_none (find c.args.outline.now name)) c.args.all.now c.loop-names.names-index c.names-item.result c.loop-names-test.true (sym c.names-item.is)
    (option_map (λ n. n.now) c.unknown_in-found.result) c.unknown_in-found.ensures (some_mapped (λ n. n.now) c.unknown_in-found.result (sym c.is_some.ensures ∙ c.if-is_some.true))) ∙ c.loop-names.invariant

pub loop-names-preserved : goal.loop-names-preserved
loop-names-preserved c =
    found_later (λ a. a.now) (λ name. is_none (find c.args.outline.now name)) c.args.all.now c.loop-names.names-index c.names-item.result c.loop-names-test.true (sym c.names-item.is)
    (sym c.unknown_in-found.ensures ∙ none_mapped (λ n. n.now) c.unknown_in-found.result (sym c.is_some.ensures ∙ c.if-is_some.false))
    ∙ c.loop-names.invariant
