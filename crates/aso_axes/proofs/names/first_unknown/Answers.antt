use Rattle.std.proofs.Common.{◌∙◌, sym}
use Rattle.std.specs.Prelude.{is_none}
use Rattle.std.specs.Option.{option_map}
use Rattle.aso_outline.proofs.ExtendLemmas.{found_here, found_later, none_mapped, some_mapped}
use Rattle.aso_axes.specs.Members.{member_named}
use Rattle.aso_axes.proofs.names.first_unknown.Goals as goal

pub returns-then-is_some : goal.returns-then-is_some
returns-then-is_some c =
    sym (found_here (λ a. a.now) (λ name. is_none (member_named c.args.outline.now c.args.own.now name)) c.args.paths.now c.loop-path.path-index c.path-item.result c.loop-path-test.true (sym c.path-item.is)
    (option_map (λ n. n.now) c.unknown_in-found.result) c.unknown_in-found.ensures (some_mapped (λ n. n.now) c.unknown_in-found.result (sym c.is_some.ensures ∙ c.if-is_some.true))) ∙ c.loop-path.invariant

pub loop-path-preserved : goal.loop-path-preserved
loop-path-preserved c =
    found_later (λ a. a.now) (λ name. is_none (member_named c.args.outline.now c.args.own.now name)) c.args.paths.now c.loop-path.path-index c.path-item.result c.loop-path-test.true (sym c.path-item.is)
    (sym c.unknown_in-found.ensures ∙ none_mapped (λ n. n.now) c.unknown_in-found.result (sym c.is_some.ensures ∙ c.if-is_some.false))
    ∙ c.loop-path.invariant
