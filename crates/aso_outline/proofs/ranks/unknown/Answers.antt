use Rattle.std.proofs.Common.{◌≡◌, arith, length, subst, sym}
use Rattle.std.proofs.lemmas.Grind.{common_steps}
use Rattle.std.proofs.lemmas.List.{replicate-append-replicate}
use Rattle.aso_outline.specs.Graph.{AreKnown}
use Rattle.aso_outline.specs.Members.{seats}
use Rattle.aso_outline.proofs.GraphRows.{rows_long}
use Rattle.aso_outline.proofs.KnownRanks.{none_yet, unknown_right}
use Rattle.aso_outline.proofs.ranks.unknown.Goals as goal

pub loop-member-preserved : goal.loop-member-preserved
loop-member-preserved c = let more = replicate-append-replicate c.loop-member._member 1 none_yet in grind (arith, common_steps, more)

pub returns : goal.returns
returns c =
    let o = c.args._draft.now in
    let all : c.loop-member._member ≡ length (seats o) = omega (arith, rows_long o c.args.rows.now c.requires.rows, c.loop-member-test.false, c.loop-member.auto._member-end) in
    subst (AreKnown o) (sym c.loop-member.invariant) (unknown_right o c.loop-member._member all)
