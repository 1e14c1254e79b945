use Rattle.std.proofs.Common.{List, [], drop}
use Rattle.aso_outline.specs.declared.draft.ExtraMember.{ExtraMember}
use Rattle.aso_query.specs.declared.refusal.QueryRefusal.{QueryRefusal}
use Rattle.aso_query.specs.Owns.{AreTaken, IsOwnsRefusal}
use Rattle.aso_query.proofs.owns.take_all.Given as goal

abbrev pub invariant-loop-member : goal.invariant-loop-member
invariant-loop-member l = record {
  taken : (all : List ExtraMember) → AreTaken l.outline l.extra.members.items (drop l.member-index l.own) all → AreTaken l.outline [] l.own all;
  refused : (r : QueryRefusal) → IsOwnsRefusal l.outline l.extra.members.items (drop l.member-index l.own) r → IsOwnsRefusal l.outline [] l.own r;
}
