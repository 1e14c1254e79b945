-- What stands at a member: its operator and solve order.
use Rattle.std.specs.Prelude.{ℕ, unwrap_or, if◌then◌else◌}
use Rattle.std.specs.Option.{option_map, option_and_then}
use Rattle.aso_outline.specs.declared.draft.Draft.{Draft}
use Rattle.aso_outline.specs.declared.draft.DraftMember.{DraftMember}
use Rattle.aso_outline.specs.declared.draft.Op.{Op}
use Rattle.aso_outline.specs.declared.draft.Op.TheVariants.{Plus}
use Rattle.aso_outline.specs.declared.seat.Seat.{Seat}
use Rattle.aso_outline.specs.Members.{member_at}
use Rattle.aso_outline.specs.Rules.{has_formula}

-- a dimension's own member above several hierarchies has none of its own
abbrev pub op_of : Draft → Seat → Op
op_of o s = unwrap_or (option_map (λ (m : DraftMember). m.op) (member_at o s)) Plus

-- the given solve order; else 20 for a member with a formula, and 10 for another
abbrev pub solve_of : Draft → Seat → ℕ
solve_of o s = unwrap_or (option_and_then (λ (m : DraftMember). m.solve) (member_at o s)) (if has_formula o s then 20 else 10)
