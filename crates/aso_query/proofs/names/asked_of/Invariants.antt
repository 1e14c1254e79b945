use Rattle.std.proofs.Common.{◌≡◌, ◌++◌, drop}
use Rattle.std.specs.List.{filter_map}
use Rattle.aso_query.proofs.names.asked_of.Given as goal

abbrev pub invariant-loop-attr : goal.invariant-loop-attr
invariant-loop-attr l = filter_map (λ a. a) l.attrs ≡ l.members.items ++ filter_map (λ a. a) (drop l.attr-index l.attrs)
