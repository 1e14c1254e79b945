use Rattle.std.proofs.Common.{◌≡◌, drop, map}
use Rattle.aso_axes.specs.Sets.{said_of, wrong_items}
use Rattle.aso_axes.proofs.wrong.+wrong.Given as goal

abbrev pub invariant-wrong_items-loop-at : goal.invariant-wrong_items-loop-at
invariant-wrong_items-loop-at l =
    wrong_items l.outline l.own l.before l.wanted (map (said_of l.outline l.own l.purpose) (drop l.at l.items))
    ≡ wrong_items l.outline l.own l.before l.wanted (map (said_of l.outline l.own l.purpose) (drop 1 l.items))
