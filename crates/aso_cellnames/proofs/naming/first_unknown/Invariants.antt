use Rattle.std.proofs.Common.{◌≡◌, drop}
use Rattle.std.specs.List.{find}
use Rattle.aso_cellnames.specs.Names.{texts, is_unknown}
use Rattle.aso_cellnames.proofs.naming.first_unknown.Given as goal

abbrev pub invariant-loop-name : goal.invariant-loop-name
invariant-loop-name l = find (is_unknown l.outline) (texts (drop l.name-index l.names)) ≡ find (is_unknown l.outline) (texts l.names)
