use Rattle.std.proofs.Common.{◌≡◌, ◌-◌}
use Rattle.aso_script.specs.Reading.{◌>>=◌, read_further, read_list}
use Rattle.aso_script.proofs.Further.{grown}
use Rattle.aso_script.proofs.reading.list.Given as goal

abbrev pub invariant-loop-count : goal.invariant-loop-count
invariant-loop-count l = read_list l.text ≡ (read_further (64 - l.count) l.rest >>= grown l.names.items)
