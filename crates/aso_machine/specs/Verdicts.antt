-- What the code says of a line, as the machine has it.
use Rattle.std.specs.Prelude.{◌≡◌, ◌-◌, ◌≤◌, ◌<◌, ◌^◌, ⊤, ℤ, true, length, List, map, nat_lt, unsigned_abs}
use Rattle.aso_catalog.specs.declared.record.LeafCell.{LeafCell}
use Rattle.aso_catalog.specs.declared.record.Record.{Record}
use Rattle.aso_cellnames.specs.Leaves.{are_leaves, leaf_counts}
use Rattle.aso_outline.specs.declared.draft.Draft.{Draft}
use Rattle.aso_script.specs.Read.{addition}
use Rattle.aso_script.specs.Script.{Line}
use Rattle.aso_spec.specs.Cells.{Key, add_at}
use Rattle.aso_machine.specs.declared.reading.Reading.{Reading as Read}
use Rattle.aso_machine.specs.declared.reading.Reading.TheVariants.{Adds as ReadAdds, Asks as ReadAsks, Faulty as ReadFaulty}
use Rattle.aso_machine.specs.declared.verdict.Verdict.{Verdict}
use Rattle.aso_machine.specs.declared.verdict.Verdict.TheVariants.{Refused, Grid, Commit}
use Rattle.aso_machine.specs.CellSteps.{sum_in}
use Rattle.aso_machine.specs.Lines.{Reading, Adds, Asks, Faulty}
use Rattle.aso_machine.specs.Machine.{Said, Refuses, Shows, Changes, Comes}
use Rattle.aso_machine.specs.State.{entry, state_with}

-- what was read of a line
abbrev pub reading : Read → Reading
reading (ReadAdds a) = Adds (addition a)
reading (ReadAsks q) = Asks q
reading (ReadFaulty at) = Faulty at

-- what is said over these cells
abbrev pub said : List LeafCell → Verdict → Said
said cells (Refused text) = Refuses text.items
said cells (Grid rows columns text) = Shows rows columns text.items
said cells (Commit key z) = Changes (add_at key.items z (map entry cells))

-- The amount may be added to the cell: a layout is left, its leaves are the outline's, the sum is in range, and there are
-- few cells then.
pub record MayCommit (o : Draft) (r : Record) (key : Key) (z : ℤ) : Type 0 where
  pub room : r.layout < 2 ^ 64 - 1
  pub leaves : are_leaves (leaf_counts o) key ≡ true
  pub amount : unsigned_abs z < 10 ^ 18
  pub sum : nat_lt (unsigned_abs (sum_in key z r.cells)) (10 ^ 18) ≡ true
  pub few : length (add_at key z (map entry r.cells)) ≤ 1000

abbrev pub MayBe : Draft → Record → Verdict → Type 0
MayBe o r (Commit key z) = MayCommit o r key.items z
MayBe o r v = ⊤

-- what is said of an addition or a query, of which it is known what may be said
pub record IsVerdictIn (P : Said → Type 0) (o : Draft) (r : Record) (v : Verdict) : Type 0 where
  pub says : P (said r.cells v)
  pub may : MayBe o r v

-- what the line comes to on the record's state
abbrev pub IsVerdict : Draft → Record → Line → Verdict → Type 0
IsVerdict o r line v = IsVerdictIn (Comes (state_with r o) line) o r v
