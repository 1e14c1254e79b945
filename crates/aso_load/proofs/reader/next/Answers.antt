use Rattle.std.proofs.Common.{Bool, Some, subst}
use Rattle.csv.specs.Reading.{ReadRecord}
use Rattle.csv.specs.Records.{fields_of}
use Rattle.aso_load.proofs.Left.{next_is, none_is}
use Rattle.aso_load.proofs.reader.next.Goals as goal

pub returns-in-Ok-clause-next : goal.returns-in-Ok-clause-next
returns-in-Ok-clause-next c found =
    next_is c.args.reader.now c.read_byte_record.new.self (fields_of c.read_byte_record.new.row) c.requires
    (subst (λ (b : Bool). ReadRecord (λ s. Some s.now) c.args.reader.now c.read_byte_record.new.self b (fields_of c.read_byte_record.new.row)) found (c.in-Ok.ensures.reads c.requires.0 c.requires.1))

pub returns-in-Ok-clause-end : goal.returns-in-Ok-clause-end
returns-in-Ok-clause-end c none =
    none_is c.args.reader.now c.read_byte_record.new.self (fields_of c.read_byte_record.new.row) c.requires
    (subst (λ (b : Bool). ReadRecord (λ s. Some s.now) c.args.reader.now c.read_byte_record.new.self b (fields_of c.read_byte_record.new.row)) none (c.in-Ok.ensures.reads c.requires.0 c.requires.1))
