-- What a sheet says: its database, its outline's members, its cells and its two axes.
use Rattle.std.specs.Prelude.{ℕ, List, ℤ}

abbrev pub Name : Type 0
Name = List ℕ

-- a member of the outline; a dimension is its own member of depth 0
pub record Member : Type 0 where
  pub depth : ℕ
  pub name : Name

-- an amount in units of 1/10000, and the members at which it stands
pub record Cell : Type 0 where
  pub names : List Name
  pub amount : ℤ

pub record Outline : Type 0 where
  pub app : Name
  pub db : Name
  pub members : List Member

pub record Sheet : Type 0 where
  pub outline : Outline
  pub cells : List Cell
  pub columns : List Name
  pub rows : List Name

-- what one line says
pub data Part : Type 0 where
  Database : (app db : Name) → Part
  OneMember : Member → Part
  OneCell : Cell → Part
  Columns : List Name → Part
  Rows : List Name → Part
