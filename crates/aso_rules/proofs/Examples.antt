-- The definitions, computed on a rules file of the Basic outline and on one for each broken rule.
use Rattle.std.proofs.Common.{◌≡◌, ℕ, List, [], ◌∷◌, false, map, refl, codes, Some}
use Rattle.std.specs.Prelude.{Ok, Err}
use Rattle.serde_json.specs.Data.{Data, null, boolean, number, string, array, object, unsigned, no_items, no_members, member}
use Rattle.serde_json.specs.Read.{read}
use Rattle.serde_json.specs.View.{items_of}
use Rattle.serde_json.proofs.OnLiterals.{serde_json_on_literals}
use Rattle.aso_outline.specs.Members.{find, seats}
use Rattle.aso_outline.proofs.Basic.{basic}
use Rattle.aso_rules.specs.Rules.{rules_of}
use Rattle.aso_rules.specs.declared.rules.Rules.{Rules}
use Rattle.aso_rules.specs.declared.rules.Column.TheVariants.{Dimension, Amounts}

abbrev texts : List (List ℕ) → Data
texts ts = array (items_of (map string ts))

abbrev pub amounts_at : List ℕ → Data
amounts_at name = object (member (codes "data") (texts (name ∷ [])) no_members)

abbrev market : Data
market = object (member (codes "dimension") (string (codes "Market")) (member (codes "replace") (array (items_of (texts (codes "N.Y." ∷ codes "NY" ∷ []) ∷ []))) no_members))

abbrev pub row : Data
row = object (
    member (codes "columns") (array (items_of (market ∷ amounts_at (codes "Sales") ∷ amounts_at (codes "Cost") ∷ [])))
    (member (codes "delimiter") (string (codes "|"))
    (member (codes "fixed") (texts (codes "Feb" ∷ [])) no_members)))

row_is_read : read (codes "{\"delimiter\":\"|\",\"columns\":[{\"dimension\":\"Market\",\"replace\":[[\"N.Y.\",\"NY\"]]},{\"data\":[\"Sales\"]},{\"data\":[\"Cost\"]}],\"fixed\":[\"Feb\"]}") ≡ Some row
unfolding serde_json_on_literals
row_is_read = refl

abbrev pub row_rules : Rules
row_rules = record {
  delimiter = 124;
  header_records = 0;
  columns = Dimension 1 [] [] ((codes "N.Y.", codes "NY") ∷ []) ∷ Amounts (16 ∷ []) ∷ Amounts (17 ∷ []) ∷ [];
  fixed = 2 ∷ [];
}

row_gives : rules_of basic row ≡ Ok row_rules
unfolding find seats
row_gives = refl

-- a file of these columns, delimiter and header records
abbrev file : Data → Data → Data → Data
file columns delimiter headers = object (member (codes "columns") columns (member (codes "delimiter") delimiter (member (codes "header_records") headers no_members)))

-- columns with a comma between them and no header record
abbrev plain : List Data → Data
plain columns = file (array (items_of columns)) (string (codes ",")) (number (unsigned 0))

abbrev named : List ℕ → Data
named dim = object (member (codes "dimension") (string dim) no_members)

abbrev whole_columns : Data
whole_columns = array (items_of (named (codes "Year") ∷ named (codes "Market") ∷ amounts_at (codes "Sales") ∷ []))

whole : rules_of basic (file whole_columns (string (codes ",")) (number (unsigned 1000)))
    ≡ Ok (record { delimiter = 44; header_records = 1000; columns = Dimension 0 [] [] [] ∷ Dimension 1 [] [] [] ∷ Amounts (16 ∷ []) ∷ []; fixed = [] })
unfolding find seats
whole = refl

-- no object; a field that no rules file has, before all else
rule_1 : (rules_of basic (array no_items) ≡ Err 1) × (rules_of basic (object (member (codes "delimiter") null (member (codes "header") null no_members))) ≡ Err 1)
rule_1 = (refl, refl)

-- a quote, two characters, a character that isn't ASCII, and what is no text delimit nothing
rule_2 : map (λ d. rules_of basic (file whole_columns d null)) (string (codes "\"") ∷ string (codes ",,") ∷ string (codes "é") ∷ null ∷ []) ≡ (Err 2 ∷ Err 2 ∷ Err 2 ∷ Err 2 ∷ [])
rule_2 = refl

rule_3 : map (λ d. rules_of basic (file null (string (codes ",")) d)) (number (unsigned 1001) ∷ null ∷ []) ≡ (Err 3 ∷ Err 3 ∷ [])
rule_3 = refl

-- no column; a column that is two things; one that isn't ignored
rule_4 : map (λ columns. rules_of basic (plain columns)) (
    [] ∷ (object (member (codes "data") (texts []) (member (codes "dimension") (string (codes "Year")) no_members)) ∷ [])
    ∷ (object (member (codes "ignore") (boolean false) no_members) ∷ []) ∷ []) ≡ (Err 4 ∷ Err 4 ∷ Err 4 ∷ [])
rule_4 = refl

-- an attribute dimension; a hierarchy's root; a computed member
rule_5 : map (λ column. rules_of basic (plain (column ∷ []))) (named (codes "Size") ∷ named (codes "Total") ∷ amounts_at (codes "Pct") ∷ []) ≡ (Err 5 ∷ Err 5 ∷ Err 5 ∷ [])
unfolding find seats
rule_5 = refl

-- no column of amounts; a dimension that lacks; one that is there twice
rule_6 : map (λ columns. rules_of basic (plain columns)) (
    (named (codes "Year") ∷ [])
    ∷ (named (codes "Year") ∷ amounts_at (codes "Sales") ∷ [])
    ∷ (named (codes "Year") ∷ named (codes "Market") ∷ named (codes "Year") ∷ amounts_at (codes "Sales") ∷ []) ∷ []) ≡ (Err 6 ∷ Err 6 ∷ Err 6 ∷ [])
unfolding find seats
rule_6 = refl
