-- What the reading of a rules file answers.
use Rattle.std.specs.Prelude.{◌≡◌, ℕ, List, Result, Some, Ok, Err, IsUtf8, ⊤}
use Rattle.serde_json.specs.Data.{Data}
use Rattle.serde_json.specs.Read.{read}
use Rattle.aso_outline.specs.declared.draft.Draft.{Draft}
use Rattle.aso_rules.specs.Rules.{rules_of}
use Rattle.aso_rules.specs.declared.rules.Rules.{Rules}
use Rattle.aso_rules.specs.declared.fault.RulesFault.{RulesFault}
use Rattle.aso_rules.specs.declared.fault.RulesFault.TheVariants.{NotJson, Rule, NoMemory}

-- the text is JSON, in UTF-8, and stands for this value
abbrev pub IsJson : List ℕ → Data → Type 0
IsJson text d = IsUtf8 text × (read text ≡ Some d)

-- the text is JSON that gives the rules
abbrev pub AreRules : Draft → List ℕ → Rules → Type 0
AreRules o text rules = (d : Data) × IsJson text d × (rules_of o d ≡ Ok rules)

-- the text is no JSON, or this rule is the first that it breaks
abbrev pub IsRefusal : Draft → List ℕ → RulesFault → Type 0
IsRefusal o text NotJson = (d : Data) → IsJson text d → ⊥
IsRefusal o text (Rule number) = (d : Data) × IsJson text d × (rules_of o d ≡ Err number)
IsRefusal o text (NoMemory e) = ⊤

-- the parts of a refusal: of the text, and of its value
abbrev pub IsNoJson : List ℕ → RulesFault → Type 0
IsNoJson text NotJson = (d : Data) → IsJson text d → ⊥
IsNoJson text (Rule number) = ⊥
IsNoJson text (NoMemory e) = ⊤

abbrev pub IsBroken : Result Rules ℕ → RulesFault → Type 0
IsBroken rules NotJson = ⊥
IsBroken rules (Rule number) = rules ≡ Err number
IsBroken rules (NoMemory e) = ⊤
