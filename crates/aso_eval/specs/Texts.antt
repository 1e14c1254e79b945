-- Refusals as they are printed, behind the number of their statement.
use Rattle.std.specs.Prelude.{ℕ, List, ◌++◌, codes}
use Rattle.aso_num.specs.declared.value.Val.TheVariants.{Num}
use Rattle.aso_num.specs.Numbers.{value_text}
use Rattle.aso_spec.specs.Grid.{label}
use Rattle.aso_outtext.specs.Texts.{fault_text}
use Rattle.aso_query.specs.Texts as query
use Rattle.aso_eval.specs.declared.refusal.SheetRefusal.{SheetRefusal}
use Rattle.aso_eval.specs.declared.refusal.SheetRefusal.TheVariants.{Text, Names, Amount}

abbrev pub refusal_text : SheetRefusal → List ℕ
refusal_text (Text fault) = fault_text fault
refusal_text (Names refusal) = query.refusal_text refusal
refusal_text (Amount names sum) = codes "210 amount range: " ++ label names ++ codes ", " ++ value_text (Num sum)
