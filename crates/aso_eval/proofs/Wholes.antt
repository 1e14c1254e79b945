-- A sheet's refusal over its outline is that of its text.
use Rattle.std.proofs.Common.{◌≡◌, ℕ, List, subst}
use Rattle.aso_sheettext.specs.Sheet.{Sheet}
use Rattle.aso_outline.specs.declared.draft.Draft.{Draft}
use Rattle.aso_outtext.specs.Drafts.{draft_of}
use Rattle.aso_eval.specs.declared.refusal.EvalFault.{EvalFault}
use Rattle.aso_eval.specs.declared.refusal.EvalFault.TheVariants.{Refused, NoMemory}
use Rattle.aso_eval.specs.declared.refusal.SheetRefusal.TheVariants.{Text, Names, Amount}
use Rattle.aso_eval.specs.Faults.{HasRefusal}
use Rattle.aso_eval.specs.Sheets.{IsFitRefusal, IsRefusal, IsSheet}

module _ (text : List ℕ) (s : Sheet) (o : Draft) (said : IsSheet text s) (is : o ≡ draft_of s.outline) where
  pub fit_refused : (e : EvalFault) → HasRefusal (IsFitRefusal o s) e → HasRefusal (IsRefusal text) e
  fit_refused (Refused (Text fault)) h = absurd h
  fit_refused (Refused (Names r)) h = (s, said, subst (λ (d : Draft). IsFitRefusal d s (Names r)) is h)
  fit_refused (Refused (Amount names sum)) h = (s, said, subst (λ (d : Draft). IsFitRefusal d s (Amount names sum)) is h)
  fit_refused (NoMemory e) h = tt
