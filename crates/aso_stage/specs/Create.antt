-- What the making of a store answers, and what a crash leaves of it.
use Rattle.std.specs.Prelude.{◌≡◌, ◌⊎◌, ℕ, ◌<◌, Bool, true, false, List, [], ◌∷◌, ◌++◌, length, Option, codes}
use Rattle.std.specs.Fmt.{decimal}
use Rattle.aso_num.specs.declared.status.Status.{Status}
use Rattle.aso_num.specs.declared.status.Status.TheVariants.{Done, Refused, Disk, Exists}
use Rattle.aso_outline.specs.declared.draft.Draft.{Draft}
use Rattle.aso_outline.specs.Members.{seats}
use Rattle.aso_outline.specs.Rules.{key_bits}
use Rattle.aso_spec.specs.Grid.{error_line}
use Rattle.aso_outjson.specs.declared.fault.JsonFault.TheVariants.{NoMemory as JsonNoMemory}
use Rattle.aso_outtext.specs.declared.fault.TextFault.{TextFault}
use Rattle.aso_outtext.specs.declared.fault.TextFault.TheVariants.{Json, NoMemory}
use Rattle.aso_outtext.specs.Answers.{Gives, IsRefusal as IsOutlineRefusal}
use Rattle.aso_outtext.specs.Texts.{fault_text}
use Rattle.aso_catalog.specs.Image.{SomeImage}
use Rattle.aso_machine.specs.State.{new_store}
use Rattle.aso_stage.specs.Store.{Keeps, longest_text}
use Rattle.aso_stage.specs.Images.{HasNoStore, HasStore, Recovers}
use Rattle.aso_stage.specs.Opening.{IsOpenedFrom, IsUntouched, Unopened, fault_line}

-- ---- lines

abbrev pub created_line : Draft → List ℕ
created_line o = codes "CREATED " ++ o.app ++ 46 ∷ o.db ++ codes " members " ++ decimal (length (seats o)) ++ codes " bits " ++ decimal (key_bits o) ++ 10 ∷ []

-- ---- texts that aren't kept

-- the text is at fault, and memory isn't
abbrev pub is_of_text : TextFault → Bool
is_of_text (NoMemory e) = false
is_of_text (Json (JsonNoMemory e)) = false
is_of_text fault = true

-- it gives no outline, for this reason
pub record IsRefusedText (text line : List ℕ) : Type 0 where
  pub fault : TextFault
  pub of_text : is_of_text fault ≡ true
  pub refused : IsOutlineRefusal text fault
  pub is : line ≡ error_line 0 (fault_text fault)

-- it gives an outline, and is longer than one that is kept
pub record IsTooLong (text line : List ℕ) : Type 0 where
  pub outline : Draft
  pub gives : Gives text outline
  pub long : longest_text < length text
  pub is : line ≡ error_line 0 (codes "217 outline: too long " ++ decimal (length text))

-- ---- answers

abbrev pub MayBeMade : List ℕ → Type 0
MayBeMade text = (o : Draft) × Keeps text o

-- What making a store from an outline's text answers on a device that tells these bytes, where it tells any. `failed` is
-- that the device failed meanwhile.
abbrev pub CreateAnswer : Type 0 → Option (List ℕ) → List ℕ → Status → List ℕ → Type 0
CreateAnswer failed told text Done line = (o : Draft) × Keeps text o × SomeImage told HasNoStore × (line ≡ created_line o)
CreateAnswer failed told text Refused line = IsRefusedText text line ⊎ IsTooLong text line
CreateAnswer failed told text Exists line = MayBeMade text × SomeImage told HasStore × (line ≡ codes "EXISTS\n")
CreateAnswer failed told text status line = MayBeMade text × Unopened failed told status line

-- what the publish of the first record answers
abbrev pub IsFirstAnswer : Type 0 → Draft → Status → List ℕ → Type 0
IsFirstAnswer failed o Done line = line ≡ created_line o
IsFirstAnswer failed o Disk line = failed × (line ≡ fault_line)
IsFirstAnswer failed o _ line = ⊥

-- ---- crashes

-- it recovers to the store that is made of the text
abbrev pub IsCreated : List ℕ → List ℕ → Type 0
IsCreated text image = (o : Draft) × Keeps text o × Recovers image (new_store text o)

module _ {D : Type 0} (moment : D → ℕ) (left : D → ℕ → List ℕ → Type 0) where
  -- The device isn't written, or from the opening's sync on a crash leaves no store or the one that is made.
  abbrev pub CreateLeaves : Type 0 → List ℕ → D → D → Type 0
  CreateLeaves told text old new = IsUntouched moment left old new ⊎ IsOpenedFrom moment left old new (λ k c. told → HasNoStore c ⊎ IsCreated text c)
