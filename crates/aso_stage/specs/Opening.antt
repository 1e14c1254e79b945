-- What an opening that is refused answers, and what a crash leaves of an opening.
use Rattle.std.specs.Prelude.{◌≡◌, ℕ, ◌≤◌, List, [], ◌∷◌, ◌++◌, Option, codes}
use Rattle.std.specs.Fmt.{decimal}
use Rattle.aso_num.specs.declared.status.Status.{Status}
use Rattle.aso_num.specs.declared.status.Status.TheVariants.{Damaged, Disk}
use Rattle.aso_catalog.specs.Image.{SomeImage}
use Rattle.aso_catalog.specs.Opening.{IsDamage}
use Rattle.aso_catalog.specs.declared.fault.CatalogFault.{CatalogFault}
use Rattle.aso_catalog.specs.declared.fault.CatalogFault.TheVariants.{Short, BadArea, Twin, Fault, NoMemory}

abbrev pub short_line : ℕ → List ℕ
short_line size = codes "DAMAGED catalog size " ++ decimal size ++ 10 ∷ []

abbrev pub area_line : ℕ → ℕ → List ℕ
area_line area at = codes "DAMAGED area " ++ decimal area ++ codes " byte " ++ decimal at ++ 10 ∷ []

abbrev pub twin_line : ℕ → List ℕ
twin_line layout = codes "DAMAGED twin layout " ++ decimal layout ++ 10 ∷ []

abbrev pub fault_line : List ℕ
fault_line = codes "ERROR 0 301 disk fault\n"

-- ---- answers

-- what is printed where an opening is refused so; want of memory has no answer here
abbrev pub IsRefusal : CatalogFault → Status → List ℕ → Type 0
IsRefusal (Short size) status line = (status ≡ Damaged) × (line ≡ short_line size)
IsRefusal (BadArea area at) status line = (status ≡ Damaged) × (line ≡ area_line area at)
IsRefusal (Twin layout) status line = (status ≡ Damaged) × (line ≡ twin_line layout)
IsRefusal Fault status line = (status ≡ Disk) × (line ≡ fault_line)
IsRefusal NoMemory status line = ⊥

-- the image is damaged so that this is printed
abbrev pub TellsDamage : List ℕ → List ℕ → Type 0
TellsDamage line image = (fault : CatalogFault) × IsDamage image fault × IsRefusal fault Damaged line

-- A catalog whose device tells these bytes, where it tells any, is damaged, or the device failed.
abbrev pub Unopened : Type 0 → Option (List ℕ) → Status → List ℕ → Type 0
Unopened failed told Damaged line = SomeImage told (TellsDamage line)
Unopened failed told Disk line = failed × (line ≡ fault_line)
Unopened failed told _ line = ⊥

-- ---- crashes

module _ {D : Type 0} (moment : D → ℕ) (left : D → ℕ → List ℕ → Type 0) where
  -- the past stays, and a crash since then leaves what one at the start might have left
  pub record IsUntouched (old new : D) : Type 0 where
    pub later : moment old ≤ moment new
    pub past : (k : ℕ) (c : List ℕ) → k ≤ moment old → left new k c → left old k c
    pub since : (k : ℕ) (c : List ℕ) → moment old ≤ k → k ≤ moment new → left new k c → left old (moment old) c

  -- up to the sync of the opening a crash leaves what one at the start might have left, and from it on what has P
  pub record IsOpenedFrom (old new : D) (P : ℕ → List ℕ → Type 0) : Type 0 where
    pub at : ℕ
    pub from : moment old ≤ at
    pub to : at ≤ moment new
    pub past : (k : ℕ) (c : List ℕ) → k ≤ moment old → left new k c → left old k c
    pub before : (k : ℕ) (c : List ℕ) → moment old ≤ k → k ≤ at → left new k c → left old (moment old) c
    pub since : (k : ℕ) (c : List ℕ) → at ≤ k → k ≤ moment new → left new k c → P k c
