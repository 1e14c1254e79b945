-- What a listing has, and where it has been.
use Rattle.std.specs.Prelude.{◌≡◌, ℕ, true, List, ◌∷◌, map, Option, is_some}
use Rattle.std.specs.List.{list_all, list_any}
use Rattle.std.specs.Str.{bytes_eq}
use Rattle.aso_outline.specs.declared.draft.Draft.{Draft}
use Rattle.aso_outline.specs.declared.draft.Tuple.{Tuple}
use Rattle.aso_calc.specs.declared.listing.Listing.{Listing}
use Rattle.aso_calc.specs.Keys.{key_of}
use Rattle.aso_calc.specs.Needs.{has, reached_step, reached_within, with_attrs}
use Rattle.aso_calc.specs.Tables.{at}
use Rattle.aso_calc.specs.Values.{Own}

-- the tuples that were found, by their keys
abbrev pub HasKeys : Listing → Type 0
HasKeys l = (q : List ℕ) → is_some (at l.listed q) ≡ list_any (λ (s : Tuple). bytes_eq q (key_of s.base s.attrs)) l.found.items

-- all that is reached from where it has been was found
abbrev pub HasBeen : Draft → Own → Listing → Type 0
HasBeen o own l = (ranks : ℕ) (base : List ℕ) (attrs : List (Option ℕ)) → is_some (at l.visited (ranks ∷ key_of base attrs)) ≡ true
    → list_all (has l.found.items) (map (with_attrs attrs) (reached_step o own (reached_within ranks o own) base)) ≡ true

pub record Lists (o : Draft) (own : Own) (l : Listing) : Type 0 where
  pub keys : HasKeys l
  pub been : HasBeen o own l
