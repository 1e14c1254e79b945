-- What an outline that breaks no rule has.
use Rattle.std.specs.Prelude.{is_some, if◌then◌else◌}
use Rattle.std.specs.Option.{option_map}
use Rattle.std.proofs.Common.{◌≡◌, ℕ, Bool, true, false, List, ◌∷◌, Option, Some, None, refl}
use Rattle.aso_outline.specs.declared.draft.Draft.{Draft}
use Rattle.aso_outline.specs.Rules.{Rule, first_broken, of_members, of_places, of_trees, broken, unless, is_counted, has_counts, least, least_repeat, breaks_names, breaks_preorder}
use Rattle.aso_outline.specs.Small.{IsSmall, HasTrees}
use Rattle.aso_outline.proofs.AtSeats.{trees_of}
use Rattle.aso_outline.proofs.Smalls.{small, and_left}

by_answer : (n : ℕ) (r : Option ℕ) (rest : Option (ℕ × ℕ)) → (if is_some r then option_map (λ (member : ℕ). (n, member)) r else rest) ≡ None → (r ≡ None) × (rest ≡ None)
by_answer n None rest h = (refl, h)
by_answer n (Some member) rest h = cc

pub kept_first : (r : Rule) (rs : List Rule) (o : Draft) → first_broken (r ∷ rs) o ≡ None → (r.1 o ≡ None) × (first_broken rs o ≡ None)
kept_first r rs o h = by_answer r.0 (r.1 o) (first_broken rs o) h

pub kept_if : (b : Bool) → unless b ≡ None → b ≡ true
kept_if true h = refl
kept_if false h = cc

abbrev pub counted_rule : Rule
counted_rule = (1, λ o. unless (is_counted o))

pub is_small : (o : Draft) → broken o ≡ None → IsSmall o
unfolding broken
is_small o h =
    let counted : unless (is_counted o) ≡ None = (kept_first counted_rule of_members o h).0 in
    small o (and_left (has_counts o) _ (kept_if (is_counted o) counted))

pub has_trees : (o : Draft) → broken o ≡ None → HasTrees o
unfolding broken
has_trees o h =
    let members : first_broken of_members o ≡ None = (kept_first counted_rule of_members o h).1 in
    let places : first_broken of_places o ≡ None = (kept_first (3, least_repeat) of_places o (kept_first (2, least breaks_names) ((3, least_repeat) ∷ of_places) o members).1).1 in
    trees_of o (is_small o h) (kept_first (4, least breaks_preorder) of_trees o places).0
