-- The names that are shared in a tree, one member more.
use Rattle.std.specs.Prelude.{slice_get, unwrap_or, if◌then◌else◌}
use Rattle.std.specs.Option.{option_map}
use Rattle.std.specs.List.{list_any}
use Rattle.std.proofs.Common.{◌≡◌, ◌∙◌, ℕ, ◌+◌, ◌<◌, ◌≤◌, ◌||◌, ⊎_elim, Bool, true, false, eqb, List, length, take, get_or, Option, Some, None, refl, sym, ap, arith}
use Rattle.std.proofs.lemmas.Bool.{ne_eqb}
use Rattle.std.proofs.lemmas.List.{take_all}
use Rattle.std.proofs.lemmas.List.Folds.{list_any_more}
use Rattle.std.proofs.lemmas.Option.{slice_get_cases}
use Rattle.aso_outline.specs.declared.draft.Draft.{Draft}
use Rattle.aso_outline.specs.declared.draft.DraftMember.{DraftMember}
use Rattle.aso_outline.specs.declared.seat.Seat.{Seat}
use Rattle.aso_outline.specs.Members.{Name, has, place_of, tree_of}
use Rattle.aso_outline.specs.Rules.{shares}
use Rattle.aso_outline.proofs.AtSeats.{member_there}
use Rattle.aso_outline.proofs.Follows.{Follows}

-- the members of its tree before a member, and with it
abbrev pub before : Draft → Seat → List DraftMember
before o s = take (place_of s) (tree_of o s)

abbrev pub up_to : Draft → Seat → List DraftMember
up_to o s = take (place_of s + 1) (tree_of o s)

module _ {X : Type 0} (p : X → Bool) (xs : List X) (i : ℕ) where
  pub any_take : list_any p (take (i + 1) xs) ≡ (list_any p (take i xs) || unwrap_or (option_map p (slice_get xs i)) false)
  any_take =
      ⊎_elim
      (λ (here : (x : X) × (i < length xs) × (slice_get xs i ≡ Some x) × (get_or xs i x ≡ x)).
      list_any_more p xs i here.0 here.1 ∙ (ap (λ (x : X). list_any p (take i xs) || p x) here.3 ∙ sym (ap (λ (found : Option X). list_any p (take i xs) || unwrap_or (option_map p found) false) here.2)))
      (λ (past : (length xs ≤ i) × (slice_get xs i ≡ None)).
      ap (list_any p) (take_all (i + 1) xs (omega (arith, past.0)) ∙ sym (take_all i xs past.0))
      ∙ (or_none (list_any p (take i xs)) ∙ sym (ap (λ (found : Option X). list_any p (take i xs) || unwrap_or (option_map p found) false) past.1)))
      (slice_get_cases xs i).1
    where
      or_none : (b : Bool) → b ≡ (b || false)
      or_none true = refl
      or_none false = refl

module _ (o : Draft) (q : Name) where
  -- where a tree begins nothing is known; else what was known of its tree
  pub begun : (s t : Seat) (seen : Bool) → Follows o s t → seen ≡ list_any (shares q) (up_to o s) → (if eqb (place_of t) 0 then false else seen) ≡ list_any (shares q) (before o t)
  begun s t seen follows known =
      ⊎_elim
      (λ (first : place_of t ≡ 0). rw (first) refl)
      (λ (next : (tree_of o t ≡ tree_of o s) × (place_of t ≡ place_of s + 1)).
      let other : eqb (place_of t) 0 ≡ false = ne_eqb _ _ (λ (e : place_of t ≡ 0). omega (arith, e, next.1)) in
      ap (λ (b : Bool). if b then false else seen) other ∙ (known ∙ (ap (λ (k : ℕ). list_any (shares q) (take k (tree_of o s))) (sym next.1) ∙ ap (λ (ms : List DraftMember). list_any (shares q) (take (place_of t) ms)) (sym next.0))))
      follows

  pub one_more : (t : Seat) → (list_any (shares q) (before o t) || has (shares q) o t) ≡ list_any (shares q) (up_to o t)
  one_more t =
      ap (λ (found : Option DraftMember). list_any (shares q) (before o t) || unwrap_or (option_map (shares q) found) false) (member_there o t)
      ∙ sym (any_take (shares q) (tree_of o t) (place_of t))
