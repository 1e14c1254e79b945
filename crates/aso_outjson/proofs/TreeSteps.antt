-- The children of a member, which are printed one after another.
use Rattle.std.specs.Prelude.{◌==◌, slice_index, slice_get, option_map, unwrap_or, nat_lt}
use Rattle.std.specs.List.{filter, range_with_len}
use Rattle.std.proofs.Common.{◌≡◌, ◌∙◌, ℕ, zero, suc, ◌+◌, ◌-◌, ◌<◌, ◌≤◌, ◌^◌, ◌&&◌, Bool, true, false, eqb, List, [], ◌∷◌, ◌++◌, append-nil, append_assoc, length, map, Option, Some, None, refl, sym, ap, subst, arith, ⊎_elim, true≢false, eq-eqb}
use Rattle.std.proofs.lemmas.Bool.{eqb-true, lt-ltb, ltb-true}
use Rattle.serde_json.specs.Data.{Data, null}
use Rattle.aso_tree.specs.Trees.{depth, under, IsTree}
use Rattle.aso_tree.proofs.Classes.{le_or_lt}
use Rattle.aso_tree.proofs.Ends.{EndsAt, ends_by_count}
use Rattle.aso_tree.proofs.Paths.{depth_up}
use Rattle.aso_outline.specs.declared.draft.DraftMember.{DraftMember}
use Rattle.aso_outline.specs.Members.{parents_of}
use Rattle.aso_outline.specs.Parents.{one_parent_each}
use Rattle.aso_outjson.specs.Printing.{children_of, member_fields, member_value, object_of}
use Rattle.aso_outjson.proofs.Below.{IsBorder, kids, first_border, next_border, one_more, none_left, all_behind, child_within}
use Rattle.aso_outjson.proofs.TreeReads.{depth_bound, short_parents}

-- a member's children, each with those below it
abbrev pub child_value : List DraftMember → ℕ → ℕ → Data
child_value ms at j = member_value (31 - depth (parents_of ms) at) ms j

abbrev pub end_of : List DraftMember → ℕ → ℕ
end_of ms at = at + length (under (parents_of ms) at)

-- the children before a place have these values
abbrev pub Walks : List DraftMember → ℕ → List Data → ℕ → Type 0
Walks ms at below next =
    IsBorder (parents_of ms) at (end_of ms at) next
    × (below ++ map (child_value ms at) (kids (parents_of ms) at next) ≡ map (child_value ms at) (children_of ms at))

-- the member of this place is a child
abbrev pub is_next : List DraftMember → ℕ → ℕ → Bool
is_next ms at next = nat_lt next (length ms) && slice_index (parents_of ms) next == at

both_left : (a b : Bool) → (a && b) ≡ true → a ≡ true
both_left true b h = refl
both_left false b h = h

both_right : (a b : Bool) → (a && b) ≡ true → b ≡ true
both_right true b h = h
both_right false b h = absurd (true≢false (sym h))

both : (a b : Bool) → a ≡ true → b ≡ true → (a && b) ≡ true
both true b h k = k
both false b h k = h

module _ (ms : List DraftMember) (tree : IsTree (parents_of ms)) (short : length ms < 2 ^ 32) (at : ℕ) (low : at < length ms) where
  abbrev parents : List ℕ
  parents = parents_of ms

  long : length parents ≡ length ms
  long = one_parent_each ms

  short_list : length parents < 2 ^ 32
  short_list = short_parents ms tree short

  here : at < length parents
  here = omega (arith, long, low)

  e : EndsAt parents tree at (end_of ms at)
  e = ends_by_count parents tree at (length (under parents at)) here refl

  pub walk_begins : (next : ℕ) → next ≡ at + 1 → Walks ms at [] next
  walk_begins next is = (
    first_border parents tree short_list at (end_of ms at) e next is,
    ap (map (child_value ms at)) (sym (ap (λ k. filter (λ j. slice_index parents j == at) (range_with_len 0 k)) (sym long) ∙ all_behind parents tree short_list at (end_of ms at) e next is)),
  )

  child_there : (next : ℕ) → is_next ms at next ≡ true → (next < length parents) × (slice_index parents next ≡ at)
  child_there next is = (
    omega (arith, long, ltb-true next (length ms) (both_left (nat_lt next (length ms)) _ is)),
    eqb-true _ _ (both_right (nat_lt next (length ms)) _ is),
  )

  pub walk_goes : (below new : List Data) (next after : ℕ) (value : Data) → Walks ms at below next → is_next ms at next ≡ true → value ≡ member_value (32 - depth parents next) ms next → after ≡ end_of ms next → new ≡ below ++ value ∷ []
      → Walks ms at new after
  walk_goes below new next after value walked is value_is after_is new_is =
      let there = child_there next is in
      let ends : EndsAt parents tree next (end_of ms next) = ends_by_count parents tree next (length (under parents next)) there.0 refl in
      let before : next < end_of ms at = child_within parents tree short_list at (end_of ms at) e next there.0 there.1 in
      let border = next_border parents tree short_list at (end_of ms at) e next (end_of ms next) walked.0 before ends in
      let deeper : 31 - depth parents at ≡ 32 - depth parents next = omega (arith, depth_up parents next at (sym there.1) walked.0.0) in
      let same : value ≡ child_value ms at next = value_is ∙ ap (λ n. member_value n ms next) (sym deeper) in
      subst (λ k. Walks ms at new k) (sym after_is) (
        border,
        ap (λ ds. ds ++ map (child_value ms at) (kids parents at (end_of ms next))) (new_is ∙ ap (λ d. below ++ d ∷ []) same)
            ∙ (append_assoc below (child_value ms at next ∷ []) (map (child_value ms at) (kids parents at (end_of ms next)))
            ∙ (ap (λ ks. below ++ map (child_value ms at) ks) (sym (one_more parents tree short_list at (end_of ms at) e next (end_of ms next) walked.0 before ends)) ∙ walked.1)),
      )

  -- what stands below a child ends behind it
  pub goes_past : (next : ℕ) → is_next ms at next ≡ true → (next < end_of ms next) × (next < length ms)
  goes_past next is = let there = child_there next is in ((ends_by_count parents tree next (length (under parents next)) there.0 refl).low, omega (arith, there.0, long))

  pub walk_ends : (below : List Data) (next : ℕ) → Walks ms at below next → is_next ms at next ≡ false → next ≡ end_of ms at
  walk_ends below next walked none =
      ⊎_elim
      (λ (past : end_of ms at ≤ next). omega (arith, past, walked.0.1))
      (λ (before : next < end_of ms at).
      absurd (true≢false (sym (both (nat_lt next (length ms)) (slice_index parents next == at) (lt-ltb next (length ms) (omega (arith, before, e.fits, long))) (eq-eqb _ _ (walked.0.2 before))) ∙ none)))
      (le_or_lt (end_of ms at) next)

  pub all_walked : (below : List Data) (next : ℕ) (m : DraftMember) → Walks ms at below next → is_next ms at next ≡ false → slice_get ms at ≡ Some m → object_of (member_fields m below) ≡ member_value (32 - depth parents at) ms at
  unfolding member_value
  all_walked below next m walked none there =
      let last : next ≡ end_of ms at = walk_ends below next walked none in
      let all : below ≡ map (child_value ms at) (children_of ms at) =
      sym (append-nil below)
      ∙ (ap (λ ks. below ++ map (child_value ms at) ks) (sym (ap (kids parents at) last ∙ none_left parents tree short_list at (end_of ms at) e)) ∙ walked.1) in
      let deep : 32 - depth parents at ≡ suc (31 - depth parents at) = omega (arith, depth_bound ms tree short at low) in
      ap (λ ds. object_of (member_fields m ds)) all
      ∙ (ap (λ o. unwrap_or (option_map (λ x. object_of (member_fields x (map (child_value ms at) (children_of ms at)))) o) null) (sym there) ∙ ap (λ n. member_value n ms at) (sym deep))
