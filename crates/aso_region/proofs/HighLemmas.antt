-- A stored member whose data leaves have no row of ordinals stands high in a stored hierarchy behind the first.
use Rattle.std.specs.Prelude.{slice_index, if◌then◌else◌}
use Rattle.std.specs.List.{filter, fold, range_with_len}
use Rattle.std.proofs.Common.{◌≡◌, ◌∙◌, ℕ, zero, suc, ◌+◌, ◌-◌, ◌<◌, ◌≤◌, ◌&&◌, ◌||◌, ⊎_elim, eqb, max, Bool, true, false, not, List, [], ◌∷◌, drop, length, map, None, refl, sym, ap, arith, true≢false, subst}
use Rattle.std.proofs.lemmas.Bool.{cases_lt, eqb-true}
use Rattle.aso_tree.specs.Trees.{height, is_leaf, IsTree}
use Rattle.aso_tree.proofs.Ends.{childless, leaf_by_next}
use Rattle.aso_tree.proofs.Heights.{height_above}
use Rattle.aso_outline.specs.declared.draft.Draft.{Draft}
use Rattle.aso_outline.specs.declared.draft.DraftMember.{DraftMember}
use Rattle.aso_outline.specs.declared.seat.Seat.{Seat}
use Rattle.aso_outline.specs.declared.seat.Seat.TheVariants.{Whole, Inner, Carried}
use Rattle.aso_outline.specs.Classes.{has_range}
use Rattle.aso_outline.specs.Heights.{top_of}
use Rattle.aso_outline.specs.Members.{dim_at, is_childless, is_computed, is_dynamic, member_is, parents_of, past_labels, resolve, tree}
use Rattle.aso_outline.specs.Numbers.{IsSeat}
use Rattle.aso_outline.specs.Parents.{one_parent_each}
use Rattle.aso_outline.specs.Rules.{breaks_kinds, broken, has_formula, is_shared, is_stored_kind}
use Rattle.aso_outline.proofs.AtSeats.{none_at}
use Rattle.aso_outline.proofs.Kept.{has_trees}
use Rattle.aso_outline.proofs.PlacedLeaves.{kept_kinds}
use Rattle.aso_outline.proofs.Rooted.{kept_labels, kept_trees, resolved_there}

-- ---- marks

or_first : (a b : Bool) → (a || b) ≡ false → a ≡ false
or_first true b h = absurd (true≢false h)
or_first false b h = refl

or_second : (a b : Bool) → (a || b) ≡ false → b ≡ false
or_second true b h = absurd (true≢false h)
or_second false b h = h

-- a member behind the first hierarchy that is neither shared nor computed has a child
has_child : (dynamic kind childless shared formula : Bool) → shared ≡ false → formula ≡ false → (dynamic && not childless) ≡ false
    → not ((dynamic || kind) && (not (true && childless) || (shared || (dynamic && formula)))) ≡ false → childless ≡ false
has_child dynamic kind false shared formula s f c h = refl
has_child true kind true true formula s f c h = absurd (true≢false s)
has_child true kind true false true s f c h = absurd (true≢false f)
has_child true kind true false false s f c h = absurd (true≢false h)
has_child false kind true true formula s f c h = absurd (true≢false s)
has_child false true true false formula s f c h = absurd (true≢false h)
has_child false false true false formula s f c h = absurd (true≢false h)

not_dynamic : (dynamic childless : Bool) → childless ≡ false → (dynamic && not childless) ≡ false → dynamic ≡ false
not_dynamic false childless l c = refl
not_dynamic true true l c = absurd (true≢false l)
not_dynamic true false l c = absurd (true≢false c)

-- ---- heights

not_leaf_high : (parents : List ℕ) (tree : IsTree parents) (i : ℕ) → i < length parents → is_leaf parents i ≡ false → 1 ≤ height parents i
not_leaf_high parents tree i low open_below =
    ⊎_elim
    (λ (next : i + 1 < length parents).
    let child : not (eqb (slice_index parents (i + 1)) i) ≡ false = sym (leaf_by_next parents tree i (i + 1) refl next) ∙ open_below in
    let at : slice_index parents (i + 1) ≡ i = eqb-true (slice_index parents (i + 1)) i (not_not (eqb (slice_index parents (i + 1)) i) child) in
    let above : height parents (i + 1) < height parents i = height_above parents (i + 1) i (sym at) (omega arith) next in
    omega (arith, above))
    (λ (last : length parents ≤ i + 1). absurd (true≢false (sym (childless parents tree i (i + 1) refl low (λ next _. absurd (omega (arith, next, last)))) ∙ open_below)))
    (cases_lt (i + 1) (length parents))
  where
    not_not : (b : Bool) → not b ≡ false → b ≡ true
    not_not true h = refl
    not_not false h = absurd (true≢false h)

-- one of those that pass is at most the greatest
most : (xs : List ℕ) (b : ℕ) → b ≤ fold max b xs
most [] b = omega arith
most (x ∷ xs) b = omega (arith, most xs (max b x))

reached : (f : ℕ → ℕ) (t : ℕ → Bool) (n a b k : ℕ) → a ≤ k → k < a + n → t k ≡ true → f k ≤ fold max b (map f (filter t (range_with_len a n)))
reached f t zero a b k low high pass = absurd (omega (arith, low, high))
reached f t (suc n) a b k low high pass = ⊎_elim (λ (here : a < k). by_test (t a) (λ c. reached f t n (a + 1) c k (omega (arith, here)) (omega (arith, high)) pass)) (λ (there : k ≤ a). at_first (omega (arith, low, there))) (cases_lt a k)
  where
    by_test : (x : Bool) → ((c : ℕ) → f k ≤ fold max c (map f (filter t (range_with_len (a + 1) n)))) → f k ≤ fold max b (map f (if x then a ∷ filter t (range_with_len (a + 1) n) else filter t (range_with_len (a + 1) n)))
    by_test true rest = rest (max b (f a))
    by_test false rest = rest b

    first_passes : (x : Bool) → x ≡ true → f a ≤ fold max b (map f (if x then a ∷ filter t (range_with_len (a + 1) n) else filter t (range_with_len (a + 1) n)))
    first_passes true is = omega (arith, most (map f (filter t (range_with_len (a + 1) n))) (max b (f a)))
    first_passes false is = absurd (true≢false (sym is))

    at_first : k ≡ a → f k ≤ fold max b (map f (filter t (range_with_len a (suc n))))
    at_first same = let is : f k ≡ f a = ap f same in omega (arith, is, first_passes (t a) (sym (ap t same) ∙ pass))

-- ---- label-only members

past_later : (xs : List DraftMember) (i : ℕ) → i ≤ past_labels xs i
past_later [] i = omega arith
past_later (m ∷ xs) i = by_label m.label_only (past_later xs (suc i))
  where
    by_label : (b : Bool) → suc i ≤ past_labels xs (suc i) → i ≤ (if b then past_labels xs (suc i) else i)
    by_label true rest = omega (arith, rest)
    by_label false rest = omega arith

-- what is come to behind label-only members is none of them
past_plain : (xs : List DraftMember) (i k : ℕ) → past_labels xs i ≡ i + k → k < length xs → member_is (λ m. not m.label_only) xs k ≡ true
past_plain [] i k is low = absurd (omega (arith, low))
past_plain (m ∷ xs) i zero is low = by_label m.label_only is
  where
    by_label : (b : Bool) → (if b then past_labels xs (suc i) else i) ≡ i + 0 → not b ≡ true
    by_label true e = absurd (omega (arith, e, past_later xs (suc i)))
    by_label false e = refl
past_plain (m ∷ xs) i (suc k) is low = by_label m.label_only is (λ e. past_plain xs (suc i) k e (omega (arith, low)))
  where
    by_label : (b : Bool) → (if b then past_labels xs (suc i) else i) ≡ i + suc k → (past_labels xs (suc i) ≡ suc i + k → member_is (λ m. not m.label_only) xs k ≡ true) → member_is (λ m. not m.label_only) xs k ≡ true
    by_label true e rest = rest (omega (arith, e))
    by_label false e rest = absurd (omega (arith, e))

drop_test : (t : DraftMember → Bool) (ms : List DraftMember) (i k j : ℕ) → j ≡ i + k → member_is t (drop i ms) k ≡ member_is t ms j
drop_test t ms zero k j e = ap (member_is t ms) (omega (arith, e))
drop_test t [] (suc i) k j e = refl
drop_test t (m ∷ ms) (suc i) k zero e = absurd (omega (arith, e))
drop_test t (m ∷ ms) (suc i) k (suc j) e = drop_test t ms i k j (omega (arith, e))

drop_long : (ms : List DraftMember) (i : ℕ) → length (drop i ms) ≡ length ms - i
drop_long ms zero = omega arith
drop_long [] (suc i) = omega arith
drop_long (m ∷ ms) (suc i) = omega (arith, drop_long ms i)

-- a label-only member stands for one that isn't
plain_at : (ms : List DraftMember) (i p : ℕ) → past_labels (drop i ms) i ≡ p → p < length ms → member_is (λ m. not m.label_only) ms p ≡ true
plain_at ms i p is low =
    let at : i ≤ p = omega (arith, past_later (drop i ms) i, is) in
    sym (drop_test (λ m. not m.label_only) ms i (p - i) p (omega (arith, at)))
    ∙ past_plain (drop i ms) i (p - i) (omega (arith, is, at)) (omega (arith, drop_long ms i, at, low))

place_is : (d h i j g k : ℕ) → Inner d h i ≡ Inner j g k → (h ≡ g) × (i ≡ k)
place_is d h i j g k e = (cc, cc)

plain_resolved : (o : Draft) (s : Seat) (d h i : ℕ) → resolve o s ≡ Inner d h i → i < length (tree (dim_at o d) h) → member_is (λ m. not m.label_only) (tree (dim_at o d) h) i ≡ true
plain_resolved o (Whole e) d h i is low =
    let dim : e ≡ d = cc in
    let hier : 0 ≡ h = cc in
    let at : past_labels (tree (dim_at o e) 0) 0 ≡ i = cc in
    plain_at (tree (dim_at o d) h) 0 i (ap (λ (t : List DraftMember). past_labels t 0) (ap (λ (x : ℕ). tree (dim_at o x) h) (sym dim) ∙ ap (tree (dim_at o e)) (sym hier)) ∙ at) low
plain_resolved o (Inner e g j) d h i is low =
    let dim : e ≡ d = cc in
    let hier : g ≡ h = cc in
    let at : past_labels (drop j (tree (dim_at o e) g)) j ≡ i = cc in
    plain_at (tree (dim_at o d) h) j i (ap (λ (t : List DraftMember). past_labels (drop j t) j) (ap (λ (x : ℕ). tree (dim_at o x) h) (sym dim) ∙ ap (tree (dim_at o e)) (sym hier)) ∙ at) low
plain_resolved o (Carried a j) d h i is low = cc

-- ---- the member

-- it stands in a stored hierarchy behind the first, above its leaves
pub record IsHigh (o : Draft) (d h i : ℕ) : Type 0 where
  pub alternate : 0 < h
  pub stored : is_dynamic o (Inner d h i) ≡ false
  pub high : 1 ≤ height (parents_of (tree (dim_at o d) h)) i
  pub top : 1 ≤ top_of o d h

pub high_member : (o : Draft) → broken o ≡ None → (s : Seat) → IsSeat o s → is_computed o s ≡ false → (d h i : ℕ) → resolve o s ≡ Inner d h i → has_range o (Inner d h i) 0 ≡ false → IsHigh o d h i
high_member o kept s there stored d zero i is none = absurd (true≢false none)
high_member o kept s there stored d (suc h) i is none =
    let t : List DraftMember = tree (dim_at o d) (suc h) in
    let seat : Seat = Inner d (suc h) i in
    let at : IsSeat o seat = subst (IsSeat o) is (resolved_there o (has_trees o kept) (kept_trees o kept) (kept_labels o kept) s there) in
    let shared : is_shared o seat ≡ false = or_second (eqb (suc h) 0) (is_shared o seat) none in
    let plain : (has_formula o seat || (is_dynamic o seat && not (is_childless o seat))) ≡ false = sym (ap (λ (x : Seat). has_formula o x || (is_dynamic o x && not (is_childless o x))) is) ∙ stored in
    let formula : has_formula o seat ≡ false = or_first (has_formula o seat) _ plain in
    let open_below : (is_dynamic o seat && not (is_childless o seat)) ≡ false = or_second (has_formula o seat) _ plain in
    let kind : breaks_kinds o seat ≡ false = none_at o (breaks_kinds o) (kept_kinds o kept) seat at.2 in
    let child : is_childless o seat ≡ false = has_child (is_dynamic o seat) (is_stored_kind o seat) (is_childless o seat) (is_shared o seat) (has_formula o seat) shared formula open_below kind in
    let high : 1 ≤ height (parents_of t) i = not_leaf_high (parents_of t) ((has_trees o kept).tree seat) i (omega (arith, at.2, one_parent_each t)) child in
    let most_high : height (parents_of t) i ≤ top_of o d (suc h) = reached (height (parents_of t)) (member_is (λ m. not m.label_only) t) (length t) 0 0 i (omega arith) (omega (arith, at.2)) (plain_resolved o s d (suc h) i is at.2) in
    record {
      alternate = omega arith;
      stored = not_dynamic (is_dynamic o seat) (is_childless o seat) child open_below;
      high = high;
      top = omega (arith, high, most_high);
    }
