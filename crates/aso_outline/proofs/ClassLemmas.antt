-- Data leaves by ordinal, and the levels of a hierarchy.
use Rattle.std.specs.Prelude.{slice_get, slice_index, if◌then◌else◌, IfSome}
use Rattle.std.specs.Option.{option_and_then}
use Rattle.std.specs.List.{filter, position, range_with_len}
use Rattle.std.proofs.Common.{◌≡◌, ◌∙◌, ℕ, zero, suc, ◌+◌, ◌-◌, ◌<◌, ◌≤◌, ◌^◌, Bool, true, false, not, cond, List, ◌∷◌, ◌++◌, length, get_or, Option, Some, None, refl, sym, ap, arith, length-append}
use Rattle.std.proofs.lemmas.List.Quantifiers.{position-Some}
use Rattle.std.proofs.lemmas.Option.{get_or_from_slice_get, none-some}
use Rattle.std.proofs.lemmas.List.Elements.{filter-append}
use Rattle.aso_tree.specs.Trees.{class_count, class_of, classes, height, is_leaf, places_of, IsTree}
use Rattle.aso_tree.proofs.Children.{parent_before}
use Rattle.aso_tree.proofs.Classes.{range_split}
use Rattle.aso_tree.proofs.Heights.{height_up}
use Rattle.aso_outline.specs.declared.draft.Draft.{Draft}
use Rattle.aso_outline.specs.declared.draft.DraftMember.{DraftMember}
use Rattle.aso_outline.specs.declared.seat.Seat.TheVariants.{Inner}
use Rattle.aso_outline.specs.Classes.{class_at, classes_at, leaf_count, leaf_of, leaf_place, shared_leaf, sharer_of}
use Rattle.aso_outline.specs.Heights.{top_height}
use Rattle.aso_outline.specs.Leaves.{is_data_place, ordinal_in}
use Rattle.aso_outline.specs.Members.{Name, data_leaves, dim_at, leaf_names, member_is, names_at, parents_of, same_name, seats, tree}
use Rattle.aso_outline.specs.Parents.{one_parent_each}
use Rattle.aso_outline.specs.Rules.{breaks_sharing, name_at, shares}
use Rattle.aso_outline.proofs.LeafNames.{names_long, some_at}
use Rattle.aso_outline.proofs.Nexts.{bounded, position_within}
use Rattle.aso_outline.proofs.Smalls.{and_left}
use Rattle.aso_outline.proofs.TableLemmas.{count_more}
use Rattle.aso_outline.proofs.Unique.{shared_is_leaf}

-- ---- counts of places that pass

pub passes_few : (p : ℕ → Bool) (n a : ℕ) → length (filter p (range_with_len a n)) ≤ n
passes_few p zero a = omega arith
passes_few p (suc n) a = by_test (p a) (passes_few p n (a + 1))
  where
    by_test : (b : Bool) → length (filter p (range_with_len (a + 1) n)) ≤ n → length (cond b (a ∷ filter p (range_with_len (a + 1) n)) (filter p (range_with_len (a + 1) n))) ≤ suc n
    by_test true rest = omega (arith, rest)
    by_test false rest = omega (arith, rest)

-- what passes at a place passes
pub passes_there : (p : ℕ → Bool) (n a k d : ℕ) → k < length (filter p (range_with_len a n)) → p (get_or (filter p (range_with_len a n)) k d) ≡ true
passes_there p zero a k d low = absurd (omega (arith, low))
passes_there p (suc n) a k d low = by_test (p a) refl k (λ j less. passes_there p n (a + 1) j d less) low
  where
    by_test : (b : Bool) → p a ≡ b → (k : ℕ) → ((j : ℕ) → j < length (filter p (range_with_len (a + 1) n)) → p (get_or (filter p (range_with_len (a + 1) n)) j d) ≡ true)
        → k < length (cond b (a ∷ filter p (range_with_len (a + 1) n)) (filter p (range_with_len (a + 1) n))) → p (get_or (cond b (a ∷ filter p (range_with_len (a + 1) n)) (filter p (range_with_len (a + 1) n))) k d) ≡ true
    by_test true is zero rest low = is
    by_test true is (suc k) rest low = rest k (omega (arith, low))
    by_test false is k rest low = rest k low

fewer : (p : ℕ → Bool) (i n : ℕ) → i ≤ n → length (filter p (range_with_len 0 i)) ≤ length (filter p (range_with_len 0 n))
fewer p i n le =
    let sum : i + (n - i) ≡ n = omega (arith, le) in
    let parts : filter p (range_with_len 0 n) ≡ filter p (range_with_len 0 i) ++ filter p (range_with_len i (n - i)) =
    ap (λ k. filter p (range_with_len 0 k)) (sym sum) ∙ (ap (filter p) (range_split i (n - i) 0 i (omega arith)) ∙ filter-append p (range_with_len 0 i) (range_with_len i (n - i))) in
    omega (arith, ap length parts, length-append (filter p (range_with_len 0 i)) (filter p (range_with_len i (n - i))))

-- an ordinal is below the count
pub ordinal_below : (ms : List DraftMember) (i k : ℕ) → i < length ms → Some k ≡ ordinal_in ms i → k < length (filter (is_data_place ms) (places_of ms))
ordinal_below ms i k low is = by_test (is_data_place ms i) refl is
  where
    by_test : (b : Bool) → is_data_place ms i ≡ b → Some k ≡ (if b then Some (length (filter (is_data_place ms) (range_with_len 0 i))) else None) → k < length (filter (is_data_place ms) (places_of ms))
    by_test true pass here =
        let same : k ≡ length (filter (is_data_place ms) (range_with_len 0 i)) = cc in
        let more : length (filter (is_data_place ms) (range_with_len 0 (i + 1))) ≡ length (filter (is_data_place ms) (range_with_len 0 i)) + 1 = count_more (is_data_place ms) i ∙ ap (λ (b : Bool). length (filter (is_data_place ms) (range_with_len 0 i)) + cond b 1 0) pass in
        let most : length (filter (is_data_place ms) (range_with_len 0 (i + 1))) ≤ length (filter (is_data_place ms) (places_of ms)) = fewer (is_data_place ms) (i + 1) (length ms) (omega (arith, low)) in
        omega (arith, same, more, most)
    by_test false pass here = absurd (none-some k (sym here))

-- ---- hierarchies but the first

pub leaf_of_alternate : (o : Draft) (d h i : ℕ) → 0 < h → leaf_of o (Inner d h i) ≡ shared_leaf o d h i
leaf_of_alternate o d zero i some = absurd (omega (arith, some))
leaf_of_alternate o d (suc h) i some = refl

pub leaf_place_alternate : (o : Draft) (d h leaf : ℕ) → 0 < h → leaf_place o d h leaf ≡ sharer_of o d h leaf
leaf_place_alternate o d zero leaf some = absurd (omega (arith, some))
leaf_place_alternate o d (suc h) leaf some = refl

-- a shared leaf is one of the data leaves
pub shared_below : (o : Draft) (d h i k : ℕ) → Some k ≡ shared_leaf o d h i → k < leaf_count o d
unfolding leaf_names
shared_below o d h i k is =
    let t = tree (dim_at o d) 0 in
    let long : length (names_at t (data_leaves (dim_at o d))) ≡ leaf_count o d = names_long t (is_data_place t) (length t) (omega arith) in
    let low : k < length (names_at t (data_leaves (dim_at o d))) = by_test (member_is (λ m. m.shared) (tree (dim_at o d) h) i) is in
    omega (arith, low, long)
  where
    by_test : (b : Bool) → Some k ≡ (if b then position (same_name (name_at o (Inner d h i))) (names_at (tree (dim_at o d) 0) (data_leaves (dim_at o d))) else None) → k < length (names_at (tree (dim_at o d) 0) (data_leaves (dim_at o d)))
    by_test true here = position_within (same_name (name_at o (Inner d h i))) (names_at (tree (dim_at o d) 0) (data_leaves (dim_at o d))) k here
    by_test false here = absurd (none-some k (sym here))

-- ---- levels from 1 on

pub class_high : (o : Draft) (d h level leaf : ℕ) → 0 < level → class_at o d h level leaf ≡ option_and_then (class_of (parents_of (tree (dim_at o d) h)) level) (leaf_place o d h leaf)
class_high o d h zero leaf some = absurd (omega (arith, some))
class_high o d h (suc level) leaf some = refl

pub classes_high : (o : Draft) (d h level : ℕ) → 0 < level → classes_at o d h level ≡ class_count (parents_of (tree (dim_at o d) h)) level
classes_high o d h zero some = absurd (omega (arith, some))
classes_high o d h (suc level) some = refl

-- a class is one of the level's
pub class_below : (parents : List ℕ) (level i k : ℕ) → class_of parents level i ≡ Some k → k < class_count parents level
unfolding class_of
class_below parents level i k is = position_within _ (classes parents level) k (sym is)

-- ---- the top

-- no member is higher than the root
root_highest : (parents : List ℕ) → IsTree parents → length parents < 2 ^ 32 → (n k : ℕ) → k ≤ n → k < length parents → height parents k ≤ height parents 0
root_highest parents tree short zero k le low = let same : k ≡ 0 = omega (arith, le) in let is : height parents k ≡ height parents 0 = ap (height parents) same in omega (arith, is)
root_highest parents tree short (suc n) zero le low = omega arith
root_highest parents tree short (suc n) (suc k) le low =
    let before : slice_index parents (suc k) < suc k = parent_before parents tree short k low in
    let up : height parents (suc k) ≤ height parents (slice_index parents (suc k)) = height_up parents (suc k) (slice_index parents (suc k)) refl before low in
    let rest : height parents (slice_index parents (suc k)) ≤ height parents 0 = root_highest parents tree short n (slice_index parents (suc k)) (omega (arith, before, le)) (omega (arith, before, low)) in
    omega (arith, up, rest)

pub top_within : (ms : List DraftMember) → IsTree (parents_of ms) → length ms < 2 ^ 32 → top_height ms ≤ height (parents_of ms) 0
top_within ms tree short =
    let long : length (parents_of ms) ≡ length ms = one_parent_each ms in
    bounded (height (parents_of ms)) (member_is (λ m. not m.label_only) ms) (length ms) 0 0 (height (parents_of ms) 0) (omega arith)
    (λ k lo hi. root_highest (parents_of ms) tree (omega (arith, short, long)) k k (omega arith) (omega (arith, hi, long)))

-- ---- the place of a member that shares

pub sharer_place : (o : Draft) (d h leaf k : ℕ) → Some k ≡ sharer_of o d h leaf → (name : Name) × (Some k ≡ position (shares name) (tree (dim_at o d) h))
sharer_place o d h leaf k is = by_name (slice_get (leaf_names (dim_at o d)) leaf) is
  where
    by_name : (x : Option Name) → Some k ≡ option_and_then (λ (name : Name). position (shares name) (tree (dim_at o d) h)) x → (name : Name) × (Some k ≡ position (shares name) (tree (dim_at o d) h))
    by_name None e = absurd (none-some k (sym e))
    by_name (Some name) e = (name, e)

pub sharer_is_leaf : (o : Draft) → position (breaks_sharing o) (seats o) ≡ None → (d h leaf k : ℕ) → Some k ≡ sharer_of o d h leaf → is_leaf (parents_of (tree (dim_at o d) h)) k ≡ true
sharer_is_leaf o sharing d h leaf k is =
    let t : List DraftMember = tree (dim_at o d) h in
    let r = sharer_place o d h leaf k is in
    let within : k < length t = position_within (shares r.0) t k r.1 in
    let m = some_at t k within in
    let found = position-Some (shares r.0) t k m.0 (sym r.1) in
    let pass : shares r.0 m.0 ≡ true = ap (shares r.0) (sym (get_or_from_slice_get t k m.0 m.0 m.1)) ∙ found.1 in
    shared_is_leaf o sharing d h k m.0 m.1 (and_left m.0.shared _ pass)

-- what holds of a value that is there
pub if_some : (P : ℕ → Type 0) (x : Option ℕ) → ((k : ℕ) → Some k ≡ x → P k) → IfSome x P
if_some P None h = tt
if_some P (Some k) h = h k refl
