-- The class of a node: the highest at or above it whose height is at most the level.
use Rattle.std.specs.Prelude.{slice_index, nat_le, is_some}
use Rattle.std.specs.Option.{option_map}
use Rattle.std.specs.List.{filter, range_with_len, last_or, position, list_any}
use Rattle.std.proofs.Common.{◌≡◌, ◌∙◌, ℕ, zero, suc, ◌+◌, ◌-◌, ◌<◌, ◌≤◌, Bool, true, false, cond, eqb, ltb, List, [], ◌∷◌, ◌++◌, length, Option, Some, None, refl, sym, ap, arith, ⊎_elim, ◌⊎◌, eq-eqb}
use Rattle.std.proofs.lemmas.Bool.{lt-ltb, le-ltb, le-leb, lt-leb, ne_eqb, ltb-true}
use Rattle.std.proofs.lemmas.List.Elements.{filter-append}
use Rattle.aso_tree.specs.Trees.{height, path, highest, is_at, classes, class_of, places_of}
use Rattle.aso_tree.specs.Levels.{is_class}
use Rattle.aso_tree.proofs.Paths.{path_step}
use Rattle.aso_tree.proofs.Ends.{either}
use Rattle.aso_tree.proofs.Heights.{height_up}
use Rattle.aso_tree.proofs.Positions.{position_append, position_cons, some_if_any, first_of}

none_of : (o : Option ℕ) → is_some o ≡ false → o ≡ None
none_of None h = refl
none_of (Some x) h = cc

-- none that passes a test of a range is among those of it that pass another
none_filtered : (q p : ℕ → Bool) (n a : ℕ) → ((k : ℕ) → a ≤ k → k < a + n → q k ≡ false) → list_any q (filter p (range_with_len a n)) ≡ false
none_filtered q p zero a each = refl
none_filtered q p (suc n) a each =
    ⊎_elim
    (λ (pass : p a ≡ true). rw (pass, each a (omega arith) (omega arith)) (none_filtered q p n (a + 1) (λ k lo hi. each k (omega (arith, lo)) (omega (arith, hi)))))
    (λ (fail : p a ≡ false). rw fail (none_filtered q p n (a + 1) (λ k lo hi. each k (omega (arith, lo)) (omega (arith, hi)))))
    (either (p a))

pub range_split : (m n a b : ℕ) → a + m ≡ b → range_with_len a (m + n) ≡ range_with_len a m ++ range_with_len b n
range_split zero n a b e =
    let same : a ≡ b = omega (arith, e) in
    let long : 0 + n ≡ n = omega arith in
    rw (same, long) refl
range_split (suc m) n a b e =
    let long : suc m + n ≡ suc (m + n) = omega arith in
    rw long (ap (λ (xs : List ℕ). a ∷ xs) (range_split m n (a + 1) b (omega (arith, e))))

differs : (i k : ℕ) → k < i → eqb i k ≡ false
differs i k low = ne_eqb i k (λ same. omega (arith, same, low))

first_again : (i : ℕ) (xs : List ℕ) → position (λ c. eqb i c) (i ∷ xs) ≡ Some 0
first_again i xs = position_cons (λ c. eqb i c) i xs ∙ ap (λ (b : Bool). cond b (Some 0) (option_map (λ (k : ℕ). suc k) (position (λ c. eqb i c) xs))) (eq-eqb i i refl)

-- the place, among those of a range that pass, of one that does
pub place_among : (p : ℕ → Bool) (n i : ℕ) → i < n → p i ≡ true → position (λ c. eqb i c) (filter p (range_with_len 0 n)) ≡ Some (length (filter p (range_with_len 0 i)))
place_among p n i low pass =
    let q : ℕ → Bool = λ c. eqb i c in
    let front : List ℕ = filter p (range_with_len 0 i) in
    let long : i + suc (n - suc i) ≡ n = omega (arith, low) in
    let parts : filter p (range_with_len 0 n) ≡ front ++ filter p (range_with_len i (suc (n - suc i))) =
    ap (λ k. filter p (range_with_len 0 k)) (sym long) ∙ (ap (filter p) (range_split i (suc (n - suc i)) 0 i (omega arith)) ∙ filter-append p (range_with_len 0 i) (range_with_len i (suc (n - suc i)))) in
    let back : filter p (range_with_len i (suc (n - suc i))) ≡ i ∷ filter p (range_with_len (i + 1) (n - suc i)) = rw pass refl in
    let before : position q front ≡ None = none_of _ (some_if_any q front ∙ none_filtered q p i 0 (λ k lo hi. differs i k (omega (arith, hi)))) in
    let here : position q (i ∷ filter p (range_with_len (i + 1) (n - suc i))) ≡ Some 0 = first_again i _ in
    ap (position q) (parts ∙ ap (λ xs. front ++ xs) back)
    ∙ (position_append q front (i ∷ filter p (range_with_len (i + 1) (n - suc i)))
    ∙ (ap (λ (o : Option ℕ). first_of o (option_map (λ (k : ℕ). length front + k) (position q (i ∷ filter p (range_with_len (i + 1) (n - suc i)))))) before
    ∙ (ap (λ (o : Option ℕ). first_of None (option_map (λ (k : ℕ). length front + k) o)) here ∙ ap (λ (k : ℕ). Some k) (omega arith))))

module _ (parents : List ℕ) (level : ℕ) where
  abbrev fits : ℕ → Bool
  fits a = nat_le (height parents a) level

  abbrev up : ℕ → List ℕ
  up i = cond (ltb (slice_index parents i) i) (path parents (slice_index parents i)) []

  none_above : (b : Bool) (p : ℕ) → (b ≡ true → filter fits (path parents p) ≡ []) → filter fits (cond b (path parents p) []) ≡ []
  none_above true p h = h refl
  none_above false p h = refl

  -- on the way up from a node that is too high all are
  none_fits : (n i : ℕ) → i ≤ n → i < length parents → level < height parents i → filter fits (path parents i) ≡ []
  none_fits zero i hn within high =
      let here : fits i ≡ false = lt-leb _ _ high in
      ap (filter fits) (path_step parents i) ∙ rw here (none_above _ _ (λ e. let below : slice_index parents i < i = ltb-true _ _ e in absurd (omega (arith, below, hn))))
  none_fits (suc n) i hn within high =
      let here : fits i ≡ false = lt-leb _ _ high in
      ap (filter fits) (path_step parents i) ∙ rw here (none_above _ _ (λ e.
      let below : slice_index parents i < i = ltb-true _ _ e in
      let higher : height parents i ≤ height parents (slice_index parents i) = height_up parents i (slice_index parents i) refl below within in
      none_fits n (slice_index parents i) (omega (arith, below, hn)) (omega (arith, below, within)) (omega (arith, higher, high))))

  pub highest_none : (i : ℕ) → i < length parents → level < height parents i → highest parents level i ≡ None
  highest_none i within high = ap (last_or None) (none_fits i i (omega arith) within high)

  -- the node itself, where it fits and its parent doesn't
  pub highest_self : (i : ℕ) → i < length parents → height parents i ≤ level → (slice_index parents i < i → level < height parents (slice_index parents i)) → highest parents level i ≡ Some i
  highest_self i within low above =
      let here : fits i ≡ true = le-leb _ _ low in
      let rest : filter fits (up i) ≡ [] = none_above _ _ (λ e.
      let below : slice_index parents i < i = ltb-true _ _ e in
      none_fits (slice_index parents i) (slice_index parents i) (omega arith) (omega (arith, below, within)) (above below)) in
      ap (λ (xs : List ℕ). last_or None (filter fits xs)) (path_step parents i) ∙ rw here (ap (λ (xs : List ℕ). last_or (Some i) xs) rest)

  -- what its parent has, where that fits
  pub highest_parent : (i : ℕ) → height parents i ≤ level → slice_index parents i < i → height parents (slice_index parents i) ≤ level → highest parents level i ≡ highest parents level (slice_index parents i)
  highest_parent i low below parent_low =
      let p : ℕ = slice_index parents i in
      let here : fits i ≡ true = le-leb _ _ low in
      let there : fits p ≡ true = le-leb _ _ parent_low in
      let is_below : ltb p i ≡ true = lt-ltb _ _ below in
      let first : filter fits (path parents p) ≡ p ∷ filter fits (up p) = ap (filter fits) (path_step parents p) ∙ rw there refl in
      ap (λ (xs : List ℕ). last_or None (filter fits xs)) (path_step parents i)
      ∙ (rw (here, is_below) (ap (last_or (Some i)) first ∙ sym (ap (last_or None) first)))

some_is : (a b : ℕ) → Some a ≡ Some b → a ≡ b
some_is a b e = cc

pub le_or_lt : (a b : ℕ) → (a ≤ b) ⊎ (b < a)
le_or_lt a b = grind arith

module _ (parents : List ℕ) (level : ℕ) where
  -- what a node has lies at or above it
  highest_within : (n i : ℕ) → i ≤ n → i < length parents → (c : ℕ) → highest parents level i ≡ Some c → c ≤ i
  highest_within zero i hn within c is =
      ⊎_elim
      (λ (low : height parents i ≤ level). let same : i ≡ c = some_is i c (sym (highest_self parents level i within low (λ below. absurd (omega (arith, below, hn)))) ∙ is) in omega (arith, same))
      (λ (high : level < height parents i). absurd (not_some c (sym (highest_none parents level i within high) ∙ is)))
      (le_or_lt (height parents i) level)
    where
      not_some : (c : ℕ) → None ≡ Some c → ⊥
      not_some c e = cc
  highest_within (suc n) i hn within c is =
      ⊎_elim
      (λ (low : height parents i ≤ level). ⊎_elim
      (λ (below : slice_index parents i < i). ⊎_elim
      (λ (parent_low : height parents (slice_index parents i) ≤ level).
      let above : c ≤ slice_index parents i = highest_within n (slice_index parents i) (omega (arith, below, hn)) (omega (arith, below, within)) c (sym (highest_parent parents level i low below parent_low) ∙ is) in
      omega (arith, above, below))
      (λ (parent_high : level < height parents (slice_index parents i)). let same : i ≡ c = some_is i c (sym (highest_self parents level i within low (λ _. parent_high)) ∙ is) in omega (arith, same))
      (le_or_lt (height parents (slice_index parents i)) level))
      (λ (root : i ≤ slice_index parents i). let same : i ≡ c = some_is i c (sym (highest_self parents level i within low (λ below. absurd (omega (arith, below, root)))) ∙ is) in omega (arith, same))
      (lt_or_le (slice_index parents i) i))
      (λ (high : level < height parents i). absurd (not_some c (sym (highest_none parents level i within high) ∙ is)))
      (le_or_lt (height parents i) level)
    where
      not_some : (c : ℕ) → None ≡ Some c → ⊥
      not_some c e = cc

      lt_or_le : (a b : ℕ) → (a < b) ⊎ (b ≤ a)
      lt_or_le a b = grind arith

  not_at : (i p : ℕ) → p < i → (o : Option ℕ) → ((c : ℕ) → o ≡ Some c → c ≤ p) → is_at i o ≡ false
  not_at i p below None lies = refl
  not_at i p below (Some c) lies = let above : c ≤ p = lies c refl in ne_eqb c i (λ same. omega (arith, same, above, below))

  pub no_class_high : (i : ℕ) → i < length parents → level < height parents i → is_class parents level i ≡ false
  no_class_high i within high = ap (is_at i) (highest_none parents level i within high)

  pub no_class_below : (i : ℕ) → i < length parents → height parents i ≤ level → slice_index parents i < i → height parents (slice_index parents i) ≤ level → is_class parents level i ≡ false
  no_class_below i within low below parent_low =
      ap (is_at i) (highest_parent parents level i low below parent_low)
      ∙ not_at i (slice_index parents i) below _ (λ c is. highest_within (slice_index parents i) (slice_index parents i) (omega arith) (omega (arith, below, within)) c is)

  pub class_top : (i : ℕ) → i < length parents → height parents i ≤ level → (slice_index parents i < i → level < height parents (slice_index parents i)) → is_class parents level i ≡ true
  class_top i within low above = ap (is_at i) (highest_self parents level i within low above) ∙ eq-eqb i i refl

  -- the number of a class is how many stand before it
  pub class_of_top : (i : ℕ) → i < length parents → height parents i ≤ level → (slice_index parents i < i → level < height parents (slice_index parents i)) → class_of parents level i ≡ Some (length (filter (is_class parents level) (range_with_len 0 i)))
  unfolding class_of classes
  class_of_top i within low above =
      ap (λ (h : Option ℕ). position (λ c. is_at c h) (filter (is_class parents level) (places_of parents))) (highest_self parents level i within low above)
      ∙ place_among (is_class parents level) (length parents) i within (class_top i within low above)

  pub class_of_below : (i : ℕ) → height parents i ≤ level → slice_index parents i < i → height parents (slice_index parents i) ≤ level → class_of parents level i ≡ class_of parents level (slice_index parents i)
  unfolding class_of
  class_of_below i low below parent_low = ap (λ (h : Option ℕ). position (λ c. is_at c h) (classes parents level)) (highest_parent parents level i low below parent_low)

  none_passes : (xs : List ℕ) → list_any (λ (c : ℕ). false) xs ≡ false
  none_passes [] = refl
  none_passes (x ∷ xs) = none_passes xs

  pub class_of_high : (i : ℕ) → i < length parents → level < height parents i → class_of parents level i ≡ None
  unfolding class_of
  class_of_high i within high =
      ap (λ (h : Option ℕ). position (λ c. is_at c h) (classes parents level)) (highest_none parents level i within high)
      ∙ none_of _ (some_if_any (λ (c : ℕ). false) (classes parents level) ∙ none_passes (classes parents level))

  -- a node that isn't too high has a class
  pub has_class : (n i : ℕ) → i ≤ n → i < length parents → height parents i ≤ level → is_some (class_of parents level i) ≡ true
  has_class zero i hn within low = ap is_some (class_of_top i within low (λ below. absurd (omega (arith, below, hn))))
  has_class (suc n) i hn within low =
      ⊎_elim
      (λ (below : slice_index parents i < i). ⊎_elim
      (λ (parent_low : height parents (slice_index parents i) ≤ level). ap is_some (class_of_below i low below parent_low) ∙ has_class n (slice_index parents i) (omega (arith, below, hn)) (omega (arith, below, within)) parent_low)
      (λ (parent_high : level < height parents (slice_index parents i)). ap is_some (class_of_top i within low (λ _. parent_high)))
      (le_or_lt (height parents (slice_index parents i)) level))
      (λ (root : i ≤ slice_index parents i). ap is_some (class_of_top i within low (λ below. absurd (omega (arith, below, root)))))
      (lt_or_le (slice_index parents i) i)
    where
      lt_or_le : (a b : ℕ) → (a < b) ⊎ (b ≤ a)
      lt_or_le a b = grind arith

  -- a node that isn't too high, by its parent
  pub class_by_parent : (i : ℕ) → i < length parents → height parents i ≤ level → slice_index parents i < i → is_class parents level i ≡ ltb level (height parents (slice_index parents i))
  class_by_parent i within low below =
      ⊎_elim
      (λ (parent_low : height parents (slice_index parents i) ≤ level). no_class_below i within low below parent_low ∙ sym (le-ltb _ _ parent_low))
      (λ (parent_high : level < height parents (slice_index parents i)). class_top i within low (λ _. parent_high) ∙ sym (lt-ltb _ _ parent_high))
      (le_or_lt (height parents (slice_index parents i)) level)
