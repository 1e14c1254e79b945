-- The classes of a level at or below a node stand in a row.
use Rattle.std.specs.Prelude.{is_some, slice_index, nat_le, nat_lt, unwrap_or}
use Rattle.std.specs.List.{filter, range_with_len}
use Rattle.std.proofs.Common.{◌≡◌, ◌∙◌, ℕ, zero, suc, ◌+◌, ◌-◌, ◌<◌, ◌≤◌, ◌^◌, ◌&&◌, ◌⊎◌, ⊎_elim, Bool, true, false, cond, [], ◌∷◌, List, length, length-append, Option, Some, None, refl, sym, ap, arith, subst, true≢false}
use Rattle.std.proofs.lemmas.Bool.{le-leb, leb-true, lt-leb, lt-ltb, le-ltb, ltb-true}
use Rattle.std.proofs.lemmas.List.Elements.{filter-append}
use Rattle.std.proofs.lemmas.Option.{none-some, same_Some}
use Rattle.aso_tree.specs.Trees.{class_count, class_number, class_of, classes, height, is_leaf, is_under, IsTree}
use Rattle.aso_tree.specs.Levels.{IsOpen, classes_before, is_class}
use Rattle.aso_tree.proofs.Children.{parent_before}
use Rattle.aso_tree.proofs.Classes.{class_of_below, class_of_high, class_of_top, class_top, has_class, le_or_lt, no_class_high, range_split}
use Rattle.aso_tree.proofs.Ends.{EndsAt, childless}
use Rattle.aso_tree.proofs.Heights.{height_above, height_under, leaf_height}
use Rattle.aso_tree.proofs.Preorder.{filter_none, opposite, stands_of, under_cases, under_le, under_self, under_stops, under_trans, under_up}

-- ---- counts of those that pass before a place

module _ (p : ℕ → Bool) where
  pub passing : ℕ → ℕ
  passing i = length (filter p (range_with_len 0 i))

  parts : (a b : ℕ) → a ≤ b → length (filter p (range_with_len 0 b)) ≡ length (filter p (range_with_len 0 a)) + length (filter p (range_with_len a (b - a)))
  parts a b le =
      let sum : a + (b - a) ≡ b = omega (arith, le) in
      ap (λ n. length (filter p (range_with_len 0 n))) (sym sum)
      ∙ (ap (λ (xs : List ℕ). length (filter p xs)) (range_split a (b - a) 0 a (omega arith))
      ∙ (ap length (filter-append p (range_with_len 0 a) (range_with_len a (b - a))) ∙ length-append (filter p (range_with_len 0 a)) (filter p (range_with_len a (b - a)))))

  pub before_le : (a b : ℕ) → a ≤ b → length (filter p (range_with_len 0 a)) ≤ length (filter p (range_with_len 0 b))
  before_le a b le = let sum = parts a b le in omega (arith, sum)

  pub before_same : (a b : ℕ) → a ≤ b → ((k : ℕ) → a ≤ k → k < b → p k ≡ false) → length (filter p (range_with_len 0 b)) ≡ length (filter p (range_with_len 0 a))
  before_same a b le none =
      let sum = parts a b le in
      let empty : length (filter p (range_with_len a (b - a))) ≡ 0 = ap length (filter_none p (b - a) a (λ k lo hi. none k lo (omega (arith, hi, le)))) in
      omega (arith, sum, empty)

  one_there : (a : ℕ) → p a ≡ true → length (filter p (range_with_len a 1)) ≡ 1
  one_there a pass = rw pass refl

  pub before_lt : (a b : ℕ) → a < b → p a ≡ true → length (filter p (range_with_len 0 a)) < length (filter p (range_with_len 0 b))
  before_lt a b low pass =
      let sum = parts a (a + 1) (omega arith) in
      let next : a + 1 - a ≡ 1 = omega arith in
      let one : length (filter p (range_with_len a (a + 1 - a))) ≡ 1 = ap (λ (n : ℕ). length (filter p (range_with_len a n))) next ∙ one_there a pass in
      let rest = before_le (a + 1) b (omega (arith, low)) in
      omega (arith, sum, one, rest)

  one_most : (b : Bool) (a : ℕ) → length (cond b (a ∷ []) []) ≤ 1
  one_most true a = omega arith
  one_most false a = omega arith

  pub step_one : (a : ℕ) → length (filter p (range_with_len 0 (a + 1))) ≤ length (filter p (range_with_len 0 a)) + 1
  step_one a =
      let sum = parts a (a + 1) (omega arith) in
      let next : a + 1 - a ≡ 1 = omega arith in
      let one : length (filter p (range_with_len a (a + 1 - a))) ≤ 1 = rw next (one_most (p a) a) in
      omega (arith, sum, one)

module _ (lo hi k : ℕ) where
  in_range : lo ≤ k → k < hi → (nat_le lo k && nat_lt k hi) ≡ true
  in_range a b = rw (le-leb lo k a, lt-ltb k hi b) refl

  below_range : k < lo → (nat_le lo k && nat_lt k hi) ≡ false
  below_range a = rw (lt-leb lo k a) refl

  past_range : hi ≤ k → (nat_le lo k && nat_lt k hi) ≡ false
  past_range b = by_second (nat_le lo k) (nat_lt k hi) (le-ltb k hi b)
    where
      by_second : (x y : Bool) → y ≡ false → (x && y) ≡ false
      by_second true y e = e
      by_second false y e = refl

-- Of those that pass, counted from the first on, the ones at or below a node stand in a row.
module _ (parents : List ℕ) (tree : IsTree parents) (node end : ℕ) (ends : EndsAt parents tree node end) (p : ℕ → Bool) where
  lt_or_ge : (a b : ℕ) → (a < b) ⊎ (b ≤ a)
  lt_or_ge a b = grind arith

  pub in_passing_range : (t : ℕ) → t < length parents → p t ≡ true
      → (nat_le (length (filter p (range_with_len 0 node))) (length (filter p (range_with_len 0 t))) && nat_lt (length (filter p (range_with_len 0 t))) (length (filter p (range_with_len 0 end)))) ≡ is_under parents node t
  in_passing_range t low pass =
      ⊎_elim
      (λ (first : t < node). below_range _ _ _ (before_lt p t node first pass) ∙ sym (opposite _ (λ h. let after = under_le t parents node t (omega arith) h in omega (arith, after, first))))
      (λ (from : node ≤ t). ⊎_elim
      (λ (less : t < end). in_range _ _ _ (before_le p node t from) (before_lt p t end less pass) ∙ sym (ends.below t from less))
      (λ (past : end ≤ t). past_range _ _ _ (before_le p end t past) ∙ sym (under_stops parents tree node end ends.low (ends.stop (omega (arith, past, low))) (t - end) t (omega (arith, past)) low))
      (lt_or_ge t end))
      (lt_or_ge t node)

  pub passing_in_order : length (filter p (range_with_len 0 node)) ≤ length (filter p (range_with_len 0 end))
  passing_in_order = before_le p node end (let low = ends.low in omega (arith, low))

module _ (parents : List ℕ) (tree : IsTree parents) (short : length parents < 2 ^ 32) where
  -- no node is higher than the first
  pub height_root : (n k : ℕ) → k ≤ n → k < length parents → height parents k ≤ height parents 0
  height_root zero k le low = let is : height parents k ≡ height parents 0 = ap (height parents) (omega (arith, le)) in omega (arith, is)
  height_root (suc n) zero le low = omega arith
  height_root (suc n) (suc k) le low =
      let before : slice_index parents (suc k) < suc k = parent_before parents tree short k low in
      let up : height parents (suc k) < height parents (slice_index parents (suc k)) = height_above parents (suc k) (slice_index parents (suc k)) refl before low in
      let rest : height parents (slice_index parents (suc k)) ≤ height parents 0 = height_root n (slice_index parents (suc k)) (omega (arith, before, le)) (omega (arith, before, low)) in
      omega (arith, up, rest)

  module _ (level : ℕ) where
    -- ---- down from a place that lies below no class

    -- behind a node that is too high no class lies above either
    pub still_open : (j i : ℕ) → i ≡ suc j → i < length parents → level < height parents j → IsOpen parents level i
    still_open j i is within high _ low =
        let at : is_under parents (slice_index parents (suc j)) j ≡ true = stands_of _ _ (tree (suc j) (omega (arith, is, within))) in
        let up : height parents j ≤ height parents (slice_index parents (suc j)) = height_under j parents (slice_index parents (suc j)) j (omega arith) (omega (arith, is, within)) at in
        let same : height parents (slice_index parents i) ≡ height parents (slice_index parents (suc j)) = ap (λ (k : ℕ). height parents (slice_index parents k)) is in
        omega (arith, up, same, high)

    pub open_here : (node : ℕ) → level ≤ height parents node → IsOpen parents level node
    open_here node high within low = let up : height parents node < height parents (slice_index parents node) = height_above parents node (slice_index parents node) refl low within in omega (arith, up, high)

    open_at : (place node : ℕ) → place ≤ node → node < length parents → IsOpen parents level place → ((k : ℕ) → place ≤ k → k < node → level < height parents k) → IsOpen parents level node
    open_at place node le within start high =
        ⊎_elim
        (λ (same : place ≡ node). subst (IsOpen parents level) same start)
        (λ (later : place < node). still_open (node - 1) node (omega (arith, later)) within (high (node - 1) (omega (arith, later)) (omega (arith, later))))
        (split place node le)
      where
        split : (a b : ℕ) → a ≤ b → (a ≡ b) ⊎ (a < b)
        split a b le = grind (arith, le)

    none_between : (place node : ℕ) → place ≤ node → node ≤ length parents → ((k : ℕ) → place ≤ k → k < node → level < height parents k) → classes_before parents level node ≡ classes_before parents level place
    none_between place node le within high =
        before_same (is_class parents level) place node le (λ k lo hi. no_class_high parents level k (omega (arith, hi, within)) (high k lo hi))

    pub number_there : (place node : ℕ) → place ≤ node → node < length parents → IsOpen parents level place → ((k : ℕ) → place ≤ k → k < node → level < height parents k) → height parents node ≤ level
        → class_number parents level node ≡ classes_before parents level place
    number_there place node le within start high low =
        ap (λ (o : Option ℕ). unwrap_or o 0) (class_of_top parents level node within low (λ below. open_at place node le within start high within below))
        ∙ none_between place node le (omega (arith, within)) high

    pub none_left : (place end : ℕ) → place ≤ length parents → end ≡ length parents → ((k : ℕ) → place ≤ k → k < end → level < height parents k) → class_count parents level ≡ classes_before parents level place
    unfolding classes
    none_left place end le is high =
        none_between place (length parents) le (omega arith) (λ k lo hi. high k lo (omega (arith, hi, is)))

    -- ---- the class of a node

    -- the class: a node at or above it that fits, and below which lies each node of the level or higher that has it below
    pub record IsTop (i class t : ℕ) : Type 0 where
      pub at : is_under parents t i ≡ true
      pub within : t < length parents
      pub is : is_class parents level t ≡ true
      pub number : classes_before parents level t ≡ class
      pub below : (node : ℕ) → level ≤ height parents node → is_under parents node i ≡ true → is_under parents node t ≡ true

    self_top : (i class : ℕ) → i < length parents → height parents i ≤ level → (slice_index parents i < i → level < height parents (slice_index parents i)) → class_of parents level i ≡ Some class → IsTop i class i
    self_top i class within low above has = record {
      at = under_self parents i;
      within = within;
      is = class_top parents level i within low above;
      number = same_Some (classes_before parents level i) class (sym (class_of_top parents level i within low above) ∙ has);
      below = λ node high h. h;
    }

    lt_or_le : (a b : ℕ) → (a < b) ⊎ (b ≤ a)
    lt_or_le a b = grind arith

    -- the parent's, where that fits too
    up_top : (i class : ℕ) → i < length parents → slice_index parents i < i → height parents (slice_index parents i) ≤ level → (t : ℕ) × IsTop (slice_index parents i) class t → (t : ℕ) × IsTop i class t
    up_top i class within below parent_low found =
        let t = found.1 in (
          found.0,
          record {
            at = under_up parents found.0 i below t.at;
            within = t.within;
            is = t.is;
            number = t.number;
            below = λ node high h. ⊎_elim
                (λ (same : i ≡ node). absurd (let up : height parents i < height parents (slice_index parents i) = height_above parents i (slice_index parents i) refl below within in let is : height parents i ≡ height parents node = ap (height parents) same in omega (arith, up, is, high, parent_low)))
                (λ (above : (slice_index parents i < i) × (is_under parents node (slice_index parents i) ≡ true)). t.below node high above.1)
                (under_cases parents node i h);
          },
        )

    module _ (i class : ℕ) (within : i < length parents) (has : class_of parents level i ≡ Some class) (up : slice_index parents i < i → height parents i ≤ level → height parents (slice_index parents i) ≤ level → (t : ℕ) × IsTop i class t) where
      top_by : (t : ℕ) × IsTop i class t
      top_by =
          ⊎_elim
          (λ (low : height parents i ≤ level). ⊎_elim
          (λ (below : slice_index parents i < i). ⊎_elim
          (λ (parent_low : height parents (slice_index parents i) ≤ level). up below low parent_low)
          (λ (parent_high : level < height parents (slice_index parents i)). (i, self_top i class within low (λ _. parent_high) has))
          (le_or_lt (height parents (slice_index parents i)) level))
          (λ (root : i ≤ slice_index parents i). (i, self_top i class within low (λ below. absurd (omega (arith, below, root))) has))
          (lt_or_le (slice_index parents i) i))
          (λ (high : level < height parents i). absurd (none-some class (sym (class_of_high parents level i within high) ∙ has)))
          (le_or_lt (height parents i) level)

    pub top_of : (n i class : ℕ) → i ≤ n → i < length parents → class_of parents level i ≡ Some class → (t : ℕ) × IsTop i class t
    top_of zero i class le within has = top_by i class within has (λ below low parent_low. absurd (omega (arith, le, below)))
    top_of (suc n) i class le within has =
        top_by i class within has (λ below low parent_low. up_top i class within below parent_low
        (top_of n (slice_index parents i) class (omega (arith, le, below)) (omega (arith, below, within)) (sym (class_of_below parents level i low below parent_low) ∙ has)))

    -- ---- the range

    module _ (node end : ℕ) (within : node < length parents) (ends : EndsAt parents tree node end) (high : level ≤ height parents node) where
      -- a node above one of those below the node, and not below it itself, is higher
      module _ (q : ℕ) (apart : is_under parents node q ≡ false) where
        at_node : is_under parents q node ≡ true → height parents node < height parents q
        at_node h =
            ⊎_elim
            (λ (same : node ≡ q). absurd (true≢false (sym (under_self parents node) ∙ (ap (is_under parents node) same ∙ apart))))
            (λ (up : (slice_index parents node < node) × (is_under parents q (slice_index parents node) ≡ true)).
            let step : height parents node < height parents (slice_index parents node) = height_above parents node (slice_index parents node) refl up.0 within in
            let rest : height parents (slice_index parents node) ≤ height parents q = height_under (slice_index parents node) parents q (slice_index parents node) (omega arith) (omega (arith, up.0, within)) up.1 in
            omega (arith, step, rest))
            (under_cases parents q node h)

        higher : (n j : ℕ) → j ≤ n → j < length parents → is_under parents node j ≡ true → is_under parents q j ≡ true → height parents node < height parents q
        higher zero j le low has_node has_q =
            ⊎_elim
            (λ (same : j ≡ node). at_node (ap (is_under parents q) (sym same) ∙ has_q))
            (λ (up : (slice_index parents j < j) × (is_under parents node (slice_index parents j) ≡ true)). absurd (omega (arith, le, up.0)))
            (under_cases parents node j has_node)
        higher (suc n) j le low has_node has_q =
            ⊎_elim
            (λ (same : j ≡ node). at_node (ap (is_under parents q) (sym same) ∙ has_q))
            (λ (up : (slice_index parents j < j) × (is_under parents node (slice_index parents j) ≡ true)). ⊎_elim
            (λ (same : j ≡ q). absurd (true≢false (sym has_node ∙ (ap (is_under parents node) same ∙ apart))))
            (λ (more : (slice_index parents j < j) × (is_under parents q (slice_index parents j) ≡ true)). higher n (slice_index parents j) (omega (arith, le, up.0)) (omega (arith, up.0, low)) up.1 more.1)
            (under_cases parents q j has_q))
            (under_cases parents node j has_node)

      -- behind what lies below the node no class lies above
      pub open_behind : IsOpen parents level end
      open_behind low _ =
          let is : end ≡ suc (end - 1) = omega (arith, ends.low) in
          let under_node : is_under parents node (end - 1) ≡ true = ends.below (end - 1) (omega (arith, ends.low)) (omega (arith, ends.low)) in
          let before : slice_index parents (suc (end - 1)) < suc (end - 1) = parent_before parents tree short (end - 1) (omega (arith, ends.low, low)) in
          let same : slice_index parents (suc (end - 1)) ≡ slice_index parents end = ap (slice_index parents) (sym is) in
          let at : is_under parents (slice_index parents (suc (end - 1))) (end - 1) ≡ true = stands_of _ _ (tree (suc (end - 1)) (omega (arith, ends.low, low))) in
          let apart : is_under parents node (slice_index parents end) ≡ false = opposite _ (λ h. true≢false (sym (under_up parents node end (omega (arith, before, same, is)) h) ∙ ends.stop low)) in
          let most : height parents node < height parents (slice_index parents end) =
          higher (slice_index parents end) apart (end - 1) (end - 1) (omega arith) (omega (arith, ends.low, low)) under_node (ap (λ (k : ℕ). is_under parents k (end - 1)) (sym same) ∙ at) in
          omega (arith, most, high)

      same_bool : (a b : Bool) → (a ≡ true → b ≡ true) → (b ≡ true → a ≡ true) → a ≡ b
      same_bool true b there back = sym (there refl)
      same_bool false true there back = back refl
      same_bool false false there back = refl

      -- a node has its class in the range exactly where it lies at or below the node
      pub in_class_range : (i class : ℕ) → i < length parents → class_of parents level i ≡ Some class
          → (nat_le (classes_before parents level node) class && nat_lt class (classes_before parents level end)) ≡ is_under parents node i
      in_class_range i class low has =
          ap (λ (n : ℕ). nat_le (classes_before parents level node) n && nat_lt n (classes_before parents level end)) (sym top.number)
          ∙ (in_passing_range parents tree node end ends (is_class parents level) found.0 top.within top.is
          ∙ same_bool (is_under parents node found.0) (is_under parents node i) (λ h. under_trans i parents node found.0 i (omega arith) h top.at) (λ h. top.below node high h))
        where
          found : (t : ℕ) × IsTop i class t
          found = top_of i i class (omega arith) low has

          top : IsTop i class found.0
          top = found.1

      pub range_fits : classes_before parents level end ≤ class_count parents level
      unfolding classes
      range_fits = before_le (is_class parents level) end (length parents) ends.fits

      -- the last node below it has a class, since none is below that
      pub range_some : classes_before parents level node < classes_before parents level end
      range_some =
          let sure = in_class_range (end - 1) of_last.0 (omega (arith, ends.low, ends.fits)) of_last.1 ∙ ends.below (end - 1) (omega (arith, ends.low)) (omega (arith, ends.low)) in
          let lo = leb-true (classes_before parents level node) of_last.0 (and_left (nat_le (classes_before parents level node) of_last.0) (nat_lt of_last.0 (classes_before parents level end)) sure) in
          let hi = ltb-true of_last.0 (classes_before parents level end) (and_right (nat_le (classes_before parents level node) of_last.0) (nat_lt of_last.0 (classes_before parents level end)) sure) in
          omega (arith, lo, hi)
        where
          and_left : (a b : Bool) → (a && b) ≡ true → a ≡ true
          and_left true b h = refl
          and_left false b h = absurd (true≢false (sym h))

          and_right : (a b : Bool) → (a && b) ≡ true → b ≡ true
          and_right true b h = h
          and_right false b h = absurd (true≢false (sym h))

          value_of : (x : Option ℕ) → is_some x ≡ true → (k : ℕ) × (x ≡ Some k)
          value_of None h = absurd (true≢false (sym h))
          value_of (Some k) h = (k, refl)

          last_leaf : is_leaf parents (end - 1) ≡ true
          last_leaf =
              childless parents tree (end - 1) end (omega (arith, ends.low)) (omega (arith, ends.low, ends.fits))
              (λ low child. true≢false (sym (under_up parents node end (omega (arith, child, ends.low)) (ap (is_under parents node) child ∙ ends.below (end - 1) (omega (arith, ends.low)) (omega (arith, ends.low)))) ∙ ends.stop low))

          of_last : (k : ℕ) × (class_of parents level (end - 1) ≡ Some k)
          of_last =
              let low : height parents (end - 1) ≡ 0 = leaf_height parents tree (end - 1) (omega (arith, ends.low, ends.fits)) last_leaf in
              value_of (class_of parents level (end - 1)) (has_class parents level (end - 1) (end - 1) (omega arith) (omega (arith, ends.low, ends.fits)) (omega (arith, low)))
