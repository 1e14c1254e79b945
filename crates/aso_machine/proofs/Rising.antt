-- Cells that rise still do where an amount is added to one, and they fit the outline still.
use Rattle.std.proofs.Common.{◌≡◌, ◌∙◌, inl, inr, ℕ, ◌+◌, ◌<◌, ◌^◌, ◌&&◌, Bool, true, false, List, [], ◌∷◌, length, map, eqb, Option, Some, None, refl, sym, ap, subst, arith, true≢false}
use Rattle.std.specs.Prelude.{ℤ, ◌+ℤ◌, unsigned_abs, nat_lt}
use Rattle.std.proofs.lemmas.Bool.{ltb-true}
use Rattle.std.proofs.lemmas.Bool.Decides.{Decides-eqb}
use Rattle.std.proofs.lemmas.List.{length-map}
use Rattle.std.proofs.lemmas.List.FromFn.{length-map-range_with_len}
use Rattle.std.specs.declared.cmp.Ordering.{Ordering}
use Rattle.std.specs.declared.cmp.Ordering.TheVariants.{Less, Equal, Greater}
use Rattle.std.specs.Ordering.{nat_cmp, ordering_then, MatchOrdering}
use Rattle.std.specs.Cmp.Lexicographic.{slice_cmp}
use Rattle.std.specs.List.{list_all, AllByRecursion}
use Rattle.std.proofs.lemmas.Cmp.{ranked}
use Rattle.aso_catalog.specs.declared.record.LeafCell.{LeafCell}
use Rattle.aso_catalog.specs.declared.record.Record.{Record}
use Rattle.aso_catalog.specs.Record.{AreRising, IsAbove, IsBelow, IsStorable}
use Rattle.aso_outline.specs.declared.draft.Draft.{Draft}
use Rattle.aso_outline.specs.Members.{data_leaves, dim_at}
use Rattle.aso_spec.specs.Cells.{Key, key_order, add_at}
use Rattle.aso_cellnames.specs.Leaves.{are_leaves, leaf_counts}
use Rattle.aso_machine.specs.CellSteps.{IsSmall, add_cell, sum_in}
use Rattle.aso_machine.specs.State.{entry, fits_outline, is_cell_of}

pub both : (a b : Bool) → (a && b) ≡ true → (a ≡ true) × (b ≡ true)
both true b h = (refl, h)
both false b h = absurd (true≢false (sym h))

pub and_true : (a b : Bool) → a ≡ true → b ≡ true → (a && b) ≡ true
and_true true b ha hb = hb
and_true false b ha hb = ha

-- ---- rising

below_by : (x y : ℕ) (xs ys : List ℕ) (o : Ordering) → MatchOrdering o (x < y) (x ≡ y) (y < x) → (slice_cmp nat_cmp xs ys ≡ Less → IsBelow xs ys)
    → ordering_then o (slice_cmp nat_cmp xs ys) ≡ Less → IsBelow (x ∷ xs) (y ∷ ys)
below_by x y xs ys Less m rest e = inl m
below_by x y xs ys Equal m rest e = inr (m, rest e)
below_by x y xs ys Greater m rest e = absurd (cc e)

below_less : (a b : List ℕ) → length a ≡ length b → slice_cmp nat_cmp a b ≡ Less → IsBelow a b
below_less [] [] n e = absurd (cc e)
below_less [] (y ∷ ys) n e = absurd (omega (arith, n))
below_less (x ∷ xs) [] n e = absurd (omega (arith, n))
below_less (x ∷ xs) (y ∷ ys) n e = below_by x y xs ys (nat_cmp x y) (ranked x y (nat_cmp x y) refl) (below_less xs ys (omega (arith, n))) e

above_by : (x y : ℕ) (xs ys : List ℕ) (o : Ordering) → MatchOrdering o (x < y) (x ≡ y) (y < x) → (slice_cmp nat_cmp xs ys ≡ Greater → IsBelow ys xs)
    → ordering_then o (slice_cmp nat_cmp xs ys) ≡ Greater → IsBelow (y ∷ ys) (x ∷ xs)
above_by x y xs ys Less m rest e = absurd (cc e)
above_by x y xs ys Equal m rest e = inr (sym m, rest e)
above_by x y xs ys Greater m rest e = inl m

below_greater : (a b : List ℕ) → length a ≡ length b → slice_cmp nat_cmp a b ≡ Greater → IsBelow b a
below_greater [] [] n e = absurd (cc e)
below_greater [] (y ∷ ys) n e = absurd (omega (arith, n))
below_greater (x ∷ xs) [] n e = absurd (omega (arith, n))
below_greater (x ∷ xs) (y ∷ ys) n e = above_by x y xs ys (nat_cmp x y) (ranked x y (nat_cmp x y) refl) (below_greater xs ys (omega (arith, n))) e

module _ (dimensions : ℕ) (key : Key) (z : ℤ) (size : length key ≡ dimensions) where
  rising_by : (before : Option (List ℕ)) (c : LeafCell) (cs : List LeafCell) (o : Ordering) → key_order key c.leaves ≡ o → AreRising dimensions before (c ∷ cs) → IsAbove before key
      → (IsBelow c.leaves key → AreRising dimensions (Some c.leaves) (add_cell key z cs)) → AreRising dimensions before (add_cell key z (c ∷ cs))
  rising_by before c cs Less e rising above rest = rw e (size, above, (rising.0, below_less key c.leaves (size ∙ sym rising.0) e, rising.2))
  rising_by before c cs Equal e rising above rest = rw e rising
  rising_by before c cs Greater e rising above rest = rw e (rising.0, rising.1, rest (below_greater key c.leaves (size ∙ sym rising.0) e))

  pub still_rising : (before : Option (List ℕ)) (cells : List LeafCell) → AreRising dimensions before cells → IsAbove before key → AreRising dimensions before (add_cell key z cells)
  still_rising before [] rising above = (size, above, tt)
  still_rising before (c ∷ cs) rising above = rising_by before c cs (key_order key c.leaves) refl rising above (λ below. still_rising (Some c.leaves) cs rising.2 below)

-- ---- fitting

module _ (counts : List ℕ) (key : Key) (z : ℤ) (leaves : are_leaves counts key ≡ true) where
  abbrev fits : LeafCell → Bool
  fits c = is_cell_of counts (entry c)

  fitting_by : (c : LeafCell) (cs : List LeafCell) (o : Ordering) → key_order key c.leaves ≡ o → list_all fits (c ∷ cs) ≡ true → nat_lt (unsigned_abs (sum_in key z (c ∷ cs))) (10 ^ 18) ≡ true
      → (nat_lt (unsigned_abs (sum_in key z cs)) (10 ^ 18) ≡ true → list_all fits (add_cell key z cs) ≡ true) → list_all fits (add_cell key z (c ∷ cs)) ≡ true
  fitting_by c cs Less e all small rest =
      let same : sum_in key z (c ∷ cs) ≡ z = rw e refl in
      let small_z : nat_lt (unsigned_abs z) (10 ^ 18) ≡ true = subst (λ (x : ℤ). nat_lt (unsigned_abs x) (10 ^ 18) ≡ true) same small in
      rw e (and_true _ (list_all fits (c ∷ cs)) (and_true _ _ leaves small_z) all)
  fitting_by c cs Equal e all small rest =
      let parts = both (fits c) (list_all fits cs) all in
      let same : sum_in key z (c ∷ cs) ≡ c.amount +ℤ z = rw e refl in
      let small_c : nat_lt (unsigned_abs (c.amount +ℤ z)) (10 ^ 18) ≡ true = subst (λ (x : ℤ). nat_lt (unsigned_abs x) (10 ^ 18) ≡ true) same small in
      rw e (and_true _ (list_all fits cs) (and_true _ _ (both (are_leaves counts c.leaves) (nat_lt (unsigned_abs c.amount) (10 ^ 18)) parts.0).0 small_c) parts.1)
  fitting_by c cs Greater e all small rest =
      let parts = both (fits c) (list_all fits cs) all in
      let same : sum_in key z (c ∷ cs) ≡ sum_in key z cs = rw e refl in
      let small_rest : nat_lt (unsigned_abs (sum_in key z cs)) (10 ^ 18) ≡ true = subst (λ (x : ℤ). nat_lt (unsigned_abs x) (10 ^ 18) ≡ true) same small in
      rw e (and_true _ (list_all fits (add_cell key z cs)) parts.0 (rest small_rest))

  pub still_fitting : (cells : List LeafCell) → list_all fits cells ≡ true → nat_lt (unsigned_abs (sum_in key z cells)) (10 ^ 18) ≡ true → list_all fits (add_cell key z cells) ≡ true
  still_fitting [] all small = and_true _ true (and_true _ _ leaves small) refl
  still_fitting (c ∷ cs) all small = fitting_by c cs (key_order key c.leaves) refl all small (λ small_rest. still_fitting cs (both (fits c) (list_all fits cs) all).1 small_rest)

-- ---- as entries

module _ (key : Key) (z : ℤ) where
  entries_by : (c : LeafCell) (cs : List LeafCell) (o : Ordering) → key_order key c.leaves ≡ o → map entry (add_cell key z cs) ≡ add_at key z (map entry cs)
      → map entry (add_cell key z (c ∷ cs)) ≡ add_at key z (map entry (c ∷ cs))
  entries_by c cs Less e rest = rw e refl
  entries_by c cs Equal e rest = rw e refl
  entries_by c cs Greater e rest = rw e (ap (λ (xs : List (Key × ℤ)). entry c ∷ xs) rest)

  pub entries_added : (cells : List LeafCell) → map entry (add_cell key z cells) ≡ add_at key z (map entry cells)
  entries_added [] = refl
  entries_added (c ∷ cs) = entries_by c cs (key_order key c.leaves) refl (entries_added cs)

pub added_length : (key : Key) (z : ℤ) (cells : List LeafCell) → length (add_cell key z cells) ≡ length (add_at key z (map entry cells))
added_length key z cells = sym (length-map (add_cell key z cells) entry) ∙ ap length (entries_added key z cells)

-- ---- amounts in range

pub all_small : (counts : List ℕ) (cells : List LeafCell) → list_all (λ c. is_cell_of counts (entry c)) cells ≡ true → AllByRecursion IsSmall cells
all_small counts [] all = tt
all_small counts (c ∷ cs) all =
    let parts = both (is_cell_of counts (entry c)) (list_all (λ x. is_cell_of counts (entry x)) cs) all in
    (ltb-true (unsigned_abs c.amount) (10 ^ 18) (both (are_leaves counts c.leaves) (nat_lt (unsigned_abs c.amount) (10 ^ 18)) parts.0).1, all_small counts cs parts.1)

-- ---- a record that fits its outline

pub cells_fit : (r : Record) (o : Draft) → fits_outline r o ≡ true
    → (r.dimensions ≡ length o.dims) × (list_all (λ c. is_cell_of (leaf_counts o) (entry c)) r.cells ≡ true)
cells_fit r o fit =
    let parts = both (eqb r.dimensions (length o.dims)) (list_all (λ c. is_cell_of (leaf_counts o) (entry c)) r.cells) fit in
    ((Decides-eqb r.dimensions (length o.dims)).0 parts.0, parts.1)

pub cells_small : (r : Record) (o : Draft) → fits_outline r o ≡ true → AllByRecursion IsSmall r.cells
cells_small r o fit = all_small (leaf_counts o) r.cells (cells_fit r o fit).1

-- ---- the next record

abbrev pub added_record : Record → Key → ℤ → Record
added_record r key z =
    record { layout = r.layout + 1; commit = r.commit + 1; outline = r.outline; dimensions = r.dimensions; cells = add_cell key z r.cells }

pub next_fits : (r : Record) (o : Draft) (key : Key) (z : ℤ) → fits_outline r o ≡ true → are_leaves (leaf_counts o) key ≡ true
    → nat_lt (unsigned_abs (sum_in key z r.cells)) (10 ^ 18) ≡ true → fits_outline (added_record r key z) o ≡ true
next_fits r o key z fit leaves small =
    let parts = both (eqb r.dimensions (length o.dims)) (list_all (λ c. is_cell_of (leaf_counts o) (entry c)) r.cells) fit in
    and_true (eqb r.dimensions (length o.dims)) _ parts.0 (still_fitting (leaf_counts o) key z leaves r.cells parts.1 small)

leaves_count : (counts key : List ℕ) → are_leaves counts key ≡ true → length key ≡ length counts
leaves_count [] [] h = refl
leaves_count [] (k ∷ ks) h = absurd (true≢false (sym h))
leaves_count (c ∷ cs) [] h = absurd (true≢false (sym h))
leaves_count (c ∷ cs) (k ∷ ks) h = let rest = leaves_count cs ks (both (nat_lt k c) (are_leaves cs ks) h).1 in omega (arith, rest)

pub next_storable : (r : Record) (o : Draft) (key : Key) (z : ℤ) → fits_outline r o ≡ true → are_leaves (leaf_counts o) key ≡ true
    → IsStorable r → length (add_at key z (map entry r.cells)) < 2 ^ 32 → IsStorable (added_record r key z)
next_storable r o key z fit leaves s few =
    let counted : length (leaf_counts o) ≡ length o.dims = length-map-range_with_len (λ d. length (data_leaves (dim_at o d))) 0 (length o.dims) in
    let size : length key ≡ r.dimensions = leaves_count (leaf_counts o) key leaves ∙ counted ∙ sym (cells_fit r o fit).0 in
    let long = added_length key z r.cells in
    record {
      older = omega (arith, s.older);
      short = s.short;
      least = s.least;
      most = s.most;
      few = omega (arith, long, few);
      rising = still_rising r.dimensions key z size None r.cells s.rising tt;
    }
