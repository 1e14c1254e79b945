-- The range of a member is that of the data leaves that it holds.
use Rattle.std.specs.Prelude.{unwrap_or, nat_le, nat_lt}
use Rattle.std.specs.Option.{option_map}
use Rattle.std.proofs.Common.{◌≡◌, ◌∙◌, ℕ, ◌<◌, Bool, true, false, not, length, Option, Some, None, refl, sym, ap, arith, subst, true≢false}
use Rattle.std.proofs.lemmas.Bool.{and_from, le-leb, lt-ltb}
use Rattle.aso_tree.specs.Trees.{height}
use Rattle.aso_outline.specs.declared.draft.Draft.{Draft}
use Rattle.aso_outline.specs.declared.seat.Seat.{Seat}
use Rattle.aso_outline.specs.declared.seat.Seat.TheVariants.{Whole, Inner, Carried}
use Rattle.aso_outline.specs.Classes.{class_at, has_range, is_in, leaf_count}
use Rattle.aso_outline.specs.Heights.{top_of}
use Rattle.aso_outline.specs.Members.{dim_at, dim_of, holds, is_computed, is_dynamic, parents_of, resolve, seats, tree}
use Rattle.aso_outline.specs.Numbers.{IsSeat, hier_of, seat_of}
use Rattle.aso_outline.specs.Rules.{broken, is_base}
use Rattle.aso_outline.proofs.Kept.{has_trees}
use Rattle.aso_outline.proofs.Rooted.{kept_labels, kept_trees, resolved_there}
use Rattle.aso_outline.proofs.Smalls.{and_left, and_right}
use Rattle.aso_axes.specs.Members.{may_have}
use Rattle.aso_axes.specs.declared.part.Purpose.TheVariants.{Region as Covers}
use Rattle.aso_region.specs.Kept.{IsChosen, has_table}
use Rattle.aso_region.proofs.HighLemmas.{IsHigh, high_member}
use Rattle.aso_region.proofs.TableLemmas.{not_held}

no_hier : (h : ℕ) → None ≡ Some h → ⊥
no_hier h e = cc

same_hier : (g h : ℕ) → Some g ≡ Some h → g ≡ h
same_hier g h e = cc

not_true : (b : Bool) → not b ≡ true → b ≡ false
not_true true h = absurd (true≢false (sym h))
not_true false h = refl

not_not : (b : Bool) → not (not b) ≡ true → b ≡ true
not_not true h = refl
not_not false h = h

base : (o : Draft) (m : ℕ) → may_have o Covers m ≡ true → is_base (seat_of o m) ≡ true
base o m may = and_left (is_base (seat_of o m)) _ (and_right (not (not (nat_lt m (length (seats o))))) _ may)

plain : (o : Draft) (m : ℕ) → may_have o Covers m ≡ true → is_computed o (seat_of o m) ≡ false
plain o m may = not_true (is_computed o (seat_of o m)) (and_right (is_base (seat_of o m)) _ (and_right (not (not (nat_lt m (length (seats o))))) _ may))

-- a base member stands for one of a hierarchy
resolved_base : (o : Draft) (s : Seat) → is_base s ≡ true → (h : ℕ) × (i : ℕ) × (resolve o s ≡ Inner (dim_of s) h i)
resolved_base o (Whole d) is = (_, _, refl)
resolved_base o (Inner d h i) is = (_, _, refl)
resolved_base o (Carried a i) is = absurd (true≢false (sym is))

dim_there : (o : Draft) (s : Seat) → is_base s ≡ true → IsSeat o s → dim_of s < length o.dims
dim_there o (Whole d) is there = there.0
dim_there o (Inner d h i) is there = there.0
dim_there o (Carried a i) is there = absurd (true≢false (sym is))

module _ (o : Draft) (kept : broken o ≡ None) (m : ℕ) (may : may_have o Covers m ≡ true) (there : IsSeat o (seat_of o m)) where
  abbrev s : Seat
  s = seat_of o m

  abbrev d : ℕ
  d = dim_of s

  low : d < length o.dims
  low = dim_there o s (base o m may) there

  -- ---- by ordinals

  module _ (dim f e : ℕ) (is : dim ≡ d) (exactly : (leaf class : ℕ) → leaf < leaf_count o d → class_at o d (hier_of (resolve o s)) 0 leaf ≡ Some class → is_in (f, e) class ≡ holds o s leaf) where
    pub by_ordinals : IsChosen o (record { member = m; dim = dim; hier = None; first = f; end = e })
    by_ordinals = record {
      dim = is;
      low = subst (λ (k : ℕ). k < length o.dims) (sym is) low;
      table = λ g none. absurd (no_hier g none);
      exact = λ leaf below. exactly leaf leaf (subst (λ (k : ℕ). leaf < leaf_count o k) is below) refl;
    }

  -- ---- by classes

  abbrev h : ℕ
  h = (resolved_base o s (base o m may)).0

  abbrev i : ℕ
  i = (resolved_base o s (base o m may)).1

  for_seat : resolve o s ≡ Inner d h i
  for_seat = (resolved_base o s (base o m may)).2

  module _ (none : has_range o (resolve o s) 0 ≡ false) where
    high : IsHigh o d h i
    high = high_member o kept s there (plain o m may) d h i for_seat (sym (ap (λ (x : Seat). has_range o x 0) for_seat) ∙ none)

    hier_low : h < length (dim_at o d).hiers
    hier_low = (subst (IsSeat o) for_seat (resolved_there o (has_trees o kept) (kept_trees o kept) (kept_labels o kept) s there)).1

    table : has_table o d h ≡ true
    table =
        and_from (nat_lt 0 h) _ (lt-ltb 0 h high.alternate)
        (and_from (not (is_dynamic o (Inner d h 0))) (nat_lt 0 (top_of o d h)) (ap not high.stored) (lt-ltb 0 (top_of o d h) (omega (arith, high.top))))

    pub has_classes : has_range o (resolve o s) 1 ≡ true
    has_classes =
        ap (λ (x : Seat). has_range o x 1) for_seat
        ∙ and_from (nat_le 1 (height (parents_of (tree (dim_at o d) h)) i)) (not (is_dynamic o (Inner d h i))) (le-leb 1 (height (parents_of (tree (dim_at o d) h)) i) high.high) (ap not high.stored)

    module _ (dim hier f e : ℕ) (is : dim ≡ d) (is_hier : hier ≡ hier_of (resolve o s)) (exactly : (leaf class : ℕ) → leaf < leaf_count o d → class_at o d (hier_of (resolve o s)) 1 leaf ≡ Some class → is_in (f, e) class ≡ holds o s leaf) where
      at_hier : hier_of (resolve o s) ≡ h
      at_hier = ap hier_of for_seat

      by_class : (leaf : ℕ) → leaf < leaf_count o d → (x : Option ℕ) → class_at o d h 1 leaf ≡ x → unwrap_or (option_map (is_in (f, e)) x) false ≡ holds o s leaf
      by_class leaf below (Some class) has = exactly leaf class below (ap (λ (k : ℕ). class_at o d k 1 leaf) at_hier ∙ has)
      by_class leaf below None has = sym (not_held o d h leaf low hier_low below kept high.alternate high.stored has s i for_seat)

      table_at : (e g : ℕ) → e ≡ d → g ≡ h → (g < length (dim_at o e).hiers) × (has_table o e g ≡ true)
      table_at e g is_dim same =
          subst (λ (x : ℕ). (g < length (dim_at o x).hiers) × (has_table o x g ≡ true)) (sym is_dim)
          (subst (λ (y : ℕ). (y < length (dim_at o d).hiers) × (has_table o d y ≡ true)) (sym same) (hier_low, table))

      pub by_classes : IsChosen o (record { member = m; dim = dim; hier = Some hier; first = f; end = e })
      by_classes = record {
        dim = is;
        low = subst (λ (k : ℕ). k < length o.dims) (sym is) low;
        table = λ g some. table_at dim g is (sym (same_hier hier g some) ∙ (is_hier ∙ at_hier));
        exact = λ leaf below.
            let under : leaf < leaf_count o d = subst (λ (k : ℕ). leaf < leaf_count o k) is below in
            ap (λ (x : Option ℕ). unwrap_or (option_map (is_in (f, e)) x) false)
            (ap (λ (k : ℕ). class_at o k hier 1 leaf) is ∙ ap (λ (k : ℕ). class_at o d k 1 leaf) (is_hier ∙ at_hier))
            ∙ by_class leaf under (class_at o d h 1 leaf) refl;
      }
