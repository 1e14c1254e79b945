-- How many cells there are once an amount is added to one, what the cell then has, and what that comes to.
use Rattle.std.proofs.Common.{◌≡◌, ◌∙◌, ℕ, suc, ◌+◌, ◌<◌, ◌≤◌, ◌^◌, Bool, true, false, cond, codes, List, [], ◌∷◌, ◌++◌, map, length, drop, Some, None, refl, sym, ap, arith}
use Rattle.std.specs.Prelude.{ℤ, nat_le, nat_lt, unsigned_abs, unwrap_or}
use Rattle.std.specs.Fmt.{decimal}
use Rattle.std.specs.declared.cmp.Ordering.{Ordering}
use Rattle.std.specs.declared.cmp.Ordering.TheVariants.{Less, Equal, Greater}
use Rattle.std.specs.Ordering.{is_eq}
use Rattle.std.specs.List.{prefix_len}
use Rattle.std.proofs.lemmas.Bool.{le-leb, lt-leb, lt-ltb, le-ltb}
use Rattle.std.proofs.lemmas.Cmp.{nat_list_cmp_total, tied_itself}
use Rattle.aso_num.specs.declared.value.Val.TheVariants.{Num}
use Rattle.aso_num.specs.Numbers.{value_text}
use Rattle.aso_outline.specs.declared.draft.Draft.{Draft}
use Rattle.aso_catalog.specs.declared.record.LeafCell.{LeafCell}
use Rattle.aso_spec.specs.Cells.{Key, add_at, key_order}
use Rattle.aso_spec.specs.Grid.{label}
use Rattle.aso_machine.specs.CellSteps.{add_cell, is_before, is_first, sum_in}
use Rattle.aso_cellnames.specs.Names.{cell_names}
use Rattle.aso_machine.specs.Machine.{Said, Refuses, Changes, added_to, sum_at}
use Rattle.aso_machine.specs.State.{entry}
use Rattle.aso_machine.proofs.Rising.{added_length}

-- ---- the count

module _ (key : Key) (z : ℤ) where
  count_by : (c : LeafCell) (cs : List LeafCell) (o : Ordering) → key_order key c.leaves ≡ o
      → length (add_cell key z cs) ≡ cond (is_first key (drop (prefix_len (is_before key) cs) cs)) (length cs) (length cs + 1)
      → length (add_cell key z (c ∷ cs)) ≡ cond (is_first key (drop (prefix_len (is_before key) (c ∷ cs)) (c ∷ cs))) (length (c ∷ cs)) (length (c ∷ cs) + 1)
  count_by c cs Less e rest = rw e (rw e (omega arith))
  count_by c cs Equal e rest = rw e (rw e refl)
  count_by c cs Greater e rest =
      let next : 1 + prefix_len (is_before key) cs ≡ suc (prefix_len (is_before key) cs) = omega arith in
      rw e (more (is_first key (drop (prefix_len (is_before key) cs) cs)) rest
      ∙ sym (ap (λ (n : ℕ). cond (is_first key (drop n (c ∷ cs))) (length (c ∷ cs)) (length (c ∷ cs) + 1)) next))
    where
      more : (b : Bool) → length (add_cell key z cs) ≡ cond b (length cs) (length cs + 1) → length (c ∷ add_cell key z cs) ≡ cond b (length (c ∷ cs)) (length (c ∷ cs) + 1)
      more true h = omega (arith, h)
      more false h = omega (arith, h)

  pub count_at_place : (cells : List LeafCell) → length (add_cell key z cells) ≡ cond (is_first key (drop (prefix_len (is_before key) cells) cells)) (length cells) (length cells + 1)
  count_at_place [] = refl
  count_at_place (c ∷ cs) = count_by c cs (key_order key c.leaves) refl (count_at_place cs)

  -- ---- the sum

  either : (b : Bool) → unwrap_or (cond b (Some z) None) z ≡ z
  either true = refl
  either false = refl

  tied : key_order key key ≡ Equal
  tied = tied_itself nat_list_cmp_total key

  sum_by : (c : LeafCell) (cs : List LeafCell) (o : Ordering) → key_order key c.leaves ≡ o → sum_at (map entry cs) key z ≡ sum_in key z cs → sum_at (map entry (c ∷ cs)) key z ≡ sum_in key z (c ∷ cs)
  sum_by c cs Less e rest = rw e (rw tied refl)
  sum_by c cs Equal e rest = rw e (rw e refl)
  sum_by c cs Greater e rest = rw e (rw e rest)

  pub sum_is : (cells : List LeafCell) → sum_at (map entry cells) key z ≡ sum_in key z cells
  sum_is [] = either (is_eq (key_order key key))
  sum_is (c ∷ cs) = sum_by c cs (key_order key c.leaves) refl (sum_is cs)

  -- ---- what it comes to

  module _ (o : Draft) (cells : List LeafCell) where
    count_is : length (add_at key z (map entry cells)) ≡ length (add_cell key z cells)
    count_is = sym (added_length key z cells)

    abbrev range_refusal : ℤ → Said
    range_refusal sum = Refuses (codes "210 amount range: " ++ label (cell_names o key) ++ codes ", " ++ value_text (Num sum))

    abbrev count_refusal : ℕ → Said
    count_refusal n = Refuses (codes "213 too many cells: " ++ decimal n)

    abbrev after_sum : Said
    after_sum = cond (nat_lt 1000 (length (add_at key z (map entry cells)))) (count_refusal (length (add_at key z (map entry cells)))) (Changes (add_at key z (map entry cells)))

    pub too_great : 10 ^ 18 ≤ unsigned_abs (sum_in key z cells) → added_to o (map entry cells) key z ≡ range_refusal (sum_in key z cells)
    too_great great =
        ap (λ (x : ℤ). cond (nat_le (10 ^ 18) (unsigned_abs x)) (range_refusal x) after_sum) (sum_is cells)
        ∙ ap (λ (b : Bool). cond b (range_refusal (sum_in key z cells)) after_sum) (le-leb (10 ^ 18) (unsigned_abs (sum_in key z cells)) great)

    small_sum : unsigned_abs (sum_in key z cells) < 10 ^ 18 → added_to o (map entry cells) key z ≡ after_sum
    small_sum small =
        ap (λ (x : ℤ). cond (nat_le (10 ^ 18) (unsigned_abs x)) (range_refusal x) after_sum) (sum_is cells)
        ∙ ap (λ (b : Bool). cond b (range_refusal (sum_in key z cells)) after_sum) (lt-leb (10 ^ 18) (unsigned_abs (sum_in key z cells)) small)

    pub too_many : unsigned_abs (sum_in key z cells) < 10 ^ 18 → 1000 < length (add_cell key z cells) → added_to o (map entry cells) key z ≡ count_refusal (length (add_cell key z cells))
    too_many small many =
        small_sum small
        ∙ ap (λ (n : ℕ). cond (nat_lt 1000 n) (count_refusal n) (Changes (add_at key z (map entry cells)))) count_is
        ∙ ap (λ (b : Bool). cond b (count_refusal (length (add_cell key z cells))) (Changes (add_at key z (map entry cells)))) (lt-ltb 1000 (length (add_cell key z cells)) many)

    pub in_range : unsigned_abs (sum_in key z cells) < 10 ^ 18 → length (add_cell key z cells) ≤ 1000 → added_to o (map entry cells) key z ≡ Changes (add_at key z (map entry cells))
    in_range small few =
        small_sum small
        ∙ ap (λ (n : ℕ). cond (nat_lt 1000 n) (count_refusal n) (Changes (add_at key z (map entry cells)))) count_is
        ∙ ap (λ (b : Bool). cond b (count_refusal (length (add_cell key z cells))) (Changes (add_at key z (map entry cells)))) (le-ltb 1000 (length (add_cell key z cells)) few)
