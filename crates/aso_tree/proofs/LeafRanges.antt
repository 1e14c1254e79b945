-- The leaves below a node have ordinals without a gap.
use Rattle.std.specs.Prelude.{slice_range}
use Rattle.std.specs.List.{filter, range_with_len}
use Rattle.std.proofs.Common.{◌≡◌, ◌∙◌, ℕ, ◌+◌, ◌-◌, ◌≤◌, List, ◌++◌, length, take, drop, sym, ap, arith, length-append}
use Rattle.std.proofs.lemmas.List.Elements.{filter-append}
use Rattle.std.proofs.Math.Seq.{take-append_seam, drop-append_seam}
use Rattle.aso_tree.specs.Trees.{leaves, leaves_before, is_leaf, under, IsTree}
use Rattle.aso_tree.proofs.Ends.{EndsAt, span_of}
use Rattle.aso_tree.proofs.Classes.{range_split}

module _ (parents : List ℕ) (tree : IsTree parents) (i end : ℕ) (e : EndsAt parents tree i end) where
  front : List ℕ
  front = filter (is_leaf parents) (range_with_len 0 i)

  here : List ℕ
  here = filter (is_leaf parents) (range_with_len i (end - i))

  back : List ℕ
  back = filter (is_leaf parents) (range_with_len end (length parents - end))

  up_to_end : filter (is_leaf parents) (range_with_len 0 end) ≡ front ++ here
  unfolding front here
  up_to_end =
      let sum : i + (end - i) ≡ end = omega (arith, e.low) in
      ap (λ n. filter (is_leaf parents) (range_with_len 0 n)) (sym sum) ∙ (ap (filter (is_leaf parents)) (range_split i (end - i) 0 i (omega arith)) ∙ filter-append (is_leaf parents) (range_with_len 0 i) (range_with_len i (end - i)))

  all : leaves parents ≡ front ++ (here ++ back)
  unfolding leaves front here back
  all =
      let sum : i + ((end - i) + (length parents - end)) ≡ length parents = omega (arith, e.low, e.fits) in
      ap (λ n. filter (is_leaf parents) (range_with_len 0 n)) (sym sum)
      ∙ (ap (filter (is_leaf parents)) (range_split i ((end - i) + (length parents - end)) 0 i (omega arith))
      ∙ (filter-append (is_leaf parents) (range_with_len 0 i) (range_with_len i ((end - i) + (length parents - end)))
      ∙ ap (λ xs. filter (is_leaf parents) (range_with_len 0 i) ++ xs)
      (ap (filter (is_leaf parents)) (range_split (end - i) (length parents - end) i end (omega (arith, e.low))) ∙ filter-append (is_leaf parents) (range_with_len i (end - i)) (range_with_len end (length parents - end)))))

  long : leaves_before parents end ≡ leaves_before parents i + length here
  unfolding front here
  long = ap length up_to_end ∙ length-append front here

  pub leaf_range_is : slice_range (leaves parents) (leaves_before parents i) (leaves_before parents end) ≡ filter (is_leaf parents) (under parents i)
  unfolding front here
  leaf_range_is =
      let width : leaves_before parents end - leaves_before parents i ≡ length here = omega (arith, long) in
      ap (λ n. take n (drop (length front) (leaves parents))) width
      ∙ (ap (λ xs. take (length here) (drop (length front) xs)) all
      ∙ (ap (take (length here)) (drop-append_seam front (here ++ back))
      ∙ (take-append_seam here back ∙ ap (filter (is_leaf parents)) (sym (span_of parents tree i end e)))))

  pub leaf_range_in_order : leaves_before parents i ≤ leaves_before parents end
  leaf_range_in_order = omega (arith, long)

  pub leaf_range_fits : leaves_before parents end ≤ length (leaves parents)
  unfolding front here
  leaf_range_fits = omega (arith, ap length all, length-append front (here ++ back), length-append here back, long)
