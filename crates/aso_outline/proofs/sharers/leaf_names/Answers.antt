use Rattle.std.specs.Option.{option_map}
use Rattle.std.specs.List.{filter, position, range_with_len}
use Rattle.std.proofs.Common.{◌∙◌, ◌<◌, ◌&&◌, ℕ, Bool, Option, Some, None, ap, arith, cond, length, sym}
use Rattle.aso_tree.proofs.Positions.{first_of}
use Rattle.aso_outline.specs.Leaves.{is_data_place, name_in}
use Rattle.aso_outline.specs.Members.{Name, names_at, same_name}
use Rattle.aso_outline.specs.Rules.{same_own}
use Rattle.aso_outline.proofs.LeafNames.{leaf_found, own_if}
use Rattle.aso_outline.proofs.sharers.leaf_names.Goals as goal

pub loop-place-preserved : goal.loop-place-preserved
loop-place-preserved c =
    let ms = c.args.members.now in
    let p : ℕ → Bool = is_data_place ms in
    let n = c.loop-place.place in
    let count = c.loop-place.count in
    let before : Name → Option ℕ = λ q. position (same_name q) (names_at ms (filter p (range_with_len 0 n))) in
    let low : n < length ms = omega arith in
    record {
      names = λ q.
          c.in_ok-note.ensures q
          ∙ (ap (λ (x : Option ℕ). first_of x (cond (same_own (Some q) (option_map (λ r. r.now) c.leaf_name.result)) (Some count) None)) (c.loop-place.invariant.names q)
          ∙ (ap (λ (x : Option Name). first_of (before q) (cond (same_own (Some q) x) (Some count) None)) c.leaf_name.ensures
          ∙ (ap (λ (b : Bool). first_of (before q) (cond b (Some count) None)) (own_if q (p n) (name_in ms n))
          ∙ (ap (λ (k : ℕ). first_of (before q) (cond (p n && same_name q (name_in ms n)) (Some k) None)) c.loop-place.invariant.before
          ∙ sym (leaf_found ms p q n low)))));
      before = c.ordinal_step-count.ensures.next;
      few = c.ordinal_step-count.ensures.few;
    }
