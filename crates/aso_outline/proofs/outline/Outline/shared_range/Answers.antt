use Rattle.std.proofs.Common.{◌≡◌, ◌∙◌, ◌<◌, ◌≤◌, ◌^◌, arith, length, sym, true}
use Rattle.aso_outline.specs.declared.draft.DraftMember.{DraftMember}
use Rattle.aso_outline.specs.declared.seat.Seat.TheVariants.{Inner}
use Rattle.aso_outline.specs.Classes.{leaf_count}
use Rattle.aso_outline.specs.Leaves.{is_data_place}
use Rattle.aso_outline.specs.Members.{dim_at, tree}
use Rattle.aso_outline.proofs.ClassLemmas.{leaf_of_alternate, passes_few}
use Rattle.aso_outline.proofs.Kept.{has_trees}
use Rattle.aso_outline.proofs.LeafNames.{some_at}
use Rattle.aso_outline.proofs.LeafRows.{in_shared_range, none_in, none_shared}
use Rattle.aso_outline.proofs.Rooted.{kept_names, kept_sharing}
use Rattle.aso_outline.proofs.Unique.{test_there}
use Rattle.aso_outline.proofs.outline.Outline.shared_range.Goals as goal

pub overflow_add-result : goal.overflow_add-result
overflow_add-result c =
    let o = c.args.self.now in
    let d = c.args.dim in
    let t = tree (dim_at o d) 0 in
    let few : leaf_count o d ≤ length t = passes_few (is_data_place t) (length t) 0 in
    let short : length t < 2 ^ 32 = (has_trees o c.keeps.ensures).short (Inner d 0 0) in
    omega (arith, few, short, c.in-Some.ensures.below)

pub returns-in-Some-clause-exactly : goal.returns-in-Some-clause-exactly
returns-in-Some-clause-exactly c leaf low =
    let o = c.args.self.now in
    let d = c.args.dim in
    let h = c.args.hier in
    let i = c.args.at in
    let kept = c.keeps.ensures in
    let there = c.requires.there in
    let m = some_at (tree (dim_at o d) h) i there.2 in
    let shared : m.0.shared ≡ true = sym (test_there (λ (x : DraftMember). x.shared) (tree (dim_at o d) h) i m.0 m.1) ∙ c.requires.shared in
    in_shared_range o (kept_names o kept) (kept_sharing o kept) d there.0 (omega (arith, there.1)) h i m.0 m.1 shared ((has_trees o kept).tree (Inner d h i)) there.2
    c.in-Some.leaf c.in-Some.ensures.below (sym (c.in-Some.ensures.value ∙ leaf_of_alternate o d h i c.requires.alternate)) leaf low

pub returns-in-None-clause-exactly : goal.returns-in-None-clause-exactly
returns-in-None-clause-exactly c leaf low =
    let o = c.args.self.now in
    let d = c.args.dim in
    let h = c.args.hier in
    let i = c.args.at in
    let kept = c.keeps.ensures in
    let there = c.requires.there in
    let m = some_at (tree (dim_at o d) h) i there.2 in
    let shared : m.0.shared ≡ true = sym (test_there (λ (x : DraftMember). x.shared) (tree (dim_at o d) h) i m.0 m.1) ∙ c.requires.shared in
    none_in leaf ∙ none_shared o (kept_names o kept) (kept_sharing o kept) d there.0 (omega (arith, there.1)) h i m.0 m.1 shared ((has_trees o kept).tree (Inner d h i)) there.2
    (sym (c.in-None.ensures.value ∙ leaf_of_alternate o d h i c.requires.alternate)) leaf low
