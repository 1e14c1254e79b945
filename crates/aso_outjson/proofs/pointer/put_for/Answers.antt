use Rattle.std.proofs.Common.{arith, ◌∙◌, ap, sym, List, ℕ, ◌++◌, ◌∷◌, string_bytes, Some, None, length, length-append}
use Rattle.std.proofs.lemmas.Str.Pattern.{split_parts}
use Rattle.aso_outjson.specs.Pointer.{put_for}
use Rattle.aso_outjson.proofs.Pointers.{regroup, to_end, to_mark}
use Rattle.aso_outjson.proofs.pointer.put_for.Goals as goal

pub loop-before-preserved : goal.loop-before-preserved
unfolding lib.Utf8.encode
loop-before-preserved c =
    let mark = c.args.mark in
    let other = c.args.other.now in
    let rest = c.loop-before.rest.now in
    let before = c.in-Some.before.now in
    let after = c.in-Some.after.now in
    let out = string_bytes c.loop-before.out in
    let left = put_for mark other c.same-rest.result.now in
    let parts = split_parts mark rest (Some (c.in-Some.before, c.in-Some.after)) c.in-Some.ensures.cases (omega (arith, c.requires)) in
    record {
      text = c.same-rest.utf8;
      so_far = c.loop-before.invariant.so_far
          ∙ ap (λ (z : List ℕ). out ++ z) (to_mark mark other rest before after parts.0 parts.1 ∙ ap (λ (z : List ℕ). before ++ (other ++ put_for mark other z)) (sym c.same-rest.ensures))
          ∙ regroup out before other left
          ∙ ap (λ (z : List ℕ). z ++ left) (sym (c.in_ok-push_str-2.ensures.bytes ∙ ap (λ (z : List ℕ). z ++ other) c.in_ok-push_str.ensures.bytes));
    }

pub loop-before-smaller : goal.loop-before-smaller
loop-before-smaller c =
    let before = c.in-Some.before.now in
    let after = c.in-Some.after.now in
    let parts = split_parts c.args.mark c.loop-before.rest.now (Some (c.in-Some.before, c.in-Some.after)) c.in-Some.ensures.cases (omega (arith, c.requires)) in
    omega (arith, ap length c.same-rest.ensures, ap length parts.0, length-append before (c.args.mark ∷ after))

pub returns : goal.returns
returns c =
    let parts = split_parts c.args.mark c.loop-before.rest.now None c.in_default.ensures.cases (omega (arith, c.requires)) in
    c.in_ok-push_str-3.ensures.bytes ∙ ap (λ (z : List ℕ). string_bytes c.loop-before.out ++ z) (sym (to_end c.args.mark c.args.other.now c.loop-before.rest.now parts)) ∙ sym c.loop-before.invariant.so_far
