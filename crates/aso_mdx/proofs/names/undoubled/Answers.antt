use Rattle.std.proofs.Common.{arith, ◌∙◌, ap, sym, List, ℕ, ◌++◌, ◌∷◌, [], string_bytes, Some, None, length, length-append}
use Rattle.std.proofs.lemmas.Str.Pattern.{split_parts}
use Rattle.aso_mdx.specs.Grammar.{undoubled}
use Rattle.aso_mdx.proofs.Parts.{to_quote, to_end, regroup}
use Rattle.aso_mdx.proofs.names.undoubled.Goals as goal

pub loop-before-preserved : goal.loop-before-preserved
unfolding lib.Utf8.encode
loop-before-preserved c =
    let rest = c.loop-before.rest.now in
    let before = c.in-Some.before.now in
    let after = c.in-Some.after.now in
    let out = string_bytes c.loop-before.out in
    let left = undoubled c.past_quote-rest.result.now in
    let parts = split_parts 39 rest (Some (c.in-Some.before, c.in-Some.after)) c.in-Some.ensures.cases (omega arith) in
    record {
      text = c.past_quote-rest.utf8;
      so_far = c.loop-before.invariant.so_far
          ∙ ap (λ (z : List ℕ). out ++ z) (to_quote rest before after parts.0 parts.1 ∙ ap (λ (z : List ℕ). before ++ 39 ∷ z) (sym c.past_quote-rest.ensures.value))
          ∙ regroup out before left
          ∙ ap (λ (z : List ℕ). z ++ left) (sym (c.in_ok-push.ensures.bytes ∙ ap (λ (z : List ℕ). z ++ 39 ∷ []) c.in_ok-push_str.ensures.bytes));
    }

pub loop-before-smaller : goal.loop-before-smaller
loop-before-smaller c =
    let before = c.in-Some.before.now in
    let after = c.in-Some.after.now in
    let parts = split_parts 39 c.loop-before.rest.now (Some (c.in-Some.before, c.in-Some.after)) c.in-Some.ensures.cases (omega arith) in
    omega (arith, c.past_quote-rest.ensures.within, ap length parts.0, length-append before (39 ∷ after))

pub returns : goal.returns
returns c =
    let rest = c.loop-before.rest.now in
    let parts = split_parts 39 rest None c.in_default.ensures.cases (omega arith) in
    c.of.ensures ∙ c.in_ok-push_str-2.ensures.bytes ∙ ap (λ (z : List ℕ). string_bytes c.loop-before.out ++ z) (sym (to_end rest parts)) ∙ sym c.loop-before.invariant.so_far
