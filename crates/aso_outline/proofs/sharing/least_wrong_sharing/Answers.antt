use Rattle.std.proofs.Common.{rules, ◌≡◌, ◌∙◌, ◌<◌, ◌+◌, ◌||◌, ◌∷◌, Bool, ℕ, List, length, get_or, sym, ap, subst, arith}
use Rattle.std.specs.Prelude.{is_some}
use Rattle.std.specs.List.{list_any}
use Rattle.std.specs.HashMap.{get_by_text}
use Rattle.aso_outline.specs.declared.seat.Seat.{Seat}
use Rattle.aso_outline.specs.declared.seat.Seat.TheVariants.{Whole}
use Rattle.aso_outline.specs.Members.{has, seats}
use Rattle.aso_outline.specs.Rules.{breaks_sharing, name_at, shares}
use Rattle.aso_tree.proofs.Firsts.{first_is, none_is}
use Rattle.aso_tree.proofs.FaultLemmas.{longer}
use Rattle.aso_outline.proofs.Follows.{Follows, after_first, follows_at}
use Rattle.aso_outline.proofs.SharedNames.{begun, one_more, up_to}
use Rattle.aso_outline.proofs.sharing.least_wrong_sharing.Goals as goal

pub breaks_sharing-requires-clause-known : goal.breaks_sharing-requires-clause-known
breaks_sharing-requires-clause-known c =
    let o = c.args.draft.now in
    let n = c.loop-number.number in
    let t : Seat = get_or c.args.table.now n (Whole 0) in
    let last : Seat = get_or (Whole 0 ∷ seats o) n (Whole 0) in
    let same : t ≡ get_or (seats o) n (Whole 0) = ap (λ (xs : List Seat). get_or xs n (Whole 0)) c.requires.is in
    let low : n < length (seats o) = omega (arith, ap length c.requires.is, c.loop-number-test.true) in
    let follows : Follows o last t = subst (λ (x : Seat). Follows o last x) (sym same) (follows_at o n (Whole 0) low) in
    let q : List ℕ = name_at o t in
    let is : c.is_some-is_known.result ≡ is_some (get_by_text c.begin.new.shared.map q) = search rules in
    is ∙ (c.begin.ensures q ∙ begun o q last t (is_some (get_by_text c.loop-number.shared.map q)) follows (c.loop-number.invariant.known q))

pub returns-then-breaks_sharing : goal.returns-then-breaks_sharing
returns-then-breaks_sharing c =
    let o = c.args.draft.now in
    let n = c.loop-number.number in
    let same : get_or c.args.table.now n (Whole 0) ≡ get_or (seats o) n (Whole 0) = ap (λ (xs : List Seat). get_or xs n (Whole 0)) c.requires.is in
    let low : n < length (seats o) = omega (arith, ap length c.requires.is, c.loop-number-test.true) in
    sym (first_is (breaks_sharing o) (seats o) n (Whole 0) low c.loop-number.invariant.none
    (ap (breaks_sharing o) (sym same) ∙ (sym c.breaks_sharing.ensures ∙ c.if-breaks_sharing.true)))

pub loop-number-preserved : goal.loop-number-preserved
loop-number-preserved c =
    let o = c.args.draft.now in
    let n = c.loop-number.number in
    let t : Seat = get_or c.args.table.now n (Whole 0) in
    let last : Seat = get_or (Whole 0 ∷ seats o) n (Whole 0) in
    let same : t ≡ get_or (seats o) n (Whole 0) = ap (λ (xs : List Seat). get_or xs n (Whole 0)) c.requires.is in
    let low : n < length (seats o) = omega (arith, ap length c.requires.is, c.loop-number-test.true) in
    let follows : Follows o last t = subst (λ (x : Seat). Follows o last x) (sym same) (follows_at o n (Whole 0) low) in
    let next : t ≡ get_or (Whole 0 ∷ seats o) (n + 1) (Whole 0) = same ∙ sym (after_first (Whole 0) (seats o) n (Whole 0)) in
    record {
      known = λ q.
          c.in_ok-share.ensures q
          ∙ (ap (λ (b : Bool). b || has (shares q) o t) (c.begin.ensures q ∙ begun o q last t (is_some (get_by_text c.loop-number.shared.map q)) follows (c.loop-number.invariant.known q))
          ∙ (one_more o q t ∙ ap (λ (x : Seat). list_any (shares q) (up_to o x)) next));
      none = longer (λ k. breaks_sharing o (get_or (seats o) k (Whole 0))) n c.loop-number.invariant.none
          (ap (breaks_sharing o) (sym same) ∙ (sym c.breaks_sharing.ensures ∙ c.if-breaks_sharing.false));
    }

pub returns : goal.returns
returns c =
    let o = c.args.draft.now in
    sym (none_is (breaks_sharing o) (seats o) (Whole 0) (λ k less. c.loop-number.invariant.none k (omega (arith, less, ap length c.requires.is, c.loop-number-test.false))))
