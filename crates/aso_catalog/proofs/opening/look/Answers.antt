use Rattle.std.proofs.Common.{◌≡◌, ◌+◌, ◌-◌, ◌<◌, ◌≤◌, ℕ, List, take, drop, refl, sym, ◌∙◌, ap, subst, arith}
use Rattle.std.specs.Int.{from_be_bytes, w32}
use Rattle.std.proofs.lemmas.List.{drop-drop}
use Rattle.aso_catalog.specs.declared.record.Record.{Record}
use Rattle.aso_catalog.specs.Record.{IsRecord}
use Rattle.aso_catalog.specs.Image.{gate_of, size_in, framed}
use Rattle.aso_catalog.proofs.Fields.{bad_weaker}
use Rattle.aso_catalog.proofs.Areas.{four_cells}
use Rattle.aso_catalog.proofs.opening.look.Goals as goal

pub returns-then-bytes-ne1-clause-found : goal.returns-then-bytes-ne1-clause-found
unfolding gate_of
returns-then-bytes-ne1-clause-found c = record { closed = λ e. c.if-bytes-ne1.true; opened = λ r e. absurd (cc e) }

pub returns-then-size-gt-MOST_BODY-clause-bad : goal.returns-then-size-gt-MOST_BODY-clause-bad
unfolding gate_of
returns-then-size-gt-MOST_BODY-clause-bad c =
    let bytes = c.args.bytes.now in
    let size_is : c.from_be_bytes-size.result ≡ size_in (drop 1 bytes) = c.from_be_bytes-size.ensures ∙ ap (from_be_bytes w32) (sym (four_cells bytes (omega (arith, c.requires)))) in
    let big : 131067 < c.from_be_bytes-size.result = c.if-size-gt-MOST_BODY.true in
    (refl, (c.if-bytes-ne1.false, λ whole. let fits : size_in (drop 1 bytes) ≤ 131067 = whole.fits in omega arith))

pub returns-in-Ok-clause-found : goal.returns-in-Ok-clause-found
unfolding gate_of framed
returns-in-Ok-clause-found c =
    let bytes = c.args.bytes.now in
    let size_is : c.from_be_bytes-size.result ≡ size_in (drop 1 bytes) = c.from_be_bytes-size.ensures ∙ ap (from_be_bytes w32) (sym (four_cells bytes (omega (arith, c.requires)))) in
    let small : c.from_be_bytes-size.result ≤ 131067 = omega arith in
    let cut : 5 + c.from_be_bytes-size.result - 5 ≡ size_in (drop 1 bytes) = omega arith in
    let body_is : take (5 + c.from_be_bytes-size.result - 5) (drop 5 bytes) ≡ framed (drop 1 bytes) = ap (λ (n : ℕ). take n (drop 5 bytes)) cut ∙ ap (λ (l : List ℕ). take (size_in (drop 1 bytes)) l) (sym (drop-drop 4 1 bytes)) in
    record {
      closed = λ e. absurd (cc e);
      opened = λ r e. (c.if-bytes-ne1.false, omega arith, subst (λ (x : Record). IsRecord x (framed (drop 1 bytes))) (let same : c.in-Ok.found ≡ r = cc e in same) (subst (IsRecord c.in-Ok.found) body_is c.in-Ok.ensures.found));
    }

pub returns-in-Err-clause-bad : goal.returns-in-Err-clause-bad
unfolding gate_of framed
returns-in-Err-clause-bad c =
    let bytes = c.args.bytes.now in
    let size_is : c.from_be_bytes-size.result ≡ size_in (drop 1 bytes) = c.from_be_bytes-size.ensures ∙ ap (from_be_bytes w32) (sym (four_cells bytes (omega (arith, c.requires)))) in
    let cut : 5 + c.from_be_bytes-size.result - 5 ≡ size_in (drop 1 bytes) = omega arith in
    let body_is : take (5 + c.from_be_bytes-size.result - 5) (drop 5 bytes) ≡ framed (drop 1 bytes) = ap (λ (n : ℕ). take n (drop 5 bytes)) cut ∙ ap (λ (l : List ℕ). take (size_in (drop 1 bytes)) l) (sym (drop-drop 4 1 bytes)) in
    bad_weaker c.in-Err.fault _ _ c.in-Err.ensures.bad (λ none. (c.if-bytes-ne1.false, λ whole. none whole.r (subst (IsRecord whole.r) (sym body_is) whole.spelled)))
