use Rattle.std.proofs.Common.{◌≡◌, ◌∙◌, ◌==◌, ◌-◌, sym, ap, arith, ℕ, List, length, drop, take, length-drop}
use Rattle.std.specs.List.{position_or_len}
use Rattle.std.proofs.Math.Seq.{take-length}
use Rattle.aso_sheettext.specs.Lines.{without_return}
use Rattle.aso_sheettext.proofs.Pieces.{last_piece, ended_piece, some_left}
use Rattle.aso_sheettext.proofs.line.Lines.next_piece.Goals as goal

pub returns-then-size-rest-clause-pieces : goal.returns-then-size-rest-clause-pieces
returns-then-size-rest-clause-pieces c =
    let text = c.args.self.now.text.now in
    let at = c.args.self.now.at in
    let rest = take (length text - at) (drop at text) in
    let whole : rest ≡ drop at text = ap (λ (n : ℕ). take n (drop at text)) (sym (length-drop at text)) ∙ take-length (drop at text) in
    (some_left text rest at c.is_empty.result whole c.is_empty.ensures c.if-is_empty.false, last_piece text rest at whole (sym c.until_end-size.ensures.value ∙ c.if-size-rest.true))

pub returns-else-size-rest-clause-pieces : goal.returns-else-size-rest-clause-pieces
returns-else-size-rest-clause-pieces c =
    let text = c.args.self.now.text.now in
    let at = c.args.self.now.at in
    let size = c.until_end-size.result in
    let rest = take (length text - at) (drop at text) in
    let whole : rest ≡ drop at text = ap (λ (n : ℕ). take n (drop at text)) (sym (length-drop at text)) ∙ take-length (drop at text) in
    let is : position_or_len (λ b. b == 10) (drop at text) ≡ size = ap (λ (xs : List ℕ). position_or_len (λ b. b == 10) xs) (sym whole) ∙ sym c.until_end-size.ensures.value in (
      omega arith,
      ended_piece text c.without_return.result.now at size c.requires is (omega (arith, c.until_end-size.ensures.within, c.if-size-rest.false, ap length whole))
          (c.without_return.ensures ∙ ap (λ (xs : List ℕ). without_return (take size xs)) whole),
    )
