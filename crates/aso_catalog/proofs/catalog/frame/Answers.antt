use Rattle.std.proofs.Common.{◌≡◌, ℕ, ◌+◌, List, ◌++◌, take, length, ◌∙◌, ap, arith}
use Rattle.aso_disk.specs.Slots.{overwrite}
use Rattle.aso_disk.specs.CallLaws.{length-overwrite}
use Rattle.aso_catalog.proofs.Areas.{framed_in, length-framed_in}
use Rattle.aso_catalog.proofs.catalog.frame.Goals as goal

pub returns-clause-frame : goal.returns-clause-frame
returns-clause-frame c =
    let body = c.args.body.now in
    let size = c.to_be_bytes-size.result in
    let four : length size ≡ 4 = ap length c.to_be_bytes-size.ensures in
    ap (λ (l : List ℕ). take (4 + length body) l) (c.put-2.ensures ∙ ap (λ (l : List ℕ). overwrite 4 body l) c.put.ensures) ∙ framed_in size body c.args.buffer.now.items four (omega (arith, c.requires.space, c.requires.fits)) ∙ ap (λ (l : List ℕ). l ++ body) c.to_be_bytes-size.ensures

pub returns-clause-space : goal.returns-clause-space
returns-clause-space c =
    let body = c.args.body.now in
    let size = c.to_be_bytes-size.result in
    let four : length size ≡ 4 = ap length c.to_be_bytes-size.ensures in
    ap length (c.put-2.ensures ∙ ap (λ (l : List ℕ). overwrite 4 body l) c.put.ensures) ∙ length-framed_in size body c.args.buffer.now.items four (omega (arith, c.requires.space, c.requires.fits)) ∙ c.requires.space

pub put-requires-2 : goal.put-requires-2
put-requires-2 c =
    let size = c.to_be_bytes-size.result in
    let four : length size ≡ 4 = ap length c.to_be_bytes-size.ensures in
    let long : length c.put.new.all.items ≡ length c.args.buffer.now.items = ap length c.put.ensures ∙ length-overwrite 0 size c.args.buffer.now.items (omega (arith, c.requires.space)) in
    omega (arith, c.requires.space, c.requires.fits)
