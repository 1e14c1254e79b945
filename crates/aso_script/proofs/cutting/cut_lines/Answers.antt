use Rattle.std.proofs.Common.{◌≡◌, ◌<◌, ◌∙◌, length, map, ap, refl, arith, rules}
use Rattle.std.proofs.lemmas.List.{map-append}
use Rattle.aso_script.specs.Script.{script_lines}
use Rattle.aso_script.specs.Lines.{line}
use Rattle.aso_script.proofs.LineLemmas.{one_line, all_lines}
use Rattle.aso_script.proofs.cutting.cut_lines.Goals as goal

pub loop-rest-init : goal.loop-rest-init
unfolding script_lines
loop-rest-init c = (rw c.new-lines.ensures.items refl, omega arith)

pub loop-rest-preserved : goal.loop-rest-preserved
loop-rest-preserved c =
    let some : 0 < length c.loop-rest.rest.now = first_of (grind (arith, c.is_empty.ensures, c.loop-rest-test.true), search rules) in (
      one_line c.args.text.now c.loop-rest.rest.now c.split_at.result.0.now c.split_at.result.1.now (map line c.loop-rest.lines.items) (map line c.push.new.self.items) c.loop-rest.at c.first_len.result
          c.loop-rest.invariant.0 some c.first_len.ensures.value c.split_at.ensures.front c.split_at.ensures.back
          (ap (map line) c.in_ok-push.ensures.items ∙ map-append line c.loop-rest.lines.items _),
      omega (arith, c.loop-rest.invariant.1, c.split_at.ensures.front_len, c.split_at.ensures.back_len),
    )

pub returns : goal.returns
returns c =
    let none : length c.loop-rest.rest.now ≡ 0 = first_of (grind (arith, c.is_empty.ensures, c.loop-rest-test.false), search rules) in
    all_lines c.args.text.now c.loop-rest.rest.now (map line c.loop-rest.lines.items) c.loop-rest.at c.loop-rest.invariant.0 none
