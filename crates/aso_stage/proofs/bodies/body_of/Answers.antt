use Rattle.std.proofs.Common.{◌≡◌, ◌≤◌, ℕ, List, length, rules, sym, subst}
use Rattle.aso_stage.specs.Bodies.{longest_in_range}
use Rattle.aso_stage.proofs.Lengths.{record_short}
use Rattle.aso_stage.proofs.bodies.body_of.Goals as goal

pub returns-clause-short : goal.returns-clause-short
returns-clause-short c =
    let put = c.in_ok-encode.ensures.ok in
    let is : c.encode.new.out.items ≡ put.0 = search (rules, put.2) in
    subst (λ (l : List ℕ). length l ≤ longest_in_range c.args.r.now) (sym is) (record_short c.args.r.now put.0 c.requires.small put.1)
