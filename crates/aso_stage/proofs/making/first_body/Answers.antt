use Rattle.std.proofs.Common.{◌≡◌, ◌∙◌, ◌≤◌, ◌*◌, List, [], None, length, arith, ap, refl, sym, subst}
use Rattle.aso_catalog.specs.declared.record.LeafCell.{LeafCell}
use Rattle.aso_catalog.specs.declared.record.Record.{Record}
use Rattle.std.specs.List.{AllByRecursion}
use Rattle.aso_machine.specs.CellSteps.{IsSmall}
use Rattle.aso_catalog.specs.Record.{AreRising, IsRecord}
use Rattle.aso_stage.specs.Bodies.{longest_cell_in_range, longest_in_range}
use Rattle.aso_catalog.specs.Image.{IsBody}
use Rattle.aso_stage.specs.Images.{Records}
use Rattle.aso_machine.specs.State.{new_store}
use Rattle.aso_stage.proofs.Results.{if_ok, if_ok_both}
use Rattle.aso_stage.proofs.Standing.{first_stands}
use Rattle.aso_stage.proofs.making.first_body.Goals as goal

pub body_of-requires-clause-storable : goal.body_of-requires-clause-storable
body_of-requires-clause-storable c =
    let same : c.of.result ≡ c.args.text.now = c.of.ensures ∙ c.in_ok-from_slice.ensures.items in
    let none : c.of-2.result ≡ [] = c.of-2.ensures ∙ c.new.ensures.items in
    let long = ap length same in
    let count = ap length none in
    record {
      older = omega arith;
      short = omega (arith, long, c.requires.short);
      least = omega (arith, c.dims.ensures, c.keeps_counts.ensures.some_dim);
      most = omega (arith, c.dims.ensures, c.keeps_counts.ensures.few_dims);
      few = omega (arith, count);
      rising = subst (λ (l : List LeafCell). AreRising c.dims.result None l) (sym none) tt;
    }

pub body_of-requires-clause-small : goal.body_of-requires-clause-small
body_of-requires-clause-small c = subst (λ (l : List LeafCell). AllByRecursion IsSmall l) (sym (c.of-2.ensures ∙ c.new.ensures.items)) tt

pub returns-clause-body : goal.returns-clause-body
returns-clause-body c =
    let r : Record = record { layout = 1; commit = 0; outline = c.of.result; dimensions = c.dims.result; cells = c.of-2.result } in
    let same : c.of.result ≡ c.args.text.now = c.of.ensures ∙ c.in_ok-from_slice.ensures.items in
    let none : c.of-2.result ≡ [] = c.of-2.ensures ∙ c.new.ensures.items in
    let long = ap length same in
    let count = ap (λ (l : List LeafCell). length l * longest_cell_in_range c.dims.result) none in
    let short = c.requires.short in
    if_ok_both c.body_of.result (λ b. IsRecord r b.items) (λ b. length b.items ≤ longest_in_range r) (λ b. IsBody 1 b.items)
    (λ b spelled fits. record { r = r; spelled = spelled; names = refl; fits = omega (arith, fits, long, count, short) }) c.body_of.ensures.spelled c.body_of.ensures.short

pub returns-clause-records : goal.returns-clause-records
returns-clause-records c =
    let r : Record = record { layout = 1; commit = 0; outline = c.of.result; dimensions = c.dims.result; cells = c.of-2.result } in
    let same : c.of.result ≡ c.args.text.now = c.of.ensures ∙ c.in_ok-from_slice.ensures.items in
    let none : c.of-2.result ≡ [] = c.of-2.ensures ∙ c.new.ensures.items in
    if_ok c.body_of.result (λ b. IsRecord r b.items) (λ b. Records b.items (new_store c.args.text.now c.args.outline.now))
    (λ b spelled. record { r = r; spelled = spelled; stands = first_stands c.args.text.now c.of.result c.args.outline.now c.dims.result c.of-2.result same none c.dims.ensures c.requires }) c.body_of.ensures.spelled
