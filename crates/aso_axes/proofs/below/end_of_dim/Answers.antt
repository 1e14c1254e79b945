use Rattle.std.proofs.Common.{◌∙◌, ◌-◌, ap, arith, length}
use Rattle.aso_outline.specs.declared.seat.Seat.TheVariants.{Inner}
use Rattle.aso_axes.proofs.BelowLemmas.{IsLast, whole_above, whole_dim, whole_within}
use Rattle.aso_axes.proofs.below.end_of_dim.Goals as goal

pub overflow_add-result : goal.overflow_add-result
overflow_add-result c =
    let o = c.args.outline.now in
    let d = c.args.dim in
    let hiers = c.hiers-hiers.result in
    let last : IsLast o c.args.m d hiers c.number-first.result c.length_of-len.result = record {
      is = c.requires.number;
      low = c.requires.there.0;
      several = c.requires.there.1;
      count = c.hiers-hiers.ensures;
      number = c.keeps_numbers.ensures (Inner d (hiers - 1) 0) c.number-first.result c.number-first.ensures;
      long = c.length_of-len.ensures ∙ ap length c.tree-tree.ensures.value;
      some = c.keeps_roots.ensures.trees d (hiers - 1) c.requires.there.0 (omega (arith, c.hiers-hiers.ensures, c.requires.there.1));
    } in
    omega (arith, whole_within o c.args.m d hiers c.number-first.result c.length_of-len.result last, c.keeps_counts.ensures.few_members)

pub returns-clause-members : goal.returns-clause-members
returns-clause-members c =
    let o = c.args.outline.now in
    let d = c.args.dim in
    let hiers = c.hiers-hiers.result in
    let last : IsLast o c.args.m d hiers c.number-first.result c.length_of-len.result = record {
      is = c.requires.number;
      low = c.requires.there.0;
      several = c.requires.there.1;
      count = c.hiers-hiers.ensures;
      number = c.keeps_numbers.ensures (Inner d (hiers - 1) 0) c.number-first.result c.number-first.ensures;
      long = c.length_of-len.ensures ∙ ap length c.tree-tree.ensures.value;
      some = c.keeps_roots.ensures.trees d (hiers - 1) c.requires.there.0 (omega (arith, c.hiers-hiers.ensures, c.requires.there.1));
    } in
    whole_dim o c.args.m d hiers c.number-first.result c.length_of-len.result last

pub returns-clause-above : goal.returns-clause-above
returns-clause-above c =
    let o = c.args.outline.now in
    let d = c.args.dim in
    let hiers = c.hiers-hiers.result in
    let last : IsLast o c.args.m d hiers c.number-first.result c.length_of-len.result = record {
      is = c.requires.number;
      low = c.requires.there.0;
      several = c.requires.there.1;
      count = c.hiers-hiers.ensures;
      number = c.keeps_numbers.ensures (Inner d (hiers - 1) 0) c.number-first.result c.number-first.ensures;
      long = c.length_of-len.ensures ∙ ap length c.tree-tree.ensures.value;
      some = c.keeps_roots.ensures.trees d (hiers - 1) c.requires.there.0 (omega (arith, c.hiers-hiers.ensures, c.requires.there.1));
    } in
    whole_above o c.args.m d hiers c.number-first.result c.length_of-len.result last

pub returns-clause-bound : goal.returns-clause-bound
returns-clause-bound c =
    let o = c.args.outline.now in
    let d = c.args.dim in
    let hiers = c.hiers-hiers.result in
    let last : IsLast o c.args.m d hiers c.number-first.result c.length_of-len.result = record {
      is = c.requires.number;
      low = c.requires.there.0;
      several = c.requires.there.1;
      count = c.hiers-hiers.ensures;
      number = c.keeps_numbers.ensures (Inner d (hiers - 1) 0) c.number-first.result c.number-first.ensures;
      long = c.length_of-len.ensures ∙ ap length c.tree-tree.ensures.value;
      some = c.keeps_roots.ensures.trees d (hiers - 1) c.requires.there.0 (omega (arith, c.hiers-hiers.ensures, c.requires.there.1));
    } in
    whole_within o c.args.m d hiers c.number-first.result c.length_of-len.result last
