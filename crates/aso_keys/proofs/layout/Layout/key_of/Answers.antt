use Rattle.std.proofs.Common.{◌≡◌, ℕ, ◌<◌, ◌^◌, List, sym, ◌∙◌, ap, subst}
use Rattle.std.specs.Ordering.{nat_cmp}
use Rattle.aso_keys.specs.declared.axis.Axis.{Axis}
use Rattle.aso_keys.specs.Axes.{bits_of, key_of, fields_of, ArePlaced}
use Rattle.aso_keys.proofs.LayoutLemmas.{key_below, read_back, in_order}
use Rattle.aso_keys.proofs.layout.Layout.key_of.Goals as goal

pub returns : goal.returns
returns g c =
    let axes = c.args.self.now in
    let classes = c.args.classes.now in
    let placed : ArePlaced axes = subst ArePlaced c.self.view_is c.self.invariant.0 in
    let is : c.key_in.result ≡ key_of axes classes = c.key_in.ensures ∙ ap (λ (l : List Axis). key_of l classes) (c.items.ensures ∙ c.self.view_is) in
    record {
      written = is;
      bounded = subst (λ (n : ℕ). n < 2 ^ bits_of axes) (sym is) (key_below axes classes placed c.requires.classes);
      read_back = ap (fields_of axes) is ∙ read_back axes classes placed c.requires.classes;
      order = λ others are. in_order axes classes others placed c.requires.classes are ∙ ap (λ (n : ℕ). nat_cmp n (key_of axes others)) (sym is);
    }
