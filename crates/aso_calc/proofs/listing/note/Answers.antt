use Rattle.std.proofs.Common.{◌≡◌, ◌∙◌, ◌++◌, ◌∷◌, [], List, sym, ap}
use Rattle.aso_outline.specs.declared.draft.Tuple.{Tuple}
use Rattle.aso_calc.specs.Needs.{with_attrs}
use Rattle.aso_calc.specs.Tables.{at}
use Rattle.aso_calc.proofs.BeenLemmas.{been_longer, keys_more}
use Rattle.aso_calc.proofs.listing.note.Goals as goal

pub returns-clause-lists : goal.returns-clause-lists
returns-clause-lists c =
    let old : List Tuple = c.args.listing.now.found.items in
    let t : Tuple = with_attrs c.args.attrs.now c.args.base.now in
    let more : c.push.new.self.items ≡ old ++ t ∷ [] = c.in_ok-push.ensures.items ∙ ap (λ (s : Tuple). old ++ s ∷ []) c.in_ok-tuple.ensures in
    record {
      keys = keys_more (at c.args.listing.now.listed) (at c.add.new.self) old c.push.new.self.items t c.in_ok-key.key.items c.in_ok-key.ensures more c.in_ok-add.ensures c.requires.lists.keys;
      been = been_longer c.args._outline.now c.args._extra.now.members.items (at c.args.listing.now.visited) old c.push.new.self.items t more c.requires.lists.been;
    }
