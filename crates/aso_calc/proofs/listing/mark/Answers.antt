use Rattle.std.proofs.Common.{◌∙◌, true, List, ℕ, Some, ap}
use Rattle.std.specs.Prelude.{if◌then◌else◌}
use Rattle.std.specs.Str.{bytes_eq}
use Rattle.aso_calc.specs.Tables.{at}
use Rattle.aso_calc.proofs.BeenLemmas.{been_marked}
use Rattle.aso_calc.proofs.listing.mark.Goals as goal

pub returns-clause-lists : goal.returns-clause-lists
returns-clause-lists c =
    record {
      keys = c.requires.lists.keys;
      been =
          been_marked c.args._outline.now c.args._extra.now.members.items (at c.args.listing.now.visited) (at c.add.new.self) c.args.listing.now.found.items c.args.ranks c.args.base.now c.args.attrs.now
          c.requires.lists.been c.requires.found (λ q. c.in_ok-add.ensures q ∙ ap (λ (k : List ℕ). if bytes_eq k q then Some true else at c.args.listing.now.visited q) c.in_ok-key.ensures);
    }
