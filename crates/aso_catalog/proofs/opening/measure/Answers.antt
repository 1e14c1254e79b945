use Rattle.std.proofs.Common.{ℕ, List, Option, subst}
use Rattle.std.specs.Prelude.{IfSome}
use Rattle.aso_disk.specs.Slots.{Only}
use Rattle.aso_catalog.specs.Image.{IsSeen}
use Rattle.aso_catalog.proofs.Since.{from_sync}
use Rattle.aso_catalog.proofs.opening.measure.Goals as goal

pub returns-clause-synced : goal.returns-clause-synced
returns-clause-synced g c =
    let told = g.C.Slots.seen c.args.slots.now in
    let P : Option (List ℕ) → Type 0 = λ o. IfSome o (λ b. Only b (g.C.Slots.left c.sync.new.self (g.C.Slots.moment c.sync.new.self))) in
    from_sync g.C.Slots.moment g.C.Slots.left c.args.slots.now c.sync.new.self c.size.new.self (IsSeen told) c.sync.ensures.crash.later (λ x is s was. subst P was c.in-Ok.ensures.durable x is) c.size.ensures.crash
