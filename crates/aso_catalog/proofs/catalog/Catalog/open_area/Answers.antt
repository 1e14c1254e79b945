use Rattle.std.proofs.Common.{◌-◌, ◌*◌, ◌∷◌, [], List, ℕ, Some, true, false, refl, sym, ◌∙◌, ap, arith}
use Rattle.aso_catalog.proofs.Exits.{at_flags, told, keeps, keeps_other, gate_fails, gate_opens, gate_opened, gate_settles, not_false, before_open, Stood, Wrote, Synced, Room}
use Rattle.aso_catalog.proofs.catalog.Catalog.open_area.Goals as goal

pub invariant_of-self-in-Err : goal.invariant_of-self-in-Err
invariant_of-self-in-Err g c =
    let me = c.args.self.now in
    let wrote : Wrote g.C.Slots.moment g.C.Slots.left g.C.Slots.seen me.slots c.write_through.new.slots me.current me.within me.layout me.present me.shut me.kept (131072 * (1 - me.current)) 1 = (c.write_through.ensures.crash, c.write_through.ensures.outside, c.write_through.ensures.tells) in
    let stood : Stood g.C.Slots.moment g.C.Slots.left g.C.Slots.seen me.slots c.write_through.new.slots me.current me.within me.layout me.present me.shut me.kept true true = λ s was. at_flags me.current me.layout me.present me.shut me.kept true true s _ c.requires.filled.0 c.requires.filled.1 (me.stands s was) in
    record { within = me.within; space = me.space; room = omega (arith, me.room, c.write_through.ensures.extent); known = λ e. c.requires.filled.1; stands = λ t now. at_flags me.current me.layout me.present false true false me.kept t _ refl (sym c.requires.filled.1) (gate_fails g.C.Slots.moment g.C.Slots.left g.C.Slots.seen me.slots c.write_through.new.slots me.current me.within me.layout me.present me.shut me.kept true false refl stood wrote t now) }

pub invariant_of-self : goal.invariant_of-self
invariant_of-self g c =
    let me = c.args.self.now in
    let wrote : Wrote g.C.Slots.moment g.C.Slots.left g.C.Slots.seen me.slots c.write_through.new.slots me.current me.within me.layout me.present me.shut me.kept (131072 * (1 - me.current)) 1 = (c.write_through.ensures.crash, c.write_through.ensures.outside, c.write_through.ensures.tells) in
    let stood : Stood g.C.Slots.moment g.C.Slots.left g.C.Slots.seen me.slots c.write_through.new.slots me.current me.within me.layout me.present me.shut me.kept true true = λ s was. at_flags me.current me.layout me.present me.shut me.kept true true s _ c.requires.filled.0 c.requires.filled.1 (me.stands s was) in
    let room : Room g.C.Slots.moment g.C.Slots.left g.C.Slots.seen me.slots c.write_through.new.slots me.current me.within me.layout me.present me.shut me.kept = λ s was. let size = g.met.C.Slots.fixed me.slots s was in let big = me.room in omega arith in
    let synced : Synced g.C.Slots.moment g.C.Slots.left g.C.Slots.seen me.slots c.write_through.new.slots me.current me.within me.layout me.present me.shut me.kept (131072 * (1 - me.current)) (1 ∷ []) = (c.in-Ok.ensures.written, c.in-Ok.ensures.durable) in
    record { within = omega arith; space = me.space; room = omega (arith, me.room, c.write_through.ensures.extent); known = λ e. not_false me.present e; stands = λ t now. gate_opened g.C.Slots.moment g.C.Slots.left g.C.Slots.seen me.slots c.write_through.new.slots me.current me.within me.layout me.present me.shut me.kept room stood wrote synced t now }

pub returns-in-Ok-clause-opened : goal.returns-in-Ok-clause-opened
returns-in-Ok-clause-opened g c =
    let me = c.args.self.now in
    let wrote : Wrote g.C.Slots.moment g.C.Slots.left g.C.Slots.seen me.slots c.write_through.new.slots me.current me.within me.layout me.present me.shut me.kept (131072 * (1 - me.current)) 1 = (c.write_through.ensures.crash, c.write_through.ensures.outside, c.write_through.ensures.tells) in
    let stood : Stood g.C.Slots.moment g.C.Slots.left g.C.Slots.seen me.slots c.write_through.new.slots me.current me.within me.layout me.present me.shut me.kept true true = λ s was. at_flags me.current me.layout me.present me.shut me.kept true true s _ c.requires.filled.0 c.requires.filled.1 (me.stands s was) in
    let room : Room g.C.Slots.moment g.C.Slots.left g.C.Slots.seen me.slots c.write_through.new.slots me.current me.within me.layout me.present me.shut me.kept = λ s was. let size = g.met.C.Slots.fixed me.slots s was in let big = me.room in omega arith in
    let synced : Synced g.C.Slots.moment g.C.Slots.left g.C.Slots.seen me.slots c.write_through.new.slots me.current me.within me.layout me.present me.shut me.kept (131072 * (1 - me.current)) (1 ∷ []) = (c.in-Ok.ensures.written, c.in-Ok.ensures.durable) in
    λ body has t now.
    let s = told (g.C.Slots.seen me.slots) (g.C.Slots.seen c.write_through.new.slots) t c.write_through.ensures.tells now in
    (gate_opens g.C.Slots.moment g.C.Slots.left g.C.Slots.seen me.slots c.write_through.new.slots me.current me.within me.layout me.present me.shut me.kept room stood wrote synced s.0 t s.1 now).1 ∙ ap (λ (x : List ℕ). Some x) (has s.0 s.1)

pub returns-in-Ok-clause-settled : goal.returns-in-Ok-clause-settled
returns-in-Ok-clause-settled g c =
    let me = c.args.self.now in
    let wrote : Wrote g.C.Slots.moment g.C.Slots.left g.C.Slots.seen me.slots c.write_through.new.slots me.current me.within me.layout me.present me.shut me.kept (131072 * (1 - me.current)) 1 = (c.write_through.ensures.crash, c.write_through.ensures.outside, c.write_through.ensures.tells) in
    let stood : Stood g.C.Slots.moment g.C.Slots.left g.C.Slots.seen me.slots c.write_through.new.slots me.current me.within me.layout me.present me.shut me.kept true true = λ s was. at_flags me.current me.layout me.present me.shut me.kept true true s _ c.requires.filled.0 c.requires.filled.1 (me.stands s was) in
    let room : Room g.C.Slots.moment g.C.Slots.left g.C.Slots.seen me.slots c.write_through.new.slots me.current me.within me.layout me.present me.shut me.kept = λ s was. let size = g.met.C.Slots.fixed me.slots s was in let big = me.room in omega arith in
    let synced : Synced g.C.Slots.moment g.C.Slots.left g.C.Slots.seen me.slots c.write_through.new.slots me.current me.within me.layout me.present me.shut me.kept (131072 * (1 - me.current)) (1 ∷ []) = (c.in-Ok.ensures.written, c.in-Ok.ensures.durable) in
    λ e t now. let is = gate_settles g.C.Slots.moment g.C.Slots.left g.C.Slots.seen me.slots c.write_through.new.slots me.current me.within me.layout me.present me.shut me.kept room stood wrote synced t now e in omega (arith, is)

pub returns-in-Ok-clause-any_moment : goal.returns-in-Ok-clause-any_moment
returns-in-Ok-clause-any_moment g c =
    let me = c.args.self.now in
    let wrote : Wrote g.C.Slots.moment g.C.Slots.left g.C.Slots.seen me.slots c.write_through.new.slots me.current me.within me.layout me.present me.shut me.kept (131072 * (1 - me.current)) 1 = (c.write_through.ensures.crash, c.write_through.ensures.outside, c.write_through.ensures.tells) in
    let stood : Stood g.C.Slots.moment g.C.Slots.left g.C.Slots.seen me.slots c.write_through.new.slots me.current me.within me.layout me.present me.shut me.kept true true = λ s was. at_flags me.current me.layout me.present me.shut me.kept true true s _ c.requires.filled.0 c.requires.filled.1 (me.stands s was) in
    λ body has. before_open g.C.Slots.moment g.C.Slots.left g.C.Slots.seen me.slots c.write_through.new.slots me.current me.within me.layout me.present me.shut me.kept stood wrote body has

pub returns-in-Err-clause-keeps : goal.returns-in-Err-clause-keeps
returns-in-Err-clause-keeps g c =
    let me = c.args.self.now in
    let wrote : Wrote g.C.Slots.moment g.C.Slots.left g.C.Slots.seen me.slots c.write_through.new.slots me.current me.within me.layout me.present me.shut me.kept (131072 * (1 - me.current)) 1 = (c.write_through.ensures.crash, c.write_through.ensures.outside, c.write_through.ensures.tells) in
    λ r has t now. keeps g.C.Slots.moment g.C.Slots.left g.C.Slots.seen me.slots c.write_through.new.slots me.current me.within me.layout me.present me.shut me.kept (131072 * (1 - me.current)) 1 (omega arith) (omega arith) wrote r has t now

pub returns-in-Err-clause-doubt : goal.returns-in-Err-clause-doubt
returns-in-Err-clause-doubt g c =
    let me = c.args.self.now in
    let wrote : Wrote g.C.Slots.moment g.C.Slots.left g.C.Slots.seen me.slots c.write_through.new.slots me.current me.within me.layout me.present me.shut me.kept (131072 * (1 - me.current)) 1 = (c.write_through.ensures.crash, c.write_through.ensures.outside, c.write_through.ensures.tells) in
    λ body has. (refl, λ t now. keeps_other g.C.Slots.moment g.C.Slots.left g.C.Slots.seen me.slots c.write_through.new.slots me.current me.within me.layout me.present me.shut me.kept wrote body has t now)

pub returns-in-Err-clause-any_moment : goal.returns-in-Err-clause-any_moment
returns-in-Err-clause-any_moment g c =
    let me = c.args.self.now in
    let wrote : Wrote g.C.Slots.moment g.C.Slots.left g.C.Slots.seen me.slots c.write_through.new.slots me.current me.within me.layout me.present me.shut me.kept (131072 * (1 - me.current)) 1 = (c.write_through.ensures.crash, c.write_through.ensures.outside, c.write_through.ensures.tells) in
    let stood : Stood g.C.Slots.moment g.C.Slots.left g.C.Slots.seen me.slots c.write_through.new.slots me.current me.within me.layout me.present me.shut me.kept true true = λ s was. at_flags me.current me.layout me.present me.shut me.kept true true s _ c.requires.filled.0 c.requires.filled.1 (me.stands s was) in
    λ body has. before_open g.C.Slots.moment g.C.Slots.left g.C.Slots.seen me.slots c.write_through.new.slots me.current me.within me.layout me.present me.shut me.kept stood wrote body has
