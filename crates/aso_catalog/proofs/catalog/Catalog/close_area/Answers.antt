use Rattle.std.proofs.Common.{◌-◌, ◌*◌, ◌∷◌, [], true, false, refl, sym, arith}
use Rattle.std.proofs.lemmas.Result.{err_from_is_err_and}
use Rattle.aso_catalog.proofs.Exits.{at_flags, keeps, keeps_other, gate_fails, gate_closes, before_gate, Stood, Wrote, Synced, Room}
use Rattle.aso_catalog.proofs.catalog.Catalog.close_area.Goals as goal

pub invariant_of-self : goal.invariant_of-self
invariant_of-self g c =
    let me = c.args.self.now in
    let wrote : Wrote g.C.Slots.moment g.C.Slots.left g.C.Slots.seen me.slots c.write_through.new.slots me.current me.within me.layout me.present me.shut me.kept (131072 * (1 - me.current)) 1 = (c.write_through.ensures.crash, c.write_through.ensures.outside, c.write_through.ensures.tells) in
    let stood : Stood g.C.Slots.moment g.C.Slots.left g.C.Slots.seen me.slots c.write_through.new.slots me.current me.within me.layout me.present me.shut me.kept false true = λ s was. at_flags me.current me.layout me.present me.shut me.kept false true s _ c.requires (me.known c.requires) (me.stands s was) in
    record { within = me.within; space = me.space; room = omega (arith, me.room, c.write_through.ensures.extent); known = me.known; stands = λ t now. at_flags me.current me.layout me.present false true me.shut me.kept t _ (sym c.requires) (sym (me.known c.requires)) (gate_fails g.C.Slots.moment g.C.Slots.left g.C.Slots.seen me.slots c.write_through.new.slots me.current me.within me.layout me.present me.shut me.kept false false refl stood wrote t now) }

pub returns-in_err-write_through-clause-keeps : goal.returns-in_err-write_through-clause-keeps
returns-in_err-write_through-clause-keeps g c =
    let me = c.args.self.now in
    let wrote : Wrote g.C.Slots.moment g.C.Slots.left g.C.Slots.seen me.slots c.write_through.new.slots me.current me.within me.layout me.present me.shut me.kept (131072 * (1 - me.current)) 1 = (c.write_through.ensures.crash, c.write_through.ensures.outside, c.write_through.ensures.tells) in
    λ r has t now. keeps g.C.Slots.moment g.C.Slots.left g.C.Slots.seen me.slots c.write_through.new.slots me.current me.within me.layout me.present me.shut me.kept (131072 * (1 - me.current)) 1 (omega arith) (omega arith) wrote r has t now

pub returns-in_err-write_through-clause-doubt : goal.returns-in_err-write_through-clause-doubt
returns-in_err-write_through-clause-doubt g c =
    let me = c.args.self.now in
    let wrote : Wrote g.C.Slots.moment g.C.Slots.left g.C.Slots.seen me.slots c.write_through.new.slots me.current me.within me.layout me.present me.shut me.kept (131072 * (1 - me.current)) 1 = (c.write_through.ensures.crash, c.write_through.ensures.outside, c.write_through.ensures.tells) in
    let p = err_from_is_err_and c.from_residual.result c.from_residual.ensures.1 in rw p.1 (λ body was. (was.0, λ t now. keeps_other g.C.Slots.moment g.C.Slots.left g.C.Slots.seen me.slots c.write_through.new.slots me.current me.within me.layout me.present me.shut me.kept wrote body was.1 t now))

pub returns-in_err-write_through-clause-any_moment : goal.returns-in_err-write_through-clause-any_moment
returns-in_err-write_through-clause-any_moment g c =
    let me = c.args.self.now in
    let wrote : Wrote g.C.Slots.moment g.C.Slots.left g.C.Slots.seen me.slots c.write_through.new.slots me.current me.within me.layout me.present me.shut me.kept (131072 * (1 - me.current)) 1 = (c.write_through.ensures.crash, c.write_through.ensures.outside, c.write_through.ensures.tells) in
    let stood : Stood g.C.Slots.moment g.C.Slots.left g.C.Slots.seen me.slots c.write_through.new.slots me.current me.within me.layout me.present me.shut me.kept false true = λ s was. at_flags me.current me.layout me.present me.shut me.kept false true s _ c.requires (me.known c.requires) (me.stands s was) in
    before_gate g.C.Slots.moment g.C.Slots.left g.C.Slots.seen me.slots c.write_through.new.slots me.current me.within me.layout me.present me.shut me.kept c.requires stood wrote

pub invariant_of-self-2 : goal.invariant_of-self-2
invariant_of-self-2 g c =
    let me = c.args.self.now in
    let wrote : Wrote g.C.Slots.moment g.C.Slots.left g.C.Slots.seen me.slots c.write_through.new.slots me.current me.within me.layout me.present me.shut me.kept (131072 * (1 - me.current)) 1 = (c.write_through.ensures.crash, c.write_through.ensures.outside, c.write_through.ensures.tells) in
    let stood : Stood g.C.Slots.moment g.C.Slots.left g.C.Slots.seen me.slots c.write_through.new.slots me.current me.within me.layout me.present me.shut me.kept false true = λ s was. at_flags me.current me.layout me.present me.shut me.kept false true s _ c.requires (me.known c.requires) (me.stands s was) in
    let room : Room g.C.Slots.moment g.C.Slots.left g.C.Slots.seen me.slots c.write_through.new.slots me.current me.within me.layout me.present me.shut me.kept = λ s was. let size = g.met.C.Slots.fixed me.slots s was in let big = me.room in omega arith in
    let synced : Synced g.C.Slots.moment g.C.Slots.left g.C.Slots.seen me.slots c.write_through.new.slots me.current me.within me.layout me.present me.shut me.kept (131072 * (1 - me.current)) (0 ∷ []) = (c.in_ok-write_through.ensures.written, c.in_ok-write_through.ensures.durable) in
    record { within = me.within; space = me.space; room = omega (arith, me.room, c.write_through.ensures.extent); known = λ e. absurd (cc e); stands = λ t now. gate_closes g.C.Slots.moment g.C.Slots.left g.C.Slots.seen me.slots c.write_through.new.slots me.current me.within me.layout me.present me.shut me.kept room stood wrote synced t now }

pub returns-clause-keeps : goal.returns-clause-keeps
returns-clause-keeps g c =
    let me = c.args.self.now in
    let wrote : Wrote g.C.Slots.moment g.C.Slots.left g.C.Slots.seen me.slots c.write_through.new.slots me.current me.within me.layout me.present me.shut me.kept (131072 * (1 - me.current)) 1 = (c.write_through.ensures.crash, c.write_through.ensures.outside, c.write_through.ensures.tells) in
    λ r has t now. keeps g.C.Slots.moment g.C.Slots.left g.C.Slots.seen me.slots c.write_through.new.slots me.current me.within me.layout me.present me.shut me.kept (131072 * (1 - me.current)) 1 (omega arith) (omega arith) wrote r has t now

pub returns-clause-any_moment : goal.returns-clause-any_moment
returns-clause-any_moment g c =
    let me = c.args.self.now in
    let wrote : Wrote g.C.Slots.moment g.C.Slots.left g.C.Slots.seen me.slots c.write_through.new.slots me.current me.within me.layout me.present me.shut me.kept (131072 * (1 - me.current)) 1 = (c.write_through.ensures.crash, c.write_through.ensures.outside, c.write_through.ensures.tells) in
    let stood : Stood g.C.Slots.moment g.C.Slots.left g.C.Slots.seen me.slots c.write_through.new.slots me.current me.within me.layout me.present me.shut me.kept false true = λ s was. at_flags me.current me.layout me.present me.shut me.kept false true s _ c.requires (me.known c.requires) (me.stands s was) in
    before_gate g.C.Slots.moment g.C.Slots.left g.C.Slots.seen me.slots c.write_through.new.slots me.current me.within me.layout me.present me.shut me.kept c.requires stood wrote
