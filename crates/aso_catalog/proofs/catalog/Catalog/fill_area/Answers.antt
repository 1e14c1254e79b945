use Rattle.std.proofs.Common.{◌≡◌, ℕ, ◌+◌, ◌-◌, ◌*◌, ◌≤◌, ◌++◌, ◌∷◌, [], List, true, false, length, take, length-append, refl, sym, ◌∙◌, ap, subst, arith}
use Rattle.std.specs.Int.{to_be_bytes, w32}
use Rattle.aso_catalog.proofs.Exits.{at_flags, keeps, fill_fails, fills, before_fill, Stood, Wrote, Synced, Room}
use Rattle.aso_catalog.proofs.catalog.Catalog.fill_area.Goals as goal

pub invariant_of-self : goal.invariant_of-self
invariant_of-self g c =
    let me = c.args.self.now in
    let wrote : Wrote g.C.Slots.moment g.C.Slots.left g.C.Slots.seen me.slots c.write_through.new.slots me.current me.within me.layout me.present me.shut me.kept (131072 * (1 - me.current) + 1) (length (take (4 + length c.args.body.now) c.deref.result.now)) = (c.write_through.ensures.crash, c.write_through.ensures.outside, c.write_through.ensures.tells) in
    let is_frame : take (4 + length c.args.body.now) c.deref.result.now ≡ to_be_bytes w32 (length c.args.body.now) ++ c.args.body.now = ap (λ (l : List ℕ). take (4 + length c.args.body.now) l) c.deref.ensures.value ∙ c.frame.ensures.frame in
    let long : length (take (4 + length c.args.body.now) c.deref.result.now) ≡ 4 + length c.args.body.now = ap length is_frame ∙ length-append (to_be_bytes w32 (length c.args.body.now)) c.args.body.now in
    let small : length (take (4 + length c.args.body.now) c.deref.result.now) ≤ 131071 = omega (arith, c.requires.body.fits) in
    let stood : Stood g.C.Slots.moment g.C.Slots.left g.C.Slots.seen me.slots c.write_through.new.slots me.current me.within me.layout me.present me.shut me.kept true me.kept = λ s was. at_flags me.current me.layout me.present me.shut me.kept true me.kept s _ c.requires.shut refl (me.stands s was) in
    record { within = me.within; space = c.frame.ensures.space; room = omega (arith, me.room, c.write_through.ensures.extent); known = λ e. absurd (cc (e, c.requires.shut)); stands = λ t now. at_flags me.current me.layout me.present true false me.shut false t _ (sym c.requires.shut) refl (fill_fails g.C.Slots.moment g.C.Slots.left g.C.Slots.seen me.slots c.write_through.new.slots me.current me.within me.layout me.present me.shut me.kept me.kept (length (take (4 + length c.args.body.now) c.deref.result.now)) small stood wrote t now) }

pub returns-in_err-write_through-clause-keeps : goal.returns-in_err-write_through-clause-keeps
returns-in_err-write_through-clause-keeps g c =
    let me = c.args.self.now in
    let wrote : Wrote g.C.Slots.moment g.C.Slots.left g.C.Slots.seen me.slots c.write_through.new.slots me.current me.within me.layout me.present me.shut me.kept (131072 * (1 - me.current) + 1) (length (take (4 + length c.args.body.now) c.deref.result.now)) = (c.write_through.ensures.crash, c.write_through.ensures.outside, c.write_through.ensures.tells) in
    let is_frame : take (4 + length c.args.body.now) c.deref.result.now ≡ to_be_bytes w32 (length c.args.body.now) ++ c.args.body.now = ap (λ (l : List ℕ). take (4 + length c.args.body.now) l) c.deref.ensures.value ∙ c.frame.ensures.frame in
    let long : length (take (4 + length c.args.body.now) c.deref.result.now) ≡ 4 + length c.args.body.now = ap length is_frame ∙ length-append (to_be_bytes w32 (length c.args.body.now)) c.args.body.now in
    let small : length (take (4 + length c.args.body.now) c.deref.result.now) ≤ 131071 = omega (arith, c.requires.body.fits) in
    λ r has t now. keeps g.C.Slots.moment g.C.Slots.left g.C.Slots.seen me.slots c.write_through.new.slots me.current me.within me.layout me.present me.shut me.kept (131072 * (1 - me.current) + 1) (length (take (4 + length c.args.body.now) c.deref.result.now)) (omega arith) (omega arith) wrote r has t now

pub returns-in_err-write_through-clause-any_moment : goal.returns-in_err-write_through-clause-any_moment
returns-in_err-write_through-clause-any_moment g c =
    let me = c.args.self.now in
    let wrote : Wrote g.C.Slots.moment g.C.Slots.left g.C.Slots.seen me.slots c.write_through.new.slots me.current me.within me.layout me.present me.shut me.kept (131072 * (1 - me.current) + 1) (length (take (4 + length c.args.body.now) c.deref.result.now)) = (c.write_through.ensures.crash, c.write_through.ensures.outside, c.write_through.ensures.tells) in
    let is_frame : take (4 + length c.args.body.now) c.deref.result.now ≡ to_be_bytes w32 (length c.args.body.now) ++ c.args.body.now = ap (λ (l : List ℕ). take (4 + length c.args.body.now) l) c.deref.ensures.value ∙ c.frame.ensures.frame in
    let long : length (take (4 + length c.args.body.now) c.deref.result.now) ≡ 4 + length c.args.body.now = ap length is_frame ∙ length-append (to_be_bytes w32 (length c.args.body.now)) c.args.body.now in
    let small : length (take (4 + length c.args.body.now) c.deref.result.now) ≤ 131071 = omega (arith, c.requires.body.fits) in
    let stood : Stood g.C.Slots.moment g.C.Slots.left g.C.Slots.seen me.slots c.write_through.new.slots me.current me.within me.layout me.present me.shut me.kept true me.kept = λ s was. at_flags me.current me.layout me.present me.shut me.kept true me.kept s _ c.requires.shut refl (me.stands s was) in
    before_fill g.C.Slots.moment g.C.Slots.left g.C.Slots.seen me.slots c.write_through.new.slots me.current me.within me.layout me.present me.shut me.kept me.kept (length (take (4 + length c.args.body.now) c.deref.result.now)) small stood wrote

pub invariant_of-self-2 : goal.invariant_of-self-2
invariant_of-self-2 g c =
    let me = c.args.self.now in
    let wrote : Wrote g.C.Slots.moment g.C.Slots.left g.C.Slots.seen me.slots c.write_through.new.slots me.current me.within me.layout me.present me.shut me.kept (131072 * (1 - me.current) + 1) (length (take (4 + length c.args.body.now) c.deref.result.now)) = (c.write_through.ensures.crash, c.write_through.ensures.outside, c.write_through.ensures.tells) in
    let is_frame : take (4 + length c.args.body.now) c.deref.result.now ≡ to_be_bytes w32 (length c.args.body.now) ++ c.args.body.now = ap (λ (l : List ℕ). take (4 + length c.args.body.now) l) c.deref.ensures.value ∙ c.frame.ensures.frame in
    let long : length (take (4 + length c.args.body.now) c.deref.result.now) ≡ 4 + length c.args.body.now = ap length is_frame ∙ length-append (to_be_bytes w32 (length c.args.body.now)) c.args.body.now in
    let small : length (take (4 + length c.args.body.now) c.deref.result.now) ≤ 131071 = omega (arith, c.requires.body.fits) in
    let stood : Stood g.C.Slots.moment g.C.Slots.left g.C.Slots.seen me.slots c.write_through.new.slots me.current me.within me.layout me.present me.shut me.kept true me.kept = λ s was. at_flags me.current me.layout me.present me.shut me.kept true me.kept s _ c.requires.shut refl (me.stands s was) in
    let room : Room g.C.Slots.moment g.C.Slots.left g.C.Slots.seen me.slots c.write_through.new.slots me.current me.within me.layout me.present me.shut me.kept = λ s was. let size = g.met.C.Slots.fixed me.slots s was in let big = me.room in omega arith in
    let synced : Synced g.C.Slots.moment g.C.Slots.left g.C.Slots.seen me.slots c.write_through.new.slots me.current me.within me.layout me.present me.shut me.kept (131072 * (1 - me.current) + 1) (to_be_bytes w32 (length c.args.body.now) ++ c.args.body.now) = let P : List ℕ → Type 0 = λ b. Synced g.C.Slots.moment g.C.Slots.left g.C.Slots.seen me.slots c.write_through.new.slots me.current me.within me.layout me.present me.shut me.kept (131072 * (1 - me.current) + 1) b in subst P is_frame (c.in_ok-write_through.ensures.written, c.in_ok-write_through.ensures.durable) in
    record { within = me.within; space = c.frame.ensures.space; room = omega (arith, me.room, c.write_through.ensures.extent); known = λ e. refl; stands = λ t now. at_flags me.current me.layout me.present true true me.shut true t _ (sym c.requires.shut) refl (fills g.C.Slots.moment g.C.Slots.left g.C.Slots.seen me.slots c.write_through.new.slots me.current me.within me.layout me.present me.shut me.kept me.kept (length (take (4 + length c.args.body.now) c.deref.result.now)) c.args.body.now small c.requires.body room stood wrote synced t now).0 }

pub returns-clause-keeps : goal.returns-clause-keeps
returns-clause-keeps g c =
    let me = c.args.self.now in
    let wrote : Wrote g.C.Slots.moment g.C.Slots.left g.C.Slots.seen me.slots c.write_through.new.slots me.current me.within me.layout me.present me.shut me.kept (131072 * (1 - me.current) + 1) (length (take (4 + length c.args.body.now) c.deref.result.now)) = (c.write_through.ensures.crash, c.write_through.ensures.outside, c.write_through.ensures.tells) in
    let is_frame : take (4 + length c.args.body.now) c.deref.result.now ≡ to_be_bytes w32 (length c.args.body.now) ++ c.args.body.now = ap (λ (l : List ℕ). take (4 + length c.args.body.now) l) c.deref.ensures.value ∙ c.frame.ensures.frame in
    let long : length (take (4 + length c.args.body.now) c.deref.result.now) ≡ 4 + length c.args.body.now = ap length is_frame ∙ length-append (to_be_bytes w32 (length c.args.body.now)) c.args.body.now in
    let small : length (take (4 + length c.args.body.now) c.deref.result.now) ≤ 131071 = omega (arith, c.requires.body.fits) in
    λ r has t now. keeps g.C.Slots.moment g.C.Slots.left g.C.Slots.seen me.slots c.write_through.new.slots me.current me.within me.layout me.present me.shut me.kept (131072 * (1 - me.current) + 1) (length (take (4 + length c.args.body.now) c.deref.result.now)) (omega arith) (omega arith) wrote r has t now

pub returns-clause-other : goal.returns-clause-other
returns-clause-other g c =
    let me = c.args.self.now in
    let wrote : Wrote g.C.Slots.moment g.C.Slots.left g.C.Slots.seen me.slots c.write_through.new.slots me.current me.within me.layout me.present me.shut me.kept (131072 * (1 - me.current) + 1) (length (take (4 + length c.args.body.now) c.deref.result.now)) = (c.write_through.ensures.crash, c.write_through.ensures.outside, c.write_through.ensures.tells) in
    let is_frame : take (4 + length c.args.body.now) c.deref.result.now ≡ to_be_bytes w32 (length c.args.body.now) ++ c.args.body.now = ap (λ (l : List ℕ). take (4 + length c.args.body.now) l) c.deref.ensures.value ∙ c.frame.ensures.frame in
    let long : length (take (4 + length c.args.body.now) c.deref.result.now) ≡ 4 + length c.args.body.now = ap length is_frame ∙ length-append (to_be_bytes w32 (length c.args.body.now)) c.args.body.now in
    let small : length (take (4 + length c.args.body.now) c.deref.result.now) ≤ 131071 = omega (arith, c.requires.body.fits) in
    let stood : Stood g.C.Slots.moment g.C.Slots.left g.C.Slots.seen me.slots c.write_through.new.slots me.current me.within me.layout me.present me.shut me.kept true me.kept = λ s was. at_flags me.current me.layout me.present me.shut me.kept true me.kept s _ c.requires.shut refl (me.stands s was) in
    let room : Room g.C.Slots.moment g.C.Slots.left g.C.Slots.seen me.slots c.write_through.new.slots me.current me.within me.layout me.present me.shut me.kept = λ s was. let size = g.met.C.Slots.fixed me.slots s was in let big = me.room in omega arith in
    let synced : Synced g.C.Slots.moment g.C.Slots.left g.C.Slots.seen me.slots c.write_through.new.slots me.current me.within me.layout me.present me.shut me.kept (131072 * (1 - me.current) + 1) (to_be_bytes w32 (length c.args.body.now) ++ c.args.body.now) = let P : List ℕ → Type 0 = λ b. Synced g.C.Slots.moment g.C.Slots.left g.C.Slots.seen me.slots c.write_through.new.slots me.current me.within me.layout me.present me.shut me.kept (131072 * (1 - me.current) + 1) b in subst P is_frame (c.in_ok-write_through.ensures.written, c.in_ok-write_through.ensures.durable) in
    λ t now. (fills g.C.Slots.moment g.C.Slots.left g.C.Slots.seen me.slots c.write_through.new.slots me.current me.within me.layout me.present me.shut me.kept me.kept (length (take (4 + length c.args.body.now) c.deref.result.now)) c.args.body.now small c.requires.body room stood wrote synced t now).1

pub returns-clause-any_moment : goal.returns-clause-any_moment
returns-clause-any_moment g c =
    let me = c.args.self.now in
    let wrote : Wrote g.C.Slots.moment g.C.Slots.left g.C.Slots.seen me.slots c.write_through.new.slots me.current me.within me.layout me.present me.shut me.kept (131072 * (1 - me.current) + 1) (length (take (4 + length c.args.body.now) c.deref.result.now)) = (c.write_through.ensures.crash, c.write_through.ensures.outside, c.write_through.ensures.tells) in
    let is_frame : take (4 + length c.args.body.now) c.deref.result.now ≡ to_be_bytes w32 (length c.args.body.now) ++ c.args.body.now = ap (λ (l : List ℕ). take (4 + length c.args.body.now) l) c.deref.ensures.value ∙ c.frame.ensures.frame in
    let long : length (take (4 + length c.args.body.now) c.deref.result.now) ≡ 4 + length c.args.body.now = ap length is_frame ∙ length-append (to_be_bytes w32 (length c.args.body.now)) c.args.body.now in
    let small : length (take (4 + length c.args.body.now) c.deref.result.now) ≤ 131071 = omega (arith, c.requires.body.fits) in
    let stood : Stood g.C.Slots.moment g.C.Slots.left g.C.Slots.seen me.slots c.write_through.new.slots me.current me.within me.layout me.present me.shut me.kept true me.kept = λ s was. at_flags me.current me.layout me.present me.shut me.kept true me.kept s _ c.requires.shut refl (me.stands s was) in
    before_fill g.C.Slots.moment g.C.Slots.left g.C.Slots.seen me.slots c.write_through.new.slots me.current me.within me.layout me.present me.shut me.kept me.kept (length (take (4 + length c.args.body.now) c.deref.result.now)) small stood wrote

pub returns-in_err-write_through-clause-begun : goal.returns-in_err-write_through-clause-begun
returns-in_err-write_through-clause-begun g c =
    let me = c.args.self.now in
    let is_frame : take (4 + length c.args.body.now) c.deref.result.now ≡ to_be_bytes w32 (length c.args.body.now) ++ c.args.body.now = ap (λ (l : List ℕ). take (4 + length c.args.body.now) l) c.deref.ensures.value ∙ c.frame.ensures.frame in
    subst (λ (l : List ℕ). g.C.Slots.writes c.write_through.new.slots ≡ g.C.Slots.writes me.slots ++ (131072 * (1 - me.current) + 1, l) ∷ []) is_frame c.write_through.ensures.begun

pub returns-clause-begun : goal.returns-clause-begun
returns-clause-begun g c =
    let me = c.args.self.now in
    let is_frame : take (4 + length c.args.body.now) c.deref.result.now ≡ to_be_bytes w32 (length c.args.body.now) ++ c.args.body.now = ap (λ (l : List ℕ). take (4 + length c.args.body.now) l) c.deref.ensures.value ∙ c.frame.ensures.frame in
    subst (λ (l : List ℕ). g.C.Slots.writes c.write_through.new.slots ≡ g.C.Slots.writes me.slots ++ (131072 * (1 - me.current) + 1, l) ∷ []) is_frame c.write_through.ensures.begun
