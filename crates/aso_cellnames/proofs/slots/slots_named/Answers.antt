use Rattle.std.proofs.Common.{◌≡◌, ◌∙◌, ◌+◌, ◌++◌, ◌∷◌, [], List, ℕ, sym, take, subst, get_or}
use Rattle.std.specs.Borrow.{Bor}
use Rattle.std.proofs.lemmas.List.{map_more}
use Rattle.aso_outline.specs.Members.{Name}
use Rattle.aso_cellnames.specs.Names.{texts}
use Rattle.aso_cellnames.specs.Slots.{AreFirst}
use Rattle.aso_cellnames.proofs.FirstLeaves.{first_filled, first_of_none}
use Rattle.aso_cellnames.proofs.slots.slots_named.Goals as goal

abbrev no_name : Bor (List ℕ)
no_name = record { ref_ptr = (0, 0); now = [] }

pub loop-name-init : goal.loop-name-init
loop-name-init c =
    let made = c.in_ok-slots.ensures in
    first_of_none c.args.outline.now c.in_ok-slots.slots.items (made.0 ∙ c.dims.ensures) made.1

pub loop-name-preserved : goal.loop-name-preserved
loop-name-preserved c =
    let o = c.args.outline.now in
    let names = c.args.names.now in
    let i = c.loop-name.name-index in
    let name : Bor (List ℕ) = get_or names i no_name in
    let more : texts (take (i + 1) names) ≡ texts (take i names) ++ name.now ∷ [] = map_more (λ (x : Bor (List ℕ)). x.now) names i no_name c.loop-name-test.true in
    subst (λ (ns : List Name). AreFirst o ns c.fill.new.slots.items) (sym more)
    (first_filled o (texts (take i names)) name.now c.loop-name.slots.items c.fill.new.slots.items c.leaf_named.result c.loop-name.invariant c.fill.ensures.long c.fill.ensures.each c.leaf_named.ensures.leaf c.leaf_named.ensures.there)
