use Rattle.std.proofs.Common.{◌≡◌, ◌∙◌, ℕ, List, true, subst, sym}
use Rattle.std.specs.Global.{Vec}
use Rattle.std.proofs.lemmas.Result.{IfOk-weaker}
use Rattle.aso_spec.specs.Named.{key_named}
use Rattle.aso_cellnames.specs.Names.{texts}
use Rattle.aso_cellnames.specs.Slots.{leaves_in}
use Rattle.aso_cellnames.specs.Leaves.{are_leaves, leaf_counts}
use Rattle.aso_cellnames.proofs.FirstLeaves.{key_is, leaves_are}
use Rattle.aso_cellnames.proofs.slots.key_named.Goals as goal

pub returns-clause-key : goal.returns-clause-key
returns-clause-key c =
    let o = c.args.outline.now in
    let names : List (List ℕ) = texts c.args.names.now in
    let slots = c.in_ok-slots.slots.items in
    IfOk-weaker c.leaves_in.result (λ (v : Vec ℕ). v.items ≡ leaves_in slots) (λ (v : Vec ℕ). v.items ≡ key_named o names) (λ v h. h ∙ key_is o names slots c.in_ok-slots.ensures) (rw c.deref.ensures.value at c.leaves_in.ensures)

pub returns-clause-leaves : goal.returns-clause-leaves
returns-clause-leaves c =
    let o = c.args.outline.now in
    let names : List (List ℕ) = texts c.args.names.now in
    let slots = c.in_ok-slots.slots.items in
    IfOk-weaker c.leaves_in.result (λ (v : Vec ℕ). v.items ≡ leaves_in slots) (λ (v : Vec ℕ). are_leaves (leaf_counts o) v.items ≡ true)
    (λ v h. subst (λ (k : List ℕ). are_leaves (leaf_counts o) k ≡ true) (sym h) (leaves_are o names slots c.keeps_leaves.ensures c.in_ok-slots.ensures)) (rw c.deref.ensures.value at c.leaves_in.ensures)
