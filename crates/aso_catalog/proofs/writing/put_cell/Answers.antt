use Rattle.std.proofs.Common.{◌≡◌, ◌+◌, ◌*◌, ◌++◌, ℕ, List, length, length-append, refl, ◌∙◌, ap, subst, append_assoc, rules, arith}
use Rattle.std.specs.Prelude.{ℤ, OnOk, OnErr, FitsSigned, vec_len, vec_capacity}
use Rattle.std.specs.Int.{w128}
use Rattle.std.proofs.lemmas.Int.{to_z-of_z}
use Rattle.aso_bytes.specs.Spelling.{Appends, IsZig, LacksRoom}
use Rattle.aso_bytes.proofs.Spellings.{length-zig}
use Rattle.aso_catalog.specs.Record.{AreSmall, IsCell, leaves_text}
use Rattle.aso_catalog.proofs.Fields.{amount_most, length-leaves_text, on_err, on_ok}
use Rattle.aso_catalog.proofs.writing.put_cell.Goals as goal

pub returns-clause-ok : goal.returns-clause-ok
returns-clause-ok c =
    let cell = c.args.cell.now in
    let old = c.args.out.now.items in
    let mid = c.put_leaves.new.out.items in
    let new = c.put_zig.new.out.items in
    let leaves_is = c.items.ensures in
    let fits : FitsSigned w128 cell.amount = search rules in
    let P : ℤ → Type 0 = λ z. OnOk c.put_zig.result (Appends (λ s. IsZig s z) mid new) in
    let put : OnOk c.put_zig.result (Appends (λ s. IsZig s cell.amount) mid new) = subst P (to_z-of_z w128 cell.amount fits) c.put_zig.ensures.ok in
    let written : mid ≡ old ++ leaves_text cell.leaves = c.in_ok-put_leaves.ensures.ok ∙ ap (λ (l : List ℕ). old ++ leaves_text l) leaves_is in
    on_ok c.put_zig.result (Appends (λ s. IsZig s cell.amount) mid new) (Appends (IsCell c.args.dimensions cell) old new) put
    (λ p. (
      leaves_text cell.leaves ++ p.0,
      record { count = c.requires; small = subst AreSmall leaves_is c.put_leaves.ensures.small; fits = fits; amount = p.0; spelled = p.1; joined = refl },
      p.2 ∙ ap (λ (l : List ℕ). l ++ p.0) written ∙ append_assoc old (leaves_text cell.leaves) p.0,
    ))

pub returns-clause-room : goal.returns-clause-room
returns-clause-room c =
    let cell = c.args.cell.now in
    let old = c.args.out.now in
    let mid = c.put_leaves.new.out in
    let new = c.put_zig.new.out in
    let leaves_is = c.items.ensures in
    let fits : FitsSigned w128 cell.amount = search rules in
    let written : mid.items ≡ old.items ++ leaves_text cell.leaves = c.in_ok-put_leaves.ensures.ok ∙ ap (λ (l : List ℕ). old.items ++ leaves_text l) leaves_is in
    let long : length mid.items ≡ length (old.items ++ leaves_text cell.leaves) = ap length written in
    let count : length cell.leaves ≡ c.args.dimensions = c.requires in
    let len : vec_len mid ≡ vec_len old + 4 * c.args.dimensions = omega (arith, length-append old.items (leaves_text cell.leaves), length-leaves_text cell.leaves, mid.ok, old.ok) in
    let P : ℤ → Type 0 = λ z. OnErr c.put_zig.result (LacksRoom (λ s. IsZig s z) (vec_capacity mid) (vec_len mid)) in
    let lacks : OnErr c.put_zig.result (LacksRoom (λ s. IsZig s cell.amount) (vec_capacity mid) (vec_len mid)) = subst P (to_z-of_z w128 cell.amount fits) c.put_zig.ensures.room in
    on_err c.put_zig.result (LacksRoom (λ s. IsZig s cell.amount) (vec_capacity mid) (vec_len mid)) _ lacks
    (λ p. let less = amount_most cell.amount (vec_capacity mid) (vec_len mid) fits p in omega (arith, less, len, c.put_leaves.ensures.grows))

pub returns-clause-most : goal.returns-clause-most
returns-clause-most c =
    let cell = c.args.cell.now in
    let old = c.args.out.now in
    let mid = c.put_leaves.new.out in
    let new = c.put_zig.new.out in
    let leaves_is = c.items.ensures in
    let fits : FitsSigned w128 cell.amount = search rules in
    let written : mid.items ≡ old.items ++ leaves_text cell.leaves = c.in_ok-put_leaves.ensures.ok ∙ ap (λ (l : List ℕ). old.items ++ leaves_text l) leaves_is in
    let long : length mid.items ≡ length (old.items ++ leaves_text cell.leaves) = ap length written in
    let count : length cell.leaves ≡ c.args.dimensions = c.requires in
    let len : vec_len mid ≡ vec_len old + 4 * c.args.dimensions = omega (arith, length-append old.items (leaves_text cell.leaves), length-leaves_text cell.leaves, mid.ok, old.ok) in
    let P : ℤ → Type 0 = λ z. OnOk c.put_zig.result (Appends (λ s. IsZig s z) mid.items new.items) in
    let put : OnOk c.put_zig.result (Appends (λ s. IsZig s cell.amount) mid.items new.items) = subst P (to_z-of_z w128 cell.amount fits) c.put_zig.ensures.ok in
    on_ok c.put_zig.result (Appends (λ s. IsZig s cell.amount) mid.items new.items) _ put
    (λ p.
    let most = length-zig p.0 cell.amount fits p.1 in
    let joined : length new.items ≡ length (mid.items ++ p.0) = ap length p.2 in
    omega (arith, most, len, length-append mid.items p.0, mid.ok, new.ok))
