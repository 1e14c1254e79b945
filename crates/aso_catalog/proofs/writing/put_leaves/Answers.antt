use Rattle.std.proofs.Common.{◌≡◌, ◌<◌, ◌++◌, ℕ, List, length, length-append, take, get_or, sym, ◌∙◌, ap, append_assoc, arith}
use Rattle.std.specs.Int.{to_be_bytes, w32}
use Rattle.aso_catalog.specs.Record.{leaves_text}
use Rattle.std.proofs.lemmas.List.{length-take-le}
use Rattle.std.proofs.lemmas.Result.{err_from_is_err_and}
use Rattle.aso_catalog.proofs.Fields.{leaves_text-take, length-leaves_text, small_each}
use Rattle.aso_catalog.proofs.writing.put_leaves.Goals as goal

pub loop-leaf-preserved : goal.loop-leaf-preserved
loop-leaf-preserved c =
    let i = c.loop-leaf.leaf-index in
    let leaves = c.args.leaves.now in
    let bytes : List ℕ = to_be_bytes w32 (get_or leaves i 0) in
    let so_far = c.loop-leaf.invariant in
    record {
      written = c.in_ok-put_u32.ensures.ok ∙ ap (λ (l : List ℕ). l ++ bytes) so_far.written ∙ append_assoc c.args.out.now.items (leaves_text (take i leaves)) bytes
          ∙ ap (λ (l : List ℕ). c.args.out.now.items ++ l) (sym (leaves_text-take leaves i c.loop-leaf-test.true));
      grows = omega (arith, so_far.grows, c.put_u32.ensures.grows);
    }

pub returns-in_err-put_u32-clause-small : goal.returns-in_err-put_u32-clause-small
returns-in_err-put_u32-clause-small c = small_each c.args.leaves.now (λ k. omega (arith, c.type_inv.leaves k))

pub returns-clause-small : goal.returns-clause-small
returns-clause-small c = small_each c.args.leaves.now (λ k. omega (arith, c.type_inv.leaves k))

pub returns-in_err-put_u32-clause-room : goal.returns-in_err-put_u32-clause-room
returns-in_err-put_u32-clause-room c =
    let i = c.loop-leaf.leaf-index in
    let leaves = c.args.leaves.now in
    let old = c.args.out.now in
    let so_far = c.loop-leaf.invariant in
    let is = err_from_is_err_and c.from_residual.result c.from_residual.ensures.1 in
    let less : i < length leaves = c.loop-leaf-test.true in
    let long : length c.loop-leaf.out.items ≡ length (old.items ++ leaves_text (take i leaves)) = ap length so_far.written in
    rw is.1 (omega (arith, length-append old.items (leaves_text (take i leaves)), length-leaves_text (take i leaves), length-take-le i leaves (omega arith), c.loop-leaf.out.ok, old.ok, so_far.grows, c.in_err-put_u32.ensures.room))
