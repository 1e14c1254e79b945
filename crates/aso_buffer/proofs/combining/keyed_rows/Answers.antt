use Rattle.std.proofs.Common.{◌≡◌, ◌∙◌, ◌∷◌, [], ◌++◌, ◌^◌, ◌<◌, sym, ap, subst, arith, rules, length, FitsSigned}
use Rattle.std.specs.Int.{w128}
use Rattle.std.specs.Prelude.{ℤ, unsigned_abs}
use Rattle.std.proofs.lemmas.Int.{fits_signed_from_abs, to_z-of_z}
use mir.Val.{hbits, of_z, to_z}
use Rattle.std.proofs.lemmas.List.{map-append}
use Rattle.aso_keys.specs.Axes.{key_of}
use Rattle.aso_num.specs.Amount.{IsAmount}
use Rattle.aso_runs.specs.Cells.{entries_of, entry_of}
use Rattle.aso_buffer.specs.Buffers.{keyed}
use Rattle.aso_buffer.specs.Rows.{records_of}
use Rattle.aso_buffer.proofs.KeyLemmas.{next_row, row_key}
use Rattle.aso_buffer.proofs.combining.keyed_rows.Goals as goal

pub key_of-key-requires : goal.key_of-key-requires
key_of-key-requires g c =
    let axes = c.args.layout.now in
    let rows = c.args.rows.now in
    let all = keyed axes (records_of rows c.args.leaves.now) in
    let lt : c.loop-row.row-index < length rows = omega arith in (
      search rules,
      (
        c.requires.some,
        (
          c.requires.few,
          (
            c.requires.wide,
            row_key axes rows c.loop-row.row-index c.row-item.result c.loop-row.rest.now c.split_at.result.0.now (entries_of c.loop-row.cells.items) all lt c.row-item.is c.loop-row.invariant c.split_at.ensures.front,
          ),
        ),
      ),
    )

pub loop-row-preserved : goal.loop-row-preserved
loop-row-preserved g c =
    let axes = c.args.layout.now in
    let rows = c.args.rows.now in
    let all = keyed axes (records_of rows c.args.leaves.now) in
    let done = entries_of c.loop-row.cells.items in
    let lt : c.loop-row.row-index < length rows = omega arith in
    let z = c.from-amount.result in
    let is : z ≡ c.row-item.result.amount = search (rules, c.from-amount.ensures, c.units.ensures.value) in
    let range : IsAmount c.row-item.result.amount = c.units.ensures.range in
    let fits : FitsSigned w128 z = fits_signed_from_abs w128 z (subst (λ (x : ℤ). unsigned_abs x < 2 ^ hbits w128) (sym is) (omega (arith, range))) in
    let same = to_z-of_z w128 z fits in
    next_row axes rows c.loop-row.row-index c.row-item.result c.loop-row.rest.now c.split_at.result.1.now done (entries_of c.push.new.self.items) all c.key_of-key.result (to_z w128 (of_z w128 z)) lt
    c.row-item.is c.loop-row.invariant range c.split_at.ensures.back (c.key_of-key.ensures.written ∙ ap (key_of axes) c.split_at.ensures.front) (same ∙ is)
    (ap entries_of c.in_ok-push.ensures.items ∙ map-append entry_of c.loop-row.cells.items (record { key = c.key_of-key.result; amount = to_z w128 (of_z w128 z) } ∷ []))
