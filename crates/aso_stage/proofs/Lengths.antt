-- A record whose amounts are in range has no longer a spelling than the longest of its shape.
use Rattle.std.proofs.Common.{◌≡◌, ℕ, zero, suc, ◌+◌, ◌*◌, ◌≤◌, ◌<◌, ◌^◌, List, [], ◌∷◌, ◌++◌, length, length-append, Option, ap, arith}
use Rattle.std.proofs.Math.Nat.{pow-succ'}
use Rattle.std.specs.Prelude.{ℤ, pos, negsuc, unsigned_abs}
use Rattle.std.specs.List.{AllByRecursion}
use Rattle.std.specs.Int.{to_be_bytes, w32}
use Rattle.aso_bytes.specs.Spelling.{IsLeb, IsZig}
use Rattle.aso_catalog.specs.declared.record.LeafCell.{LeafCell}
use Rattle.aso_catalog.specs.declared.record.Record.{Record}
use Rattle.aso_catalog.specs.Record.{AreCells, IsCell, IsRecord, leaves_text}
use Rattle.aso_catalog.proofs.Fields.{length-leaves_text}
use Rattle.aso_machine.specs.CellSteps.{IsSmall}
use Rattle.aso_stage.specs.Bodies.{longest_cell_in_range, longest_in_range}

-- a spelling has a byte for each seven bits begun
leb_short : (k : ℕ) (bytes : List ℕ) (n : ℕ) → IsLeb bytes n → n < 128 ^ suc k → length bytes ≤ suc k
leb_short k [] n is fits = absurd is
leb_short k (b ∷ []) n is fits = omega arith
leb_short zero (b ∷ c ∷ bytes) n is fits =
    let high : 0 < is.2 = is.3 in
    let parts : n + 128 ≡ b + 128 * is.2 = is.4 in
    let one : 128 ^ suc zero ≡ 128 * 128 ^ zero = pow-succ' 128 zero in
    absurd (omega (arith, is.0, high, parts, one, fits))
leb_short (suc k) (b ∷ c ∷ bytes) n is fits =
    let parts : n + 128 ≡ b + 128 * is.2 = is.4 in
    let next : 128 ^ suc (suc k) ≡ 128 * 128 ^ suc k = pow-succ' 128 (suc k) in
    let rest = leb_short k (c ∷ bytes) is.2 is.5 (omega (arith, is.0, parts, next, fits)) in
    omega (arith, rest)

-- twice an amount in range, and one, has nine bytes of seven bits
amount_fits : (n : ℕ) → n < 1000000000000000000 → 2 * n + 1 < 9223372036854775808
amount_fits n small = omega (arith, small)

amount_short : (bytes : List ℕ) (z : ℤ) → unsigned_abs z < 10 ^ 18 → IsZig bytes z → length bytes ≤ 9
amount_short bytes (pos n) small is = let fits = amount_fits n small in leb_short 8 bytes (2 * n) is (omega (arith, fits))
amount_short bytes (negsuc n) small is = let fits = amount_fits n (omega (arith, small)) in leb_short 8 bytes (2 * n + 1) is fits

cell_short : (dimensions : ℕ) (cell : LeafCell) (bytes : List ℕ) → IsSmall cell → IsCell dimensions cell bytes → length bytes ≤ longest_cell_in_range dimensions
cell_short dimensions cell bytes small is =
    let joined = ap length is.joined in
    let amount = amount_short is.amount cell.amount small is.spelled in
    omega (arith, joined, length-append (leaves_text cell.leaves) is.amount, length-leaves_text cell.leaves, is.count, amount)

cells_short : (dimensions : ℕ) (before : Option (List ℕ)) (cells : List LeafCell) (bytes : List ℕ) → AllByRecursion IsSmall cells → AreCells dimensions before cells bytes → length bytes ≤ length cells * longest_cell_in_range dimensions
cells_short dimensions before [] bytes small is = let none = ap length is in omega (arith, none)
cells_short dimensions before (cell ∷ cells) bytes small is =
    let front = is.0 in
    let rest = is.1 in
    let first = cell_short dimensions cell front small.0 is.2 in
    let others = cells_short dimensions _ cells rest small.1 is.5 in
    let joined = ap length is.4 in
    omega (arith, joined, length-append front rest, first, others)

pub record_short : (r : Record) (bytes : List ℕ) → AllByRecursion IsSmall r.cells → IsRecord r bytes → length bytes ≤ longest_in_range r
record_short r bytes small is =
    let joined = ap length is.head.joined in
    let cells = cells_short r.dimensions _ r.cells is.cells small is.spelled in
    omega (arith, joined, length-append r.outline (r.dimensions ∷ (to_be_bytes w32 (length r.cells) ++ is.cells)), cells)
