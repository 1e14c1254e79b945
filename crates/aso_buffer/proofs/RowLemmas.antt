-- Rows with one record more, and cut back.
use Rattle.std.proofs.Common.{◌≡◌, ◌∙◌, ◌+◌, ◌≤◌, ◌++◌, ◌∷◌, [], ℕ, List, length, take, drop, refl, sym, ap, arith, append_assoc}
use Rattle.std.proofs.Math.Seq.{take-append_seam, take-length}
use Rattle.std.proofs.lemmas.List.{append-nil, drop-append-le, length-drop, take-append-le}
use Rattle.std.specs.Prelude.{ℤ}
use Rattle.aso_buffer.specs.Rows.{Extends, leaves_in, records_of}
use Rattle.aso_buffer.specs.declared.row.Row.{Row}

pub leaves_more : (rows : List Row) (r : Row) → leaves_in (rows ++ r ∷ []) ≡ leaves_in rows + r.leaves
leaves_more [] r = omega arith
leaves_more (x ∷ rows) r = let h = leaves_more rows r in omega (arith, h)

pub records_more : (rows : List Row) (leaves : List ℕ) (r : Row) (own : List ℕ) → leaves_in rows ≡ length leaves → r.leaves ≡ length own
    → records_of (rows ++ r ∷ []) (leaves ++ own) ≡ records_of rows leaves ++ (own, r.amount) ∷ []
records_more [] [] r own whole same = ap (λ (l : List ℕ). (l, r.amount) ∷ []) (ap (λ (n : ℕ). take n own) same ∙ take-length own)
records_more [] (x ∷ leaves) r own whole same = absurd (omega (arith, whole))
records_more (x ∷ rows) leaves r own whole same =
    let within : x.leaves ≤ length leaves = omega (arith, whole) in
    let left : leaves_in rows ≡ length (drop x.leaves leaves) = omega (arith, whole, length-drop x.leaves leaves) in
    ap (λ (l : List ℕ). (l, x.amount) ∷ records_of (rows ++ r ∷ []) (drop x.leaves (leaves ++ own))) (take-append-le x.leaves leaves own within)
    ∙ (ap (λ (l : List ℕ). (take x.leaves leaves, x.amount) ∷ records_of (rows ++ r ∷ []) l) (drop-append-le x.leaves leaves own within)
    ∙ ap (λ (l : List (List ℕ × ℤ)). (take x.leaves leaves, x.amount) ∷ l) (records_more rows (drop x.leaves leaves) r own left same))

pub extends_self : {A : Type 0} (xs : List A) → Extends xs xs
extends_self {A} xs = ([], sym (append-nil xs))

pub extends_by : {A : Type 0} (xs more ys : List A) → ys ≡ xs ++ more → Extends xs ys
extends_by {A} xs more ys is = (more, is)

pub extends_again : {A : Type 0} (xs ys zs : List A) → Extends xs ys → Extends ys zs → Extends xs zs
extends_again {A} xs ys zs a b = (a.0 ++ b.0, b.1 ∙ (ap (λ (l : List A). l ++ b.0) a.1 ∙ append_assoc xs a.0 b.0))

pub cut_back : {A : Type 0} (xs ys : List A) → Extends xs ys → take (length xs) ys ≡ xs
cut_back {A} xs ys e = ap (take (length xs)) e.1 ∙ take-append_seam xs e.0
