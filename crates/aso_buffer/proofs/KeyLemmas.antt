-- Records at their keys.
use Rattle.std.proofs.Common.{◌≡◌, ◌≢◌, ◌∙◌, ◌+◌, ◌*◌, ◌^◌, ◌<◌, ◌≤◌, ◌++◌, ◌∷◌, [], ℕ, suc, List, length, take, drop, get_or, map, refl, sym, ap, subst, arith, add-one, append_assoc, inl, inr, lit<}
use Rattle.std.specs.Prelude.{ℤ, Bool, true, false, cond, filter, max, nat_eq, unsigned_abs, Option, Some, None, All}
use Rattle.std.proofs.Math.Nat.{mul-le-mul_right}
use Rattle.std.proofs.Math.Seq.{drop-cons}
use Rattle.std.proofs.lemmas.Bool.Decides.{eqb_tells}
use Rattle.std.proofs.lemmas.List.{append-nil, length-drop}
use Rattle.std.proofs.lemmas.List.Elements.{All-head, All-tail}
use Rattle.aso_num.specs.Amount.{IsAmount}
use Rattle.aso_keys.specs.declared.axis.Axis.{Axis}
use Rattle.aso_keys.specs.Axes.{AreClasses, key_of}
use Rattle.aso_runs.specs.Runs.{Entries, amounts_at, greatest}
use Rattle.aso_buffer.specs.Buffers.{HaveKeys, combined, combined_at, keyed}
use Rattle.aso_buffer.specs.Rows.{leaves_in, records_of}
use Rattle.aso_buffer.specs.declared.kind.Kind.{Kind}
use Rattle.aso_buffer.specs.declared.kind.Kind.TheVariants.{Sum, Last}
use Rattle.aso_buffer.specs.declared.row.Row.{Row}

greatest_more : (es : Entries) (e : ℕ × ℤ) → greatest (es ++ e ∷ []) ≡ max (greatest es) (unsigned_abs e.1)
greatest_more [] e = omega arith
greatest_more (x ∷ es) e = let h = greatest_more es e in omega (arith, h)

-- these are the records that are left, behind those that stand at their keys already
pub record IsSoFar (axes : List Axis) (rows : List Row) (rest : List ℕ) (done all : Entries) : Type 0 where
  pub whole : leaves_in rows ≡ length rest
  pub keys : HaveKeys axes (records_of rows rest)
  pub so_far : done ++ keyed axes (records_of rows rest) ≡ all
  pub small : greatest done < 10 ^ 18

pub none_yet : (axes : List Axis) (rows : List Row) (leaves : List ℕ) → leaves_in rows ≡ length leaves → HaveKeys axes (records_of rows leaves)
    → IsSoFar axes rows leaves [] (keyed axes (records_of rows leaves))
none_yet axes rows leaves whole keys = record { whole = whole; keys = keys; so_far = refl; small = lit< tt }

pub one_more : (axes : List Axis) (r : Row) (rows : List Row) (rest : List ℕ) (done all : Entries) → IsSoFar axes (r ∷ rows) rest done all → IsAmount r.amount
    → IsSoFar axes rows (drop r.leaves rest) (done ++ (key_of axes (take r.leaves rest), r.amount) ∷ []) all
one_more axes r rows rest done all s amount =
    let e : ℕ × ℤ = (key_of axes (take r.leaves rest), r.amount) in
    record {
      whole = let w = s.whole in omega (arith, w, length-drop r.leaves rest);
      keys = All-tail (λ (x : List ℕ × ℤ). AreClasses axes x.0) (take r.leaves rest, r.amount) (records_of rows (drop r.leaves rest)) s.keys;
      so_far = append_assoc done (e ∷ []) (keyed axes (records_of rows (drop r.leaves rest))) ∙ s.so_far;
      small = let g = greatest_more done e in let h = s.small in omega (arith, g, h, amount);
    }

pub first_key : (axes : List Axis) (r : Row) (rows : List Row) (rest : List ℕ) (done all : Entries) → IsSoFar axes (r ∷ rows) rest done all → AreClasses axes (take r.leaves rest)
first_key axes r rows rest done all s = All-head (λ (x : List ℕ × ℤ). AreClasses axes x.0) (take r.leaves rest, r.amount) (records_of rows (drop r.leaves rest)) s.keys

pub all_done : (axes : List Axis) (rest : List ℕ) (done all : Entries) → IsSoFar axes [] rest done all → done ≡ all
all_done axes rest done all s = sym (append-nil done) ∙ s.so_far

first_opened : (rows : List Row) (i : ℕ) (r : Row) → i < length rows → r ≡ get_or rows i r → drop i rows ≡ r ∷ drop (suc i) rows
first_opened rows i r lt is = drop-cons rows i r lt ∙ ap (λ (x : Row). x ∷ drop (suc i) rows) (sym is)

pub row_key : (axes : List Axis) (rows : List Row) (i : ℕ) (r : Row) (rest own : List ℕ) (done all : Entries) → i < length rows → r ≡ get_or rows i r
    → IsSoFar axes (drop i rows) rest done all → own ≡ take r.leaves rest → AreClasses axes own
row_key axes rows i r rest own done all lt is s front =
    subst (AreClasses axes) (sym front)
    (first_key axes r (drop (suc i) rows) rest done all (subst (λ (xs : List Row). IsSoFar axes xs rest done all) (first_opened rows i r lt is) s))

pub next_row : (axes : List Axis) (rows : List Row) (i : ℕ) (r : Row) (rest behind : List ℕ) (done new all : Entries) (key : ℕ) (amount : ℤ) → i < length rows → r ≡ get_or rows i r
    → IsSoFar axes (drop i rows) rest done all → IsAmount r.amount → behind ≡ drop r.leaves rest → key ≡ key_of axes (take r.leaves rest) → amount ≡ r.amount
    → new ≡ done ++ (key, amount) ∷ [] → IsSoFar axes (drop (i + 1) rows) behind new all
next_row axes rows i r rest behind done new all key amount lt is s fits back k a more =
    let next = one_more axes r (drop (suc i) rows) rest done all (subst (λ (xs : List Row). IsSoFar axes xs rest done all) (first_opened rows i r lt is) s) fits in
    let e : (key, amount) ≡ (key_of axes (take r.leaves rest), r.amount) = λ j. (k j, a j) in
    rw add-one
    (subst (λ (ls : List ℕ). IsSoFar axes (drop (suc i) rows) ls new all) (sym back)
    (subst (λ (es : Entries). IsSoFar axes (drop (suc i) rows) (drop r.leaves rest) es all) (sym (more ∙ ap (λ (x : ℕ × ℤ). done ++ x ∷ []) e)) next))

-- so many amounts can be summed
pub room : (n g : ℕ) → n < 2 ^ 64 → g < 10 ^ 18 → n * g < 2 ^ 126
room n g few small =
    let most : n * g ≤ 2 ^ 64 * g = mul-le-mul_right g (omega (arith, few)) in
    omega (arith, most, small)

-- a key at which there is something is that of a record
none_is : (kind : Kind) (v : ℤ) → combined kind [] ≡ Some v → ⊥
none_is Sum v is = cc
none_is Last v is = cc

pub of_record : (kind : Kind) (axes : List Axis) (records : List (List ℕ × ℤ)) (key : ℕ) (v : ℤ) → HaveKeys axes records → combined_at kind axes records key ≡ Some v
    → (own : List ℕ) × AreClasses axes own × (key ≡ key_of axes own)
of_record kind axes [] key v have is = absurd (none_is kind v is)
of_record kind axes (r ∷ rs) key v have is = elim (eqb_tells key (key_of axes r.0)) [
  | inl same ↦ (r.0, All-head (λ (x : List ℕ × ℤ). AreClasses axes x.0) r rs have, same.1)
  | inr other ↦
      let rest = filter (λ (e : ℕ × ℤ). nat_eq key e.0) (keyed axes rs) in
      let passed : combined kind (map (λ (e : ℕ × ℤ). e.1) (cond (nat_eq key (key_of axes r.0)) ((key_of axes r.0, r.1) ∷ rest) rest)) ≡ combined_at kind axes rs key =
      ap (λ (b : Bool). combined kind (map (λ (e : ℕ × ℤ). e.1) (cond b ((key_of axes r.0, r.1) ∷ rest) rest))) other.0 in
      of_record kind axes rs key v (All-tail (λ (x : List ℕ × ℤ). AreClasses axes x.0) r rs have) (sym passed ∙ is)
]
