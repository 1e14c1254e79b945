-- The first cell of a run whose amount is out of range.
use Rattle.std.proofs.Common.{◌≡◌, ◌≢◌, ◌∙◌, ◌<◌, ◌≤◌, ◌∷◌, [], ℕ, zero, suc, List, length, take, get_or, refl, sym, ap, subst, arith, inl, inr}
use Rattle.std.specs.Prelude.{ℤ, Bool, true, false, cond, nat_eq, Option, Some, None, All, IfSome}
use Rattle.std.proofs.lemmas.Bool.{eq-eqb, ne_eqb}
use Rattle.std.proofs.lemmas.Bool.Decides.{eqb_tells}
use Rattle.std.proofs.lemmas.List.Elements.{All-head, All-tail}
use Rattle.aso_num.specs.Amount.{IsAmount}
use Rattle.aso_keys.specs.declared.axis.Axis.{Axis}
use Rattle.aso_keys.specs.Axes.{AreClasses, key_of}
use Rattle.aso_runs.specs.Runs.{Entries, RisesFrom, value_at}
use Rattle.aso_buffer.specs.Buffers.{HaveKeys, IsLeastPast, combined_at}
use Rattle.aso_buffer.specs.Past.{IsFirstPast}
use Rattle.aso_buffer.specs.declared.kind.Kind.{Kind}
use Rattle.aso_buffer.proofs.KeyLemmas.{of_record}

-- nothing stands below the least key
none_below : (least key : ℕ) (es : Entries) → RisesFrom least es → key < least → value_at key es ≡ None
none_below least key [] up lt = refl
none_below least key (x ∷ xs) up lt =
    let h = up.0 in
    ap (λ (b : Bool). cond b (Some x.1) (value_at key xs)) (ne_eqb key x.0 (λ (q : key ≡ x.0). absurd (omega (arith, h, q, lt))))
    ∙ none_below (suc x.0) key xs up.1 (omega (arith, h, lt))

at_least : (least : ℕ) (es : Entries) (i : ℕ) (d : ℕ × ℤ) → RisesFrom least es → i < length es → least ≤ (get_or es i d).0
at_least least [] i d up lt = absurd (omega arith)
at_least least (x ∷ xs) zero d up lt = up.0
at_least least (x ∷ xs) (suc i) d up lt = let h = at_least (suc x.0) xs i d up.1 (omega arith) in let k = up.0 in omega (arith, h, k)

pub first_from : (least : ℕ) (es : Entries) (i : ℕ) (e : ℕ × ℤ) → RisesFrom least es → i < length es → get_or es i e ≡ e
    → All (λ (x : ℕ × ℤ). IsAmount x.1) (take i es) → (IsAmount e.1 → ⊥) → IsFirstPast e es
first_from least [] i e up lt is before past = absurd (omega arith)
first_from least (x ∷ xs) zero e up lt is before past = record {
  there = subst (λ (y : ℕ × ℤ). value_at y.0 (x ∷ xs) ≡ Some y.1) is (ap (λ (b : Bool). cond b (Some x.1) (value_at x.0 xs)) (eq-eqb x.0 x.0 refl));
  past = past;
  least = λ key (below : key < e.0).
      let at : x.0 ≡ e.0 = ap (λ (y : ℕ × ℤ). y.0) is in
      let none : value_at key (x ∷ xs) ≡ None = none_below x.0 key (x ∷ xs) (omega arith, up.1) (omega (arith, below, at)) in
      subst (λ (o : Option ℤ). IfSome o IsAmount) (sym none) tt;
}
first_from least (x ∷ xs) (suc i) e up lt is before past =
    let rest = first_from (suc x.0) xs i e up.1 (omega arith) is (All-tail (λ (y : ℕ × ℤ). IsAmount y.1) x (take i xs) before) past in
    let above : suc x.0 ≤ e.0 = subst (λ (y : ℕ × ℤ). suc x.0 ≤ y.0) is (at_least (suc x.0) xs i e up.1 (omega arith)) in
    record {
      there = ap (λ (b : Bool). cond b (Some x.1) (value_at e.0 xs)) (ne_eqb e.0 x.0 (λ (q : e.0 ≡ x.0). absurd (omega (arith, above, q)))) ∙ rest.there;
      past = past;
      least = λ key (below : key < e.0).
          let here : (b : Bool) → IfSome (cond b (Some x.1) (value_at key xs)) IsAmount = one (value_at key xs) (rest.least key below) in
          here (nat_eq key x.0);
    }
  where
    one : (o : Option ℤ) → IfSome o IsAmount → (b : Bool) → IfSome (cond b (Some x.1) o) IsAmount
    one o h true = All-head (λ (y : ℕ × ℤ). IsAmount y.1) x (take i xs) before
    one o h false = h

-- the first cell that is out of range is at the least key where the records combine to what is no amount
pub least_past : (kind : Kind) (axes : List Axis) (records : List (List ℕ × ℤ)) (run : Entries) (key : ℕ) (amount : ℤ) (leaves : List ℕ) → HaveKeys axes records
    → ((k : ℕ) → value_at k run ≡ combined_at kind axes records k) → IsFirstPast (key, amount) run
    → ((own : List ℕ) → AreClasses axes own → key ≡ key_of axes own → leaves ≡ own) → IsLeastPast kind axes records leaves amount
least_past kind axes records run key amount leaves have values first told =
    let some : combined_at kind axes records key ≡ Some amount = sym (values key) ∙ first.there in
    let r = of_record kind axes records key amount have some in
    let is : leaves ≡ r.0 = told r.0 r.1 r.2 in
    let at : key ≡ key_of axes leaves = r.2 ∙ ap (key_of axes) (sym is) in
    record {
      each = subst (AreClasses axes) (sym is) r.1;
      there = subst (λ (k : ℕ). combined_at kind axes records k ≡ Some amount) at some;
      past = first.past;
      least = λ k (below : k < key_of axes leaves). subst (λ (o : Option ℤ). IfSome o IsAmount) (values k) (first.least k (omega (arith, below, at)));
    }
