-- Where members stand in parts in order, what a member leads to is in no later part; and a way back shows a circle.
use Rattle.std.specs.Prelude.{nat_le, nat_lt}
use Rattle.std.specs.List.{list_all, list_any}
use Rattle.std.proofs.Common.{◌≡◌, ◌∙◌, ℕ, zero, suc, ◌<◌, ◌≤◌, ⊎_elim, ◌||◌, eqb, Bool, true, false, List, [], ◌∷◌, length, refl, sym, ap, arith, true≢false, eq-eqb}
use Rattle.std.proofs.lemmas.Bool.{and_parts, eqb-true, leb-true, ltb-true, or_cases}
use Rattle.aso_outline.specs.declared.draft.Draft.{Draft}
use Rattle.aso_outline.specs.Members.{seats}
use Rattle.aso_outline.specs.Parts.{AreInOrder, is_after_needs, is_in_order, part_in}
use Rattle.aso_outline.specs.Ranks.{needs, needs_itself, reaches}
use Rattle.aso_outline.proofs.Acyclic.{any_there, reached, right_true}
use Rattle.aso_outline.proofs.RankTurns.{needs_past}
use Rattle.aso_outline.proofs.Turns.{below_or_past}

-- one that passes a test where all pass another
meeting : (p q : ℕ → Bool) (ks : List ℕ) → list_any p ks ≡ true → list_all q ks ≡ true → (k : ℕ) × (p k ≡ true) × (q k ≡ true)
meeting p q [] there each = absurd (true≢false (sym there))
meeting p q (k ∷ ks) there each =
    let all = and_parts (q k) (list_all q ks) each in
    ⊎_elim
    (λ (here : p k ≡ true). (k, here, all.0))
    (λ (later : list_any p ks ≡ true). meeting p q ks later all.1)
    (or_cases (p k) (list_any p ks) there)

false_unless : (b : Bool) → (b ≡ true → ⊥) → b ≡ false
false_unless true h = absurd (h refl)
false_unless false h = refl

module _ (o : Draft) (parts : List ℕ) where
  pub in_order_past : (k : ℕ) → length (seats o) ≤ k → is_in_order o parts k ≡ true
  in_order_past k past = ap (list_all (λ (m : ℕ). nat_le (part_in parts m) (part_in parts k))) (needs_past o k past)

  pub all_in_order : (n : ℕ) → length (seats o) ≤ n → ((k : ℕ) → k < n → is_in_order o parts k ≡ true) → AreInOrder o parts
  all_in_order n all each k =
      ⊎_elim
      (λ (low : k < length (seats o)). each k (omega (arith, low, all)))
      (λ (past : length (seats o) ≤ k). in_order_past k past)
      (below_or_past k (length (seats o)))

  module _ (order : AreInOrder o parts) where
    led_down : (t goal k : ℕ) → reaches t o goal k ≡ true → part_in parts goal ≤ part_in parts k
    led_down zero goal k e = absurd (true≢false (sym e))
    led_down (suc t) goal k e =
        let met = meeting (λ (j : ℕ). eqb j goal || reaches t o goal j) (λ (m : ℕ). nat_le (part_in parts m) (part_in parts k)) (needs o k) e (order k) in
        let low : part_in parts met.0 ≤ part_in parts k = leb-true _ _ met.2 in
        ⊎_elim
        (λ (same : eqb met.0 goal ≡ true). let is : part_in parts met.0 ≡ part_in parts goal = ap (part_in parts) (eqb-true met.0 goal same) in omega (arith, low, is))
        (λ (further : reaches t o goal met.0 ≡ true). let next : part_in parts goal ≤ part_in parts met.0 = led_down t goal met.0 further in omega (arith, low, next))
        (or_cases (eqb met.0 goal) (reaches t o goal met.0) met.1)

    never_back : (t k : ℕ) → is_after_needs o parts k ≡ true → reaches t o k k ≡ true → ⊥
    never_back zero k after e = true≢false (sym e)
    never_back (suc t) k after e =
        let met = meeting (λ (j : ℕ). eqb j k || reaches t o k j) (λ (m : ℕ). nat_lt (part_in parts m) (part_in parts k)) (needs o k) e after in
        let low : part_in parts met.0 < part_in parts k = ltb-true _ _ met.2 in
        ⊎_elim
        (λ (same : eqb met.0 k ≡ true). let is : part_in parts met.0 ≡ part_in parts k = ap (part_in parts) (eqb-true met.0 k same) in absurd (omega (arith, low, is)))
        (λ (further : reaches t o k met.0 ≡ true). let next : part_in parts k ≤ part_in parts met.0 = led_down t k met.0 further in absurd (omega (arith, low, next)))
        (or_cases (eqb met.0 k) (reaches t o k met.0) met.1)

    pub in_no_circle : (k : ℕ) → is_after_needs o parts k ≡ true → needs_itself o k ≡ false
    unfolding needs_itself
    in_no_circle k after = false_unless (reaches (length (seats o)) o k k) (never_back (length (seats o)) k after)

-- no parts at all are in order
pub none_in_order : (o : Draft) → AreInOrder o []
none_in_order o k = all_pass (needs o k)
  where
    all_pass : (ks : List ℕ) → list_all (λ (m : ℕ). nat_le (part_in [] m) (part_in [] k)) ks ≡ true
    all_pass [] = refl
    all_pass (m ∷ ms) = all_pass ms

-- ---- a way back

-- a member that is the goal, or leads to it
abbrev pub leads : Draft → ℕ → ℕ → Bool
leads o goal k = eqb k goal || reaches (length (seats o)) o goal k

pub starts : (o : Draft) (goal : ℕ) → leads o goal goal ≡ true
starts o goal = ap (λ (b : Bool). b || reaches (length (seats o)) o goal goal) (eq-eqb goal goal refl)

pub leads_back : (o : Draft) (goal k next : ℕ) → list_any (λ (j : ℕ). eqb j next) (needs o k) ≡ true → leads o goal next ≡ true → reaches (length (seats o)) o goal k ≡ true
leads_back o goal k next need led = reached o (suc (length (seats o))) goal k (any_there (leads o goal) (needs o k) next need led)

pub leads_on : (o : Draft) (goal k next : ℕ) → list_any (λ (j : ℕ). eqb j next) (needs o k) ≡ true → leads o goal next ≡ true → leads o goal k ≡ true
leads_on o goal k next need led = right_true (eqb k goal) (reaches (length (seats o)) o goal k) (leads_back o goal k next need led)

pub circle : (o : Draft) (goal k next : ℕ) → list_any (λ (j : ℕ). eqb j next) (needs o k) ≡ true → leads o goal next ≡ true → k ≡ goal → needs_itself o goal ≡ true
unfolding needs_itself
circle o goal k next need led is = ap (λ (j : ℕ). reaches (length (seats o)) o goal j) (sym is) ∙ leads_back o goal k next need led
