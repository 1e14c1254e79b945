-- A next child is one of the members, and no height is past 31.
use Rattle.std.specs.Prelude.{nat_lt}
use Rattle.std.specs.List.{filter, fold, position, position_or_len, range_with_len}
use Rattle.std.proofs.Common.{◌≡◌, ◌∙◌, ℕ, zero, suc, ◌+◌, ◌-◌, ◌<◌, ◌≤◌, ◌⊎◌, ⊎_elim, Bool, true, false, not, ◌||◌, cond, max, List, ◌∷◌, map, length, Some, None, refl, sym, ap, arith, true≢false}
use Rattle.std.proofs.lemmas.Bool.{lt-ltb, ltb-true}
use Rattle.std.proofs.lemmas.Option.{none-some, same_Some}
use Rattle.std.proofs.lemmas.List.FromFn.{length-range_with_len}
use Rattle.aso_tree.specs.Trees.{depth, height, is_deep, is_under, next_child, places_of, stands, IsTree}
use Rattle.aso_outline.specs.declared.draft.DraftMember.{DraftMember}
use Rattle.aso_outline.specs.Members.{parents_of}
use Rattle.aso_outline.specs.Parents.{one_parent_each}

-- what is found stands in the list
pub position_within : {X : Type 0} (p : X → Bool) (xs : List X) (k : ℕ) → Some k ≡ position p xs → k < length xs
position_within p xs k h = by_test (nat_lt (position_or_len p xs) (length xs)) refl h
  where
    by_test : (b : Bool) → nat_lt (position_or_len p xs) (length xs) ≡ b → Some k ≡ cond b (Some (position_or_len p xs)) None → k < length xs
    by_test true low is = let same : k ≡ position_or_len p xs = same_Some k (position_or_len p xs) is in let less : position_or_len p xs < length xs = ltb-true _ _ low in omega (arith, same, less)
    by_test false low is = absurd (none-some k (sym is))

pub next_within : (parents : List ℕ) (ms : List DraftMember) (i k : ℕ) → parents ≡ parents_of ms → Some k ≡ next_child parents i → k < length ms
next_within parents ms i k same is =
    let low : k < length (places_of parents) = position_within _ (places_of parents) k is in
    omega (arith, low, length-range_with_len 0 (length parents), ap length same, one_parent_each ms)

-- ---- heights

pub bounded : (f : ℕ → ℕ) (t : ℕ → Bool) (n a b most : ℕ) → b ≤ most → ((k : ℕ) → a ≤ k → k < a + n → f k ≤ most) → fold max b (map f (filter t (range_with_len a n))) ≤ most
bounded f t zero a b most base each = base
bounded f t (suc n) a b most base each =
    let here : f a ≤ most = each a (omega arith) (omega arith) in
    by_test (t a)
    (bounded f t n (a + 1) (max b (f a)) most (omega (arith, base, here)) (λ k lo hi. each k (omega (arith, lo)) (omega (arith, hi))))
    (bounded f t n (a + 1) b most base (λ k lo hi. each k (omega (arith, lo)) (omega (arith, hi))))
  where
    by_test : (c : Bool) → fold max (max b (f a)) (map f (filter t (range_with_len (a + 1) n))) ≤ most → fold max b (map f (filter t (range_with_len (a + 1) n))) ≤ most
        → fold max b (map f (cond c (a ∷ filter t (range_with_len (a + 1) n)) (filter t (range_with_len (a + 1) n)))) ≤ most
    by_test true with_it without = with_it
    by_test false with_it without = without

le_or_lt : (a b : ℕ) → (a ≤ b) ⊎ (b < a)
le_or_lt a b = grind arith

or_right : (a b : Bool) → (not a || b) ≡ false → b ≡ false
or_right true b h = h
or_right false b h = absurd (true≢false h)

pub depth_bound : (parents : List ℕ) → IsTree parents → (k : ℕ) → k < length parents → depth parents k ≤ 31
depth_bound parents tree k low =
    ⊎_elim
    (λ (le : depth parents k ≤ 31). le)
    (λ (deep : 31 < depth parents k). absurd (true≢false (sym (lt-ltb 31 (depth parents k) deep) ∙ or_right (stands parents k) (is_deep parents k) (tree k low))))
    (le_or_lt (depth parents k) 31)

pub height_bound : (parents : List ℕ) → IsTree parents → (i : ℕ) → height parents i ≤ 31
height_bound parents tree i =
    bounded (λ x. depth parents x - depth parents i) (is_under parents i) (length parents) 0 0 31 (omega arith)
    (λ k lo hi. let most : depth parents k ≤ 31 = depth_bound parents tree k (omega (arith, hi)) in omega (arith, most))
