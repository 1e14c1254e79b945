-- Members that are asked, and their places.
use Rattle.std.proofs.Common.{◌≡◌, ◌∙◌, ℕ, zero, suc, ◌<◌, List, [], ◌∷◌, ◌++◌, length, set, Some, refl, sym, ap, subst, arith, ◌⊎◌, inl, inr, ⊎_elim, append_assoc}
use Rattle.std.specs.Prelude.{slice_get}
use Rattle.std.specs.List.{All}
use Rattle.std.proofs.lemmas.List.{append-nil, length-set}
use Rattle.std.proofs.lemmas.List.Elements.{All-append, All-nil, All-cons}
use Rattle.std.proofs.lemmas.Option.{slice_get_within}
use Rattle.aso_outline.specs.declared.draft.Draft.{Draft}
use Rattle.aso_outline.specs.Members.{seats}
use Rattle.aso_sums.specs.declared.asked.Asked.{Asked}
use Rattle.aso_sums.specs.Asking.{Extends, IsAsking, nowhere}

-- ---- lists

pub slice_get-front : (xs ys : List ℕ) (k : ℕ) → k < length xs → slice_get (xs ++ ys) k ≡ slice_get xs k
slice_get-front (x ∷ xs) ys zero lt = refl
slice_get-front (x ∷ xs) ys (suc k) lt = slice_get-front xs ys k (omega arith)
slice_get-front [] ys k lt = absurd (omega arith)

pub slice_get-seam : (xs : List ℕ) (y : ℕ) → slice_get (xs ++ y ∷ []) (length xs) ≡ Some y
slice_get-seam [] y = refl
slice_get-seam (x ∷ xs) y = slice_get-seam xs y

slice_get-kept : (xs ys : List ℕ) (k m : ℕ) → slice_get xs k ≡ Some m → slice_get (xs ++ ys) k ≡ Some m
slice_get-kept xs ys k m h = slice_get-front xs ys k (slice_get_within xs k m h) ∙ h

-- what a list has behind which one element more was put
snoc_cases : (xs : List ℕ) (y m k : ℕ) → slice_get (xs ++ y ∷ []) m ≡ Some k → (slice_get xs m ≡ Some k) ⊎ (k ≡ y)
snoc_cases [] y zero k h = inr (cc)
snoc_cases [] y (suc m) k h = absurd (cc)
snoc_cases (x ∷ xs) y zero k h = inl h
snoc_cases (x ∷ xs) y (suc m) k h = snoc_cases xs y m k h

-- what a list has in which one element was set
set_cases : (xs : List ℕ) (i y m k : ℕ) → slice_get (set xs i y) m ≡ Some k → (slice_get xs m ≡ Some k) ⊎ ((m ≡ i) × (k ≡ y))
set_cases [] i y m k h = inl h
set_cases (x ∷ xs) zero y zero k h = inr (refl, cc)
set_cases (x ∷ xs) zero y (suc m) k h = inl h
set_cases (x ∷ xs) (suc i) y zero k h = inl h
set_cases (x ∷ xs) (suc i) y (suc m) k h = ⊎_elim (λ (l : slice_get xs m ≡ Some k). inl l) (λ (r : (m ≡ i) × (k ≡ y)). inr (ap suc r.0, r.1)) (set_cases xs i y m k h)

-- ---- the table

abbrev pub AreNowhere : List ℕ → Type 0
AreNowhere places = (m k : ℕ) → slice_get places m ≡ Some k → k ≡ nowhere

pub none_nowhere : AreNowhere []
none_nowhere m k h = absurd (cc)

pub more_nowhere : (places new : List ℕ) (y : ℕ) → new ≡ places ++ y ∷ [] → y ≡ nowhere → AreNowhere places → AreNowhere new
more_nowhere places new y e ey h m k g =
    ⊎_elim (λ (l : slice_get places m ≡ Some k). h m k l) (λ (r : k ≡ y). r ∙ ey) (snoc_cases places y m k (subst (λ (xs : List ℕ). slice_get xs m ≡ Some k) e g))

pub none_asked : (o : Draft) (a : Asked) → a.members.items ≡ [] → length a.places.items ≡ length (seats o) → AreNowhere a.places.items → IsAsking o a
none_asked o a em el h = record {
  numbers = subst (λ (xs : List ℕ). All (λ m. m < length (seats o)) xs) (sym em) (All-nil (λ m. m < length (seats o)));
  long = el;
  found = λ m k g ne. absurd (ne (h m k g));
}

pub asked_more : (o : Draft) (old new : Asked) (m : ℕ) → m < length (seats o) → IsAsking o old → new.members.items ≡ old.members.items ++ m ∷ [] → new.places.items ≡ set old.places.items m (length old.members.items) → IsAsking o new
asked_more o old new m lt h em ep = record {
  numbers = subst (λ (xs : List ℕ). All (λ q. q < length (seats o)) xs) (sym em) (All-append (λ q. q < length (seats o)) old.members.items (m ∷ []) h.numbers (All-cons (λ q. q < length (seats o)) m [] lt (All-nil (λ q. q < length (seats o)))));
  long = ap (λ (xs : List ℕ). length xs) ep ∙ length-set old.places.items m (length old.members.items) ∙ h.long;
  found = λ q k g ne.
      subst (λ (xs : List ℕ). slice_get xs k ≡ Some q) (sym em)
      (⊎_elim (λ (l : slice_get old.places.items q ≡ Some k). slice_get-kept old.members.items (m ∷ []) k q (h.found q k l ne))
      (λ (r : (q ≡ m) × (k ≡ length old.members.items)). subst (λ (j : ℕ). slice_get (old.members.items ++ m ∷ []) j ≡ Some q) (sym r.1) (slice_get-seam old.members.items m ∙ ap (λ (x : ℕ). Some x) (sym r.0)))
      (set_cases old.places.items m (length old.members.items) q k (subst (λ (xs : List ℕ). slice_get xs q ≡ Some k) ep g)));
}

pub placed_here : (old new : List ℕ) (m k : ℕ) → new ≡ old ++ m ∷ [] → k ≡ length old → slice_get new k ≡ Some m
placed_here old new m k e ek = subst (λ (xs : List ℕ). slice_get xs k ≡ Some m) (sym e) (ap (slice_get (old ++ m ∷ [])) ek ∙ slice_get-seam old m)

pub same_members : (xs : List ℕ) → Extends xs xs
same_members xs = ([], sym (append-nil xs))

pub one_more : (old new : List ℕ) (m : ℕ) → new ≡ old ++ m ∷ [] → Extends old new
one_more old new m e = (m ∷ [], e)

pub extends_further : (a b c : List ℕ) → Extends a b → Extends b c → Extends a c
extends_further a b c p q = (p.0 ++ q.0, q.1 ∙ ap (λ (xs : List ℕ). xs ++ q.0) p.1 ∙ append_assoc a p.0 q.0)
