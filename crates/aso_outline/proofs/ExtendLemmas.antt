-- Searches through the atoms of a formula.
use Rattle.std.proofs.Common.{◌≡◌, ◌∙◌, ◌⊎◌, ⊎_elim, ℕ, zero, suc, ◌+◌, ◌<◌, ◌≤◌, Bool, true, false, not, ◌&&◌, ◌||◌, true≢false, List, [], ◌∷◌, ◌++◌, length, length-append, map, take, drop, get_or, Option, Some, None, refl, sym, ap, subst, arith, add-one}
use Rattle.std.specs.Prelude.{is_some, slice_get, Result, Ok, Err, OnOk}
use Rattle.std.specs.Option.{option_map, option_or}
use Rattle.std.specs.List.{list_all, list_any, position, find as first}
use Rattle.std.proofs.Math.Seq.{drop-cons}
use Rattle.std.proofs.Math.Seq.{take-append_seam}
use Rattle.std.proofs.lemmas.List.{get_or-map, length-map, take-append-le}
use Rattle.std.proofs.lemmas.Option.{same_Some, slice_get_within}
use Rattle.aso_tree.proofs.Firsts.{first_is, none_is}
use Rattle.aso_tree.proofs.Positions.{some_if_any}
use Rattle.std.proofs.lemmas.List.Concat.{flat_map-cons}
use Rattle.std.proofs.lemmas.List.Folds.{find-append}
use Rattle.aso_outline.specs.declared.draft.Draft.{Draft}
use Rattle.aso_outline.specs.declared.draft.ExtraMember.{ExtraMember}
use Rattle.aso_outline.specs.Atoms.{Atom}
use Rattle.aso_outline.specs.Extend.{AreOwn, IsOwn, names_in}
use Rattle.aso_outline.specs.Members.{Name}

below_or_at : (k i : ℕ) → k < i + 1 → (k < i) ⊎ (k ≡ i)
below_or_at k i low = grind (arith, low)

some_first : {X : Type 0} (a b : Option X) → is_some a ≡ true → option_or a b ≡ a
some_first (Some x) b is = refl
some_first None b is = absurd (true≢false (sym is))

module _ {A : Type 0} (now : A → Atom) (p : Name → Bool) (xs : List A) (i : ℕ) (x : A) (low : i < length xs) (is : get_or xs i x ≡ x) where
  abbrev rest : List Name
  rest = names_in (map now (drop (i + 1) xs))

  split : names_in (map now (drop i xs)) ≡ now x ++ rest
  split = rw (add-one, drop-cons xs i x low, is) (flat_map-cons (λ names. names) (now x) (map now (drop (suc i) xs)))

  pub found_here : (found : Option Name) → found ≡ first p (now x) → is_some found ≡ true → first p (names_in (map now (drop i xs))) ≡ found
  found_here found e some = ap (first p) split ∙ (find-append p (now x) rest ∙ (ap (λ (o : Option Name). option_or o (first p rest)) (sym e) ∙ some_first found (first p rest) some))

  pub found_later : first p (now x) ≡ None → first p (names_in (map now (drop (i + 1) xs))) ≡ first p (names_in (map now (drop i xs)))
  found_later none = sym (ap (first p) split ∙ (find-append p (now x) rest ∙ ap (λ (o : Option Name). option_or o (first p rest)) none))

pub some_mapped : {X Y : Type 0} (f : X → Y) (r : Option X) → is_some r ≡ true → is_some (option_map f r) ≡ true
some_mapped f (Some x) is = refl
some_mapped f None is = absurd (true≢false (sym is))

pub none_mapped : {X Y : Type 0} (f : X → Y) (r : Option X) → is_some r ≡ false → option_map f r ≡ None
none_mapped f (Some x) is = absurd (true≢false is)
none_mapped f None is = refl

module _ {A : Type 0} (now : A → Atom) (p : Atom → Bool) (xs : List A) where
  abbrev pub AllTo : ℕ → Type 0
  AllTo i = (k : ℕ) → k < i → p (get_or (map now xs) k []) ≡ true

  here : (i : ℕ) (x : A) → i < length xs → get_or xs i x ≡ x → get_or (map now xs) i [] ≡ now x
  here i x low is = get_or-map now xs i x [] low ∙ ap now is

  pub first_wrong : (i : ℕ) (x : A) → i < length xs → get_or xs i x ≡ x → AllTo i → p (now x) ≡ false → Some i ≡ position (λ a. not (p a)) (map now xs)
  first_wrong i x low is before wrong =
      sym (first_is (λ a. not (p a)) (map now xs) i [] (omega (arith, low, length-map xs now)) (λ k under. ap not (before k under)) (ap (λ (a : Atom). not (p a)) (here i x low is) ∙ ap not wrong))

  pub more : (i : ℕ) (x : A) → i < length xs → get_or xs i x ≡ x → AllTo i → p (now x) ≡ true → AllTo (i + 1)
  more i x low is before right k under =
      ⊎_elim (λ (l : k < i). before k l) (λ (e : k ≡ i). ap (λ (j : ℕ). p (get_or (map now xs) j [])) e ∙ (ap p (here i x low is) ∙ right)) (below_or_at k i under)

  pub none_wrong : (n : ℕ) → length xs ≤ n → AllTo n → None ≡ position (λ a. not (p a)) (map now xs)
  none_wrong n long all = sym (none_is (λ a. not (p a)) (map now xs) [] (λ k low. ap not (all k (omega (arith, low, long, length-map xs now)))))

-- a list of which no element fails
pub all_pass : {X : Type 0} (p : X → Bool) (xs : List X) → position (λ a. not (p a)) xs ≡ None → list_all p xs ≡ true
all_pass {X = X} p xs none = each xs (sym (some_if_any (λ a. not (p a)) xs) ∙ ap is_some none)
  where
    by_first : (b c d : Bool) → (c ≡ false → d ≡ true) → (not b || c) ≡ false → (b && d) ≡ true
    by_first true c d more e = more e
    by_first false c d more e = absurd (true≢false e)

    each : (ys : List X) → list_any (λ a. not (p a)) ys ≡ false → list_all p ys ≡ true
    each [] e = refl
    each (y ∷ ys) e = by_first (p y) (list_any (λ a. not (p a)) ys) (list_all p ys) (each ys) e

get_front : {X : Type 0} (xs ys : List X) (i : ℕ) → i < length xs → slice_get (xs ++ ys) i ≡ slice_get xs i
get_front [] ys i low = absurd (omega (arith, low))
get_front (x ∷ xs) ys zero low = refl
get_front (x ∷ xs) ys (suc i) low = get_front xs ys i (omega (arith, low))

get_last : {X : Type 0} (xs : List X) (y : X) (i : ℕ) → i ≡ length xs → slice_get (xs ++ y ∷ []) i ≡ Some y
get_last [] y zero e = refl
get_last [] y (suc i) e = absurd (omega (arith, e))
get_last (x ∷ xs) y zero e = absurd (omega (arith, e))
get_last (x ∷ xs) y (suc i) e = get_last xs y i (omega (arith, e))

-- one more behind those that are well defined
pub own_more : (o : Draft) (all : List ExtraMember) (m : ExtraMember) → AreOwn o all → IsOwn o all m → AreOwn o (all ++ m ∷ [])
own_more o all m own new k x is = by_place (before_or_at k)
  where
    before_or_at : (k : ℕ) → (k < length all) ⊎ (length all ≤ k)
    before_or_at k = grind (arith, k)

    by_place : (k < length all) ⊎ (length all ≤ k) → IsOwn o (take k (all ++ m ∷ [])) x
    by_place place =
        ⊎_elim
        (λ (low : k < length all). subst (λ (xs : List ExtraMember). IsOwn o xs x) (sym (take-append-le k all (m ∷ []) (omega (arith, low)))) (own k x (sym (get_front all (m ∷ []) k low) ∙ is)))
        (λ (high : length all ≤ k).
        let at : k ≡ length all = omega (arith, high, slice_get_within (all ++ m ∷ []) k x is, length-append all (m ∷ [])) in
        let same : m ≡ x = same_Some m x (sym (get_last all m k at) ∙ is) in
        subst (λ (y : ExtraMember). IsOwn o (take k (all ++ m ∷ [])) y) same
        (subst (λ (xs : List ExtraMember). IsOwn o xs m) (sym (ap (λ (j : ℕ). take j (all ++ m ∷ [])) at ∙ take-append_seam all (m ∷ []))) new))
        place

pub on_ok : {X Y : Type 0} (r : Result X Y) (P Q : Type 0) → (P → Q) → OnOk r P → OnOk r Q
on_ok (Ok x) P Q f p = f p
on_ok (Err e) P Q f p = tt
