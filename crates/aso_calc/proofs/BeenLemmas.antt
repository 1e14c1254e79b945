-- Where a search has been, one place more and one tuple more.
use Rattle.std.proofs.Common.{◌≡◌, ◌∙◌, ℕ, zero, suc, ◌+◌, ◌-◌, ◌<◌, ◌≤◌, Bool, true, false, ◌||◌, List, [], ◌∷◌, ◌++◌, drop, map, take, length, get_or, Option, Some, None, refl, sym, ap, subst, arith, append-nil}
use Rattle.std.specs.Prelude.{is_some, if◌then◌else◌, Result, Ok, Err, OnOk}
use Rattle.std.specs.List.{flat_map, fold, list_all, list_any}
use Rattle.std.specs.Cmp.Lexicographic.{bytes_decides, nat_list_eq_equiv}
use Rattle.std.specs.Str.{bytes_eq}
use Rattle.std.proofs.lemmas.Grind.{flat_map-append}
use Rattle.std.proofs.lemmas.List.{take_all, take_more}
use Rattle.std.proofs.lemmas.List.Folds.{list_any-append}
use Rattle.std.proofs.lemmas.List.Sums.{fold-append}
use Rattle.aso_outline.specs.declared.draft.Draft.{Draft}
use Rattle.aso_outline.specs.declared.draft.Tuple.{Tuple}
use Rattle.aso_calc.specs.Keys.{key_of}
use Rattle.aso_calc.specs.Needs.{has, needed, noted, reached, reached_step, reached_within, with_attrs}
use Rattle.aso_calc.specs.Values.{Own, resolved}
use Rattle.aso_calc.proofs.ListingLemmas.{all_longer}
use Rattle.aso_calc.proofs.StoredLemmas.{same_key}

abbrev first_of : List ℕ → ℕ
first_of [] = 0
first_of (x ∷ xs) = x

pub any_ok : {X Y : Type 0} (r : Result X Y) (P : Type 0) → P → OnOk r P
any_ok (Ok x) P p = p
any_ok (Err e) P p = tt

module _ (o : Draft) (own : Own) where
  abbrev There : List Tuple → ℕ → Tuple → Type 0
  There found ranks t = list_all (has found) (map (with_attrs t.attrs) (reached_step o own (reached_within ranks o own) t.base)) ≡ true

  abbrev Been : (List ℕ → Option Bool) → List Tuple → Type 0
  Been v found = (ranks : ℕ) (base : List ℕ) (attrs : List (Option ℕ)) → is_some (v (ranks ∷ key_of base attrs)) ≡ true → There found ranks (with_attrs attrs base)

  pub been_marked : (v w : List ℕ → Option Bool) (found : List Tuple) (ranks : ℕ) (base : List ℕ) (attrs : List (Option ℕ)) → Been v found → There found ranks (with_attrs attrs base)
      → ((q : List ℕ) → w q ≡ (if bytes_eq (ranks ∷ key_of base attrs) q then Some true else v q)) → Been w found
  been_marked v w found ranks base attrs been there adds r b a is = by_test (bytes_eq (ranks ∷ key_of base attrs) (r ∷ key_of b a)) refl
    where
      by_test : (c : Bool) → bytes_eq (ranks ∷ key_of base attrs) (r ∷ key_of b a) ≡ c → There found r (with_attrs a b)
      by_test true e =
          let k : ranks ∷ key_of base attrs ≡ r ∷ key_of b a = (bytes_decides (ranks ∷ key_of base attrs) (r ∷ key_of b a)).0 e in
          subst (λ (t : Tuple). There found r t) (same_key (with_attrs attrs base) (with_attrs a b) (ap (drop 1) k))
          (subst (λ (n : ℕ). There found n (with_attrs attrs base)) (ap first_of k) there)
      by_test false e = been r b a (sym (ap is_some (adds (r ∷ key_of b a) ∙ ap (λ (c : Bool). if c then Some true else v (r ∷ key_of b a)) e)) ∙ is)

  pub been_longer : (v : List ℕ → Option Bool) (found longer : List Tuple) (s : Tuple) → longer ≡ found ++ s ∷ [] → Been v found → Been v longer
  been_longer v found longer s is been ranks base attrs there =
      subst (λ (ts : List Tuple). There ts ranks (with_attrs attrs base)) (sym is) (all_longer (map (with_attrs attrs) (reached_step o own (reached_within ranks o own) base)) found s (been ranks base attrs there))

  pub within_reached : (ranks : ℕ) (base : List ℕ) → 0 < ranks → reached_within ranks o own base ≡ reached_step o own (reached_within (ranks - 1) o own) (resolved o base)
  within_reached zero base some = absurd (omega (arith, some))
  within_reached (suc ranks) base some = ap (λ (n : ℕ). reached_step o own (reached_within n o own) (resolved o base)) (before ranks)
    where
      before : (n : ℕ) → n ≡ suc n - 1
      before n = omega arith

  -- one tuple more
  pub reached_more : (ts : List Tuple) (i : ℕ) (x : Tuple) → i < length ts → get_or ts i x ≡ x
      → fold noted (fold noted [] (flat_map (reached o own) (take i ts))) (reached o own x) ≡ fold noted [] (flat_map (reached o own) (take (i + 1) ts))
  reached_more ts i x low is =
      let g : Tuple → List Tuple = reached o own in
      sym (ap (λ (us : List Tuple). fold noted [] (flat_map g us)) (take_more ts i x low ∙ ap (λ (y : Tuple). take i ts ++ y ∷ []) is)
      ∙ (ap (fold noted []) (flat_map-append g (take i ts) (x ∷ []) ∙ ap (λ (us : List Tuple). flat_map g (take i ts) ++ us) (append-nil (g x)))
      ∙ fold-append noted [] (flat_map g (take i ts)) (g x)))

-- all that was found by the end is what is needed
pub found_all : (o : Draft) (own : Own) (found ts : List Tuple) (i : ℕ) → length ts ≤ i → found ≡ fold noted [] (flat_map (reached o own) (take i ts)) → found ≡ needed o own ts
unfolding needed
found_all o own found ts i end is = is ∙ ap (λ (us : List Tuple). fold noted [] (flat_map (reached o own) us)) (take_all i ts end)

split : (b : Bool) (o : Option Bool) → is_some (if b then Some true else o) ≡ (is_some o || (b || false))
split true (Some x) = refl
split true None = refl
split false (Some x) = refl
split false None = refl

pub keys_more : (v w : List ℕ → Option Bool) (found longer : List Tuple) (t : Tuple) (k : List ℕ) → k ≡ key_of t.base t.attrs → longer ≡ found ++ t ∷ []
    → ((q : List ℕ) → w q ≡ (if bytes_eq k q then Some true else v q)) → ((q : List ℕ) → is_some (v q) ≡ list_any (λ (s : Tuple). bytes_eq q (key_of s.base s.attrs)) found)
    → (q : List ℕ) → is_some (w q) ≡ list_any (λ (s : Tuple). bytes_eq q (key_of s.base s.attrs)) longer
keys_more v w found longer t k key more adds keys q =
    let test : Tuple → Bool = λ s. bytes_eq q (key_of s.base s.attrs) in
    let own : List ℕ = key_of t.base t.attrs in
    ap is_some (adds q ∙ ap (λ (x : List ℕ). if bytes_eq x q then Some true else v q) key)
    ∙ (split (bytes_eq own q) (v q)
    ∙ (ap (λ (b : Bool). b || (bytes_eq own q || false)) (keys q)
    ∙ (ap (λ (b : Bool). list_any test found || (b || false)) (nat_list_eq_equiv.symm own q)
    ∙ sym (ap (list_any test) more ∙ list_any-append test found (t ∷ [])))))
