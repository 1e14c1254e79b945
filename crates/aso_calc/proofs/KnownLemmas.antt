-- What a table of values knows, one value more; and the first value out of range.
use Rattle.std.proofs.Common.{◌≡◌, ◌∙◌, ℕ, ◌+◌, ◌<◌, Bool, true, false, true≢false, List, [], ◌∷◌, ◌++◌, drop, map, take, length, get_or, Option, Some, None, refl, sym, ap, subst}
use Rattle.std.specs.Prelude.{if◌then◌else◌, Result, Ok, Err, OnOk}
use Rattle.std.specs.List.{find as first}
use Rattle.std.specs.Option.{option_or}
use Rattle.std.specs.Cmp.Lexicographic.{bytes_decides}
use Rattle.std.specs.Str.{bytes_eq}
use Rattle.std.proofs.lemmas.List.{take_more, map-append, take-append-drop}
use Rattle.std.proofs.lemmas.List.Folds.{find-append}
use Rattle.std.proofs.lemmas.Option.{none-some, same_Some}
use Rattle.aso_num.specs.declared.value.Val.{Val}
use Rattle.aso_outline.specs.declared.draft.Draft.{Draft}
use Rattle.aso_outline.specs.declared.draft.Tuple.{Tuple}
use Rattle.aso_calc.specs.Keys.{key_of}
use Rattle.aso_calc.specs.declared.fault.CalcFault.{CalcFault}
use Rattle.aso_calc.specs.declared.fault.CalcFault.TheVariants.{Range, NoMemory}
use Rattle.aso_calc.specs.Known.{IsFault, IsFirstFault, IsRangeOf, is_out}
use Rattle.aso_calc.specs.Needs.{with_attrs}
use Rattle.aso_calc.specs.Values.{Outcome, Own, value_step, value_within}
use Rattle.aso_calc.proofs.StoredLemmas.{same_key}

abbrev first_of : List ℕ → ℕ
first_of [] = 0
first_of (x ∷ xs) = x

module _ (o : Draft) (own : Own) (stored : List (Option ℕ) → List ℕ → Val) where
  abbrev IsKnown : ℕ → Tuple → Outcome → Type 0
  IsKnown ranks t r = r ≡ value_step o own (stored t.attrs) (value_within ranks o own (stored t.attrs)) t.base

  abbrev Are : (List ℕ → Option Outcome) → Type 0
  Are v = (ranks : ℕ) (base : List ℕ) (attrs : List (Option ℕ)) (r : Outcome) → v (ranks ∷ key_of base attrs) ≡ Some r → IsKnown ranks (with_attrs attrs base) r

  pub known_more : (v w : List ℕ → Option Outcome) (ranks : ℕ) (base : List ℕ) (attrs : List (Option ℕ)) (r : Outcome) → Are v → IsKnown ranks (with_attrs attrs base) r
      → ((q : List ℕ) → w q ≡ (if bytes_eq (ranks ∷ key_of base attrs) q then Some r else v q)) → Are w
  known_more v w ranks base attrs r known is adds n b a x at = by_test (bytes_eq (ranks ∷ key_of base attrs) (n ∷ key_of b a)) refl
    where
      by_test : (c : Bool) → bytes_eq (ranks ∷ key_of base attrs) (n ∷ key_of b a) ≡ c → IsKnown n (with_attrs a b) x
      by_test true e =
          let k : ranks ∷ key_of base attrs ≡ n ∷ key_of b a = (bytes_decides (ranks ∷ key_of base attrs) (n ∷ key_of b a)).0 e in
          let same : r ≡ x = same_Some r x (sym (adds (n ∷ key_of b a) ∙ ap (λ (c : Bool). if c then Some r else v (n ∷ key_of b a)) e) ∙ at) in
          subst (λ (y : Outcome). IsKnown n (with_attrs a b) y) same
          (subst (λ (t : Tuple). IsKnown n t r) (same_key (with_attrs attrs base) (with_attrs a b) (ap (drop 1) k))
          (subst (λ (m : ℕ). IsKnown m (with_attrs attrs base) r) (ap first_of k) is))
      by_test false e = known n b a x (sym (adds (n ∷ key_of b a) ∙ ap (λ (c : Bool). if c then Some r else v (n ∷ key_of b a)) e) ∙ at)

-- ---- the values of some tuples

module _ (f : Tuple → Outcome) where
  abbrev pub Are_values : List Val → List Tuple → Type 0
  Are_values vs ts = map (λ x. Ok x) vs ≡ map f ts

  none_out : (vs : List Val) (ts : List Tuple) → Are_values vs ts → first (λ t. is_out (f t)) ts ≡ None
  none_out [] [] is = refl
  none_out [] (t ∷ ts) is = absurd (let n : ⊥ = cc in n)
  none_out (v ∷ vs) [] is = absurd (let n : ⊥ = cc in n)
  none_out (v ∷ vs) (t ∷ ts) is = by_test (none_out vs ts (ap (drop 1) is)) (is_out (f t)) (ap is_out (sym (front is)))
    where
      head : List Outcome → Outcome
      head [] = Ok v
      head (x ∷ xs) = x

      front : Are_values (v ∷ vs) (t ∷ ts) → Ok v ≡ f t
      front e = ap head e

      by_test : first (λ t. is_out (f t)) ts ≡ None → (b : Bool) → b ≡ false → (if b then Some t else first (λ t. is_out (f t)) ts) ≡ None
      by_test rest true e = absurd (true≢false e)
      by_test rest false e = rest

  pub value_more : (vs : List Val) (ts : List Tuple) (i : ℕ) (t : Tuple) (v : Val) → i < length ts → get_or ts i t ≡ t → Are_values vs (take i ts) → f t ≡ Ok v → Are_values (vs ++ v ∷ []) (take (i + 1) ts)
  value_more vs ts i t v low at so_far is =
      map-append (λ (x : Val). Ok x) vs (v ∷ [])
      ∙ (ap (λ (xs : List Outcome). xs ++ Ok v ∷ []) so_far
      ∙ (ap (λ (r : Outcome). map f (take i ts) ++ r ∷ []) (sym is)
      ∙ (sym (map-append f (take i ts) (t ∷ [])) ∙ ap (map f) (sym (take_more ts i t low ∙ ap (λ (x : Tuple). take i ts ++ x ∷ []) at)))))

  split_at : (ts : List Tuple) (i : ℕ) (t : Tuple) → i < length ts → get_or ts i t ≡ t → ts ≡ take (i + 1) ts ++ drop (i + 1) ts
  split_at ts i t low at = sym (take-append-drop (i + 1) ts)

  pub first_out : (vs : List Val) (ts : List Tuple) (i : ℕ) (t : Tuple) → i < length ts → get_or ts i t ≡ t → Are_values vs (take i ts) → is_out (f t) ≡ true → first (λ t. is_out (f t)) ts ≡ Some t
  first_out vs ts i t low at so_far out =
      let p : Tuple → Bool = λ t. is_out (f t) in
      let upto : first p (take (i + 1) ts) ≡ Some t =
      ap (first p) (take_more ts i t low ∙ ap (λ (x : Tuple). take i ts ++ x ∷ []) at)
      ∙ (find-append p (take i ts) (t ∷ []) ∙ (ap (λ (r : Option Tuple). option_or r (first p (t ∷ []))) (none_out vs (take i ts) so_far) ∙ ap (λ (b : Bool). if b then Some t else None) out)) in
      ap (first p) (split_at ts i t low at) ∙ (find-append p (take (i + 1) ts) (drop (i + 1) ts) ∙ ap (λ (r : Option Tuple). option_or r (first p (drop (i + 1) ts))) upto)

  is_fault : (r : Outcome) → IsRangeOf r → is_out r ≡ true
  is_fault (Ok v) is = absurd is
  is_fault (Err e) is = refl

  -- a fault behind values is the first
  pub first_fault : (vs : List Val) (ts : List Tuple) (i : ℕ) (t : Tuple) (fault : CalcFault) → i < length ts → get_or ts i t ≡ t → Are_values vs (take i ts) → IsFault t (f t) fault → IsFirstFault f ts fault
  first_fault vs ts i t (Range tuple) low at so_far is = first_out vs ts i t low at so_far (is_fault (f t) is.1) ∙ ap Some (sym is.0)
  first_fault vs ts i t (NoMemory e) low at so_far is = tt
