-- Two tuples have different keys, so what is given for one stays when another is added.
use Rattle.std.proofs.Common.{◌≡◌, ◌≢◌, ◌∙◌, ◌⊎◌, inl, inr, ⊎_elim, ℕ, suc, ◌+◌, ◌<◌, Bool, true, false, List, [], ◌∷◌, ◌++◌, map, length, drop, Option, Some, None, refl, sym, ap, subst, arith}
use Rattle.std.specs.Prelude.{slice_get, slice_index, unwrap_or, if◌then◌else◌}
use Rattle.std.specs.Cmp.Lexicographic.{bytes_decides, nat_list_eq_equiv}
use Rattle.std.specs.Str.{bytes_eq}
use Rattle.std.proofs.lemmas.Option.{same_Some}
use Rattle.aso_num.specs.declared.value.Val.{Val}
use Rattle.aso_num.specs.declared.value.Val.TheVariants.{Missing}
use Rattle.aso_outline.specs.declared.draft.Tuple.{Tuple}
use Rattle.aso_calc.specs.Keys.{attr_code, key_of}

abbrev first_of : List ℕ → ℕ
first_of [] = 0
first_of (x ∷ xs) = x

code_same : (x y : Option ℕ) → attr_code x ≡ attr_code y → x ≡ y
code_same None None e = refl
code_same None (Some b) e = absurd (omega (arith, e))
code_same (Some a) None e = absurd (omega (arith, e))
code_same (Some a) (Some b) e = ap Some (omega (arith, e))

codes_same : (a b : List (Option ℕ)) → map attr_code a ≡ map attr_code b → a ≡ b
codes_same [] [] e = refl
codes_same [] (y ∷ b) e = absurd (omega (arith, ap length e))
codes_same (x ∷ a) [] e = absurd (omega (arith, ap length e))
codes_same (x ∷ a) (y ∷ b) e = ap (λ (z : Option ℕ). z ∷ a) (code_same x y (ap first_of e)) ∙ ap (λ (zs : List (Option ℕ)). y ∷ zs) (codes_same a b (ap (drop 1) e))

split : (xs ys cs ds : List ℕ) → length xs ≡ length ys → xs ++ cs ≡ ys ++ ds → (xs ≡ ys) × (cs ≡ ds)
split [] [] cs ds long e = (refl, e)
split [] (y ∷ ys) cs ds long e = absurd (omega (arith, long))
split (x ∷ xs) [] cs ds long e = absurd (omega (arith, long))
split (x ∷ xs) (y ∷ ys) cs ds long e =
    let h = split xs ys cs ds (omega (arith, long)) (ap (drop 1) e) in
    (ap (λ (z : ℕ). z ∷ xs) (ap first_of e) ∙ ap (λ (zs : List ℕ). y ∷ zs) h.0, h.1)

pub same_key : (s t : Tuple) → key_of s.base s.attrs ≡ key_of t.base t.attrs → s ≡ t
same_key s t e =
    let h = split s.base t.base (map attr_code s.attrs) (map attr_code t.attrs) (ap first_of e) (ap (drop 1) e) in
    ap (λ (b : List ℕ). record { base = b; attrs = s.attrs }) h.0 ∙ ap (λ (a : List (Option ℕ)). record { base = t.base; attrs = a }) (codes_same s.attrs t.attrs h.1)

below_or_at : (k i : ℕ) → k < i + 1 → (k < i) ⊎ (k ≡ i)
below_or_at k i low = grind (arith, low)

module _ (ts : List Tuple) (vs : List Val) (once : (i j : ℕ) (t : Tuple) → i < j → slice_get ts i ≡ Some t → slice_get ts j ≢ Some t) where
  abbrev pub AreGiven : (List ℕ → Option Val) → ℕ → Type 0
  AreGiven f n = (k : ℕ) (t : Tuple) (v : Val) → k < n → slice_get ts k ≡ Some t → slice_get vs k ≡ Some v → unwrap_or (f (key_of t.base t.attrs)) Missing ≡ v

  module _ (f g : List ℕ → Option Val) (n : ℕ) (t : Tuple) (v : Val) (there : slice_get ts n ≡ Some t) (value : slice_get vs n ≡ Some v) (adds : (q : List ℕ) → g q ≡ (if bytes_eq (key_of t.base t.attrs) q then Some v else f q)) where
    apart : (k : ℕ) (s : Tuple) → k < n → slice_get ts k ≡ Some s → (b : Bool) → bytes_eq (key_of t.base t.attrs) (key_of s.base s.attrs) ≡ b → b ≡ false
    apart k s low is false e = refl
    apart k s low is true e = absurd (once k n s low is (there ∙ ap Some (same_key t s ((bytes_decides (key_of t.base t.attrs) (key_of s.base s.attrs)).0 e))))

    before : AreGiven f n → (k : ℕ) (s : Tuple) (w : Val) → k < n → slice_get ts k ≡ Some s → slice_get vs k ≡ Some w → unwrap_or (g (key_of s.base s.attrs)) Missing ≡ w
    before given k s w low is at =
        let b : Bool = bytes_eq (key_of t.base t.attrs) (key_of s.base s.attrs) in
        ap (λ (o : Option Val). unwrap_or o Missing) (adds (key_of s.base s.attrs) ∙ ap (λ (c : Bool). if c then Some v else f (key_of s.base s.attrs)) (apart k s low is b refl)) ∙ given k s w low is at

    here : (s : Tuple) (w : Val) → slice_get ts n ≡ Some s → slice_get vs n ≡ Some w → unwrap_or (g (key_of s.base s.attrs)) Missing ≡ w
    here s w is at =
        subst (λ (x : Tuple). unwrap_or (g (key_of x.base x.attrs)) Missing ≡ w) (same_Some t s (sym there ∙ is))
        (ap (λ (o : Option Val). unwrap_or o Missing) (adds (key_of t.base t.attrs) ∙ ap (λ (c : Bool). if c then Some v else f (key_of t.base t.attrs)) (nat_list_eq_equiv.refl (key_of t.base t.attrs))) ∙ same_Some v w (sym value ∙ at))

    pub given_more : AreGiven f n → AreGiven g (n + 1)
    given_more given k s w low is at =
        ⊎_elim (λ (l : k < n). before given k s w l is at)
        (λ (e : k ≡ n). here s w (ap (slice_get ts) (sym e) ∙ is) (ap (slice_get vs) (sym e) ∙ at)) (below_or_at k n low)
