-- Quoted texts, and own members in their order.
use Rattle.std.proofs.Common.{◌≡◌, ◌≢◌, ◌<◌, ℕ, zero, suc, Bool, true, false, List, [], ◌∷◌, ◌++◌, length, get_or, refl, sym, ◌∙◌, ap, arith, Ok, Err, append_assoc, append-nil, codes}
use Rattle.std.specs.Prelude.{◌==◌}
use Rattle.std.proofs.lemmas.Bool.{ne_eqb, eqb-true}
use Rattle.aso_token.specs.declared.token.Token.{Token}
use Rattle.aso_token.specs.Lang.{put_before}
use Rattle.aso_token.specs.Reads.{Read, ◌>>=◌, made, paired, second, begins, read_upto, passes}
use Rattle.aso_token.specs.Words.{key}
use Rattle.aso_token.proofs.Laws.{if_true, if_false, good}
use Rattle.aso_mdx.specs.declared.query.Own.{Own}
use Rattle.aso_mdx.specs.Grammar.{single_quotes, in_front}
use Rattle.aso_mdx.specs.Reading.{read_own, read_own_list, put_behind}

-- ---- quotes

pub no_quote : (xs zs : List ℕ) → ((i : ℕ) → i < length xs → get_or xs i 0 ≢ 39) → single_quotes false (xs ++ zs) ≡ xs ++ single_quotes false zs
no_quote [] zs h = refl
no_quote (b ∷ xs) zs h =
    let here : b ≢ 39 = h 0 (omega arith) in
    ap (λ (q : Bool). b ∷ single_quotes q (xs ++ zs)) (ne_eqb b 39 here)
    ∙ ap (λ (z : List ℕ). b ∷ z) (no_quote xs zs (λ i lt. h (suc i) (omega (arith, lt))))

pub to_quote : (text before after : List ℕ) → text ≡ before ++ 39 ∷ after → ((i : ℕ) → i < length before → get_or before i 0 ≢ 39) → single_quotes false text ≡ before ++ 39 ∷ single_quotes true after
to_quote text before after e h = ap (single_quotes false) e ∙ no_quote before (39 ∷ after) h

pub to_end : (text : List ℕ) → ((i : ℕ) → i < length text → get_or text i 0 ≢ 39) → single_quotes false text ≡ text
to_end text h = ap (single_quotes false) (sym (append-nil text)) ∙ no_quote text [] h ∙ append-nil text

-- what is read so far, with a piece and a quote behind it
pub regroup : (out before rest : List ℕ) → out ++ (before ++ 39 ∷ rest) ≡ ((out ++ before) ++ 39 ∷ []) ++ rest
regroup out before rest = sym (append_assoc (out ++ before) (39 ∷ []) rest ∙ append_assoc out before (39 ∷ rest))

pub past_none : (text : List ℕ) → ((rest : List ℕ) → text ≢ 39 ∷ rest) → single_quotes false text ≡ single_quotes true text
past_none [] h = refl
past_none (b ∷ bs) h = by_quote (b == 39) refl
  where
    by_quote : (q : Bool) → (b == 39) ≡ q → single_quotes false (b ∷ bs) ≡ single_quotes true (b ∷ bs)
    by_quote true is = absurd (h bs (ap (λ (z : ℕ). z ∷ bs) (eqb-true b 39 is)))
    by_quote false is = sym (if_false (b == 39) (single_quotes false bs) (b ∷ single_quotes (b == 39) bs) is)

-- ---- own members

own_regroup : (a : Own) (z : Read (List Own)) → ((z >>= paired a) >>= made in_front) ≡ (z >>= put_behind (a ∷ []))
own_regroup a (Ok y) = refl
own_regroup a (Err w) = refl

abbrev further : ℕ → List Token → Read (List Own)
further n = read_upto (passes (key (codes "member"))) read_own n

pub owns_start : (ts : List Token) (x : Own × List Token) → read_own ts ≡ Ok x → read_own_list ts ≡ (read_upto (passes (key (codes "member"))) read_own 15 x.1 >>= put_behind (x.0 ∷ []))
owns_start ts x is = ap (λ (z : Read Own). (z >>= second (further 15)) >>= made in_front) is ∙ own_regroup x.0 (further 15 x.1)

pub owns_fail : (ts rest : List Token) → read_own ts ≡ Err rest → read_own_list ts ≡ Err rest
owns_fail ts rest is = ap (λ (z : Read Own). (z >>= second (further 15)) >>= made in_front) is

-- no more may come
pub owns_full : (n : ℕ) (all : List Own) (ts : List Token) → n ≡ 0 → (read_upto (passes (key (codes "member"))) read_own n ts >>= put_behind all) ≡ Ok (all, ts)
owns_full zero all ts e = ap (λ (z : List Own). good (z, ts)) (append-nil all)
owns_full (suc n) all ts e = absurd (omega (arith, e))

pub owns_end : (n : ℕ) (all : List Own) (ts : List Token) → begins (passes (key (codes "member"))) ts ≡ false → (read_upto (passes (key (codes "member"))) read_own n ts >>= put_behind all) ≡ Ok (all, ts)
owns_end zero all ts none = ap (λ (z : List Own). good (z, ts)) (append-nil all)
owns_end (suc n) all ts none =
    ap (λ (z : Read (List Own)). z >>= put_behind all) (if_false (begins (passes (key (codes "member"))) ts) _ _ none)
    ∙ ap (λ (z : List Own). good (z, ts)) (append-nil all)

behind_same : (all : List Own) (a : Own) (z : Read (List Own)) → (((z >>= paired a) >>= made put_before) >>= put_behind all) ≡ (z >>= put_behind (all ++ a ∷ []))
behind_same all a (Ok y) = ap (λ (z : List Own). good (z, y.1)) (sym (append_assoc all (a ∷ []) y.0))
behind_same all a (Err w) = refl

pub owns_more : (n m : ℕ) (all : List Own) (ts : List Token) (x : Own × List Token) → n ≡ suc m → begins (passes (key (codes "member"))) ts ≡ true → read_own ts ≡ Ok x → (read_upto (passes (key (codes "member"))) read_own n ts >>= put_behind all) ≡ (read_upto (passes (key (codes "member"))) read_own m x.1 >>= put_behind (all ++ x.0 ∷ []))
owns_more n m all ts x e some is =
    ap (λ (k : ℕ). further k ts >>= put_behind all) e
    ∙ ap (λ (z : Read (List Own)). z >>= put_behind all) (if_true (begins (passes (key (codes "member"))) ts) _ _ some)
    ∙ ap (λ (z : Read Own). ((z >>= second (further m)) >>= made put_before) >>= put_behind all) is
    ∙ behind_same all x.0 (further m x.1)

pub owns_stop : (n : ℕ) (all : List Own) (ts rest : List Token) → n ≢ 0 → begins (passes (key (codes "member"))) ts ≡ true → read_own ts ≡ Err rest → (read_upto (passes (key (codes "member"))) read_own n ts >>= put_behind all) ≡ Err rest
owns_stop zero all ts rest left some is = absurd (left refl)
owns_stop (suc n) all ts rest left some is =
    ap (λ (z : Read (List Own)). z >>= put_behind all) (if_true (begins (passes (key (codes "member"))) ts) _ _ some)
    ∙ ap (λ (z : Read Own). ((z >>= second (further n)) >>= made put_before) >>= put_behind all) is
