-- The sum over the cells that a test of keys selects, before and after an amount is added.
use Rattle.std.proofs.Common.{◌≡◌, ℕ, Bool, true, false, cond, List, [], ◌∷◌, map, refl, sym, ap, ◌∙◌, subst, arith}
use Rattle.std.specs.Prelude.{ℤ, ◌+ℤ◌}
use Rattle.std.specs.List.{fold, filter}
use Rattle.std.specs.Ordering.{nat_cmp, match_ordering}
use Rattle.std.specs.Cmp.Lexicographic.{slice_cmp}
use Rattle.std.specs.FinMap.{slice_cmp-IsAntisymmetric, nat_cmp-IsAntisymmetric}
use Rattle.std.specs.declared.cmp.Ordering.{Ordering}
use Rattle.std.specs.declared.cmp.Ordering.TheVariants.{Less, Equal, Greater}
use Rattle.std.proofs.lemmas.Int.{ints}
use Rattle.aso_num.specs.declared.value.Val.{Val}
use Rattle.aso_num.specs.declared.value.Val.TheVariants.{Missing, Num}
use Rattle.aso_num.specs.Numbers.{sum_of}
use Rattle.aso_spec.specs.Cells.{Key, Cells, key_order, add_at, summed, total}

int_assoc : (x y z : ℤ) → (x +ℤ y) +ℤ z ≡ x +ℤ (y +ℤ z)
int_assoc x y z = omega (arith, ints)

int_comm : (x y : ℤ) → x +ℤ y ≡ y +ℤ x
int_comm x y = omega (arith, ints)

sum_assoc : (a b c : Val) → sum_of (sum_of a b) c ≡ sum_of a (sum_of b c)
sum_assoc Missing b c = refl
sum_assoc (Num x) Missing c = refl
sum_assoc (Num x) (Num y) Missing = refl
sum_assoc (Num x) (Num y) (Num z) = ap Num (int_assoc x y z)

sum_missing : (a : Val) → sum_of a Missing ≡ a
sum_missing Missing = refl
sum_missing (Num x) = refl

sum_comm : (a b : Val) → sum_of a b ≡ sum_of b a
sum_comm Missing b = sym (sum_missing b)
sum_comm (Num x) Missing = refl
sum_comm (Num x) (Num y) = ap Num (int_comm x y)

fold_from : (a : Val) (xs : List Val) → fold sum_of a xs ≡ sum_of a (fold sum_of Missing xs)
fold_from a [] = sym (sum_missing a)
fold_from a (x ∷ xs) = fold_from (sum_of a x) xs ∙ sum_assoc a x (fold sum_of Missing xs) ∙ ap (sum_of a) (sym (fold_from x xs))

abbrev part : Bool → ℤ → Val
part b z = cond b (Num z) Missing

total_at : (c : Key × ℤ) (rest : Cells) (b : Bool) → fold sum_of Missing (map (λ (x : Key × ℤ). Num x.1) (cond b (c ∷ rest) rest)) ≡ sum_of (part b c.1) (fold sum_of Missing (map (λ (x : Key × ℤ). Num x.1) rest))
total_at c rest true = fold_from (Num c.1) (map (λ (x : Key × ℤ). Num x.1) rest)
total_at c rest false = refl

total_cons : (test : Key → Bool) (c : Key × ℤ) (cells : Cells) → total test (c ∷ cells) ≡ sum_of (part (test c.0) c.1) (total test cells)
total_cons test c cells = total_at c (filter (λ x. test x.0) cells) (test c.0)

swapped : (a b t : Val) → sum_of a (sum_of b t) ≡ sum_of b (sum_of a t)
swapped a b t = sym (sum_assoc a b t) ∙ ap (λ (x : Val). sum_of x t) (sum_comm a b) ∙ sum_assoc b a t

part_add : (b : Bool) (x y : ℤ) (t : Val) → sum_of (part b (x +ℤ y)) t ≡ sum_of (part b y) (sum_of (part b x) t)
part_add true x y t = ap (λ (z : ℤ). sum_of (Num z) t) (int_comm x y) ∙ sum_assoc (Num y) (Num x) t
part_add false x y t = refl

-- an amount that is added at a key joins the sum where the key is selected
pub total_add_at : (test : Key → Bool) (key : Key) (z : ℤ) (cells : Cells) → total test (add_at key z cells) ≡ sum_of (part (test key) z) (total test cells)
total_add_at test key z [] = total_cons test (key, z) []
total_add_at test key z (c ∷ cs) = by_order (key_order key c.0) refl (total_add_at test key z cs)
  where
    by_order : (o : Ordering) → key_order key c.0 ≡ o → total test (add_at key z cs) ≡ sum_of (part (test key) z) (total test cs) → total test (match_ordering o ((key, z) ∷ c ∷ cs) ((c.0, c.1 +ℤ z) ∷ cs) (c ∷ add_at key z cs)) ≡ sum_of (part (test key) z) (total test (c ∷ cs))
    by_order Less e more = total_cons test (key, z) (c ∷ cs)
    by_order Equal e more =
        let same : key ≡ c.0 = slice_cmp-IsAntisymmetric nat_cmp-IsAntisymmetric key c.0 e in
        total_cons test (c.0, c.1 +ℤ z) cs ∙ part_add (test c.0) c.1 z (total test cs) ∙ ap (sum_of (part (test c.0) z)) (sym (total_cons test c cs)) ∙ ap (λ (k : Key). sum_of (part (test k) z) (total test (c ∷ cs))) (sym same)
    by_order Greater e more = total_cons test c (add_at key z cs) ∙ ap (sum_of (part (test c.0) c.1)) more ∙ swapped (part (test c.0) c.1) (part (test key) z) (total test cs) ∙ ap (sum_of (part (test key) z)) (sym (total_cons test c cs))

summed_onto : (test : Key → Bool) (cells : Cells) (records : List (Key × ℤ)) → total test (fold (λ m c. add_at c.0 c.1 m) cells records) ≡ sum_of (total test cells) (total test records)
summed_onto test cells [] = sym (sum_missing (total test cells))
summed_onto test cells (r ∷ rs) =
    summed_onto test (add_at r.0 r.1 cells) rs
    ∙ ap (λ (x : Val). sum_of x (total test rs)) (total_add_at test r.0 r.1 cells ∙ sum_comm (part (test r.0) r.1) (total test cells))
    ∙ sum_assoc (total test cells) (part (test r.0) r.1) (total test rs)
    ∙ ap (sum_of (total test cells)) (sym (total_cons test r rs))

-- to sum over the cells of some records is to sum over the records
pub total_summed : (test : Key → Bool) (records : List (Key × ℤ)) → total test (summed records) ≡ total test records
unfolding summed
total_summed test records = summed_onto test [] records
