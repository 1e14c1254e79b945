-- Pieces that are put one behind the other.
use Rattle.std.proofs.Common.{◌⊎◌, ⊎_elim, ◌∙◌, ℕ, ◌+◌, ◌≤◌, List, [], ◌++◌, length, take, append_assoc, Option, Some, None, sym, refl, ap, subst, arith}
use Rattle.std.specs.Prelude.{Result, Ok, Err}
use Rattle.std.proofs.Math.Seq.{take-append_seam, take-append-add}
use Rattle.std.proofs.lemmas.List.{append-nil, take-append-le, take_all}
use Rattle.aso_disk.specs.Texts.{Appends, AppendsFront, Puts}
use Rattle.aso_disk.specs.declared.trouble.Trouble.{Trouble}

pub appends_then : (a b c : Option (List ℕ)) (x y : List ℕ) → Appends a b x → Appends b c y → Appends a c (x ++ y)
appends_then None b c x y one two = subst (λ (o : Option (List ℕ)). Appends o c y) one two
appends_then (Some old) b c x y one two =
    let both : Appends (Some (old ++ x)) c y = subst (λ (o : Option (List ℕ)). Appends o c y) one two in
    both ∙ ap (λ (l : List ℕ). Some l) (append_assoc old x y)

-- a front of a piece is one of a longer piece
pub front_longer : (a b : Option (List ℕ)) (x y : List ℕ) → AppendsFront a b x → AppendsFront a b (x ++ y)
front_longer a b x y front =
    ⊎_elim
    (λ (low : front.0 ≤ length x). (front.0, subst (λ (l : List ℕ). Appends a b l) (sym (take-append-le front.0 x y low)) front.1))
    (λ (high : length x ≤ front.0). (length x, subst (λ (l : List ℕ). Appends a b l) (take_all front.0 x high ∙ sym (take-append_seam x y)) front.1))
    (either front.0 (length x))
  where
    either : (n m : ℕ) → (n ≤ m) ⊎ (m ≤ n)
    either n m = search arith

pub front_then : (a b c : Option (List ℕ)) (x y : List ℕ) → Appends a b x → AppendsFront b c y → AppendsFront a c (x ++ y)
front_then a b c x y one front = (length x + front.0, subst (λ (l : List ℕ). Appends a c l) (sym (take-append-add x y front.0)) (appends_then a b c x (take front.0 y) one front.1))

pub front_all : (a b : Option (List ℕ)) (x : List ℕ) → Appends a b x → AppendsFront a b x
front_all a b x all = (length x, subst (λ (l : List ℕ). Appends a b l) (sym (take_all (length x) x (omega arith))) all)

pub puts_then : (a b c : Option (List ℕ)) (x y : List ℕ) (r : Result (Unit {0}) Trouble) → Appends a b x → Puts b c y r → Puts a c (x ++ y) r
puts_then a b c x y (Ok done) one two = appends_then a b c x y one two
puts_then a b c x y (Err e) one two = front_then a b c x y one two

pub appends_nothing : (a : Option (List ℕ)) → Appends a a []
appends_nothing None = refl
appends_nothing (Some old) = ap (λ (l : List ℕ). Some l) (sym (append-nil old))
