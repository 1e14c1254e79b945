-- What a change under a list of numbers leaves under another.
use Rattle.std.proofs.Common.{◌≡◌, ◌∙◌, ℕ, Bool, true, false, List, Option, refl, sym, subst}
use Rattle.std.specs.Cmp.Lexicographic.{bytes_decides, nat_list_eq_equiv}
use Rattle.std.specs.Str.{bytes_eq}
use Rattle.std.specs.HashMap.{HashMap, UpdatesBy, get_by}
use Rattle.std.specs.Map.{IsKeyTest, AreApart, KeepsOthers, lookup}
use Rattle.std.specs.Prelude.{if◌then◌else◌}

module _ {K X : Type 0} (eq : K → K → Bool) (test : K → Bool) where
  other_entries : (old new : List (K × X)) → KeepsOthers eq test old new → (other : K → Bool) → IsKeyTest eq other → AreApart test other → lookup other new ≡ lookup other old
  unfolding KeepsOthers
  other_entries old new h = h

by_key : {W : Type 0} (f g : List ℕ → W) (bs : List ℕ) (w : W) → g bs ≡ w → ((cs : List ℕ) → bytes_eq bs cs ≡ false → g cs ≡ f cs) → (cs : List ℕ) → g cs ≡ (if bytes_eq bs cs then w else f cs)
by_key f g bs w here other cs = by_test (bytes_eq bs cs) refl
  where
    by_test : (b : Bool) → bytes_eq bs cs ≡ b → g cs ≡ (if b then w else f cs)
    by_test true is = subst (λ l. g l ≡ w) ((bytes_decides bs cs).0 is) here
    by_test false is = other cs is

apart : (bs cs ks : List ℕ) → bytes_eq bs cs ≡ false → bytes_eq bs ks ≡ true → bytes_eq cs ks ≡ false
apart bs cs ks n y = nat_list_eq_equiv.symm cs ks ∙ (sym (nat_list_eq_equiv.congr bs ks cs y) ∙ n)

module _ {K X S : Type 0} (numbers : K → List ℕ) (bs : List ℕ) where
  pub updates : (m n : HashMap K X S) (w : Option X) → UpdatesBy (λ x y. bytes_eq (numbers x) (numbers y)) (λ k. bytes_eq bs (numbers k)) m n w
      → (cs : List ℕ) → get_by (λ k. bytes_eq cs (numbers k)) n ≡ (if bytes_eq bs cs then w else get_by (λ k. bytes_eq cs (numbers k)) m)
  updates m n w h =
      by_key (λ cs. get_by (λ k. bytes_eq cs (numbers k)) m) (λ cs. get_by (λ k. bytes_eq cs (numbers k)) n) bs w h.1
      (λ cs e. other_entries _ _ _ _ h.3 _ (λ x y. nat_list_eq_equiv.congr cs (numbers x) (numbers y)) (λ k. apart bs cs (numbers k) e))
