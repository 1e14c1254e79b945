-- A list of names as it grows.
use Rattle.std.proofs.Common.{◌≡◌, ℕ, zero, suc, List, [], ◌∷◌, ◌++◌, Option, Some, None, refl, ap, sym, append_assoc, append-nil, codes}
use Rattle.aso_outline.specs.Members.{Name}
use Rattle.aso_script.specs.declared.stop.Stop.{Stop}
use Rattle.aso_script.specs.declared.stop.Stop.TheVariants.{NoMemory, Faulty}
use Rattle.aso_script.specs.Read.{Fails}
use Rattle.aso_script.specs.Reading.{Read, ◌>>=◌, after, read_name, put_before, read_further}

-- further names behind those that were read
abbrev pub grown : List Name → List Name × List ℕ → Read (List Name)
grown names x = Some (names ++ x.0, x.1)

pub no_more : (n : ℕ) (names : List Name) (rest : List ℕ) → after (codes ",") rest ≡ None → (read_further n rest >>= grown names) ≡ Some (names, rest)
unfolding read_further
no_more zero names rest e = ap (λ (y : List Name). Some (y, rest)) (append-nil names)
no_more (suc n) names rest e = rw e (ap (λ (y : List Name). Some (y, rest)) (append-nil names))

pub all_read : (names : List Name) (rest : List ℕ) → (read_further 0 rest >>= grown names) ≡ Some (names, rest)
unfolding read_further
all_read names rest = ap (λ (y : List Name). Some (y, rest)) (append-nil names)

put_first : (names : List Name) (m : Name) (o : Read (List Name)) → ((o >>= put_before m) >>= grown names) ≡ (o >>= grown (names ++ m ∷ []))
put_first names m None = refl
put_first names m (Some x) = ap (λ (y : List Name). Some (y, x.1)) (sym (append_assoc names (m ∷ []) x.0))

pub one_more : (n : ℕ) (names : List Name) (rest further next : List ℕ) (m : Name) → after (codes ",") rest ≡ Some further → read_name further ≡ Some (m, next) → (read_further (suc n) rest >>= grown names) ≡ (read_further n next >>= grown (names ++ m ∷ []))
unfolding read_further
one_more n names rest further next m comma e = rw (comma, e) (put_first names m (read_further n next))

pub none_more : (n : ℕ) (names : List Name) (rest further : List ℕ) → after (codes ",") rest ≡ Some further → read_name further ≡ None → (read_further (suc n) rest >>= grown names) ≡ None
unfolding read_further
none_more n names rest further comma e = rw (comma, e) refl

pub fails_on : {A B : Type 0} (e : Stop) (a : Option A) (b : Option B) → (a ≡ None → b ≡ None) → Fails e a → Fails e b
fails_on NoMemory a b f h = tt
fails_on Faulty a b f h = f h
