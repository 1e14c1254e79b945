-- What is kept of tuples covers what the tuples cover.
use Rattle.std.specs.Prelude.{slice_get, slice_index, unwrap_or, if◌then◌else◌}
use Rattle.std.specs.Option.{option_map, option_and_then}
use Rattle.std.specs.List.{All, list_all, list_any, find as first}
use Rattle.std.proofs.Common.{◌≡◌, ◌∙◌, ℕ, zero, suc, ◌+◌, ◌<◌, ◌≤◌, ◌==◌, ◌&&◌, ◌||◌, Bool, true, false, List, [], ◌∷◌, ◌++◌, length, map, take, get_or, Option, Some, None, refl, sym, ap, arith, subst}
use Rattle.std.proofs.lemmas.List.{length-map, map-append, take_more}
use Rattle.std.proofs.lemmas.List.Elements.{All-append}
use Rattle.std.proofs.lemmas.List.Folds.{list_any_at}
use Rattle.std.proofs.lemmas.Bool.{and_from, eq-eqb}
use Rattle.std.proofs.lemmas.Option.{slice_get-get_or}
use Rattle.aso_outline.specs.declared.draft.Draft.{Draft}
use Rattle.aso_outline.specs.Classes.{class_at, leaf_count}
use Rattle.aso_outline.specs.Members.{holds}
use Rattle.aso_outline.specs.Numbers.{seat_of}
use Rattle.aso_outline.proofs.Smalls.{and_left, and_right}
use Rattle.aso_region.specs.declared.chosen.Chosen.{Chosen}
use Rattle.aso_region.specs.declared.region.Cover.{Cover}
use Rattle.aso_region.specs.Answers.{IsRegion, named_in}
use Rattle.aso_region.specs.Covers.{AreLeaves, covers, member_holds, tuple_covers}
use Rattle.aso_region.specs.Kept.{AreChosen, IsChosen, Tables, class_in, goes_by, holds_leaf, in_range, is_found, is_needed, member_in, members_of, tables_for}
use Rattle.aso_region.proofs.TableLemmas.{class_there}

-- ---- one piece more

pub put_more : {X Y : Type 0} (g : X → Y) (ys : List Y) (i : ℕ) (y : Y) (old new : List X) (x : X) → i < length ys → y ≡ get_or ys i y → map g old ≡ take i ys → new ≡ old ++ x ∷ [] → g x ≡ y
    → map g new ≡ take (i + 1) ys
put_more g ys i y old new x low at so_far put is =
    ap (map g) put
    ∙ (map-append g old (x ∷ [])
    ∙ (ap (λ (zs : List _). zs ++ g x ∷ []) so_far
    ∙ (ap (λ (z : _). take i ys ++ z ∷ []) (is ∙ at)
    ∙ sym (take_more ys i y low))))

pub put_number : {X : Type 0} (g : X → ℕ) (ys : List ℕ) (i : ℕ) (old new : List X) (x : X) → i < length ys → map g old ≡ take i ys → new ≡ old ++ x ∷ [] → g x ≡ slice_index ys i → map g new ≡ take (i + 1) ys
put_number g ys i old new x low so_far put is =
    ap (map g) put
    ∙ (map-append g old (x ∷ [])
    ∙ (ap (λ (zs : List ℕ). zs ++ g x ∷ []) so_far
    ∙ (ap (λ (z : ℕ). take i ys ++ z ∷ []) is
    ∙ sym (take_more ys i 0 low))))

pub all_more : {X : Type 0} (P : X → Type 0) (old new : List X) (x : X) → All P old → new ≡ old ++ x ∷ [] → P x → All P new
all_more P old new x all put is = subst (All P) (sym put) (All-append P old (x ∷ []) all (λ k d low. one k d low))
  where
    one : (k : ℕ) (d : _) → k < 1 → P (get_or (x ∷ []) k d)
    one zero d low = is
    one (suc k) d low = absurd (omega (arith, low))

pub all_at : {X : Type 0} (p : X → Bool) (xs : List X) (i : ℕ) (x : X) → list_all p xs ≡ true → i < length xs → x ≡ get_or xs i x → p x ≡ true
all_at p [] i x all low at = absurd (omega (arith, low))
all_at p (y ∷ xs) zero x all low at = ap p at ∙ and_left (p y) _ all
all_at p (y ∷ xs) (suc i) x all low at = all_at p xs i x (and_right (p y) _ all) (omega (arith, low)) at

-- ---- the tables that are needed

-- by these tables the range finds exactly the leaves that the member holds
abbrev IsServed : Draft → Tables → Chosen → Type 0
IsServed o tables c = (leaf : ℕ) → leaf < leaf_count o c.dim → in_range tables c leaf ≡ holds o (seat_of o c.member) leaf

module _ (o : Draft) (rows : List (List Chosen)) where
  goes : (c : Chosen) (h : ℕ) → c.hier ≡ Some h → goes_by c.dim h c ≡ true
  goes c h is =
      ap (λ (x : Option ℕ). unwrap_or (option_map (λ (own : ℕ). c.dim == c.dim && own == h) x) false) is
      ∙ and_from (c.dim == c.dim) (h == h) (eq-eqb c.dim c.dim refl) (eq-eqb h h refl)

  module _ (c : Chosen) (is : IsChosen o c) (needed : (h : ℕ) → c.hier ≡ Some h → is_needed rows c.dim h ≡ true) where
    by_case : (x : Option ℕ) → c.hier ≡ x → (leaf : ℕ) → leaf < leaf_count o c.dim
        → unwrap_or (option_map (λ (h : ℕ). class_in (tables_for o rows) c.dim h leaf) x) (Some leaf) ≡ unwrap_or (option_map (λ (h : ℕ). class_at o c.dim h 1 leaf) x) (Some leaf)
    by_case None at leaf below = refl
    by_case (Some h) at leaf below = class_there o c.dim h leaf is.low (is.table h at).0 below rows (is.table h at).1 (needed h at)

    serves : IsServed o (tables_for o rows) c
    serves leaf below = ap (is_found c) (by_case c.hier refl leaf below) ∙ is.exact leaf below

  all_served : All (AreChosen o) rows → All (All (IsServed o (tables_for o rows))) rows
  all_served all i row low k c lower =
      let r : List Chosen = get_or rows i row in
      let x : Chosen = get_or r k c in
      serves x (all i row low k c lower) (λ h at. list_any_at (list_any (goes_by x.dim h)) rows i row low (list_any_at (goes_by x.dim h) r k c lower (goes x h at)))

-- ---- what is kept

module _ (o : Draft) where
  first_one : (P : Chosen → Type 0) (c : Chosen) (row : List Chosen) → All P (c ∷ row) → P c
  first_one P c row all = all 0 c (omega arith)

  others : {X : Type 0} (P : X → Type 0) (x : X) (xs : List X) → All P (x ∷ xs) → All P xs
  others P x xs all k d low = all (suc k) d (omega (arith, low))

  named_row : (d : ℕ) (row : List Chosen) → AreChosen o row → member_in row d ≡ named_in o (members_of row) d
  named_row d [] all = refl
  named_row d (c ∷ row) all =
      by_test (c.dim == d) (named_row d row (others (IsChosen o) c row all))
      ∙ ap (λ (x : ℕ). if x == d then Some c.member else named_in o (members_of row) d) (first_one (IsChosen o) c row all).dim
    where
      by_test : (b : Bool) → member_in row d ≡ named_in o (members_of row) d
          → option_map (λ (x : Chosen). x.member) (if b then Some c else first (λ (x : Chosen). x.dim == d) row) ≡ (if b then Some c.member else named_in o (members_of row) d)
      by_test true rest = refl
      by_test false rest = rest

  named_rows : (d : ℕ) (rows : List (List Chosen)) → All (AreChosen o) rows → (i : ℕ)
      → option_and_then (λ (row : List Chosen). member_in row d) (slice_get rows i) ≡ option_and_then (λ (members : List ℕ). named_in o members d) (slice_get (map members_of rows) i)
  named_rows d [] all i = refl
  named_rows d (row ∷ rows) all zero = named_row d row (all 0 row (omega arith))
  named_rows d (row ∷ rows) all (suc i) = named_rows d rows (others (AreChosen o) row rows all) i

  module _ (tables : Tables) (leaves : List ℕ) (are : AreLeaves o leaves) where
    holds_one : (c : Chosen) → IsChosen o c → IsServed o tables c → holds_leaf tables leaves c ≡ member_holds o leaves c.member
    holds_one c is served =
        let leaf : ℕ = slice_index leaves c.dim in
        let there : slice_get leaves c.dim ≡ Some leaf = slice_get-get_or leaves c.dim 0 (omega (arith, is.low, are.long)) in
        ap (λ (x : Option ℕ). unwrap_or (option_map (in_range tables c) x) false) there
        ∙ (served leaf (are.each c.dim is.low)
        ∙ sym (ap (λ (d : ℕ). unwrap_or (option_map (holds o (seat_of o c.member)) (slice_get leaves d)) false) (sym is.dim)
        ∙ ap (λ (x : Option ℕ). unwrap_or (option_map (holds o (seat_of o c.member)) x) false) there))

    holds_row : (row : List Chosen) → AreChosen o row → All (IsServed o tables) row → list_all (holds_leaf tables leaves) row ≡ tuple_covers o leaves (members_of row)
    holds_row [] all served = refl
    holds_row (c ∷ row) all served =
        ap (λ (b : Bool). b && list_all (holds_leaf tables leaves) row) (holds_one c (first_one (IsChosen o) c row all) (first_one (IsServed o tables) c row served))
        ∙ ap (λ (b : Bool). member_holds o leaves c.member && b) (holds_row row (others (IsChosen o) c row all) (others (IsServed o tables) c row served))

    holds_rows : (rows : List (List Chosen)) → All (AreChosen o) rows → All (All (IsServed o tables)) rows → list_any (list_all (holds_leaf tables leaves)) rows ≡ covers o (map members_of rows) leaves
    holds_rows [] all served = refl
    holds_rows (row ∷ rows) all served =
        ap (λ (b : Bool). b || list_any (list_all (holds_leaf tables leaves)) rows) (holds_row row (all 0 row (omega arith)) (served 0 row (omega arith)))
        ∙ ap (λ (b : Bool). tuple_covers o leaves (members_of row) || b) (holds_rows rows (others (AreChosen o) row rows all) (others (All (IsServed o tables)) row rows served))

  module _ (tuples : List (List ℕ)) (r : Cover) (members : map members_of r.rows ≡ tuples) where
    pub as_many : length r.rows ≡ length tuples
    as_many = sym (length-map r.rows members_of) ∙ ap length members

    pub is_region : All (AreChosen o) r.rows → r.tables ≡ tables_for o r.rows → IsRegion o tuples r
    is_region all tables = record {
      count = as_many;
      member = λ tuple d. named_rows d r.rows all tuple ∙ ap (λ (ts : List (List ℕ)). option_and_then (λ (ms : List ℕ). named_in o ms d) (slice_get ts tuple)) members;
      exactly = λ leaves are.
          ap (λ (t : Tables). list_any (list_all (holds_leaf t leaves)) r.rows) tables
          ∙ (holds_rows (tables_for o r.rows) leaves are r.rows all (all_served o r.rows all) ∙ ap (λ (ts : List (List ℕ)). covers o ts leaves) members);
    }

-- no more rows than tuples
pub long_rows : (rows : List (List Chosen)) (tuples all : List (List ℕ)) (most : ℕ) → map members_of rows ≡ tuples → tuples ≡ all → length all ≤ most → length rows ≤ most
long_rows rows tuples all most members is few = omega (arith, length-map rows members_of, ap length members, ap length is, few)
