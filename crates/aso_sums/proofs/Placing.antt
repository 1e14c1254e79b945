-- Tuples by the places of their members.
use Rattle.std.proofs.Common.{◌≡◌, ◌∙◌, ℕ, zero, suc, ◌<◌, ◌≤◌, ◌+◌, Bool, true, false, ◌&&◌, List, [], ◌∷◌, ◌++◌, length, take, get_or, map, Option, Some, None, refl, sym, ap, subst, arith, add-one, append_assoc}
use Rattle.std.specs.Prelude.{◌==◌, slice_get, slice_index_or, unwrap_or}
use Rattle.std.specs.Option.{option_map}
use Rattle.std.specs.List.{All, AllZip, filter_map, list_all, range_with_len}
use Rattle.std.proofs.lemmas.List.{append-nil, take_more, take_all}
use Rattle.std.proofs.lemmas.List.FromFn.{map-range_with_len_more}
use Rattle.std.proofs.lemmas.List.Elements.{All-append, All-nil, All-cons, filter_map-append}
use Rattle.std.proofs.lemmas.List.Folds.{list_all-append, list_all_more}
use Rattle.std.proofs.lemmas.Option.{slice_get-get_or, slice_get_past, slice_get_within}
use Rattle.aso_outline.specs.declared.draft.Draft.{Draft}
use Rattle.aso_outline.specs.declared.draft.Tuple.{Tuple}
use Rattle.aso_outline.specs.declared.seat.DimRef.{DimRef}
use Rattle.aso_outline.specs.declared.seat.DimRef.TheVariants.{Base, Attr}
use Rattle.aso_tree.proofs.Paths.{range_push}
use Rattle.aso_outline.specs.declared.seat.Seat.{Seat}
use Rattle.aso_outline.specs.Members.{seats}
use Rattle.aso_outline.specs.Numbers.{seat_of}
use Rattle.aso_spec.specs.Cells.{Key}
use Rattle.aso_sums.specs.Asking.{Extends}
use Rattle.aso_sums.specs.Stored.{Coordinate, attr_coordinate, base_coordinate, coordinates, covers, covers_at, covers_leaf, is_in}
use Rattle.aso_sums.specs.Summing.{ArePlaced, CoverNone, IsRow, pass_at, passes}
use Rattle.aso_sums.specs.Rows.{IsPlaceOf}
use Rattle.aso_sums.proofs.Asking.{slice_get-front}

-- ---- one coordinate

-- what a member that may be there is worth
abbrev worth : Draft → Key → DimRef → Option Seat → Bool
worth o key dim found = unwrap_or (option_map (λ s. is_in dim s && covers_leaf o key s) found) false

pub none_past : (o : Draft) (dim : DimRef) (m : ℕ) → length (seats o) ≤ m → (key : Key) → covers_at o key (dim, m) ≡ false
none_past o dim m le key = ap (worth o key dim) (slice_get_past (seats o) m le)

seat_there : (all : List Seat) (m : ℕ) (d : Seat) → m < length all → slice_get all m ≡ Some (unwrap_or (slice_get all m) d)
seat_there all m d lt = slice_get-get_or all m d lt ∙ ap (λ (x : Option Seat). Some (unwrap_or x d)) (sym (slice_get-get_or all m d lt))

here : (o : Draft) (m : ℕ) → m < length (seats o) → slice_get (seats o) m ≡ Some (seat_of o m)
here o m lt = seat_there (seats o) m _ lt

elsewhere : (b c : Bool) → b ≡ false → (b && c) ≡ false
elsewhere true c h = absurd (cc)
elsewhere false c h = refl

within : (b c : Bool) → b ≡ true → (b && c) ≡ c
within true c h = refl
within false c h = absurd (cc)

pub none_outside : (o : Draft) (dim : DimRef) (m : ℕ) → m < length (seats o) → is_in dim (seat_of o m) ≡ false → (key : Key) → covers_at o key (dim, m) ≡ false
none_outside o dim m lt out key = ap (worth o key dim) (here o m lt) ∙ elsewhere (is_in dim (seat_of o m)) (covers_leaf o key (seat_of o m)) out

pub placed : (o : Draft) (asked : List ℕ) (dim : DimRef) (m k : ℕ) → m < length (seats o) → is_in dim (seat_of o m) ≡ true → slice_get asked k ≡ Some m → IsPlaceOf o asked (dim, m) (Some k)
placed o asked dim m k lt inside at = (
  slice_get_within asked k m at,
  λ (key : Key).
      ap (worth o key dim) (here o m lt) ∙ within (is_in dim (seat_of o m)) (covers_leaf o key (seat_of o m)) inside
      ∙ ap (λ (s : Option Seat). unwrap_or (option_map (covers_leaf o key) s) false) (sym (here o m lt))
      ∙ ap (λ (x : Option ℕ). unwrap_or (option_map (passes o key) x) false) (sym at),
)

-- ---- more members asked

pass_at-more : (o : Draft) (key : Key) (old more : List ℕ) (k : ℕ) → k < length old → pass_at o key (old ++ more) k ≡ pass_at o key old k
pass_at-more o key old more k lt = ap (λ (x : Option ℕ). unwrap_or (option_map (passes o key) x) false) (slice_get-front old more k lt)

all_low : (P : ℕ → Type 0) (x : ℕ) (xs : List ℕ) → All P (x ∷ xs) → P x × All P xs
all_low P x xs h = (h 0 x (omega arith), λ i d lt. h (suc i) d (omega arith))

pass_all-more : (o : Draft) (key : Key) (old more places : List ℕ) → All (λ k. k < length old) places → list_all (pass_at o key (old ++ more)) places ≡ list_all (pass_at o key old) places
pass_all-more o key old more [] low = refl
pass_all-more o key old more (k ∷ ks) low =
    let parts = all_low (λ k. k < length old) k ks low in
    ap (λ (b : Bool). b && list_all (pass_at o key (old ++ more)) ks) (pass_at-more o key old more k parts.0)
    ∙ ap (λ (b : Bool). pass_at o key old k && b) (pass_all-more o key old more ks parts.1)

longer : (old more : List ℕ) → length old ≤ length (old ++ more)
longer [] more = omega arith
longer (x ∷ xs) more = omega (arith, longer xs more)

still_low : (old more places : List ℕ) → All (λ k. k < length old) places → All (λ k. k < length (old ++ more)) places
still_low old more places low i d lt = omega (arith, longer old more, low i d lt)

pub still_placed : (o : Draft) (old new places : List ℕ) (cs : List Coordinate) → Extends old new → ArePlaced o old places cs → ArePlaced o new places cs
still_placed o old new places cs e p =
    subst (λ (xs : List ℕ). ArePlaced o xs places cs) (sym e.1)
    (record { low = still_low old e.0 places p.low; same = λ key. p.same key ∙ sym (pass_all-more o key old e.0 places p.low) })

still_row : (o : Draft) (old new : List ℕ) (row : Option (List ℕ)) (t : Tuple) → Extends old new → IsRow o old row t → IsRow o new row t
still_row o old new None t e r = r
still_row o old new (Some places) t e r =
    subst (λ (xs : List ℕ). IsRow o xs (Some places) t) (sym e.1)
    (still_low old e.0 places r.0, λ (key : Key). r.1 key ∙ sym (pass_all-more o key old e.0 places r.0))

pub still_rows : (o : Draft) (old new : List ℕ) (rows : List (Option (List ℕ))) (ts : List Tuple) → Extends old new → AllZip (IsRow o old) rows ts → AllZip (IsRow o new) rows ts
still_rows o old new [] [] e z = z
still_rows o old new [] (t ∷ ts) e z = z
still_rows o old new (r ∷ rs) [] e z = z
still_rows o old new (r ∷ rs) (t ∷ ts) e z = (still_row o old new r t e z.0, still_rows o old new rs ts e z.1)

-- ---- coordinates one by one

pub none_placed : (o : Draft) (asked : List ℕ) → ArePlaced o asked [] []
none_placed o asked = record { low = All-nil (λ k. k < length asked); same = λ key. refl }

pub placed_more : (o : Draft) (asked old new : List ℕ) (cs : List Coordinate) (i k : ℕ) (d : Coordinate) → i < length cs → new ≡ old ++ k ∷ [] → IsPlaceOf o asked (get_or cs i d) (Some k) → ArePlaced o asked old (take i cs) → ArePlaced o asked new (take (i + 1) cs)
placed_more o asked old new cs i k d lt e place p =
    subst (λ (xs : List ℕ). ArePlaced o asked xs (take (i + 1) cs)) (sym e)
    (record {
      low = All-append (λ k. k < length asked) old (k ∷ []) p.low (All-cons (λ k. k < length asked) k [] place.0 (All-nil (λ k. k < length asked)));
      same = λ key.
          list_all_more (covers_at o key) cs i d lt
          ∙ ap (λ (b : Bool). b && covers_at o key (get_or cs i d)) (p.same key)
          ∙ ap (λ (b : Bool). list_all (pass_at o key asked) old && b) (place.1 key)
          ∙ sym (list_all-append (pass_at o key asked) old (k ∷ []) ∙ ap (λ (b : Bool). list_all (pass_at o key asked) old && b) (one (pass_at o key asked k)));
    }) where
      one : (b : Bool) → (b && true) ≡ b
      one true = refl
      one false = refl

one_false : (p : Coordinate → Bool) (cs : List Coordinate) (i : ℕ) (d : Coordinate) → i < length cs → p (get_or cs i d) ≡ false → list_all p cs ≡ false
one_false p [] i d lt h = absurd (omega arith)
one_false p (c ∷ cs) zero d lt h = elsewhere (p c) (list_all p cs) h
one_false p (c ∷ cs) (suc i) d lt h = last_false (p c) (list_all p cs) (one_false p cs i d (omega arith) h) where
  last_false : (a b : Bool) → b ≡ false → (a && b) ≡ false
  last_false true b h = h
  last_false false b h = refl

pub none_covers : (o : Draft) (asked : List ℕ) (cs : List Coordinate) (i : ℕ) (d : Coordinate) → i < length cs → IsPlaceOf o asked (get_or cs i d) None → CoverNone o cs
none_covers o asked cs i d lt none key = one_false (covers_at o key) cs i d lt (none key)

-- ---- a tuple

pub short_row : (o : Draft) (asked : List ℕ) (t : Tuple) → (length t.base == length o.dims) ≡ false → IsRow o asked None t
unfolding covers
short_row o asked t h key = elsewhere (length t.base == length o.dims) (list_all (covers_at o key) (coordinates t)) h

pub no_row : (o : Draft) (asked : List ℕ) (t : Tuple) (cs : List Coordinate) → (length t.base == length o.dims) ≡ true → cs ≡ coordinates t → CoverNone o cs → IsRow o asked None t
unfolding covers
no_row o asked t cs h e none key =
    within (length t.base == length o.dims) (list_all (covers_at o key) (coordinates t)) h ∙ subst (λ (xs : List Coordinate). list_all (covers_at o key) xs ≡ false) e (none key)

pub row_placed : (o : Draft) (asked places : List ℕ) (t : Tuple) (cs : List Coordinate) → (length t.base == length o.dims) ≡ true → cs ≡ coordinates t → ArePlaced o asked places cs → IsRow o asked (Some places) t
unfolding covers
row_placed o asked places t cs h e p = (
  p.low,
  λ (key : Key). within (length t.base == length o.dims) (list_all (covers_at o key) (coordinates t)) h ∙ subst (λ (xs : List Coordinate). list_all (covers_at o key) xs ≡ list_all (pass_at o key asked) places) e (p.same key),
)

-- ---- tuples one by one

zip_more : (R : Option (List ℕ) → Tuple → Type 0) (rows : List (Option (List ℕ))) (ts : List Tuple) (r : Option (List ℕ)) (t : Tuple) → AllZip R rows ts → R r t → AllZip R (rows ++ r ∷ []) (ts ++ t ∷ [])
zip_more R [] [] r t z h = (h, z)
zip_more R [] (u ∷ us) r t z h = absurd z
zip_more R (q ∷ qs) [] r t z h = absurd z
zip_more R (q ∷ qs) (u ∷ us) r t z h = (z.0, zip_more R qs us r t z.1 h)

pub rows_more : (o : Draft) (old new : List ℕ) (before after : List (Option (List ℕ))) (ts : List Tuple) (i : ℕ) (r : Option (List ℕ)) (d : Tuple) → i < length ts → after ≡ before ++ r ∷ [] → Extends old new → IsRow o new r (get_or ts i d) → AllZip (IsRow o old) before (take i ts) → AllZip (IsRow o new) after (take (i + 1) ts)
rows_more o old new before after ts i r d lt e more row z =
    subst (λ (xs : List Tuple). AllZip (IsRow o new) after xs) (sym (take_more ts i d lt))
    (subst (λ (xs : List (Option (List ℕ))). AllZip (IsRow o new) xs (take i ts ++ get_or ts i d ∷ [])) (sym e)
    (zip_more (IsRow o new) before (take i ts) r (get_or ts i d) (still_rows o old new before (take i ts) more z) row))

pub rows_all : (o : Draft) (asked : List ℕ) (rows : List (Option (List ℕ))) (ts : List Tuple) (i : ℕ) → length ts ≤ i → AllZip (IsRow o asked) rows (take i ts) → AllZip (IsRow o asked) rows ts
rows_all o asked rows ts i le z = subst (λ (xs : List Tuple). AllZip (IsRow o asked) rows xs) (take_all i ts le) z

pub places_all : (o : Draft) (asked places : List ℕ) (cs : List Coordinate) (i : ℕ) → length cs ≤ i → ArePlaced o asked places (take i cs) → ArePlaced o asked places cs
places_all o asked places cs i le p = subst (λ (xs : List Coordinate). ArePlaced o asked places xs) (take_all i cs le) p

-- ---- the coordinates of a tuple, one by one

abbrev pub no_coordinate : Coordinate
no_coordinate = (Base 0, 0)

abbrev pub no_tuple : Tuple
no_tuple = record { base = []; attrs = [] }

pub base_more : (t : Tuple) (start old new : List Coordinate) (d : ℕ) → new ≡ old ++ base_coordinate t d ∷ [] → old ≡ start ++ map (base_coordinate t) (range_with_len 0 d) → new ≡ start ++ map (base_coordinate t) (range_with_len 0 (d + 1))
base_more t start old new d en eo =
    en ∙ ap (λ (xs : List Coordinate). xs ++ base_coordinate t d ∷ []) eo ∙ append_assoc start (map (base_coordinate t) (range_with_len 0 d)) (base_coordinate t d ∷ [])
    ∙ ap (λ (xs : List Coordinate). start ++ xs) (sym (map-range_with_len_more (base_coordinate t) 0 d d (omega arith)))

one_attr : (t : Tuple) (a : ℕ) (asked : Option Coordinate) → attr_coordinate t a ≡ asked → filter_map (attr_coordinate t) (range_with_len 0 (a + 1)) ≡ filter_map (attr_coordinate t) (range_with_len 0 a) ++ filter_map (λ (x : Option Coordinate). x) (asked ∷ [])
one_attr t a asked e =
    let range : range_with_len 0 (a + 1) ≡ range_with_len 0 a ++ a ∷ [] = rw add-one (range_push 0 a a (omega arith)) in
    ap (filter_map (attr_coordinate t)) range ∙ filter_map-append (attr_coordinate t) (range_with_len 0 a) (a ∷ [])
    ∙ ap (λ (xs : List Coordinate). filter_map (attr_coordinate t) (range_with_len 0 a) ++ xs) (last (attr_coordinate t a) asked e) where
      last : (x y : Option Coordinate) → x ≡ y → filter_map (λ (_ : ℕ). x) (a ∷ []) ≡ filter_map (λ (x : Option Coordinate). x) (y ∷ [])
      last x None e = rw e refl
      last x (Some c) e = rw e refl

pub attr_more : (t : Tuple) (start old new : List Coordinate) (a m : ℕ) → slice_index_or t.attrs a None ≡ Some m → new ≡ old ++ (Attr a, m) ∷ [] → old ≡ start ++ filter_map (attr_coordinate t) (range_with_len 0 a) → new ≡ start ++ filter_map (attr_coordinate t) (range_with_len 0 (a + 1))
attr_more t start old new a m asked en eo =
    en ∙ ap (λ (xs : List Coordinate). xs ++ (Attr a, m) ∷ []) eo ∙ append_assoc start (filter_map (attr_coordinate t) (range_with_len 0 a)) ((Attr a, m) ∷ [])
    ∙ ap (λ (xs : List Coordinate). start ++ xs) (sym (one_attr t a (Some (Attr a, m)) (ap (λ (x : Option ℕ). option_map (λ m. (Attr a, m)) x) asked)))

pub attr_stays : (t : Tuple) (start old new : List Coordinate) (a : ℕ) → slice_index_or t.attrs a None ≡ None → new ≡ old → old ≡ start ++ filter_map (attr_coordinate t) (range_with_len 0 a) → new ≡ start ++ filter_map (attr_coordinate t) (range_with_len 0 (a + 1))
attr_stays t start old new a asked en eo =
    en ∙ eo ∙ ap (λ (xs : List Coordinate). start ++ xs) (sym (one_attr t a None (ap (λ (x : Option ℕ). option_map (λ m. (Attr a, m)) x) asked) ∙ append-nil (filter_map (attr_coordinate t) (range_with_len 0 a))))
