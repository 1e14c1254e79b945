-- The first wrong name of members and items that stand in a row.
use Rattle.std.specs.Prelude.{is_some, unwrap_or, slice_get}
use Rattle.std.specs.Option.{option_map, option_or}
use Rattle.std.specs.List.{find as first}
use Rattle.std.proofs.Common.{◌≡◌, ◌∙◌, ℕ, zero, suc, ◌+◌, ◌-◌, ◌<◌, ◌≤◌, Bool, true, false, not, true≢false, List, [], ◌∷◌, ◌++◌, length, length-drop, map, drop, take, get_or, Option, Some, None, refl, sym, ap, arith, add-one}
use Rattle.std.proofs.Math.Seq.{drop-cons}
use Rattle.std.proofs.lemmas.List.{nil_from_length, take_all}
use Rattle.aso_outline.specs.declared.draft.Draft.{Draft}
use Rattle.aso_outline.specs.declared.seat.DimRef.{DimRef}
use Rattle.aso_outline.specs.Members.{Name}
use Rattle.aso_axes.specs.declared.part.Part.{Part}
use Rattle.aso_axes.specs.declared.part.Part.TheVariants.{Itself}
use Rattle.aso_axes.specs.declared.part.Purpose.{Purpose}
use Rattle.aso_axes.specs.declared.part.Purpose.TheVariants.{Axis}
use Rattle.aso_axes.specs.Members.{Own, given, name_of}
use Rattle.aso_axes.specs.Sets.{Path, Said, dim_at, first_refused, is_beginning, member_at, past, wrong_items, wrong_member, wrong_tuple, too_short}

pub some_first : {X : Type 0} (a b : Option X) → is_some a ≡ true → option_or a b ≡ a
some_first (Some x) b is = refl
some_first None b is = absurd (true≢false (sym is))

pub none_first : {X : Type 0} (a b : Option X) → is_some a ≡ false → option_or a b ≡ b
none_first (Some x) b is = absurd (true≢false is)
none_first None b is = refl

-- what the code found is some, as what it stands for is
pub some_mapped : {X Y : Type 0} (f : X → Y) (r : Option X) (b : Bool) → is_some r ≡ b → is_some (option_map f r) ≡ b
some_mapped f (Some x) b is = is
some_mapped f None b is = is

pub drop_here : {X : Type 0} (xs : List X) (i : ℕ) (x : X) → i < length xs → x ≡ get_or xs i x → drop i xs ≡ x ∷ drop (i + 1) xs
drop_here xs i x low at = drop-cons xs i x low ∙ (ap (λ (y : _). y ∷ drop (suc i) xs) (sym at) ∙ ap (λ (n : ℕ). x ∷ drop n xs) (sym (add-one i)))

pub none_refused : {X : Type 0} (xs : List X) → first (λ x. not true) xs ≡ None
none_refused [] = refl
none_refused (x ∷ xs) = none_refused xs

-- an axis refuses no member
pub axis_refuses_none : (o : Draft) (own : Own) (u : Purpose) (k : Part) (p : Path) → u ≡ Axis → None ≡ first_refused o own u k p
axis_refuses_none o own u k p is =
    sym (ap (λ (v : Purpose). first_refused o own v k p) is ∙ ap (option_map (name_of o own)) (none_refused (given o k (member_at o own p))))

-- a list that goes on is no beginning of one that ends
pub longer : (ds ws : List DimRef) → 1 ≤ length ds → length ws ≡ 0 → false ≡ is_beginning ds ws
longer [] ws some none = absurd (omega (arith, some))
longer (d ∷ ds) [] some none = refl
longer (d ∷ ds) (e ∷ es) some none = absurd (omega (arith, none))

module _ (o : Draft) (own : Own) (u : Purpose) (paths : List Path) (p q : Path) (some : 1 ≤ length paths) (at : p ≡ get_or paths 0 p) (same : q ≡ p) (before : List DimRef) (wanted : Option (List DimRef)) where
  here : wrong_tuple o own u paths before wanted
      ≡ option_or (wrong_member o own u Itself q before wanted) (wrong_tuple o own u (drop 1 paths) (before ++ dim_at o own q ∷ []) (past 1 wanted))
  here =
      ap (λ (ps : List Path). wrong_tuple o own u ps before wanted) (drop_here paths 0 p (omega (arith, some)) at)
      ∙ ap (λ (x : Path). option_or (wrong_member o own u Itself x before wanted) (wrong_tuple o own u (drop 1 paths) (before ++ dim_at o own x ∷ []) (past 1 wanted))) (sym same)

  pub tuple_found : (found : Option Name) → found ≡ wrong_member o own u Itself q before wanted → is_some found ≡ true → found ≡ wrong_tuple o own u paths before wanted
  tuple_found found e is =
      sym (here ∙ (ap (λ (x : Option Name). option_or x (wrong_tuple o own u (drop 1 paths) (before ++ dim_at o own q ∷ []) (past 1 wanted))) (sym e)
      ∙ some_first found _ is))

  pub tuple_later : (found : Option Name) (later : List Path) (named : List DimRef) (rest : Option (List DimRef)) → found ≡ wrong_member o own u Itself q before wanted → is_some found ≡ false
      → later ≡ drop 1 paths → named ≡ before ++ dim_at o own q ∷ [] → rest ≡ past 1 wanted → wrong_tuple o own u later named rest ≡ wrong_tuple o own u paths before wanted
  tuple_later found later named rest e is others dims behind =
      ap (λ (ps : List Path). wrong_tuple o own u ps named rest) others
      ∙ (ap (λ (ds : List DimRef). wrong_tuple o own u (drop 1 paths) ds rest) dims
      ∙ (ap (λ (w : Option (List DimRef)). wrong_tuple o own u (drop 1 paths) (before ++ dim_at o own q ∷ []) w) behind
      ∙ sym (here ∙ (ap (λ (x : Option Name). option_or x (wrong_tuple o own u (drop 1 paths) (before ++ dim_at o own q ∷ []) (past 1 wanted))) (sym e)
      ∙ none_first found _ is))))

-- all behind the first
pub behind_first : {X : Type 0} (xs : List X) → take (length xs - 1) (drop 1 xs) ≡ drop 1 xs
behind_first xs = take_all (length xs - 1) (drop 1 xs) (omega (arith, length-drop 1 xs))

or_none : {X : Type 0} (a : Option X) → option_or a None ≡ a
or_none (Some x) = refl
or_none None = refl

or_assoc : {X : Type 0} (a b c : Option X) → option_or a (option_or b c) ≡ option_or (option_or a (option_or b None)) c
or_assoc (Some x) b c = refl
or_assoc None (Some y) c = refl
or_assoc None None c = refl

-- none is left
pub none_left : {X : Type 0} (o : Draft) (own : Own) (said : X → Said) (before wanted : List DimRef) (items : List X) (i : ℕ) → length items ≤ i → wrong_items o own before wanted (map said (drop i items)) ≡ None
none_left o own said before wanted items i past_all = ap (λ (xs : List _). wrong_items o own before wanted (map said xs)) (nil_from_length (drop i items) (omega (arith, length-drop i items, past_all)))

module _ {X : Type 0} (o : Draft) (own : Own) (said : X → Said) (before wanted : List DimRef) (items : List X) (i : ℕ) (x : X) (low : i < length items) (at : x ≡ get_or items i x) where
  item_here : wrong_items o own before wanted (map said (drop i items)) ≡ option_or (wrong_items o own before wanted (said x ∷ [])) (wrong_items o own before wanted (map said (drop (i + 1) items)))
  item_here =
      ap (λ (xs : List X). wrong_items o own before wanted (map said xs)) (drop_here items i x low at)
      ∙ or_assoc (too_short o own wanted (said x)) ((said x).wrong before (Some wanted)) (wrong_items o own before wanted (map said (drop (i + 1) items)))

  pub item_found : (found : Option Name) → found ≡ wrong_items o own before wanted (said x ∷ []) → is_some found ≡ true → wrong_items o own before wanted (map said (drop i items)) ≡ found
  item_found found e is =
      item_here ∙ (ap (λ (y : Option Name). option_or y (wrong_items o own before wanted (map said (drop (i + 1) items)))) (sym e) ∙ some_first found _ is)

  pub item_later : (found : Option Name) → found ≡ wrong_items o own before wanted (said x ∷ []) → is_some found ≡ false
      → wrong_items o own before wanted (map said (drop (i + 1) items)) ≡ wrong_items o own before wanted (map said (drop i items))
  item_later found e is =
      sym (item_here ∙ (ap (λ (y : Option Name). option_or y (wrong_items o own before wanted (map said (drop (i + 1) items)))) (sym e) ∙ none_first found _ is))
