-- What the definitions over sets give at each kind of set.
use Rattle.std.specs.Prelude.{is_some}
use Rattle.std.specs.Option.{option_or}
use Rattle.std.specs.List.{flat_map}
use Rattle.std.proofs.Common.{◌≡◌, ◌∙◌, ◌-◌, ℕ, false, List, [], ◌∷◌, ◌++◌, length, length-append, map, Option, sym, ap, arith, refl}
use Rattle.aso_outline.specs.declared.draft.Draft.{Draft}
use Rattle.aso_outline.specs.declared.seat.DimRef.{DimRef}
use Rattle.aso_outline.specs.Members.{Name}
use Rattle.aso_mdx.specs.declared.query.SetText.{SetText}
use Rattle.aso_mdx.specs.declared.query.SetText.TheOpen.{SetText-F}
use Rattle.aso_mdx.specs.declared.query.SetText.TheFolds.{fold-SetText, fold-roll-SetText}
use Rattle.aso_mdx.specs.declared.query.SetText.TheVariants.{Braced, Member, Tuple, Children, Members, Descendants, Leaves, Crossjoin, rolls-Braced, rolls-Member, rolls-Tuple, rolls-Children, rolls-Members, rolls-Descendants, rolls-Leaves, rolls-Crossjoin}
use Rattle.aso_axes.specs.declared.part.Part.TheVariants as part
use Rattle.aso_axes.specs.declared.part.Purpose.{Purpose}
use Rattle.aso_axes.specs.Members.{Own}
use Rattle.aso_axes.specs.Sets.{Path, Said, past, paths_of, paths_step, rows_of, rows_step, said_of, said_step, said_of_member, said_of_tuple, said_of_items, said_of_both, given_rows, crossed, member_at}
use Rattle.aso_axes.proofs.WrongLemmas.{none_first}

module _ (A : Type 0) (step : SetText-F A → A) where
  fold_braced : (all : List SetText) → fold-SetText A step (Braced all) ≡ step (SetText-F.Braced (map (fold-SetText A step) all))
  fold_braced all = ap (fold-SetText A step) (sym (rolls-Braced all)) ∙ fold-roll-SetText A step (SetText-F.Braced all)

  fold_member : (p : Path) → fold-SetText A step (Member p) ≡ step (SetText-F.Member p)
  fold_member p = ap (fold-SetText A step) (sym (rolls-Member p)) ∙ fold-roll-SetText A step (SetText-F.Member p)

  fold_tuple : (ps : List Path) → fold-SetText A step (Tuple ps) ≡ step (SetText-F.Tuple ps)
  fold_tuple ps = ap (fold-SetText A step) (sym (rolls-Tuple ps)) ∙ fold-roll-SetText A step (SetText-F.Tuple ps)

  fold_children : (p : Path) → fold-SetText A step (Children p) ≡ step (SetText-F.Children p)
  fold_children p = ap (fold-SetText A step) (sym (rolls-Children p)) ∙ fold-roll-SetText A step (SetText-F.Children p)

  fold_members : (p : Path) → fold-SetText A step (Members p) ≡ step (SetText-F.Members p)
  fold_members p = ap (fold-SetText A step) (sym (rolls-Members p)) ∙ fold-roll-SetText A step (SetText-F.Members p)

  fold_descendants : (p : Path) → fold-SetText A step (Descendants p) ≡ step (SetText-F.Descendants p)
  fold_descendants p = ap (fold-SetText A step) (sym (rolls-Descendants p)) ∙ fold-roll-SetText A step (SetText-F.Descendants p)

  fold_leaves : (p : Path) → fold-SetText A step (Leaves p) ≡ step (SetText-F.Leaves p)
  fold_leaves p = ap (fold-SetText A step) (sym (rolls-Leaves p)) ∙ fold-roll-SetText A step (SetText-F.Leaves p)

  fold_crossjoin : (l r : SetText) → fold-SetText A step (Crossjoin l r) ≡ step (SetText-F.Crossjoin (fold-SetText A step l) (fold-SetText A step r))
  fold_crossjoin l r = ap (fold-SetText A step) (sym (rolls-Crossjoin l r)) ∙ fold-roll-SetText A step (SetText-F.Crossjoin l r)

-- ---- the members in text order

pub joined : {X Y : Type 0} (f : X → List Y) (xs : List X) → flat_map (λ ys. ys) (map f xs) ≡ flat_map f xs
joined f [] = refl
joined f (x ∷ xs) = ap (λ (ys : List _). f x ++ ys) (joined f xs)

pub paths_braced : (all : List SetText) → paths_of (Braced all) ≡ flat_map paths_of all
unfolding paths_of
paths_braced all = fold_braced (List Path) paths_step all ∙ joined (fold-SetText (List Path) paths_step) all

pub paths_member : (p : Path) → paths_of (Member p) ≡ p ∷ []
unfolding paths_of
paths_member = fold_member (List Path) paths_step

pub paths_tuple : (ps : List Path) → paths_of (Tuple ps) ≡ ps
unfolding paths_of
paths_tuple = fold_tuple (List Path) paths_step

pub paths_children : (p : Path) → paths_of (Children p) ≡ p ∷ []
unfolding paths_of
paths_children = fold_children (List Path) paths_step

pub paths_members : (p : Path) → paths_of (Members p) ≡ p ∷ []
unfolding paths_of
paths_members = fold_members (List Path) paths_step

pub paths_descendants : (p : Path) → paths_of (Descendants p) ≡ p ∷ []
unfolding paths_of
paths_descendants = fold_descendants (List Path) paths_step

pub paths_leaves : (p : Path) → paths_of (Leaves p) ≡ p ∷ []
unfolding paths_of
paths_leaves = fold_leaves (List Path) paths_step

pub paths_crossjoin : (l r : SetText) → paths_of (Crossjoin l r) ≡ paths_of l ++ paths_of r
unfolding paths_of
paths_crossjoin = fold_crossjoin (List Path) paths_step

-- ---- the tuples

module _ (o : Draft) (own : Own) where
  pub rows_braced : (all : List SetText) → rows_of o own (Braced all) ≡ flat_map (rows_of o own) all
  unfolding rows_of
  rows_braced all = fold_braced (List (List ℕ)) (rows_step o own) all ∙ joined (fold-SetText (List (List ℕ)) (rows_step o own)) all

  pub rows_member : (p : Path) → rows_of o own (Member p) ≡ given_rows o own part.Itself p
  unfolding rows_of
  rows_member = fold_member (List (List ℕ)) (rows_step o own)

  pub rows_tuple : (ps : List Path) → rows_of o own (Tuple ps) ≡ map (member_at o own) ps ∷ []
  unfolding rows_of
  rows_tuple = fold_tuple (List (List ℕ)) (rows_step o own)

  pub rows_children : (p : Path) → rows_of o own (Children p) ≡ given_rows o own part.Children p
  unfolding rows_of
  rows_children = fold_children (List (List ℕ)) (rows_step o own)

  pub rows_members : (p : Path) → rows_of o own (Members p) ≡ given_rows o own part.Members p
  unfolding rows_of
  rows_members = fold_members (List (List ℕ)) (rows_step o own)

  pub rows_descendants : (p : Path) → rows_of o own (Descendants p) ≡ given_rows o own part.Descendants p
  unfolding rows_of
  rows_descendants = fold_descendants (List (List ℕ)) (rows_step o own)

  pub rows_leaves : (p : Path) → rows_of o own (Leaves p) ≡ given_rows o own part.Leaves p
  unfolding rows_of
  rows_leaves = fold_leaves (List (List ℕ)) (rows_step o own)

  pub rows_crossjoin : (l r : SetText) → rows_of o own (Crossjoin l r) ≡ crossed (rows_of o own l) (rows_of o own r)
  unfolding rows_of
  rows_crossjoin = fold_crossjoin (List (List ℕ)) (rows_step o own)

-- ---- what is said of sets

module _ (o : Draft) (own : Own) (u : Purpose) where
  pub said_braced : (all : List SetText) → said_of o own u (Braced all) ≡ said_of_items o own (map (said_of o own u) all)
  unfolding said_of
  said_braced = fold_braced Said (said_step o own u)

  pub said_member : (p : Path) → said_of o own u (Member p) ≡ said_of_member o own u part.Itself p
  unfolding said_of
  said_member = fold_member Said (said_step o own u)

  pub said_tuple : (ps : List Path) → said_of o own u (Tuple ps) ≡ said_of_tuple o own u ps
  unfolding said_of
  said_tuple = fold_tuple Said (said_step o own u)

  pub said_children : (p : Path) → said_of o own u (Children p) ≡ said_of_member o own u part.Children p
  unfolding said_of
  said_children = fold_children Said (said_step o own u)

  pub said_members : (p : Path) → said_of o own u (Members p) ≡ said_of_member o own u part.Members p
  unfolding said_of
  said_members = fold_members Said (said_step o own u)

  pub said_descendants : (p : Path) → said_of o own u (Descendants p) ≡ said_of_member o own u part.Descendants p
  unfolding said_of
  said_descendants = fold_descendants Said (said_step o own u)

  pub said_leaves : (p : Path) → said_of o own u (Leaves p) ≡ said_of_member o own u part.Leaves p
  unfolding said_of
  said_leaves = fold_leaves Said (said_step o own u)

  pub said_crossjoin : (l r : SetText) → said_of o own u (Crossjoin l r) ≡ said_of_both (said_of o own u l) (said_of o own u r)
  unfolding said_of
  said_crossjoin = fold_crossjoin Said (said_step o own u)

  pub dims_crossjoin : (l r : SetText) → (said_of o own u (Crossjoin l r)).dims ≡ (said_of o own u l).dims ++ (said_of o own u r).dims
  dims_crossjoin l r = ap (λ (s : Said). s.dims) (said_crossjoin l r)

  -- of a set that is this one, the wrong name is this
  pub wrong_by : (set same : SetText) (said : Said) → set ≡ same → said_of o own u same ≡ said → (before : List DimRef) (wanted : Option (List DimRef)) → said.wrong before wanted ≡ (said_of o own u set).wrong before wanted
  wrong_by set same said is steps before wanted = sym (ap (λ (s : SetText). (said_of o own u s).wrong before wanted) is ∙ ap (λ (s : Said). s.wrong before wanted) steps)

  -- where the left set of a crossing has no wrong name, that of the right one
  pub crossing_later : (l r : SetText) (before : List DimRef) (wanted : Option (List DimRef)) (found : Option Name) (named : List DimRef) (count : ℕ) (rest : Option (List DimRef))
      → found ≡ (said_of o own u l).wrong before wanted → is_some found ≡ false → named ≡ before ++ (said_of o own u l).dims → rest ≡ past count wanted → count ≡ length named - length before
      → (said_of o own u r).wrong named rest ≡ (said_of o own u (Crossjoin l r)).wrong before wanted
  crossing_later l r before wanted found named count rest is none put behind long =
      let a : Said = said_of o own u l in
      let b : Said = said_of o own u r in
      let same : count ≡ length a.dims = omega (arith, long, ap length put, length-append before a.dims) in
      ap (λ (ds : List DimRef). b.wrong ds rest) put
      ∙ (ap (λ (w : Option (List DimRef)). b.wrong (before ++ a.dims) w) (behind ∙ ap (λ (n : ℕ). past n wanted) same)
      ∙ (sym (none_first found (b.wrong (before ++ a.dims) (past (length a.dims) wanted)) none)
      ∙ (ap (λ (x : Option Name). option_or x (b.wrong (before ++ a.dims) (past (length a.dims) wanted))) is
      ∙ sym (ap (λ (s : Said). s.wrong before wanted) (said_crossjoin l r)))))
