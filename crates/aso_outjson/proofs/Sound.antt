-- The trees of an outline are sound, and its solve orders are such as a field may have.
use Rattle.std.proofs.Common.{◌≡◌, ◌∙◌, ℕ, zero, suc, ◌<◌, ◌≤◌, ◌&&◌, Bool, true, false, not, List, [], ◌∷◌, length, Option, Some, None, refl, sym, ap, subst, arith, true≢false}
use Rattle.std.specs.Prelude.{⊤, is_some, nat_le, slice_get, unwrap_or}
use Rattle.std.specs.Option.{option_map}
use Rattle.std.specs.List.{AllByRecursion, position}
use Rattle.std.proofs.lemmas.Bool.{leb-true, le-leb}
use Rattle.std.proofs.lemmas.Option.{none-some}
use Rattle.aso_outline.specs.declared.draft.Draft.{Draft}
use Rattle.aso_outline.specs.declared.draft.DraftAttr.{DraftAttr}
use Rattle.aso_outline.specs.declared.draft.DraftDim.{DraftDim}
use Rattle.aso_outline.specs.declared.draft.DraftHier.{DraftHier}
use Rattle.aso_outline.specs.declared.draft.DraftMember.{DraftMember}
use Rattle.aso_outline.specs.declared.seat.Seat.{Seat}
use Rattle.aso_outline.specs.declared.seat.Seat.TheVariants.{Inner, Carried}
use Rattle.aso_outline.specs.Kept.{HasRoots}
use Rattle.aso_outline.specs.Members.{attr_tree, dim_at, has, is_computed, member_at, no_dim, place_of, seats, tree, tree_of}
use Rattle.aso_outline.specs.Rules.{breaks_orders, broken, least, rules}
use Rattle.aso_outline.specs.Small.{HasTrees}
use Rattle.aso_outline.proofs.AtSeats.{none_at}
use Rattle.aso_outline.proofs.Kept.{has_trees}
use Rattle.aso_outline.proofs.Rooted.{each_kept}
use Rattle.aso_outjson.specs.Printing.{AreSoundAttrs, AreSoundDims, IsSound}
use Rattle.aso_outjson.proofs.MemberReads.{IsOrder}
use Rattle.aso_outjson.proofs.OutlineReads.{IsPlain, IsPlainAttr, IsPlainDim, IsPlainHier}

-- ---- parts by their places

all_of : {X : Type 0} (P : X → Type 0) (xs : List X) → ((k : ℕ) (x : X) → slice_get xs k ≡ Some x → P x) → AllByRecursion P xs
all_of P [] each = tt
all_of P (x ∷ xs) each = (each 0 x refl, all_of P xs (λ k y is. each (suc k) y is))

within : {X : Type 0} (xs : List X) (k : ℕ) (x : X) → slice_get xs k ≡ Some x → k < length xs
within [] k x is = absurd (none-some x is)
within (y ∷ ys) zero x is = omega arith
within (y ∷ ys) (suc k) x is = omega (arith, within ys k x is)

dim_is : (o : Draft) (d : ℕ) (x : DraftDim) → slice_get o.dims d ≡ Some x → dim_at o d ≡ x
dim_is o d x is = ap (λ r. unwrap_or r no_dim) is

tree_is : (o : Draft) (d h : ℕ) (x : DraftDim) (y : DraftHier) → slice_get o.dims d ≡ Some x → slice_get x.hiers h ≡ Some y → tree (dim_at o d) h ≡ y.members
tree_is o d h x y is at = ap (λ (z : DraftDim). tree z h) (dim_is o d x is) ∙ ap (λ r. unwrap_or (option_map (λ (z : DraftHier). z.members) r) []) at

attr_is : (o : Draft) (a : ℕ) (x : DraftAttr) → slice_get o.attrs a ≡ Some x → attr_tree o a ≡ x.members
attr_is o a x is = ap (λ r. unwrap_or (option_map (λ (z : DraftAttr). z.members) r) []) is

-- ---- sound trees

module _ (o : Draft) (trees : HasTrees o) (roots : HasRoots o) where
  sound_hier : (d h : ℕ) (x : DraftDim) (y : DraftHier) → slice_get o.dims d ≡ Some x → slice_get x.hiers h ≡ Some y → IsSound y.members
  sound_hier d h x y is at =
      let low : h < length (dim_at o d).hiers = subst (λ (z : DraftDim). h < length z.hiers) (sym (dim_is o d x is)) (within x.hiers h y at) in
      subst IsSound (tree_is o d h x y is at) (record { tree = trees.tree (Inner d h 0); short = trees.short (Inner d h 0); some = roots.trees d h (within o.dims d x is) low })

  pub sound_dims : AreSoundDims o.dims
  sound_dims d x is h y at = sound_hier d h x y is at

  pub sound_attrs : AreSoundAttrs o.attrs
  sound_attrs a x is = subst IsSound (attr_is o a x is) (record { tree = trees.tree (Carried a 0); short = trees.short (Carried a 0); some = roots.attrs a (within o.attrs a x is) })

-- ---- solve orders

module _ (o : Draft) (kept : broken o ≡ None) where
  kept_orders : position (breaks_orders o) (seats o) ≡ None
  unfolding broken
  kept_orders = each_kept rules o kept 8 (9, least breaks_orders) refl

  order_of : (solve : Option ℕ) (rest : Bool) → (is_some solve && not (nat_le (unwrap_or solve 0) 127 && rest)) ≡ false → IsOrder solve
  order_of None rest h = tt
  order_of (Some n) rest h = low (nat_le n 127) refl h
    where
      low : (b : Bool) → nat_le n 127 ≡ b → (true && not (b && rest)) ≡ false → nat_le n 255 ≡ true
      low true is h = let le : n ≤ 127 = leb-true n 127 is in le-leb n 255 (omega (arith, le))
      low false is h = absurd (true≢false h)

  abbrev rest_of : Seat → Bool
  rest_of s = is_computed o s && has (λ m. not m.label_only) o s

  abbrev breaks : Option DraftMember → Bool → Bool
  breaks found rest = unwrap_or (option_map (λ (m : DraftMember). is_some m.solve) found) false && not (unwrap_or (option_map (λ (m : DraftMember). nat_le (unwrap_or m.solve 0) 127) found) false && rest)

  order_at : (s : Seat) (m : DraftMember) → place_of s < length (tree_of o s) → member_at o s ≡ Some m → IsOrder m.solve
  order_at s m low is = order_of m.solve (rest_of s) (ap (λ r. breaks r (rest_of s)) (sym is) ∙ none_at o (breaks_orders o) kept_orders s low)

  orders_in : (d h k : ℕ) (m : DraftMember) → slice_get (tree (dim_at o d) h) k ≡ Some m → IsOrder m.solve
  orders_in d h k m is = order_at (Inner d h k) m (within (tree (dim_at o d) h) k m is) is

  orders_carried : (a k : ℕ) (m : DraftMember) → slice_get (attr_tree o a) k ≡ Some m → IsOrder m.solve
  orders_carried a k m is = order_at (Carried a k) m (within (attr_tree o a) k m is) is

  module _ (dims : AreSoundDims o.dims) (attrs : AreSoundAttrs o.attrs) where
    pub plain_dims : AllByRecursion IsPlainDim o.dims
    plain_dims = all_of IsPlainDim o.dims (λ d x is. all_of IsPlainHier x.hiers (λ h y at.
        (dims d x is h y at, λ k m there. orders_in d h k m (ap (λ (ms : List DraftMember). slice_get ms k) (tree_is o d h x y is at) ∙ there))))

    pub plain_attrs : AllByRecursion IsPlainAttr o.attrs
    plain_attrs = all_of IsPlainAttr o.attrs (λ a x is. (attrs a x is, λ k m there. orders_carried a k m (ap (λ (ms : List DraftMember). slice_get ms k) (attr_is o a x is) ∙ there)))
