-- The base dimension of an attribute dimension.
use Rattle.std.proofs.Common.{◌≡◌, ◌∙◌, ℕ, ◌<◌, [], length, get_or, Option, sym, ap}
use Rattle.std.specs.Prelude.{unwrap_or}
use Rattle.std.specs.Option.{option_map}
use Rattle.std.specs.List.{position}
use Rattle.std.proofs.lemmas.Option.{slice_get-get_or}
use Rattle.aso_outline.specs.declared.draft.Draft.{Draft}
use Rattle.aso_outline.specs.declared.draft.DraftAttr.{DraftAttr}
use Rattle.aso_outline.specs.declared.draft.DraftDim.{DraftDim}
use Rattle.aso_outline.specs.Members.{Name, same_name}
use Rattle.aso_outline.specs.Rules.{base_of}
use Rattle.aso_sums.specs.Stored.{attr_dim}

base_here : (o : Draft) (a : ℕ) (x : DraftAttr) → a < length o.attrs → x ≡ get_or o.attrs a x → base_of o a ≡ x.base
base_here o a x lt e = ap (λ (found : Option DraftAttr). unwrap_or (option_map (λ (y : DraftAttr). y.base) found) []) (slice_get-get_or o.attrs a x lt) ∙ ap (λ (y : DraftAttr). y.base) (sym e)

pub attr_dim_named : (o : Draft) (a : ℕ) (x : DraftAttr) (name : Name) (found : Option ℕ) → a < length o.attrs → x ≡ get_or o.attrs a x → name ≡ x.base → found ≡ position (λ (d : DraftDim). same_name name d.name) o.dims → found ≡ attr_dim o a
attr_dim_named o a x name found lt e en ef = ef ∙ ap (λ (n : Name). position (λ (d : DraftDim). same_name n d.name) o.dims) (en ∙ sym (base_here o a x lt e))
