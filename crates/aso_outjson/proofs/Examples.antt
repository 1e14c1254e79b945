-- The definitions, computed on the Basic outline and on small values with a fault.
use Rattle.std.proofs.Common.{◌≡◌, ℕ, List, [], ◌∷◌, true, map, flat_map, length, refl, codes, Some, None, Option, Ok, Err}
use Rattle.serde_json.specs.Data.{Data, null, boolean, number, string, array, object, unsigned, Members, no_members, member}
use Rattle.serde_json.specs.View.{items_of}
use Rattle.serde_json.proofs.OnLiterals.{serde_json_on_literals}
use Rattle.std.specs.Fmt.{decimal}
use Rattle.aso_outjson.specs.Fields.{Found, Path}
use Rattle.aso_outjson.specs.Formulas.{all_formulas}
use Rattle.aso_outjson.specs.Members.{member_in, tree_at, tree_in}
use Rattle.aso_outjson.specs.Objects.{attr_in, dim_in, hier_in, outline_in}
use Rattle.aso_outjson.specs.Pointer.{pointer}
use Rattle.aso_outjson.specs.declared.written.Written.{Written}
use Rattle.aso_outjson.specs.declared.written.WrittenDim.{WrittenDim}
use Rattle.aso_outjson.specs.declared.written.WrittenHier.{WrittenHier}
use Rattle.aso_outjson.specs.declared.written.WrittenMember.{WrittenMember}

-- ---- values

abbrev listed : List Data → Data
listed ds = array (items_of ds)

abbrev named : List ℕ → Members → Data
named name more = object (member (codes "name") (string name) more)

abbrev leaf : List ℕ → Data
leaf name = named name no_members

abbrev node : List ℕ → List Data → Data
node name below = named name (member (codes "children") (listed below) no_members)

abbrev shared : List ℕ → Data
shared name = named name (member (codes "shared") (boolean true) no_members)

abbrev carrier : List ℕ → List ℕ → Data
carrier name carried = named name (member (codes "attributes") (listed (string carried ∷ [])) no_members)

abbrev formula : List ℕ → List ℕ → Data
formula name text = named name (member (codes "formula") (string text) no_members)

abbrev hier : List ℕ → Data → Data
hier kind root = object (member (codes "kind") (string kind) (member (codes "root") root no_members))

abbrev dim : List ℕ → List Data → Data
dim name hiers = named name (member (codes "hierarchies") (listed hiers) no_members)

abbrev attr : List ℕ → List ℕ → Data → Data
attr name base root = named name (member (codes "base") (string base) (member (codes "root") root no_members))

abbrev outline : List Data → Members → Data
outline dims more = object (member (codes "app") (string (codes "Sample")) (member (codes "db") (string (codes "Basic")) (member (codes "dimensions") (listed dims) more)))

abbrev stored : Data → Data
stored root = hier (codes "stored") root

abbrev dynamic : Data → Data
dynamic root = hier (codes "dynamic") root

abbrev both : List Data
both = shared (codes "NY") ∷ shared (codes "CA") ∷ []

abbrev basic : Data
basic = outline
    (dim (codes "Year") (stored (node (codes "Year") (leaf (codes "Jan") ∷ leaf (codes "Feb") ∷ [])) ∷ [])
    ∷ dim (codes "Market") (
    stored (node (codes "Total") (node (codes "East") (carrier (codes "NY") (codes "Large") ∷ carrier (codes "MA") (codes "Small") ∷ []) ∷ carrier (codes "CA") (codes "Small") ∷ []))
    ∷ stored (node (codes "Big") both) ∷ dynamic (node (codes "Sum") both) ∷ [])
    ∷ dim (codes "Measures") (dynamic (node (codes "Measures") (
    leaf (codes "Sales") ∷ leaf (codes "Cost") ∷ formula (codes "Margin") (codes "[Sales] - [Cost]") ∷ formula (codes "Pct") (codes "[Margin] / [Sales]") ∷ [])) ∷ [])
    ∷ [])
    (member (codes "attributes") (listed (attr (codes "Size") (codes "Market") (node (codes "Size") (leaf (codes "Large") ∷ leaf (codes "Small") ∷ [])) ∷ [])) no_members)

-- ---- what is written

abbrev read_as : {A : Type 0} → (Written → A) → Found Written → Option A
read_as f (Ok w) = Some (f w)
read_as f (Err path) = None

abbrev parents : Written → List (List ℕ)
parents w = flat_map (λ (d : WrittenDim). map (λ (h : WrittenHier). map (λ (m : WrittenMember). m.parent) h.root.members) d.hiers) w.dims

trees_are_in_preorder : read_as parents (outline_in basic) ≡ Some (
    (4294967295 ∷ 0 ∷ 0 ∷ [])
    ∷ (4294967295 ∷ 0 ∷ 1 ∷ 1 ∷ 0 ∷ []) ∷ (4294967295 ∷ 0 ∷ 0 ∷ []) ∷ (4294967295 ∷ 0 ∷ 0 ∷ [])
    ∷ (4294967295 ∷ 0 ∷ 0 ∷ 0 ∷ 0 ∷ []) ∷ [])
unfolding outline_in attr_in dim_in hier_in tree_in tree_at member_in
trees_are_in_preorder = refl

members_have_23_numbers : read_as (λ w. length (all_formulas w)) (outline_in basic) ≡ Some 23
unfolding outline_in attr_in dim_in hier_in tree_in tree_at member_in
members_have_23_numbers = refl

-- ---- first faults

abbrev fault : Found Written → Path
fault (Ok w) = codes "none" ∷ []
fault (Err path) = path

abbrev year : List Data → Data
year more = dim (codes "Year") (stored (node (codes "Year") more) ∷ [])

first_faults : map (λ d. fault (outline_in d)) (
    null
    ∷ object no_members
    ∷ outline (year [] ∷ named (codes "Market") (member (codes "aggregate") (string (codes "all")) no_members) ∷ []) no_members
    ∷ outline (year [] ∷ object (member (codes "name") (number (unsigned 7)) no_members) ∷ []) no_members
    ∷ outline (year (leaf (codes "Jan") ∷ named (codes "Feb") (member (codes "solve") (number (unsigned 256)) (member (codes "x") null no_members)) ∷ []) ∷ []) no_members
    ∷ outline (year (leaf (codes "Jan") ∷ named (codes "Feb") (member (codes "a/b") null (member (codes "x") null no_members)) ∷ []) ∷ []) no_members
    ∷ outline [] (member (codes "~") null no_members) ∷ [])
    ≡ (
    []
    ∷ (codes "app" ∷ [])
    ∷ (codes "dimensions" ∷ decimal 1 ∷ codes "hierarchies" ∷ [])
    ∷ (codes "dimensions" ∷ decimal 1 ∷ codes "name" ∷ [])
    ∷ (codes "dimensions" ∷ decimal 0 ∷ codes "hierarchies" ∷ decimal 0 ∷ codes "root" ∷ codes "children" ∷ decimal 1 ∷ codes "solve" ∷ [])
    ∷ (codes "dimensions" ∷ decimal 0 ∷ codes "hierarchies" ∷ decimal 0 ∷ codes "root" ∷ codes "children" ∷ decimal 1 ∷ codes "a/b" ∷ [])
    ∷ (codes "~" ∷ []) ∷ [])
unfolding serde_json_on_literals outline_in attr_in dim_in hier_in tree_in tree_at member_in
first_faults = refl

-- ---- pointers

pointers_escape : map pointer ([] ∷ (codes "app" ∷ []) ∷ (codes "root" ∷ codes "a/b" ∷ []) ∷ (codes "~" ∷ []) ∷ (codes "~1" ∷ []) ∷ []) ≡ [] ∷ codes "/app" ∷ codes "/root/a~1b" ∷ codes "/~0" ∷ codes "/~01" ∷ []
pointers_escape = refl
