-- What is printed of an outline is read as the outline.
use Rattle.std.proofs.Common.{◌≡◌, ◌∙◌, ℕ, zero, suc, ◌+◌, ◌*◌, ◌<◌, ◌≤◌, ◌&&◌, Bool, true, false, not, List, [], ◌∷◌, length, map, Option, Some, None, Ok, refl, sym, ap, subst, arith, true≢false, codes}
use Rattle.std.specs.Prelude.{⊤, IsUtf8, if◌then◌else◌, option_map, slice_get}
use Rattle.std.specs.List.{AllByRecursion, AllZip}
use Rattle.std.proofs.lemmas.Bool.{leb-true, le-leb}
use Rattle.serde_json.specs.Data.{Data, null, string}
use Rattle.serde_json.specs.Find.{get}
use Rattle.serde_json.specs.Read.{read}
use Rattle.aso_tree.specs.Trees.{IsTree}
use Rattle.aso_outline.specs.declared.draft.Aggregate.{Aggregate}
use Rattle.aso_outline.specs.declared.draft.Aggregate.TheVariants.{All, Top, Bottom}
use Rattle.aso_outline.specs.declared.draft.Draft.{Draft}
use Rattle.aso_outline.specs.declared.draft.DraftAttr.{DraftAttr}
use Rattle.aso_outline.specs.declared.draft.DraftDim.{DraftDim}
use Rattle.aso_outline.specs.declared.draft.DraftHier.{DraftHier}
use Rattle.aso_outline.specs.declared.draft.DraftMember.{DraftMember}
use Rattle.aso_outline.specs.declared.draft.Expr.{Expr}
use Rattle.aso_outline.specs.Members.{parents_of}
use Rattle.aso_outline.specs.Rules.{broken}
use Rattle.aso_formula.specs.Printing.{formula_text}
use Rattle.aso_formula.proofs.Again.{spelled_again}
use Rattle.aso_outjson.specs.Answers.{IsOutline}
use Rattle.aso_outjson.specs.Fields.{each, list_in, need, or_default, text_in, word_in}
use Rattle.aso_outjson.specs.Formulas.{IsAttr, IsDim, IsDraft, IsFormula, IsHier, IsMember, is_dynamic}
use Rattle.aso_outjson.specs.Members.{tree_in}
use Rattle.aso_outjson.specs.Objects.{attr_in, dim_in, hier_in, outline_in}
use Rattle.aso_outjson.specs.Printing.{AreSpelled, AreSpelledIn, IsSound, IsSpelled, aggregate_value, always, attr_fields, attr_value, dim_fields, dim_value, hier_fields, hier_value, kind_value, list_of, object_of, outline_fields, outline_value, root_value, unless_empty}
use Rattle.aso_outjson.specs.Words.{aggregate_of, is_field, kind_of}
use Rattle.aso_outjson.specs.declared.object.Object.TheVariants.{Outline, Dimension, Hierarchy, Attribute}
use Rattle.aso_outjson.specs.declared.written.Kind.{Kind}
use Rattle.aso_outjson.specs.declared.written.Kind.TheVariants.{Stored, Dynamic}
use Rattle.aso_outjson.specs.declared.written.Written.{Written}
use Rattle.aso_outjson.specs.declared.written.WrittenAttr.{WrittenAttr}
use Rattle.aso_outjson.specs.declared.written.WrittenDim.{WrittenDim}
use Rattle.aso_outjson.specs.declared.written.WrittenHier.{WrittenHier}
use Rattle.aso_outjson.specs.declared.written.WrittenMember.{WrittenMember}
use Rattle.aso_outjson.proofs.FieldLists.{get_field, no_other_fields}
use Rattle.aso_outjson.proofs.MemberReads.{IsOrder, bind_ok, each_reads, list_or_none, list_reads, may_reads, need_reads, written_member}
use Rattle.aso_outjson.proofs.TreeReads.{root_reads}

-- ---- what is read

abbrev pub written_kind : Bool → Kind
written_kind dynamic = if dynamic then Dynamic else Stored

abbrev pub written_hier : DraftHier → WrittenHier
written_hier h = record { kind = written_kind h.dynamic; root = record { members = map written_member h.members } }

abbrev pub written_dim : DraftDim → WrittenDim
written_dim d = record { name = d.name; aggregate = d.aggregate; hiers = map written_hier d.hiers }

abbrev pub written_attr : DraftAttr → WrittenAttr
written_attr a = record { name = a.name; base = a.base; root = record { members = map written_member a.members } }

abbrev pub written_of : Draft → Written
written_of o = record { app = o.app; db = o.db; dims = map written_dim o.dims; attrs = map written_attr o.attrs }

-- a sound tree, whose solve orders a field may have
abbrev pub IsPlain : List DraftMember → Type 0
IsPlain ms = IsSound ms × ((k : ℕ) (m : DraftMember) → slice_get ms k ≡ Some m → IsOrder m.solve)

abbrev pub IsPlainHier : DraftHier → Type 0
IsPlainHier h = IsPlain h.members

abbrev pub IsPlainDim : DraftDim → Type 0
IsPlainDim d = AllByRecursion IsPlainHier d.hiers

abbrev pub IsPlainAttr : DraftAttr → Type 0
IsPlainAttr a = IsPlain a.members

tree_reads : (ms : List DraftMember) → IsPlain ms → tree_in (root_value ms) ≡ Ok (record { members = map written_member ms })
tree_reads ms plain = root_reads ms plain.0.tree plain.0.short plain.1 plain.0.some

kind_reads : (dynamic : Bool) → word_in kind_of (kind_value dynamic) ≡ Ok (written_kind dynamic)
kind_reads true = refl
kind_reads false = refl

aggregate_reads : (aggregate : Aggregate) → or_default (word_in aggregate_of) All (aggregate_value aggregate) ≡ Ok aggregate
aggregate_reads All = refl
aggregate_reads Top = refl
aggregate_reads Bottom = refl

hier_reads : (h : DraftHier) → IsPlainHier h → hier_in (hier_value h) ≡ Ok (written_hier h)
unfolding hier_in
hier_reads h plain =
    let d = hier_value h in
    let kind_there : get (codes "kind") d ≡ Some (kind_value h.dynamic) = get_field (codes "kind") (hier_fields h) (Some (kind_value h.dynamic)) refl in
    let root_there : get (codes "root") d ≡ Some (root_value h.members) = get_field (codes "root") (hier_fields h) (Some (root_value h.members)) refl in
    bind_ok _ _ _ (need_reads (word_in kind_of) (codes "kind") d (kind_value h.dynamic) (written_kind h.dynamic) kind_there (kind_reads h.dynamic))
    ∙ (bind_ok _ _ _ (need_reads tree_in (codes "root") d (root_value h.members) (record { members = map written_member h.members }) root_there (tree_reads h.members plain))
    ∙ bind_ok _ tt (λ u. Ok (written_hier h)) (no_other_fields (is_field Hierarchy) (hier_fields h) refl))

dim_reads : (x : DraftDim) → IsPlainDim x → dim_in (dim_value x) ≡ Ok (written_dim x)
unfolding dim_in
dim_reads x plain =
    let d = dim_value x in
    let name_there : get (codes "name") d ≡ Some (string x.name) = get_field (codes "name") (dim_fields x) (always x.name) refl in
    let aggregate_there : get (codes "aggregate") d ≡ aggregate_value x.aggregate = get_field (codes "aggregate") (dim_fields x) (aggregate_value x.aggregate) refl in
    let hiers_there : get (codes "hierarchies") d ≡ Some (list_of (map hier_value x.hiers)) = get_field (codes "hierarchies") (dim_fields x) (Some (list_of (map hier_value x.hiers))) refl in
    let hiers_read = list_reads hier_in (map hier_value x.hiers) (map written_hier x.hiers) (each_reads hier_in hier_value written_hier IsPlainHier hier_reads 0 x.hiers plain) in
    bind_ok _ _ _ (need_reads text_in (codes "name") d (string x.name) x.name name_there refl)
    ∙ (bind_ok _ _ _ (may_reads (word_in aggregate_of) All (codes "aggregate") d (aggregate_value x.aggregate) x.aggregate aggregate_there (aggregate_reads x.aggregate))
    ∙ (bind_ok _ _ _ (need_reads (list_in hier_in) (codes "hierarchies") d (list_of (map hier_value x.hiers)) (map written_hier x.hiers) hiers_there hiers_read)
    ∙ bind_ok _ tt (λ u. Ok (written_dim x)) (no_other_fields (is_field Dimension) (dim_fields x) refl)))

attr_reads : (a : DraftAttr) → IsPlainAttr a → attr_in (attr_value a) ≡ Ok (written_attr a)
unfolding attr_in
attr_reads a plain =
    let d = attr_value a in
    let root_there : get (codes "root") d ≡ Some (root_value a.members) = get_field (codes "root") (attr_fields a) (Some (root_value a.members)) refl in
    bind_ok _ _ _ (need_reads tree_in (codes "root") d (root_value a.members) (record { members = map written_member a.members }) root_there (tree_reads a.members plain))

pub outline_reads : (o : Draft) → AllByRecursion IsPlainDim o.dims → AllByRecursion IsPlainAttr o.attrs → outline_in (outline_value o) ≡ Ok (written_of o)
unfolding outline_in
outline_reads o dims attrs =
    let d = outline_value o in
    let db_there : get (codes "db") d ≡ Some (string o.db) = get_field (codes "db") (outline_fields o) (always o.db) refl in
    let dims_there : get (codes "dimensions") d ≡ Some (list_of (map dim_value o.dims)) = get_field (codes "dimensions") (outline_fields o) (Some (list_of (map dim_value o.dims))) refl in
    let attrs_there : get (codes "attributes") d ≡ unless_empty (map attr_value o.attrs) = get_field (codes "attributes") (outline_fields o) (unless_empty (map attr_value o.attrs)) refl in
    let dims_read = list_reads dim_in (map dim_value o.dims) (map written_dim o.dims) (each_reads dim_in dim_value written_dim IsPlainDim dim_reads 0 o.dims dims) in
    let attrs_read = list_or_none attr_in (map attr_value o.attrs) (map written_attr o.attrs) (each_reads attr_in attr_value written_attr IsPlainAttr attr_reads 0 o.attrs attrs) in
    bind_ok _ _ _ (need_reads text_in (codes "db") d (string o.db) o.db db_there refl)
    ∙ (bind_ok _ _ _ (need_reads (list_in dim_in) (codes "dimensions") d (list_of (map dim_value o.dims)) (map written_dim o.dims) dims_there dims_read)
    ∙ (bind_ok _ _ _ (may_reads (list_in attr_in) [] (codes "attributes") d (unless_empty (map attr_value o.attrs)) (map written_attr o.attrs) attrs_there attrs_read)
    ∙ bind_ok _ tt (λ u. Ok (written_of o)) (no_other_fields (is_field Outline) (outline_fields o) refl)))

-- ---- the draft that is made of it

zip_map : {X W : Type 0} (R : W → X → Type 0) (f : X → W) (Fits : X → Type 0) → ((x : X) → Fits x → R (f x) x) → (xs : List X) → AllByRecursion Fits xs → AllZip R (map f xs) xs
zip_map R f Fits fit [] all = tt
zip_map R f Fits fit (x ∷ xs) all = (fit x all.0, zip_map R f Fits fit xs all.1)

formula_is : (formula : Option Expr) → IsSpelled formula → IsFormula (option_map formula_text formula) formula
formula_is None spelled = tt
formula_is (Some e) spelled = spelled_again (formula_text e) e refl spelled.0 spelled.1

member_is : (m : DraftMember) → IsSpelled m.formula → IsMember (written_member m) m
member_is m spelled = (formula_is m.formula spelled, refl)

dynamic_is : (dynamic : Bool) → is_dynamic (written_kind dynamic) ≡ dynamic
dynamic_is true = refl
dynamic_is false = refl

members_are : (ms : List DraftMember) → AreSpelledIn ms → AllZip IsMember (map written_member ms) ms
members_are ms spelled = zip_map IsMember written_member (λ (m : DraftMember). IsSpelled m.formula) member_is ms spelled

hier_is : (h : DraftHier) → AreSpelledIn h.members → IsHier (written_hier h) h
hier_is h spelled = (members_are h.members spelled, ap (λ dynamic. record { dynamic = dynamic; members = h.members }) (sym (dynamic_is h.dynamic)))

dim_is : (d : DraftDim) → AllByRecursion (λ (h : DraftHier). AreSpelledIn h.members) d.hiers → IsDim (written_dim d) d
dim_is d spelled = (zip_map IsHier written_hier (λ (h : DraftHier). AreSpelledIn h.members) hier_is d.hiers spelled, refl)

attr_is : (a : DraftAttr) → AreSpelledIn a.members → IsAttr (written_attr a) a
attr_is a spelled = (members_are a.members spelled, refl)

pub draft_is : (o : Draft) → AreSpelled o → IsDraft (written_of o) o
draft_is o spelled = (
  zip_map IsDim written_dim (λ (d : DraftDim). AllByRecursion (λ (h : DraftHier). AreSpelledIn h.members) d.hiers) dim_is o.dims spelled.0,
  zip_map IsAttr written_attr (λ (a : DraftAttr). AreSpelledIn a.members) attr_is o.attrs spelled.1,
  refl,
)

-- ---- an outline that some text writes has formulas that some text spells

zip_all : {X W : Type 0} (R : W → X → Type 0) (Fits : X → Type 0) → ((w : W) (x : X) → R w x → Fits x) → (ws : List W) (xs : List X) → AllZip R ws xs → AllByRecursion Fits xs
zip_all R Fits fit [] [] zip = tt
zip_all R Fits fit [] (x ∷ xs) zip = absurd zip
zip_all R Fits fit (w ∷ ws) [] zip = absurd zip
zip_all R Fits fit (w ∷ ws) (x ∷ xs) zip = (fit w x zip.0, zip_all R Fits fit ws xs zip.1)

text_spelled : (text : Option (List ℕ)) (formula : Option Expr) → IsFormula text formula → IsSpelled formula
text_spelled text None is = tt
text_spelled None (Some e) is = absurd is
text_spelled (Some text) (Some e) is = (text, is)

members_spelled : (ws : List WrittenMember) (ms : List DraftMember) → AllZip IsMember ws ms → AreSpelledIn ms
members_spelled ws ms zip = zip_all IsMember (λ (m : DraftMember). IsSpelled m.formula) (λ w m is. text_spelled w.formula m.formula is.0) ws ms zip

draft_spelled_in : (w : Written) (o : Draft) → IsDraft w o → AreSpelled o
draft_spelled_in w o is = (
  zip_all IsDim (λ (d : DraftDim). AllByRecursion (λ (h : DraftHier). AreSpelledIn h.members) d.hiers)
      (λ x d there. zip_all IsHier (λ (h : DraftHier). AreSpelledIn h.members) (λ y h at. members_spelled y.root.members h.members at.0) x.hiers d.hiers there.0) w.dims o.dims is.0,
  zip_all IsAttr (λ (a : DraftAttr). AreSpelledIn a.members) (λ x a there. members_spelled x.root.members a.members there.0) w.attrs o.attrs is.1,
)

pub written_spelled : (text : List ℕ) (o : Draft) → IsOutline text o → AreSpelled o
written_spelled text o is = draft_spelled_in is.0.0 o is.0.2

-- ---- the text

pub writes_again : (o : Draft) (bytes : List ℕ) → broken o ≡ None → AllByRecursion IsPlainDim o.dims → AllByRecursion IsPlainAttr o.attrs → IsUtf8 bytes → read bytes ≡ Some (outline_value o) → AreSpelled o → IsOutline bytes o
writes_again o bytes kept dims attrs utf8 reads spelled = ((written_of o, (outline_value o, (utf8, reads), outline_reads o dims attrs), draft_is o spelled), kept)
