-- The lines of an outline by dimension, and the table of the last place at each depth.
use Rattle.std.proofs.Common.{◌≡◌, ℕ, zero, suc, ◌+◌, ◌-◌, ◌<◌, ◌≤◌, Bool, true, false, not, eqb, List, [], ◌∷◌, ◌++◌, map, length, take, drop, get_or, Option, Some, None, unwrap_or, cond, append_assoc, refl, sym, ap, ◌∙◌, arith, add-one}
use Rattle.std.specs.Prelude.{if◌then◌else◌, slice_index}
use Rattle.std.specs.Option.{option_map}
use Rattle.std.specs.List.{prefix_len, filter, last_or, range_with_len, take-map, drop-map}
use Rattle.std.proofs.lemmas.List.{append-nil, drop_all, get_or-map, length-map}
use Rattle.std.proofs.lemmas.List.Elements.{filter-append}
use Rattle.std.proofs.lemmas.List.FromFn.{map-range_with_len_more}
use Rattle.std.proofs.lemmas.Option.{slice_get-get_or}
use Rattle.aso_tree.specs.Trees.{no_parent}
use Rattle.aso_tree.proofs.Paths.{range_push}
use Rattle.aso_outline.specs.declared.draft.Draft.{Draft}
use Rattle.aso_outline.specs.declared.draft.DraftAttr.{DraftAttr}
use Rattle.aso_outline.specs.declared.draft.DraftDim.{DraftDim}
use Rattle.aso_outline.specs.declared.draft.DraftMember.{DraftMember}
use Rattle.aso_spec.specs.Drafts.{Member as Line}
use Rattle.aso_spec.specs.Drafts.{joined, dims_of, name_of, depths_of, last_at, parent_at, draft_member, member_of, draft_dim}
use Rattle.aso_sheettext.specs.declared.text.MemberText.{MemberText}
use Rattle.aso_sheettext.specs.declared.text.OutlineText.{OutlineText}
use Rattle.aso_sheettext.specs.Texts.{member, outline}
use Rattle.aso_outtext.specs.Drafts.{as_line, draft_of}
use Rattle.aso_outtext.specs.Tables.{is_deeper, last_in, line_of, parent_by}

-- ---- the last place at each depth

last_joined : (o : Option ℕ) (xs ys : List ℕ) → last_or o (xs ++ ys) ≡ last_or (last_or o xs) ys
last_joined o [] ys = refl
last_joined o (x ∷ xs) ys = last_joined (Some x) xs ys

last_step : (o : Option ℕ) (i : ℕ) (t : Bool) → unwrap_or (last_or o (cond t (i ∷ []) [])) 0 ≡ cond t i (unwrap_or o 0)
last_step o i true = refl
last_step o i false = refl

last_more : (depths : List ℕ) (i e : ℕ) → last_at depths (i + 1) e ≡ cond (eqb (slice_index depths i) e) i (last_at depths i e)
last_more depths i e =
    let test = λ (j : ℕ). eqb (slice_index depths j) e in
    let before = range_with_len 0 i in
    let range : range_with_len 0 (i + 1) ≡ before ++ i ∷ [] = rw add-one (range_push 0 i i (omega arith)) in
    ap (λ (xs : List ℕ). unwrap_or (last_or None (filter test xs)) 0) range
    ∙ ap (λ (xs : List ℕ). unwrap_or (last_or None xs) 0) (filter-append test before (i ∷ []))
    ∙ ap (λ (o : Option ℕ). unwrap_or o 0) (last_joined None (filter test before) (filter test (i ∷ [])))
    ∙ last_step (last_or None (filter test before)) i (test i)

abbrev pub IsTable : List ℕ → List ℕ → ℕ → Type 0
IsTable depths last i = (e : ℕ) → last_in last e ≡ last_at depths i e

pub no_table : (depths : List ℕ) → IsTable depths [] 0
no_table depths e = refl

pub last_in-longer : (last : List ℕ) (e : ℕ) → last_in (last ++ 0 ∷ []) e ≡ last_in last e
last_in-longer [] zero = refl
last_in-longer [] (suc e) = refl
last_in-longer (x ∷ xs) zero = refl
last_in-longer (x ∷ xs) (suc e) = last_in-longer xs e

-- a place that is noted at the depth of its line
pub table_more : (depths old new : List ℕ) (i d : ℕ) → slice_index depths i ≡ d → ((e : ℕ) → last_in new e ≡ (if eqb d e then i else last_in old e)) → IsTable depths old i → IsTable depths new (i + 1)
table_more depths old new i d here noted table e =
    noted e
    ∙ ap (λ (x : ℕ). cond (eqb d e) i x) (table e)
    ∙ ap (λ (x : ℕ). cond (eqb x e) i (last_at depths i e)) (sym here)
    ∙ sym (last_more depths i e)

same_parent : (depths last : List ℕ) (i d : ℕ) → IsTable depths last i → parent_by last d ≡ (if eqb d 0 then no_parent else last_at depths i (d - 1))
same_parent depths last i d table = ap (λ (x : ℕ). if eqb d 0 then no_parent else x) (table (d - 1))

-- ---- a line by its place

-- what the code reads past the last line
abbrev pub blank : MemberText
blank = record { depth = 0; name = record { ref_ptr = (0, 0); now = [] } }

line_here : (lines : List MemberText) (i : ℕ) → i < length lines → get_or (map line_of lines) i (line_of blank) ≡ line_of (get_or lines i blank)
line_here lines i lt = get_or-map line_of lines i blank (line_of blank) lt

pub depth_here : (lines : List MemberText) (i : ℕ) → i < length lines → slice_index (depths_of (map line_of lines)) i ≡ (get_or lines i blank).depth
depth_here lines i lt =
    let lt2 : i < length (map line_of lines) = omega (arith, length-map lines line_of) in
    get_or-map (λ (m : Line). m.depth) (map line_of lines) i (line_of blank) 0 lt2 ∙ ap (λ (m : Line). m.depth) (line_here lines i lt)

name_here : (lines : List MemberText) (i : ℕ) → i < length lines → name_of (map line_of lines) i ≡ (get_or lines i blank).name.now
name_here lines i lt =
    let lt2 : i < length (map line_of lines) = omega (arith, length-map lines line_of) in
    ap (λ (o : Option Line). unwrap_or (option_map (λ (m : Line). m.name) o) []) (slice_get-get_or (map line_of lines) i (line_of blank) lt2 ∙ ap (λ (m : Line). Some m) (line_here lines i lt))

pub member_here : (lines : List MemberText) (i : ℕ) (last : List ℕ) (p : ℕ) (m : DraftMember) → i < length lines → IsTable (depths_of (map line_of lines)) last i → p ≡ parent_by last (get_or lines i blank).depth → m ≡ draft_member p (get_or lines i blank).name.now → m ≡ member_of (map line_of lines) i
member_here lines i last p m lt table ep em =
    let depths = depths_of (map line_of lines) in
    let x = get_or lines i blank in
    em
    ∙ ap (λ (q : ℕ). draft_member q x.name.now) (ep ∙ same_parent depths last i x.depth table ∙ ap (λ (d : ℕ). if eqb d 0 then no_parent else last_at depths i (d - 1)) (sym (depth_here lines i lt)))
    ∙ ap (draft_member (parent_at depths i)) (sym (name_here lines i lt))

pub tree_more : (new old : List DraftMember) (m : DraftMember) (f : ℕ → DraftMember) (i : ℕ) → new ≡ old ++ m ∷ [] → old ≡ map f (range_with_len 0 i) → m ≡ f i → new ≡ map f (range_with_len 0 (i + 1))
tree_more new old m f i en eo em = en ∙ ap (λ (xs : List DraftMember). xs ++ m ∷ []) eo ∙ ap (λ (x : DraftMember). map f (range_with_len 0 i) ++ x ∷ []) em ∙ sym (map-range_with_len_more f 0 i i (omega arith))

-- ---- the lines of the first dimension

dims_step : (m n : Line) (ys : List Line) (t : Bool) → eqb n.depth 0 ≡ t → dims_of (n ∷ ys) ≡ (n ∷ take (prefix_len is_deeper ys) ys) ∷ dims_of (drop (prefix_len is_deeper ys) ys)
    → dims_of (m ∷ n ∷ ys) ≡ (m ∷ take (cond (not t) (1 + prefix_len is_deeper ys) 0) (n ∷ ys)) ∷ dims_of (drop (cond (not t) (1 + prefix_len is_deeper ys) 0) (n ∷ ys))
dims_step m n ys true e ih =
    let k = prefix_len is_deeper ys in
    ap (joined m) ih
    ∙ ap (λ (b : Bool). if b then (m ∷ []) ∷ (n ∷ take k ys) ∷ dims_of (drop k ys) else (m ∷ n ∷ take k ys) ∷ dims_of (drop k ys)) e
    ∙ ap (λ (dims : List (List Line)). (m ∷ []) ∷ dims) (sym ih)
dims_step m n ys false e ih =
    let k = prefix_len is_deeper ys in
    let one : suc k ≡ 1 + k = omega arith in
    ap (joined m) ih
    ∙ ap (λ (b : Bool). if b then (m ∷ []) ∷ (n ∷ take k ys) ∷ dims_of (drop k ys) else (m ∷ n ∷ take k ys) ∷ dims_of (drop k ys)) e
    ∙ ap (λ (j : ℕ). (m ∷ take j (n ∷ ys)) ∷ dims_of (drop j (n ∷ ys))) one

dims_cut : (m : Line) (xs : List Line) → dims_of (m ∷ xs) ≡ (m ∷ take (prefix_len is_deeper xs) xs) ∷ dims_of (drop (prefix_len is_deeper xs) xs)
dims_cut m [] = refl
dims_cut m (n ∷ ys) = dims_step m n ys (eqb n.depth 0) refl (dims_cut n ys)

dims_split : (lines front rest : List MemberText) (r : ℕ) → 0 < length lines → r ≡ 1 + prefix_len is_deeper (map line_of (drop 1 lines)) → front ≡ take r lines → rest ≡ drop r lines → dims_of (map line_of lines) ≡ map line_of front ∷ dims_of (map line_of rest)
dims_split [] front rest r some er ef eb = absurd (omega arith)
dims_split (x ∷ xs) front rest r some er ef eb =
    let k = prefix_len is_deeper (map line_of xs) in
    let one : 1 + k ≡ suc k = omega arith in
    let cut : dims_of (map line_of (x ∷ xs)) ≡ map line_of (take (suc k) (x ∷ xs)) ∷ dims_of (map line_of (drop (suc k) (x ∷ xs))) = rw (← take-map line_of k xs, ← drop-map line_of k xs) (dims_cut (line_of x) (map line_of xs)) in
    cut ∙ ap (λ (j : ℕ). map line_of (take j (x ∷ xs)) ∷ dims_of (map line_of (drop j (x ∷ xs)))) (sym (er ∙ one))
    ∙ ap (λ (ls : List MemberText). map line_of ls ∷ dims_of (map line_of (drop r (x ∷ xs)))) (sym ef)
    ∙ ap (λ (ls : List MemberText). map line_of front ∷ dims_of (map line_of ls)) (sym eb)

pub dims_more : (new old : List DraftDim) (d : DraftDim) (lines rest front after : List MemberText) (r : ℕ) → new ≡ old ++ d ∷ [] → d ≡ draft_dim (map line_of front) → 0 < length rest → r ≡ 1 + prefix_len is_deeper (map line_of (drop 1 rest)) → front ≡ take r rest → after ≡ drop r rest
    → old ++ map draft_dim (dims_of (map line_of rest)) ≡ map draft_dim (dims_of (map line_of lines)) → new ++ map draft_dim (dims_of (map line_of after)) ≡ map draft_dim (dims_of (map line_of lines))
dims_more new old d lines rest front after r en ed some er ef ea h =
    let split : dims_of (map line_of rest) ≡ map line_of front ∷ dims_of (map line_of after) = dims_split rest front after r some er ef ea in
    let whole : old ++ (draft_dim (map line_of front) ∷ map draft_dim (dims_of (map line_of after))) ≡ map draft_dim (dims_of (map line_of lines)) = ap (λ (dims : List (List Line)). old ++ map draft_dim dims) (sym split) ∙ h in
    ap (λ (xs : List DraftDim). xs ++ map draft_dim (dims_of (map line_of after))) en
    ∙ append_assoc old (d ∷ []) (map draft_dim (dims_of (map line_of after)))
    ∙ ap (λ (x : DraftDim). old ++ (x ∷ map draft_dim (dims_of (map line_of after)))) ed
    ∙ whole

pub dims_done : (made : List DraftDim) (lines : List MemberText) (at : ℕ) → length lines ≤ at → made ++ map draft_dim (dims_of (map line_of (drop at lines))) ≡ map draft_dim (dims_of (map line_of lines)) → made ≡ map draft_dim (dims_of (map line_of lines))
dims_done made lines at past e = sym (append-nil made) ∙ ap (λ (ls : List MemberText). made ++ map draft_dim (dims_of (map line_of ls))) (sym (drop_all at lines past)) ∙ e

-- ---- the draft

same_lines : (lines : List MemberText) → map line_of lines ≡ map as_line (map member lines)
same_lines [] = refl
same_lines (x ∷ xs) = ap (λ (ls : List Line). line_of x ∷ ls) (same_lines xs)

abbrev draft_with : List ℕ → List ℕ → List DraftDim → List DraftAttr → Draft
draft_with app db dims attrs = record { app = app; db = db; dims = dims; attrs = attrs }

pub draft_made : (app db : List ℕ) (dims : List DraftDim) (attrs : List DraftAttr) (said : OutlineText) → app ≡ said.app.now → db ≡ said.db.now → dims ≡ map draft_dim (dims_of (map line_of said.members.items)) → attrs ≡ [] → draft_with app db dims attrs ≡ draft_of (outline said)
unfolding draft_of
draft_made app db dims attrs said ea eb ed et =
    let lines = said.members.items in
    ap (λ (x : List ℕ). draft_with x db dims attrs) ea ∙ ap (λ (x : List ℕ). draft_with said.app.now x dims attrs) eb
    ∙ ap (λ (x : List DraftDim). draft_with said.app.now said.db.now x attrs) (ed ∙ ap (λ (ls : List Line). map draft_dim (dims_of ls)) (same_lines lines))
    ∙ ap (λ (x : List DraftAttr). draft_with said.app.now said.db.now (map draft_dim (dims_of (map as_line (map member lines)))) x) et
