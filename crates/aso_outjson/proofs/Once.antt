-- A text writes one outline at most, and has no fault where it writes one.
use Rattle.std.proofs.Common.{◌≡◌, ◌∙◌, ℕ, zero, suc, List, [], ◌∷◌, Option, Some, None, Result, Ok, Err, IfOk, IfErr, refl, sym, ap, subst}
use Rattle.std.specs.List.{AllZip}
use Rattle.serde_json.specs.Data.{Data}
use Rattle.aso_outline.specs.Members.{Name}
use Rattle.aso_outline.specs.Rules.{broken}
use Rattle.aso_outline.specs.declared.draft.Draft.{Draft}
use Rattle.aso_outline.specs.declared.draft.DraftAttr.{DraftAttr}
use Rattle.aso_outline.specs.declared.draft.DraftDim.{DraftDim}
use Rattle.aso_outline.specs.declared.draft.DraftHier.{DraftHier}
use Rattle.aso_outline.specs.declared.draft.DraftMember.{DraftMember}
use Rattle.aso_outline.specs.declared.draft.Expr.{Expr}
use Rattle.aso_rules.specs.Answers.{IsJson}
use Rattle.aso_outjson.specs.Answers.{IsBroken, IsFieldFault, IsNoJson, IsOutline, IsRefusal, IsWritten, Reads, Writes}
use Rattle.aso_outjson.specs.Formulas.{IsAttr, IsDim, IsDraft, IsFault, IsFirstFault, IsFormula, IsHier, IsMember, all_formulas, is_dynamic}
use Rattle.aso_outjson.specs.Objects.{outline_in}
use Rattle.aso_outjson.specs.declared.fault.JsonFault.{JsonFault}
use Rattle.aso_outjson.specs.declared.fault.JsonFault.TheVariants.{NotJson, Field, Formula, Refused, NoMemory}
use Rattle.aso_outjson.specs.declared.written.Written.{Written}
use Rattle.aso_outjson.specs.declared.written.WrittenAttr.{WrittenAttr}
use Rattle.aso_outjson.specs.declared.written.WrittenDim.{WrittenDim}
use Rattle.aso_outjson.specs.declared.written.WrittenHier.{WrittenHier}
use Rattle.aso_outjson.specs.declared.written.WrittenMember.{WrittenMember}
use Rattle.aso_outjson.proofs.Drafts.{AllSpelled, draft_spelled}
use Rattle.aso_outjson.proofs.Spelled.{no_fault, one_formula}

-- ---- one draft

formula_once : (text : Option Name) (e f : Option Expr) → IsFormula text e → IsFormula text f → e ≡ f
formula_once None None None h k = refl
formula_once None None (Some f) h k = absurd k
formula_once None (Some e) f h k = absurd h
formula_once (Some text) None f h k = absurd h
formula_once (Some text) (Some e) None h k = absurd k
formula_once (Some text) (Some e) (Some f) h k = ap (λ x. Some x) (one_formula text e f h k)

abbrev member_with : WrittenMember → Option Expr → DraftMember
member_with w e = record { name = w.name; parent = w.parent; shared = w.shared; label_only = w.label_only; op = w.op; solve = w.solve; formula = e; carries = w.carries }

member_once : (w : WrittenMember) (m n : DraftMember) → IsMember w m → IsMember w n → m ≡ n
member_once w m n h k = h.1 ∙ ap (member_with w) (formula_once w.formula m.formula n.formula h.0 k.0) ∙ sym k.1

zip_once : {W M : Type 0} → (R : W → M → Type 0) → ((w : W) (m n : M) → R w m → R w n → m ≡ n) → (ws : List W) (ms ns : List M) → AllZip R ws ms → AllZip R ws ns → ms ≡ ns
zip_once R once [] [] [] h k = refl
zip_once R once [] [] (n ∷ ns) h k = absurd k
zip_once R once [] (m ∷ ms) ns h k = absurd h
zip_once R once (w ∷ ws) [] ns h k = absurd h
zip_once R once (w ∷ ws) (m ∷ ms) [] h k = absurd k
zip_once R once (w ∷ ws) (m ∷ ms) (n ∷ ns) h k = ap (λ x. x ∷ ms) (once w m n h.0 k.0) ∙ ap (λ xs. n ∷ xs) (zip_once R once ws ms ns h.1 k.1)

hier_once : (w : WrittenHier) (h k : DraftHier) → IsHier w h → IsHier w k → h ≡ k
hier_once w h k x y = x.1 ∙ ap (λ ms. record { dynamic = is_dynamic w.kind; members = ms }) (zip_once IsMember member_once w.root.members h.members k.members x.0 y.0) ∙ sym y.1

dim_once : (w : WrittenDim) (d e : DraftDim) → IsDim w d → IsDim w e → d ≡ e
dim_once w d e x y = x.1 ∙ ap (λ hs. record { name = w.name; aggregate = w.aggregate; hiers = hs }) (zip_once IsHier hier_once w.hiers d.hiers e.hiers x.0 y.0) ∙ sym y.1

attr_once : (w : WrittenAttr) (a b : DraftAttr) → IsAttr w a → IsAttr w b → a ≡ b
attr_once w a b x y = x.1 ∙ ap (λ ms. record { name = w.name; base = w.base; members = ms }) (zip_once IsMember member_once w.root.members a.members b.members x.0 y.0) ∙ sym y.1

draft_once : (w : Written) (o p : Draft) → IsDraft w o → IsDraft w p → o ≡ p
draft_once w o p x y =
    x.2
    ∙ ap (λ ds. record { app = w.app; db = w.db; dims = ds; attrs = o.attrs }) (zip_once IsDim dim_once w.dims o.dims p.dims x.0 y.0)
    ∙ ap (λ bs. record { app = w.app; db = w.db; dims = p.dims; attrs = bs }) (zip_once IsAttr attr_once w.attrs o.attrs p.attrs x.1 y.1)
    ∙ sym y.2

-- ---- one text

json_once : (text : List ℕ) (d e : Data) → IsJson text d → IsJson text e → d ≡ e
json_once text d e h k = let same : Some d ≡ Some e = sym h.1 ∙ k.1 in cc

written_once : (text : List ℕ) (v w : Written) → IsWritten text v → IsWritten text w → v ≡ w
written_once text v w h k =
    let same : Ok v ≡ Ok w = sym h.2 ∙ ap outline_in (json_once text h.0 k.0 h.1 k.1) ∙ k.2 in
    cc

writes_once : (text : List ℕ) (o p : Draft) → Writes text o → Writes text p → o ≡ p
writes_once text o p h k = draft_once k.0 o p (subst (λ w. IsDraft w o) (written_once text h.0 k.0 h.1 k.1) h.2) k.2

-- ---- no fault

first_none : (texts : List (Option Name)) (n byte : ℕ) → AllSpelled texts → IsFirstFault texts n byte → ⊥
first_none [] n byte spelled is = is
first_none (None ∷ ts) zero byte spelled is = is
first_none (Some t ∷ ts) zero byte spelled is = no_fault t byte spelled.0.0 is spelled.0.1
first_none (t ∷ ts) (suc n) byte spelled is = first_none ts n byte spelled.1 is.1

none_some : (x : ℕ × ℕ) → None ≡ Some x → ⊥
none_some x e = cc

pub only : (text : List ℕ) (o : Draft) (result : Result Draft JsonFault) → IfOk result (IsOutline text) → IfErr result (IsRefusal text) → IsOutline text o → Reads result o
only text o (Ok p) found refused is = writes_once text p o found.0 is.0
only text o (Err NotJson) found refused is = refused is.0.1.0 is.0.1.1
only text o (Err (Field path)) found refused is =
    let same : Err refused.1 ≡ Ok is.0.0 = sym refused.3 ∙ ap outline_in (json_once text refused.0 is.0.1.0 refused.2 is.0.1.1) ∙ is.0.1.2 in
    cc
only text o (Err (Formula member at)) found refused is =
    let first = subst (λ w. IsFirstFault (all_formulas w) refused.2.0 refused.2.1) (written_once text refused.0 is.0.0 refused.1 is.0.1) refused.2.2 in
    first_none (all_formulas is.0.0) refused.2.0 refused.2.1 (draft_spelled is.0.0 o is.0.2) first
only text o (Err (Refused rule member)) found refused is =
    absurd (none_some (rule, member) (sym is.1 ∙ ap broken (writes_once text o refused.0 is.0 refused.1) ∙ refused.2))
only text o (Err (NoMemory e)) found refused is = tt

-- ---- refusals

pub only_fault : (text : List ℕ) (f : JsonFault) → IsRefusal text f → (o : Draft) → IsOutline text o → Reads (Err f) o
only_fault text f refused o is = only text o (Err f) tt refused is

pub refused_json : (text : List ℕ) (f : JsonFault) → IsNoJson text f → IsRefusal text f
refused_json text NotJson is = is
refused_json text (Field path) is = absurd is
refused_json text (Formula member at) is = absurd is
refused_json text (Refused rule member) is = absurd is
refused_json text (NoMemory e) is = tt

pub refused_field : (text : List ℕ) (d : Data) (f : JsonFault) → IsJson text d → IsFieldFault (outline_in d) f → IsRefusal text f
refused_field text d NotJson json is = absurd is
refused_field text d (Field path) json is = (d, is.0, json, is.1, is.2)
refused_field text d (Formula member at) json is = absurd is
refused_field text d (Refused rule member) json is = absurd is
refused_field text d (NoMemory e) json is = tt

pub refused_formula : (text : List ℕ) (d : Data) (w : Written) (f : JsonFault) → IsJson text d → outline_in d ≡ Ok w → IsFault (all_formulas w) 0 f → IsRefusal text f
refused_formula text d w NotJson json written is = absurd is
refused_formula text d w (Field path) json written is = absurd is
refused_formula text d w (Formula member at) json written is = (w, (d, json, written), is)
refused_formula text d w (Refused rule member) json written is = absurd is
refused_formula text d w (NoMemory e) json written is = tt

pub writes : (text : List ℕ) (d : Data) (w : Written) (o : Draft) → IsJson text d → outline_in d ≡ Ok w → IsDraft w o → Writes text o
writes text d w o json written is = (w, (d, json, written), is)

pub refused_rule : (text : List ℕ) (o : Draft) (f : JsonFault) → Writes text o → IsBroken o f → IsRefusal text f
refused_rule text o NotJson written is = absurd is
refused_rule text o (Field path) written is = absurd is
refused_rule text o (Formula member at) written is = absurd is
refused_rule text o (Refused rule member) written is = (o, written, is)
refused_rule text o (NoMemory e) written is = tt

-- ---- the verdict on the draft

pub found_outline : (text : List ℕ) (draft : Draft) (r : Result Draft JsonFault) → Writes text draft → IfOk r (λ (o : Draft). (o ≡ draft) × (broken draft ≡ None)) → IfOk r (IsOutline text)
found_outline text draft (Ok o) written h = (subst (λ p. Writes text p) (sym h.0) written, ap broken h.0 ∙ h.1)
found_outline text draft (Err f) written h = tt

pub refused_outline : (text : List ℕ) (draft : Draft) (r : Result Draft JsonFault) → Writes text draft → IfErr r (IsBroken draft) → IfErr r (IsRefusal text)
refused_outline text draft (Ok o) written h = tt
refused_outline text draft (Err f) written h = refused_rule text draft f written h
