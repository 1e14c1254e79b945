-- How far the reading of the formulas has come.
use Rattle.std.proofs.Common.{◌≡◌, ◌∙◌, ℕ, zero, suc, ◌+◌, arith, Bool, true, false, List, [], ◌∷◌, ◌++◌, append_assoc, append-nil, length, length-append, flat_map, Option, Some, None, if◌then◌else◌, nat_lt, refl, sym, ap, subst}
use Rattle.std.specs.List.{AllByRecursion, AllZip}
use Rattle.std.proofs.lemmas.List.{nil_from_length}
use Rattle.aso_outline.specs.Members.{Name}
use Rattle.aso_outline.specs.declared.draft.Draft.{Draft}
use Rattle.aso_outline.specs.declared.draft.DraftAttr.{DraftAttr}
use Rattle.aso_outline.specs.declared.draft.DraftDim.{DraftDim}
use Rattle.aso_outline.specs.declared.draft.DraftHier.{DraftHier}
use Rattle.aso_outline.specs.declared.draft.DraftMember.{DraftMember}
use Rattle.aso_outline.specs.declared.draft.Expr.{Expr}
use Rattle.aso_outjson.specs.Formulas.{IsAttr, IsDim, IsDraft, IsFault, IsFirstFault, IsFormula, IsFurther, IsHier, IsMember, IsSpelled, all_formulas, attr_formulas, dim_formulas, formula_of, hier_formulas, whole}
use Rattle.aso_outjson.specs.Words.{capped}
use Rattle.aso_outjson.specs.declared.fault.JsonFault.{JsonFault}
use Rattle.aso_outjson.specs.declared.fault.JsonFault.TheVariants.{NotJson, Field, Formula, Refused, NoMemory}
use Rattle.aso_outjson.specs.declared.written.Written.{Written}
use Rattle.aso_outjson.specs.declared.written.WrittenAttr.{WrittenAttr}
use Rattle.aso_outjson.specs.declared.written.WrittenDim.{WrittenDim}
use Rattle.aso_outjson.specs.declared.written.WrittenHier.{WrittenHier}
use Rattle.aso_outjson.specs.declared.written.WrittenMember.{WrittenMember}

abbrev pub AllSpelled : List (Option Name) → Type 0
AllSpelled texts = AllByRecursion IsSpelled texts

-- ---- numbers in 32 bits

pub capped_more : (from next k n : ℕ) → IsFurther from k next → capped (next + n) ≡ capped (from + (k + n))
capped_more from next k n is = omega (arith, is)

-- ---- faults in longer lists of texts

first_earlier : (front rest : List (Option Name)) (n byte : ℕ) → IsFirstFault front n byte → IsFirstFault (front ++ rest) n byte
first_earlier [] rest n byte first = absurd first
first_earlier (t ∷ ts) rest zero byte first = first
first_earlier (t ∷ ts) rest (suc n) byte first = (first.0, first_earlier ts rest n byte first.1)

first_later : (front rest : List (Option Name)) (n byte : ℕ) → AllSpelled front → IsFirstFault rest n byte → IsFirstFault (front ++ rest) (length front + n) byte
first_later [] rest n byte spelled first =
    let same : n ≡ 0 + n = omega arith in
    subst (λ k. IsFirstFault rest k byte) same first
first_later (t ∷ ts) rest n byte spelled first =
    let same : suc (length ts + n) ≡ length (t ∷ ts) + n = omega arith in
    subst (λ k. IsFirstFault (t ∷ (ts ++ rest)) k byte) same (spelled.0, first_later ts rest n byte spelled.1 first)

pub earlier : (front rest : List (Option Name)) (from : ℕ) (f : JsonFault) → IsFault front from f → IsFault (front ++ rest) from f
earlier front rest from NotJson is = absurd is
earlier front rest from (Field path) is = absurd is
earlier front rest from (Formula member at) is = (is.0, is.1, first_earlier front rest is.0 is.1 is.2, is.3, is.4)
earlier front rest from (Refused rule member) is = absurd is
earlier front rest from (NoMemory e) is = tt

pub later : (front rest : List (Option Name)) (from next : ℕ) (f : JsonFault) → AllSpelled front → IsFurther from (length front) next → IsFault rest next f → IsFault (front ++ rest) from f
later front rest from next NotJson spelled counted is = absurd is
later front rest from next (Field path) spelled counted is = absurd is
later front rest from next (Formula member at) spelled counted is =
    (length front + is.0, is.1, first_later front rest is.0 is.1 spelled is.2, is.3 ∙ capped_more from next (length front) is.0 counted, is.4)
later front rest from next (Refused rule member) spelled counted is = absurd is
later front rest from next (NoMemory e) spelled counted is = tt

-- ---- what is made has formulas that the texts spell

all_append : (xs ys : List (Option Name)) → AllSpelled xs → AllSpelled ys → AllSpelled (xs ++ ys)
all_append [] ys h k = k
all_append (x ∷ xs) ys h k = (h.0, all_append xs ys h.1 k)

formula_spelled : (text : Option Name) (e : Option Expr) → IsFormula text e → IsSpelled text
formula_spelled None e is = tt
formula_spelled (Some text) None is = absurd is
formula_spelled (Some text) (Some e) is = (e, is)

pub member_spelled : (w : WrittenMember) (m : DraftMember) → IsMember w m → AllSpelled (formula_of w)
member_spelled w m is = (formula_spelled w.formula m.formula is.0, tt)

pub zip_spelled : {W M : Type 0} → (R : W → M → Type 0) (texts : W → List (Option Name)) → ((w : W) (m : M) → R w m → AllSpelled (texts w)) → (ws : List W) (ms : List M) → AllZip R ws ms → AllSpelled (flat_map texts ws)
zip_spelled R texts each [] ms is = tt
zip_spelled R texts each (w ∷ ws) [] is = absurd is
zip_spelled R texts each (w ∷ ws) (m ∷ ms) is = all_append (texts w) (flat_map texts ws) (each w m is.0) (zip_spelled R texts each ws ms is.1)

pub hier_spelled : (w : WrittenHier) (h : DraftHier) → IsHier w h → AllSpelled (hier_formulas w)
hier_spelled w h is = zip_spelled IsMember formula_of member_spelled w.root.members h.members is.0

pub whole_spelled : (hs : List WrittenHier) → AllSpelled (whole hs)
whole_spelled hs = by_count (nat_lt 1 (length hs))
  where
    by_count : (b : Bool) → AllSpelled (if b then None ∷ [] else [])
    by_count true = (tt, tt)
    by_count false = tt

pub dim_spelled : (w : WrittenDim) (d : DraftDim) → IsDim w d → AllSpelled (dim_formulas w)
dim_spelled w d is = all_append (whole w.hiers) (flat_map hier_formulas w.hiers) (whole_spelled w.hiers) (zip_spelled IsHier hier_formulas hier_spelled w.hiers d.hiers is.0)

pub attr_spelled : (w : WrittenAttr) (a : DraftAttr) → IsAttr w a → AllSpelled (attr_formulas w)
attr_spelled w a is = zip_spelled IsMember formula_of member_spelled w.root.members a.members is.0

pub draft_spelled : (w : Written) (o : Draft) → IsDraft w o → AllSpelled (all_formulas w)
draft_spelled w o is =
    all_append (flat_map dim_formulas w.dims) (flat_map attr_formulas w.attrs) (zip_spelled IsDim dim_formulas dim_spelled w.dims o.dims is.0) (zip_spelled IsAttr attr_formulas attr_spelled w.attrs o.attrs is.1)

-- ---- loops

-- What is made, with what the rest makes, is what all of the parts make; a fault among the rest is one among all.
pub record IsSoFar {W M : Type 0} (R : W → M → Type 0) (texts : W → List (Option Name)) (all rest : List W) (done : List M) (from number : ℕ) : Type 0 where
  pub made : (ms : List M) → AllZip R rest ms → AllZip R all (done ++ ms)
  pub fault : (f : JsonFault) → IsFault (flat_map texts rest) number f → IsFault (flat_map texts all) from f
  pub counted : capped (number + length (flat_map texts rest)) ≡ capped (from + length (flat_map texts all))

module _ {W M : Type 0} (R : W → M → Type 0) (texts : W → List (Option Name)) where
  pub so_far_start : (all : List W) (from : ℕ) → IsSoFar R texts all all [] from from
  so_far_start all from = record { made = λ ms z. z; fault = λ f z. z; counted = refl }

  pub so_far_more : ((w : W) (m : M) → R w m → AllSpelled (texts w)) → (w : W) (all rest : List W) (done : List M) (m : M) (from number next : ℕ) → IsSoFar R texts all (w ∷ rest) done from number → R w m → IsFurther number (length (texts w)) next
      → IsSoFar R texts all rest (done ++ m ∷ []) from next
  so_far_more spelled w all rest done m from number next h r counted = record {
    made = λ ms z. subst (λ l. AllZip R all l) (sym (append_assoc done (m ∷ []) ms)) (h.made (m ∷ ms) (r, z));
    fault = λ f z. h.fault f (later (texts w) (flat_map texts rest) number next f (spelled w m r) counted z);
    counted =
        capped_more number next (length (texts w)) (length (flat_map texts rest)) counted
        ∙ ap (λ k. capped (number + k)) (sym (length-append (texts w) (flat_map texts rest)))
        ∙ h.counted;
  }

  pub so_far_fault : (w : W) (all rest : List W) (done : List M) (from number : ℕ) (f : JsonFault) → IsSoFar R texts all (w ∷ rest) done from number → IsFault (texts w) number f → IsFault (flat_map texts all) from f
  so_far_fault w all rest done from number f h is = h.fault f (earlier (texts w) (flat_map texts rest) number f is)

  pub so_far_made : (all rest : List W) (done : List M) (from number : ℕ) → length rest ≡ 0 → IsSoFar R texts all rest done from number → AllZip R all done
  so_far_made all rest done from number none h =
      let h = subst (λ ws. IsSoFar R texts all ws done from number) (nil_from_length rest none) h in
      subst (λ l. AllZip R all l) (append-nil done) (h.made [] tt)

  pub so_far_counted : (all rest : List W) (done : List M) (from number : ℕ) → length rest ≡ 0 → IsSoFar R texts all rest done from number → IsFurther from (length (flat_map texts all)) number
  so_far_counted all rest done from number none h =
      let h = subst (λ ws. IsSoFar R texts all ws done from number) (nil_from_length rest none) h in
      let same : number ≡ number + 0 = omega arith in
      ap capped same ∙ h.counted
