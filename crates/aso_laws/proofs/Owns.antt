-- A query's own members are taken in one way, or there is one reason why not.
use Rattle.std.proofs.Common.{◌≡◌, ◌∙◌, ◌⊎◌, inl, inr, ℕ, ◌<◌, true, false, List, [], ◌∷◌, ◌++◌, Option, Some, None, sym, ap, subst, arith, true≢false}
use Rattle.std.specs.Prelude.{slice_get, unwrap_or}
use Rattle.std.specs.List.{list_all}
use Rattle.aso_token.specs.declared.token.Placed.{Placed}
use Rattle.aso_token.specs.Marks.{name}
use Rattle.aso_outline.specs.declared.draft.Draft.{Draft}
use Rattle.aso_outline.specs.declared.draft.Expr.{Expr}
use Rattle.aso_outline.specs.declared.draft.ExtraMember.{ExtraMember}
use Rattle.aso_outline.specs.declared.extend.ExtraFault.TheVariants.{InUse, Ranks}
use Rattle.aso_outline.specs.Atoms.{atoms}
use Rattle.aso_outline.specs.Extend.{IsExtraFault, first_foreign, is_used, own_rank}
use Rattle.aso_outline.specs.Members.{Name}
use Rattle.aso_outline.specs.Rules.{is_atom}
use Rattle.aso_formula.specs.declared.fault.FormulaFault.TheVariants.{Unknown, Foreign}
use Rattle.aso_formula.specs.Answer.{IsRefusal}
use Rattle.aso_formula.specs.Formula.{Formula, SpellsFormula}
use Rattle.aso_formula.specs.Places.{atom_places, first_unknown}
use Rattle.aso_formula.proofs.Answered.{one_formula}
use Rattle.aso_mdx.specs.declared.query.Own.{Own as Written}
use Rattle.aso_query.specs.declared.refusal.QueryRefusal.{QueryRefusal}
use Rattle.aso_query.specs.declared.refusal.QueryRefusal.TheVariants.{UnknownMember, Dimension, Formula as OfFormula, TooLarge, Range}
use Rattle.aso_query.specs.Owns.{AreTaken, IsFormulaByte, IsMisfit, IsNext, IsOwnRefusal, IsOwnsRefusal, Takes, dim_of, name_written, written_as}
use Rattle.aso_laws.proofs.Faults.{no_fault, one_place}
use Rattle.aso_laws.proofs.FormulaNames.{none_foreign, none_unknown}

pub same_some : {X : Type 0} (x y : X) → Some x ≡ Some y → x ≡ y
same_some x y e = cc e

pub some_none : {X C : Type 0} (x : X) (o : Option X) → o ≡ Some x → o ≡ None → C
some_none {X} x o e f =
    let both : Some x ≡ None = sym e ∙ f in
    absurd (cc both)

-- ---- a formula in a dimension

module _ (o : Draft) (text : List ℕ) where
  abbrev name_of : Option Placed → Name
  name_of (Some p) = unwrap_or (name p.token) []
  name_of None = []

  one_unknown : (d e : ℕ) (n m : Name) (at other : ℕ) → IsRefusal o d text (Unknown n at) → IsRefusal o e text (Unknown m other) → n ≡ m
  one_unknown d e n m at other (x, spelled, is) (y, spelled_too, is_too) = ap name_of (sym is ∙ is_too)

  one_foreign : (d : ℕ) (at other : ℕ) → IsRefusal o d text (Foreign at) → IsRefusal o d text (Foreign other) → at ≡ other
  one_foreign d at other (x, spelled, (known, (k, atom, place))) (y, spelled_too, (known_too, (j, atom_too, place_too))) =
      let formulas : x ≡ y = one_formula text x y spelled spelled_too in
      let numbers : k ≡ j = same_some k j (sym atom ∙ (ap (λ (e : Expr). first_foreign o d (atoms e)) formulas ∙ atom_too)) in
      same_some at other (sym place ∙ (ap (λ (n : ℕ). slice_get (atom_places text) n) numbers ∙ place_too))

  -- a formula of atoms of the dimension has neither fault
  right_not_unknown : (d e : ℕ) (f : Expr) (n : Name) (at : ℕ) → SpellsFormula text f → list_all (is_atom o d) (atoms f) ≡ true → IsRefusal o e text (Unknown n at) → ⊥
  right_not_unknown d e f n at spelled right (x, spelled_too, is) = some_none _ (first_unknown o text) is (none_unknown o d text f spelled right)

  right_not_foreign : (d : ℕ) (f : Expr) (at : ℕ) → SpellsFormula text f → list_all (is_atom o d) (atoms f) ≡ true → IsRefusal o d text (Foreign at) → ⊥
  right_not_foreign d f at spelled right (x, spelled_too, (known, (k, atom, place))) =
      some_none k (first_foreign o d (atoms x)) atom (ap (λ (e : Expr). first_foreign o d (atoms e)) (one_formula text x f spelled_too spelled) ∙ none_foreign o d (atoms f) right)

-- ---- one member

module _ (o : Draft) (before : List ExtraMember) (w : Written) where
  dims_same : (d e : ℕ) → dim_of o w ≡ Some d → dim_of o w ≡ Some e → d ≡ e
  dims_same d e x y = same_some d e (sym x ∙ y)

  one_as_written : (m n : ExtraMember) → m.dim ≡ n.dim → m.formula ≡ n.formula → written_as w m → written_as w n → m ≡ n
  one_as_written m n dims formulas a b =
      a
      ∙ ap (λ (d : ℕ). record { name = name_written w; dim = d; formula = m.formula; solve = w.solve }) dims
      ∙ ap (λ (f : Expr). record { name = name_written w; dim = n.dim; formula = f; solve = w.solve }) formulas
      ∙ sym b

  pub taken_once : (m n : ExtraMember) → Takes o before w m → Takes o before w n → m ≡ n
  taken_once m n a b = one_as_written m n (dims_same m.dim n.dim a.dim b.dim) (one_formula w.formula m.formula n.formula a.formula b.formula) a.is b.is

  misfit_right : (d : ℕ) (x : IsMisfit o before d w) → list_all (is_atom o x.m.dim) (atoms x.m.formula) ≡ true
  misfit_right d x = by x.wrong
    where
      by : IsExtraFault o before x.m InUse ⊎ IsExtraFault o before x.m Ranks → list_all (is_atom o x.m.dim) (atoms x.m.formula) ≡ true
      by (inl h) = h.0
      by (inr h) = h.0

  right_at : (d : ℕ) (x : IsMisfit o before d w) → list_all (is_atom o d) (atoms x.m.formula) ≡ true
  right_at d x = subst (λ (e : ℕ). list_all (is_atom o e) (atoms x.m.formula) ≡ true) x.dim (misfit_right d x)

  one_byte : (d : ℕ) (at other : ℕ) → IsFormulaByte o before d w at → IsFormulaByte o before d w other → at ≡ other
  one_byte d at other (inl a) (inl b) = one_place false Formula w.formula at other a b
  one_byte d at other (inl a) (inr (inl b)) = absurd (no_fault false Formula w.formula b.0 at b.1 a)
  one_byte d at other (inl a) (inr (inr (is, b))) = absurd (no_fault false Formula w.formula b.m.formula at b.formula a)
  one_byte d at other (inr (inl a)) (inl b) = absurd (no_fault false Formula w.formula a.0 other a.1 b)
  one_byte d at other (inr (inl a)) (inr (inl b)) = one_foreign o w.formula d at other a b
  one_byte d at other (inr (inl a)) (inr (inr (is, b))) = absurd (right_not_foreign o w.formula d b.m.formula at b.formula (right_at d b) a)
  one_byte d at other (inr (inr (is, a))) (inl b) = absurd (no_fault false Formula w.formula a.m.formula other a.formula b)
  one_byte d at other (inr (inr (is, a))) (inr (inl b)) = absurd (right_not_foreign o w.formula d a.m.formula other a.formula (right_at d a) b)
  one_byte d at other (inr (inr (is, a))) (inr (inr (is_too, b))) = is ∙ sym is_too

  no_byte : (d e : ℕ) (n : Name) (at byte : ℕ) → IsRefusal o d w.formula (Unknown n at) → IsFormulaByte o before e w byte → ⊥
  no_byte d e n at byte (x, spelled, is) (inl b) = no_fault false Formula w.formula x byte spelled b
  no_byte d e n at byte (x, spelled, is) (inr (inl b)) = some_none _ (first_unknown o w.formula) is b.2.0
  no_byte d e n at byte a (inr (inr (is, b))) = right_not_unknown o w.formula b.m.dim d b.m.formula n at b.formula (misfit_right e b) a

  pub one_own_refusal : (r s : QueryRefusal) → IsOwnRefusal o before w r → IsOwnRefusal o before w s → r ≡ s
  one_own_refusal (Dimension n) (Dimension m) a b = ap Dimension (a.1 ∙ sym b.1)
  one_own_refusal (Dimension n) (UnknownMember m) a b = some_none b.0 (dim_of o w) b.1 a.0
  one_own_refusal (Dimension n) (OfFormula m byte) a b = some_none b.0 (dim_of o w) b.1 a.0
  one_own_refusal (Dimension n) (TooLarge c) a b = absurd b
  one_own_refusal (Dimension n) (Range ns) a b = absurd b
  one_own_refusal (UnknownMember n) (Dimension m) a b = some_none a.0 (dim_of o w) a.1 b.0
  one_own_refusal (UnknownMember n) (UnknownMember m) (d, dim, at, a) (e, dim_too, other, b) = ap UnknownMember (one_unknown o w.formula d e n m at other a b)
  one_own_refusal (UnknownMember n) (OfFormula m byte) (d, dim, at, a) (e, dim_too, is, b) = absurd (no_byte d e n at byte a b)
  one_own_refusal (UnknownMember n) (TooLarge c) a b = absurd b
  one_own_refusal (UnknownMember n) (Range ns) a b = absurd b
  one_own_refusal (OfFormula n byte) (Dimension m) a b = some_none a.0 (dim_of o w) a.1 b.0
  one_own_refusal (OfFormula n byte) (UnknownMember m) (d, dim, is, a) (e, dim_too, at, b) = absurd (no_byte e d m at byte b a)
  one_own_refusal (OfFormula n byte) (OfFormula m other) (d, dim, is, a) (e, dim_too, is_too, b) =
      let bytes : byte ≡ other = one_byte d byte other a (subst (λ (f : ℕ). IsFormulaByte o before f w other) (dims_same e d dim_too dim) b) in
      ap (λ (x : Name). OfFormula x byte) (is ∙ sym is_too) ∙ ap (OfFormula m) bytes
  one_own_refusal (OfFormula n byte) (TooLarge c) a b = absurd b
  one_own_refusal (OfFormula n byte) (Range ns) a b = absurd b
  one_own_refusal (TooLarge c) s a b = absurd a
  one_own_refusal (Range ns) s a b = absurd a

  -- a member that is taken is no misfit
  no_misfit : (m : ExtraMember) (d : ℕ) → Takes o before w m → dim_of o w ≡ Some d → IsMisfit o before d w → ⊥
  no_misfit m d takes dim x = by x.wrong
    where
      same : x.m ≡ m
      same = one_as_written x.m m (x.dim ∙ dims_same d m.dim dim takes.dim) (one_formula w.formula x.m.formula m.formula x.formula takes.formula) x.is takes.is

      by : IsExtraFault o before x.m InUse ⊎ IsExtraFault o before x.m Ranks → ⊥
      by (inl h) = true≢false (sym h.1 ∙ (ap (λ (n : ExtraMember). is_used o before n.name) same ∙ takes.own.unused))
      by (inr h) =
          let past : 64 < own_rank o m.dim (atoms m.formula) = subst (λ (n : ExtraMember). 64 < own_rank o n.dim (atoms n.formula)) same h.2 in
          omega (arith, past, takes.own.rank)

  pub taken_not_refused : (m : ExtraMember) (r : QueryRefusal) → Takes o before w m → IsOwnRefusal o before w r → ⊥
  taken_not_refused m (Dimension n) takes a = some_none m.dim (dim_of o w) takes.dim a.0
  taken_not_refused m (UnknownMember n) takes (d, dim, at, a) = right_not_unknown o w.formula m.dim d m.formula n at takes.formula takes.own.formula a
  taken_not_refused m (OfFormula n byte) takes (d, dim, is, inl a) = no_fault false Formula w.formula m.formula byte takes.formula a
  taken_not_refused m (OfFormula n byte) takes (d, dim, is, inr (inl a)) =
      right_not_foreign o w.formula m.dim m.formula byte takes.formula takes.own.formula (subst (λ (e : ℕ). IsRefusal o e w.formula (Foreign byte)) (dims_same d m.dim dim takes.dim) a)
  taken_not_refused m (OfFormula n byte) takes (d, dim, is, inr (inr (at, a))) = no_misfit m d takes dim a
  taken_not_refused m (TooLarge c) takes a = a
  taken_not_refused m (Range ns) takes a = a

-- ---- all members

module _ (o : Draft) where
  next_once : (before : List ExtraMember) (w : Written) (next later : List ExtraMember) → IsNext o before w next → IsNext o before w later → next ≡ later
  next_once before w next later (m, takes, is) (n, takes_too, is_too) = is ∙ ap (λ (x : ExtraMember). before ++ x ∷ []) (taken_once o before w m n takes takes_too) ∙ sym is_too

  pub all_taken_once : (before : List ExtraMember) (ws : List Written) (all others : List ExtraMember) → AreTaken o before ws all → AreTaken o before ws others → all ≡ others
  all_taken_once before [] all others a b = a ∙ sym b
  all_taken_once before (w ∷ ws) all others (next, is, rest) (later, is_too, rest_too) =
      all_taken_once next ws all others rest (subst (λ (x : List ExtraMember). AreTaken o x ws others) (sym (next_once before w next later is is_too)) rest_too)

  pub all_taken_not_refused : (before : List ExtraMember) (ws : List Written) (all : List ExtraMember) (r : QueryRefusal) → AreTaken o before ws all → IsOwnsRefusal o before ws r → ⊥
  all_taken_not_refused before [] all r taken a = a
  all_taken_not_refused before (w ∷ ws) all r (next, (m, takes, is), rest) (inl a) = taken_not_refused o before w m r takes a
  all_taken_not_refused before (w ∷ ws) all r (next, is, rest) (inr (later, is_too, a)) =
      all_taken_not_refused next ws all r rest (subst (λ (x : List ExtraMember). IsOwnsRefusal o x ws r) (sym (next_once before w next later is is_too)) a)

  pub one_owns_refusal : (before : List ExtraMember) (ws : List Written) (r s : QueryRefusal) → IsOwnsRefusal o before ws r → IsOwnsRefusal o before ws s → r ≡ s
  one_owns_refusal before [] r s a b = absurd a
  one_owns_refusal before (w ∷ ws) r s (inl a) (inl b) = one_own_refusal o before w r s a b
  one_owns_refusal before (w ∷ ws) r s (inl a) (inr (next, (m, takes, is), b)) = absurd (taken_not_refused o before w m r takes a)
  one_owns_refusal before (w ∷ ws) r s (inr (next, (m, takes, is), a)) (inl b) = absurd (taken_not_refused o before w m s takes b)
  one_owns_refusal before (w ∷ ws) r s (inr (next, is, a)) (inr (later, is_too, b)) =
      one_owns_refusal next ws r s a (subst (λ (x : List ExtraMember). IsOwnsRefusal o x ws s) (sym (next_once before w next later is is_too)) b)
