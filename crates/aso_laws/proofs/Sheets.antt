-- A text says one sheet at most, and it has one reply, or one refusal.
use Rattle.std.proofs.Common.{◌≡◌, ◌∙◌, ◌⊎◌, inl, inr, List, ℕ, [], ◌∷◌, ◌++◌, Option, Some, None, sym, ap, refl, subst, append-nil}
use Rattle.std.specs.Prelude.{ℤ}
use Rattle.std.specs.Option.{option_map}
use Rattle.std.specs.List.{find as first}
use Rattle.aso_outline.specs.declared.draft.Draft.{Draft}
use Rattle.aso_outline.specs.declared.draft.ExtraMember.{ExtraMember}
use Rattle.aso_outline.specs.declared.draft.Tuple.{Tuple}
use Rattle.aso_outline.specs.Members.{Name}
use Rattle.aso_outline.specs.Rules.{broken}
use Rattle.aso_spec.specs.Cells.{Key}
use Rattle.aso_spec.specs.Grid.{end_line, grid_head}
use Rattle.aso_axes.specs.Answers.{counted}
use Rattle.aso_calc.specs.Known.{is_out}
use Rattle.aso_calc.specs.Values.{value}
use Rattle.aso_mdx.specs.declared.query.Query.{Query}
use Rattle.aso_grid.specs.Plans.{excess_in, plan_of, unknown_in, wrong_in}
use Rattle.aso_query.specs.Answers.{AreValues, IsAskedRefusal, IsGridOf, IsPlanRefusal, names_of}
use Rattle.aso_query.specs.declared.refusal.QueryRefusal.{QueryRefusal}
use Rattle.aso_query.specs.declared.refusal.QueryRefusal.TheVariants.{UnknownMember, Dimension, Formula, TooLarge, Range}
use Rattle.aso_cellnames.specs.Names.{cell_names}
use Rattle.aso_outtext.specs.declared.fault.TextFault.TheVariants.{Line, Refused as Broken, Json, NoMemory}
use Rattle.aso_outtext.specs.Drafts.{draft_of}
use Rattle.aso_sums.specs.Stored.{stored_value}
use Rattle.aso_sheettext.specs.Faults.{IsSheetFault, TextSaysSheet, bytes_of}
use Rattle.aso_sheettext.specs.Lines.{lines_of}
use Rattle.aso_sheettext.specs.Says.{MakeSheet, SaysSheet}
use Rattle.aso_sheettext.specs.Sheet.{Part, Sheet}
use Rattle.aso_sheettext.specs.Written.{AreLines}
use Rattle.aso_sheettext.specs.Reading.{SheetSoFar, sheet_with}
use Rattle.aso_sheettext.specs.Held.{sheet_start}
use Rattle.aso_sheettext.proofs.Parts.{parts_once}
use Rattle.aso_sheettext.proofs.Runs.{run}
use Rattle.aso_sheettext.proofs.Sheets.{sheet_of, sheet_read}
use Rattle.aso_eval.specs.Sheets.{Fits, IsFitRefusal, IsRefusal, IsReply, IsReplyOf, axes_query, cells_of, past, unknown_in_cells, wrong_in_cells}
use Rattle.aso_eval.specs.declared.refusal.SheetRefusal.{SheetRefusal}
use Rattle.aso_eval.specs.declared.refusal.SheetRefusal.TheVariants.{Text, Names, Amount}
use Rattle.aso_laws.proofs.Owns.{same_some, some_none}
use Rattle.aso_laws.proofs.Queries.{none_out, one_grid}
use Rattle.aso_laws.proofs.SheetFaults.{no_line, one_line}

same_so_far : (s t : SheetSoFar) → Some s ≡ Some t → s ≡ t
same_so_far s t e = cc e

-- ---- the sheet of a text

no_more : (rs : List Part) → AreLines rs [] → rs ≡ []
no_more [] h = refl
no_more (r ∷ rs) h = absurd h

made_once : (ps qs : List Part) (a b : Sheet) → ps ≡ qs → MakeSheet ps a → MakeSheet qs b → a ≡ b
made_once ps qs a b same makes makes_too =
    let one = sheet_read ps a makes in
    let other = sheet_read qs b makes_too in
    let state : one.0 ≡ other.0 = same_so_far one.0 other.0 (sym one.1 ∙ ap (run sheet_with (Some sheet_start)) same ∙ other.1) in
    sym one.2.same ∙ ap sheet_of state ∙ other.2.same

pub one_sheet : (text : List ℕ) (a b : Sheet) → TextSaysSheet text a → TextSaysSheet text b → a ≡ b
one_sheet text a b (ps, makes, lines) (qs, makes_too, lines_too) =
    let texts : List (List ℕ) = bytes_of (lines_of text) in
    let whole : AreLines qs (texts ++ []) = subst (λ (ls : List (List ℕ)). AreLines qs ls) (sym (append-nil texts)) lines_too in
    let more = parts_once ps qs texts [] lines whole in
    let same : ps ≡ qs = sym (more.1 ∙ ap (λ (rs : List Part). ps ++ rs) (no_more more.0 more.2) ∙ append-nil ps) in
    made_once ps qs a b same makes makes_too

-- ---- why a sheet has no reply over its outline

-- the first of these reasons: a name, a wrong name, a size, an amount, a value
abbrev reason : Draft → Option Name → Option Name → Option Name → Option Name → Option ℕ → Option (Key × ℤ) → Option Tuple → Option SheetRefusal
reason o (Some n) axis_unknown cell_wrong axis_wrong size amount value = Some (Names (UnknownMember n))
reason o None (Some n) cell_wrong axis_wrong size amount value = Some (Names (UnknownMember n))
reason o None None (Some n) axis_wrong size amount value = Some (Names (Dimension n))
reason o None None None (Some n) size amount value = Some (Names (Dimension n))
reason o None None None None (Some n) amount value = Some (Names (TooLarge (counted n)))
reason o None None None None None (Some cell) value = Some (Amount (cell_names o cell.0) cell.1)
reason o None None None None None None value = option_map (λ (t : Tuple). Names (Range (names_of o [] t))) value

module _ (o : Draft) (s : Sheet) where
  abbrev query : Query
  query = axes_query s

  abbrev beyond : Option Tuple
  beyond = first (λ t. is_out (value o [] (stored_value o (cells_of o s.cells)) t)) (plan_of o [] (axes_query s)).cells

  abbrev size : Option ℕ
  size = excess_in o [] (axes_query s)

  abbrev pub fit_reason : Option SheetRefusal
  fit_reason = reason o (unknown_in_cells o s.cells) (unknown_in o [] query) (wrong_in_cells o s.cells) (wrong_in o [] query) size (past (cells_of o s.cells)) beyond

  same_reason : {u v w x k l m n : Option Name} {a b : Option ℕ} {p q : Option (Key × ℤ)} (t : Option Tuple) → u ≡ k → v ≡ l → w ≡ m → x ≡ n → a ≡ b → p ≡ q → reason o u v w x a p t ≡ reason o k l m n b q t
  same_reason {u} {v} {w} {x} {k} {l} {m} {n} {a} {b} {p} {q} t first second third fourth fifth sixth =
      ap (λ (z : Option Name). reason o z v w x a p t) first
      ∙ (ap (λ (z : Option Name). reason o k z w x a p t) second
      ∙ (ap (λ (z : Option Name). reason o k l z x a p t) third
      ∙ (ap (λ (z : Option Name). reason o k l m z a p t) fourth
      ∙ (ap (λ (z : Option ℕ). reason o k l m n z p t) fifth ∙ ap (λ (z : Option (Key × ℤ)). reason o k l m n b z t) sixth))))

  -- the axes have no members of their own
  axes_refused : (r : QueryRefusal) → IsAskedRefusal o query r → IsPlanRefusal o [] query r
  axes_refused r (inl h) = absurd h
  axes_refused r (inr (own, none, h)) = subst (λ (x : List ExtraMember). IsPlanRefusal o x query r) none h

  large : (x : Option ℕ) (p : Option (Key × ℤ)) (t : Option Tuple) (c : ℕ) → option_map counted x ≡ Some c → reason o None None None None x p t ≡ Some (Names (TooLarge c))
  large (Some n) p t c e = ap (λ (k : ℕ). Some (Names (TooLarge k))) (same_some (counted n) c e)
  large None p t c e = absurd (cc e)

  fits_reason : Fits o s → fit_reason ≡ option_map (λ (t : Tuple). Names (Range (names_of o [] t))) beyond
  fits_reason fits = same_reason beyond fits.cells.0.0 fits.cells.0.1 fits.cells.1 fits.axes.0.1 fits.axes.1 fits.range

  pub fit_refused : (r : SheetRefusal) → IsFitRefusal o s r → fit_reason ≡ Some r
  fit_refused (Text fault) h = absurd h
  fit_refused (Names (UnknownMember name)) (inl h) = same_reason beyond h refl refl refl refl refl
  fit_refused (Names (UnknownMember name)) (inr (none, h)) = same_reason beyond none (axes_refused (UnknownMember name) h) refl refl refl refl
  fit_refused (Names (Dimension name)) ((none, known), inl h) = same_reason beyond none known h refl refl refl
  fit_refused (Names (Dimension name)) ((none, known), inr (fine, h)) = same_reason beyond none known fine (axes_refused (Dimension name) h).1 refl refl
  fit_refused (Names (TooLarge cells)) (((none, known), fine), h) =
      let plan : IsPlanRefusal o [] query (TooLarge cells) = axes_refused (TooLarge cells) h in
      same_reason beyond none known fine plan.0.1 refl refl ∙ large size (past (cells_of o s.cells)) beyond cells plan.1
  fit_refused (Names (Range names)) (fits, (t, is, same)) =
      fits_reason fits ∙ (ap (option_map (λ (u : Tuple). Names (Range (names_of o [] u)))) is ∙ ap (λ (ns : List Name). Some (Names (Range ns))) (sym same))
  fit_refused (Names (Formula name at)) h = absurd h
  fit_refused (Amount names sum) (((none, known), fine), taken, (key, is, same)) =
      same_reason beyond none known fine taken.0.1 taken.1 is ∙ ap (λ (ns : List Name). Some (Amount ns sum)) (sym same)

  pub fit_replied : (bytes : List ℕ) → IsReplyOf o s bytes → fit_reason ≡ None
  fit_replied bytes reply = by reply.grid
    where
      by : IsGridOf o (stored_value o (cells_of o s.cells)) query reply.rows reply.columns reply.lines → fit_reason ≡ None
      by (own, (none, order), grid) =
          let are : AreValues o [] (stored_value o (cells_of o s.cells)) (plan_of o [] query).cells grid.values =
          subst (λ (x : List ExtraMember). AreValues o x (stored_value o (cells_of o s.cells)) (plan_of o x query).cells grid.values) none grid.are
          in
          fits_reason reply.fits
          ∙ ap (option_map (λ (t : Tuple). Names (Range (names_of o [] t)))) (none_out (value o [] (stored_value o (cells_of o s.cells))) (plan_of o [] query).cells grid.values are)

-- ---- the whole

-- a rule that the outline breaks comes first
abbrev rules_first : Option (ℕ × ℕ) → Option SheetRefusal → Option SheetRefusal
rules_first (Some broken_rule) later = Some (Text (Broken broken_rule.0 broken_rule.1))
rules_first None later = later

abbrev sheet_reason : Sheet → Option SheetRefusal
sheet_reason s = rules_first (broken (draft_of s.outline)) (fit_reason (draft_of s.outline) s)

-- the text says no sheet, or one that has this reason
abbrev Refused : List ℕ → SheetRefusal → Type 0
Refused text r = ((at : ℕ) × IsSheetFault text at × (r ≡ Text (Line at))) ⊎ ((s : Sheet) × TextSaysSheet text s × (sheet_reason s ≡ Some r))

refused : (text : List ℕ) (r : SheetRefusal) → IsRefusal text r → Refused text r
refused text (Text (Line at)) h = inl (at, h, refl)
refused text (Text (Broken rule member)) (s, said, is) = inr (s, said, ap (λ (b : Option (ℕ × ℕ)). rules_first b (fit_reason (draft_of s.outline) s)) is)
refused text (Text (Json fault)) h = absurd h
refused text (Text (NoMemory e)) h = absurd h
refused text (Names q) (s, is, h) =
    inr (s, is.said, ap (λ (b : Option (ℕ × ℕ)). rules_first b (fit_reason (draft_of s.outline) s)) is.keeps ∙ fit_refused (draft_of s.outline) s (Names q) h)
refused text (Amount names sum) (s, is, h) =
    inr (s, is.said, ap (λ (b : Option (ℕ × ℕ)). rules_first b (fit_reason (draft_of s.outline) s)) is.keeps ∙ fit_refused (draft_of s.outline) s (Amount names sum) h)

replied : (text out : List ℕ) → IsReply text out → (s : Sheet) × TextSaysSheet text s × (sheet_reason s ≡ None)
replied text out (s, is, reply) = (s, is.said, ap (λ (b : Option (ℕ × ℕ)). rules_first b (fit_reason (draft_of s.outline) s)) is.keeps ∙ fit_replied (draft_of s.outline) s out reply)

pub one_refusal : (text : List ℕ) (r s : SheetRefusal) → IsRefusal text r → IsRefusal text s → r ≡ s
one_refusal text r s a b = by (refused text r a) (refused text s b)
  where
    by : Refused text r → Refused text s → r ≡ s
    by (inl (at, fault, is)) (inl (other, fault_too, is_too)) = is ∙ (ap (λ (n : ℕ). Text (Line n)) (one_line SaysSheet text at other fault fault_too) ∙ sym is_too)
    by (inl (at, fault, is)) (inr (t, said, is_too)) = absurd (no_line SaysSheet text t at said fault)
    by (inr (t, said, is)) (inl (at, fault, is_too)) = absurd (no_line SaysSheet text t at said fault)
    by (inr (t, said, is)) (inr (u, said_too, is_too)) = same_some r s (sym is ∙ (ap sheet_reason (one_sheet text t u said said_too) ∙ is_too))

pub no_reply_refused : (text out : List ℕ) (r : SheetRefusal) → IsReply text out → IsRefusal text r → ⊥
no_reply_refused text out r a b = by (replied text out a) (refused text r b)
  where
    by : (s : Sheet) × TextSaysSheet text s × (sheet_reason s ≡ None) → Refused text r → ⊥
    by (s, said, none) (inl (at, fault, is)) = no_line SaysSheet text s at said fault
    by (s, said, none) (inr (t, said_too, is)) = some_none r (sheet_reason t) is (ap sheet_reason (sym (one_sheet text s t said said_too)) ∙ none)

-- ---- replies

reply_once : (s : Sheet) (out other : List ℕ) → IsReplyOf (draft_of s.outline) s out → IsReplyOf (draft_of s.outline) s other → out ≡ other
reply_once s out other a b =
    let o = draft_of s.outline in
    let same = one_grid o (axes_query s) (stored_value o (cells_of o s.cells)) a.rows a.columns b.rows b.columns a.lines b.lines a.grid b.grid in
    a.is
    ∙ ap (λ (n : ℕ). grid_head 1 0 n a.columns ++ a.lines ++ end_line 1) same.0
    ∙ ap (λ (n : ℕ). grid_head 1 0 b.rows n ++ a.lines ++ end_line 1) same.1
    ∙ ap (λ (l : List ℕ). grid_head 1 0 b.rows b.columns ++ l ++ end_line 1) same.2
    ∙ sym b.is

pub one_reply : (text out other : List ℕ) → IsReply text out → IsReply text other → out ≡ other
one_reply text out other (s, is, reply) (t, is_too, reply_too) =
    let same : s ≡ t = one_sheet text s t is.said is_too.said in
    reply_once s out other reply (subst (λ (x : Sheet). IsReplyOf (draft_of x.outline) x other) (sym same) reply_too)
