-- Values on the Basic outline, and the order in which computed members are unfolded.
use Rattle.std.proofs.Common.{◌≡◌, ℕ, List, [], ◌∷◌, true, refl, codes, Option, Some, None, map}
use Rattle.std.specs.Prelude.{ℤ, pos, nat_eq, unwrap_or, Ok, Err}
use Rattle.std.specs.Option.{option_map}
use Rattle.std.specs.List.{find as first}
use Rattle.std.specs.Cmp.Lexicographic.{pointwise}
use Rattle.aso_num.specs.declared.value.Val.{Val}
use Rattle.aso_num.specs.declared.value.Val.TheVariants as val
use Rattle.aso_outline.specs.declared.draft.Draft.{Draft}
use Rattle.aso_outline.specs.declared.draft.DraftDim.{DraftDim}
use Rattle.aso_outline.specs.declared.draft.DraftMember.{DraftMember}
use Rattle.aso_outline.specs.declared.draft.Tuple.{Tuple}
use Rattle.aso_outline.specs.declared.draft.ExtraMember.{ExtraMember}
use Rattle.aso_outline.specs.declared.draft.Op.TheVariants.{Plus, Minus, Times, Over}
use Rattle.aso_outline.specs.declared.draft.Expr.{Expr}
use Rattle.aso_outline.specs.declared.draft.Expr.TheBlock.{hidden-the_row-Expr-0}
use Rattle.aso_outline.specs.declared.draft.Expr.TheVariants.{Num, Cell, Bin}
use Rattle.aso_outline.specs.Members.{seats, find}
use Rattle.aso_outline.specs.Ranks.{rank, named}
use Rattle.aso_outline.specs.Tables.{before_dim, before_hier}
use Rattle.aso_outline.proofs.Basic.{basic, cell, dim, dynamic, m, outline, root, stored, with}
use Rattle.aso_calc.specs.Values.{Own, target, value}

-- stored values by hand; any other tuple is missing
abbrev given : List (List ℕ × ℤ) → Tuple → Val
given known t = unwrap_or (option_map (λ (x : List ℕ × ℤ). val.Num x.1) (first (λ (x : List ℕ × ℤ). pointwise nat_eq x.0 t.base) known)) val.Missing

abbrev at : List ℕ → Tuple
at base = record { base = base; attrs = None ∷ [] }

-- Year with NY (6), CA (8) and Total (4), Sales (16) and Cost (17)
abbrev known : List (List ℕ × ℤ)
known =
    (0 ∷ 6 ∷ 16 ∷ [], pos 1000000) ∷ (0 ∷ 6 ∷ 17 ∷ [], pos 600000)
    ∷ (0 ∷ 8 ∷ 16 ∷ [], pos 3000000) ∷ (0 ∷ 8 ∷ 17 ∷ [], pos 2400000)
    ∷ (0 ∷ 4 ∷ 16 ∷ [], pos 4000000) ∷ []

-- the members of Sum are NY and CA; Measures stands for Sales and Market for Total
targets : map (target basic) (3 ∷ 10 ∷ 13 ∷ 14 ∷ 15 ∷ 18 ∷ 23 ∷ []) ≡ (4 ∷ 6 ∷ 6 ∷ 8 ∷ 16 ∷ 18 ∷ 23 ∷ [])
unfolding hidden-the_row-Expr-0 denote.Hole.Carrier.hidden seats find before_dim before_hier
targets = refl

-- Margin (18), and Pct (19) of NY, CA and Sum (12): a ratio of sums, 25, and no sum of ratios, 60
rates : map (λ base. value basic [] (given known) (at base)) ((0 ∷ 6 ∷ 18 ∷ []) ∷ (0 ∷ 6 ∷ 19 ∷ []) ∷ (0 ∷ 8 ∷ 19 ∷ []) ∷ (0 ∷ 12 ∷ 19 ∷ []) ∷ (0 ∷ 3 ∷ 15 ∷ []) ∷ [])
    ≡ (Ok (val.Num (pos 400000)) ∷ Ok (val.Num (pos 400000)) ∷ Ok (val.Num (pos 200000)) ∷ Ok (val.Num (pos 250000)) ∷ Ok (val.Num (pos 4000000)) ∷ [])
unfolding value hidden-the_row-Expr-0 denote.Hole.Carrier.hidden seats find rank named before_dim before_hier
rates = refl

-- X, a query's own member, is 23: the margin over the Sales of all markets
abbrev share : ExtraMember
share = record { name = codes "X"; dim = 2; formula = Bin Over (cell (codes "Margin")) (Cell (codes "Sales" ∷ codes "Total" ∷ [])); solve = 20 }

abbrev few : List (List ℕ × ℤ)
few = (0 ∷ 6 ∷ 16 ∷ [], pos 80000) ∷ (0 ∷ 6 ∷ 17 ∷ [], pos 20000) ∷ (0 ∷ 4 ∷ 16 ∷ [], pos 80000) ∷ []

own_member : map (λ base. value basic (share ∷ []) (given few) (at base)) ((0 ∷ 6 ∷ 18 ∷ []) ∷ (0 ∷ 6 ∷ 23 ∷ []) ∷ []) ≡ (Ok (val.Num (pos 60000)) ∷ Ok (val.Num (pos 7500)) ∷ [])
unfolding value hidden-the_row-Expr-0 denote.Hole.Carrier.hidden seats find rank named before_dim before_hier
own_member = refl

-- A ratio and a sum in two dimensions, of equal solve orders: that of the last dimension is unfolded first.
abbrev label : List ℕ → DraftMember
label name = record (m root name) { label_only = true }

abbrev ratio : DraftDim
ratio = dim (codes "Kind") (dynamic (label (codes "Kind") ∷ m 0 (codes "Part") ∷ m 0 (codes "Whole") ∷ with 0 (codes "Ratio") (Bin Over (cell (codes "Part")) (cell (codes "Whole"))) ∷ []) ∷ [])

abbrev both_halves : DraftDim
both_halves = dim (codes "Half") (dynamic (label (codes "Half") ∷ m 0 (codes "First") ∷ m 0 (codes "Second") ∷ with 0 (codes "Both") (Bin Plus (cell (codes "First")) (cell (codes "Second"))) ∷ []) ∷ [])

abbrev plain : List ℕ → Tuple
plain base = record { base = base; attrs = [] }

-- 1 of 2 in the first half and 3 of 4 in the second
abbrev by_kind : List (List ℕ × ℤ)
by_kind = (1 ∷ 5 ∷ [], pos 10000) ∷ (2 ∷ 5 ∷ [], pos 20000) ∷ (1 ∷ 6 ∷ [], pos 30000) ∷ (2 ∷ 6 ∷ [], pos 40000) ∷ []

abbrev by_half : List (List ℕ × ℤ)
by_half = (1 ∷ 5 ∷ [], pos 10000) ∷ (1 ∷ 6 ∷ [], pos 20000) ∷ (2 ∷ 5 ∷ [], pos 30000) ∷ (2 ∷ 6 ∷ [], pos 40000) ∷ []

-- the sum last: a sum of ratios, 1.25
sum_last : value (outline (ratio ∷ both_halves ∷ []) []) [] (given by_kind) (plain (3 ∷ 7 ∷ [])) ≡ Ok (val.Num (pos 12500))
unfolding value hidden-the_row-Expr-0 denote.Hole.Carrier.hidden seats find rank named before_dim before_hier
sum_last = refl

-- the ratio last: a ratio of sums, 4 of 6
ratio_last : value (outline (both_halves ∷ ratio ∷ []) []) [] (given by_half) (plain (3 ∷ 7 ∷ [])) ≡ Ok (val.Num (pos 6667))
unfolding value hidden-the_row-Expr-0 denote.Hole.Carrier.hidden seats find rank named before_dim before_hier
ratio_last = refl
