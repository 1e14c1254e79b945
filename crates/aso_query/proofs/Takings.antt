-- A query's own members, taken one by one. What a formula of a dimension can't be refused for.
use Rattle.std.proofs.Common.{◌≡◌, ◌∙◌, inl, inr, ℕ, suc, ◌+◌, ◌<◌, Bool, true, false, not, ◌&&◌, true≢false, List, [], ◌∷◌, length, drop, get_or, Option, Some, None, refl, sym, ap, subst, add-one}
use Rattle.std.specs.Prelude.{is_none, is_some, slice_get, if◌then◌else◌}
use Rattle.std.specs.Option.{option_map, option_and_then, option_or}
use Rattle.std.specs.List.{list_all, find as first}
use Rattle.std.proofs.Math.Seq.{drop-cons}
use Rattle.std.proofs.lemmas.List.Concat.{flat_map-cons}
use Rattle.std.proofs.lemmas.List.Folds.{find-append}
use Rattle.aso_tree.proofs.Positions.{position_cons}
use Rattle.aso_outline.specs.declared.draft.Draft.{Draft}
use Rattle.aso_outline.specs.declared.draft.ExtraMember.{ExtraMember}
use Rattle.aso_outline.specs.Atoms.{Atom}
use Rattle.aso_outline.specs.Extend.{first_foreign, first_unknown, names_in}
use Rattle.aso_outline.specs.Members.{Name, find, seats}
use Rattle.aso_outline.specs.Ranks.{all_named, members_named, named}
use Rattle.aso_outline.specs.Rules.{is_atom, is_well_named}
use Rattle.aso_outline.proofs.ByName.{named_by_number}
use Rattle.aso_mdx.specs.declared.query.Own.{Own as Written}
use Rattle.aso_query.specs.declared.refusal.AskFault.{AskFault}
use Rattle.aso_query.specs.declared.refusal.AskFault.TheVariants.{Refused, NoMemory}
use Rattle.aso_query.specs.declared.refusal.QueryRefusal.{QueryRefusal}
use Rattle.aso_query.specs.Faults.{HasRefusal}
use Rattle.aso_query.specs.declared.refusal.QueryRefusal.TheVariants.{Formula}
use Rattle.aso_query.specs.Owns.{AreTaken, IsMisfit, IsNext, IsOwnRefusal, IsOwnsRefusal, dim_of, part}

-- ---- refusals

pub has_more : (P Q : QueryRefusal → Type 0) (fault : AskFault) → ((r : QueryRefusal) → P r → Q r) → HasRefusal P fault → HasRefusal Q fault
has_more P Q (Refused r) f p = f r p
has_more P Q (NoMemory e) f p = tt

-- a misfit is told at the formula's first byte
pub has_formula : (o : Draft) (before : List ExtraMember) (d : ℕ) (w : Written) (name : Name) (fault : AskFault) → dim_of o w ≡ Some d → name ≡ part w 1 → IsMisfit o before d w
    → HasRefusal (λ r. r ≡ Formula name 0) fault → HasRefusal (IsOwnRefusal o before w) fault
has_formula o before d w name fault dim named misfit =
    has_more (λ r. r ≡ Formula name 0) (IsOwnRefusal o before w) fault (λ r is. subst (IsOwnRefusal o before w) (sym is) (d, dim, named, inr (inr (refl, misfit))))

-- ---- one after the other

next_there : (ws : List Written) (i : ℕ) (w : Written) → i < length ws → get_or ws i w ≡ w → drop i ws ≡ w ∷ drop (i + 1) ws
next_there ws i w low is = rw (add-one) (drop-cons ws i w low ∙ ap (λ (x : Written). x ∷ drop (suc i) ws) is)

module _ (o : Draft) (before : List ExtraMember) (ws : List Written) (i : ℕ) (w : Written) (low : i < length ws) (is : get_or ws i w ≡ w) where
  abbrev pub Refuses : Type 0
  Refuses = (r : QueryRefusal) → IsOwnsRefusal o before (drop i ws) r → IsOwnsRefusal o [] ws r

  pub taken_more : (next : List ExtraMember) → IsNext o before w next → ((all : List ExtraMember) → AreTaken o before (drop i ws) all → AreTaken o [] ws all)
      → (all : List ExtraMember) → AreTaken o next (drop (i + 1) ws) all → AreTaken o [] ws all
  taken_more next n so_far all rest = so_far all (subst (λ (xs : List Written). AreTaken o before xs all) (sym (next_there ws i w low is)) (next, n, rest))

  pub refused_here : Refuses → (r : QueryRefusal) → IsOwnRefusal o before w r → IsOwnsRefusal o [] ws r
  refused_here so_far r here = so_far r (subst (λ (xs : List Written). IsOwnsRefusal o before xs r) (sym (next_there ws i w low is)) (inl here))

  pub refused_later : (next : List ExtraMember) → IsNext o before w next → Refuses → (r : QueryRefusal) → IsOwnsRefusal o next (drop (i + 1) ws) r → IsOwnsRefusal o [] ws r
  refused_later next n so_far r rest = so_far r (subst (λ (xs : List Written). IsOwnsRefusal o before xs r) (sym (next_there ws i w low is)) (inr (next, n, rest)))

-- ---- atoms

both_true : (a b : Bool) → (a && b) ≡ true → (a ≡ true) × (b ≡ true)
both_true true b e = (refl, e)
both_true false b e = absurd (true≢false (sym e))

has_number : (o : Draft) (r : Option ℕ) → is_some (option_and_then (λ (k : ℕ). slice_get (seats o) k) r) ≡ true → is_none r ≡ false
has_number o (Some k) e = refl
has_number o None e = absurd (true≢false (sym e))

is_known : (o : Draft) (name : Name) → is_some (named o name) ≡ true → is_none (find o name) ≡ false
is_known o name e = has_number o (find o name) (sym (ap is_some (named_by_number o name)) ∙ e)

passed : (n : Name) (b : Bool) (rest : Option Name) → b ≡ false → rest ≡ None → (if b then Some n else rest) ≡ None
passed n false rest b e = e
passed n true rest b e = absurd (true≢false b)

known_names : (o : Draft) (names : List Name) → all_named o names ≡ true → first (λ name. is_none (find o name)) names ≡ None
known_names o [] e = refl
known_names o (n ∷ ns) e =
    let both = both_true (is_some (named o n)) (all_named o ns) e in
    passed n (is_none (find o n)) (first (λ name. is_none (find o name)) ns) (is_known o n both.0) (known_names o ns both.1)

named_of_atom : (o : Draft) (d : ℕ) (names : Atom) → is_atom o d names ≡ true → all_named o names ≡ true
unfolding is_atom
named_of_atom o d names e = (both_true (all_named o names) (is_well_named o d (members_named o names)) e).0

-- each name of atoms that a formula may have is that of a member
pub no_unknown : (o : Draft) (d : ℕ) (all : List Atom) → list_all (is_atom o d) all ≡ true → first_unknown o all ≡ None
no_unknown o d [] e = refl
no_unknown o d (names ∷ rest) e =
    let p : Name → Bool = λ name. is_none (find o name) in
    let both = both_true (is_atom o d names) (list_all (is_atom o d) rest) e in
    ap (first p) (flat_map-cons (λ (ns : Atom). ns) names rest)
    ∙ (find-append p names (names_in rest) ∙ (ap (λ (r : Option Name). option_or r (first p (names_in rest))) (known_names o names (named_of_atom o d names both.0)) ∙ no_unknown o d rest both.1))

none_later : (b : Bool) (r : Option ℕ) → b ≡ true → r ≡ None → (if not b then Some 0 else option_map (λ (k : ℕ). suc k) r) ≡ None
none_later true r b e = ap (option_map (λ (k : ℕ). suc k)) e
none_later false r b e = absurd (true≢false (sym b))

-- and none is another dimension's
pub no_foreign : (o : Draft) (d : ℕ) (all : List Atom) → list_all (is_atom o d) all ≡ true → first_foreign o d all ≡ None
no_foreign o d [] e = refl
no_foreign o d (names ∷ rest) e =
    let both = both_true (is_atom o d names) (list_all (is_atom o d) rest) e in
    position_cons (λ (a : Atom). not (is_atom o d a)) names rest ∙ none_later (is_atom o d names) (first_foreign o d rest) both.0 (no_foreign o d rest both.1)

pub none_some : {X : Type 0} (r : Option X) (x : X) → r ≡ None → r ≡ Some x → ⊥
none_some r x none some = true≢false (sym (ap is_some some) ∙ ap is_some none)
