-- What a catalog's public words give for the images of its device.
use Rattle.std.proofs.Common.{◌≡◌, ◌⊎◌, inl, inr, ⊎_elim, ℕ, ◌-◌, ◌<◌, ◌≤◌, List, Option, Some, None, sym, refl, subst, arith, true≢false}
use Rattle.std.specs.Prelude.{IsSome}
use Rattle.aso_disk.specs.Slots.{LeavesOnly, Runs, Still}
use Rattle.aso_catalog.specs.Image.{FromSync, OpensWith, area, body_of, layout_of}
use Rattle.aso_catalog.specs.View.{HasRecord, IsBefore, IsInDoubt, IsSettled, IsTold}
use Rattle.aso_catalog.specs.declared.catalog.Catalog.{Catalog}
use Rattle.aso_stage.specs.Opening.{IsOpenedFrom, IsUntouched}

-- what is there
pub some_of : {X : Type 0} (o : Option X) → IsSome o → (x : X) × (o ≡ Some x)
some_of None h = absurd (true≢false (sym h))
some_of (Some x) h = (x, refl)

-- where no doubt stands, what is before is the record, or that there is none
pub settled_opens : {C : Type 0} {g : _} (catalog : Catalog C g) (body : Option (List ℕ)) (c : List ℕ) → IsTold catalog → HasRecord catalog body → IsSettled catalog → IsBefore catalog c → OpensWith c body
settled_opens {C} {g} catalog body c told has settled is =
    let s = some_of (g.seen catalog.slots) told in
    ⊎_elim
    (λ e. subst (OpensWith c) (has s.0 s.1) e)
    (λ e. let low : layout_of (body_of (area (1 - catalog.current) s.0)) ≤ catalog.layout = settled e.0 s.0 s.1 in let high : catalog.layout < layout_of (body_of (area (1 - catalog.current) s.0)) = e.1 in absurd (omega arith))
    (is s.0 s.1)

-- where a body is in doubt, it is the record or that body
pub doubt_opens : {C : Type 0} {g : _} (catalog : Catalog C g) (body : Option (List ℕ)) (other c : List ℕ) → IsTold catalog → HasRecord catalog body → IsInDoubt catalog other → IsBefore catalog c → OpensWith c body ⊎ OpensWith c (Some other)
doubt_opens {C} {g} catalog body other c told has doubt is =
    let s = some_of (g.seen catalog.slots) told in
    ⊎_elim
    (λ e. inl (subst (OpensWith c) (has s.0 s.1) e))
    (λ e. inr (subst (λ (l : List ℕ). OpensWith c (Some l)) (doubt.1 s.0 s.1) e.2))
    (is s.0 s.1)

-- ---- openings, and what comes behind them

module _ {D : Type 0} (moment : D → ℕ) (left : D → ℕ → List ℕ → Type 0) where
  pub untouched_same : (d : D) → IsUntouched moment left d d
  untouched_same d = record {
    later = omega arith;
    past = λ k c low is. is;
    since = λ k c low high is. let at : k ≡ moment d = omega arith in subst (λ (n : ℕ). left d n c) at is;
  }

  since_start : (old new : D) → Runs Still (moment old) (moment new) (left old) (left new) → (k : ℕ) (c : List ℕ) → moment old ≤ k → k ≤ moment new → left new k c → left old (moment old) c
  since_start old new runs k c low high is =
      let start = runs.each k c low high is in
      subst (λ (x : List ℕ). left old (moment old) x) (sym start.2) start.1

  pub untouched_still : (old new : D) → Runs Still (moment old) (moment new) (left old) (left new) → IsUntouched moment left old new
  untouched_still old new runs = record { later = runs.later; past = runs.same; since = since_start old new runs }

  either_side : (k m : ℕ) → (k ≤ m) ⊎ (m ≤ k)
  either_side k m = search arith

  -- an opening, and a run that leaves only what has P, where what the opening leaves has it
  pub opened_then : (old mid new : D) (B : List ℕ → Type 0) (P : List ℕ → Type 0) → Runs Still (moment old) (moment mid) (left old) (left mid) → FromSync moment left old mid B → LeavesOnly moment left mid new P
      → ((c : List ℕ) → B c → P c) → IsOpenedFrom moment left old new (λ k c. P c)
  opened_then old mid new B P runs sync run covers = record {
    at = sync.at;
    from = sync.from;
    to = omega (arith, sync.to, run.later);
    past = λ k c low is. runs.same k c low (run.past k c (omega (arith, low, runs.later)) is);
    before = λ k c low high is. since_start old mid runs k c low (omega (arith, high, sync.to)) (run.past k c (omega (arith, high, sync.to)) is);
    since = λ k c low high is. ⊎_elim (λ early. covers c (sync.each k c low early (run.past k c early is))) (λ late. run.each k c late high is) (either_side k (moment mid));
  }
