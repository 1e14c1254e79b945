-- What each call of the catalog owes, from what its one write through says. `write` stands for the device call.
use Rattle.std.proofs.Common.{◌≡◌, ◌⊎◌, inl, inr, ⊎_elim, ℕ, ◌+◌, ◌-◌, ◌*◌, ◌≤◌, Bool, true, false, List, [], ◌∷◌, ◌++◌, length, Option, Some, None, refl, sym, ◌∙◌, ap, subst, arith}
use Rattle.std.specs.Prelude.{not, is_some, option_map, IfSome}
use Rattle.std.specs.Int.{to_be_bytes, w32}
use Rattle.aso_disk.specs.Slots.{Torn, Only, Outside, Runs, LeavesOnly, overwrite}
use Rattle.aso_disk.proofs.Moments.{leaves, leaves_nothing}
use Rattle.aso_catalog.specs.Image.{area, framed, body_of, layout_of, open_body, OpensWith, IsBody, Stands, IsCatalog, IsOrNewer, BeforeOrDoubt}
use Rattle.aso_catalog.proofs.Areas.{current_stays, behind_stays, gate_stays}
use Rattle.aso_catalog.proofs.Chosen.{open_some, opens_shut, opens_kept}
use Rattle.aso_catalog.proofs.Steps.{gate_torn, closed, fill_torn, filled, opened}

pub told : (a b : Option (List ℕ)) (t : List ℕ) → is_some b ≡ is_some a → b ≡ Some t → (s : List ℕ) × (a ≡ Some s)
told None b t tells now = absurd (cc (tells, ap is_some now))
told (Some s) b t tells now = (s, refl)

pub not_false : (b : Bool) → not b ≡ false → b ≡ true
not_false true e = refl
not_false false e = absurd (cc e)

pub at_flags : (current layout : ℕ) (present shut kept a b : Bool) (s : List ℕ) (left : List ℕ → Type 0) → shut ≡ a → kept ≡ b → IsCatalog current layout present shut kept s left → IsCatalog current layout present a b s left
at_flags current layout present shut kept a b s left is_a is_b was =
    subst (λ (x : Bool). IsCatalog current layout present a x s left) is_b (subst (λ (x : Bool). IsCatalog current layout present x kept s left) is_a was)

-- between two calls
pub standing : {D : Type 0} (moment : D → ℕ) (left : D → ℕ → List ℕ → Type 0) (old : D) (current : ℕ) (within : current ≤ 1) (layout : ℕ) (present shut kept : Bool) (s : List ℕ) → (shut ≡ false → kept ≡ true) → IsCatalog current layout present shut kept s (left old (moment old))
    → LeavesOnly moment left old old (BeforeOrDoubt (open_body (area current s)) shut layout (body_of (area (1 - current) s)))
standing moment left old current within layout present true kept s known was = leaves_nothing moment left old (BeforeOrDoubt (open_body (area current s)) true layout (body_of (area (1 - current) s))) (λ c is. inl (opens_shut current layout present true kept kept s c (left old (moment old)) within was (was.each c is)))
standing moment left old current within layout present false false s known was = absurd (cc (known refl))
standing moment left old current within layout present false true s known was = leaves_nothing moment left old (BeforeOrDoubt (open_body (area current s)) false layout (body_of (area (1 - current) s)))
    (λ c is. ⊎_elim (λ e. inl e) (λ e. inr (refl, e.0, e.1)) (opens_kept current layout present false false s c (left old (moment old)) within was (was.each c is)))

module _ {D : Type 0} (moment : D → ℕ) (left : D → ℕ → List ℕ → Type 0) (seen : D → Option (List ℕ)) (old new : D) (current : ℕ) (within : current ≤ 1) (layout : ℕ) (present shut kept : Bool) where
  abbrev pub Stood : Bool → Bool → Type 0
  Stood a b = (s : List ℕ) → seen old ≡ Some s → IsCatalog current layout present a b s (left old (moment old))

  abbrev pub Now : Bool → Bool → Type 0
  Now a b = (t : List ℕ) → seen new ≡ Some t → IsCatalog current layout present a b t (left new (moment new))

  abbrev pub Wrote : ℕ → ℕ → Type 0
  Wrote at n = Runs (Torn at n) (moment old) (moment new) (left old) (left new) × Outside at n (seen old) (seen new) × (is_some (seen new) ≡ is_some (seen old))

  abbrev pub Synced : ℕ → List ℕ → Type 0
  Synced at bytes = (seen new ≡ option_map (overwrite at bytes) (seen old)) × IfSome (seen new) (λ b. Only b (left new (moment new)))

  abbrev pub at : ℕ
  at = 131072 * (1 - current)

  abbrev pub Room : Type 0
  Room = (s : List ℕ) → seen old ≡ Some s → 262144 ≤ length s

  follow : (from n : ℕ) → Wrote from n → (c : List ℕ) → left new (moment new) c → (d : List ℕ) × left old (moment old) d × Torn from n d c
  follow from n wrote c is = wrote.0.each (moment new) c wrote.0.later (omega arith) is

  is_written : (from : ℕ) (bytes s t : List ℕ) → Synced from bytes → seen old ≡ Some s → seen new ≡ Some t → t ≡ overwrite from bytes s
  is_written from bytes s t synced was now = let e : Some t ≡ Some (overwrite from bytes s) = sym now ∙ synced.0 ∙ ap (λ (o : Option (List ℕ)). option_map (overwrite from bytes) o) was in cc e

  is_durable : (from : ℕ) (bytes t : List ℕ) → Synced from bytes → seen new ≡ Some t → Only t (left new (moment new))
  is_durable from bytes t synced now = let P : Option (List ℕ) → Type 0 = λ o. IfSome o (λ b. Only b (left new (moment new))) in subst P now synced.1

  -- the current record stays
  pub stays : (from n : ℕ) → at ≤ from → from + n ≤ at + 131072 → Wrote from n → (s t : List ℕ) → seen old ≡ Some s → seen new ≡ Some t → open_body (area current t) ≡ open_body (area current s)
  stays from n low high wrote s t was now = ap open_body (current_stays current within from n s t low high (wrote.1 s t was now))

  -- and so does what stands behind the other gate, while that is written
  pub doubt_stays : Wrote at 1 → (s t : List ℕ) → seen old ≡ Some s → seen new ≡ Some t → body_of (area (1 - current) t) ≡ body_of (area (1 - current) s)
  doubt_stays wrote s t was now = ap framed (behind_stays current within s t (wrote.1 s t was now))

  pub gate_fails : (a next : Bool) → next ≡ false → Stood a true → Wrote at 1 → Now next true
  gate_fails a next lax stood wrote t now =
      let s = told (seen old) (seen new) t wrote.2 now in
      gate_torn current within layout present s.0 t (left old (moment old)) (left new (moment new)) a next lax (stood s.0 s.1) (wrote.1 s.0 t s.1 now) (follow at 1 wrote)

  pub gate_closes : Room → Stood false true → Wrote at 1 → Synced at (0 ∷ []) → Now true false
  gate_closes room stood wrote synced t now =
      let s = told (seen old) (seen new) t wrote.2 now in
      closed current within layout present s.0 t (left old (moment old)) (left new (moment new)) (stood s.0 s.1) (is_written at (0 ∷ []) s.0 t synced s.1 now) (omega (arith, room s.0 s.1)) (is_durable at (0 ∷ []) t synced now)

  pub fill_fails : (b : Bool) (n : ℕ) → n ≤ 131071 → Stood true b → Wrote (at + 1) n → Now true false
  fill_fails b n small stood wrote t now =
      let s = told (seen old) (seen new) t wrote.2 now in
      fill_torn current within layout present s.0 t (left old (moment old)) (left new (moment new)) n b small (stood s.0 s.1) (wrote.1 s.0 t s.1 now) (follow (at + 1) n wrote)

  pub fills : (b : Bool) (n : ℕ) (body : List ℕ) → n ≤ 131071 → IsBody (layout + 1) body → Room → Stood true b → Wrote (at + 1) n → Synced (at + 1) (to_be_bytes w32 (length body) ++ body)
      → (t : List ℕ) → seen new ≡ Some t → IsCatalog current layout present true true t (left new (moment new)) × (body_of (area (1 - current) t) ≡ body)
  fills b n body small good room stood wrote synced t now =
      let s = told (seen old) (seen new) t wrote.2 now in
      filled current within layout present s.0 t (left old (moment old)) (left new (moment new)) body good (fill_fails b n small stood wrote t now) (is_written (at + 1) (to_be_bytes w32 (length body) ++ body) s.0 t synced s.1 now)
      (omega (arith, room s.0 s.1)) (is_durable (at + 1) (to_be_bytes w32 (length body) ++ body) t synced now)

  pub gate_opens : Room → Stood true true → Wrote at 1 → Synced at (1 ∷ []) → (s t : List ℕ) → seen old ≡ Some s → seen new ≡ Some t
      → IsCatalog (1 - current) (layout + 1) true (not present) present t (left new (moment new)) × (open_body (area (1 - current) t) ≡ Some (body_of (area (1 - current) s)))
  gate_opens room stood wrote synced s t was now =
      let all = opened current within layout present s t (left old (moment old)) (left new (moment new)) (stood s was) (is_written at (1 ∷ []) s t synced was now) (omega (arith, room s was)) (is_durable at (1 ∷ []) t synced now) in
      (all.0, open_some (area (1 - current) t) all.2 ∙ ap (λ (x : List ℕ). Some x) all.1)

  pub gate_opened : Room → Stood true true → Wrote at 1 → Synced at (1 ∷ []) → (t : List ℕ) → seen new ≡ Some t → IsCatalog (1 - current) (layout + 1) true (not present) present t (left new (moment new))
  gate_opened room stood wrote synced t now = let s = told (seen old) (seen new) t wrote.2 now in (gate_opens room stood wrote synced s.0 t s.1 now).0

  -- an image after a step from one that stands so, read against what a read gave before
  stands_torn : (a b : Bool) (s c d : List ℕ) → Torn at 1 d c → Stands current a b s d → Stands current false b s c
  stands_torn a b s c d torn stood = record {
    same = current_stays current within at 1 d c (omega arith) (omega arith) torn ∙ stood.same;
    closed = λ e. absurd (cc e);
    behind = λ e. behind_stays current within d c torn ∙ stood.behind e;
  }

  pub any_moment_gate : (a : Bool) → Stood a true → Wrote at 1 → (s : List ℕ) → seen old ≡ Some s → LeavesOnly moment left old new (IsOrNewer (open_body (area current s)) layout (body_of (area (1 - current) s)))
  any_moment_gate a stood wrote s was = leaves moment left old new (Torn at 1) (IsOrNewer (open_body (area current s)) layout (body_of (area (1 - current) s))) wrote.0
      (λ d c was_left torn. opens_kept current layout present a false s c (left old (moment old)) within (stood s was) (stands_torn a true s c d torn ((stood s was).each d was_left)))

  pub any_moment_fill : (b : Bool) (n : ℕ) → n ≤ 131071 → Stood true b → Wrote (at + 1) n → (s : List ℕ) → seen old ≡ Some s → LeavesOnly moment left old new (λ c. OpensWith c (open_body (area current s)))
  any_moment_fill b n small stood wrote s was = leaves moment left old new (Torn (at + 1) n) (λ c. OpensWith c (open_body (area current s))) wrote.0
      (λ d c was_left torn.
      let stands = (stood s was).each d was_left in
      opens_shut current layout present true b false s c (left old (moment old)) within (stood s was) record {
        same = current_stays current within (at + 1) n d c (omega arith) (omega arith) torn ∙ stands.same;
        closed = λ e is. stands.closed refl (sym (gate_stays current within n d c torn) ∙ is);
        behind = λ e. absurd (cc e);
      })

  pub any_moment_open : Stood true true → Wrote at 1 → (s : List ℕ) → seen old ≡ Some s
      → LeavesOnly moment left old new (λ c. OpensWith c (open_body (area current s)) ⊎ OpensWith c (Some (body_of (area (1 - current) s))))
  any_moment_open stood wrote s was =
      let run = any_moment_gate true stood wrote s was in
      record { later = run.later; past = run.past; each = λ k c from to is. ⊎_elim (λ e. inl e) (λ e. inr e.1) (run.each k c from to is) }

  -- what it leaves behind the other gate is older
  pub gate_settles : Room → Stood true true → Wrote at 1 → Synced at (1 ∷ []) → (t : List ℕ) → seen new ≡ Some t → not present ≡ false → layout_of (body_of (area (1 - (1 - current)) t)) ≡ layout
  gate_settles room stood wrote synced t now e =
      let s = told (seen old) (seen new) t wrote.2 now in
      (opened current within layout present s.0 t (left old (moment old)) (left new (moment new)) (stood s.0 s.1) (is_written at (1 ∷ []) s.0 t synced s.1 now) (omega (arith, room s.0 s.1)) (is_durable at (1 ∷ []) t synced now)).3 (not_false present e)

  -- the current record is the one that it was
  pub keeps : (from n : ℕ) → at ≤ from → from + n ≤ at + 131072 → Wrote from n → (r : Option (List ℕ)) → ((s : List ℕ) → seen old ≡ Some s → open_body (area current s) ≡ r) → (t : List ℕ) → seen new ≡ Some t → open_body (area current t) ≡ r
  keeps from n low high wrote r has t now = let s = told (seen old) (seen new) t wrote.2 now in stays from n low high wrote s.0 t s.1 now ∙ has s.0 s.1

  -- and so is what stands behind the other gate, while that is written
  pub keeps_other : Wrote at 1 → (body : List ℕ) → ((s : List ℕ) → seen old ≡ Some s → body_of (area (1 - current) s) ≡ body) → (t : List ℕ) → seen new ≡ Some t → body_of (area (1 - current) t) ≡ body
  keeps_other wrote body has t now = let s = told (seen old) (seen new) t wrote.2 now in doubt_stays wrote s.0 t s.1 now ∙ has s.0 s.1

  -- an image is opened with the record before, or with a doubt that stood
  abbrev pub Before : List ℕ → Type 0
  Before c = (s : List ℕ) → seen old ≡ Some s → BeforeOrDoubt (open_body (area current s)) shut layout (body_of (area (1 - current) s)) c

  pub before_nothing : (shut ≡ false → kept ≡ true) → Stood shut kept → LeavesOnly moment left old old Before
  before_nothing known stood = leaves_nothing moment left old Before (λ c is s was. (standing moment left old current within layout present shut kept s known (stood s was)).each (moment old) c (omega arith) (omega arith) is)

  pub before_gate : shut ≡ false → Stood false true → Wrote at 1 → LeavesOnly moment left old new Before
  before_gate lax stood wrote = record {
    later = wrote.0.later;
    past = wrote.0.same;
    each = λ k c from to is s was. ⊎_elim (λ e. inl e) (λ e. inr (lax, e.0, e.1)) ((any_moment_gate false stood wrote s was).each k c from to is);
  }

  pub before_fill : (b : Bool) (n : ℕ) → n ≤ 131071 → Stood true b → Wrote (at + 1) n → LeavesOnly moment left old new Before
  before_fill b n small stood wrote = record {
    later = wrote.0.later;
    past = wrote.0.same;
    each = λ k c from to is s was. inl ((any_moment_fill b n small stood wrote s was).each k c from to is);
  }

  pub before_open : Stood true true → Wrote at 1 → (body : List ℕ) → ((s : List ℕ) → seen old ≡ Some s → body_of (area (1 - current) s) ≡ body) → LeavesOnly moment left old new (λ c. Before c ⊎ OpensWith c (Some body))
  before_open stood wrote body has = record {
    later = wrote.0.later;
    past = wrote.0.same;
    each = λ k c from to is. by_told k c from to is (seen old) refl;
  }
    where
      by_told : (k : ℕ) (c : List ℕ) → moment old ≤ k → k ≤ moment new → left new k c → (o : Option (List ℕ)) → seen old ≡ o → Before c ⊎ OpensWith c (Some body)
      by_told k c from to is None e = inl (λ s was. absurd (cc (e, was)))
      by_told k c from to is (Some s) e =
          ⊎_elim
          (λ x. inl (λ t was. let same : s ≡ t = cc (e, was) in inl (subst (λ (l : List ℕ). OpensWith c (open_body (area current l))) same x)))
          (λ x. inr (subst (λ (l : List ℕ). OpensWith c (Some l)) (has s e) x))
          ((any_moment_open stood wrote s e).each k c from to is)
