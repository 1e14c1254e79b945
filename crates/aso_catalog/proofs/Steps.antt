-- How the catalog's images go on from device call to device call.
use Rattle.std.proofs.Common.{◌≡◌, ℕ, ◌+◌, ◌-◌, ◌≤◌, Bool, true, false, List, [], ◌∷◌, ◌++◌, length, drop, refl, sym, ◌∙◌, ap, subst, arith}
use Rattle.std.specs.Prelude.{not}
use Rattle.std.specs.Int.{to_be_bytes, w32}
use Rattle.aso_disk.specs.Slots.{Torn, Only, overwrite}
use Rattle.aso_disk.specs.CallLaws.{torn-overwrite}
use Rattle.aso_catalog.specs.Image.{area, gate_of, framed, body_of, layout_of, size_in, IsBody, IsWhole, IsCatalog}
use Rattle.aso_catalog.specs.Record.{IsRecord}
use Rattle.aso_catalog.proofs.Areas.{base, current_stays, behind_stays, gate_stays, gate_written, body_written, layout_named}

not_true : (b : Bool) → not b ≡ true → b ≡ false
not_true true e = absurd (cc e)
not_true false e = refl

module _ (current : ℕ) (within : current ≤ 1) (layout : ℕ) (present : Bool) (s t : List ℕ) (old new : List ℕ → Type 0) where
  abbrev other : ℕ
  other = 1 - current

  abbrev at : ℕ
  at = base current within

  abbrev pub Follow : ℕ → ℕ → Type 0
  Follow from n = (c : List ℕ) → new c → (d : List ℕ) × old d × Torn from n d c

  -- the current area is as it was
  same_area : (from n : ℕ) → at ≤ from → from + n ≤ at + 131072 → Torn from n s t → area current t ≡ area current s
  same_area from n low high torn = current_stays current within from n s t low high torn

  -- while the gate of the other area is written, behind which stands what was synced
  pub gate_torn : (shut next : Bool) → next ≡ false → IsCatalog current layout present shut true s old → Torn at 1 s t → Follow at 1 → IsCatalog current layout present next true t new
  gate_torn shut next lax was torn follows =
      let same : area current t ≡ area current s = same_area at 1 (omega arith) (omega arith) torn in
      let behind : drop 1 (area other t) ≡ drop 1 (area other s) = behind_stays current within s t torn in
      record {
        there = λ e. ap gate_of same ∙ was.there e;
        names = λ e. ap (λ l. layout_of (body_of l)) same ∙ was.names e;
        sound = λ e. subst (λ (l : List ℕ). ∥ IsWhole (drop 1 l) ∥₁) (sym same) (was.sound e);
        absent = λ e is. was.absent e (sym (ap gate_of same) ∙ is);
        none = was.none;
        apart = λ e is. was.apart refl (sym (ap (λ l. layout_of (framed l)) behind) ∙ is);
        whole = λ e. subst (λ (l : List ℕ). ∥ IsWhole l ∥₁) (sym behind) (was.whole refl);
        ready = λ e f. absurd (cc (lax, f));
        each = λ c left.
            let d = follows c left in
            let stood = was.each d.0 d.1 in
            record {
              same = current_stays current within at 1 d.0 c (omega arith) (omega arith) d.2 ∙ stood.same ∙ sym same;
              closed = λ f. absurd (cc (lax, f));
              behind = λ e. behind_stays current within d.0 c d.2 ∙ stood.behind refl ∙ sym behind;
            };
      }

  -- once it is closed
  pub closed : IsCatalog current layout present false true s old → t ≡ overwrite at (0 ∷ []) s → at + 131072 ≤ length s → Only t new → IsCatalog current layout present true false t new
  closed was is room only =
      let torn : Torn at 1 s t = subst (λ (x : List ℕ). Torn at 1 s x) (sym is) (torn-overwrite at (0 ∷ []) s (omega arith)) in
      let same : area current t ≡ area current s = same_area at 1 (omega arith) (omega arith) torn in
      let gate : gate_of (area other t) ≡ 0 = ap (λ (x : List ℕ). gate_of (area other x)) is ∙ gate_written current within 0 s (omega arith) in
      record {
        there = λ e. ap gate_of same ∙ was.there e;
        names = λ e. ap (λ l. layout_of (body_of l)) same ∙ was.names e;
        sound = λ e. subst (λ (l : List ℕ). ∥ IsWhole (drop 1 l) ∥₁) (sym same) (was.sound e);
        absent = λ e is. was.absent e (sym (ap gate_of same) ∙ is);
        none = was.none;
        apart = λ e. absurd (cc e);
        whole = λ e. absurd (cc e);
        ready = λ e. absurd (cc e);
        each = λ c left. record {
          same = ap (area current) (only c left);
          closed = λ e is. let one : 0 ≡ 1 = sym gate ∙ ap (λ (x : List ℕ). gate_of (area other x)) (sym (only c left)) ∙ is in absurd (omega arith);
          behind = λ e. absurd (cc e);
        };
      }

  -- while what stands behind the closed gate is written
  pub fill_torn : (n : ℕ) (kept : Bool) → n ≤ 131071 → IsCatalog current layout present true kept s old → Torn (at + 1) n s t → Follow (at + 1) n → IsCatalog current layout present true false t new
  fill_torn n kept small was torn follows =
      let same : area current t ≡ area current s = same_area (at + 1) n (omega arith) (omega arith) torn in
      record {
        there = λ e. ap gate_of same ∙ was.there e;
        names = λ e. ap (λ l. layout_of (body_of l)) same ∙ was.names e;
        sound = λ e. subst (λ (l : List ℕ). ∥ IsWhole (drop 1 l) ∥₁) (sym same) (was.sound e);
        absent = λ e is. was.absent e (sym (ap gate_of same) ∙ is);
        none = was.none;
        apart = λ e. absurd (cc e);
        whole = λ e. absurd (cc e);
        ready = λ e. absurd (cc e);
        each = λ c left.
            let d = follows c left in
            let stood = was.each d.0 d.1 in
            record {
              same = current_stays current within (at + 1) n d.0 c (omega arith) (omega arith) d.2 ∙ stood.same ∙ sym same;
              closed = λ e is. stood.closed refl (sym (gate_stays current within n d.0 c d.2) ∙ is);
              behind = λ e. absurd (cc e);
            };
      }

  -- once a body stands there
  pub filled : (body : List ℕ) → IsBody (layout + 1) body → IsCatalog current layout present true false t new → t ≡ overwrite (at + 1) (to_be_bytes w32 (length body) ++ body) s → at + 131072 ≤ length s → Only t new
      → IsCatalog current layout present true true t new × (body_of (area other t) ≡ body)
  filled body good was is room only =
      let written = body_written current within body s room good.fits in
      let stands : body_of (area other t) ≡ body = ap (λ (x : List ℕ). body_of (area other x)) is ∙ written.0 in
      let size : size_in (drop 1 (area other t)) ≡ length body = ap (λ (x : List ℕ). size_in (drop 1 (area other x))) is ∙ written.1 in
      let names : layout_of (body_of (area other t)) ≡ layout + 1 = ap layout_of stands ∙ layout_named body good.r good.spelled ∙ good.names in (
        record {
          there = was.there;
          names = was.names;
          sound = was.sound;
          absent = was.absent;
          none = was.none;
          apart = λ e is. absurd (omega arith);
          whole = λ e. ∣ record { fits = omega (arith, size, good.fits); r = good.r; spelled = subst (IsRecord good.r) (sym stands) good.spelled } ∣₁;
          ready = λ e f. names;
          each = λ c left.
              let stood = was.each c left in
              record { same = stood.same; closed = λ e. stood.closed refl; behind = λ e. ap (λ (x : List ℕ). drop 1 (area other x)) (only c left) };
        },
        stands,
      )

  -- once its gate is open, that area is the current one
  pub opened : IsCatalog current layout present true true s old → t ≡ overwrite at (1 ∷ []) s → at + 131072 ≤ length s → Only t new
      → IsCatalog other (layout + 1) true (not present) present t new × (body_of (area other t) ≡ body_of (area other s)) × (gate_of (area other t) ≡ 1) × (present ≡ true → layout_of (body_of (area (1 - other) t)) ≡ layout)
  opened was is room only =
      let torn : Torn at 1 s t = subst (λ (x : List ℕ). Torn at 1 s x) (sym is) (torn-overwrite at (1 ∷ []) s (omega arith)) in
      let same : area current t ≡ area current s = same_area at 1 (omega arith) (omega arith) torn in
      let behind : drop 1 (area other t) ≡ drop 1 (area other s) = behind_stays current within s t torn in
      let gate : gate_of (area other t) ≡ 1 = ap (λ (x : List ℕ). gate_of (area other x)) is ∙ gate_written current within 1 s (omega arith) in
      let body : body_of (area other t) ≡ body_of (area other s) = ap framed behind in
      let back : 1 - other ≡ current = omega arith in
      let old_area : area (1 - other) t ≡ area current s = ap (λ (k : ℕ). area k t) back ∙ same in
      let old_names : layout_of (body_of (area (1 - other) t)) ≡ layout_of (body_of (area current s)) = ap (λ (l : List ℕ). layout_of (body_of l)) old_area in
      let old_gate : (c : List ℕ) → c ≡ t → gate_of (area (1 - other) c) ≡ gate_of (area current s) = λ c is. ap (λ (x : List ℕ). gate_of (area (1 - other) x)) is ∙ ap gate_of old_area in (
        record {
          there = λ e. gate;
          names = λ e. ap layout_of body ∙ was.ready refl refl;
          sound = λ e. subst (λ (l : List ℕ). ∥ IsWhole l ∥₁) (sym behind) (was.whole refl);
          absent = λ e. absurd (cc e);
          none = λ e. absurd (cc e);
          apart = λ e is. let one : layout ≡ layout + 1 = sym (was.names e) ∙ sym old_names ∙ is in absurd (omega arith);
          whole = λ e. subst (λ (l : List ℕ). ∥ IsWhole (drop 1 l) ∥₁) (sym old_area) (was.sound e);
          ready = λ e f. absurd (cc (ap not e, f));
          each = λ c left. record {
            same = ap (area other) (only c left);
            closed = λ e is. was.absent (not_true present e) (sym (old_gate c (only c left)) ∙ is);
            behind = λ e. ap (λ (x : List ℕ). drop 1 (area (1 - other) x)) (only c left);
          };
        },
        body,
        gate,
        λ e. old_names ∙ was.names e,
      )
