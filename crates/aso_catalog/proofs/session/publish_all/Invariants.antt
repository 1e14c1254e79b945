use Rattle.std.proofs.Common.{◌≡◌, ◌⊎◌, ◌+◌, ◌-◌, ◌<◌, ◌≤◌, List, [], ℕ, Some, map, get_or}
use Rattle.aso_catalog.specs.View.{HasRecord, IsBefore, TellsAlike, Throughout, IsOneOf}
use Rattle.aso_catalog.proofs.session.publish_all.Given as goal

abbrev pub invariant-loop-body : goal.invariant-loop-body
invariant-loop-body g l = record {
  told : TellsAlike l.initial.catalog l.catalog;
  layout : l.catalog.layout ≡ l.initial.catalog.layout + l.body-index;
  holds : 0 < l.body-index → HasRecord l.catalog (Some (get_or (map (λ v. v.items) l.bodies) (l.body-index - 1) []));
  later : g.C.Slots.faults l.initial.catalog.slots ≤ g.C.Slots.faults l.catalog.slots;
  same : g.C.Slots.same l.initial.catalog.slots l.catalog.slots;
  covers : (c : List ℕ) → IsBefore l.catalog c → IsBefore l.initial.catalog c ⊎ IsOneOf (map (λ v. v.items) l.bodies) c;
  any_moment : Throughout l.initial.catalog l.catalog (λ c. IsBefore l.initial.catalog c ⊎ IsOneOf (map (λ v. v.items) l.bodies) c);
}
