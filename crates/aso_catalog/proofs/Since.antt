-- What a crash leaves from a sync on, while nothing is written.
use Rattle.std.proofs.Common.{◌≡◌, ℕ, ◌≤◌, List, inl, inr, sym, subst, arith}
use Rattle.std.proofs.lemmas.Bool.Decides.{leb_tells}
use Rattle.aso_disk.specs.Slots.{Runs, Still}
use Rattle.aso_catalog.specs.Image.{FromSync}

module _ {D : Type 0} (moment : D → ℕ) (left : D → ℕ → List ℕ → Type 0) where
  -- after a sync that left P, and a call that writes nothing
  pub from_sync : (old mid new : D) (P : List ℕ → Type 0) → moment old ≤ moment mid → ((c : List ℕ) → left mid (moment mid) c → P c) → Runs Still (moment mid) (moment new) (left mid) (left new) → FromSync moment left old new P
  from_sync old mid new P later here run = record {
    at = moment mid;
    from = later;
    to = run.later;
    each = λ k c from to is. let one = run.each k c from to is in subst P (sym one.2) (here one.0 one.1);
  }

  -- and one more such call
  pub from_sync_then : (old mid new : D) (P : List ℕ → Type 0) → FromSync moment left old mid P → Runs Still (moment mid) (moment new) (left mid) (left new) → FromSync moment left old new P
  from_sync_then old mid new P synced run = record {
    at = synced.at;
    from = synced.from;
    to = omega (arith, synced.to, run.later);
    each = λ k c from to is. elim (leb_tells k (moment mid)) [
      | inl le ↦ synced.each k c from le.1 (run.same k c le.1 is)
      | inr lt ↦
          let one = run.each k c (omega arith) to is in
          let up_to = synced.to in
          subst P (sym one.2) (synced.each (moment mid) one.0 up_to (omega arith) one.1)
    ];
  }
