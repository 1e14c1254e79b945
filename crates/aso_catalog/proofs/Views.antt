-- How runs over a catalog go on, for the layers above.
use Rattle.std.proofs.Common.{◌≡◌, ◌⊎◌, inl, inr, ⊎_elim, ℕ, ◌-◌, ◌<◌, ◌≤◌, true, false, List, [], Option, Some, None, Vec, length, map, get_or, sym, refl, ◌∙◌, ap, subst, arith}
use Rattle.std.proofs.lemmas.List.{get_or-map, length-map}
use Rattle.std.specs.Prelude.{Result, Ok, Err, OnErr}
use Rattle.std.specs.declared.alloc.Global.{Global}
use Rattle.aso_disk.proofs.Moments.{leaves_nothing, leaves_then}
use Rattle.aso_catalog.specs.Image.{area, body_of, layout_of, open_body, OpensWith}
use Rattle.aso_catalog.specs.View.{HasRecord, IsBefore, IsInDoubt, IsOneOf, IsSettled, KeepsRecord, NoNewDoubt, TellsAlike, Throughout, current_layout, is_shut}
use Rattle.aso_catalog.specs.declared.catalog.Catalog.{Catalog}
use Rattle.aso_catalog.proofs.Exits.{standing, told}

-- between two calls
pub throughout_nothing : {C : Type 0} {g : _} (catalog : Catalog C g) → Throughout catalog catalog (IsBefore catalog)
throughout_nothing {C} {g} catalog =
    leaves_nothing g.moment g.left catalog.slots (IsBefore catalog)
    (λ c is s was. (standing g.moment g.left catalog.slots catalog.current catalog.within catalog.layout catalog.present catalog.shut catalog.kept s catalog.known (catalog.stands s was)).each (g.moment catalog.slots) c (omega arith) (omega arith) is)

-- one run after another
pub throughout_then : {C : Type 0} {g : _} (old mid new : Catalog C g) (P Q R : List ℕ → Type 0) → Throughout old mid P → Throughout mid new Q
    → ((c : List ℕ) → P c → R c) → ((c : List ℕ) → Q c → R c) → Throughout old new R
throughout_then {C} {g} old mid new P Q R first second p q = leaves_then g.moment g.left old.slots mid.slots new.slots P Q R first second p q

pub throughout_weaker : {C : Type 0} {g : _} (old new : Catalog C g) (P R : List ℕ → Type 0) → Throughout old new P → ((c : List ℕ) → P c → R c) → Throughout old new R
throughout_weaker {C} {g} old new P R run p = record { later = run.later; past = run.past; each = λ k c from to is. p c (run.each k c from to is) }

-- what has the record of before has it afterwards
same_record : {C : Type 0} {g : _} (old new : Catalog C g) (s t : List ℕ) → KeepsRecord old new → g.seen old.slots ≡ Some s → g.seen new.slots ≡ Some t → open_body (area new.current t) ≡ open_body (area old.current s)
same_record {C} {g} old new s t keeps was now = keeps (open_body (area old.current s)) (λ u is. let same : u ≡ s = cc (is, was) in ap (λ (l : List ℕ). open_body (area old.current l)) same) t now

-- where the gate is closed, a crash leaves nothing but the record
pub shut_before : {C : Type 0} {g : _} (old new : Catalog C g) → TellsAlike old new → KeepsRecord old new → is_shut new ≡ true → NoNewDoubt old new
shut_before {C} {g} old new tells keeps shut c is = λ s was.
    let t = told (g.seen new.slots) (g.seen old.slots) s (sym tells) was in
    ⊎_elim (λ e. inl (subst (OpensWith c) (same_record old new s t.0 keeps was t.1) e)) (λ e. absurd (cc (shut, e.0))) (is t.0 t.1)

-- where it isn't, and what stands behind it stays, so does the doubt
pub doubt_before : {C : Type 0} {g : _} (old new : Catalog C g) → TellsAlike old new → KeepsRecord old new → current_layout new ≡ current_layout old → is_shut old ≡ false → ((body : List ℕ) → IsInDoubt old body → IsInDoubt new body) → NoNewDoubt old new
doubt_before {C} {g} old new tells keeps same_layout lax doubts c is = λ s was.
    let t = told (g.seen new.slots) (g.seen old.slots) s (sym tells) was in
    let D = body_of (area (1 - old.current) s) in
    let all = doubts D (lax, λ u at. let same : u ≡ s = cc (at, was) in ap (λ (l : List ℕ). body_of (area (1 - old.current) l)) same) in
    let other : body_of (area (1 - new.current) t.0) ≡ D = all.1 t.0 t.1 in
    ⊎_elim
    (λ e. inl (subst (OpensWith c) (same_record old new s t.0 keeps was t.1) e))
    (λ e.
    let newer : new.layout < layout_of (body_of (area (1 - new.current) t.0)) = e.1 in
    let layouts : layout_of (body_of (area (1 - new.current) t.0)) ≡ layout_of D = ap layout_of other in
    inr (lax, omega (arith, same_layout), subst (λ (l : List ℕ). OpensWith c (Some l)) other e.2))
    (is t.0 t.1)

-- where no doubt stands, what is before is the record
pub settled_before : {C : Type 0} {g : _} (catalog : Catalog C g) (b x s : List ℕ) → g.seen catalog.slots ≡ Some s → HasRecord catalog (Some b) → IsSettled catalog → IsBefore catalog x → OpensWith x (Some b)
settled_before {C} {g} catalog b x s now has settled is =
    ⊎_elim
    (λ e. subst (OpensWith x) (has s now) e)
    (λ e. let low : layout_of (body_of (area (1 - catalog.current) s)) ≤ catalog.layout = settled e.0 s now in let high : catalog.layout < layout_of (body_of (area (1 - catalog.current) s)) = e.1 in absurd (omega arith))
    (is s now)

-- the same for a run that began with another catalog over this device
pub settled_since : {C : Type 0} {g : _} (first catalog : Catalog C g) (b x : List ℕ) → TellsAlike first catalog → HasRecord catalog (Some b) → IsSettled catalog → IsBefore catalog x → IsBefore first x ⊎ OpensWith x (Some b)
settled_since {C} {g} first catalog b x tells has settled is = by_told (g.seen first.slots) refl
  where
    by_told : (o : Option (List ℕ)) → g.seen first.slots ≡ o → IsBefore first x ⊎ OpensWith x (Some b)
    by_told None e = inl (λ s was. absurd (cc (e, was)))
    by_told (Some s) e = let t = told (g.seen catalog.slots) (g.seen first.slots) s (sym tells) e in inr (settled_before catalog b x t.0 t.1 has settled is)

-- the first two parts of a publish
pub filled_images : {C : Type 0} {g : _} (old mid next : Catalog C g) → TellsAlike old mid → KeepsRecord old mid → is_shut mid ≡ true → Throughout old mid (IsBefore old) → Throughout mid next (IsBefore mid) → Throughout old next (IsBefore old)
filled_images old mid next tells keeps shut one two = throughout_then old mid next (IsBefore old) (IsBefore mid) (IsBefore old) one two (λ c e. e) (shut_before old mid tells keeps shut)

-- and the third
pub opened_images : {C : Type 0} {g : _} (old next new : Catalog C g) (body : List ℕ) → TellsAlike old next → KeepsRecord old next → is_shut next ≡ true → Throughout old next (IsBefore old) → Throughout next new (λ c. IsBefore next c ⊎ OpensWith c (Some body))
    → Throughout old new (λ c. IsBefore old c ⊎ OpensWith c (Some body))
opened_images old next new body tells keeps shut one two =
    throughout_then old next new (IsBefore old) (λ c. IsBefore next c ⊎ OpensWith c (Some body)) (λ c. IsBefore old c ⊎ OpensWith c (Some body)) one two (λ c e. inl e)
    (λ c. ⊎_elim (λ e. inl (shut_before old next tells keeps shut c e)) (λ e. inr e))

pub on_err : {T E : Type 0} (r : Result T E) (P Q : Type 0) → (P → Q) → OnErr r P → OnErr r Q
on_err (Ok x) P Q f h = tt
on_err (Err e) P Q f h = f h

-- the i-th of some bodies
pub ith_body : (bodies : List (Vec ℕ Global)) (i : ℕ) (v : Vec ℕ Global) (b : List ℕ) → i < length bodies → v ≡ get_or bodies i v → b ≡ v.items → get_or (map (λ w. w.items) bodies) i [] ≡ b
ith_body bodies i v b lt at is = get_or-map (λ (w : Vec ℕ Global). w.items) bodies i v [] lt ∙ ap (λ (w : Vec ℕ Global). w.items) (sym at) ∙ sym is

pub is_one_of : (bodies : List (Vec ℕ Global)) (i : ℕ) (v : Vec ℕ Global) (b : List ℕ) → i < length bodies → v ≡ get_or bodies i v → b ≡ v.items → (x : List ℕ) → OpensWith x (Some b) → IsOneOf (map (λ w. w.items) bodies) x
is_one_of bodies i v b lt at is x e = (i, omega (arith, lt, length-map bodies (λ (w : Vec ℕ Global). w.items)), subst (λ (l : List ℕ). OpensWith x (Some l)) (sym (ith_body bodies i v b lt at is)) e)
