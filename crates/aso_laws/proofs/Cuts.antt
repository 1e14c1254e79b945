-- Two cuts of one list in a front and a rest.
use Rattle.std.proofs.Common.{◌≡◌, ◌∙◌, ◌⊎◌, inl, inr, List, [], ◌∷◌, ◌++◌, map, sym, ap, refl, subst, append_assoc}
use Rattle.std.proofs.lemmas.List.{map-append}

-- The later front goes on behind the earlier one with what begins the earlier one's rest.
pub record GoesOn {X : Type 0} (front rest later : List X) : Type 0 where
  pub next : X
  pub more : List X
  pub left : List X
  pub is : later ≡ front ++ next ∷ more
  pub begins : rest ≡ next ∷ left

abbrev pub Cuts : {X : Type 0} → List X → List X → List X → List X → Type 0
Cuts front rest later left = ((front ≡ later) × (rest ≡ left)) ⊎ (GoesOn front rest later ⊎ GoesOn later left front)

behind : {X : Type 0} (x y : X) (front rest later left : List X) → x ≡ y → Cuts front rest later left → Cuts (x ∷ front) rest (y ∷ later) left
behind {X} x y front rest later left same (inl (fronts, rests)) = inl (ap (λ (z : X). z ∷ front) same ∙ ap (λ (zs : List X). y ∷ zs) fronts, rests)
behind {X} x y front rest later left same (inr (inl g)) = inr (inl (record {
  next = g.next;
  more = g.more;
  left = g.left;
  is = ap (λ (zs : List X). y ∷ zs) g.is ∙ ap (λ (z : X). z ∷ front ++ g.next ∷ g.more) (sym same);
  begins = g.begins;
}))
behind {X} x y front rest later left same (inr (inr g)) = inr (inr (record {
  next = g.next;
  more = g.more;
  left = g.left;
  is = ap (λ (zs : List X). x ∷ zs) g.is ∙ ap (λ (z : X). z ∷ later ++ g.next ∷ g.more) same;
  begins = g.begins;
}))

pub cuts : {X : Type 0} (front rest later left : List X) → front ++ rest ≡ later ++ left → Cuts front rest later left
cuts [] rest [] left e = inl (refl, e)
cuts [] rest (y ∷ later) left e = inr (inl (record { next = y; more = later; left = later ++ left; is = refl; begins = e }))
cuts (x ∷ front) rest [] left e = inr (inr (record { next = x; more = front; left = front ++ rest; is = refl; begins = sym e }))
cuts {X} (x ∷ front) rest (y ∷ later) left e =
    let first : x ≡ y = cc e in
    let others : front ++ rest ≡ later ++ left = cc e in
    behind x y front rest later left first (cuts front rest later left others)

-- ---- what begins something that can be said

module _ {X Y A : Type 0} (view : X → Y) (P : List Y → A → Type 0) where
  abbrev pub Starts : List Y → Type 0
  Starts ys = (more : List Y) × (a : A) × P (ys ++ more) a

  -- what begins something, begins it at each earlier item too
  pub up_to : (front more : List X) (x : X) → Starts (map view (front ++ x ∷ more)) → Starts (map view front ++ view x ∷ [])
  up_to front more x (behind_all, a, h) =
      let head : List Y = map view front ++ view x ∷ [] in
      let parts : map view (front ++ x ∷ more) ≡ head ++ map view more = map-append view front (x ∷ more) ∙ sym (append_assoc (map view front) (view x ∷ []) (map view more)) in
      (map view more ++ behind_all, a, subst (λ (ys : List Y). P ys a) (ap (λ (ys : List Y). ys ++ behind_all) parts ∙ append_assoc head (map view more) behind_all) h)
