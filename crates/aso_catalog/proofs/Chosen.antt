-- Which body an image is opened with.
use Rattle.std.proofs.Common.{◌≡◌, ◌≢◌, ◌⊎◌, inl, inr, ⊎_elim, ℕ, suc, ◌-◌, ◌≤◌, ◌<◌, Bool, true, false, List, Option, Some, None, drop, refl, sym, ◌∙◌, ap, subst, arith}
use Rattle.std.proofs.lemmas.Bool.Decides.{eqb_tells, leb_tells}
use Rattle.aso_catalog.specs.Image.{area, gate_of, framed, body_of, layout_of, open_body, greater, chosen, Stands, IsCatalog, IsWhole, IsSound, OpensWith, IsOrNewer}

pub open_none : (bytes : List ℕ) → gate_of bytes ≢ 1 → open_body bytes ≡ None
unfolding open_body
open_none bytes shut = elim (eqb_tells (gate_of bytes) 1) [
  | inl is_one ↦ absurd (shut is_one.1)
  | inr other ↦ rw other.0 refl
]

pub open_some : (bytes : List ℕ) → gate_of bytes ≡ 1 → open_body bytes ≡ Some (body_of bytes)
unfolding open_body
open_some bytes is = elim (eqb_tells (gate_of bytes) 1) [
  | inl is_one ↦ rw is_one.0 refl
  | inr other ↦ absurd (other.1 is)
]

greater_none : (x : Option (List ℕ)) → greater x None ≡ x
greater_none None = refl
greater_none (Some x) = refl

chosen_closed : (current : ℕ) (image : List ℕ) → current ≤ 1 → open_body (area (1 - current) image) ≡ None → chosen image ≡ open_body (area current image)
unfolding chosen
chosen_closed current image within none = elim (leb_tells current 0) [
  | inl first ↦
      let zero_is : current ≡ 0 = omega (arith, first.1) in
      let one_is : 1 - current ≡ 1 = omega (arith, first.1) in
      ap (greater (open_body (area 0 image))) (sym (ap (λ (k : ℕ). open_body (area k image)) one_is) ∙ none) ∙ greater_none (open_body (area 0 image)) ∙ sym (ap (λ (k : ℕ). open_body (area k image)) zero_is)
  | inr second ↦
      let one_is : current ≡ 1 = omega (arith, second.1) in
      let zero_is : 1 - current ≡ 0 = omega (arith, second.1) in
      ap (λ (x : Option (List ℕ)). greater x (open_body (area 1 image))) (sym (ap (λ (k : ℕ). open_body (area k image)) zero_is) ∙ none) ∙ sym (ap (λ (k : ℕ). open_body (area k image)) one_is)
]

-- two open bodies of different layouts, in either order
pub greater_first : (x y : List ℕ) → layout_of x ≢ layout_of y → (greater (Some x) (Some y) ≡ Some x) ⊎ ((layout_of x < layout_of y) × (greater (Some x) (Some y) ≡ Some y))
greater_first x y apart = elim (leb_tells (suc (layout_of x)) (layout_of y)) [
  | inl less ↦ inr (omega (arith, less.1), rw less.0 refl)
  | inr more ↦ inl (rw more.0 refl)
]

greater_second : (x y : List ℕ) → layout_of x ≢ layout_of y → (greater (Some y) (Some x) ≡ Some x) ⊎ ((layout_of x < layout_of y) × (greater (Some y) (Some x) ≡ Some y))
greater_second x y apart = elim (leb_tells (suc (layout_of y)) (layout_of x)) [
  | inl less ↦ inl (rw less.0 refl)
  | inr more ↦ let lower : layout_of x < layout_of y = omega (arith, more.1) in inr (lower, rw more.0 refl)
]

-- where the other gate is closed in an image, it is opened with the current record
pub chosen_shut : (current : ℕ) (kept : Bool) (seen image : List ℕ) → current ≤ 1 → Stands current true kept seen image → chosen image ≡ open_body (area current seen)
chosen_shut current kept seen image within stands =
    chosen_closed current image within (open_none (area (1 - current) image) (stands.closed refl)) ∙ ap open_body stands.same

-- both areas are open, of different layouts
chosen_pair : (current : ℕ) (image x y : List ℕ) → current ≤ 1 → open_body (area current image) ≡ Some x → open_body (area (1 - current) image) ≡ Some y → layout_of x ≢ layout_of y
    → (chosen image ≡ Some x) ⊎ ((layout_of x < layout_of y) × (chosen image ≡ Some y))
unfolding chosen
chosen_pair current image x y within at_current at_other apart = elim (leb_tells current 0) [
  | inl first ↦
      let zero_is : current ≡ 0 = omega (arith, first.1) in
      let one_is : 1 - current ≡ 1 = omega (arith, first.1) in
      let here : open_body (area 0 image) ≡ Some x = sym (ap (λ (k : ℕ). open_body (area k image)) zero_is) ∙ at_current in
      let there : open_body (area 1 image) ≡ Some y = sym (ap (λ (k : ℕ). open_body (area k image)) one_is) ∙ at_other in
      rw (here, there) (greater_first x y apart)
  | inr second ↦
      let one_is : current ≡ 1 = omega (arith, second.1) in
      let zero_is : 1 - current ≡ 0 = omega (arith, second.1) in
      let here : open_body (area 1 image) ≡ Some x = sym (ap (λ (k : ℕ). open_body (area k image)) one_is) ∙ at_current in
      let there : open_body (area 0 image) ≡ Some y = sym (ap (λ (k : ℕ). open_body (area k image)) zero_is) ∙ at_other in
      rw (here, there) (greater_second x y apart)
]

abbrev TakesOrNewer : Option (List ℕ) → ℕ → List ℕ → List ℕ → Type 0
TakesOrNewer current layout body image = (chosen image ≡ current) ⊎ ((layout < layout_of body) × (chosen image ≡ Some body))

-- where the other gate may be open, what was synced behind it counts if its layout is greater
pub chosen_kept : (current layout : ℕ) (present shut lax : Bool) (seen image : List ℕ) (left : List ℕ → Type 0) → current ≤ 1 → IsCatalog current layout present shut true seen left → Stands current lax true seen image
    → TakesOrNewer (open_body (area current seen)) layout (body_of (area (1 - current) seen)) image
chosen_kept current layout present shut lax seen image left within was stands = elim (eqb_tells (gate_of (area (1 - current) image)) 1) [
  | inl is_one ↦ is_open (open_some (area (1 - current) image) is_one.1 ∙ ap (λ (l : List ℕ). Some (framed l)) (stands.behind refl)) present refl
  | inr other ↦ inl (chosen_closed current image within (open_none (area (1 - current) image) other.1) ∙ ap open_body stands.same)
]
  where
    is_open : open_body (area (1 - current) image) ≡ Some (body_of (area (1 - current) seen)) → (b : Bool) → present ≡ b → TakesOrNewer (open_body (area current seen)) layout (body_of (area (1 - current) seen)) image
    is_open other true is =
        let R = body_of (area current seen) in
        let D = body_of (area (1 - current) seen) in
        let now : open_body (area current seen) ≡ Some R = open_some (area current seen) (was.there is) in
        let apart : layout_of R ≢ layout_of D = λ same. was.apart refl (sym same ∙ was.names is) in
        ⊎_elim (λ e. inl (e ∙ sym now)) (λ e. inr (subst (λ (n : ℕ). n < layout_of D) (was.names is) e.0, e.1)) (chosen_pair current image R D within (ap open_body stands.same ∙ now) other apart)
    is_open other false is =
        let D = body_of (area (1 - current) seen) in
        let none : open_body (area current image) ≡ None = ap open_body stands.same ∙ open_none (area current seen) (was.absent is) in
        let back : 1 - (1 - current) ≡ current = omega arith in
        let zero_is = was.none is in
        let apart = was.apart refl in
        inr (omega arith, chosen_closed (1 - current) image (omega arith) (ap (λ (k : ℕ). open_body (area k image)) back ∙ none) ∙ other)

-- each area of an image is the current one or the other
of_two : (P : ℕ → Type 0) (current a : ℕ) → current ≤ 1 → a ≤ 1 → P current → P (1 - current) → P a
of_two P current a within le here there = elim (eqb_tells a current) [
  | inl is ↦ subst P (sym is.1) here
  | inr other ↦ let not_it : a ≢ current = other.1 in let is : 1 - current ≡ a = omega arith in subst P is there
]

-- an image that stands so is sound
pub stands_sound : (current layout : ℕ) (present shut kept lax known : Bool) (seen image : List ℕ) (left : List ℕ → Type 0) → current ≤ 1 → IsCatalog current layout present shut kept seen left
    → (lax ≡ false → (kept ≡ true) × (known ≡ true)) → Stands current lax known seen image → IsSound image
stands_sound current layout present shut kept lax known seen image left within was behind stands = record {
  whole = λ a le gate. of_two (λ n. gate_of (area n image) ≡ 1 → ∥ IsWhole (drop 1 (area n image)) ∥₁) current a within le here there gate;
  apart = λ one two. elim (leb_tells current 0) [
    | inl first ↦
        let zero_is : current ≡ 0 = omega (arith, first.1) in
        let one_is : 1 - current ≡ 1 = omega (arith, first.1) in
        λ same. differ (ap (λ n. gate_of (area n image)) zero_is ∙ one) (ap (λ n. gate_of (area n image)) one_is ∙ two)
        (ap (λ n. layout_of (body_of (area n image))) zero_is ∙ same ∙ sym (ap (λ n. layout_of (body_of (area n image))) one_is))
    | inr second ↦
        let one_is : current ≡ 1 = omega (arith, second.1) in
        let zero_is : 1 - current ≡ 0 = omega (arith, second.1) in
        λ same. differ (ap (λ n. gate_of (area n image)) one_is ∙ two) (ap (λ n. gate_of (area n image)) zero_is ∙ one)
        (ap (λ n. layout_of (body_of (area n image))) one_is ∙ sym same ∙ sym (ap (λ n. layout_of (body_of (area n image))) zero_is))
  ];
}
  where
    is_present : gate_of (area current image) ≡ 1 → (b : Bool) → present ≡ b → present ≡ true
    is_present gate true is = is
    is_present gate false is = absurd (was.absent is (sym (ap gate_of stands.same) ∙ gate))

    is_lax : gate_of (area (1 - current) image) ≡ 1 → (b : Bool) → lax ≡ b → lax ≡ false
    is_lax gate true is = absurd (stands.closed is gate)
    is_lax gate false is = is

    here : gate_of (area current image) ≡ 1 → ∥ IsWhole (drop 1 (area current image)) ∥₁
    here gate = subst (λ (l : List ℕ). ∥ IsWhole (drop 1 l) ∥₁) (sym stands.same) (was.sound (is_present gate present refl))

    there : gate_of (area (1 - current) image) ≡ 1 → ∥ IsWhole (drop 1 (area (1 - current) image)) ∥₁
    there gate =
        let k = behind (is_lax gate lax refl) in
        subst (λ (l : List ℕ). ∥ IsWhole l ∥₁) (sym (stands.behind k.1)) (was.whole k.0)

    differ : gate_of (area current image) ≡ 1 → gate_of (area (1 - current) image) ≡ 1 → layout_of (body_of (area current image)) ≢ layout_of (body_of (area (1 - current) image))
    differ at_current at_other same =
        let k = behind (is_lax at_other lax refl) in
        was.apart k.0 (sym (ap (λ (l : List ℕ). layout_of (framed l)) (stands.behind k.1)) ∙ sym same ∙ ap (λ (l : List ℕ). layout_of (body_of l)) stands.same ∙ was.names (is_present at_current present refl))

pub opens_shut : (current layout : ℕ) (present shut kept known : Bool) (seen image : List ℕ) (left : List ℕ → Type 0) → current ≤ 1 → IsCatalog current layout present shut kept seen left → Stands current true known seen image
    → OpensWith image (open_body (area current seen))
opens_shut current layout present shut kept known seen image left within was stands = record {
  sound = stands_sound current layout present shut kept true known seen image left within was (λ e. absurd (cc e)) stands;
  taken = chosen_shut current known seen image within stands;
}

pub opens_kept : (current layout : ℕ) (present shut lax : Bool) (seen image : List ℕ) (left : List ℕ → Type 0) → current ≤ 1 → IsCatalog current layout present shut true seen left → Stands current lax true seen image
    → IsOrNewer (open_body (area current seen)) layout (body_of (area (1 - current) seen)) image
opens_kept current layout present shut lax seen image left within was stands =
    let sound = stands_sound current layout present shut true lax true seen image left within was (λ e. (refl, refl)) stands in
    ⊎_elim (λ e. inl record { sound = sound; taken = e }) (λ e. inr (e.0, record { sound = sound; taken = e.1 })) (chosen_kept current layout present shut lax seen image left within was stands)
