-- What opening finds is a catalog, and what it refuses is damaged.
use Rattle.std.proofs.Common.{◌≡◌, ⊎_elim, ℕ, zero, suc, ◌*◌, ◌-◌, ◌≤◌, ◌<◌, Bool, true, false, List, [], ◌++◌, length, take, drop, Option, Some, None, refl, sym, ◌∙◌, ap, subst, arith, length-append}
use Rattle.std.specs.Prelude.{not, MatchOption, IfSome, replicate}
use Rattle.std.specs.Option.{ForSome}
use Rattle.std.proofs.lemmas.List.{take_at, drop_at, take_all, length-replicate}
use Rattle.aso_disk.specs.Slots.{Only, piece}
use Rattle.aso_catalog.specs.declared.record.Record.{Record}
use Rattle.aso_catalog.specs.declared.fault.CatalogFault.{CatalogFault}
use Rattle.aso_catalog.specs.declared.fault.CatalogFault.TheVariants.{Short, BadArea, Twin, Fault, NoMemory}
use Rattle.aso_catalog.specs.Record.{IsRecord}
use Rattle.aso_catalog.specs.Image.{area, gate_of, body_of, layout_of, open_body, chosen, Stands, IsCatalog, IsWhole, OpensWith, SomeImage}
use Rattle.aso_catalog.specs.Opening.{IsFound, IsChoice, IsOpening, IsBad, IsBadArea, IsAreaFault, ReadsArea, IsShortOrFault, IsDamage, HasLayout, HoldsLayout, of_area}
use Rattle.aso_catalog.proofs.Areas.{layout_named}
use Rattle.aso_catalog.proofs.Chosen.{open_none, open_some, opens_shut, opens_kept}

found_whole : (bytes : List ℕ) (found : Option Record) → IsFound bytes found → gate_of bytes ≡ 1 → IsWhole (drop 1 bytes)
found_whole bytes None is gate = absurd (is.closed refl gate)
found_whole bytes (Some r) is gate = let all = is.opened r refl in record { fits = all.1; r = r; spelled = all.2 }

-- ---- some image, the one that is told, where one is told

pub told_is : (o : Option (List ℕ)) (image s : List ℕ) → IfSome o (λ seen. image ≡ seen) → o ≡ Some s → image ≡ s
told_is o image s is was = let P : Option (List ℕ) → Type 0 = λ p. IfSome p (λ seen. image ≡ seen) in subst P was is

first_of : (n : ℕ) (first second : List ℕ) → length first ≡ n → piece (n * 0) n (first ++ second) ≡ first
first_of n first second long = let none : n * 0 ≡ 0 = omega arith in rw none (take_at first second n long)

second_of : (n : ℕ) (first second : List ℕ) → length first ≡ n → length second ≡ n → piece (n * 1) n (first ++ second) ≡ second
second_of n first second one two =
    let once : n * 1 ≡ n = omega arith in
    ap (λ (k : ℕ). take n (drop k (first ++ second))) once ∙ ap (λ (l : List ℕ). take n l) (drop_at first second n one) ∙ take_all n second (omega (arith, two))

pub some_any : (told : Option (List ℕ)) (P : List ℕ → Type 0) → ((image : List ℕ) → P image) → SomeImage told P
some_any None P has = record { image = []; is_told = tt; has = has [] }
some_any (Some s) P has = record { image = s; is_told = refl; has = has s }

pub some_sized : (told : Option (List ℕ)) (n : ℕ) (P : List ℕ → Type 0) → ForSome told (λ s. length s ≡ n) → ((image : List ℕ) → length image ≡ n → P image) → SomeImage told P
some_sized None n P sized has = record { image = replicate n 0; is_told = tt; has = has (replicate n 0) (length-replicate n 0) }
some_sized (Some s) n P sized has = record { image = s; is_told = refl; has = has s (sized s refl) }

pub some_first : (told : Option (List ℕ)) (first : List ℕ) (P : List ℕ → Type 0) → length first ≡ 131072 → ForSome told (λ s. area 0 s ≡ first) → ForSome told (λ s. 262144 ≤ length s)
    → ((image : List ℕ) → 262144 ≤ length image → area 0 image ≡ first → P image) → SomeImage told P
unfolding area
some_first None first P long one big has = record { image = first ++ first; is_told = tt; has = has (first ++ first) (omega (arith, long, length-append first first)) (first_of 131072 first first long) }
some_first (Some s) first P long one big has = record { image = s; is_told = refl; has = has s (big s refl) (one s refl) }

pub some_pair : (told : Option (List ℕ)) (first second : List ℕ) (P : List ℕ → Type 0) → length first ≡ 131072 → length second ≡ 131072 → ForSome told (λ s. area 0 s ≡ first) → ForSome told (λ s. area 1 s ≡ second) → ForSome told (λ s. 262144 ≤ length s)
    → ((image : List ℕ) → 262144 ≤ length image → area 0 image ≡ first → area 1 image ≡ second → P image) → SomeImage told P
unfolding area
some_pair None first second P long also one two big has = record {
  image = first ++ second;
  is_told = tt;
  has = has (first ++ second) (omega (arith, long, also, length-append first second)) (first_of 131072 first second long) (second_of 131072 first second long also);
}
some_pair (Some s) first second P long also one two big has = record { image = s; is_told = refl; has = has s (big s refl) (one s refl) (two s refl) }

-- ---- refusals

size_damage : (image : List ℕ) (extent : ℕ) (fault : CatalogFault) → IsShortOrFault fault → ((size : ℕ) → fault ≡ Short size → (size ≡ extent) × (size < 262144)) → length image ≡ extent → IsDamage image fault
size_damage image extent (Short size) is short same = let found = short size refl in (found.0 ∙ sym same, found.1)
size_damage image extent (BadArea a at) is short same = absurd is
size_damage image extent (Twin layout) is short same = absurd is
size_damage image extent Fault is short same = tt
size_damage image extent NoMemory is short same = absurd is

-- a device that is too short, or fails
pub short_damage : (told : Option (List ℕ)) (extent : ℕ) (fault : CatalogFault) → IsShortOrFault fault → ((size : ℕ) → fault ≡ Short size → (size ≡ extent) × (size < 262144)) → ForSome told (λ s. length s ≡ extent) → SomeImage told (λ image. IsDamage image fault)
short_damage told extent fault is short sized = some_sized told extent (λ image. IsDamage image fault) sized (λ image same. size_damage image extent fault is short same)

-- the first area is bad
pub first_damage : (told : Option (List ℕ)) (fault : CatalogFault) → IsAreaFault 0 told fault → ForSome told (λ s. 262144 ≤ length s) → SomeImage told (λ image. IsDamage image fault)
first_damage told (Short size) is big = absurd is
first_damage told (BadArea a at) is big =
    let same : a ≡ 0 = is.1 in
    let read = is.2 in
    some_first told read.bytes (λ image. IsDamage image (BadArea a at)) read.long read.is_told big
    (λ image long one. (long, is.0, omega arith, subst (λ (n : ℕ). IsBadArea n image) (sym same) (subst IsBad (sym one) read.has), λ e. let one_is : 0 ≡ 1 = sym same ∙ e in absurd (omega arith)))
first_damage told (Twin layout) is big = absurd is
first_damage told Fault is big = some_any told (λ image. IsDamage image Fault) (λ image. tt)
first_damage told NoMemory is big = some_any told (λ image. IsDamage image NoMemory) (λ image. tt)

-- the second one is, and the first isn't
pub second_damage : (told : Option (List ℕ)) (fault : CatalogFault) (first : Option Record) → ReadsArea 0 told (λ bytes. IsFound bytes first) → IsAreaFault 1 told fault → ForSome told (λ s. 262144 ≤ length s) → SomeImage told (λ image. IsDamage image fault)
second_damage told (Short size) first good is big = absurd is
second_damage told (BadArea a at) first good is big =
    let same : a ≡ 1 = is.1 in
    let read = is.2 in
    some_pair told good.bytes read.bytes (λ image. IsDamage image (BadArea a at)) good.long read.long good.is_told read.is_told big
    (λ image long one two.
    (long, is.0, omega arith, subst (λ (n : ℕ). IsBadArea n image) (sym same) (subst IsBad (sym two) read.has), λ e bad. let here = subst IsBad one bad in here.1 (found_whole good.bytes first good.has here.0)))
second_damage told (Twin layout) first good is big = absurd is
second_damage told Fault first good is big = some_any told (λ image. IsDamage image Fault) (λ image. tt)
second_damage told NoMemory first good is big = some_any told (λ image. IsDamage image NoMemory) (λ image. tt)

holds_layout : (a layout : ℕ) (image bytes : List ℕ) (found : Option Record) → area a image ≡ bytes → IsFound bytes found → HasLayout found layout → HoldsLayout a layout image
holds_layout a layout image bytes found same is has =
    let all = is.opened has.0 has.1 in
    let held = subst (λ (b : List ℕ). (gate_of b ≡ 1) × IsRecord has.0 (body_of b)) (sym same) (all.0, all.2) in
    (has.0, held.0, held.1, has.2)

-- both hold records of one layout
pub twin_damage : (told : Option (List ℕ)) (layout : ℕ) (first second : Option Record) → ReadsArea 0 told (λ bytes. IsFound bytes first) → ReadsArea 1 told (λ bytes. IsFound bytes second) → HasLayout first layout → HasLayout second layout → ForSome told (λ s. 262144 ≤ length s)
    → SomeImage told (λ image. IsDamage image (Twin layout))
twin_damage told layout first second one two has also big =
    some_pair told one.bytes two.bytes (λ image. IsDamage image (Twin layout)) one.long two.long one.is_told two.is_told big
    (λ image long e f. (long, holds_layout 0 layout image one.bytes first e one.has has, holds_layout 1 layout image two.bytes second f two.has also))

-- ---- what is opened

pub some_opening : (told : Option (List ℕ)) (first second : Option Record) (current layout : ℕ) (present shut : Bool) (found : Option Record) → ReadsArea 0 told (λ bytes. IsFound bytes first) → ReadsArea 1 told (λ bytes. IsFound bytes second) → ForSome told (λ s. 262144 ≤ length s)
    → IsChoice first second current layout present shut found → SomeImage told (λ image. IsOpening image current layout present shut found)
some_opening told first second current layout present shut found one two big choice =
    some_pair told one.bytes two.bytes (λ image. IsOpening image current layout present shut found) one.long two.long one.is_told two.is_told big
    (λ image long e f.
    record {
      first = first;
      second = second;
      in_first = subst (λ (b : List ℕ). IsFound b first) (sym e) one.has;
      in_second = subst (λ (b : List ℕ). IsFound b second) (sym f) two.has;
      choice = choice;
    })

not_true : (b : Bool) → not b ≡ true → b ≡ false
not_true true e = absurd (cc e)
not_true false e = refl

found_at : (s : List ℕ) (first second : Option Record) (n : ℕ) → n ≤ 1 → IsFound (area 0 s) first → IsFound (area 1 s) second → IsFound (area n s) (of_area first second n)
found_at s first second zero le one two = one
found_at s first second (suc n) le one two = let is : suc n ≡ 1 = omega arith in subst (λ (k : ℕ). IsFound (area k s) second) (sym is) two

module _ (s : List ℕ) (current layout : ℕ) (present shut : Bool) (found : Option Record) (opening : IsOpening s current layout present shut found) where
  here : IsFound (area current s) (of_area opening.first opening.second current)
  here = found_at s opening.first opening.second current opening.choice.within opening.in_first opening.in_second

  there : IsFound (area (1 - current) s) (of_area opening.first opening.second (1 - current))
  there = found_at s opening.first opening.second (1 - current) (omega (arith, opening.choice.within)) opening.in_first opening.in_second

  pub is_catalog : (left : List ℕ → Type 0) → Only s left → IsCatalog current layout present shut (not shut) s left
  is_catalog left only =
      let choice = opening.choice in
      record {
        there = λ e. let one = choice.there e in (here.opened one.0 (choice.is ∙ one.1)).0;
        names = λ e. let one = choice.there e in layout_named (body_of (area current s)) one.0 (here.opened one.0 (choice.is ∙ one.1)).2 ∙ one.2;
        sound = λ e. let one = choice.there e in let all = here.opened one.0 (choice.is ∙ one.1) in ∣ record { fits = all.1; r = one.0; spelled = all.2 } ∣₁;
        absent = λ e. here.closed (choice.is ∙ (choice.absent e).0);
        none = λ e. (choice.absent e).1;
        apart = λ e is.
            let old = choice.older (not_true shut e) in
            let named : layout_of (body_of (area (1 - current) s)) ≡ old.0.layout = layout_named (body_of (area (1 - current) s)) old.0 (there.opened old.0 old.1).2 in
            let low : old.0.layout < layout = old.2 in
            absurd (omega arith);
        whole = λ e. let old = choice.older (not_true shut e) in let all = there.opened old.0 old.1 in ∣ record { fits = all.1; r = old.0; spelled = all.2 } ∣₁;
        ready = λ e f. absurd (cc (ap not f, e));
        each = λ c is. record {
          same = ap (area current) (only c is);
          closed = λ e is_one. there.closed (choice.closed e) (sym (ap (λ (x : List ℕ). gate_of (area (1 - current) x)) (only c is)) ∙ is_one);
          behind = λ e. ap (λ (x : List ℕ). drop 1 (area (1 - current) x)) (only c is);
        };
      }

  -- the older layout, where the other area is open
  pub older : shut ≡ false → layout_of (body_of (area (1 - current) s)) ≤ layout
  older e =
      let old = opening.choice.older e in
      let named : layout_of (body_of (area (1 - current) s)) ≡ old.0.layout = layout_named (body_of (area (1 - current) s)) old.0 (there.opened old.0 old.1).2 in
      let low : old.0.layout < layout = old.2 in
      omega arith

  pub opens : OpensWith s (open_body (area current s))
  opens = by_flag shut refl
    where
      was : IsCatalog current layout present shut (not shut) s (λ c. c ≡ s)
      was = is_catalog (λ c. c ≡ s) (λ c e. e)

      by_flag : (b : Bool) → shut ≡ b → OpensWith s (open_body (area current s))
      by_flag true e = opens_shut current layout present shut (not shut) (not shut) s s (λ c. c ≡ s) opening.choice.within was (subst (λ (b : Bool). Stands current b (not shut) s s) e (was.each s refl))
      by_flag false e =
          let kept : not shut ≡ true = ap not e in
          let was' = subst (λ (b : Bool). IsCatalog current layout present shut b s (λ c. c ≡ s)) kept was in
          let low = older e in
          ⊎_elim (λ same. same) (λ newer. let high : layout < layout_of (body_of (area (1 - current) s)) = newer.0 in absurd (omega arith))
          (opens_kept current layout present shut shut s s (λ c. c ≡ s) opening.choice.within was' (was'.each s refl))

  -- the record is that of the image
  pub record_is : MatchOption found (chosen s ≡ None) (λ r. (body : List ℕ) × (chosen s ≡ Some body) × IsRecord r body)
  record_is = by_found found refl
    where
      by_found : (o : Option Record) → found ≡ o → MatchOption o (chosen s ≡ None) (λ r. (body : List ℕ) × (chosen s ≡ Some body) × IsRecord r body)
      by_found None e = opens.taken ∙ open_none (area current s) (here.closed (opening.choice.is ∙ e))
      by_found (Some r) e = let all = here.opened r (opening.choice.is ∙ e) in (body_of (area current s), opens.taken ∙ open_some (area current s) all.0, all.2)

-- the layout of the record, or 0
pub choice_layout : (first second : Option Record) (current layout : ℕ) (present shut : Bool) (found : Option Record) → IsChoice first second current layout present shut found → MatchOption found (layout ≡ 0) (λ r. layout ≡ r.layout)
choice_layout first second current layout true shut found is = let one = is.there refl in subst (λ (o : Option Record). MatchOption o (layout ≡ 0) (λ r. layout ≡ r.layout)) (sym one.1) (sym one.2)
choice_layout first second current layout false shut found is = let none = is.absent refl in subst (λ (o : Option Record). MatchOption o (layout ≡ 0) (λ r. layout ≡ r.layout)) (sym none.0) none.1
