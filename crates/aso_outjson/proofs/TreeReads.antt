-- What is printed of a tree is read as its members in preorder.
use Rattle.std.specs.Prelude.{◌==◌, slice_index, slice_get, option_map, unwrap_or, nat_lt, not, ◌||◌}
use Rattle.std.proofs.Common.{◌≡◌, ◌∙◌, ℕ, zero, suc, ◌+◌, ◌-◌, ◌<◌, ◌≤◌, ◌^◌, Bool, true, false, List, [], ◌∷◌, ◌++◌, drop, length, map, min, take, Option, Some, None, Ok, refl, sym, ap, subst, arith, ⊎_elim, true≢false, codes}
use Rattle.std.specs.Fmt.{decimal}
use Rattle.std.specs.List.{filter, range_with_len}
use Rattle.std.proofs.lemmas.Bool.{lt-ltb}
use Rattle.std.proofs.lemmas.List.{drop-drop, length-drop, length-map, length-take-le}
use Rattle.std.proofs.Math.Seq.{take-add, take-length}
use Rattle.std.proofs.lemmas.Option.{get_or_from_slice_get}
use Rattle.serde_json.specs.Data.{Data, null}
use Rattle.aso_tree.specs.Trees.{depth, is_deep, is_under, stands, places_of, IsTree}
use Rattle.aso_tree.proofs.Children.{parent_before, root_has_none}
use Rattle.aso_tree.proofs.Classes.{le_or_lt}
use Rattle.aso_tree.proofs.Ends.{EndsAt, ends}
use Rattle.aso_tree.proofs.Paths.{depth_up}
use Rattle.aso_tree.proofs.Preorder.{under_self, under_up}
use Rattle.aso_outline.specs.declared.draft.DraftMember.{DraftMember}
use Rattle.aso_outline.specs.Members.{parents_of}
use Rattle.aso_outjson.specs.Fields.{Found, ◌>>=◌, joined, lists_in, may, no_others, under}
use Rattle.aso_outjson.specs.Members.{member_in, tree_at, tree_in}
use Rattle.aso_outjson.specs.Printing.{children_of, member_fields, member_value, object_of, root_value, unless_empty}
use Rattle.aso_outjson.specs.Words.{capped, is_field}
use Rattle.aso_outjson.specs.declared.object.Object.TheVariants.{Member}
use Rattle.aso_outjson.specs.declared.written.WrittenMember.{WrittenMember}
use Rattle.aso_outjson.specs.declared.written.WrittenTree.{WrittenTree}
use Rattle.aso_outjson.proofs.Below.{IsBorder, kids, first_border, next_border, one_more, none_left, all_behind}
use Rattle.aso_outjson.proofs.FieldLists.{no_other_fields}
use Rattle.aso_outjson.proofs.MemberReads.{IsOrder, bind_ok, children_there, lists_or_none, may_reads, member_reads, written_member}

-- ---- parts of a list

abbrev part : {X : Type 0} → List X → ℕ → ℕ → List X
part xs a b = take (b - a) (drop a xs)

length_part : {X : Type 0} (xs : List X) (a b : ℕ) → b ≤ length xs → length (part xs a b) ≡ b - a
length_part xs a b fits = length-take-le (b - a) (drop a xs) (omega (arith, length-drop a xs, fits))

part_join : {X : Type 0} (xs : List X) (a b c : ℕ) → a ≤ b → b ≤ c → part xs a b ++ part xs b c ≡ part xs a c
part_join xs a b c lo hi =
    let behind : drop b xs ≡ drop (b - a) (drop a xs) = ap (λ n. drop n xs) (omega (arith, lo)) ∙ sym (drop-drop (b - a) a xs) in
    ap (λ ys. part xs a b ++ take (c - b) ys) behind ∙ (sym (take-add (b - a) (c - b) (drop a xs)) ∙ ap (λ n. take n (drop a xs)) (omega (arith, lo, hi)))

drop_at : {X : Type 0} (xs : List X) (a : ℕ) (x : X) → slice_get xs a ≡ Some x → drop a xs ≡ x ∷ drop (suc a) xs
drop_at [] a x is = absurd (let n : ⊥ = cc in n)
drop_at (y ∷ ys) zero x is = let same : y ≡ x = cc in ap (λ z. z ∷ ys) same
drop_at (y ∷ ys) (suc a) x is = drop_at ys a x is

part_cons : {X : Type 0} (xs : List X) (a b : ℕ) (x : X) → a < b → slice_get xs a ≡ Some x → x ∷ part xs (a + 1) b ≡ part xs a b
part_cons xs a b x low is =
    let longer : suc (b - (a + 1)) ≡ b - a = omega (arith, low) in
    let next : a + 1 ≡ suc a = omega arith in
    ap (λ k. x ∷ take (b - (a + 1)) (drop k xs)) next ∙ ap (λ n. take n (x ∷ drop (suc a) xs)) longer ∙ ap (take (b - a)) (sym (drop_at xs a x is))

map_get : {X Y : Type 0} (f : X → Y) (xs : List X) (a : ℕ) (x : X) → slice_get xs a ≡ Some x → slice_get (map f xs) a ≡ Some (f x)
map_get f [] a x is = absurd (let n : ⊥ = cc in n)
map_get f (y ∷ ys) zero x is = let same : y ≡ x = cc in ap (λ z. Some (f z)) same
map_get f (y ∷ ys) (suc a) x is = map_get f ys a x is

got : {X : Type 0} (xs : List X) (k : ℕ) → k < length xs → (x : X) × (slice_get xs k ≡ Some x)
got [] k low = absurd (omega (arith, low))
got (x ∷ xs) zero low = (x, refl)
got (x ∷ xs) (suc k) low = got xs k (omega (arith, low))

-- ---- trees

module _ (ms : List DraftMember) (tree : IsTree (parents_of ms)) (short : length ms < 2 ^ 32) where
  abbrev parents : List ℕ
  parents = parents_of ms

  long : length parents ≡ length ms
  long = length-map ms (λ m. m.parent)

  pub short_parents : length parents < 2 ^ 32
  short_parents = omega (arith, long, short)

  pub parent_of : (at : ℕ) (m : DraftMember) → slice_get ms at ≡ Some m → m.parent ≡ slice_index parents at
  parent_of at m is = sym (get_or_from_slice_get parents at m.parent 0 (map_get (λ (x : DraftMember). x.parent) ms at m is))

  not_deep : (a b : Bool) → (not a || b) ≡ false → b ≡ false
  not_deep true b h = h
  not_deep false b h = absurd (true≢false h)

  pub depth_bound : (at : ℕ) → at < length ms → depth parents at ≤ 31
  depth_bound at low = low_of (depth parents at) (not_deep (stands parents at) (is_deep parents at) (tree at (omega (arith, long, low))))
    where
      low_of : (n : ℕ) → nat_lt 31 n ≡ false → n ≤ 31
      low_of n h = ⊎_elim (λ (le : n ≤ 31). le) (λ (lt : 31 < n). absurd (true≢false (sym (lt-ltb 31 n lt) ∙ h))) (le_or_lt n 31)

  module _ (orders : (k : ℕ) (m : DraftMember) → slice_get ms k ≡ Some m → IsOrder m.solve) where
    abbrev written : List WrittenMember
    written = map written_member ms

    long_written : length written ≡ length ms
    long_written = length-map ms written_member

    -- what stands at a place and below is read where its levels suffice
    abbrev Reads : ℕ → Type 0
    Reads n = (at end : ℕ) → EndsAt parents tree at end → n + depth parents at ≡ 32 → tree_at (n + 95) (slice_index parents at) at (member_value n ms at) ≡ Ok (part written at end)

    module _ (n at end : ℕ) (e : EndsAt parents tree at end) (levels : suc n + depth parents at ≡ 32) (reads : Reads n) where
      here : at < length ms
      here = omega (arith, long, e.low, e.fits)

      abbrev f : ℕ → Data → Found (List WrittenMember)
      f = tree_at (n + 95) (capped at)

      child_reads : (c to : ℕ) → at < c → slice_index parents c ≡ at → EndsAt parents tree c to → f c (member_value n ms c) ≡ Ok (part written c to)
      child_reads c to after is ends =
          let place : capped at ≡ slice_index parents c = omega (arith, is, here, short) in
          ap (λ p. tree_at (n + 95) p c (member_value n ms c)) place ∙ reads c to ends (omega (arith, levels, depth_up parents c at (sym is) after))

      joins : (i c to : ℕ) (rest : List Data) → c < to → to ≤ end → f c (member_value n ms c) ≡ Ok (part written c to) → joined f (i + 1) to rest ≡ Ok (part written to end) → joined f i c (member_value n ms c ∷ rest) ≡ Ok (part written c end)
      joins i c to rest lo hi first later =
          let next : c + length (part written c to) ≡ to = omega (arith, length_part written c to (omega (arith, hi, e.fits, long, long_written)), lo) in
          ap (λ r. under (decimal i) r >>= λ xs. joined f (i + 1) (c + length xs) rest >>= λ ys. Ok (xs ++ ys)) first
          ∙ (ap (λ k. joined f (i + 1) k rest >>= λ ys. Ok (part written c to ++ ys)) next
          ∙ (ap (λ r. r >>= λ ys. Ok (part written c to ++ ys)) later
          ∙ ap (λ xs. Ok xs) (part_join written c to end (omega (arith, lo)) hi)))

      all_read : (i c : ℕ) → c ≡ end → joined f i c (map (member_value n ms) (kids parents at c)) ≡ Ok (part written c end)
      all_read i c same =
          let none : 0 ≡ end - c = omega (arith, same) in
          ap (λ k. joined f i k (map (member_value n ms) (kids parents at k))) same
          ∙ (ap (λ ks. joined f i end (map (member_value n ms) ks)) (none_left parents tree short_parents at end e) ∙ ap (λ k. Ok (take k (drop c written))) none)

      read_more : (i c : ℕ) → IsBorder parents at end c → c < end → ((to : ℕ) → c < to → IsBorder parents at end to → joined f (i + 1) to (map (member_value n ms) (kids parents at to)) ≡ Ok (part written to end))
          → joined f i c (map (member_value n ms) (kids parents at c)) ≡ Ok (part written c end)
      read_more i c border low later =
          let r = ends parents tree c (omega (arith, low, e.fits)) in
          let after : c < r.0 = omega (arith, r.1) in
          let next = next_border parents tree short_parents at end e c r.0 border low r.2 in
          ap (λ ks. joined f i c (map (member_value n ms) ks)) (one_more parents tree short_parents at end e c r.0 border low r.2)
          ∙ joins i c r.0 (map (member_value n ms) (kids parents at r.0)) after next.1 (child_reads c r.0 border.0 (border.2 low) r.2) (later r.0 after next)

      children_read : (fuel i c : ℕ) → end ≤ c + fuel → IsBorder parents at end c → joined f i c (map (member_value n ms) (kids parents at c)) ≡ Ok (part written c end)
      children_read zero i c enough border = all_read i c (omega (arith, enough, border.1))
      children_read (suc fuel) i c enough border =
          ⊎_elim
          (λ (past : end ≤ c). all_read i c (omega (arith, past, border.1)))
          (λ (low : c < end). read_more i c border low (λ to after next. children_read fuel (i + 1) to (omega (arith, enough, after)) next))
          (le_or_lt end c)

      module _ (m : DraftMember) (there : slice_get ms at ≡ Some m) where
        abbrev below : List Data
        below = map (member_value n ms) (children_of ms at)

        value_is : member_value (suc n) ms at ≡ object_of (member_fields m below)
        unfolding member_value
        value_is = ap (λ o. unwrap_or (option_map (λ x. object_of (member_fields x below)) o) null) there

        below_reads : joined f 0 (at + 1) below ≡ Ok (part written (at + 1) end)
        below_reads =
            let border = first_border parents tree short_parents at end e (at + 1) refl in
            ap (λ ks. joined f 0 (at + 1) (map (member_value n ms) ks)) (ap (λ k. filter (λ j. slice_index parents j == at) (range_with_len 0 k)) (sym long) ∙ all_behind parents tree short_parents at end e (at + 1) refl)
            ∙ children_read (end - (at + 1)) 0 (at + 1) (omega (arith, border.1)) border

        tree_reads : tree_at (suc n + 95) (slice_index parents at) at (member_value (suc n) ms at) ≡ Ok (part written at end)
        unfolding tree_at
        tree_reads =
            let d = object_of (member_fields m below) in
            let more : suc n + 95 ≡ suc (n + 95) = omega arith in
            ap (tree_at (suc n + 95) (slice_index parents at) at) value_is
            ∙ (ap (λ k. tree_at k (slice_index parents at) at d) more
            ∙ (bind_ok _ _ _ (member_reads m below (slice_index parents at) (parent_of at m there) (orders at m there))
            ∙ (bind_ok _ _ _ (may_reads (lists_in f (at + 1)) [] (codes "children") d (unless_empty below) (part written (at + 1) end) (children_there m below) (lists_or_none f (at + 1) below (part written (at + 1) end) below_reads))
            ∙ (bind_ok _ _ _ (no_other_fields (is_field Member) (member_fields m below) refl)
            ∙ ap (λ xs. Ok xs) (part_cons written at end (written_member m) e.low (map_get written_member ms at m there))))))

    node_reads : (n : ℕ) → Reads n
    node_reads zero at end e levels = absurd (omega (arith, levels, depth_bound at (omega (arith, long, e.low, e.fits))))
    node_reads (suc n) at end e levels = let m = got ms at (omega (arith, long, e.low, e.fits)) in tree_reads n at end e levels (node_reads n) m.0 m.1

    all_under_root : (n k : ℕ) → k ≤ n → k < length parents → is_under parents 0 k ≡ true
    all_under_root n zero le low = under_self parents 0
    all_under_root zero (suc k) le low = absurd (omega (arith, le))
    all_under_root (suc n) (suc k) le low =
        let before : slice_index parents (suc k) < suc k = parent_before parents tree short_parents k low in
        under_up parents 0 (suc k) before (all_under_root n (slice_index parents (suc k)) (omega (arith, le, before)) (omega (arith, before, low)))

    pub root_reads : 0 < length ms → tree_in (root_value ms) ≡ Ok (record { members = map written_member ms })
    unfolding tree_in
    root_reads some =
        let whole : EndsAt parents tree 0 (length ms) = record {
          low = some;
          fits = omega (arith, long);
          below = λ k lo hi. all_under_root k k (omega arith) (omega (arith, long, hi));
          stop = λ past. absurd (omega (arith, long, past));
        } in
        let top : depth parents 0 ≡ 0 = refl in
        let long_enough : length ms - 0 ≡ length written = omega (arith, long_written) in
        let all : part written 0 (length ms) ≡ written = ap (λ k. take k written) long_enough ∙ take-length written in
        bind_ok _ _ _ (ap (λ p. tree_at 127 p 0 (root_value ms)) (sym (root_has_none parents tree short_parents (omega (arith, long, some)))) ∙ (node_reads 32 0 (length ms) whole (omega (arith, top)) ∙ ap (λ xs. Ok xs) all))
