-- Dimensions at a view, and the keys that lists of classes write.
use Rattle.std.specs.Prelude.{◌≡◌, ℕ, ◌+◌, ◌-◌, ◌*◌, ◌^◌, ◌<◌, ◌≤◌, List, [], ◌∷◌, length, Option, Some, None, Bool, is_some, nat_lt, if◌then◌else◌, slice_get}
use Rattle.std.specs.Option.{option_map, option_and_then}
use Rattle.aso_words.specs.Words.{field_of}
use Rattle.aso_keys.specs.declared.axis.Axis.{Axis}
use Rattle.aso_keys.specs.declared.axis.Ranges.{Ranges}

-- the least number of bits that writes n - 1
pub record IsWidth (n width : ℕ) : Type 0 where
  pub writes : n ≤ 2 ^ width
  pub least : (k : ℕ) → n ≤ 2 ^ k → width ≤ k

-- the bits of the keys
abbrev pub bits_of : List Axis → ℕ
bits_of [] = 0
bits_of (a ∷ axes) = a.width + bits_of axes

-- a class of each dimension
abbrev pub AreClasses : List Axis → List ℕ → Type 0
AreClasses [] [] = Unit {0}
AreClasses [] (c ∷ cs) = ⊥
AreClasses (a ∷ axes) [] = ⊥
AreClasses (a ∷ axes) (c ∷ cs) = (c < a.count) × AreClasses axes cs

-- the key that a list of classes writes, the first dimension in the highest bits
abbrev pub key_of : List Axis → List ℕ → ℕ
key_of [] cs = 0
key_of (a ∷ axes) [] = 0
key_of (a ∷ axes) (c ∷ cs) = c * 2 ^ bits_of axes + key_of axes cs

-- the number in the bits of each dimension
abbrev pub fields_of : List Axis → ℕ → List ℕ
fields_of [] key = []
fields_of (a ∷ axes) key = field_of key (bits_of axes) a.width ∷ fields_of axes key

abbrev pub found : {X : Type 0} → Option (Option X) → Option X
found o = option_and_then (λ x. x) o

-- what a table has at a place, if anything
abbrev pub entry : List (Option ℕ) → ℕ → Option ℕ
entry table i = found (slice_get table i)

-- the class of a data leaf, if it has one
abbrev pub class_of : Axis → ℕ → Option ℕ
class_of a leaf = entry a.classes leaf

-- the range of classes of a member, if it has one: the number of the first, and the one behind the last
abbrev pub range_at : Ranges → ℕ → Option (ℕ × ℕ)
range_at r m = if nat_lt m r.first then None else found (slice_get r.each (m - r.first))

-- the range of classes of a member in a dimension
abbrev pub range_in : List Axis → ℕ → ℕ → Option (ℕ × ℕ)
range_in axes d m = option_and_then (λ (a : Axis). range_at a.ranges m) (slice_get axes d)

abbrev pub has_range : List Axis → ℕ → ℕ → Bool
has_range axes d m = is_some (range_in axes d m)

abbrev pub both : Option ℕ → Option (List ℕ) → Option (List ℕ)
both c cs = option_and_then (λ (x : ℕ). option_map (λ (xs : List ℕ). x ∷ xs) cs) c

-- the classes of a leaf of each dimension, if all have one
abbrev pub classes_of : List Axis → List ℕ → Option (List ℕ)
classes_of [] [] = Some []
classes_of [] (l ∷ ls) = None
classes_of (a ∷ axes) [] = None
classes_of (a ∷ axes) (l ∷ ls) = both (class_of a l) (classes_of axes ls)

-- the leaves are the same, and leaves of one class are of one class at the coarser
pub record IsCoarser (coarse fine : Axis) : Type 0 where
  pub leaves : length coarse.classes ≡ length fine.classes
  pub merges : (l m c : ℕ) → class_of fine l ≡ Some c → class_of fine m ≡ Some c → class_of coarse l ≡ class_of coarse m

abbrev pub AreCoarser : List Axis → List Axis → Type 0
AreCoarser [] [] = Unit {0}
AreCoarser [] (b ∷ bs) = ⊥
AreCoarser (a ∷ axes) [] = ⊥
AreCoarser (a ∷ axes) (b ∷ bs) = IsCoarser a b × AreCoarser axes bs

-- no class is at or past the count
abbrev pub AreBelow : ℕ → List (Option ℕ) → Type 0
AreBelow count classes = (l c : ℕ) → entry classes l ≡ Some c → c < count

-- a leaf of each class that has one, where the leaves have these classes
pub record AreLeaves (count : ℕ) (classes leaves : List (Option ℕ)) : Type 0 where
  pub counted : length leaves ≡ count
  pub leaf : (l c : ℕ) → entry leaves c ≡ Some l → entry classes l ≡ Some c
  pub some_leaf : (l c : ℕ) → entry classes l ≡ Some c → (m : ℕ) × (entry leaves c ≡ Some m)

-- what a layout keeps of each dimension
pub record IsAxis (a : Axis) : Type 0 where
  pub width : IsWidth a.count a.width
  pub narrow : a.width ≤ 32
  pub below : AreBelow a.count a.classes
  pub leaves : AreLeaves a.count a.classes a.leaves

-- each dimension stands above those behind it
abbrev pub ArePlaced : List Axis → Type 0
ArePlaced [] = Unit {0}
ArePlaced (a ∷ axes) = IsAxis a × (a.shift ≡ bits_of axes) × ArePlaced axes

-- what a key's fields write at a coarser view, by a leaf of each class
abbrev pub rolled_class : Axis → Axis → ℕ → Option ℕ
rolled_class a b c = option_and_then (class_of b) (entry a.leaves c)

abbrev pub put : ℕ → Option ℕ → Option ℕ → Option ℕ
put weight c rest = option_and_then (λ (x : ℕ). option_map (λ (n : ℕ). x * weight + n) rest) c

abbrev pub rolled : List Axis → List Axis → ℕ → Option ℕ
rolled [] bs key = Some 0
rolled (a ∷ axes) [] key = Some 0
rolled (a ∷ axes) (b ∷ bs) key = put (2 ^ bits_of bs) (rolled_class a b (field_of key (bits_of axes) a.width)) (rolled axes bs key)
