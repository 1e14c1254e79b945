-- Tables of the classes of each level.
use Rattle.std.specs.Prelude.{◌≡◌, ◌<◌, ℕ, Bool, List, length, map, slice_index}
use Rattle.std.specs.List.{filter, range_with_len}
use Rattle.aso_tree.specs.declared.level.Level.{Level}
use Rattle.aso_tree.specs.Trees.{class_count, class_number, height, highest, is_at, places_of}

-- the node is a class of the level
abbrev pub is_class : List ℕ → ℕ → ℕ → Bool
is_class parents level i = is_at i (highest parents level i)

-- how many classes of the level stand before a place
abbrev pub classes_before : List ℕ → ℕ → ℕ → ℕ
classes_before parents level i = length (filter (is_class parents level) (range_with_len 0 i))

-- no class of the level lies above the place: the parent of the node there, if it has one, is too high
abbrev pub IsOpen : List ℕ → ℕ → ℕ → Type 0
IsOpen parents level i = i < length parents → slice_index parents i < i → level < height parents (slice_index parents i)

-- for each level below the end the count of its classes, and each node's number
abbrev pub AreLevels : List ℕ → ℕ → List Level → Type 0
AreLevels parents end levels =
    (map (λ (l : Level). l.numbers.items) levels ≡ map (λ k. map (class_number parents k) (places_of parents)) (range_with_len 0 end))
    × (map (λ (l : Level). l.count) levels ≡ map (class_count parents) (range_with_len 0 end))
