-- The fields of a record, one behind the other: what bytes begin with is determined by the bytes.
use Rattle.std.proofs.Common.{◌≡◌, ◌≢◌, ℕ, zero, suc, ◌+◌, ◌-◌, ◌*◌, ◌≤◌, ◌<◌, ◌^◌, List, [], ◌∷◌, ◌++◌, length, take, drop, true, inl, inr, Option, Some, None, refl, sym, ◌∙◌, ap, subst, arith, append_assoc, append-nil, length-append, length-drop, lit<, get_or, drop-cons}
use Rattle.std.proofs.lemmas.List.{take_more, take-append-drop}
use Rattle.std.proofs.lemmas.Bool.Decides.{eqb_tells}
use Rattle.aso_bytes.specs.Spelling.{IsZig, LacksRoom}
use Rattle.aso_catalog.specs.Faults.{BadIs}
use Rattle.aso_catalog.specs.declared.fault.RecordFault.{RecordFault}
use Rattle.aso_catalog.specs.declared.fault.RecordFault.TheVariants.{Bad, NoMemory}
use Rattle.std.specs.Prelude.{ℤ, FitsSigned, slice_get, option_map, ◌==◌, Result, Ok, Err, OnOk, OnErr}
use Rattle.std.specs.Int.{from_be_bytes, to_be_bytes, w32, w64, w128}
use Rattle.std.proofs.lemmas.Nat.{from_be_bytes-to_be_bytes_4, from_be_bytes-to_be_bytes_8}
use Rattle.std.proofs.lemmas.List.{take_at, drop_at}
use Rattle.aso_bytes.proofs.Spellings.{one_zig, length-zig}
use Rattle.std.proofs.Math.Nat.{add-mul, one-mul, mul-le-mul_right}
use Rattle.aso_catalog.specs.declared.record.LeafCell.{LeafCell}
use Rattle.aso_catalog.specs.Record.{AreRising, AreNumbers, AreSmall, IsHead, IsCell, AreCells, IsAbove, last_leaves, leaves_text, longest_cell, magic}

pub next32 : (m n : ℕ) (x y bytes : List ℕ) → m < 2 ^ 32 → n < 2 ^ 32 → bytes ≡ to_be_bytes w32 m ++ x → bytes ≡ to_be_bytes w32 n ++ y → (m ≡ n) × (x ≡ y)
next32 m n x y bytes small also is_m is_n =
    let e : to_be_bytes w32 m ++ x ≡ to_be_bytes w32 n ++ y = sym is_m ∙ is_n in (
      sym (from_be_bytes-to_be_bytes_4 m small) ∙ ap (λ (l : List ℕ). from_be_bytes w32 (take 4 l)) e ∙ from_be_bytes-to_be_bytes_4 n also,
      ap (λ (l : List ℕ). drop 4 l) e,
    )

pub next64 : (m n : ℕ) (x y bytes : List ℕ) → m < 2 ^ 64 → n < 2 ^ 64 → bytes ≡ to_be_bytes w64 m ++ x → bytes ≡ to_be_bytes w64 n ++ y → (m ≡ n) × (x ≡ y)
next64 m n x y bytes small also is_m is_n =
    let e : to_be_bytes w64 m ++ x ≡ to_be_bytes w64 n ++ y = sym is_m ∙ is_n in (
      sym (from_be_bytes-to_be_bytes_8 m small) ∙ ap (λ (l : List ℕ). from_be_bytes w64 (take 8 l)) e ∙ from_be_bytes-to_be_bytes_8 n also,
      ap (λ (l : List ℕ). drop 8 l) e,
    )

-- the magic as a number
pub after_magic : (m : ℕ) (x y bytes : List ℕ) → m < 2 ^ 32 → bytes ≡ to_be_bytes w32 m ++ x → bytes ≡ magic ++ y → (m ≡ 1095978800) × (x ≡ y)
after_magic m x y bytes small is named = next32 m 1095978800 x y bytes small (lit< tt) is named

pub same_numbers : (l k m n : ℕ) (x y bytes : List ℕ) → AreNumbers l k x bytes → AreNumbers m n y bytes → (l ≡ m) × (k ≡ n) × (x ≡ y)
same_numbers l k m n x y bytes p q =
    let older : k < l = p.older in
    let also : n < m = q.older in
    let below : l < 2 ^ 64 = p.below in
    let under : m < 2 ^ 64 = q.below in
    let e : to_be_bytes w64 l ++ (to_be_bytes w64 k ++ x) ≡ to_be_bytes w64 m ++ (to_be_bytes w64 n ++ y) = ap (λ (b : List ℕ). drop 4 b) (sym p.joined ∙ q.joined) in
    let first = next64 l m (to_be_bytes w64 k ++ x) (to_be_bytes w64 n ++ y) (to_be_bytes w64 l ++ (to_be_bytes w64 k ++ x)) below under refl e in
    let second = next64 k n x y (to_be_bytes w64 k ++ x) (omega arith) (omega arith) refl first.1 in
    (first.0, second.0, second.1)

-- a head begins with numbers
pub numbers_of : (l k d n : ℕ) (outline rest bytes : List ℕ) → IsHead l k outline d n rest bytes → AreNumbers l k (to_be_bytes w32 (length outline) ++ (outline ++ (d ∷ (to_be_bytes w32 n ++ rest)))) bytes
numbers_of l k d n outline rest bytes h = record { below = h.below; older = h.older; joined = h.joined }

pub same_tail : (a x y : List ℕ) → a ++ x ≡ a ++ y → x ≡ y
same_tail a x y e = sym (drop_at a x (length a) refl) ∙ ap (λ (l : List ℕ). drop (length a) l) e ∙ drop_at a y (length a) refl

-- leaves of one count
pub one_leaves : (xs ys x y : List ℕ) → length xs ≡ length ys → AreSmall xs → AreSmall ys → leaves_text xs ++ x ≡ leaves_text ys ++ y → (xs ≡ ys) × (x ≡ y)
one_leaves [] [] x y same p q e = (refl, e)
one_leaves [] (b ∷ ys) x y same p q e = absurd (omega arith)
one_leaves (a ∷ xs) [] x y same p q e = absurd (omega arith)
one_leaves (a ∷ xs) (b ∷ ys) x y same p q e =
    let first = next32 a b (leaves_text xs ++ x) (leaves_text ys ++ y) (to_be_bytes w32 a ++ (leaves_text xs ++ x)) p.0 q.0 refl e in
    let rest = one_leaves xs ys x y (omega arith) p.1 q.1 first.1 in
    let heads : a ≡ b = first.0 in
    let tails : xs ≡ ys = rest.0 in
    (ap (λ (z : ℕ). z ∷ xs) heads ∙ ap (λ (l : List ℕ). b ∷ l) tails, rest.1)

pub length-leaves_text : (xs : List ℕ) → length (leaves_text xs) ≡ 4 * length xs
length-leaves_text [] = refl
length-leaves_text (x ∷ xs) = omega (arith, length-leaves_text xs)

same_cell : (c d : LeafCell) → c.leaves ≡ d.leaves → c.amount ≡ d.amount → c ≡ d
same_cell c d leaves amount =
    let make : List ℕ → ℤ → LeafCell = λ l a. record { leaves = l; amount = a } in
    ap (λ (l : List ℕ). make l c.amount) leaves ∙ ap (λ (a : ℤ). make d.leaves a) amount

-- a cell, and what is behind it
pub one_cell : (n : ℕ) (c d : LeafCell) (f g x y : List ℕ) → IsCell n c f → IsCell n d g → f ++ x ≡ g ++ y → (c ≡ d) × (x ≡ y)
one_cell n c d f g x y p q e =
    let regrouped : leaves_text c.leaves ++ (p.amount ++ x) ≡ leaves_text d.leaves ++ (q.amount ++ y) =
    sym (append_assoc (leaves_text c.leaves) p.amount x) ∙ ap (λ (l : List ℕ). l ++ x) (sym p.joined) ∙ e ∙ ap (λ (l : List ℕ). l ++ y) q.joined ∙ append_assoc (leaves_text d.leaves) q.amount y in
    let leaves = one_leaves c.leaves d.leaves (p.amount ++ x) (q.amount ++ y) (p.count ∙ sym q.count) p.small q.small regrouped in
    let amount = one_zig p.amount q.amount x y c.amount d.amount p.spelled q.spelled leaves.1 in
    (same_cell c d leaves.0 amount.1, same_tail q.amount x y (ap (λ (l : List ℕ). l ++ x) (sym amount.0) ∙ leaves.1))

get_last : (cells : List LeafCell) (c : LeafCell) → slice_get (cells ++ c ∷ []) (length cells) ≡ Some c
get_last [] c = refl
get_last (x ∷ cells) c = get_last cells c

pub last_leaves-push : (cells : List LeafCell) (c : LeafCell) → last_leaves (cells ++ c ∷ []) ≡ Some c.leaves
last_leaves-push cells c =
    let end : length (cells ++ c ∷ []) - 1 ≡ length cells = omega (arith, length-append cells (c ∷ [])) in
    ap (λ (k : ℕ). option_map (λ (x : LeafCell). x.leaves) (slice_get (cells ++ c ∷ []) k)) end ∙ ap (λ (o : Option LeafCell). option_map (λ (x : LeafCell). x.leaves) o) (get_last cells c)

-- The cells found so far: whatever goes on with the rest completes them, and every list of cells that the bytes spell
-- and that is as long goes on from them.
pub record Found (n : ℕ) (found : List LeafCell) (bytes rest : List ℕ) : Type 0 where
  pub completes : (more : List LeafCell) → AreCells n (last_leaves found) more rest → AreCells n None (found ++ more) bytes
  pub goes_on : (all : List LeafCell) → AreCells n None all bytes → length found ≤ length all → (more : List LeafCell) × (all ≡ found ++ more) × AreCells n (last_leaves found) more rest

pub found_none : (n : ℕ) (bytes : List ℕ) → Found n [] bytes bytes
found_none n bytes = record { completes = λ more is. is; goes_on = λ all is le. (all, refl, is) }

pub found_more : (n : ℕ) (found : List LeafCell) (c : LeafCell) (front bytes rest behind : List ℕ) → Found n found bytes rest → IsCell n c front → IsAbove (last_leaves found) c.leaves → rest ≡ front ++ behind → Found n (found ++ c ∷ []) bytes behind
found_more n found c front bytes rest behind so_far is above split = record {
  completes = λ more next.
      let whole = so_far.completes (c ∷ more) (front, behind, is, above, split, subst (λ (o : Option (List ℕ)). AreCells n o more behind) (last_leaves-push found c) next) in
      subst (λ (l : List LeafCell). AreCells n None l bytes) (sym (append_assoc found (c ∷ []) more)) whole;
  goes_on = λ all spelled le.
      let on = so_far.goes_on all spelled (omega (arith, length-append found (c ∷ []))) in
      goes on.0 all on.1 (omega (arith, length-append found (c ∷ []))) on.2;
}
  where
    goes : (more all : List LeafCell) → all ≡ found ++ more → length found < length all → AreCells n (last_leaves found) more rest
        → (ds : List LeafCell) × (all ≡ (found ++ c ∷ []) ++ ds) × AreCells n (last_leaves (found ++ c ∷ [])) ds behind
    goes [] all e lt spelled = let same : length all ≡ length (found ++ []) = ap length e in absurd (omega (arith, length-append found []))
    goes (d ∷ ds) all e lt spelled =
        let one = one_cell n c d front spelled.0 behind spelled.1 is spelled.2 (sym split ∙ spelled.4) in
        let all_is : all ≡ (found ++ c ∷ []) ++ ds = e ∙ ap (λ (x : LeafCell). found ++ x ∷ ds) (sym one.0) ∙ sym (append_assoc found (c ∷ []) ds) in
        let next : AreCells n (Some d.leaves) ds spelled.1 = spelled.5 in
        let here : AreCells n (Some c.leaves) ds behind = subst (λ (l : List ℕ). AreCells n (Some c.leaves) ds l) (sym one.1) (subst (λ (x : LeafCell). AreCells n (Some x.leaves) ds spelled.1) (sym one.0) next) in
        (ds, all_is, subst (λ (o : Option (List ℕ)). AreCells n o ds behind) (sym (last_leaves-push found c)) here)

-- where no cell is next, no longer list is spelled
pub no_next : (n : ℕ) (found : List LeafCell) (bytes rest : List ℕ) → Found n found bytes rest → ((c : LeafCell) (front behind : List ℕ) → IsCell n c front → IsAbove (last_leaves found) c.leaves → rest ≢ front ++ behind)
    → (all : List LeafCell) → length found < length all → AreCells n None all bytes → ⊥
no_next n found bytes rest so_far none all lt spelled =
    let on = so_far.goes_on all spelled (omega arith) in none_of on.0 on.1 on.2
  where
    none_of : (more : List LeafCell) → all ≡ found ++ more → AreCells n (last_leaves found) more rest → ⊥
    none_of [] e is = let same : length all ≡ length (found ++ []) = ap length e in omega (arith, length-append found [])
    none_of (d ∷ ds) e is = none d is.0 is.1 is.2 is.3 is.4

-- a cell that isn't above the last one rules out every other
pub not_above : (n : ℕ) (found : List LeafCell) (c : LeafCell) (front bytes rest behind : List ℕ) → Found n found bytes rest → IsCell n c front → (IsAbove (last_leaves found) c.leaves → ⊥) → rest ≡ front ++ behind
    → (all : List LeafCell) → length found < length all → AreCells n None all bytes → ⊥
not_above n found c front bytes rest behind so_far is low split = no_next n found bytes rest so_far (λ d f b cell above e.
    let one = one_cell n c d front f behind b is cell (sym split ∙ e) in low (subst (λ (x : LeafCell). IsAbove (last_leaves found) x.leaves) (sym one.0) above))

-- where bytes are left, no list as long is spelled
pub left_over : (n : ℕ) (found : List LeafCell) (bytes rest : List ℕ) → Found n found bytes rest → rest ≢ [] → (all : List LeafCell) → length all ≡ length found → AreCells n None all bytes → ⊥
left_over n found bytes rest so_far some all same spelled =
    let on = so_far.goes_on all spelled (omega arith) in none_of on.0 on.1 on.2
  where
    none_of : (more : List LeafCell) → all ≡ found ++ more → AreCells n (last_leaves found) more rest → ⊥
    none_of [] e is = some is
    none_of (d ∷ ds) e is = let long : length all ≡ length (found ++ d ∷ ds) = ap length e in omega (arith, length-append found (d ∷ ds))

pub found_all : (n : ℕ) (found : List LeafCell) (bytes rest : List ℕ) → Found n found bytes rest → rest ≡ [] → AreCells n None found bytes
found_all n found bytes rest so_far is = subst (λ (l : List LeafCell). AreCells n None l bytes) (append-nil found) (so_far.completes [] is)

pub bad_weaker : (fault : RecordFault) (P Q : Type 0) → BadIs fault P → (P → Q) → BadIs fault Q
bad_weaker (Bad at) P Q is then = (is.0, then is.1)
bad_weaker NoMemory P Q is then = tt

pub leaves_text-append : (xs ys : List ℕ) → leaves_text (xs ++ ys) ≡ leaves_text xs ++ leaves_text ys
leaves_text-append [] ys = refl
leaves_text-append (x ∷ xs) ys = ap (λ (l : List ℕ). to_be_bytes w32 x ++ l) (leaves_text-append xs ys)

pub leaves_text-take : (xs : List ℕ) (i : ℕ) → i < length xs → leaves_text (take (i + 1) xs) ≡ leaves_text (take i xs) ++ to_be_bytes w32 (get_or xs i 0)
leaves_text-take xs i lt = ap leaves_text (take_more xs i 0 lt) ∙ leaves_text-append (take i xs) (get_or xs i 0 ∷ [])

pub leaves_more : (xs bytes rest behind : List ℕ) (x : ℕ) → bytes ≡ leaves_text xs ++ rest → rest ≡ to_be_bytes w32 x ++ behind → bytes ≡ leaves_text (xs ++ x ∷ []) ++ behind
leaves_more xs bytes rest behind x is split =
    is ∙ ap (λ (l : List ℕ). leaves_text xs ++ l) split ∙ sym (append_assoc (leaves_text xs) (to_be_bytes w32 x) behind) ∙ ap (λ (l : List ℕ). l ++ behind) (sym (leaves_text-append xs (x ∷ [])))

pub small-push : (xs : List ℕ) (x : ℕ) → AreSmall xs → x < 2 ^ 32 → AreSmall (xs ++ x ∷ [])
small-push [] x small lt = (lt, tt)
small-push (y ∷ xs) x small lt = (small.0, small-push xs x small.1 lt)

pub small_each : (xs : List ℕ) → ((k : ℕ) → get_or xs k 0 < 2 ^ 32) → AreSmall xs
small_each [] each = tt
small_each (x ∷ xs) each = (each 0, small_each xs (λ k. each (suc k)))

-- a cell that bytes begin with has room for its leaves
pub short_cell : (n : ℕ) (cell : LeafCell) (front rest bytes : List ℕ) → length bytes < 4 * n → IsCell n cell front → bytes ≢ front ++ rest
short_cell n cell front rest bytes short is e =
    let whole : length bytes ≡ length ((leaves_text cell.leaves ++ is.amount) ++ rest) = ap length (e ∙ ap (λ (l : List ℕ). l ++ rest) is.joined) in
    let count : length cell.leaves ≡ n = is.count in
    omega (arith, length-append (leaves_text cell.leaves ++ is.amount) rest, length-append (leaves_text cell.leaves) is.amount, length-leaves_text cell.leaves)

-- behind its leaves stands an amount
pub no_amount : (n : ℕ) (leaves after bytes : List ℕ) → length leaves ≡ n → AreSmall leaves → bytes ≡ leaves_text leaves ++ after → ((z : ℤ) (len : ℕ) → FitsSigned w128 z → IsZig (take len after) z → ⊥)
    → (cell : LeafCell) (front rest : List ℕ) → IsCell n cell front → bytes ≢ front ++ rest
no_amount n leaves after bytes count small is none cell front rest cell_is e =
    let regrouped : leaves_text leaves ++ after ≡ leaves_text cell.leaves ++ (cell_is.amount ++ rest) =
    sym is ∙ e ∙ ap (λ (l : List ℕ). l ++ rest) cell_is.joined ∙ append_assoc (leaves_text cell.leaves) cell_is.amount rest in
    let both = one_leaves leaves cell.leaves after (cell_is.amount ++ rest) (count ∙ sym cell_is.count) small cell_is.small regrouped in
    let front_is : take (length cell_is.amount) after ≡ cell_is.amount = ap (λ (l : List ℕ). take (length cell_is.amount) l) both.1 ∙ take_at cell_is.amount rest (length cell_is.amount) refl in
    none cell.amount (length cell_is.amount) cell_is.fits (subst (λ (l : List ℕ). IsZig l cell.amount) (sym front_is) cell_is.spelled)

-- the cells written so far, and what completes them
pub record Written (n : ℕ) (cells : List LeafCell) (i : ℕ) (old out : List ℕ) : Type 0 where
  pub before : Option (List ℕ)
  pub done : List ℕ
  pub out_is : out ≡ old ++ done
  pub rising : AreRising n before (drop i cells)
  pub completes : (tail : List ℕ) → AreCells n before (drop i cells) tail → AreCells n None cells (done ++ tail)

pub written_none : (n : ℕ) (cells : List LeafCell) (old : List ℕ) → AreRising n None cells → Written n cells 0 old old
written_none n cells old rising = record { before = None; done = []; out_is = sym (append-nil old); rising = rising; completes = λ tail is. is }

item_next : (cells : List LeafCell) (i : ℕ) (c : LeafCell) → i < length cells → c ≡ get_or cells i c → drop i cells ≡ c ∷ drop (i + 1) cells
item_next cells i c lt is = let next : i + 1 ≡ suc i = omega arith in drop-cons cells i c lt ∙ ap (λ (x : LeafCell). x ∷ drop (suc i) cells) (sym is) ∙ ap (λ (k : ℕ). c ∷ drop k cells) (sym next)

pub written_here : (n : ℕ) (cells : List LeafCell) (i : ℕ) (old out : List ℕ) (c : LeafCell) → Written n cells i old out → i < length cells → c ≡ get_or cells i c → length c.leaves ≡ n
written_here n cells i old out c so_far lt is = (subst (λ (l : List LeafCell). AreRising n so_far.before l) (item_next cells i c lt is) so_far.rising).0

pub written_more : (n : ℕ) (cells : List LeafCell) (i : ℕ) (old out new front : List ℕ) (c : LeafCell) → Written n cells i old out → i < length cells → c ≡ get_or cells i c → IsCell n c front → new ≡ out ++ front → Written n cells (i + 1) old new
written_more n cells i old out new front c so_far lt is cell appended =
    let next = item_next cells i c lt is in
    let rising = subst (λ (l : List LeafCell). AreRising n so_far.before l) next so_far.rising in
    record {
      before = Some c.leaves;
      done = so_far.done ++ front;
      out_is = appended ∙ ap (λ (l : List ℕ). l ++ front) so_far.out_is ∙ append_assoc old so_far.done front;
      rising = rising.2;
      completes = λ tail spelled.
          let all : AreCells n so_far.before (c ∷ drop (i + 1) cells) (front ++ tail) = (front, tail, cell, rising.1, refl, spelled) in
          let whole = so_far.completes (front ++ tail) (subst (λ (l : List LeafCell). AreCells n so_far.before l (front ++ tail)) (sym next) all) in
          subst (λ (l : List ℕ). AreCells n None cells l) (sym (append_assoc so_far.done front tail)) whole;
    }

pub written_all : (n : ℕ) (cells : List LeafCell) (i : ℕ) (old out : List ℕ) → Written n cells i old out → length cells ≤ i → (bytes : List ℕ) × AreCells n None cells bytes × (out ≡ old ++ bytes)
written_all n cells i old out so_far le =
    let none : drop i cells ≡ [] = drop_past i cells le in
    let end : AreCells n so_far.before (drop i cells) [] = subst (λ (l : List LeafCell). AreCells n so_far.before l []) (sym none) refl in
    (so_far.done, subst (λ (l : List ℕ). AreCells n None cells l) (append-nil so_far.done) (so_far.completes [] end), so_far.out_is)
  where
    drop_past : (k : ℕ) (xs : List LeafCell) → length xs ≤ k → drop k xs ≡ []
    drop_past zero [] le = refl
    drop_past zero (x ∷ xs) le = absurd (omega arith)
    drop_past (suc k) [] le = refl
    drop_past (suc k) (x ∷ xs) le = drop_past k xs (omega arith)

pub on_ok : {T E : Type 0} (r : Result T E) (P Q : Type 0) → OnOk r P → (P → Q) → OnOk r Q
on_ok (Ok x) P Q is then = then is
on_ok (Err e) P Q is then = tt

pub on_err : {T E : Type 0} (r : Result T E) (P Q : Type 0) → OnErr r P → (P → Q) → OnErr r Q
on_err (Ok x) P Q is then = tt
on_err (Err e) P Q is then = then is

take_at_end : (n : ℕ) (xs : List ℕ) → length xs ≡ n → take n xs ≡ xs
take_at_end n xs is = ap (λ (l : List ℕ). take n l) (sym (append-nil xs)) ∙ take_at xs [] n is

whole_rest : (size : ℕ) (after : List ℕ) → size ≤ length after → take (length after - size) (drop size after) ≡ drop size after
whole_rest size after le = take_at_end (length after - size) (drop size after) (omega (arith, length-drop size after))

-- leaves, and a front of the rest that spells the amount
pub cell_found : (n : ℕ) (leaves after bytes : List ℕ) (size : ℕ) (cell : LeafCell) → length leaves ≡ n → AreSmall leaves → bytes ≡ leaves_text leaves ++ after → size ≤ length after
    → cell.leaves ≡ leaves → FitsSigned w128 cell.amount → IsZig (take size after) cell.amount → (front : List ℕ) × IsCell n cell front × (bytes ≡ front ++ take (length after - size) (drop size after))
cell_found n leaves after bytes size cell count small is le same fits spelled = (
  leaves_text leaves ++ take size after,
  record { count = ap length same ∙ count; small = subst AreSmall (sym same) small; fits = fits; amount = take size after; spelled = spelled; joined = ap (λ (l : List ℕ). leaves_text l ++ take size after) (sym same) },
  is ∙ ap (λ (l : List ℕ). leaves_text leaves ++ l) (sym (take-append-drop size after) ∙ ap (λ (l : List ℕ). take size after ++ l) (sym (whole_rest size after le))) ∙ sym (append_assoc (leaves_text leaves) (take size after) (take (length after - size) (drop size after))),
)

pub empty_of : (xs : List ℕ) → true ≡ (length xs == 0) → xs ≡ []
empty_of [] e = refl
empty_of (x ∷ xs) e = elim (eqb_tells (length (x ∷ xs)) 0) [
  | inl is ↦ absurd (omega (arith, is.1))
  | inr other ↦ absurd (cc (e, other.0))
]

-- two heads of the same bytes
pub same_head : (l k d n a b c m : ℕ) (o p x y bytes : List ℕ) → IsHead l k o d n x bytes → IsHead a b p c m y bytes → (d ≡ c) × (n ≡ m) × (x ≡ y)
same_head l k d n a b c m o p x y bytes one two =
    let X : List ℕ = to_be_bytes w32 n ++ x in
    let Y : List ℕ = to_be_bytes w32 m ++ y in
    let numbers = same_numbers l k a b (to_be_bytes w32 (length o) ++ (o ++ (d ∷ X))) (to_be_bytes w32 (length p) ++ (p ++ (c ∷ Y))) bytes (numbers_of l k d n o x bytes one) (numbers_of a b c m p y bytes two) in
    let size = next32 (length o) (length p) (o ++ (d ∷ X)) (p ++ (c ∷ Y)) (to_be_bytes w32 (length o) ++ (o ++ (d ∷ X))) one.short two.short refl numbers.2 in
    let same : d ∷ X ≡ c ∷ Y = sym (drop_at o (d ∷ X) (length o) refl) ∙ ap (λ (z : List ℕ). drop (length o) z) size.1 ∙ drop_at p (c ∷ Y) (length o) (sym size.0) in
    let heads : d ≡ c = cc in
    let tails : X ≡ Y = cc in
    let counts = next32 n m x y X one.few two.few refl tails in
    (heads, counts.0, counts.1)

-- pieces of at most k bytes each: one more, and that they are some of the whole
pub one_more : (i k : ℕ) → (i + 1) * k ≡ i * k + k
one_more i k = add-mul i 1 k ∙ ap (λ (n : ℕ). i * k + n) (one-mul k)

pub some_more : (i n k : ℕ) → i < n → i * k + k ≤ n * k
some_more i n k lt = subst (λ (x : ℕ). x ≤ n * k) (one_more i k) (mul-le-mul_right k (omega arith))

-- a cell, and an amount for which there is no room
pub cell_most : (n : ℕ) (cell : LeafCell) (bytes : List ℕ) → IsCell n cell bytes → length bytes ≤ longest_cell n
cell_most n cell bytes is =
    let long : length bytes ≡ length (leaves_text cell.leaves ++ is.amount) = ap length is.joined in
    let count : length cell.leaves ≡ n = is.count in
    let amount : length is.amount ≤ 19 = length-zig is.amount cell.amount is.fits is.spelled in
    omega (arith, length-append (leaves_text cell.leaves) is.amount, length-leaves_text cell.leaves)

pub amount_most : (z : ℤ) (capacity len : ℕ) → FitsSigned w128 z → LacksRoom (λ s. IsZig s z) capacity len → capacity < len + 19
amount_most z capacity len fits lacks = let most = length-zig lacks.0 z fits lacks.1 in let less : capacity < len + length lacks.0 = lacks.2 in omega (arith, most)

-- eight pieces, put one behind the other
pub eight : (o a b c d e f g h m1 m2 m3 m4 m5 m6 m7 m8 : List ℕ) → m1 ≡ o ++ a → m2 ≡ m1 ++ b → m3 ≡ m2 ++ c → m4 ≡ m3 ++ d → m5 ≡ m4 ++ e → m6 ≡ m5 ++ f → m7 ≡ m6 ++ g → m8 ≡ m7 ++ h
    → m8 ≡ o ++ (a ++ (b ++ (c ++ (d ++ (e ++ (f ++ (g ++ h)))))))
eight o a b c d e f g h m1 m2 m3 m4 m5 m6 m7 m8 e1 e2 e3 e4 e5 e6 e7 e8 =
    e8
    ∙ ap (λ (l : List ℕ). l ++ h) (e7
    ∙ ap (λ (l : List ℕ). l ++ g) (e6
    ∙ ap (λ (l : List ℕ). l ++ f) (e5
    ∙ ap (λ (l : List ℕ). l ++ e) (e4
    ∙ ap (λ (l : List ℕ). l ++ d) (e3
    ∙ ap (λ (l : List ℕ). l ++ c) (e2
    ∙ ap (λ (l : List ℕ). l ++ b) e1))))))
    ∙ simp append_assoc
