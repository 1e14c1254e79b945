-- What a write into one area leaves of both.
use Rattle.std.proofs.Common.{◌≡◌, inl, inr, ℕ, zero, suc, ◌+◌, ◌-◌, ◌*◌, ◌≤◌, ◌<◌, ◌^◌, List, [], ◌∷◌, ◌++◌, length, get_or, take, drop, refl, sym, ◌∙◌, ap, arith, append_assoc, length-append}
use Rattle.std.proofs.lemmas.List.{take-take, take_at, drop_at, drop-drop, drop-take, length-take-le}
use Rattle.std.proofs.Math.Seq.{take-append-add}
use Rattle.std.proofs.lemmas.Bool.Decides.{leb_tells}
use Rattle.std.specs.Int.{from_be_bytes, to_be_bytes, w32, w64}
use Rattle.std.proofs.lemmas.Nat.{from_be_bytes-to_be_bytes_4, from_be_bytes-to_be_bytes_8}
use Rattle.aso_disk.specs.Slots.{Torn, overwrite, piece}
use Rattle.aso_disk.specs.CallLaws.{length-overwrite}
use Rattle.aso_catalog.specs.Image.{area, gate_of, framed, body_of, layout_of, size_in}
use Rattle.aso_catalog.specs.Record.{IsRecord}
use Rattle.aso_catalog.specs.declared.record.Record.{Record}

-- a part that ends before the range stays, and so does one that begins behind it
pub piece_before : (at n p m : ℕ) (c d : List ℕ) → Torn at n c d → p + m ≤ at → piece p m d ≡ piece p m c
piece_before at n p m c d torn le = sym (drop-take p m d) ∙ ap (λ (l : List ℕ). drop p l) fronts ∙ drop-take p m c
  where
    fronts : take (p + m) d ≡ take (p + m) c
    fronts = sym (take-take (p + m) at d le) ∙ ap (λ (l : List ℕ). take (p + m) l) torn.before ∙ take-take (p + m) at c le

pub piece_after : (at n p m : ℕ) (c d : List ℕ) → Torn at n c d → at + n ≤ p → piece p m d ≡ piece p m c
piece_after at n p m c d torn le = ap (λ (l : List ℕ). take m l) backs
  where
    split : at + n + (p - (at + n)) ≡ p
    split = omega arith

    backs : drop p d ≡ drop p c
    backs = ap (λ (k : ℕ). drop k d) (sym split) ∙ sym (drop-drop (p - (at + n)) (at + n) d) ∙ ap (λ (l : List ℕ). drop (p - (at + n)) l) torn.after ∙ drop-drop (p - (at + n)) (at + n) c ∙ ap (λ (k : ℕ). drop k c) split

take_nil : (z : ℕ) → take z (let e : List ℕ = [] in e) ≡ []
take_nil zero = refl
take_nil (suc z) = refl

drop1-take : (z : ℕ) (xs : List ℕ) → drop 1 (take z xs) ≡ take (z - 1) (drop 1 xs)
drop1-take zero xs = refl
drop1-take (suc z) [] = let less : suc z - 1 ≡ z = omega arith in rw (less, take_nil z) refl
drop1-take (suc z) (x ∷ xs) = let less : suc z - 1 ≡ z = omega arith in rw less refl

-- what stands behind the first byte of a part
pub tail_piece : (p z : ℕ) (c : List ℕ) → drop 1 (piece p z c) ≡ piece (p + 1) (z - 1) c
tail_piece p z c = drop1-take z (drop p c) ∙ ap (λ (l : List ℕ). take (z - 1) l) (drop-drop 1 p c)

first-take : (z : ℕ) (xs : List ℕ) → 1 ≤ z → get_or (take z xs) 0 0 ≡ get_or (take 1 xs) 0 0
first-take zero xs le = absurd (omega arith)
first-take (suc z) [] le = refl
first-take (suc z) (x ∷ xs) le = refl

-- the part that was written
pub piece_written : (at : ℕ) (bytes c : List ℕ) → at + length bytes ≤ length c → drop at (overwrite at bytes c) ≡ bytes ++ drop (at + length bytes) c
piece_written at bytes c fits =
    ap (λ (l : List ℕ). drop at l) (append_assoc (take at c) bytes (drop (at + length bytes) c)) ∙ drop_at (take at c) (bytes ++ drop (at + length bytes) c) at (length-take-le at c (omega arith))

-- a body behind its length, whatever follows
pub framed_of : (body rest : List ℕ) → length body < 2 ^ 32 → framed (to_be_bytes w32 (length body) ++ body ++ rest) ≡ body
unfolding framed
framed_of body rest small = ap (λ (n : ℕ). take n (body ++ rest)) (from_be_bytes-to_be_bytes_4 (length body) small) ∙ take_at body rest (length body) refl

-- a length and a body, written one behind the other
pub framed_in : (size body buffer : List ℕ) → length size ≡ 4 → 4 + length body ≤ length buffer → take (4 + length body) (overwrite 4 body (overwrite 0 size buffer)) ≡ size ++ body
framed_in size body buffer four fits =
    let first : List ℕ = overwrite 0 size buffer in
    let front : take 4 first ≡ size = take_at size (drop (0 + length size) buffer) 4 four in
    take_at (take 4 first ++ body) (drop (4 + length body) first) (4 + length body) (omega (arith, length-append (take 4 first) body, ap length front)) ∙ ap (λ (l : List ℕ). l ++ body) front

pub length-framed_in : (size body buffer : List ℕ) → length size ≡ 4 → 4 + length body ≤ length buffer → length (overwrite 4 body (overwrite 0 size buffer)) ≡ length buffer
length-framed_in size body buffer four fits =
    let first : length (overwrite 0 size buffer) ≡ length buffer = length-overwrite 0 size buffer (omega (arith, four)) in
    length-overwrite 4 body (overwrite 0 size buffer) (omega arith) ∙ first

-- the four bytes of a length behind a gate
pub four_cells : (bytes : List ℕ) → 5 ≤ length bytes → take 4 (drop 1 bytes) ≡ get_or bytes 1 0 ∷ get_or bytes 2 0 ∷ get_or bytes 3 0 ∷ get_or bytes 4 0 ∷ []
four_cells (a ∷ b ∷ c ∷ d ∷ e ∷ bytes) long = refl
four_cells bytes long = absurd (omega arith)

-- the length that is written in front of a body
pub size_of : (body rest : List ℕ) → length body < 2 ^ 32 → size_in (to_be_bytes w32 (length body) ++ body ++ rest) ≡ length body
size_of body rest small = from_be_bytes-to_be_bytes_4 (length body) small

-- the layout in a record's body
pub layout_named : (body : List ℕ) (r : Record) → IsRecord r body → layout_of body ≡ r.layout
unfolding layout_of
layout_named body r is =
    let head = is.head in
    let older : r.commit < r.layout = head.older in
    let rest : List ℕ = to_be_bytes w64 r.commit ++ (to_be_bytes w32 (length r.outline) ++ (r.outline ++ (r.dimensions ∷ (to_be_bytes w32 (length r.cells) ++ is.cells)))) in
    ap (λ (l : List ℕ). from_be_bytes w64 (take 8 (drop 4 l))) head.joined ∙ ap (from_be_bytes w64) (take_at (to_be_bytes w64 r.layout) rest 8 refl) ∙ from_be_bytes-to_be_bytes_8 r.layout head.below

module _ (current : ℕ) (within : current ≤ 1) where
  abbrev pub base : ℕ
  base = 131072 * (1 - current)

  -- a write into the other area leaves the current one
  pub current_stays : (at n : ℕ) (c d : List ℕ) → base ≤ at → at + n ≤ base + 131072 → Torn at n c d → area current d ≡ area current c
  unfolding area
  current_stays at n c d from to torn = elim (leb_tells current 0) [
    | inl first ↦ piece_before at n (131072 * current) 131072 c d torn (omega (arith, first.1))
    | inr second ↦ piece_after at n (131072 * current) 131072 c d torn (omega (arith, second.1))
  ]

  -- a write of the gate leaves what stands behind it
  pub behind_stays : (c d : List ℕ) → Torn base 1 c d → drop 1 (area (1 - current) d) ≡ drop 1 (area (1 - current) c)
  unfolding area
  behind_stays c d torn = tail_piece base 131072 d ∙ piece_after base 1 (base + 1) 131071 c d torn (omega arith) ∙ sym (tail_piece base 131072 c)

  -- a write behind the gate leaves the gate
  pub gate_stays : (n : ℕ) (c d : List ℕ) → Torn (base + 1) n c d → gate_of (area (1 - current) d) ≡ gate_of (area (1 - current) c)
  unfolding area gate_of
  gate_stays n c d torn =
      first-take 131072 (drop base d) (omega arith) ∙ ap (λ (l : List ℕ). get_or l 0 0) (piece_before (base + 1) n base 1 c d torn (omega arith)) ∙ sym (first-take 131072 (drop base c) (omega arith))

  pub gate_written : (x : ℕ) (c : List ℕ) → base + 1 ≤ length c → gate_of (area (1 - current) (overwrite base (x ∷ []) c)) ≡ x
  unfolding area gate_of
  gate_written x c fits =
      first-take 131072 (drop base (overwrite base (x ∷ []) c)) (omega arith) ∙ ap (λ (l : List ℕ). get_or (take 1 l) 0 0) (piece_written base (x ∷ []) c fits)

  pub body_written : (body c : List ℕ) → base + 131072 ≤ length c → length body ≤ 131067
      → (body_of (area (1 - current) (overwrite (base + 1) (to_be_bytes w32 (length body) ++ body) c)) ≡ body) × (size_in (drop 1 (area (1 - current) (overwrite (base + 1) (to_be_bytes w32 (length body) ++ body) c))) ≡ length body)
  unfolding area
  body_written body c fits small =
      let frame : List ℕ = to_be_bytes w32 (length body) ++ body in
      let long : length frame ≡ 4 + length body = length-append (to_be_bytes w32 (length body)) body in
      let rest : List ℕ = drop (base + 1 + length frame) c in
      let room : 131071 ≡ length frame + (131071 - length frame) = omega (arith, long) in
      let is : drop 1 (piece base 131072 (overwrite (base + 1) frame c)) ≡ frame ++ take (131071 - length frame) rest =
      tail_piece base 131072 (overwrite (base + 1) frame c)
      ∙ ap (λ (l : List ℕ). take 131071 l) (piece_written (base + 1) frame c (omega (arith, long)))
      ∙ ap (λ (n : ℕ). take n (frame ++ rest)) room
      ∙ take-append-add frame rest (131071 - length frame) in
      (ap framed is ∙ framed_of body (take (131071 - length frame) rest) (omega arith), ap size_in is ∙ size_of body (take (131071 - length frame) rest) (omega arith))
