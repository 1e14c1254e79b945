-- An amount is added at the place of its key, and the sum there is what the machine has.
use Rattle.std.proofs.Common.{◌≡◌, ◌∙◌, ℕ, suc, ◌+◌, Bool, true, false, List, [], ◌∷◌, ◌++◌, take, drop, refl, sym, ap, subst, true≢false, arith}
use Rattle.std.specs.Prelude.{ℤ, ◌+ℤ◌}
use Rattle.std.specs.declared.cmp.Ordering.{Ordering}
use Rattle.std.specs.declared.cmp.Ordering.TheVariants.{Less, Equal, Greater}
use Rattle.std.specs.Ordering.{is_gt}
use Rattle.std.specs.List.{prefix_len}
use Rattle.aso_catalog.specs.declared.record.LeafCell.{LeafCell}
use Rattle.aso_spec.specs.Cells.{Key, key_order}
use Rattle.aso_machine.specs.CellSteps.{IsPlace, add_cell, cell_at, is_before, sum_in}

module _ (key : Key) (z : ℤ) where
  -- from a list's place on alone something changes
  added_by : (c : LeafCell) (cs : List LeafCell) (o : Ordering) → key_order key c.leaves ≡ o
      → add_cell key z cs ≡ take (prefix_len (is_before key) cs) cs ++ add_cell key z (drop (prefix_len (is_before key) cs) cs)
      → add_cell key z (c ∷ cs) ≡ take (prefix_len (is_before key) (c ∷ cs)) (c ∷ cs) ++ add_cell key z (drop (prefix_len (is_before key) (c ∷ cs)) (c ∷ cs))
  added_by c cs Less e rest = rw e (rw e refl)
  added_by c cs Equal e rest = rw e (rw e refl)
  added_by c cs Greater e rest =
      let next : 1 + prefix_len (is_before key) cs ≡ suc (prefix_len (is_before key) cs) = omega arith in
      rw e (ap (λ (xs : List LeafCell). c ∷ xs) rest ∙ sym (ap (λ (n : ℕ). take n (c ∷ cs) ++ add_cell key z (drop n (c ∷ cs))) next))

  pub added_at : (cells : List LeafCell) → add_cell key z cells ≡ take (prefix_len (is_before key) cells) cells ++ add_cell key z (drop (prefix_len (is_before key) cells) cells)
  added_at [] = refl
  added_at (c ∷ cs) = added_by c cs (key_order key c.leaves) refl (added_at cs)

  sum_by : (c : LeafCell) (cs : List LeafCell) (o : Ordering) → key_order key c.leaves ≡ o
      → sum_in key z cs ≡ sum_in key z (drop (prefix_len (is_before key) cs) cs) → sum_in key z (c ∷ cs) ≡ sum_in key z (drop (prefix_len (is_before key) (c ∷ cs)) (c ∷ cs))
  sum_by c cs Less e rest = rw e (rw e refl)
  sum_by c cs Equal e rest = rw e (rw e refl)
  sum_by c cs Greater e rest =
      let next : 1 + prefix_len (is_before key) cs ≡ suc (prefix_len (is_before key) cs) = omega arith in
      rw e (rest ∙ sym (ap (λ (n : ℕ). sum_in key z (drop n (c ∷ cs))) next))

  pub sum_at_place : (cells : List LeafCell) → sum_in key z cells ≡ sum_in key z (drop (prefix_len (is_before key) cells) cells)
  sum_at_place [] = refl
  sum_at_place (c ∷ cs) = sum_by c cs (key_order key c.leaves) refl (sum_at_place cs)

  -- at a place, by whether the first cell there is the key's
  pub added_here : (c : LeafCell) (cs : List LeafCell) → key_order key c.leaves ≡ Equal → add_cell key z (c ∷ cs) ≡ cell_at c.leaves (c.amount +ℤ z) ∷ cs
  added_here c cs e = rw e refl

  pub sum_here : (c : LeafCell) (cs : List LeafCell) → key_order key c.leaves ≡ Equal → sum_in key z (c ∷ cs) ≡ c.amount +ℤ z
  sum_here c cs e = rw e refl

  added_before_by : (c : LeafCell) (cs : List LeafCell) (o : Ordering) → key_order key c.leaves ≡ o → is_gt o ≡ false → (o ≡ Equal → ⊥) → add_cell key z (c ∷ cs) ≡ cell_at key z ∷ c ∷ cs
  added_before_by c cs Less e low other = rw e refl
  added_before_by c cs Equal e low other = absurd (other refl)
  added_before_by c cs Greater e low other = absurd (true≢false low)

  pub added_before : (cells : List LeafCell) → IsPlace key cells → ((c : LeafCell) (cs : List LeafCell) → cells ≡ c ∷ cs → key_order key c.leaves ≡ Equal → ⊥) → add_cell key z cells ≡ cell_at key z ∷ cells
  added_before [] place other = refl
  added_before (c ∷ cs) place other = added_before_by c cs (key_order key c.leaves) refl place (other c cs refl)

  sum_before_by : (c : LeafCell) (cs : List LeafCell) (o : Ordering) → key_order key c.leaves ≡ o → is_gt o ≡ false → (o ≡ Equal → ⊥) → sum_in key z (c ∷ cs) ≡ z
  sum_before_by c cs Less e low other = rw e refl
  sum_before_by c cs Equal e low other = absurd (other refl)
  sum_before_by c cs Greater e low other = absurd (true≢false low)

  pub sum_before : (cells : List LeafCell) → IsPlace key cells → ((c : LeafCell) (cs : List LeafCell) → cells ≡ c ∷ cs → key_order key c.leaves ≡ Equal → ⊥) → sum_in key z cells ≡ z
  sum_before [] place other = refl
  sum_before (c ∷ cs) place other = sum_before_by c cs (key_order key c.leaves) refl place (other c cs refl)

-- the list from the place on begins with no cell before the key
place_by : (key : Key) (c : LeafCell) (cs : List LeafCell) (b : Bool) → is_before key c ≡ b → IsPlace key (drop (prefix_len (is_before key) cs) cs) → IsPlace key (drop (prefix_len (is_before key) (c ∷ cs)) (c ∷ cs))
place_by key c cs true e rest =
    let next : 1 + prefix_len (is_before key) cs ≡ suc (prefix_len (is_before key) cs) = omega arith in
    rw e (subst (λ (n : ℕ). IsPlace key (drop n (c ∷ cs))) (sym next) rest)
place_by key c cs false e rest = rw e e

pub is_place : (key : Key) (cells : List LeafCell) → IsPlace key (drop (prefix_len (is_before key) cells) cells)
is_place key [] = tt
is_place key (c ∷ cs) = place_by key c cs (is_before key c) refl (is_place key cs)
