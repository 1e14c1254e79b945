-- A text that says something has no line at fault, and any other text has one.
use Rattle.std.proofs.Common.{◌≡◌, ◌∙◌, inl, inr, ℕ, List, [], ◌∷◌, ◌++◌, length, sym, ap, subst, append-nil}
use Rattle.aso_sheettext.specs.Lines.{Line, lines_of}
use Rattle.aso_sheettext.specs.Faults.{Begins, Ends, IsFaultAt, bytes_of, start_of}
use Rattle.aso_laws.proofs.Cuts.{Cuts, GoesOn, cuts, up_to}

module _ {A : Type 0} (P : List (List ℕ) → A → Type 0) (text : List ℕ) where
  passed : (front rest later : List Line) → GoesOn front rest later → Begins P (bytes_of later) → Ends P front rest → ⊥
  passed front rest later g before here =
      subst (Ends P front) g.begins here (up_to (λ (l : Line). l.bytes) P front g.more g.next (subst (λ (ls : List Line). Begins P (bytes_of ls)) g.is before))

  pub one_line : (at other : ℕ) → IsFaultAt P text at → IsFaultAt P text other → at ≡ other
  one_line at other a b = by_cuts (cuts a.front a.rest b.front b.rest (sym a.cut ∙ b.cut))
    where
      by_cuts : Cuts a.front a.rest b.front b.rest → at ≡ other
      by_cuts (inl (fronts, rests)) = a.place ∙ ap (λ (ls : List Line). start_of ls (length text)) rests ∙ sym b.place
      by_cuts (inr (inl g)) = absurd (passed a.front a.rest b.front g b.before a.here)
      by_cuts (inr (inr g)) = absurd (passed b.front b.rest a.front g a.before b.here)

  pub no_line : (a : A) (at : ℕ) → P (bytes_of (lines_of text)) a → IsFaultAt P text at → ⊥
  no_line a at said fault = by_rest fault.rest fault.cut fault.here
    where
      by_rest : (rest : List Line) → lines_of text ≡ fault.front ++ rest → Ends P fault.front rest → ⊥
      by_rest [] parts here = here a (subst (λ (ls : List Line). P (bytes_of ls) a) (parts ∙ append-nil fault.front) said)
      by_rest (l ∷ ls) parts here =
          here (up_to (λ (k : Line). k.bytes) P fault.front ls l
          ([], a, subst (λ (bs : List (List ℕ)). P bs a) (ap bytes_of parts ∙ sym (append-nil (bytes_of (fault.front ++ l ∷ ls)))) said))
