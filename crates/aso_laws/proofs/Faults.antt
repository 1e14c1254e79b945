-- A text of a grammar has no fault, and any other text has one place of a fault.
use Rattle.std.proofs.Common.{◌≡◌, ◌∙◌, inl, inr, ℕ, Bool, List, [], ◌∷◌, ◌++◌, sym, ap, subst, append-nil}
use Rattle.aso_token.specs.declared.token.Token.{Token}
use Rattle.aso_token.specs.declared.token.Placed.{Placed}
use Rattle.aso_token.specs.Cutting.{cut}
use Rattle.aso_token.specs.Lang.{Lang, Begins}
use Rattle.aso_token.specs.Reads.{tokens_of}
use Rattle.aso_token.specs.Texts.{IsFaultAt, Spells, Stuck, start_of}
use Rattle.aso_laws.proofs.Cuts.{Cuts, GoesOn, cuts, up_to}

module _ {A : Type 0} (comments : Bool) (P : Lang A) (text : List ℕ) where
  passed : (front rest later : List Placed) → GoesOn front rest later → Begins P (tokens_of later) → Stuck P (cut comments text) front rest → ⊥
  passed front rest later g before here =
      subst (Stuck P (cut comments text) front) g.begins here
      (up_to (λ (p : Placed). p.token) P front g.more g.next (subst (λ (ps : List Placed). Begins P (tokens_of ps)) g.is before))

  pub one_place : (at other : ℕ) → IsFaultAt comments P text at → IsFaultAt comments P text other → at ≡ other
  one_place at other a b = by_cuts (cuts a.front a.rest b.front b.rest (sym a.parts ∙ b.parts))
    where
      by_cuts : Cuts a.front a.rest b.front b.rest → at ≡ other
      by_cuts (inl (fronts, rests)) = a.place ∙ ap (λ (ps : List Placed). start_of ps (cut comments text).stop) rests ∙ sym b.place
      by_cuts (inr (inl g)) = absurd (passed a.front a.rest b.front g b.before a.here)
      by_cuts (inr (inr g)) = absurd (passed b.front b.rest a.front g a.before b.here)

  pub no_fault : (a : A) (at : ℕ) → Spells comments P text a → IsFaultAt comments P text at → ⊥
  no_fault a at (whole, spelled) fault = by_rest fault.rest fault.parts fault.here
    where
      by_rest : (rest : List Placed) → (cut comments text).placed ≡ fault.front ++ rest → Stuck P (cut comments text) fault.front rest → ⊥
      by_rest [] parts here = here whole a (subst (λ (ps : List Placed). P (tokens_of ps) a) (parts ∙ append-nil fault.front) spelled)
      by_rest (p ∷ ps) parts here =
          here (up_to (λ (q : Placed). q.token) P fault.front ps p
          ([], a, subst (λ (ts : List Token). P ts a) (ap tokens_of parts ∙ sym (append-nil (tokens_of (fault.front ++ p ∷ ps)))) spelled))
