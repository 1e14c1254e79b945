-- Readers of a whole text.
use Rattle.std.proofs.Common.{◌≡◌, Bool, List, [], ◌∷◌, ◌++◌, Result, Ok, Err, ◌⊎◌, inl, inr, refl, sym, ◌∙◌, ap, subst, append_assoc, append-nil, ⊎_elim}
use Rattle.aso_token.specs.declared.token.Token.{Token}
use Rattle.aso_token.specs.Lang.{Lang, Ends, IsFault}
use Rattle.aso_token.specs.Reads.{Read, finished}
use Rattle.aso_token.proofs.Laws.{Law, bad, good, ok_err, ok_is}

abbrev pub done : {A : Type 0} → A → Result A (List Token)
done a = Ok a

abbrev pub lost : {A : Type 0} → List Token → Result A (List Token)
lost rest = Err rest

done_lost : {A C : Type 0} (a : A) (rest : List Token) → done a ≡ lost rest → C
done_lost a rest e = absurd (let h : ⊥ = cc in h)

done_is : {A : Type 0} (a b : A) → done a ≡ done b → a ≡ b
done_is a b e = cc

lost_is : {A : Type 0} (a b : List Token) → lost {A = A} a ≡ lost b → a ≡ b
lost_is a b e = cc

end_ok : {A : Type 0} (z : Read A) (a : A) → finished z ≡ Ok a → z ≡ Ok (a, [])
end_ok (Ok (x, [])) a e = ap (λ z. good (z, [])) (done_is x a e)
end_ok (Ok (x, t ∷ ts)) a e = done_lost a (t ∷ ts) (sym e)
end_ok (Err w) a e = done_lost a w (sym e)

end_err : {A : Type 0} (z : Read A) (rest : List Token) → finished z ≡ Err rest → (z ≡ Err rest) ⊎ ((a : A) × (z ≡ Ok (a, rest)))
end_err (Ok (x, [])) rest e = done_lost x rest e
end_err {A} (Ok (x, t ∷ ts)) rest e = inr (x, ap (λ z. good (x, z)) (lost_is {A = A} (t ∷ ts) rest e))
end_err {A} (Err w) rest e = inl (ap (bad {A = A}) (lost_is {A = A} w rest e))

ok_same : {A C : Type 0} (a b : A) (t : Token) (ts : List Token) → good (a, []) ≡ good (b, t ∷ ts) → C
ok_same {A} a b t ts e = let k : [] ≡ t ∷ ts = ap (λ (z : A × List Token). z.1) (ok_is (a, []) (b, t ∷ ts) e) in absurd (let h : ⊥ = cc in h)

module _ {A : Type 0} (P : Lang A) (goes : Token → Bool) (r : List Token → Read A) (p : Law P goes r) where
  pub text_found : (ts : List Token) (a : A) → finished (r ts) ≡ Ok a → P ts a
  text_found ts a e =
      let f = p.found ts (a, []) (end_ok (r ts) a e) in
      let F : List Token → Type 0 = λ z. P z a in
      subst F (sym (f.1 ∙ append-nil f.0)) f.2

  taken_whole : (ts : List Token) (a : A) → P ts a → r ts ≡ Ok (a, [])
  taken_whole ts a h = ap r (sym (append-nil ts)) ∙ p.whole ts a [] h refl

  pub text_only : (ts : List Token) (a : A) → P ts a → finished (r ts) ≡ Ok a
  text_only ts a h = ap finished (taken_whole ts a h)

  pub text_one : (ts : List Token) (a b : A) → P ts a → P ts b → a ≡ b
  text_one ts a b h k = done_is a b (sym (text_only ts a h) ∙ text_only ts b k)

  fault_here : (ts front rest : List Token) → ts ≡ front ++ rest → finished (r ts) ≡ Err rest → Ends P front rest
  fault_here ts front [] cut e = λ a h. done_lost a [] (sym (text_only ts a (let F : List Token → Type 0 = λ z. P z a in subst F (sym (cut ∙ append-nil front)) h)) ∙ e)
  fault_here ts front (t ∷ rest) cut e = λ h.
      let more : List Token = h.0 in
      let a : A = h.1 in
      let is : r (front ++ t ∷ more) ≡ Ok (a, []) = ap r (sym (append_assoc front (t ∷ []) more)) ∙ taken_whole ((front ++ t ∷ []) ++ more) a h.2 in
      ⊎_elim
      (λ (k : r ts ≡ Err (t ∷ rest)). ok_err (a, []) (t ∷ more) (sym is ∙ p.near_err front t rest more (ap r (sym cut) ∙ k)))
      (λ (k : (b : A) × (r ts ≡ Ok (b, t ∷ rest))). ok_same a k.0 t more (sym is ∙ p.near_ok front [] t rest more k.0 (ap r (sym cut) ∙ k.1)))
      (end_err (r ts) (t ∷ rest) e)

  pub text_fault : (ts rest : List Token) → finished (r ts) ≡ Err rest → IsFault P ts rest
  text_fault ts rest e =
      ⊎_elim
      (λ (h : r ts ≡ Err rest). let f = p.stops ts rest h in record { front = f.0; cut = f.1; before = f.2; here = fault_here ts f.0 rest f.1 e })
      (λ (h : (a : A) × (r ts ≡ Ok (a, rest))). let f = p.found ts (h.0, rest) h.1 in
      let F : List Token → Type 0 = λ z. P z h.0 in
      record { front = f.0; cut = f.1; before = ([], h.0, subst F (sym (append-nil f.0)) f.2); here = fault_here ts f.0 rest f.1 e })
      (end_err (r ts) rest e)
