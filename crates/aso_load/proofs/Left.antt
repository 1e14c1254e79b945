-- The records that are left of a text, one after the other.
use Rattle.std.proofs.Common.{◌++◌, if◌then◌else◌, ◌≡◌, ◌⊎◌, ◌∙◌, ◌+◌, ◌<◌, ◌≤◌, ℕ, zero, suc, List, [], ◌∷◌, length, Some, None, Option, Bool, true, false, inl, inr, refl, sym, ap, subst, ⊎_elim, arith, add-one}
use Rattle.csv.specs.Machine.{Read, next_record, ends_at_end, is_end, step, fields_after, field_after}
use Rattle.csv.specs.Reading.{Reached, ReadRecord, records_from, records_next}
use Rattle.csv.specs.declared.reader.Reader.{Reader}
use Rattle.csv.proofs.ReadFacts.{rows-end, rows-more}
use Rattle.std.specs.Borrow.{Bor}
use Rattle.std.specs.Prelude.{unwrap_or}
use Rattle.csv.specs.declared.parser.Config.{Config}
use Rattle.csv.specs.declared.parser.State.{State}
use Rattle.csv.specs.declared.parser.State.TheVariants as st
use Rattle.aso_load.specs.Csv.{IsReading, left_of, records_left, text_left}

some_is : {A : Type 0} → (a b : A) → Some a ≡ Some b → a ≡ b
some_is a b e = cc

none_some : {A : Type 0} → (a : A) → None ≡ Some a → ⊥
none_some a e = cc

-- a record takes a byte, or the text is at its end
abbrev Takes : List ℕ → Read → Type 0
Takes xs r = (suc (length r.2) ≤ length xs) ⊎ ((r.1 ≡ st.StartRecord) × (r.2 ≡ []))

at_end : (b : Bool) (a r : Read) → a.1 ≡ st.StartRecord → a.2 ≡ [] → (if b then Some a else None) ≡ Some r → (r.1 ≡ st.StartRecord) × (r.2 ≡ [])
at_end true a r s e is = let same = some_is a r is in (sym (ap (λ (x : Read). x.1) same) ∙ s, sym (ap (λ (x : Read). x.2) same) ∙ e)
at_end false a r s e is = absurd (none_some r is)

one_byte : (b : Bool) (a r : Read) (o : Option Read) (c : ℕ) (xs : List ℕ) → a.2 ≡ xs → (o ≡ Some r → Takes xs r) → (if b then Some a else o) ≡ Some r → Takes (c ∷ xs) r
one_byte true a r o c xs e more is =
    let rest : r.2 ≡ xs = sym (ap (λ (x : Read). x.2) (some_is a r is)) ∙ e in
    inl (subst (λ (l : List ℕ). suc (length l) ≤ suc (length xs)) (sym rest) (omega arith))
one_byte false a r o c xs e more is = ⊎_elim (λ (h : suc (length r.2) ≤ length xs). inl (omega (arith, h))) (λ (h : (r.1 ≡ st.StartRecord) × (r.2 ≡ [])). inr h) (more is)

takes : (cfg : Config) (s : State) (fs : List (List ℕ)) (f xs : List ℕ) (r : Read) → next_record cfg s fs f xs ≡ Some r → Takes xs r
unfolding next_record
takes cfg s fs f [] r is = inr (at_end (ends_at_end s) (fs ++ f ∷ [], st.StartRecord, []) r refl refl is)
takes cfg s fs f (c ∷ xs) r is =
    one_byte (is_end (step cfg s c).1) (fields_after (step cfg s c).1 fs f, (step cfg s c).0, xs) r
    (next_record cfg (step cfg s c).0 (fields_after (step cfg s c).1 fs f) (field_after (step cfg s c).1 c f) xs) c xs refl
    (takes cfg (step cfg s c).0 (fields_after (step cfg s c).1 fs f) (field_after (step cfg s c).1 c f) xs r) is

-- no record is left of no text
none_left : (cfg : Config) (n : ℕ) → records_from cfg n st.StartRecord [] ≡ []
unfolding records_from next_record
none_left cfg zero = refl
none_left cfg (suc n) = refl

agree : (f g : State → List ℕ → List (List (List ℕ))) (o : Option Read) → ((p : Read) → o ≡ Some p → f p.1 p.2 ≡ g p.1 p.2) → records_next f o ≡ records_next g o
agree f g None same = refl
agree f g (Some p) same = ap (λ l. p.0 ∷ l) (same p refl)

-- a count past the text's length is enough
enough : (cfg : Config) (n m : ℕ) (s : State) (xs : List ℕ) → length xs < n → length xs < m → records_from cfg n s xs ≡ records_from cfg m s xs
unfolding records_from
enough cfg zero m s xs few also = absurd (omega (arith, few))
enough cfg (suc n) zero s xs few also = absurd (omega (arith, also))
enough cfg (suc n) (suc m) s xs few also =
    agree (records_from cfg n) (records_from cfg m) (next_record cfg s [] [] xs) (λ p is.
    ⊎_elim
    (λ (t : suc (length p.2) ≤ length xs). enough cfg n m p.1 p.2 (omega (arith, t, few)) (omega (arith, t, also)))
    (λ (t : (p.1 ≡ st.StartRecord) × (p.2 ≡ [])).
    subst (λ (q : State × List ℕ). records_from cfg n q.0 q.1 ≡ records_from cfg m q.0 q.1) (λ i. (sym t.0 i, sym t.1 i))
    (none_left cfg n ∙ sym (none_left cfg m)))
    (takes cfg s [] [] xs p is))

pub one_record : (cfg : Config) (s : State) (xs : List ℕ) (p : Read) → next_record cfg s [] [] xs ≡ Some p → records_left cfg s xs ≡ p.0 ∷ records_left cfg p.1 p.2
unfolding records_from
one_record cfg s xs p is =
    let first : records_from cfg (suc (length xs)) s xs ≡ p.0 ∷ records_from cfg (length xs) p.1 p.2 = ap (records_next (records_from cfg (length xs))) is in
    let rest : records_from cfg (length xs) p.1 p.2 ≡ records_from cfg (suc (length p.2)) p.1 p.2 =
    ⊎_elim
    (λ (t : suc (length p.2) ≤ length xs). enough cfg (length xs) (suc (length p.2)) p.1 p.2 (omega (arith, t)) (omega arith))
    (λ (t : (p.1 ≡ st.StartRecord) × (p.2 ≡ [])).
    subst (λ (q : State × List ℕ). records_from cfg (length xs) q.0 q.1 ≡ records_from cfg (suc (length q.1)) q.0 q.1) (λ i. (sym t.0 i, sym t.1 i))
    (none_left cfg (length xs) ∙ sym (none_left cfg 1)))
    (takes cfg s [] [] xs p is) in
    rw (add-one, add-one) (first ∙ ap (λ l. p.0 ∷ l) rest)

pub no_record : (cfg : Config) (s : State) (xs : List ℕ) → next_record cfg s [] [] xs ≡ None → records_left cfg s xs ≡ []
unfolding records_from
no_record cfg s xs is = rw add-one (ap (records_next (records_from cfg (length xs))) is)

-- a read gives the first of the records that are left
abbrev bytes_left : Bor (List ℕ) → Option (List ℕ)
bytes_left s = Some s.now

first_reached : (cfg : Config) (s t : State) (xs ys : List ℕ) (f : List (List ℕ)) → Reached cfg s xs (f ∷ []) t ys → records_left cfg s xs ≡ f ∷ records_left cfg t ys
unfolding Reached
first_reached cfg s t xs ys f h =
    let p = h.0 in
    one_record cfg s xs p h.1
    ∙ (ap (λ (x : List (List ℕ)). x ∷ records_left cfg p.1 p.2) (sym h.2)
    ∙ ap (λ (q : State × List ℕ). f ∷ records_left cfg q.0 q.1) (λ i. (h.3.0 i, h.3.1 i)))

none_reached : (cfg : Config) (s : State) (xs : List ℕ) → Reached cfg s xs [] s xs
unfolding Reached
none_reached cfg s xs = (refl, refl)

pub next_is : (a b : Reader (Bor (List ℕ))) (f : List (List ℕ)) → IsReading a → ReadRecord bytes_left a b true f → left_of a ≡ f ∷ left_of b
next_is a b f reading r =
    let m = rows-more bytes_left a b f a.config a.state (text_left a) (text_left a) [] refl reading.2 (none_reached a.config a.state (text_left a)) r in
    first_reached a.config a.state b.state (text_left a) m.0 f m.2
    ∙ (ap (λ (ys : List ℕ). f ∷ records_left a.config b.state ys) (sym (ap (λ (o : Option (List ℕ)). unwrap_or o []) m.1))
    ∙ ap (λ (cfg : Config). f ∷ records_left cfg b.state (text_left b)) (sym r.2))

pub none_is : (a b : Reader (Bor (List ℕ))) (f : List (List ℕ)) → IsReading a → ReadRecord bytes_left a b false f → left_of a ≡ []
none_is a b f reading r = no_record a.config a.state (text_left a) (rows-end bytes_left a b f a.config (text_left a) refl reading.2 r)
