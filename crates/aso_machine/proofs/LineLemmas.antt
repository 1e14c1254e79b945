-- What lines of queries say: their longest UTF-8 front, and where they are at fault.
use Rattle.std.proofs.Common.{◌≡◌, ◌⊎◌, inl, inr, ℕ, ◌≤◌, ◌<◌, true, false, List, length, take, refl, sym, subst, ◌∙◌, ap, arith, ⊎_elim}
use Rattle.std.specs.Str.{IsUtf8, IsValidUpTo, is_utf8}
use Rattle.std.proofs.lemmas.Bool.{cases_lt, false_from_ne_true, true≢false}
use Rattle.std.proofs.lemmas.List.{take_all}
use Rattle.std.proofs.lemmas.Str.{IsUtf8-from_is_utf8, is_utf8-from_IsUtf8}
use Rattle.aso_script.specs.Script.{Addition, Spells}
use Rattle.aso_mdx.specs.declared.query.Query.{Query}
use Rattle.aso_mdx.specs.Grammar.{IsQueryFault, SpellsQuery}
use Rattle.aso_machine.specs.Lines.{Faulty, IsLongestFront, IsQueryLine, IsRead, StopsAt, is_ended, is_of_query, query_text}

-- ---- the longest front

pub front_of_whole : (text : List ℕ) (n : ℕ) → n ≡ length text → IsUtf8 text → IsLongestFront text n
front_of_whole text n is utf8 = record {
  within = omega arith;
  utf8 = is_utf8-from_IsUtf8 (take n text) (subst IsUtf8 (sym (take_all n text (omega arith))) utf8);
  longest = λ m more within. absurd (omega arith);
}

pub front_up_to : (text : List ℕ) (n : ℕ) → IsValidUpTo text n → IsLongestFront text n
front_up_to text n valid = record {
  within = omega arith;
  utf8 = is_utf8-from_IsUtf8 (take n text) valid.front;
  longest = λ m more within. false_from_ne_true _ (λ is. valid.longest m more (IsUtf8-from_is_utf8 (take m text) is));
}

-- where the whole text is UTF-8, it is its longest front
front_is_whole : (text : List ℕ) (n : ℕ) → IsLongestFront text n → is_utf8 text ≡ true → n ≡ length text
front_is_whole text n front utf8 = ⊎_elim
    (λ (less : n < length text). absurd (true≢false (sym utf8 ∙ (ap is_utf8 (sym (take_all (length text) text (omega arith))) ∙ front.longest (length text) less (omega arith)))))
    (λ (more : length text ≤ n). omega (arith, front.within))
    (cases_lt n (length text))

-- ---- lines

-- an addition begins with another word than a query
pub adds_no_query : (line : List ℕ) (a : Addition) → Spells line a → is_of_query line ≡ false
adds_no_query line a spells = ap is_of_query spells.spelled ∙ refl

module _ (line text front : List ℕ) (of : is_of_query line ≡ true) (is_text : text ≡ query_text line) (is_front : front ≡ take (length front) text)
    (longest : IsLongestFront text (length front)) where
  no_addition : (a : Addition) → Spells line a → ⊥
  no_addition a spells = true≢false (sym of ∙ adds_no_query line a spells)

  -- where the line is a query's, its front is its whole text
  whole_front : (q : Query) → IsQueryLine line q → (length front ≡ length text) × (front ≡ query_text line)
  whole_front q read =
      let long = front_is_whole text (length front) longest (ap is_utf8 is_text ∙ read.utf8) in
      (long, is_front ∙ (take_all (length front) text (omega arith) ∙ is_text))

  stops : (at : ℕ) → IsQueryFault front at ⊎ ((q : Query) × SpellsQuery front q × (at ≡ length front)) → StopsAt (query_text line) at
  stops at here = subst (λ (t : List ℕ). StopsAt t at) is_text (record {
    n = length front;
    front = longest;
    here = subst (λ (f : List ℕ). IsQueryFault f at ⊎ ((q : Query) × SpellsQuery f q × (at ≡ length front))) is_front here;
  })

  -- the front is a query, and the line isn't its whole line
  pub faulty_behind : (q : Query) → SpellsQuery front q → (is_ended line ≡ true → length front ≡ length text → ⊥) → IsRead line (Faulty (length front))
  faulty_behind q spells short = (no_addition, ((λ r read. short read.ended (whole_front r read).0), inl (of, stops (length front) (inr (q, spells, refl)))))

  -- the front is at fault
  pub faulty_within : (at : ℕ) → IsQueryFault front at → ((q : Query) → SpellsQuery front q → ⊥) → IsRead line (Faulty at)
  faulty_within at fault none =
      (no_addition, ((λ r read. none r (subst (λ (t : List ℕ). SpellsQuery t r) (sym (whole_front r read).1) read.spelled)), inl (of, stops at (inl fault))))
