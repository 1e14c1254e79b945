-- A line says one thing, and on a state it comes to one thing.
use Rattle.std.proofs.Common.{◌≡◌, ◌∙◌, ◌⊎◌, inl, inr, ℕ, ◌<◌, ◌≤◌, true, true≢false, List, take, sym, ap, subst, arith, ⊎_elim}
use Rattle.std.proofs.lemmas.Bool.{cases_lt}
use Rattle.aso_mdx.specs.declared.query.Query.{Query}
use Rattle.aso_mdx.specs.Grammar.{IsQueryFault, QueryTokens, SpellsQuery}
use Rattle.aso_mdx.proofs.Answered.{one_query}
use Rattle.aso_script.specs.Script.{Addition, Line, Spells}
use Rattle.aso_script.proofs.Exact.{spells_one}
use Rattle.aso_query.specs.Texts.{refusal_text}
use Rattle.aso_machine.specs.State.{State}
use Rattle.aso_machine.specs.Lines.{Reading, Adds, Asks, Faulty, IsFaultyAt, IsLongestFront, IsQueryLine, IsRead, StopsAt, query_text}
use Rattle.aso_machine.specs.Machine.{Said, Refuses, Shows, Changes, Comes, IsAnswer, Says, other_database, values_of}
use Rattle.aso_machine.proofs.LineLemmas.{adds_no_query}
use Rattle.aso_laws.proofs.Faults.{no_fault, one_place}
use Rattle.aso_laws.proofs.Owns.{same_some, some_none}
use Rattle.aso_laws.proofs.Queries.{no_grid_refused, one_grid, one_refusal}

-- ---- where a text stops being that of a query

fronts_once : (text : List ℕ) (n m : ℕ) → IsLongestFront text n → IsLongestFront text m → n ≡ m
fronts_once text n m a b = ⊎_elim (λ (less : n < m). absurd (true≢false (sym b.utf8 ∙ a.longest m less b.within))) (λ (most : m ≤ n). by_other most (cases_lt m n)) (cases_lt n m)
  where
    by_other : m ≤ n → (m < n) ⊎ (n ≤ m) → n ≡ m
    by_other most (inl less) = absurd (true≢false (sym a.utf8 ∙ b.longest n less a.within))
    by_other most (inr least) = omega (arith, most, least)

-- what StopsAt says of its front
abbrev IsHere : List ℕ → ℕ → ℕ → Type 0
IsHere text n at = IsQueryFault (take n text) at ⊎ ((q : Query) × SpellsQuery (take n text) q × (at ≡ n))

here_once : (text : List ℕ) (n at other : ℕ) → IsHere text n at → IsHere text n other → at ≡ other
here_once text n at other (inl x) (inl y) = one_place true QueryTokens (take n text) at other x y
here_once text n at other (inl x) (inr (q, spelled, is)) = absurd (no_fault true QueryTokens (take n text) q at spelled x)
here_once text n at other (inr (q, spelled, is)) (inl y) = absurd (no_fault true QueryTokens (take n text) q other spelled y)
here_once text n at other (inr (q, spelled, is)) (inr (r, spelled_too, is_too)) = is ∙ sym is_too

stops_once : (text : List ℕ) (at other : ℕ) → StopsAt text at → StopsAt text other → at ≡ other
stops_once text at other a b = here_once text a.n at other a.here (subst (λ (n : ℕ). IsHere text n other) (sym (fronts_once text a.n b.n a.front b.front)) b.here)

-- ---- lines

faulty_once : (line : List ℕ) (at other : ℕ) → IsFaultyAt line at → IsFaultyAt line other → at ≡ other
faulty_once line at other (inl (of, a)) (inl (of_too, b)) = stops_once (query_text line) at other a b
faulty_once line at other (inl (of, a)) (inr (none, b)) = absurd (true≢false (sym of ∙ none))
faulty_once line at other (inr (none, a)) (inl (of, b)) = absurd (true≢false (sym of ∙ none))
faulty_once line at other (inr (none, a)) (inr (none_too, b)) = a ∙ sym b

no_query_added : (line : List ℕ) (a : Addition) (q : Query) → Spells line a → IsQueryLine line q → ⊥
no_query_added line a q spells read = true≢false (sym read.of ∙ adds_no_query line a spells)

pub one_reading : (line : List ℕ) (r s : Reading) → IsRead line r → IsRead line s → r ≡ s
one_reading line (Adds a) (Adds b) x y = ap Adds (spells_one line a b x y)
one_reading line (Adds a) (Asks q) x y = absurd (no_query_added line a q x y)
one_reading line (Adds a) (Faulty at) x (no_addition, (no_query, at_byte)) = absurd (no_addition a x)
one_reading line (Asks q) (Adds a) x y = absurd (no_query_added line a q y x)
one_reading line (Asks q) (Asks r) x y = ap Asks (one_query (query_text line) q r x.spelled y.spelled)
one_reading line (Asks q) (Faulty at) x (no_addition, (no_query, at_byte)) = absurd (no_query q x)
one_reading line (Faulty at) (Adds a) (no_addition, (no_query, at_byte)) y = absurd (no_addition a y)
one_reading line (Faulty at) (Asks q) (no_addition, (no_query, at_byte)) y = absurd (no_query q y)
one_reading line (Faulty at) (Faulty other) (no_addition, (no_query, at_byte)) (none, (none_too, at_other)) = ap Faulty (faulty_once line at other at_byte at_other)

-- ---- what a line comes to

module _ (s : State) (q : Query) where
  refused_once : (text more : List ℕ) → IsAnswer s q (Refuses text) → IsAnswer s q (Refuses more) → text ≡ more
  refused_once text more (inl a) (inl b) = same_some text more (sym a ∙ b)
  refused_once text more (inl a) (inr (same, (r, refused, is))) = some_none text (other_database s.outline q.app q.db) a same
  refused_once text more (inr (same, (r, refused, is))) (inl b) = some_none more (other_database s.outline q.app q.db) b same
  refused_once text more (inr (same, (r, refused, is))) (inr (same_too, (r_too, refused_too, is_too))) =
      is ∙ (ap refusal_text (one_refusal s.outline q (values_of s) r r_too refused refused_too) ∙ sym is_too)

  no_grid : (text : List ℕ) (rows columns : ℕ) (grid : List ℕ) → IsAnswer s q (Refuses text) → IsAnswer s q (Shows rows columns grid) → ⊥
  no_grid text rows columns grid (inl a) (same, b) = some_none text (other_database s.outline q.app q.db) a same
  no_grid text rows columns grid (inr (same, (r, refused, is))) (same_too, b) = no_grid_refused s.outline q (values_of s) r rows columns grid refused b

  shown_once : (rows columns height width : ℕ) (grid more : List ℕ) → (rows ≡ height) × (columns ≡ width) × (grid ≡ more) → Shows rows columns grid ≡ Shows height width more
  shown_once rows columns height width grid more (high, wide, lines) =
      ap (λ (n : ℕ). Shows n columns grid) high ∙ (ap (λ (n : ℕ). Shows height n grid) wide ∙ ap (Shows height width) lines)

  one_answer : (a b : Said) → IsAnswer s q a → IsAnswer s q b → a ≡ b
  one_answer (Refuses text) (Refuses more) x y = ap Refuses (refused_once text more x y)
  one_answer (Refuses text) (Shows rows columns grid) x y = absurd (no_grid text rows columns grid x y)
  one_answer (Refuses text) (Changes cells) x y = absurd y
  one_answer (Shows rows columns grid) (Refuses text) x y = absurd (no_grid text rows columns grid y x)
  one_answer (Shows rows columns grid) (Shows height width more) (same, x) (same_too, y) =
      shown_once rows columns height width grid more (one_grid s.outline q (values_of s) rows columns height width grid more x y)
  one_answer (Shows rows columns grid) (Changes cells) x y = absurd y
  one_answer (Changes cells) b x y = absurd x

said_once : (s : State) (at : ℕ) (r : Reading) (a b : Said) → Says s at r a → Says s at r b → a ≡ b
said_once s at (Adds addition) a b x y = x ∙ sym y
said_once s at (Asks q) a b x y = one_answer s q a b x y
said_once s at (Faulty byte) a b x y = x ∙ sym y

pub one_outcome : (s : State) (line : Line) (a b : Said) → Comes s line a → Comes s line b → a ≡ b
one_outcome s line a b x y =
    let same : x.reading ≡ y.reading = one_reading line.bytes x.reading y.reading x.reads y.reads in
    said_once s line.at x.reading a b x.says (subst (λ (r : Reading). Says s line.at r b) (sym same) y.says)
