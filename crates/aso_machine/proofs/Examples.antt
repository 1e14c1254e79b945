-- The definitions, computed on a few lines and on one store.
use Rattle.std.proofs.Common.{◌≡◌, ℕ, ◌+◌, ◌-◌, ◌^◌, true, false, List, [], ◌∷◌, refl, codes, pos, Some, None}
use Rattle.std.specs.Prelude.{negsuc}
use Rattle.std.specs.Fmt.{digits}
use Rattle.aso_outline.specs.declared.draft.Draft.{Draft}
use Rattle.aso_outline.specs.Members.{leaf_names, seats}
use Rattle.aso_outline.specs.Ranks.{named}
use Rattle.aso_spec.specs.Cells.{Cells}
use Rattle.aso_spec.specs.Drafts.{Member, draft_of}
use Rattle.aso_spec.specs.Named.{key_named, ordinals_named}
use Rattle.aso_script.specs.Script.{Addition}
use Rattle.aso_machine.specs.Lines.{end_len, is_of_query, query_text}
use Rattle.aso_machine.specs.Machine.{Changes, Refuses, added, ok_line, other_database}
use Rattle.aso_machine.specs.State.{State, committed, new_store}

-- ---- lines of queries

in_capitals : is_of_query (codes "SELECT {") ≡ true
in_capitals = refl

with_members : is_of_query (codes "With member") ≡ true
with_members = refl

too_short : is_of_query (codes "selec") ≡ false
too_short = refl

behind_a_space : is_of_query (codes " select") ≡ false
behind_a_space = refl

whole : query_text (codes "select;\n") ≡ codes "select"
whole = refl

without_semicolon : query_text (codes "select\n") ≡ codes "select"
without_semicolon = refl

without_line_feed : query_text (codes "select;") ≡ codes "select;"
without_line_feed = refl

open_name : query_text (codes "select {[Jan") ≡ codes "select {[Jan"
open_name = refl

space_between : end_len (codes "select; \n") ≡ 1
space_between = refl

alone : end_len (codes ";\n") ≡ 2
alone = refl

-- ---- a store

abbrev member : ℕ → List ℕ → Member
member depth name = record { depth = depth; name = name }

abbrev outline : Draft
outline = draft_of (member 0 (codes "Year") ∷ member 1 (codes "Jan") ∷ member 1 (codes "Feb") ∷ member 0 (codes "Market") ∷ member 1 (codes "NY") ∷ member 1 (codes "CA") ∷ [])

abbrev first : State
first = new_store [] outline

abbrev addition : List (List ℕ) → List ℕ → Addition
addition names amount = record { app = codes "Sample"; db = codes "Basic"; names = names; amount = amount }

abbrev add : List ℕ → List ℕ → List ℕ → Addition
add a b amount = addition (a ∷ b ∷ []) amount

one : added first (add (codes "Jan") (codes "NY") (codes "10.5")) ≡ Changes ((0 ∷ 0 ∷ [], pos 105000) ∷ [])
unfolding draft_of seats named ordinals_named key_named
one = refl

abbrev after_one : State
after_one = committed first ((0 ∷ 0 ∷ [], pos 105000) ∷ [])

two : added after_one (add (codes "NY") (codes "Jan") (codes "10.5")) ≡ Changes ((0 ∷ 0 ∷ [], pos 210000) ∷ [])
unfolding draft_of seats named ordinals_named key_named
two = refl

another : added after_one (add (codes "CA") (codes "Jan") (codes "-1")) ≡ Changes ((0 ∷ 0 ∷ [], pos 105000) ∷ (0 ∷ 1 ∷ [], negsuc 9999) ∷ [])
unfolding draft_of seats named ordinals_named key_named
another = refl

two_reply : ok_line 2 (after_one.commit + 1) ≡ codes "OK 2 commit 2\n"
unfolding digits
two_reply = refl

-- ---- refusals

of_another_database : added first (record { app = codes "Other"; db = codes "Basic"; names = codes "Paris" ∷ []; amount = codes "1" }) ≡ Refuses (codes "202 database: Other.Basic")
unfolding draft_of
of_another_database = refl

of_its_own : other_database outline (codes "Sample") (codes "Basic") ≡ None
unfolding draft_of
of_its_own = refl

in_other_letters : other_database outline (codes "sample") (codes "Basic") ≡ Some (codes "202 database: sample.Basic")
unfolding draft_of
in_other_letters = refl

unknown : added first (addition (codes "NY" ∷ codes "NY" ∷ codes "Paris" ∷ codes "Rome" ∷ []) (codes "1")) ≡ Refuses (codes "203 unknown member: Paris")
unfolding draft_of seats named
unknown = refl

parent : added first (add (codes "Jan") (codes "Market") (codes "1")) ≡ Refuses (codes "216 wrong dimension: Market")
unfolding draft_of seats named ordinals_named
parent = refl

lacking_one : added first (addition (codes "NY" ∷ []) (codes "1")) ≡ Refuses (codes "216 wrong dimension: Year")
unfolding draft_of seats named ordinals_named
lacking_one = refl

abbrev greatest : Cells
greatest = (0 ∷ 0 ∷ [], pos 999999999999999999) ∷ []

too_great : added (committed first greatest) (add (codes "Jan") (codes "NY") (codes "0.0001")) ≡ Refuses (codes "210 amount range: Jan, NY, 100000000000000.0000")
unfolding draft_of seats named ordinals_named key_named leaf_names digits
too_great = refl

-- at the last layout that comes first
at_the_end : added (record { text = []; outline = outline; cells = greatest; commit = 1; layout = 2 ^ 64 - 1 }) (add (codes "Jan") (codes "NY") (codes "0.0001")) ≡ Refuses (codes "215 sequence end")
unfolding draft_of seats named ordinals_named key_named
at_the_end = refl
