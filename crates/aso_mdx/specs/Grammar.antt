-- The grammar of queries.
use Rattle.std.specs.Prelude.{ℕ, zero, suc, Bool, true, false, not, ◌||◌, ◌&&◌, List, [], ◌∷◌, length, map, take, drop, ◌+◌, Option, Some, None, codes, if◌then◌else◌, unwrap_or, ◌==◌}
use Rattle.std.specs.List.{prefix_len}
use Rattle.aso_token.specs.declared.token.Token.{Token}
use Rattle.aso_token.specs.declared.token.Token.TheVariants.{Word as AWordToken, Quoted as AQuotedToken, Name as ANameToken}
use Rattle.aso_token.specs.Lang.{Lang, One, Then, Or, Makes, Empty, Maybe, UpTo, Many, Chain, ◌▷◌, ◌◁◌}
use Rattle.aso_token.specs.Marks.{comma, open_mark, close_mark, name}
use Rattle.aso_token.specs.Words.{is_word, key, known, part, whole, dot, open_set, close_set, equals}
use Rattle.aso_token.specs.Texts.{Spells, IsFaultAt}
use Rattle.aso_mdx.specs.declared.query.SetText.{SetText}
use Rattle.aso_mdx.specs.declared.query.SetText.TheVariants.{Braced, Member, Tuple, Children, Members, Descendants, Leaves, Crossjoin}
use Rattle.aso_mdx.specs.declared.query.Own.{Own}
use Rattle.aso_mdx.specs.declared.query.Axis.{Axis}
use Rattle.aso_mdx.specs.declared.query.Query.{Query}

abbrev pub Name : Type 0
Name = List ℕ

abbrev pub Key : List ℕ → Lang (Unit {0})
Key w = One (key w)

abbrev pub in_front : {A : Type 0} → A × List A → List A
in_front v = v.0 ∷ v.1

abbrev pub all_of : {A : Type 0} → A × List (Unit {0} × A) → List A
all_of v = v.0 ∷ map (λ x. x.1) v.1

-- at least one text, with commas between them
abbrev pub Listed : {A : Type 0} → Lang A → Lang (List A)
Listed P = Makes (Chain comma P) all_of

-- ---- members

-- after a dot two words are no part
abbrev pub is_method : Token → Bool
is_method t = is_word (codes "children") t || is_word (codes "members") t

abbrev pub later_part : Token → Option Name
later_part t = if is_method t then None else part t

-- a member as its parts
abbrev pub Path : Lang (List Name)
Path = Makes (Then (One part) (Many (Then (One dot) (One later_part)))) all_of

abbrev pub Paths : Lang (List (List Name))
Paths = One open_mark ▷ Listed Path ◁ One close_mark

-- ---- sets

-- the set of a member that a function gives, or that stands behind a member's last dot
abbrev pub function : Token → Option (List Name → SetText)
function t =
    if is_word (codes "children") t then Some Children
    else (if is_word (codes "members") t then Some Members
    else (if is_word (codes "descendants") t then Some Descendants
    else known (is_word (codes "leaves") t) Leaves))

abbrev pub method : Token → Option (List Name → SetText)
method t = if is_word (codes "children") t then Some Children else known (is_word (codes "members") t) Members

abbrev pub applied : (List Name → SetText) × List Name → SetText
applied v = v.0 v.1

abbrev pub Call : Lang SetText
Call = Makes (Then (One function ◁ One open_mark) (Path ◁ One close_mark)) applied

-- what follows a member's first parts: nothing, or a dot and a method, or a dot, a part, and what follows that
abbrev pub Rest : Type 0
Rest = List Name × (List Name → SetText)

abbrev pub plain : Rest
plain = ([], Member)

abbrev pub last : (List Name → SetText) → Rest
last m = ([], m)

abbrev pub longer : Name × Rest → Rest
longer v = (v.0 ∷ v.1.0, v.1.1)

abbrev pub Tail : ℕ → Lang Rest
Tail zero = Empty plain
Tail (suc n) = Or (One dot ▷ Or (Makes (One method) last) (Makes (Then (One later_part) (Tail n)) longer)) (Empty plain)

abbrev pub Tails : Lang Rest
Tails ts v = (n : ℕ) × Tail n ts v

abbrev pub ended : Name × Rest → SetText
ended v = v.1.1 (v.0 ∷ v.1.0)

-- a member, or a member and a method
abbrev pub Dotted : Lang SetText
Dotted = Makes (Then (One part) Tails) ended

-- a set that holds no other
abbrev pub Leaf : Lang SetText
Leaf = Or (Makes Paths Tuple) (Or Call Dotted)

abbrev pub InBraces : Lang SetText → Lang SetText
InBraces S = Makes (One open_set ▷ Listed S ◁ One close_set) Braced

abbrev pub crossed : Unit {0} × (SetText × SetText) → SetText
crossed v = Crossjoin v.1.0 v.1.1

abbrev pub Crossing : Lang SetText → Lang SetText
Crossing S = Makes (Then (Key (codes "crossjoin") ◁ One open_mark) (Then (S ◁ One comma) S ◁ One close_mark)) crossed

-- a set in which at most so many braces and crossjoins nest
abbrev pub Set : ℕ → Lang SetText
Set zero = Leaf
Set (suc n) = Or (InBraces (Set n)) (Or (Crossing (Set n)) Leaf)

-- a set: at most 32 nest
unfoldable pub SetTokens : Lang SetText
SetTokens = Set 32

-- ---- quoted texts

-- two quotes side by side are one: a quote behind a quote is left out
abbrev pub single_quotes : Bool → List ℕ → List ℕ
single_quotes behind [] = []
single_quotes behind (b ∷ bs) = if behind && (b == 39) then single_quotes false bs else b ∷ single_quotes (b == 39) bs

abbrev pub undoubled : List ℕ → List ℕ
undoubled text = single_quotes false text

abbrev pub quoted : Token → Option (List ℕ)
quoted (AQuotedToken text) = Some (undoubled text)
quoted _ = None

-- a word or a quoted text
abbrev pub plain_name : Token → Option Name
plain_name (AWordToken text) = Some text
plain_name (AQuotedToken text) = Some (undoubled text)
plain_name _ = None

-- ---- queries

abbrev pub filtered : Unit {0} × SetText → Bool × SetText
filtered v = (true, v.1)

abbrev pub unfiltered : SetText → Bool × SetText
unfiltered s = (false, s)

abbrev pub axis : Bool × SetText → Axis
axis v = record { non_empty = v.0; set = v.1 }

abbrev pub AxisText : List ℕ → Lang Axis
AxisText w = Makes (Or (Makes (Then (Key (codes "non") ◁ Key (codes "empty")) SetTokens) filtered) (Makes SetTokens unfiltered) ◁ (Key (codes "on") ◁ Key w)) axis

-- two parts, a formula, and a solve order, 20 where none is given
abbrev pub own : (Name × Name) × (List ℕ × Option ℕ) → Own
own v = record { path = v.0.0 ∷ v.0.1 ∷ []; formula = v.1.0; solve = unwrap_or v.1.1 20 }

abbrev pub OwnText : Lang Own
OwnText = Makes
    (Then (Key (codes "member") ▷ Then (One part ◁ One dot) (One later_part))
    (Then (Key (codes "as") ▷ One quoted) (Maybe ((One comma ◁ Key (codes "solve_order")) ▷ (One equals ▷ One (whole 0 127))))))
    own

abbrev pub point_at : List ℕ → ℕ
point_at text = prefix_len (λ b. not (b == 46)) text

-- a text with a point, cut at its first point
abbrev pub cut_text : Name → Option (Name × Name)
cut_text text = if point_at text == length text then None else Some (take (point_at text) text, drop (point_at text + 1) text)

abbrev pub cut_name : Token → Option (Name × Name)
cut_name (ANameToken text) = cut_text text
cut_name _ = None

abbrev pub pointless : Token → Option Name
pointless (ANameToken text) = known (point_at text == length text) text
pointless _ = None

-- the two names of a database
abbrev pub Base : Lang (Name × Name)
Base = Or (One cut_name) (Or (Then (One pointless ◁ One dot) (One name)) (Then (One plain_name ◁ One dot) (One plain_name)))

abbrev pub alone : List Name → List (List Name)
alone path = path ∷ []

abbrev pub Slicer : Lang (List (List Name))
Slicer = Key (codes "where") ▷ Or Paths (Makes Path alone)

-- at most 16 members of its own
abbrev pub Owns : Lang (List Own)
Owns = Key (codes "with") ▷ Makes (Then OwnText (UpTo 15 OwnText)) in_front

abbrev pub Written : Type 0
Written = Option (List Own) × (Axis × (Option Axis × ((Name × Name) × Option (List (List Name)))))

abbrev pub query : Written → Query
query v = record { own = unwrap_or v.0 []; columns = v.1.0; rows = v.1.1.0; app = v.1.1.1.0.0; db = v.1.1.1.0.1; slicer = unwrap_or v.1.1.1.1 [] }

unfoldable pub QueryTokens : Lang Query
QueryTokens = Makes
    (Then (Maybe Owns)
    (Then (Key (codes "select") ▷ AxisText (codes "columns"))
    (Then (Maybe (One comma ▷ AxisText (codes "rows")))
    (Then (Key (codes "from") ▷ Base) (Maybe Slicer)))))
    query

-- ---- whole texts, in which comments are white space

abbrev pub SpellsQuery : List ℕ → Query → Type 0
SpellsQuery text q = Spells true QueryTokens text q

abbrev pub IsQueryFault : List ℕ → ℕ → Type 0
IsQueryFault text at = IsFaultAt true QueryTokens text at

abbrev pub SpellsSet : List ℕ → SetText → Type 0
SpellsSet text s = Spells true SetTokens text s

abbrev pub IsSetFault : List ℕ → ℕ → Type 0
IsSetFault text at = IsFaultAt true SetTokens text at
