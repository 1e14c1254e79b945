-- The grammar, computed on one query: its tokens and then what they spell.
use Rattle.std.proofs.Common.{List, [], ◌∷◌, false, refl, codes, None}
use Rattle.aso_token.specs.declared.token.Token.{Token}
use Rattle.aso_token.specs.declared.token.Token.TheVariants.{Word, Quoted, Name, Mark}
use Rattle.aso_token.specs.declared.token.Mark.TheVariants.{Dot, Comma, Open, Close, OpenSet, CloseSet}
use Rattle.aso_token.specs.Words.{is_word}
use Rattle.aso_token.proofs.Wholes.{text_found}
use Rattle.aso_mdx.specs.declared.query.SetText.TheVariants.{Braced, Member}
use Rattle.aso_mdx.specs.declared.query.Query.{Query}
use Rattle.aso_mdx.specs.Grammar.{QueryTokens}
use Rattle.aso_mdx.specs.Reading.{read_query, read_axis, read_nested, read_leaf, read_path, read_paths, read_dotted, read_tail, read_call, read_own, read_owns, read_base, read_slicer}
use Rattle.aso_mdx.proofs.QueryLaws.{query_goes, query_law}

abbrev row_tokens : List Token
row_tokens = Word (codes "with") ∷ Word (codes "MEMBER") ∷ Name (codes "Measures") ∷ Mark Dot ∷ Name (codes "X") ∷ Word (codes "as") ∷ Quoted (codes "[Margin]")
    ∷ Word (codes "Select") ∷ Mark OpenSet ∷ Name (codes "Margin") ∷ Mark Comma ∷ Name (codes "X") ∷ Mark CloseSet ∷ Word (codes "on") ∷ Word (codes "columns")
    ∷ Word (codes "from") ∷ Word (codes "Sample") ∷ Mark Dot ∷ Word (codes "Basic") ∷ Word (codes "where") ∷ Mark Open ∷ Name (codes "NY") ∷ Mark Close ∷ []

abbrev row : Query
row = record {
  own = record { path = codes "Measures" ∷ codes "X" ∷ []; formula = codes "[Margin]"; solve = 20 } ∷ [];
  columns = record { non_empty = false; set = Braced (Member (codes "Margin" ∷ []) ∷ Member (codes "X" ∷ []) ∷ []) };
  rows = None;
  app = codes "Sample";
  db = codes "Basic";
  slicer = (codes "NY" ∷ []) ∷ [];
}

row_spelled : QueryTokens row_tokens row
unfolding read_query read_axis read_nested read_leaf read_path read_paths read_dotted read_tail read_call read_own read_owns read_base read_slicer is_word
row_spelled = text_found QueryTokens query_goes read_query query_law row_tokens row refl
