-- What an answer for a whole text owes, from the law of its reader.
use Rattle.std.proofs.Common.{◌≡◌, ◌∙◌, ℕ, Bool, List, Result, Ok, Err, IfOk, IfErr, sym, true}
use Rattle.aso_token.specs.declared.token.Token.{Token}
use Rattle.aso_token.specs.declared.stop.Stop.{Stop}
use Rattle.aso_token.specs.declared.stop.Stop.TheVariants.{NoMemory, At}
use Rattle.aso_token.specs.Lang.{Lang}
use Rattle.aso_token.specs.Reads.{tokens_of, finished, Answers, FaultIn, Read}
use Rattle.aso_token.specs.Cutting.{cut}
use Rattle.aso_token.proofs.Laws.{Law}
use Rattle.aso_token.proofs.Wholes.{text_found, text_only, text_fault, text_one}
use Rattle.aso_mdx.specs.declared.query.SetText.{SetText}
use Rattle.aso_mdx.specs.declared.query.Query.{Query}
use Rattle.aso_mdx.specs.Grammar.{SetTokens, SpellsSet, QueryTokens, SpellsQuery}
use Rattle.aso_mdx.specs.Reading.{read_nested, read_query}
use Rattle.aso_mdx.proofs.Laws.{set_goes, set_law}
use Rattle.aso_mdx.proofs.QueryLaws.{query_goes, query_law}

pub found_of : {A : Type 0} (P : Lang A) (goes : Token → Bool) (r : List Token → Read A) → Law P goes r → (ts : List Token) (z : Result A Stop) → Answers z (finished (r ts)) → IfOk z (λ e. P ts e)
found_of P goes r p ts (Ok a) h = text_found P goes r p ts a h
found_of P goes r p ts (Err e) h = tt

pub only_of : {A : Type 0} (P : Lang A) (goes : Token → Bool) (r : List Token → Read A) → Law P goes r → (ts : List Token) (z : Result A Stop) → Answers z (finished (r ts)) → (a : A) → P ts a → Answers z (Ok a)
only_of P goes r p ts (Ok b) h a is = sym (text_only P goes r p ts a is) ∙ h
only_of P goes r p ts (Err NoMemory) h a is = tt
only_of P goes r p ts (Err (At rest)) h a is = sym (text_only P goes r p ts a is) ∙ h

pub fault_of : {A : Type 0} (P : Lang A) (goes : Token → Bool) (r : List Token → Read A) → Law P goes r → (ts : List Token) (z : Result A Stop) → Answers z (finished (r ts)) → IfErr z (FaultIn P ts)
fault_of P goes r p ts (Ok b) h = tt
fault_of P goes r p ts (Err NoMemory) h = tt
fault_of P goes r p ts (Err (At rest)) h = text_fault P goes r p ts (tokens_of rest.now) h

pub one_set : (text : List ℕ) (s t : SetText) → SpellsSet text s → SpellsSet text t → s ≡ t
one_set text s t h k = text_one SetTokens set_goes (read_nested 32) set_law (tokens_of (cut true text).placed) s t h.1 k.1

pub one_query : (text : List ℕ) (q r : Query) → SpellsQuery text q → SpellsQuery text r → q ≡ r
one_query text q r h k = text_one QueryTokens query_goes read_query query_law (tokens_of (cut true text).placed) q r h.1 k.1
