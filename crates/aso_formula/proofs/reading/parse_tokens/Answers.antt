use Rattle.std.proofs.Common.{◌∙◌, Bool, List, Result, Ok, Err, IfOk, IfErr, sym}
use Rattle.aso_token.specs.declared.token.Token.{Token}
use Rattle.aso_token.specs.declared.stop.Stop.{Stop}
use Rattle.aso_token.specs.declared.stop.Stop.TheVariants.{NoMemory, At}
use Rattle.aso_token.specs.Lang.{Lang}
use Rattle.aso_token.specs.Reads.{tokens_of, finished, Answers, FaultIn, Read}
use Rattle.aso_token.proofs.Laws.{Law}
use Rattle.aso_token.proofs.Wholes.{text_found, text_only, text_fault}
use Rattle.aso_formula.specs.Formula.{Formula}
use Rattle.aso_formula.specs.Reading.{read_sum, read_factor}
use Rattle.aso_formula.proofs.Laws.{sum_goes, formula_law}
use Rattle.aso_formula.proofs.reading.parse_tokens.Goals as goal

found_of : {A : Type 0} (P : Lang A) (goes : Token → Bool) (r : List Token → Read A) → Law P goes r → (ts : List Token) (z : Result A Stop) → Answers z (finished (r ts)) → IfOk z (λ e. P ts e)
found_of P goes r p ts (Ok a) h = text_found P goes r p ts a h
found_of P goes r p ts (Err e) h = tt

only_of : {A : Type 0} (P : Lang A) (goes : Token → Bool) (r : List Token → Read A) → Law P goes r → (ts : List Token) (z : Result A Stop) → Answers z (finished (r ts)) → (a : A) → P ts a → Answers z (Ok a)
only_of P goes r p ts (Ok b) h a is = sym (text_only P goes r p ts a is) ∙ h
only_of P goes r p ts (Err NoMemory) h a is = tt
only_of P goes r p ts (Err (At rest)) h a is = sym (text_only P goes r p ts a is) ∙ h

fault_of : {A : Type 0} (P : Lang A) (goes : Token → Bool) (r : List Token → Read A) → Law P goes r → (ts : List Token) (z : Result A Stop) → Answers z (finished (r ts)) → IfErr z (FaultIn P ts)
fault_of P goes r p ts (Ok b) h = tt
fault_of P goes r p ts (Err NoMemory) h = tt
fault_of P goes r p ts (Err (At rest)) h = text_fault P goes r p ts (tokens_of rest.now) h

pub returns : goal.returns
returns c =
    let ts = tokens_of c.args.tokens.now in
    record {
      found = found_of Formula sum_goes (read_sum (read_factor 64)) formula_law ts c.whole.result c.whole.ensures;
      only = only_of Formula sum_goes (read_sum (read_factor 64)) formula_law ts c.whole.result c.whole.ensures;
      fault = fault_of Formula sum_goes (read_sum (read_factor 64)) formula_law ts c.whole.result c.whole.ensures;
    }
