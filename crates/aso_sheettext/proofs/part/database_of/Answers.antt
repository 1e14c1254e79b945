use Rattle.std.proofs.Common.{lit<, Some, None}
use Rattle.std.proofs.lemmas.Str.Pattern.{split_parts}
use Rattle.aso_sheettext.proofs.Codes.{point_found, no_point}
use Rattle.aso_sheettext.proofs.part.database_of.Goals as goal

pub returns-in-Some : goal.returns-in-Some
returns-in-Some c =
    let parts = split_parts 46 c.args.text.now (Some (c.in-Some.app, c.in-Some.db)) c.in-Some.ensures.cases (lit< tt) in
    point_found c.args.text.now c.in-Some.app.now c.in-Some.db.now parts.0 parts.1

pub returns-in-None : goal.returns-in-None
returns-in-None c = no_point c.args.text.now (split_parts 46 c.args.text.now None c.in-None.ensures.cases (lit< tt))
