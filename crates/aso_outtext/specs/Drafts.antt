-- The outline that lines say, as a draft.
use Rattle.std.specs.Prelude.{[], map}
use Rattle.aso_outline.specs.declared.draft.Draft.{Draft}
use Rattle.aso_spec.specs.Drafts.{Member as Line}
use Rattle.aso_spec.specs.Drafts.{dims_of, draft_dim}
use Rattle.aso_sheettext.specs.Sheet.{Member, Outline}

abbrev pub as_line : Member → Line
as_line m = record { depth = m.depth; name = m.name }

-- for each line of depth 0 a base dimension of one stored hierarchy, whose members are all added
unfoldable pub draft_of : Outline → Draft
draft_of s = record { app = s.app; db = s.db; dims = map draft_dim (dims_of (map as_line s.members)); attrs = [] }
