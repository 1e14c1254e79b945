use Rattle.std.proofs.Common.{map, length, get_or, ◌<◌, arith}
use Rattle.aso_spec.specs.Drafts.{member_of, depths_of}
use Rattle.aso_outtext.specs.Tables.{line_of}
use Rattle.aso_outtext.proofs.DraftLemmas.{blank, member_here, tree_more, table_more, depth_here}
use Rattle.aso_outtext.proofs.drafting.tree_of.Goals as goal

pub loop-i-preserved : goal.loop-i-preserved
loop-i-preserved c =
    let lines = c.args.lines.now in
    let i = c.loop-i.i in
    let lt : i < length lines = omega arith in
    let inv = c.loop-i.invariant in
    record {
      members = tree_more c.push.new.self.items c.loop-i.members.items c.in_ok-draft_member.field-0 (member_of (map line_of lines)) i c.in_ok-push.ensures.items inv.members
          (member_here lines i c.loop-i.last.items c.parent_of-parent.result c.in_ok-draft_member.field-0 lt inv.table (rw c.deref.ensures.value at c.parent_of-parent.ensures) c.in_ok-draft_member.ensures);
      table = table_more (depths_of (map line_of lines)) c.loop-i.last.items c.note.new.last.items i (get_or lines i blank).depth (depth_here lines i lt) c.in_ok-note.ensures inv.table;
    }
