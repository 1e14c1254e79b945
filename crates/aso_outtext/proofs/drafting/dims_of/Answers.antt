use Rattle.std.proofs.Common.{◌≡◌, ◌+◌, ◌-◌, ◌<◌, List, length, take, drop, ap, sym, arith, length-drop}
use Rattle.std.proofs.lemmas.List.{take_all, drop-drop}
use Rattle.aso_sheettext.specs.declared.text.MemberText.{MemberText}
use Rattle.aso_outtext.proofs.DraftLemmas.{dims_more, dims_done}
use Rattle.aso_outtext.proofs.drafting.dims_of.Goals as goal

pub loop-at-preserved : goal.loop-at-preserved
loop-at-preserved c =
    let lines = c.args.members.now in
    let at = c.loop-at.at in
    let r = c.dim_len-count.result in
    let rest = drop at lines in
    let view = take (length lines - at) rest in
    let whole : view ≡ rest = take_all (length lines - at) rest (omega (arith, length-drop at lines)) in
    let some : 0 < length rest = omega (arith, length-drop at lines) in
    record {
      dims = dims_more c.push.new.self.items c.loop-at.dims.items c.in_ok-dim_of.field-0 lines rest (take r view) (drop (at + r) lines) r c.in_ok-push.ensures.items c.in_ok-dim_of.ensures some
          (rw whole at c.dim_len-count.ensures.value) (ap (λ (x : List MemberText). take r x) whole) (sym (drop-drop r at lines)) c.loop-at.invariant.dims;
      within = omega (arith, length-drop at lines, ap (λ (x : List MemberText). length x) whole);
    }

pub returns : goal.returns
returns c = dims_done c.loop-at.dims.items c.args.members.now c.loop-at.at c.loop-at-test.false c.loop-at.invariant.dims
