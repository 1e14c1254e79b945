use Rattle.std.proofs.Common.{◌≡◌, ◌-◌, arith, get_or, string_bytes, rules}
use Rattle.aso_outjson.proofs.Pointers.{pointer_next}
use Rattle.aso_outjson.proofs.pointer.pointer.Goals as goal

pub loop-left-preserved : goal.loop-left-preserved
loop-left-preserved c =
    let names = c.names-names.result.now in
    let left = c.loop-left.left in
    let name = c.as_str.result.now in
    let is : name ≡ get_or names (left - 1) name = search rules in
    record {
      within = omega arith;
      so_far = pointer_next names (left - 1) left name (string_bytes c.loop-left.out) (string_bytes c.put_name.new.out) (omega arith) (omega arith) is c.loop-left.invariant.so_far c.in_ok-put_name.ensures;
    }
