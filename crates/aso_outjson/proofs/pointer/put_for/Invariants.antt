use denote.Shadow.{shadow}
use denote.Text.{Utf8}
use Rattle.std.proofs.Common.{◌≡◌, ◌++◌, length, string_bytes}
use Rattle.aso_outjson.specs.Pointer.{put_for}
use Rattle.aso_outjson.proofs.pointer.put_for.Given as goal

abbrev pub invariant-loop-before : goal.invariant-loop-before
invariant-loop-before l = record {
  text : shadow (Utf8 l.rest);
  so_far : put_for l.mark l.other l.text ≡ string_bytes l.out ++ put_for l.mark l.other l.rest;
}

abbrev pub decreases-loop-before : goal.decreases-loop-before
decreases-loop-before l = length l.rest
