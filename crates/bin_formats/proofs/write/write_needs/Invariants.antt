use Rattle.std.proofs.Common.{◌≡◌, ◌++◌, drop, take, flat_map, All}
use Rattle.cm_bytes.specs.Fields.{list_of}
use Rattle.bin_formats.specs.Format.{need_of, IsSpot}
use Rattle.bin_formats.proofs.write.write_needs.Given as goal

-- what is written, and the items that are left; those that are written fit
abbrev pub invariant-loop-need : goal.invariant-loop-need
invariant-loop-need l = record {
  written : l.out ++ flat_map need_of (drop l.need-index l.needs) ≡ l.fn.out ++ list_of need_of l.fn.needs;
  fit : All (λ need. IsSpot need.spot) (take l.need-index l.needs);
}
