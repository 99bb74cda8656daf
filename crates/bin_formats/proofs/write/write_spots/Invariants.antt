use Rattle.std.proofs.Common.{◌≡◌, ◌++◌, drop, take, flat_map, All}
use Rattle.cm_bytes.specs.Fields.{list_of}
use Rattle.bin_formats.specs.Format.{spot_of, IsSpot}
use Rattle.bin_formats.proofs.write.write_spots.Given as goal

-- what is written, and the items that are left; those that are written fit
abbrev pub invariant-loop-spot : goal.invariant-loop-spot
invariant-loop-spot l = record {
  written : l.out ++ flat_map spot_of (drop l.spot-index l.spots) ≡ l.fn.out ++ list_of spot_of l.fn.spots;
  fit : All IsSpot (take l.spot-index l.spots);
}
