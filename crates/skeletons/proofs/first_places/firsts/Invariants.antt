use Rattle.std.proofs.Common.{◌≡◌}
use Rattle.indexmap.specs.IndexSet.{contains}
use Rattle.cm_base.specs.declared.record.ModName.{ModName}
use Rattle.skeletons.specs.Scopes.{same_name}
use Rattle.skeletons.specs.Skeletons.{firsts}
use Rattle.skeletons.proofs.FirstLemmas.{among}
use Rattle.skeletons.proofs.first_places.firsts.Given as goal

-- the first places so far, whose names were seen
abbrev pub invariant-loop-spot : goal.invariant-loop-spot
invariant-loop-spot l = record {
  found : l.found ≡ firsts l.yielded;
  seen : (name : ModName) → contains same_name l.seen name ≡ among l.found name;
}
