use Rattle.std.proofs.Common.{◌≡◌, ◌||◌, drop}
use Rattle.std.specs.List.{list_any}
use Rattle.indexmap.specs.IndexSet.{contains}
use Rattle.cm_base.specs.declared.record.ModName.{ModName}
use Rattle.skeletons.specs.Scopes.{same_name}
use Rattle.skeletons.specs.Skeletons.{is_sure_use}
use Rattle.skeletons.proofs.unit_skeleton.sure_names.Given as goal

-- the names of the sure uses so far, and of those that are left
abbrev pub invariant-loop-need : goal.invariant-loop-need
invariant-loop-need l =
    (name : ModName) → contains same_name l.names name || list_any (is_sure_use name) (drop l.need-index l.uses)
    ≡ list_any (is_sure_use name) l.fn.uses
