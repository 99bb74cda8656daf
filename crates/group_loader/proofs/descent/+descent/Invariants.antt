use Rattle.std.proofs.Common.{◌+◌, ◌*◌, drop}
use Rattle.loader_parts.specs.Loaders.{GoesOn}
use Rattle.group_loader.specs.Loading.{scene_of, states_by}
use Rattle.group_loader.proofs.MemberSteps.{LeadsBack, all_of}
use Rattle.group_loader.proofs.descent.+descent.Given as goal

-- so many levels are left; on one level each call leads on to the next of these
abbrev pub decreases-enter : goal.decreases-enter
decreases-enter g l = l.levels * 6

abbrev pub decreases-load_described : goal.decreases-load_described
decreases-load_described g l = l.levels * 6 + 5

abbrev pub decreases-load_members : goal.decreases-load_members
decreases-load_members g l = l.levels * 6 + 4

abbrev pub decreases-load_member : goal.decreases-load_member
decreases-load_member g l = l.levels * 6 + 3

abbrev pub decreases-load_plain : goal.decreases-load_plain
decreases-load_plain g l = l.levels * 6 + 2

abbrev pub decreases-load_group : goal.decreases-load_group
decreases-load_group g l = l.levels * 6 + 1

-- what the members that are left make of what was loaded so far is what all of them make
abbrev pub invariant-load_members-loop-number : goal.invariant-load_members-loop-number
invariant-load_members-loop-number g l = record {
  goes : GoesOn l.fn.loader l.loader;
  back : LeadsBack
      (scene_of (g.F.Folder.holds l.folder) (g.F.Folder.faults l.folder)
      (states_by g.T.Tool.class g.T.Tool.rule g.T.Tool.ran g.T.Tool.faults l.tools))
      (scene_of (g.F.Folder.holds l.fn.folder) (g.F.Folder.faults l.fn.folder)
      (states_by g.T.Tool.class g.T.Tool.rule g.T.Tool.ran g.T.Tool.faults l.fn.tools))
      (all_of l.context.defs.now l.context.anchors.now l.levels l.holder.number l.holder.name.now l.members
      (drop l.number-index l.fn.chosen) l.loader.progress)
      (all_of l.context.defs.now l.context.anchors.now l.levels l.holder.number l.holder.name.now l.members
      l.fn.chosen l.fn.loader.progress);
}
