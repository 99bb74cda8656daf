use Rattle.std.proofs.Common.{◌≡◌, ◌≤◌, drop, length}
use Rattle.std.specs.Prelude.{All}
use Rattle.cm_base.specs.Files.{Told}
use Rattle.skeleton_asking.specs.Short.{IsShortSkeleton}
use Rattle.skeleton_asking.specs.Skeletons.{answer_over, skeletons_by, skeletons_over}
use Rattle.skeleton_asking.proofs.Steps.{Continues}
use Rattle.skeleton_asking.proofs.asking.find_skeletons.Given as goal

-- what is found and asked so far and what the rest defines are what all units define
abbrev pub invariant-loop-unit : goal.invariant-loop-unit
invariant-loop-unit g l = record {
  count : length l.skeletons ≡ l.unit-index;
  short : All IsShortSkeleton l.skeletons;
  same : g.C.Compiler.asked l.compiler ≡ g.C.Compiler.asked l.fn.compiler;
  holds : g.F.Folder.holds l.folder ≡ g.F.Folder.holds l.fn.folder;
  later : g.F.Folder.faults l.fn.folder ≤ g.F.Folder.faults l.folder;
  so : Told (g.F.Folder.holds l.fn.folder) (λ files. Continues l.skeletons
      (g.C.Compiler.asked_skeletons l.fn.compiler) (g.C.Compiler.asked_skeletons l.compiler)
      (skeletons_by (answer_over g.C.Compiler.defines.skel files) (drop l.unit-index l.project.units))
      (skeletons_over g.C.Compiler.defines.skel files l.fn.project));
}
