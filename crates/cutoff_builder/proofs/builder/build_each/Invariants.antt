use Rattle.std.proofs.Common.{◌≡◌, ◌≤◌, length, map, take}
use Rattle.std.specs.Prelude.{All}
use Rattle.cm_base.specs.Files.{Told}
use Rattle.build_laws.specs.declared.limits.TheConstants.{ALL_INTERFACES}
use Rattle.cutoff_builder.specs.Doing.{HasShortBin, IsDone}
use Rattle.cutoff_builder.specs.Planning.{planned_in}
use Rattle.cutoff_builder.proofs.Going.{Going}
use Rattle.cutoff_builder.proofs.builder.build_each.Given as goal

-- what is done and the files are what the build of the units of the first numbers gives and leaves
abbrev pub invariant-loop-place : goal.invariant-loop-place
invariant-loop-place g l = record {
  going : Told (g.F.Folder.holds l.fn.folder) (λ files. Going g.C.Compiler.defines.compiled files
      (planned_in l.project l.skeletons l.wanted (take l.place (map (λ placed. placed.unit) l.order))) l.done.units
      (g.C.Compiler.asked l.fn.compiler) (g.C.Compiler.asked l.compiler) (g.F.Folder.holds l.folder));
  done : IsDone l.done;
  few : l.done.interface_bytes ≤ ALL_INTERFACES;
  later : g.F.Folder.faults l.fn.folder ≤ g.F.Folder.faults l.folder;
  same : g.C.Compiler.asked_skeletons l.compiler ≡ g.C.Compiler.asked_skeletons l.fn.compiler;
  count : length l.done.units ≤ l.place;
  bins : All HasShortBin l.done.units;
}
