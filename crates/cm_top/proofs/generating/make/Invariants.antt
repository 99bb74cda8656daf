use Rattle.std.proofs.Common.{◌≤◌, drop}
use Rattle.group_loader.specs.Loading.{states_by}
use Rattle.command_parts.specs.declared.status.Status.{Status}
use Rattle.cm_top.specs.Performing.{Performs, Stage, stage_of}
use Rattle.cm_top.specs.Generating.{make}
use Rattle.cm_top.specs.Ways.{plain_way, store_way}
use Rattle.cm_top.proofs.generating.make.Given as goal

-- whatever is done of the parts that are left, with what was done before it it is done of all parts
abbrev pub invariant-loop-part : goal.invariant-loop-part
invariant-loop-part g l = record {
  folder : g.F.Folder.faults l.fn.folder ≤ g.F.Folder.faults l.folder;
  sink : g.S.Sink.faults l.fn.out ≤ g.S.Sink.faults l.out;
  so : (end : Status) (after : Stage)
      → Performs g.C.Compiler.defines (λ rules. make (store_way g.C.Compiler.defines rules) (drop l.part-index l.parts))
      (λ rules. make (plain_way g.C.Compiler.defines rules) (drop l.part-index l.parts)) end
      (stage_of (g.S.Sink.written l.out) (g.F.Folder.holds l.folder) (g.C.Compiler.asked l.compiler)
      (g.C.Compiler.asked_skeletons l.compiler)
      (states_by g.T.Tool.class g.T.Tool.rule g.T.Tool.ran g.T.Tool.faults l.tools)) after
      → Performs g.C.Compiler.defines (λ rules. make (store_way g.C.Compiler.defines rules) l.parts)
      (λ rules. make (plain_way g.C.Compiler.defines rules) l.parts) end
      (stage_of (g.S.Sink.written l.fn.out) (g.F.Folder.holds l.fn.folder) (g.C.Compiler.asked l.fn.compiler)
      (g.C.Compiler.asked_skeletons l.fn.compiler)
      (states_by g.T.Tool.class g.T.Tool.rule g.T.Tool.ran g.T.Tool.faults l.fn.tools)) after;
}
