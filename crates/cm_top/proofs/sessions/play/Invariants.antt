use Rattle.std.proofs.Common.{◌≤◌, drop}
use Rattle.group_loader.specs.Loading.{states_by}
use Rattle.command_parts.specs.declared.status.Status.{Status}
use Rattle.cm_top.specs.Performing.{Performs, Stage, stage_of}
use Rattle.cm_top.specs.Sessions.{play}
use Rattle.cm_top.specs.Ways.{plain_way, store_way}
use Rattle.cm_top.proofs.sessions.play.Given as goal

-- whatever is done of the steps that are left, with what was done before it it is done of all steps
abbrev pub invariant-loop-step : goal.invariant-loop-step
invariant-loop-step g l = record {
  folder : g.F.Folder.faults l.fn.folder ≤ g.F.Folder.faults l.folder;
  sink : g.S.Sink.faults l.fn.out ≤ g.S.Sink.faults l.out;
  so : (end : Status) (after : Stage)
      → Performs g.C.Compiler.defines (λ rules. play (store_way g.C.Compiler.defines rules) (drop l.step-index l.steps))
      (λ rules. play (plain_way g.C.Compiler.defines rules) (drop l.step-index l.steps)) end
      (stage_of (g.S.Sink.written l.out) (g.F.Folder.holds l.folder) (g.C.Compiler.asked l.compiler)
      (g.C.Compiler.asked_skeletons l.compiler)
      (states_by g.T.Tool.class g.T.Tool.rule g.T.Tool.ran g.T.Tool.faults l.tools)) after
      → Performs g.C.Compiler.defines (λ rules. play (store_way g.C.Compiler.defines rules) l.steps)
      (λ rules. play (plain_way g.C.Compiler.defines rules) l.steps) end
      (stage_of (g.S.Sink.written l.fn.out) (g.F.Folder.holds l.fn.folder) (g.C.Compiler.asked l.fn.compiler)
      (g.C.Compiler.asked_skeletons l.fn.compiler)
      (states_by g.T.Tool.class g.T.Tool.rule g.T.Tool.ran g.T.Tool.faults l.fn.tools)) after;
}
