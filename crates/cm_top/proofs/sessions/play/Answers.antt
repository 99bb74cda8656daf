use Rattle.std.proofs.Common.{◌∙◌, ◌+◌, ◌∷◌, ap, sym, subst, arith, drop}
use Rattle.std.proofs.lemmas.List.{drop_all, drop_more}
use Rattle.cm_base.specs.Definitions.{Definitions}
use Rattle.group_loader.specs.Loading.{states_by}
use Rattle.command_parts.specs.Performing.{state_of}
use Rattle.command_parts.specs.declared.status.Status.TheVariants as status
use Rattle.command_parts.proofs.Pieces.{cause_later}
use Rattle.cm_top.specs.Performing.{Performs, rules_among}
use Rattle.cm_top.specs.Sessions.{play, of_step}
use Rattle.cm_top.specs.Ways.{plain_way, store_way}
use Rattle.cm_top.proofs.InTurn.{end_does, first_does, stage, then_performs_by}
use Rattle.cm_top.proofs.Steps.{step_fault}
use Rattle.cm_top.proofs.sessions.play.Goals as goal

pub loop-step-preserved : goal.loop-step-preserved
loop-step-preserved g c =
    let by : Definitions = g.C.Compiler.defines in
    let more = drop (c.loop-step.step-index + 1) c.args.steps.now in
    let t1 = states_by g.T.Tool.class g.T.Tool.rule g.T.Tool.ran g.T.Tool.faults c.loop-step.tools in
    let t2 = states_by g.T.Tool.class g.T.Tool.rule g.T.Tool.ran g.T.Tool.faults c.do_step.new.tools in
    let s1 = state_of (g.S.Sink.written c.loop-step.out) (g.F.Folder.holds c.loop-step.folder)
    (g.C.Compiler.asked c.loop-step.compiler) (g.C.Compiler.asked_skeletons c.loop-step.compiler) in
    let s2 = state_of (g.S.Sink.written c.do_step.new.out) (g.F.Folder.holds c.do_step.new.folder)
    (g.C.Compiler.asked c.do_step.new.compiler) (g.C.Compiler.asked_skeletons c.do_step.new.compiler) in
    record {
      folder = omega (arith, c.do_step.ensures.folder.later, c.loop-step.invariant.folder);
      sink = omega (arith, c.do_step.ensures.sink.later, c.loop-step.invariant.sink);
      so = λ end after rest. c.loop-step.invariant.so end after
          (subst (λ steps. Performs by (λ rules. play (store_way by rules) steps)
          (λ rules. play (plain_way by rules) steps) end (stage s1 t1) after)
          (sym (drop_more c.args.steps.now c.loop-step.step-index c.step-item.result c.loop-step-test.true
          ∙ ap (λ first. first ∷ more) (sym c.step-item.is)))
          (then_performs_by by (λ rules files. of_step (store_way by rules) files c.step-item.result)
          (λ rules files. of_step (plain_way by rules) files c.step-item.result) (λ rules. play (store_way by rules) more)
          (λ rules. play (plain_way by rules) more) end (stage s1 t1) (stage s2 t2) after
          (subst (λ result. Performs by (λ rules files. of_step (store_way by rules) files c.step-item.result)
          (λ rules files. of_step (plain_way by rules) files c.step-item.result) result (stage s1 t1) (stage s2 t2)) c.in-Ok.is
          c.do_step.ensures.performs) rest));
    }

pub returns-in_default : goal.returns-in_default
returns-in_default g c =
    let by : Definitions = g.C.Compiler.defines in
    let more = drop (c.loop-step.step-index + 1) c.args.steps.now in
    let t1 = states_by g.T.Tool.class g.T.Tool.rule g.T.Tool.ran g.T.Tool.faults c.loop-step.tools in
    let t2 = states_by g.T.Tool.class g.T.Tool.rule g.T.Tool.ran g.T.Tool.faults c.do_step.new.tools in
    let s1 = state_of (g.S.Sink.written c.loop-step.out) (g.F.Folder.holds c.loop-step.folder)
    (g.C.Compiler.asked c.loop-step.compiler) (g.C.Compiler.asked_skeletons c.loop-step.compiler) in
    let s2 = state_of (g.S.Sink.written c.do_step.new.out) (g.F.Folder.holds c.do_step.new.folder)
    (g.C.Compiler.asked c.do_step.new.compiler) (g.C.Compiler.asked_skeletons c.do_step.new.compiler) in
    let rules = rules_among t1 in
    record {
      folder = cause_later (g.F.Folder.faults c.args.folder.now) (g.F.Folder.faults c.loop-step.folder)
          (g.F.Folder.faults c.do_step.new.folder) _ c.loop-step.invariant.folder c.do_step.ensures.folder;
      sink = cause_later (g.S.Sink.faults c.args.out.now) (g.S.Sink.faults c.loop-step.out)
          (g.S.Sink.faults c.do_step.new.out) _ c.loop-step.invariant.sink c.do_step.ensures.sink;
      end = c.do_step.ensures.end;
      performs = c.loop-step.invariant.so c.do_step.result (stage s2 t2)
          (subst (λ steps. Performs by (λ rules. play (store_way by rules) steps)
          (λ rules. play (plain_way by rules) steps) c.do_step.result (stage s1 t1) (stage s2 t2))
          (sym (drop_more c.args.steps.now c.loop-step.step-index c.step-item.result c.loop-step-test.true
          ∙ ap (λ first. first ∷ more) (sym c.step-item.is)))
          (first_does by (λ files. of_step (store_way by rules) files c.step-item.result)
          (λ files. of_step (plain_way by rules) files c.step-item.result) (play (store_way by rules) more)
          (play (plain_way by rules) more) c.do_step.result (stage s1 t1) (stage s2 t2)
          (step_fault c.do_step.result c.do_step.ensures.end c.in_default.not-Ok) c.do_step.ensures.performs));
    }

pub returns-clause-performs : goal.returns-clause-performs
returns-clause-performs g c =
    let by : Definitions = g.C.Compiler.defines in
    let t = states_by g.T.Tool.class g.T.Tool.rule g.T.Tool.ran g.T.Tool.faults c.loop-step.tools in
    let s = state_of (g.S.Sink.written c.loop-step.out) (g.F.Folder.holds c.loop-step.folder)
    (g.C.Compiler.asked c.loop-step.compiler) (g.C.Compiler.asked_skeletons c.loop-step.compiler) in
    c.loop-step.invariant.so status.Ok (stage s t)
    (subst (λ steps. Performs by (λ rules. play (store_way by rules) steps)
    (λ rules. play (plain_way by rules) steps) status.Ok (stage s t) (stage s t))
    (sym (drop_all c.loop-step.step-index c.args.steps.now c.loop-step-test.false)) (end_does by (stage s t)))
