use Rattle.std.proofs.Common.{◌∙◌, ◌+◌, ◌∷◌, ap, sym, subst, arith, drop}
use Rattle.std.proofs.lemmas.List.{drop_all, drop_more}
use Rattle.cm_base.specs.Definitions.{Definitions}
use Rattle.group_loader.specs.Loading.{states_by}
use Rattle.command_parts.specs.Performing.{state_of}
use Rattle.command_parts.specs.declared.status.Status.TheVariants as status
use Rattle.command_parts.proofs.Pieces.{cause_later}
use Rattle.cm_top.specs.Performing.{Performs, rules_among}
use Rattle.cm_top.specs.Generating.{make, of_part}
use Rattle.cm_top.specs.Ways.{plain_way, store_way}
use Rattle.cm_top.proofs.GoingOn.{goes_on_by, stops}
use Rattle.cm_top.proofs.InTurn.{end_does, stage}
use Rattle.cm_top.proofs.generating.make.Goals as goal

pub loop-part-preserved : goal.loop-part-preserved
loop-part-preserved g c =
    let by : Definitions = g.C.Compiler.defines in
    let more = drop (c.loop-part.part-index + 1) c.args.parts.now in
    let t1 = states_by g.T.Tool.class g.T.Tool.rule g.T.Tool.ran g.T.Tool.faults c.loop-part.tools in
    let t2 = states_by g.T.Tool.class g.T.Tool.rule g.T.Tool.ran g.T.Tool.faults c.do_part.new.tools in
    let s1 = state_of (g.S.Sink.written c.loop-part.out) (g.F.Folder.holds c.loop-part.folder)
    (g.C.Compiler.asked c.loop-part.compiler) (g.C.Compiler.asked_skeletons c.loop-part.compiler) in
    let s2 = state_of (g.S.Sink.written c.do_part.new.out) (g.F.Folder.holds c.do_part.new.folder)
    (g.C.Compiler.asked c.do_part.new.compiler) (g.C.Compiler.asked_skeletons c.do_part.new.compiler) in
    record {
      folder = omega (arith, c.do_part.ensures.folder.later, c.loop-part.invariant.folder);
      sink = omega (arith, c.do_part.ensures.sink.later, c.loop-part.invariant.sink);
      so = λ end after rest. c.loop-part.invariant.so end after
          (subst (λ parts. Performs by (λ rules. make (store_way by rules) parts)
          (λ rules. make (plain_way by rules) parts) end (stage s1 t1) after)
          (sym (drop_more c.args.parts.now c.loop-part.part-index c.part-item.result c.loop-part-test.true
          ∙ ap (λ first. first ∷ more) (sym c.part-item.is)))
          (goes_on_by by (λ rules files. of_part (store_way by rules) files c.part-item.result)
          (λ rules files. of_part (plain_way by rules) files c.part-item.result) (λ rules. make (store_way by rules) more)
          (λ rules. make (plain_way by rules) more) end (stage s1 t1) (stage s2 t2) after
          (subst (λ result. Performs by (λ rules files. of_part (store_way by rules) files c.part-item.result)
          (λ rules files. of_part (plain_way by rules) files c.part-item.result) result (stage s1 t1) (stage s2 t2)) c.in-Ok.is
          c.do_part.ensures.performs) rest));
    }

pub returns-in_default : goal.returns-in_default
returns-in_default g c =
    let by : Definitions = g.C.Compiler.defines in
    let more = drop (c.loop-part.part-index + 1) c.args.parts.now in
    let t1 = states_by g.T.Tool.class g.T.Tool.rule g.T.Tool.ran g.T.Tool.faults c.loop-part.tools in
    let t2 = states_by g.T.Tool.class g.T.Tool.rule g.T.Tool.ran g.T.Tool.faults c.do_part.new.tools in
    let s1 = state_of (g.S.Sink.written c.loop-part.out) (g.F.Folder.holds c.loop-part.folder)
    (g.C.Compiler.asked c.loop-part.compiler) (g.C.Compiler.asked_skeletons c.loop-part.compiler) in
    let s2 = state_of (g.S.Sink.written c.do_part.new.out) (g.F.Folder.holds c.do_part.new.folder)
    (g.C.Compiler.asked c.do_part.new.compiler) (g.C.Compiler.asked_skeletons c.do_part.new.compiler) in
    let rules = rules_among t1 in
    record {
      folder = cause_later (g.F.Folder.faults c.args.folder.now) (g.F.Folder.faults c.loop-part.folder)
          (g.F.Folder.faults c.do_part.new.folder) _ c.loop-part.invariant.folder c.do_part.ensures.folder;
      sink = cause_later (g.S.Sink.faults c.args.out.now) (g.S.Sink.faults c.loop-part.out)
          (g.S.Sink.faults c.do_part.new.out) _ c.loop-part.invariant.sink c.do_part.ensures.sink;
      end = c.do_part.ensures.end;
      performs = c.loop-part.invariant.so c.do_part.result (stage s2 t2)
          (subst (λ parts. Performs by (λ rules. make (store_way by rules) parts)
          (λ rules. make (plain_way by rules) parts) c.do_part.result (stage s1 t1) (stage s2 t2))
          (sym (drop_more c.args.parts.now c.loop-part.part-index c.part-item.result c.loop-part-test.true
          ∙ ap (λ first. first ∷ more) (sym c.part-item.is)))
          (stops by (λ files. of_part (store_way by rules) files c.part-item.result)
          (λ files. of_part (plain_way by rules) files c.part-item.result) (make (store_way by rules) more)
          (make (plain_way by rules) more) c.do_part.result (stage s1 t1) (stage s2 t2) c.in_default.not-Ok
          c.do_part.ensures.performs));
    }

pub returns-clause-performs : goal.returns-clause-performs
returns-clause-performs g c =
    let by : Definitions = g.C.Compiler.defines in
    let t = states_by g.T.Tool.class g.T.Tool.rule g.T.Tool.ran g.T.Tool.faults c.loop-part.tools in
    let s = state_of (g.S.Sink.written c.loop-part.out) (g.F.Folder.holds c.loop-part.folder)
    (g.C.Compiler.asked c.loop-part.compiler) (g.C.Compiler.asked_skeletons c.loop-part.compiler) in
    c.loop-part.invariant.so status.Ok (stage s t)
    (subst (λ parts. Performs by (λ rules. make (store_way by rules) parts)
    (λ rules. make (plain_way by rules) parts) status.Ok (stage s t) (stage s t))
    (sym (drop_all c.loop-part.part-index c.args.parts.now c.loop-part-test.false)) (end_does by (stage s t)))
