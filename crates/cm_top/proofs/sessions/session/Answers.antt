use Rattle.std.proofs.Common.{ap, sym, refl, subst, Option}
use Rattle.cm_base.specs.Definitions.{Definitions}
use Rattle.cm_base.specs.Files.{Files}
use Rattle.group_loader.specs.Loading.{states_by}
use Rattle.command_parts.specs.Performing.{state_of}
use Rattle.command_parts.specs.Sessions.{refused, script_in}
use Rattle.command_parts.specs.declared.status.Status.TheVariants as status
use Rattle.command_parts.proofs.Steps.{still_failed, still_wanting}
use Rattle.cm_top.specs.Meaning.{without_tools}
use Rattle.cm_top.specs.Performing.{Does, rules_among}
use Rattle.cm_top.specs.Sessions.{of_script, play}
use Rattle.cm_top.specs.Ways.{plain_way, store_way}
use Rattle.cm_top.proofs.Cuts.{script_cut}
use Rattle.cm_top.proofs.InTurn.{does_same, effects, stage, still_does}
use Rattle.cm_top.proofs.Steps.{refused_does, session_end}
use Rattle.cm_top.proofs.sessions.session.Goals as goal

pub returns-in-Ok-clause-performs : goal.returns-in-Ok-clause-performs
returns-in-Ok-clause-performs g c =
    let by : Definitions = g.C.Compiler.defines in
    let t0 = states_by g.T.Tool.class g.T.Tool.rule g.T.Tool.ran g.T.Tool.faults c.args.tools.now in
    let rules = rules_among t0 in
    let doing = λ (files : Files). of_script (store_way by rules) files (script_in files c.args.script.now) in
    let meant = λ (files : Files). of_script (plain_way by rules) files (script_in files c.args.script.now) in
    let t1 = states_by g.T.Tool.class g.T.Tool.rule g.T.Tool.ran g.T.Tool.faults c.play.new.tools in
    let steps = c.in-Ok.steps in
    let s0 = state_of (g.S.Sink.written c.args.out.now) (g.F.Folder.holds c.args.folder.now)
    (g.C.Compiler.asked c.args.compiler.now) (g.C.Compiler.asked_skeletons c.args.compiler.now) in
    let s1 = state_of (g.S.Sink.written c.play.new.out) (g.F.Folder.holds c.play.new.folder)
    (g.C.Compiler.asked c.play.new.compiler) (g.C.Compiler.asked_skeletons c.play.new.compiler) in
    does_same by (play (store_way by rules) steps) (play (plain_way by rules) steps) doing meant c.play.result (stage s0 t0)
    (stage s1 t1)
    (λ files is. ap (of_script (store_way by rules) files) (sym (c.in-Ok.ensures.gives files is)))
    (λ files is. ap (of_script (plain_way by rules) files) (sym (c.in-Ok.ensures.gives files is)))
    (subst (λ (holds : Option Files). Does by (play (store_way by rules) steps) (play (plain_way by rules) steps)
    c.play.result (stage (state_of s0.written holds s0.asked s0.skeletons) t0) (stage s1 t1)) c.in-Ok.ensures.same
    (subst (λ ss. Does by (play (store_way by rules) ss) (play (plain_way by rules) ss) c.play.result
    (stage (state_of s0.written (g.F.Folder.holds c.find_script.new.folder) s0.asked s0.skeletons) t0) (stage s1 t1))
    c.as_slice.ensures c.play.ensures.performs))

pub returns-in-Err-Diag-clause-performs : goal.returns-in-Err-Diag-clause-performs
returns-in-Err-Diag-clause-performs g c =
    let by : Definitions = g.C.Compiler.defines in
    let t0 = states_by g.T.Tool.class g.T.Tool.rule g.T.Tool.ran g.T.Tool.faults c.args.tools.now in
    let rules = rules_among t0 in
    let doing = λ (files : Files). of_script (store_way by rules) files (script_in files c.args.script.now) in
    let meant = λ (files : Files). of_script (plain_way by rules) files (script_in files c.args.script.now) in
    let diag = c.in-Err-Diag.diag in
    let s0 = state_of (g.S.Sink.written c.args.out.now) (g.F.Folder.holds c.args.folder.now)
    (g.C.Compiler.asked c.args.compiler.now) (g.C.Compiler.asked_skeletons c.args.compiler.now) in
    let s1 = state_of (g.S.Sink.written c.print_refusal.new.out) (g.F.Folder.holds c.find_script.new.folder)
    (g.C.Compiler.asked c.args.compiler.now) (g.C.Compiler.asked_skeletons c.args.compiler.now) in
    does_same by (λ files. without_tools (refused files diag)) (λ files. without_tools (refused files diag)) doing meant
    c.print_refusal.result (stage s0 t0) (stage s1 t0)
    (λ files is. ap (of_script (store_way by rules) files)
    (sym (rw c.in-Err-Diag.field-0-is at (c.in-Err-Diag.ensures.gives files is))))
    (λ files is. ap (of_script (plain_way by rules) files)
    (sym (rw c.in-Err-Diag.field-0-is at (c.in-Err-Diag.ensures.gives files is))))
    (subst (λ (holds : Option Files). Does by (λ files. without_tools (refused files diag))
    (λ files. without_tools (refused files diag)) c.print_refusal.result
    (stage (state_of s0.written holds s0.asked s0.skeletons) t0) (stage s1 t0)) c.in-Err-Diag.ensures.same
    (refused_does by diag c.print_refusal.result _ s1 t0 c.print_refusal.ensures.end
    c.print_refusal.ensures.performs))

pub returns-in-Err-Folder-clause-performs : goal.returns-in-Err-Folder-clause-performs
returns-in-Err-Folder-clause-performs g c =
    let by : Definitions = g.C.Compiler.defines in
    let t0 = states_by g.T.Tool.class g.T.Tool.rule g.T.Tool.ran g.T.Tool.faults c.args.tools.now in
    let rules = rules_among t0 in
    let doing = λ (files : Files). of_script (store_way by rules) files (script_in files c.args.script.now) in
    let meant = λ (files : Files). of_script (plain_way by rules) files (script_in files c.args.script.now) in
    let s0 = state_of (g.S.Sink.written c.args.out.now) (g.F.Folder.holds c.args.folder.now)
    (g.C.Compiler.asked c.args.compiler.now) (g.C.Compiler.asked_skeletons c.args.compiler.now) in
    let s1 = state_of (g.S.Sink.written c.args.out.now) (g.F.Folder.holds c.find_script.new.folder)
    (g.C.Compiler.asked c.args.compiler.now) (g.C.Compiler.asked_skeletons c.args.compiler.now) in
    still_does by doing meant status.FolderFault s0 s1 t0 (λ e. cc) (λ plain. plain)
    (still_failed by (effects doing) (effects meant) s0 s1 refl c.in-Err-Folder.ensures.same refl refl
    (λ files. script_cut (store_way by rules) files (script_in files c.args.script.now))
    (λ files. script_cut (plain_way by rules) files (script_in files c.args.script.now)))

pub returns-in-Err-NoMemory-clause-performs : goal.returns-in-Err-NoMemory-clause-performs
returns-in-Err-NoMemory-clause-performs g c =
    let by : Definitions = g.C.Compiler.defines in
    let t0 = states_by g.T.Tool.class g.T.Tool.rule g.T.Tool.ran g.T.Tool.faults c.args.tools.now in
    let rules = rules_among t0 in
    let doing = λ (files : Files). of_script (store_way by rules) files (script_in files c.args.script.now) in
    let meant = λ (files : Files). of_script (plain_way by rules) files (script_in files c.args.script.now) in
    let s0 = state_of (g.S.Sink.written c.args.out.now) (g.F.Folder.holds c.args.folder.now)
    (g.C.Compiler.asked c.args.compiler.now) (g.C.Compiler.asked_skeletons c.args.compiler.now) in
    let s1 = state_of (g.S.Sink.written c.args.out.now) (g.F.Folder.holds c.find_script.new.folder)
    (g.C.Compiler.asked c.args.compiler.now) (g.C.Compiler.asked_skeletons c.args.compiler.now) in
    still_does by doing meant status.NoMemory s0 s1 t0 (λ e. cc) (λ plain. plain)
    (still_wanting by (effects doing) (effects meant) s0 s1 refl c.in-Err-NoMemory.ensures.same refl refl
    (λ files. script_cut (store_way by rules) files (script_in files c.args.script.now))
    (λ files. script_cut (plain_way by rules) files (script_in files c.args.script.now)))

pub returns-in-Err-Diag-clause-end : goal.returns-in-Err-Diag-clause-end
returns-in-Err-Diag-clause-end g c = session_end c.print_refusal.result c.print_refusal.ensures.end
