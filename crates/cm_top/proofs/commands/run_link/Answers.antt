use Rattle.std.proofs.Common.{◌≡◌, ◌∙◌, ap, sym, subst, refl, Option, Some}
use Rattle.std.specs.Prelude.{Ok}
use Rattle.cm_base.specs.Definitions.{Definitions}
use Rattle.cm_base.specs.Files.{Files}
use Rattle.group_loader.specs.Loading.{states_by}
use Rattle.command_parts.specs.Answers.{IsOutside}
use Rattle.command_parts.specs.Headline.{KeepsOthersOf}
use Rattle.command_parts.specs.Performing.{state_of}
use Rattle.command_parts.specs.Sessions.{refused}
use Rattle.command_parts.specs.Targets.{out_in, path_in}
use Rattle.command_parts.specs.declared.status.Status.TheVariants as status
use Rattle.command_parts.proofs.Ending.{same_outside}
use Rattle.command_parts.proofs.OutNames.{out_outside}
use Rattle.command_parts.proofs.Steps.{still_failed, still_wanting}
use Rattle.cm_top.specs.Meaning.{of_link, of_root, without_tools}
use Rattle.cm_top.specs.Performing.{Does, rules_among}
use Rattle.cm_top.specs.Ways.{plain_way, store_way}
use Rattle.cm_top.proofs.Cuts.{link_cut}
use Rattle.cm_top.proofs.InTurn.{does_same, does_told, effects, stage, still_does}
use Rattle.cm_top.proofs.Steps.{refused_does, session_end}
use Rattle.cm_top.proofs.commands.run_link.Goals as goal

pub returns-in-Ok-clause-performs : goal.returns-in-Ok-clause-performs
returns-in-Ok-clause-performs g c =
    let by : Definitions = g.C.Compiler.defines in
    let t0 = states_by g.T.Tool.class g.T.Tool.rule g.T.Tool.ran g.T.Tool.faults c.args.tools.now in
    let rules = rules_among t0 in
    let t1 = states_by g.T.Tool.class g.T.Tool.rule g.T.Tool.ran g.T.Tool.faults c.run_root.new.tools in
    let doing = λ (files : Files). of_link c.args.part (store_way by rules) c.args.defs.now c.args.root.now files
    (out_in files c.args.root.now c.args.target.now) in
    let meant = λ (files : Files). of_link c.args.part (plain_way by rules) c.args.defs.now c.args.root.now files
    (out_in files c.args.root.now c.args.target.now) in
    let s0 = state_of (g.S.Sink.written c.args.out.now) (g.F.Folder.holds c.args.folder.now)
    (g.C.Compiler.asked c.args.compiler.now) (g.C.Compiler.asked_skeletons c.args.compiler.now) in
    let s1 = state_of (g.S.Sink.written c.run_root.new.out) (g.F.Folder.holds c.run_root.new.folder)
    (g.C.Compiler.asked c.run_root.new.compiler) (g.C.Compiler.asked_skeletons c.run_root.new.compiler) in
    does_told by doing meant c.run_root.result (stage s0 t0) (stage s1 t1) c.run_root.ensures.tools (λ e. e)
    (λ files is.
    let gives : out_in files c.args.root.now c.args.target.now ≡ Ok c.in-Ok.path = c.in-Ok.ensures.gives files is in
    let outside : IsOutside (Some c.in-Ok.path) =
    subst (λ r. IsOutside (path_in r)) gives (out_outside files c.args.root.now c.args.target.now) in
    does_same by (of_root c.args.part (store_way by rules) (Some c.in-Ok.path) c.args.defs.now c.args.root.now)
    (of_root c.args.part (plain_way by rules) (Some c.in-Ok.path) c.args.defs.now c.args.root.now) doing meant
    c.run_root.result (stage s0 t0) (stage s1 t1)
    (λ files is. ap (of_link c.args.part (store_way by rules) c.args.defs.now c.args.root.now files)
    (sym (c.in-Ok.ensures.gives files is)))
    (λ files is. ap (of_link c.args.part (plain_way by rules) c.args.defs.now c.args.root.now files)
    (sym (c.in-Ok.ensures.gives files is)))
    (subst (λ (holds : Option Files). Does by
    (of_root c.args.part (store_way by rules) (Some c.in-Ok.path) c.args.defs.now c.args.root.now)
    (of_root c.args.part (plain_way by rules) (Some c.in-Ok.path) c.args.defs.now c.args.root.now) c.run_root.result
    (stage (state_of s0.written holds s0.asked s0.skeletons) t0) (stage s1 t1)) c.in-Ok.ensures.same
    (c.run_root.ensures.performs outside)))

pub returns-in-Err-Diag-clause-performs : goal.returns-in-Err-Diag-clause-performs
returns-in-Err-Diag-clause-performs g c =
    let by : Definitions = g.C.Compiler.defines in
    let t0 = states_by g.T.Tool.class g.T.Tool.rule g.T.Tool.ran g.T.Tool.faults c.args.tools.now in
    let rules = rules_among t0 in
    let doing = λ (files : Files). of_link c.args.part (store_way by rules) c.args.defs.now c.args.root.now files
    (out_in files c.args.root.now c.args.target.now) in
    let meant = λ (files : Files). of_link c.args.part (plain_way by rules) c.args.defs.now c.args.root.now files
    (out_in files c.args.root.now c.args.target.now) in
    let diag = c.in-Err-Diag.diag in
    let s0 = state_of (g.S.Sink.written c.args.out.now) (g.F.Folder.holds c.args.folder.now)
    (g.C.Compiler.asked c.args.compiler.now) (g.C.Compiler.asked_skeletons c.args.compiler.now) in
    let s1 = state_of (g.S.Sink.written c.print_refusal.new.out) (g.F.Folder.holds c.find_target.new.folder)
    (g.C.Compiler.asked c.args.compiler.now) (g.C.Compiler.asked_skeletons c.args.compiler.now) in
    does_same by (λ files. without_tools (refused files diag)) (λ files. without_tools (refused files diag)) doing meant
    c.print_refusal.result (stage s0 t0) (stage s1 t0)
    (λ files is. ap (of_link c.args.part (store_way by rules) c.args.defs.now c.args.root.now files)
    (sym (rw c.in-Err-Diag.field-0-is at (c.in-Err-Diag.ensures.gives files is))))
    (λ files is. ap (of_link c.args.part (plain_way by rules) c.args.defs.now c.args.root.now files)
    (sym (rw c.in-Err-Diag.field-0-is at (c.in-Err-Diag.ensures.gives files is))))
    (subst (λ (holds : Option Files). Does by (λ files. without_tools (refused files diag))
    (λ files. without_tools (refused files diag)) c.print_refusal.result
    (stage (state_of s0.written holds s0.asked s0.skeletons) t0) (stage s1 t0)) c.in-Err-Diag.ensures.same
    (refused_does by diag c.print_refusal.result
    (state_of s0.written (g.F.Folder.holds c.find_target.new.folder) s0.asked s0.skeletons) s1 t0 c.print_refusal.ensures.end
    (rw c.in-Err-Diag.field-0-is at c.print_refusal.ensures.performs)))

pub returns-in-Err-Folder-clause-performs : goal.returns-in-Err-Folder-clause-performs
returns-in-Err-Folder-clause-performs g c =
    let by : Definitions = g.C.Compiler.defines in
    let t0 = states_by g.T.Tool.class g.T.Tool.rule g.T.Tool.ran g.T.Tool.faults c.args.tools.now in
    let rules = rules_among t0 in
    let doing = λ (files : Files). of_link c.args.part (store_way by rules) c.args.defs.now c.args.root.now files
    (out_in files c.args.root.now c.args.target.now) in
    let meant = λ (files : Files). of_link c.args.part (plain_way by rules) c.args.defs.now c.args.root.now files
    (out_in files c.args.root.now c.args.target.now) in
    let s0 = state_of (g.S.Sink.written c.args.out.now) (g.F.Folder.holds c.args.folder.now)
    (g.C.Compiler.asked c.args.compiler.now) (g.C.Compiler.asked_skeletons c.args.compiler.now) in
    let s1 = state_of (g.S.Sink.written c.args.out.now) (g.F.Folder.holds c.find_target.new.folder)
    (g.C.Compiler.asked c.args.compiler.now) (g.C.Compiler.asked_skeletons c.args.compiler.now) in
    still_does by doing meant status.FolderFault s0 s1 t0 (λ e. cc) (λ plain. plain)
    (still_failed by (effects doing) (effects meant) s0 s1 refl c.in-Err-Folder.ensures.same refl refl
    (λ files. link_cut c.args.part (store_way by rules) c.args.defs.now c.args.root.now files
    (out_in files c.args.root.now c.args.target.now))
    (λ files. link_cut c.args.part (plain_way by rules) c.args.defs.now c.args.root.now files
    (out_in files c.args.root.now c.args.target.now)))

pub returns-in-Err-NoMemory-clause-performs : goal.returns-in-Err-NoMemory-clause-performs
returns-in-Err-NoMemory-clause-performs g c =
    let by : Definitions = g.C.Compiler.defines in
    let t0 = states_by g.T.Tool.class g.T.Tool.rule g.T.Tool.ran g.T.Tool.faults c.args.tools.now in
    let rules = rules_among t0 in
    let doing = λ (files : Files). of_link c.args.part (store_way by rules) c.args.defs.now c.args.root.now files
    (out_in files c.args.root.now c.args.target.now) in
    let meant = λ (files : Files). of_link c.args.part (plain_way by rules) c.args.defs.now c.args.root.now files
    (out_in files c.args.root.now c.args.target.now) in
    let s0 = state_of (g.S.Sink.written c.args.out.now) (g.F.Folder.holds c.args.folder.now)
    (g.C.Compiler.asked c.args.compiler.now) (g.C.Compiler.asked_skeletons c.args.compiler.now) in
    let s1 = state_of (g.S.Sink.written c.args.out.now) (g.F.Folder.holds c.find_target.new.folder)
    (g.C.Compiler.asked c.args.compiler.now) (g.C.Compiler.asked_skeletons c.args.compiler.now) in
    still_does by doing meant status.NoMemory s0 s1 t0 (λ e. cc) (λ plain. plain)
    (still_wanting by (effects doing) (effects meant) s0 s1 refl c.in-Err-NoMemory.ensures.same refl refl
    (λ files. link_cut c.args.part (store_way by rules) c.args.defs.now c.args.root.now files
    (out_in files c.args.root.now c.args.target.now))
    (λ files. link_cut c.args.part (plain_way by rules) c.args.defs.now c.args.root.now files
    (out_in files c.args.root.now c.args.target.now)))

pub returns-in-Ok-clause-others : goal.returns-in-Ok-clause-others
returns-in-Ok-clause-others g c = λ files is.
    let gives : out_in files c.args.root.now c.args.target.now ≡ Ok c.in-Ok.path = c.in-Ok.ensures.gives files is in
    let outside : IsOutside (Some c.in-Ok.path) =
    subst (λ r. IsOutside (path_in r)) gives (out_outside files c.args.root.now c.args.target.now) in
    let by : Definitions = g.C.Compiler.defines in
    let rules = rules_among (states_by g.T.Tool.class g.T.Tool.rule g.T.Tool.ran g.T.Tool.faults c.args.tools.now) in
    subst (λ r. KeepsOthersOf (of_link c.args.part (store_way by rules) c.args.defs.now c.args.root.now files r).effect
    (path_in r) files (g.F.Folder.holds c.run_root.new.folder)) (sym gives)
    (c.run_root.ensures.others outside files (c.in-Ok.ensures.same ∙ is))

pub returns-in-Err-Diag-clause-others : goal.returns-in-Err-Diag-clause-others
returns-in-Err-Diag-clause-others g c = λ files is.
    same_outside _ (path_in (out_in files c.args.root.now c.args.target.now)) files
    (g.F.Folder.holds c.find_target.new.folder) (c.in-Err-Diag.ensures.same ∙ is)

pub returns-in-Err-Folder-clause-others : goal.returns-in-Err-Folder-clause-others
returns-in-Err-Folder-clause-others g c = λ files is.
    same_outside _ (path_in (out_in files c.args.root.now c.args.target.now)) files
    (g.F.Folder.holds c.find_target.new.folder) (c.in-Err-Folder.ensures.same ∙ is)

pub returns-in-Err-NoMemory-clause-others : goal.returns-in-Err-NoMemory-clause-others
returns-in-Err-NoMemory-clause-others g c = λ files is.
    same_outside _ (path_in (out_in files c.args.root.now c.args.target.now)) files
    (g.F.Folder.holds c.find_target.new.folder) (c.in-Err-NoMemory.ensures.same ∙ is)

pub returns-in-Err-Diag-clause-end : goal.returns-in-Err-Diag-clause-end
returns-in-Err-Diag-clause-end g c = session_end c.print_refusal.result c.print_refusal.ensures.end
