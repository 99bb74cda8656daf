use Rattle.std.proofs.Common.{◌∙◌, sym, subst, refl}
use Rattle.std.specs.List.{AllByRecursion}
use Rattle.cm_base.specs.Definitions.{Definitions}
use Rattle.group_loader.specs.Loading.{states_by}
use Rattle.command_parts.specs.Generating.{IsPart}
use Rattle.command_parts.specs.Performing.{state_of}
use Rattle.command_parts.specs.declared.status.Status.TheVariants as status
use Rattle.command_parts.proofs.Parts.{all_parts}
use Rattle.command_parts.proofs.Pieces.{outside_in}
use Rattle.command_parts.proofs.Steps.{still_wanting}
use Rattle.cm_top.specs.Generating.{generating, make}
use Rattle.cm_top.specs.Performing.{Performs, rules_among}
use Rattle.cm_top.specs.Ways.{plain_way, store_way}
use Rattle.cm_top.proofs.Cuts.{generating_cut}
use Rattle.cm_top.proofs.InTurn.{effects, stage, still_does}
use Rattle.cm_top.proofs.Parts.{generated_within}
use Rattle.cm_top.proofs.generating.generate.Goals as goal

pub make-requires : goal.make-requires
make-requires g c =
    subst (AllByRecursion IsPart) (sym (c.as_slice.ensures ∙ c.in-Ok.ensures)) (all_parts c.args.n)

pub returns-in-Ok-clause-performs : goal.returns-in-Ok-clause-performs
returns-in-Ok-clause-performs g c =
    let by : Definitions = g.C.Compiler.defines in
    let t0 = states_by g.T.Tool.class g.T.Tool.rule g.T.Tool.ran g.T.Tool.faults c.args.tools.now in
    let t1 = states_by g.T.Tool.class g.T.Tool.rule g.T.Tool.ran g.T.Tool.faults c.make.new.tools in
    let s0 = state_of (g.S.Sink.written c.args.out.now) (g.F.Folder.holds c.args.folder.now)
    (g.C.Compiler.asked c.args.compiler.now) (g.C.Compiler.asked_skeletons c.args.compiler.now) in
    let s1 = state_of (g.S.Sink.written c.make.new.out) (g.F.Folder.holds c.make.new.folder)
    (g.C.Compiler.asked c.make.new.compiler) (g.C.Compiler.asked_skeletons c.make.new.compiler) in
    subst (λ parts. Performs by (λ rules. make (store_way by rules) parts) (λ rules. make (plain_way by rules) parts)
    c.make.result (stage s0 t0) (stage s1 t1)) (c.as_slice.ensures ∙ c.in-Ok.ensures) c.make.ensures.performs

pub returns-in-Ok-clause-project : goal.returns-in-Ok-clause-project
returns-in-Ok-clause-project g c = λ files is.
    let by : Definitions = g.C.Compiler.defines in
    let t0 = states_by g.T.Tool.class g.T.Tool.rule g.T.Tool.ran g.T.Tool.faults c.args.tools.now in
    let t1 = states_by g.T.Tool.class g.T.Tool.rule g.T.Tool.ran g.T.Tool.faults c.make.new.tools in
    let s0 = state_of (g.S.Sink.written c.args.out.now) (g.F.Folder.holds c.args.folder.now)
    (g.C.Compiler.asked c.args.compiler.now) (g.C.Compiler.asked_skeletons c.args.compiler.now) in
    let s1 = state_of (g.S.Sink.written c.make.new.out) (g.F.Folder.holds c.make.new.folder)
    (g.C.Compiler.asked c.make.new.compiler) (g.C.Compiler.asked_skeletons c.make.new.compiler) in
    let all = subst (λ parts. Performs by (λ rules. make (store_way by rules) parts) (λ rules. make (plain_way by rules) parts)
    c.make.result (stage s0 t0) (stage s1 t1)) (c.as_slice.ensures ∙ c.in-Ok.ensures) c.make.ensures.performs in
    outside_in files (g.F.Folder.holds c.make.new.folder) _ _
    (λ path within. generated_within c.args.n c.requires.least (store_way by (rules_among t0)) files path within)
    (all.effect.outside files is)

pub returns-in-Err-clause-performs : goal.returns-in-Err-clause-performs
returns-in-Err-clause-performs g c =
    let by : Definitions = g.C.Compiler.defines in
    let t0 = states_by g.T.Tool.class g.T.Tool.rule g.T.Tool.ran g.T.Tool.faults c.args.tools.now in
    let s0 = state_of (g.S.Sink.written c.args.out.now) (g.F.Folder.holds c.args.folder.now)
    (g.C.Compiler.asked c.args.compiler.now) (g.C.Compiler.asked_skeletons c.args.compiler.now) in
    let rules = rules_among t0 in
    still_does by (generating (store_way by rules) c.args.n) (generating (plain_way by rules) c.args.n) status.NoMemory s0 s0
    t0 (λ e. cc) (λ plain. plain)
    (still_wanting by (effects (generating (store_way by rules) c.args.n))
    (effects (generating (plain_way by rules) c.args.n)) s0 s0 refl refl refl refl
    (λ files. generating_cut (store_way by rules) c.args.n files)
    (λ files. generating_cut (plain_way by rules) c.args.n files))

pub returns-in-Err-clause-project : goal.returns-in-Err-clause-project
returns-in-Err-clause-project g c = λ files is.
    record { after = files; tells = is; kept = λ path out apart. refl }
