use Rattle.std.proofs.Common.{refl, length, sym, ap, ap₂, ◌∙◌, subst, map, [], ◌∷◌, List}
use Rattle.cm_base.specs.declared.fault.Fault.TheVariants as fault
use Rattle.sml_trees.specs.declared.exp.Dec.{Dec}
use Rattle.sml_trees.specs.declared.exp.StrBind.{StrBind, out-StrBind}
use Rattle.bare_phrases.specs.Phrases.{DecPhrase, StrPhrase}
use Rattle.bare_phrases.specs.PhraseOf.{typ_phrase, dat_phrase, ex_phrase, dec_phrase, dec_phrases, rule_phrase, rules_of, str_phrase, str_bind_phrase, str_binds}
use Rattle.bare_phrases.proofs.Forms.{dec_phrase-Val, dec_phrase-Types, dec_phrase-Datatypes, dec_phrase-Replication, dec_phrase-Exceptions, dec_phrase-Local, dec_phrase-Open, dec_phrase-Sequence, dec_phrase-Structures, str_phrase-Struct, str_phrase-Named, str_phrase-Transparent, str_phrase-Opaque, str_phrase-Functor, str_phrase-Within}
use Rattle.sml_types.proofs.Frames.{drop_past}
use Rattle.type_phrases.proofs.PartsRead.{passed_on, drop_item}
use Rattle.module_semantics.specs.SigPhrases.{sig_phrase}
use Rattle.unit_semantics.specs.UnitPhrases.{ModulePhrase, ModuleDec, module_phrase, module_dec, module_decs, module_binds}
use Rattle.unit_semantics.specs.StructureInference.{module_at, infer_module, infer_module_dec}
use Rattle.unification.specs.Unification.{depth}
use Rattle.structure_elab.specs.Moments.{moment, made_at}
use Rattle.structure_elab.specs.Phrases.{AreEntered, AreBinds, IsBind}
use Rattle.structure_elab.proofs.Chains.{passed, memory, passes_top, there_kept}
use Rattle.structure_elab.proofs.Entering.{over_same, over_itself}
use Rattle.core_scopes.specs.Scopes.{AreEnvs}
use Rattle.structure_elab.specs.Phrases.{bind_phrase}
use Rattle.structure_elab.proofs.Readying.{module_later, behind, entered}
use Rattle.structure_elab.proofs.Steps.{as_module, as_dec, core_as, struct_first, struct_memory, struct_done, named, fun_first, fun_second, fun_done, within_first, within_done, under_stops, under_done, local_first, local_second, local_done}
use Rattle.structure_elab.proofs.Sealing.{constrained_first, constrained_done, sealed_first, sealed_done}
use Rattle.structure_elab.proofs.Binding.{bind_first, bind_second, bind_memory, bind_done, bind_of, binds_begin, binds_ready, binds_next, binds_fail, binds_end, structures_stop, structures_done}
use Rattle.structure_elab.proofs.Joining.{decs_begin, decs_ready, decs_next, decs_fail, decs_memory, decs_end, decs_done, decs_stop}
use Rattle.structure_elab.proofs.phrase.+elab_str.Goals as goal

-- ---- structure expressions

pub elab_str-returns-in-Struct : goal.elab_str-returns-in-Struct
elab_str-returns-in-Struct t c =
    as_module (ap (λ s. module_phrase (str_phrase s)) c.in-Struct.is
    ∙ ap module_phrase (str_phrase-Struct c.in-Struct.dec c.in-Struct.field-1)
    ∙ ap (λ d. ModulePhrase.Struct (module_dec (dec_phrase d)) c.in-Struct.field-1) (sym c.get.ensures))
    c.elab_struct.ensures

pub elab_str-returns-in-Named : goal.elab_str-returns-in-Named
elab_str-returns-in-Named t c =
    as_module (ap (λ s. module_phrase (str_phrase s)) c.in-Named.is
    ∙ ap module_phrase (str_phrase-Named c.in-Named.long c.in-Named.field-1))
    (named c.in-Named.long c.in-Named.field-1 c.named_structure.result c.requires.there c.named_structure.ensures.answers
    c.named_structure.ensures.there)

pub elab_str-returns-in_err-env-in-Transparent : goal.elab_str-returns-in_err-env-in-Transparent
elab_str-returns-in_err-env-in-Transparent t c =
    passed c.from_residual.result c.in_err-env-in-Transparent.field-0.0 c.from_residual.ensures.1
    (as_module (ap (λ s. module_phrase (str_phrase s)) c.in-Transparent.is
    ∙ ap module_phrase (str_phrase-Transparent c.in-Transparent.inner c.in-Transparent.sig c.in-Transparent.field-2)
    ∙ ap (λ s. ModulePhrase.Transparent (module_phrase (str_phrase s)) (sig_phrase c.in-Transparent.sig)
    c.in-Transparent.field-2) (sym c.get-in-Transparent.ensures))
    (constrained_first (module_phrase (str_phrase c.get-in-Transparent.result.now)) (sig_phrase c.in-Transparent.sig)
    c.in-Transparent.field-2 c.in_err-env-in-Transparent.ensures))

pub elab_str-returns-in_ok-env-in-Transparent : goal.elab_str-returns-in_ok-env-in-Transparent
elab_str-returns-in_ok-env-in-Transparent t c =
    as_module (ap (λ s. module_phrase (str_phrase s)) c.in-Transparent.is
    ∙ ap module_phrase (str_phrase-Transparent c.in-Transparent.inner c.in-Transparent.sig c.in-Transparent.field-2)
    ∙ ap (λ s. ModulePhrase.Transparent (module_phrase (str_phrase s)) (sig_phrase c.in-Transparent.sig)
    c.in-Transparent.field-2) (sym c.get-in-Transparent.ensures))
    (constrained_done (module_phrase (str_phrase c.get-in-Transparent.result.now)) (sig_phrase c.in-Transparent.sig)
    c.in-Transparent.field-2 c.place_of_str.result
    (c.place_of_str.ensures ∙ ap (λ s. module_at (module_phrase (str_phrase s))) (c.get-in-Transparent-2.ensures ∙ sym c.get-in-Transparent.ensures)) c.requires.there
    c.in_ok-env-in-Transparent.ensures c.constrain.ensures)

pub elab_str-returns-in_err-env-in-Opaque : goal.elab_str-returns-in_err-env-in-Opaque
elab_str-returns-in_err-env-in-Opaque t c =
    passed c.from_residual-in_err-env-in-Opaque.result c.in_err-env-in-Opaque.field-0.0
    c.from_residual-in_err-env-in-Opaque.ensures.1
    (as_module (ap (λ s. module_phrase (str_phrase s)) c.in-Opaque.is
    ∙ ap module_phrase (str_phrase-Opaque c.in-Opaque.inner c.in-Opaque.sig c.in-Opaque.field-2)
    ∙ ap (λ s. ModulePhrase.Opaque (module_phrase (str_phrase s)) (sig_phrase c.in-Opaque.sig) c.in-Opaque.field-2)
    (sym c.get-in-Opaque.ensures))
    (sealed_first (module_phrase (str_phrase c.get-in-Opaque.result.now)) (sig_phrase c.in-Opaque.sig)
    c.in-Opaque.field-2 c.in_err-env-in-Opaque.ensures))

pub elab_str-returns-in_ok-env-in-Opaque : goal.elab_str-returns-in_ok-env-in-Opaque
elab_str-returns-in_ok-env-in-Opaque t c =
    as_module (ap (λ s. module_phrase (str_phrase s)) c.in-Opaque.is
    ∙ ap module_phrase (str_phrase-Opaque c.in-Opaque.inner c.in-Opaque.sig c.in-Opaque.field-2)
    ∙ ap (λ s. ModulePhrase.Opaque (module_phrase (str_phrase s)) (sig_phrase c.in-Opaque.sig) c.in-Opaque.field-2)
    (sym c.get-in-Opaque.ensures))
    (sealed_done (module_phrase (str_phrase c.get-in-Opaque.result.now)) (sig_phrase c.in-Opaque.sig)
    c.in-Opaque.field-2 c.place_of_str-in-Opaque.result
    (c.place_of_str-in-Opaque.ensures ∙ ap (λ s. module_at (module_phrase (str_phrase s))) (c.get-in-Opaque-2.ensures ∙ sym c.get-in-Opaque.ensures)) c.requires.there
    c.in_ok-env-in-Opaque.ensures c.seal.ensures)

pub elab_str-returns-in_err-fun-in-Functor : goal.elab_str-returns-in_err-fun-in-Functor
elab_str-returns-in_err-fun-in-Functor t c =
    passed c.from_residual-in_err-fun-in-Functor.result c.in_err-fun-in-Functor.field-0.0
    c.from_residual-in_err-fun-in-Functor.ensures.1
    (as_module (ap (λ s. module_phrase (str_phrase s)) c.in-Functor.is
    ∙ ap module_phrase (str_phrase-Functor c.in-Functor.name c.in-Functor.argument c.in-Functor.field-2))
    (fun_first c.in-Functor.name (module_phrase (str_phrase c.in-Functor.argument)) c.in-Functor.field-2
    c.in_err-fun-in-Functor.ensures.answers))

pub elab_str-returns-in_err-env-in-Functor : goal.elab_str-returns-in_err-env-in-Functor
elab_str-returns-in_err-env-in-Functor t c =
    passed c.from_residual-in_err-env-in-Functor.result c.in_err-env-in-Functor.field-0.0
    c.from_residual-in_err-env-in-Functor.ensures.1
    (as_module (ap (λ s. module_phrase (str_phrase s)) c.in-Functor.is
    ∙ ap module_phrase (str_phrase-Functor c.in-Functor.name c.in-Functor.argument c.in-Functor.field-2)
    ∙ ap (λ s. ModulePhrase.Functor c.in-Functor.name (module_phrase (str_phrase s)) c.in-Functor.field-2)
    (sym c.get-in-Functor.ensures))
    (fun_second c.in-Functor.name (module_phrase (str_phrase c.get-in-Functor.result.now)) c.in-Functor.field-2
    c.in_ok-fun-in-Functor.fun c.requires.there c.in_ok-fun-in-Functor.ensures.answers
    c.in_ok-fun-in-Functor.ensures.there c.in_err-env-in-Functor.ensures))

pub elab_str-returns-in_ok-env-in-Functor : goal.elab_str-returns-in_ok-env-in-Functor
elab_str-returns-in_ok-env-in-Functor t c =
    as_module (ap (λ s. module_phrase (str_phrase s)) c.in-Functor.is
    ∙ ap module_phrase (str_phrase-Functor c.in-Functor.name c.in-Functor.argument c.in-Functor.field-2)
    ∙ ap (λ s. ModulePhrase.Functor c.in-Functor.name (module_phrase (str_phrase s)) c.in-Functor.field-2)
    (sym c.get-in-Functor.ensures))
    (fun_done c.in-Functor.name (module_phrase (str_phrase c.get-in-Functor.result.now)) c.in-Functor.field-2
    c.in_ok-fun-in-Functor.fun c.place_of_str-in-Functor.result c.apply_functor.new.g c.apply_functor.new.t
    c.apply_functor.result
    (c.place_of_str-in-Functor.ensures ∙ ap (λ s. module_at (module_phrase (str_phrase s))) (c.get-in-Functor-2.ensures ∙ sym c.get-in-Functor.ensures))
    c.requires.there c.in_ok-fun-in-Functor.ensures.answers c.in_ok-fun-in-Functor.ensures.there
    c.in_ok-env-in-Functor.ensures
    (there_kept {new = moment c.elab_str-in-Functor.new.g c.elab_str-in-Functor.new.t c.elab_str-in-Functor.new.top}
    c.requires.there c.in_ok-env-in-Functor.ensures.goes c.in_ok-env-in-Functor.ensures.left)
    c.apply_functor.ensures.answers c.apply_functor.ensures.there
    c.apply_functor.ensures.graph c.apply_functor.ensures.table)

pub elab_str-returns-in_err-made-in-Within : goal.elab_str-returns-in_err-made-in-Within
elab_str-returns-in_err-made-in-Within t c =
    passed c.from_residual-in_err-made-in-Within.result c.in_err-made-in-Within.field-0.0
    c.from_residual-in_err-made-in-Within.ensures.1
    (as_module (ap (λ s. module_phrase (str_phrase s)) c.in-Within.is
    ∙ ap module_phrase (str_phrase-Within c.in-Within.dec c.in-Within.body c.in-Within.field-2)
    ∙ ap (λ d. ModulePhrase.Within (module_dec (dec_phrase d)) (module_phrase (str_phrase c.in-Within.body))
    c.in-Within.field-2) (sym c.get-in-Within.ensures))
    (within_first (module_dec (dec_phrase c.get-in-Within.result.now)) (module_phrase (str_phrase c.in-Within.body))
    c.in-Within.field-2 c.in_err-made-in-Within.ensures))

pub elab_str-returns-in_ok-made-in-Within : goal.elab_str-returns-in_ok-made-in-Within
elab_str-returns-in_ok-made-in-Within t c =
    as_module (ap (λ s. module_phrase (str_phrase s)) c.in-Within.is
    ∙ ap module_phrase (str_phrase-Within c.in-Within.dec c.in-Within.body c.in-Within.field-2)
    ∙ ap₂ (λ d s. ModulePhrase.Within (module_dec (dec_phrase d)) (module_phrase (str_phrase s)) c.in-Within.field-2)
    (sym c.get-in-Within.ensures) (sym c.get-in-Within-2.ensures))
    (within_done (module_dec (dec_phrase c.get-in-Within.result.now))
    (module_phrase (str_phrase c.get-in-Within-2.result.now)) c.in-Within.field-2 c.requires.there
    c.in_ok-made-in-Within.ensures c.elab_within.ensures)

pub elab_str-is_ready_behind-requires : goal.elab_str-is_ready_behind-requires
elab_str-is_ready_behind-requires t c =
    λ k. behind (module_dec (dec_phrase c.get-in-Within.result.now)) c.in_ok-made-in-Within.made c.requires k
    c.in_ok-made-in-Within.ensures

pub elab_str-constrain-requires-clause-there : goal.elab_str-constrain-requires-clause-there
elab_str-constrain-requires-clause-there t c =
    there_kept {new = moment c.elab_str.new.g c.elab_str.new.t c.elab_str.new.top}
    c.requires.there c.in_ok-env-in-Transparent.ensures.goes c.in_ok-env-in-Transparent.ensures.left

pub elab_str-seal-requires-clause-there : goal.elab_str-seal-requires-clause-there
elab_str-seal-requires-clause-there t c =
    there_kept {new = moment c.elab_str-in-Opaque.new.g c.elab_str-in-Opaque.new.t c.elab_str-in-Opaque.new.top}
    c.requires.there c.in_ok-env-in-Opaque.ensures.goes c.in_ok-env-in-Opaque.ensures.left

-- ---- the environment of a declaration

pub elab_struct-returns-in_err-made : goal.elab_struct-returns-in_err-made
elab_struct-returns-in_err-made t c =
    passed c.from_residual.result c.in_err-made.field-0.0 c.from_residual.ensures.1
    (struct_first (module_dec (dec_phrase c.args.dec.now)) c.in_err-made.ensures)

pub elab_struct-make_declared-requires : goal.elab_struct-make_declared-requires
elab_struct-make_declared-requires t c = c.in_ok-made.ensures.has

pub elab_struct-returns-in_err-env : goal.elab_struct-returns-in_err-env
elab_struct-returns-in_err-env t c =
    passed c.from_residual-in_err-env.result fault.NoMemory c.from_residual-in_err-env.ensures.1
    (struct_memory (module_dec (dec_phrase c.args.dec.now)) c.make_declared.new.g c.in_ok-made.ensures c.in_err-env.ensures.err)

pub elab_struct-returns : goal.elab_struct-returns
elab_struct-returns t c = struct_done (module_dec (dec_phrase c.args.dec.now)) c.make_declared.new.g c.in_ok-env.env c.in_ok-made.ensures c.in_ok-env.ensures.ok

-- ---- under what a declaration made

pub elab_within-is_ready-requires : goal.elab_within-is_ready-requires
elab_within-is_ready-requires t c =
    λ k. entered {m = moment c.args.g.now c.args.t.now c.args.top.now} c.args.made c.enter.new.top c.requires
    (c.in_ok-enter.ensures.ok c.args.g.now c.requires.envs)

pub elab_within-returns-in_err-enter : goal.elab_within-returns-in_err-enter
elab_within-returns-in_err-enter t c =
    passed c.from_residual.result fault.NoMemory c.from_residual.ensures.1
    (memory (passes_top (moment c.args.g.now c.args.t.now c.args.top.now) c.enter.new.top))

pub elab_within-returns-in_err-env : goal.elab_within-returns-in_err-env
elab_within-returns-in_err-env t c =
    passed c.from_residual-in_err-env.result c.in_err-env.field-0.0 c.from_residual-in_err-env.ensures.1
    (under_stops (made_at (moment c.args.g.now c.args.t.now c.args.top.now) c.args.made)
    (λ home top st. infer_module depth home top (module_phrase (str_phrase c.args.str.now)) st)
    (c.in_ok-enter.ensures.ok c.args.g.now c.requires.envs) c.in_err-env.ensures)

pub elab_within-returns : goal.elab_within-returns
elab_within-returns t c =
    under_done (made_at (moment c.args.g.now c.args.t.now c.args.top.now) c.args.made)
    (λ home top st. infer_module depth home top (module_phrase (str_phrase c.args.str.now)) st)
    (c.in_ok-enter.ensures.ok c.args.g.now c.requires.envs) (λ m top. refl) c.in_ok-env.ensures
    (c.leave.ensures c.args.top.now c.mark-before.ensures.is
    (over_same (c.in_ok-enter.ensures.ok c.args.g.now c.requires.envs).over c.in_ok-env.ensures.left))

pub elab_shown-is_ready-requires : goal.elab_shown-is_ready-requires
elab_shown-is_ready-requires t c =
    λ k. entered {m = moment c.args.g.now c.args.t.now c.args.top.now} c.args.made c.enter.new.top c.requires
    (c.in_ok-enter.ensures.ok c.args.g.now c.requires.envs)

pub elab_shown-returns-in_err-enter : goal.elab_shown-returns-in_err-enter
elab_shown-returns-in_err-enter t c =
    passed c.from_residual.result fault.NoMemory c.from_residual.ensures.1
    (memory (passes_top (moment c.args.g.now c.args.t.now c.args.top.now) c.enter.new.top))

pub elab_shown-returns-in_err-shown : goal.elab_shown-returns-in_err-shown
elab_shown-returns-in_err-shown t c =
    passed c.from_residual-in_err-shown.result c.in_err-shown.field-0.0 c.from_residual-in_err-shown.ensures.1
    (under_stops (made_at (moment c.args.g.now c.args.t.now c.args.top.now) c.args.made)
    (λ home top st. infer_module_dec depth home top (module_dec (dec_phrase c.args.dec.now)) st)
    (c.in_ok-enter.ensures.ok c.args.g.now c.requires.envs) c.in_err-shown.ensures)

pub elab_shown-returns : goal.elab_shown-returns
elab_shown-returns t c =
    under_done (made_at (moment c.args.g.now c.args.t.now c.args.top.now) c.args.made)
    (λ home top st. infer_module_dec depth home top (module_dec (dec_phrase c.args.dec.now)) st)
    (c.in_ok-enter.ensures.ok c.args.g.now c.requires.envs) (λ m top. refl) c.in_ok-shown.ensures
    (c.leave.ensures c.args.top.now c.mark-before.ensures.is
    (over_same (c.in_ok-enter.ensures.ok c.args.g.now c.requires.envs).over c.in_ok-shown.ensures.left))

-- ---- declarations

pub elab_str_dec-returns-in-Val : goal.elab_str_dec-returns-in-Val
elab_str_dec-returns-in-Val t c =
    core_as (ap dec_phrase c.in-Val.is ∙ dec_phrase-Val c.in-Val.field-0 c.in-Val.field-1 c.in-Val.field-2 c.in-Val.field-3)
    refl c.declare_core.ensures

pub elab_str_dec-returns-in-Types : goal.elab_str_dec-returns-in-Types
elab_str_dec-returns-in-Types t c =
    core_as (ap dec_phrase c.in-Types.is ∙ dec_phrase-Types c.in-Types.field-0 c.in-Types.field-1) refl
    c.declare_core-in-Types.ensures

pub elab_str_dec-returns-in-Datatypes : goal.elab_str_dec-returns-in-Datatypes
elab_str_dec-returns-in-Datatypes t c =
    core_as (ap dec_phrase c.in-Datatypes.is ∙ dec_phrase-Datatypes c.in-Datatypes.field-0 c.in-Datatypes.field-1) refl
    c.declare_core-in-Datatypes.ensures

pub elab_str_dec-returns-in-Replication : goal.elab_str_dec-returns-in-Replication
elab_str_dec-returns-in-Replication t c =
    core_as (ap dec_phrase c.in-Replication.is
    ∙ dec_phrase-Replication c.in-Replication.field-0 c.in-Replication.field-1 c.in-Replication.field-2) refl
    c.declare_core-in-Replication.ensures

pub elab_str_dec-returns-in-Exceptions : goal.elab_str_dec-returns-in-Exceptions
elab_str_dec-returns-in-Exceptions t c =
    core_as (ap dec_phrase c.in-Exceptions.is ∙ dec_phrase-Exceptions c.in-Exceptions.field-0 c.in-Exceptions.field-1) refl
    c.declare_core-in-Exceptions.ensures

pub elab_str_dec-returns-in-Open : goal.elab_str_dec-returns-in-Open
elab_str_dec-returns-in-Open t c =
    core_as (ap dec_phrase c.in-Open.is ∙ dec_phrase-Open c.in-Open.field-0 c.in-Open.field-1) refl
    c.declare_core-in-Open.ensures

pub elab_str_dec-returns-in-Sequence : goal.elab_str_dec-returns-in-Sequence
elab_str_dec-returns-in-Sequence t c =
    as_dec (ap (λ d. module_dec (dec_phrase d)) c.in-Sequence.is
    ∙ ap module_dec (dec_phrase-Sequence c.in-Sequence.decs c.in-Sequence.field-1)
    ∙ ap (λ (decs : List Dec). ModuleDec.Sequence (module_decs (dec_phrases (map dec_phrase decs))) c.in-Sequence.field-1)
    (sym c.as_slice.ensures)) c.elab_sequence.ensures

pub elab_str_dec-returns-in-Structures : goal.elab_str_dec-returns-in-Structures
elab_str_dec-returns-in-Structures t c =
    as_dec (ap (λ d. module_dec (dec_phrase d)) c.in-Structures.is
    ∙ ap module_dec (dec_phrase-Structures c.in-Structures.binds c.in-Structures.at)
    ∙ ap (λ (binds : List StrBind). ModuleDec.Structures (module_binds (str_binds (map str_bind_phrase binds)))
    c.in-Structures.at) (sym c.as_slice-in-Structures.ensures)) c.elab_structures.ensures

pub elab_str_dec-is_ready_behind-requires : goal.elab_str_dec-is_ready_behind-requires
elab_str_dec-is_ready_behind-requires t c =
    λ k. behind (module_dec (dec_phrase c.get.result.now)) c.in_ok-before-in-Local.before c.requires k
    c.in_ok-before-in-Local.ensures

pub elab_str_dec-check_made-requires : goal.elab_str_dec-check_made-requires
elab_str_dec-check_made-requires t c = c.in_ok-made-in-Local.ensures.has

pub elab_str_dec-returns-in_err-before-in-Local : goal.elab_str_dec-returns-in_err-before-in-Local
elab_str_dec-returns-in_err-before-in-Local t c =
    passed c.from_residual.result c.in_err-before-in-Local.field-0.0 c.from_residual.ensures.1
    (as_dec (ap (λ d. module_dec (dec_phrase d)) c.in-Local.is
    ∙ ap module_dec (dec_phrase-Local c.in-Local.hidden c.in-Local.shown c.in-Local.at)
    ∙ ap (λ d. ModuleDec.Local (module_dec (dec_phrase d)) (module_dec (dec_phrase c.in-Local.shown)) c.in-Local.at)
    (sym c.get.ensures))
    (local_first (module_dec (dec_phrase c.get.result.now)) (module_dec (dec_phrase c.in-Local.shown)) c.in-Local.at
    c.in_err-before-in-Local.ensures))

pub elab_str_dec-returns-in_err-made-in-Local : goal.elab_str_dec-returns-in_err-made-in-Local
elab_str_dec-returns-in_err-made-in-Local t c =
    passed c.from_residual-in_err-made-in-Local.result c.in_err-made-in-Local.field-0.0
    c.from_residual-in_err-made-in-Local.ensures.1
    (as_dec (ap (λ d. module_dec (dec_phrase d)) c.in-Local.is
    ∙ ap module_dec (dec_phrase-Local c.in-Local.hidden c.in-Local.shown c.in-Local.at)
    ∙ ap₂ (λ d e. ModuleDec.Local (module_dec (dec_phrase d)) (module_dec (dec_phrase e)) c.in-Local.at)
    (sym c.get.ensures) (sym c.get-in-Local.ensures))
    (local_second (module_dec (dec_phrase c.get.result.now)) (module_dec (dec_phrase c.get-in-Local.result.now))
    c.in-Local.at c.requires.there c.in_ok-before-in-Local.ensures c.in_err-made-in-Local.ensures))

pub elab_str_dec-returns-in_ok-made-in-Local : goal.elab_str_dec-returns-in_ok-made-in-Local
elab_str_dec-returns-in_ok-made-in-Local t c =
    as_dec (ap (λ d. module_dec (dec_phrase d)) c.in-Local.is
    ∙ ap module_dec (dec_phrase-Local c.in-Local.hidden c.in-Local.shown c.in-Local.at)
    ∙ ap₂ (λ d e. ModuleDec.Local (module_dec (dec_phrase d)) (module_dec (dec_phrase e)) c.in-Local.at)
    (sym c.get.ensures) (sym c.get-in-Local.ensures))
    (local_done (module_dec (dec_phrase c.get.result.now)) (module_dec (dec_phrase c.get-in-Local.result.now))
    c.in-Local.at c.check_made.new.t c.requires.there c.in_ok-before-in-Local.ensures
    c.is_ready_behind.ensures.there c.in_ok-made-in-Local.ensures c.check_made.ensures.same
    c.check_made.ensures.answer c.check_made.ensures.it)

-- ---- declarations one after another

pub elab_sequence-returns-in_err-elab_each : goal.elab_sequence-returns-in_err-elab_each
elab_sequence-returns-in_err-elab_each t c =
    passed c.from_residual.result c.in_err-elab_each.field-0.0 c.from_residual.ensures.1
    (decs_stop c.in_err-elab_each.ensures)

pub elab_sequence-returns : goal.elab_sequence-returns
elab_sequence-returns t c =
    decs_done c.in_ok-elab_each.ensures
    (c.leave.ensures c.args.top.now c.mark-before.ensures.is c.in_ok-elab_each.ensures.over)

pub elab_each-loop-dec-init : goal.elab_each-loop-dec-init
elab_each-loop-dec-init t c =
    decs_begin (moment c.args.g.now c.args.t.now c.args.top.now) (module_decs (dec_phrases (map dec_phrase c.args.decs.now)))
    c.args.all.now c.requires.ready c.requires.over c.requires.all

pub elab_each-is_ready-requires : goal.elab_each-is_ready-requires
elab_each-is_ready-requires t c = λ k. decs_ready c.loop-dec.invariant k

pub elab_each-loop-dec-preserved : goal.elab_each-loop-dec-preserved
elab_each-loop-dec-preserved t c =
    decs_next c.loop-dec.invariant
    (ap (λ (decs : List Dec). module_decs (dec_phrases (map dec_phrase decs)))
    (drop_item c.args.decs.now c.loop-dec.dec-index c.dec-item.result c.loop-dec-test.true c.dec-item.is))
    c.is_ready.ensures.kept c.is_kept.ensures c.in_ok-made.ensures
    (c.in_ok-enter_next.ensures.ok c.elab_str_dec.new.g c.in_ok-made.ensures.has) c.in_ok-enter_next.ensures.all

pub elab_each-returns-in_err-made : goal.elab_each-returns-in_err-made
elab_each-returns-in_err-made t c =
    passed_on (AreEntered (moment c.args.g.now c.args.t.now c.args.top.now)
    (module_decs (dec_phrases (map dec_phrase c.args.decs.now))) c.loop-dec.all
    (moment c.elab_str_dec.new.g c.elab_str_dec.new.t c.elab_str_dec.new.top)) c.from_residual.result
    c.in_err-made.field-0.0 c.from_residual.ensures.1
    (decs_fail c.loop-dec.invariant
    (ap (λ (decs : List Dec). module_decs (dec_phrases (map dec_phrase decs)))
    (drop_item c.args.decs.now c.loop-dec.dec-index c.dec-item.result c.loop-dec-test.true c.dec-item.is))
    c.in_err-made.ensures)

pub elab_each-returns-in_err-enter_next : goal.elab_each-returns-in_err-enter_next
elab_each-returns-in_err-enter_next t c =
    passed_on (AreEntered (moment c.args.g.now c.args.t.now c.args.top.now)
    (module_decs (dec_phrases (map dec_phrase c.args.decs.now))) c.enter_next.new.all
    (moment c.elab_str_dec.new.g c.elab_str_dec.new.t c.enter_next.new.top))
    c.from_residual-in_err-enter_next.result fault.NoMemory c.from_residual-in_err-enter_next.ensures.1
    (decs_memory c.loop-dec.invariant
    (ap (λ (decs : List Dec). module_decs (dec_phrases (map dec_phrase decs)))
    (drop_item c.args.decs.now c.loop-dec.dec-index c.dec-item.result c.loop-dec-test.true c.dec-item.is))
    c.enter_next.new.top c.in_ok-made.ensures)

pub elab_each-returns : goal.elab_each-returns
elab_each-returns t c =
    decs_end c.loop-dec.invariant (ap (λ (decs : List Dec). module_decs (dec_phrases (map dec_phrase decs)))
    (drop_past c.args.decs.now c.loop-dec.dec-index c.loop-dec-test.false))

-- ---- structures

pub elab_structures-end_structures-requires : goal.elab_structures-end_structures-requires
elab_structures-end_structures-requires t c = c.in_ok-elab_binds.ensures.envs

pub elab_structures-returns-in_err-elab_binds : goal.elab_structures-returns-in_err-elab_binds
elab_structures-returns-in_err-elab_binds t c =
    passed c.from_residual.result c.in_err-elab_binds.field-0.0 c.from_residual.ensures.1
    (structures_stop (module_binds (str_binds (map str_bind_phrase c.args.binds.now))) c.args.at c.new-made.result
    c.elab_binds.new.made c.new-made.ensures c.in_err-elab_binds.ensures)

pub elab_structures-returns : goal.elab_structures-returns
elab_structures-returns t c =
    structures_done (module_binds (str_binds (map str_bind_phrase c.args.binds.now))) c.args.at c.new-made.result
    c.elab_binds.new.made c.new-made.ensures c.end_structures.new.t c.requires.there c.in_ok-elab_binds.ensures
    c.end_structures.ensures.answer c.end_structures.ensures.envs c.end_structures.ensures.same

pub elab_binds-loop-bind-init : goal.elab_binds-loop-bind-init
elab_binds-loop-bind-init t c =
    binds_begin (moment c.args.g.now c.args.t.now c.args.top.now)
    (module_binds (str_binds (map str_bind_phrase c.args.binds.now))) c.args.made.now c.requires.ready c.requires.envs

pub elab_binds-is_ready-requires : goal.elab_binds-is_ready-requires
elab_binds-is_ready-requires t c = λ k. binds_ready c.loop-bind.invariant k

pub elab_binds-loop-bind-preserved : goal.elab_binds-loop-bind-preserved
elab_binds-loop-bind-preserved t c =
    binds_next c.loop-bind.invariant
    (ap (λ (binds : List StrBind). module_binds (str_binds (map str_bind_phrase binds)))
    (drop_item c.args.binds.now c.loop-bind.bind-index c.bind-item.result c.loop-bind-test.true c.bind-item.is))
    c.in_ok-elab_bind.ensures

pub elab_binds-returns-in_err-elab_bind : goal.elab_binds-returns-in_err-elab_bind
elab_binds-returns-in_err-elab_bind t c =
    passed_on (AreBinds (moment c.args.g.now c.args.t.now c.args.top.now)
    (module_binds (str_binds (map str_bind_phrase c.args.binds.now))) c.args.made.now c.elab_bind.new.made
    (moment c.elab_bind.new.g c.elab_bind.new.t c.elab_bind.new.top)) c.from_residual.result
    c.in_err-elab_bind.field-0.0 c.from_residual.ensures.1
    (binds_fail c.loop-bind.invariant
    (ap (λ (binds : List StrBind). module_binds (str_binds (map str_bind_phrase binds)))
    (drop_item c.args.binds.now c.loop-bind.bind-index c.bind-item.result c.loop-bind-test.true c.bind-item.is))
    c.in_err-elab_bind.ensures)

pub elab_binds-returns : goal.elab_binds-returns
elab_binds-returns t c =
    binds_end c.loop-bind.invariant (ap (λ (binds : List StrBind). module_binds (str_binds (map str_bind_phrase binds)))
    (drop_past c.args.binds.now c.loop-bind.bind-index c.loop-bind-test.false))

pub elab_bind-returns-in_err-check_structure : goal.elab_bind-returns-in_err-check_structure
elab_bind-returns-in_err-check_structure t c =
    passed_on (IsBind (moment c.args.g.now c.args.t.now c.args.top.now) (bind_phrase c.args.bind.now) c.args.made.now
    c.args.made.now (moment c.args.g.now c.args.t.now c.args.top.now)) c.from_residual.result
    c.in_err-check_structure.field-0.0 c.from_residual.ensures.1
    (bind_of c.args.made.now c.args.bind.now (bind_first {m0 = moment c.args.g.now c.args.t.now c.args.top.now}
    (out-StrBind c.args.bind.now).name (module_phrase (str_phrase (out-StrBind c.args.bind.now).body))
    c.args.made.now c.args.made.now c.in_err-check_structure.ensures))

pub elab_bind-returns-in_err-env : goal.elab_bind-returns-in_err-env
elab_bind-returns-in_err-env t c =
    passed_on (IsBind (moment c.args.g.now c.args.t.now c.args.top.now) (bind_phrase c.args.bind.now) c.args.made.now
    c.args.made.now (moment c.elab_str.new.g c.elab_str.new.t c.elab_str.new.top)) c.from_residual-in_err-env.result
    c.in_err-env.field-0.0 c.from_residual-in_err-env.ensures.1
    (bind_of c.args.made.now c.args.bind.now (bind_second
    (out-StrBind c.args.bind.now).name (module_phrase (str_phrase (out-StrBind c.args.bind.now).body))
    c.args.made.now c.args.made.now c.requires.ready.there c.in_ok-check_structure.ensures c.in_err-env.ensures))

pub elab_bind-returns-in_err-bind_structure : goal.elab_bind-returns-in_err-bind_structure
elab_bind-returns-in_err-bind_structure t c =
    passed_on (IsBind (moment c.args.g.now c.args.t.now c.args.top.now) (bind_phrase c.args.bind.now) c.args.made.now
    c.bind_structure.new.made (moment c.elab_str.new.g c.elab_str.new.t c.elab_str.new.top))
    c.from_residual-in_err-bind_structure.result fault.NoMemory c.from_residual-in_err-bind_structure.ensures.1
    (bind_of c.args.made.now c.args.bind.now (bind_memory
    (out-StrBind c.args.bind.now).name (module_phrase (str_phrase (out-StrBind c.args.bind.now).body))
    c.args.made.now c.bind_structure.new.made c.in_ok-env.ensures))

pub elab_bind-returns : goal.elab_bind-returns
elab_bind-returns t c =
    bind_of c.args.made.now c.args.bind.now (bind_done
    (out-StrBind c.args.bind.now).name (module_phrase (str_phrase (out-StrBind c.args.bind.now).body))
    c.args.made.now c.bind_structure.new.made c.requires.ready.there c.in_ok-check_structure.ensures c.in_ok-env.ensures
    c.requires.envs (c.in_ok-bind_structure.ensures.ok c.elab_str.new.g)
    (c.in_ok-bind_structure.ensures.there c.elab_str.new.g c.in_ok-env.ensures.has))
