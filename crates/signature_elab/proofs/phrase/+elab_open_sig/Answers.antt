use Rattle.std.proofs.Common.{sym, ap, ap₂, ◌∙◌, map, List}
use Rattle.cm_base.specs.declared.fault.Fault.TheVariants as fault
use Rattle.sml_trees.specs.declared.sig_exp.SigBind.{SigBind, out-SigBind}
use Rattle.sml_trees.specs.declared.sig_exp.Spec.{Spec}
use Rattle.bare_phrases.specs.PhraseOf.{ty_phrase, con_phrase, dat_phrase}
use Rattle.type_phrases.proofs.PartsRead.{drop_item, drop_end}
use Rattle.module_semantics.specs.SigPhrases.{SigPhrase, SpecPhrase, sig_binds, sig_phrase, spec_phrase, spec_phrases, val_phrase, type_desc_phrase}
use Rattle.signature_parts.specs.Ending.{structure_specified, included}
use Rattle.signature_parts.proofs.Elaborated.{grows_nodes, spec_passed, spec_memory, list_passed, sig_passed, listed_bound, listed_fails}
use Rattle.signature_elab.specs.Phrases.{bind_phrase, signatures_seen}
use Rattle.signature_elab.proofs.Forms.{sig_phrase-Sig, sig_phrase-Named, sig_phrase-Where, spec_phrase-Vals, spec_phrase-Types, spec_phrase-Eqtypes, spec_phrase-Datatypes, spec_phrase-Replication, spec_phrase-Exceptions, spec_phrase-Structures, spec_phrase-Include, spec_phrase-Sequence, bind_phrase-kept}
use Rattle.signature_elab.proofs.Chaining.{as_sig, as_spec, as_structure, sig_fails, sig_ends, sig_used, where_fails, where_goes, added_fails, added, structures_begin, structures_next, structures_fail, structures_end, structures_ready, specs_begin, specs_next, specs_fail, specs_end, specs_ready, signatures_kept, first_ready, names_self, names_then, as_replicated, top_same}
use Rattle.signature_elab.proofs.phrase.+elab_open_sig.Goals as goal

-- ---- structures

pub elab_structures-loop-bind-init : goal.elab_structures-loop-bind-init
elab_structures-loop-bind-init t c = record {
  listed = structures_begin (signatures_seen c.args.g.now c.args.top.now) c.args.g.now c.args.t.now c.args.made.now
      c.args.top.now.core (sig_binds (map bind_phrase c.args.binds.now)) c.requires.envs;
  names = names_self c.args.top.now;
}

pub elab_structures-loop-bind-preserved : goal.elab_structures-loop-bind-preserved
elab_structures-loop-bind-preserved t c = record {
  listed = structures_next c.loop-bind.invariant.listed
      (ap (λ (binds : List SigBind). sig_binds (map bind_phrase binds))
      (drop_item c.args.binds.now c.loop-bind.bind-index c.bind-item.result c.loop-bind-test.true c.bind-item.is))
      (signatures_kept c.loop-bind.invariant.listed.graph c.requires.ready c.loop-bind.invariant.names)
      c.requires.ready.core c.in_ok-elab_structure.ensures.phrase;
  names = names_then c.loop-bind.invariant.names c.in_ok-elab_structure.ensures.names;
}

pub elab_structures-returns-in_err-elab_structure-clause-phrase :
    goal.elab_structures-returns-in_err-elab_structure-clause-phrase
elab_structures-returns-in_err-elab_structure-clause-phrase t c =
    list_passed c.from_residual.result c.in_err-elab_structure.field-0.0 c.from_residual.ensures.1
    (structures_fail c.loop-bind.invariant.listed
    (ap (λ (binds : List SigBind). sig_binds (map bind_phrase binds))
    (drop_item c.args.binds.now c.loop-bind.bind-index c.bind-item.result c.loop-bind-test.true c.bind-item.is))
    (signatures_kept c.loop-bind.invariant.listed.graph c.requires.ready c.loop-bind.invariant.names)
    c.requires.ready.core c.in_err-elab_structure.ensures.phrase)

pub elab_structures-returns-in_err-elab_structure-clause-names :
    goal.elab_structures-returns-in_err-elab_structure-clause-names
elab_structures-returns-in_err-elab_structure-clause-names t c =
    names_then c.loop-bind.invariant.names c.in_err-elab_structure.ensures.names

pub elab_structures-returns-clause-phrase : goal.elab_structures-returns-clause-phrase
elab_structures-returns-clause-phrase t c =
    structures_end c.loop-bind.invariant.listed
    (ap (λ (binds : List SigBind). sig_binds (map bind_phrase binds))
    (drop_end c.args.binds.now c.loop-bind.bind-index c.loop-bind-test.false))

pub elab_structures-returns-clause-names : goal.elab_structures-returns-clause-names
elab_structures-returns-clause-names t c = c.loop-bind.invariant.names

-- ---- specifications

pub elab_specs-loop-spec-init : goal.elab_specs-loop-spec-init
elab_specs-loop-spec-init t c = record {
  listed = specs_begin (signatures_seen c.args.g.now c.args.top.now) c.args.g.now c.args.t.now c.args.made.now
      c.args.top.now.core (spec_phrases (map spec_phrase c.args.specs.now)) c.requires.envs c.requires.ready.core
      c.mark.ensures.front;
  names = names_self c.args.top.now;
}

pub elab_specs-loop-spec-preserved : goal.elab_specs-loop-spec-preserved
elab_specs-loop-spec-preserved t c = record {
  listed = specs_next c.loop-spec.invariant.listed c.requires.own
      (ap (λ (specs : List Spec). spec_phrases (map spec_phrase specs))
      (drop_item c.args.specs.now c.loop-spec.spec-index c.spec-item.result c.loop-spec-test.true c.spec-item.is))
      (signatures_kept c.loop-spec.invariant.listed.graph c.requires.ready c.loop-spec.invariant.names)
      c.in_ok-elab_spec.ensures.phrase;
  names = names_then c.loop-spec.invariant.names c.in_ok-elab_spec.ensures.names;
}

pub elab_specs-returns-in_err-elab_spec-clause-phrase : goal.elab_specs-returns-in_err-elab_spec-clause-phrase
elab_specs-returns-in_err-elab_spec-clause-phrase t c =
    spec_passed c.from_residual.result c.in_err-elab_spec.field-0.0 c.from_residual.ensures.1
    (specs_fail c.loop-spec.invariant.listed c.requires.own
    (ap (λ (specs : List Spec). spec_phrases (map spec_phrase specs))
    (drop_item c.args.specs.now c.loop-spec.spec-index c.spec-item.result c.loop-spec-test.true c.spec-item.is))
    (signatures_kept c.loop-spec.invariant.listed.graph c.requires.ready c.loop-spec.invariant.names)
    c.in_err-elab_spec.ensures.phrase)

pub elab_specs-returns-in_err-elab_spec-clause-names : goal.elab_specs-returns-in_err-elab_spec-clause-names
elab_specs-returns-in_err-elab_spec-clause-names t c =
    names_then c.loop-spec.invariant.names c.in_err-elab_spec.ensures.names

pub elab_specs-returns-clause-phrase : goal.elab_specs-returns-clause-phrase
elab_specs-returns-clause-phrase t c =
    specs_end c.loop-spec.invariant.listed
    (ap (λ (specs : List Spec). spec_phrases (map spec_phrase specs))
    (drop_end c.args.specs.now c.loop-spec.spec-index c.loop-spec-test.false))

pub elab_specs-returns-clause-names : goal.elab_specs-returns-clause-names
elab_specs-returns-clause-names t c = c.loop-spec.invariant.names

-- ---- signatures that are added

pub elab_structure-returns-in_err-open-clause-phrase : goal.elab_structure-returns-in_err-open-clause-phrase
elab_structure-returns-in_err-open-clause-phrase t c =
    list_passed c.from_residual.result c.in_err-open.field-0.0 c.from_residual.ensures.1
    (as_structure (signatures_seen c.args.g.now c.args.top.now) (bind_phrase-kept c.args.bind.now)
    (added_fails (signatures_seen c.args.g.now c.args.top.now) (sig_phrase (out-SigBind c.args.bind.now).sig) (λ inner sig so. structure_specified inner (out-SigBind c.args.bind.now).name sig so)
    c.in_err-open.ensures.phrase))

pub elab_structure-returns-clause-phrase : goal.elab_structure-returns-clause-phrase
elab_structure-returns-clause-phrase t c =
    as_structure (signatures_seen c.args.g.now c.args.top.now) (bind_phrase-kept c.args.bind.now)
    (added (signatures_seen c.args.g.now c.args.top.now) (sig_phrase (out-SigBind c.args.bind.now).sig) (λ inner sig so. structure_specified inner (out-SigBind c.args.bind.now).name sig so) c.requires.ready.core
    c.requires.envs c.in_ok-open.ensures.phrase c.specify_structure.ensures.infers c.specify_structure.ensures.front
    c.specify_structure.ensures.envs)

pub elab_included-returns-in_err-open-clause-phrase : goal.elab_included-returns-in_err-open-clause-phrase
elab_included-returns-in_err-open-clause-phrase t c =
    list_passed c.from_residual.result c.in_err-open.field-0.0 c.from_residual.ensures.1
    (added_fails (signatures_seen c.args.g.now c.args.top.now) (sig_phrase c.args.sig.now) (λ inner sig so. included inner c.args.at sig so) c.in_err-open.ensures.phrase)

pub elab_included-returns-clause-phrase : goal.elab_included-returns-clause-phrase
elab_included-returns-clause-phrase t c =
    added (signatures_seen c.args.g.now c.args.top.now) (sig_phrase c.args.sig.now) (λ inner sig so. included inner c.args.at sig so) c.requires.ready.core c.requires.envs
    c.in_ok-open.ensures.phrase c.include.ensures.infers c.include.ensures.front c.include.ensures.envs

-- ---- signature expressions

pub elab_open_sig-returns-in_err-elab_spec-in-Sig-clause-phrase :
    goal.elab_open_sig-returns-in_err-elab_spec-in-Sig-clause-phrase
elab_open_sig-returns-in_err-elab_spec-in-Sig-clause-phrase t c =
    sig_passed c.from_residual.result c.in_err-elab_spec-in-Sig.field-0.0 c.from_residual.ensures.1
    (as_sig (signatures_seen c.args.g.now c.args.top.now) (ap sig_phrase c.in-Sig.is ∙ sig_phrase-Sig c.in-Sig.spec c.in-Sig.field-1
    ∙ ap (λ s. SigPhrase.Sig (spec_phrase s) c.in-Sig.field-1) (sym c.get.ensures))
    (sig_fails (signatures_seen c.args.g.now c.args.top.now) (spec_phrase c.get.result.now) c.in-Sig.field-1 (c.new-made.ensures.empty c.args.g.now) c.in_err-elab_spec-in-Sig.ensures.phrase))

pub elab_open_sig-returns-in_ok-end_signature-in-Sig-clause-phrase :
    goal.elab_open_sig-returns-in_ok-end_signature-in-Sig-clause-phrase
elab_open_sig-returns-in_ok-end_signature-in-Sig-clause-phrase t c =
    as_sig (signatures_seen c.args.g.now c.args.top.now) (ap sig_phrase c.in-Sig.is ∙ sig_phrase-Sig c.in-Sig.spec c.in-Sig.field-1
    ∙ ap (λ s. SigPhrase.Sig (spec_phrase s) c.in-Sig.field-1) (sym c.get.ensures))
    (sig_ends (signatures_seen c.args.g.now c.args.top.now) (spec_phrase c.get.result.now) c.in-Sig.field-1 (c.new-made.ensures.empty c.args.g.now) c.in_ok-elab_spec-in-Sig.ensures.phrase
    c.in_ok-end_signature-in-Sig.ensures.ok
    (c.leave.ensures c.args.top.now.core c.mark-before.ensures.is
    c.in_ok-elab_spec-in-Sig.ensures.phrase.bound.behind))

pub elab_open_sig-returns-in-Named-clause-phrase : goal.elab_open_sig-returns-in-Named-clause-phrase
elab_open_sig-returns-in-Named-clause-phrase t c =
    as_sig (signatures_seen c.args.g.now c.args.top.now) (ap sig_phrase c.in-Named.is ∙ sig_phrase-Named c.in-Named.name c.in-Named.field-1)
    (sig_used (signatures_seen c.args.g.now c.args.top.now) c.in-Named.name c.in-Named.field-1 c.use_signature.result c.use_signature.ensures.infers
    c.use_signature.ensures.there c.use_signature.ensures.grows)

pub elab_open_sig-returns-in_err-open-in-Where-clause-phrase :
    goal.elab_open_sig-returns-in_err-open-in-Where-clause-phrase
elab_open_sig-returns-in_err-open-in-Where-clause-phrase t c =
    sig_passed c.from_residual-in_err-open-in-Where.result c.in_err-open-in-Where.field-0.0
    c.from_residual-in_err-open-in-Where.ensures.1
    (as_sig (signatures_seen c.args.g.now c.args.top.now) (ap sig_phrase c.in-Where.is
    ∙ sig_phrase-Where c.in-Where.sig c.in-Where.tyvars c.in-Where.long c.in-Where.ty c.in-Where.at
    ∙ ap (λ s. SigPhrase.Where (sig_phrase s) c.in-Where.tyvars c.in-Where.long (ty_phrase c.in-Where.ty) c.in-Where.at)
    (sym c.get-in-Where.ensures))
    (where_fails (signatures_seen c.args.g.now c.args.top.now) (sig_phrase c.get-in-Where.result.now) c.in-Where.tyvars c.in-Where.long (ty_phrase c.in-Where.ty) c.in-Where.at
    c.in_err-open-in-Where.ensures.phrase))

pub elab_open_sig-returns-in_ok-open-in-Where-clause-phrase :
    goal.elab_open_sig-returns-in_ok-open-in-Where-clause-phrase
elab_open_sig-returns-in_ok-open-in-Where-clause-phrase t c =
    as_sig (signatures_seen c.args.g.now c.args.top.now) (ap sig_phrase c.in-Where.is
    ∙ sig_phrase-Where c.in-Where.sig c.in-Where.tyvars c.in-Where.long c.in-Where.ty c.in-Where.at
    ∙ ap₂ (λ s vs. SigPhrase.Where (sig_phrase s) vs c.in-Where.long (ty_phrase c.in-Where.ty) c.in-Where.at)
    (sym c.get-in-Where.ensures) (sym c.as_slice.ensures))
    (where_goes (signatures_seen c.args.g.now c.args.top.now) (sig_phrase c.get-in-Where.result.now) c.as_slice.result.now c.in-Where.long (ty_phrase c.in-Where.ty) c.in-Where.at c.requires.core
    c.in_ok-open-in-Where.ensures.phrase c.elab_where.ensures.infers c.elab_where.ensures.there
    c.elab_where.ensures.keeps (grows_nodes c.elab_where.ensures.graph) c.elab_where.ensures.scope)

-- ---- specifications by their forms

pub elab_spec-returns-in-Vals-clause-phrase : goal.elab_spec-returns-in-Vals-clause-phrase
elab_spec-returns-in-Vals-clause-phrase t c =
    as_spec (signatures_seen c.args.g.now c.args.top.now) (ap spec_phrase c.in-Vals.is ∙ spec_phrase-Vals c.in-Vals.descs c.in-Vals.field-1
    ∙ ap (λ x. SpecPhrase.Vals (map val_phrase x) c.in-Vals.field-1) (sym c.as_slice.ensures)) c.vals.ensures

pub elab_spec-returns-in-Types-clause-phrase : goal.elab_spec-returns-in-Types-clause-phrase
elab_spec-returns-in-Types-clause-phrase t c =
    as_spec (signatures_seen c.args.g.now c.args.top.now) (ap spec_phrase c.in-Types.is ∙ spec_phrase-Types c.in-Types.descs c.in-Types.field-1
    ∙ ap (λ x. SpecPhrase.Types (map type_desc_phrase x) c.in-Types.field-1) (sym c.as_slice-in-Types.ensures)) c.types.ensures

pub elab_spec-returns-in-Eqtypes-clause-phrase : goal.elab_spec-returns-in-Eqtypes-clause-phrase
elab_spec-returns-in-Eqtypes-clause-phrase t c =
    as_spec (signatures_seen c.args.g.now c.args.top.now) (ap spec_phrase c.in-Eqtypes.is ∙ spec_phrase-Eqtypes c.in-Eqtypes.descs c.in-Eqtypes.field-1
    ∙ ap (λ x. SpecPhrase.Eqtypes (map type_desc_phrase x) c.in-Eqtypes.field-1) (sym c.as_slice-in-Eqtypes.ensures)) c.types-in-Eqtypes.ensures

pub elab_spec-returns-in-Datatypes-clause-phrase : goal.elab_spec-returns-in-Datatypes-clause-phrase
elab_spec-returns-in-Datatypes-clause-phrase t c =
    as_spec (signatures_seen c.args.g.now c.args.top.now) (ap spec_phrase c.in-Datatypes.is ∙ spec_phrase-Datatypes c.in-Datatypes.binds c.in-Datatypes.field-1
    ∙ ap (λ x. SpecPhrase.Datatypes (map dat_phrase x) c.in-Datatypes.field-1) (sym c.as_slice-in-Datatypes.ensures)) c.datatypes.ensures

pub elab_spec-returns-in-Exceptions-clause-phrase : goal.elab_spec-returns-in-Exceptions-clause-phrase
elab_spec-returns-in-Exceptions-clause-phrase t c =
    as_spec (signatures_seen c.args.g.now c.args.top.now) (ap spec_phrase c.in-Exceptions.is ∙ spec_phrase-Exceptions c.in-Exceptions.cons c.in-Exceptions.field-1
    ∙ ap (λ x. SpecPhrase.Exceptions (map con_phrase x) c.in-Exceptions.field-1) (sym c.as_slice-in-Exceptions.ensures)) c.exceptions.ensures

pub elab_spec-returns-in-Replication-clause-phrase : goal.elab_spec-returns-in-Replication-clause-phrase
elab_spec-returns-in-Replication-clause-phrase t c =
    as_spec (signatures_seen c.args.g.now c.args.top.now) (ap spec_phrase c.in-Replication.is
    ∙ spec_phrase-Replication c.in-Replication.name c.in-Replication.long c.in-Replication.field-2)
    (as_replicated (signatures_seen c.args.g.now c.args.top.now) c.in-Replication.name c.in-Replication.long
    c.in-Replication.field-2 c.replication.ensures)

pub elab_spec-returns-in-Sequence-clause-phrase : goal.elab_spec-returns-in-Sequence-clause-phrase
elab_spec-returns-in-Sequence-clause-phrase t c =
    as_spec (signatures_seen c.args.g.now c.args.top.now) (ap spec_phrase c.in-Sequence.is ∙ spec_phrase-Sequence c.in-Sequence.specs c.in-Sequence.field-1
    ∙ ap (λ x. SpecPhrase.Sequence (spec_phrases (map spec_phrase x)) c.in-Sequence.field-1)
    (sym c.as_slice-in-Sequence.ensures)) c.elab_specs.ensures.phrase

pub elab_spec-returns-in_err-elab_structures-in-Structures-clause-phrase :
    goal.elab_spec-returns-in_err-elab_structures-in-Structures-clause-phrase
elab_spec-returns-in_err-elab_structures-in-Structures-clause-phrase t c =
    spec_passed c.from_residual.result c.in_err-elab_structures-in-Structures.field-0.0 c.from_residual.ensures.1
    (as_spec (signatures_seen c.args.g.now c.args.top.now) (ap spec_phrase c.in-Structures.is ∙ spec_phrase-Structures c.in-Structures.binds c.in-Structures.field-1
    ∙ ap (λ x. SpecPhrase.Structures (sig_binds (map bind_phrase x)) c.in-Structures.field-1)
    (sym c.as_slice-in-Structures.ensures))
    (listed_fails c.in_err-elab_structures-in-Structures.field-0.0 c.in_err-elab_structures-in-Structures.ensures.phrase))

pub elab_spec-returns-in_err-bind_since-in-Structures-clause-phrase :
    goal.elab_spec-returns-in_err-bind_since-in-Structures-clause-phrase
elab_spec-returns-in_err-bind_since-in-Structures-clause-phrase t c =
    spec_passed c.from_residual-in_err-bind_since-in-Structures.result fault.NoMemory c.from_residual-in_err-bind_since-in-Structures.ensures.1
    (spec_memory c.in_ok-elab_structures-in-Structures.ensures.phrase.keeps c.in_ok-elab_structures-in-Structures.ensures.phrase.graph)

pub elab_spec-returns-in_ok-bind_since-in-Structures-clause-phrase :
    goal.elab_spec-returns-in_ok-bind_since-in-Structures-clause-phrase
elab_spec-returns-in_ok-bind_since-in-Structures-clause-phrase t c =
    as_spec (signatures_seen c.args.g.now c.args.top.now) (ap spec_phrase c.in-Structures.is ∙ spec_phrase-Structures c.in-Structures.binds c.in-Structures.field-1
    ∙ ap (λ x. SpecPhrase.Structures (sig_binds (map bind_phrase x)) c.in-Structures.field-1)
    (sym c.as_slice-in-Structures.ensures))
    (listed_bound c.requires.envs c.requires.ready.core c.in_ok-elab_structures-in-Structures.ensures.phrase
    (λ graph first e. c.in_ok-bind_since-in-Structures.ensures.ok graph first (c.mark-before.ensures ∙ e)))

pub elab_spec-returns-in_err-elab_included-in-Include-clause-phrase :
    goal.elab_spec-returns-in_err-elab_included-in-Include-clause-phrase
elab_spec-returns-in_err-elab_included-in-Include-clause-phrase t c =
    spec_passed c.from_residual-in_err-elab_included-in-Include.result c.in_err-elab_included-in-Include.field-0.0 c.from_residual-in_err-elab_included-in-Include.ensures.1
    (as_spec (signatures_seen c.args.g.now c.args.top.now) (ap spec_phrase c.in-Include.is ∙ spec_phrase-Include c.in-Include.sig c.in-Include.at
    ∙ ap (λ x. SpecPhrase.Include (sig_phrase x) c.in-Include.at) (sym c.get.ensures))
    (listed_fails c.in_err-elab_included-in-Include.field-0.0 c.in_err-elab_included-in-Include.ensures.phrase))

pub elab_spec-returns-in_err-bind_since-in-Include-clause-phrase :
    goal.elab_spec-returns-in_err-bind_since-in-Include-clause-phrase
elab_spec-returns-in_err-bind_since-in-Include-clause-phrase t c =
    spec_passed c.from_residual-in_err-bind_since-in-Include.result fault.NoMemory c.from_residual-in_err-bind_since-in-Include.ensures.1
    (spec_memory c.in_ok-elab_included-in-Include.ensures.phrase.keeps c.in_ok-elab_included-in-Include.ensures.phrase.graph)

pub elab_spec-returns-in_ok-bind_since-in-Include-clause-phrase :
    goal.elab_spec-returns-in_ok-bind_since-in-Include-clause-phrase
elab_spec-returns-in_ok-bind_since-in-Include-clause-phrase t c =
    as_spec (signatures_seen c.args.g.now c.args.top.now) (ap spec_phrase c.in-Include.is ∙ spec_phrase-Include c.in-Include.sig c.in-Include.at
    ∙ ap (λ x. SpecPhrase.Include (sig_phrase x) c.in-Include.at) (sym c.get.ensures))
    (listed_bound c.requires.envs c.requires.ready.core c.in_ok-elab_included-in-Include.ensures.phrase
    (λ graph first e. c.in_ok-bind_since-in-Include.ensures.ok graph first (c.mark-before-in-Include.ensures ∙ e)))

-- ---- what is asked of calls

pub elab_open_sig-is_ready_in-requires : goal.elab_open_sig-is_ready_in-requires
elab_open_sig-is_ready_in-requires t c =
    first_ready c.new-made.result (c.new-made.ensures.empty c.args.g.now) c.new-made.ensures.structures c.requires

pub elab_open_sig-elab_where-requires-clause-scope : goal.elab_open_sig-elab_where-requires-clause-scope
elab_open_sig-elab_where-requires-clause-scope t c =
    (top_same c.in_ok-open-in-Where.ensures.phrase.graph c.requires c.in_ok-open-in-Where.ensures.names
    c.in_ok-open-in-Where.ensures.phrase.scope).core

pub elab_specs-is_ready_in-requires : goal.elab_specs-is_ready_in-requires
elab_specs-is_ready_in-requires t c = specs_ready c.loop-spec.invariant c.requires

pub elab_structures-is_ready-requires-clause-ready : goal.elab_structures-is_ready-requires-clause-ready
elab_structures-is_ready-requires-clause-ready t c = structures_ready c.loop-bind.invariant c.requires.ready
