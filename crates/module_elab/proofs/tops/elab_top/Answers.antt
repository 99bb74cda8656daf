use Rattle.std.proofs.Common.{refl, sym, ap, ◌∙◌, subst, map, List}
use Rattle.cm_base.specs.declared.fault.Fault.TheVariants as fault
use Rattle.sml_trees.specs.declared.exp.StrBind.{StrBind}
use Rattle.sml_trees.specs.declared.sig_exp.SigBind.{SigBind}
use Rattle.sml_trees.specs.declared.unit.FunBind.{FunBind}
use Rattle.sml_trees.specs.declared.unit.FunsigBind.{FunsigBind}
use Rattle.sml_modules.specs.Graphs.{HasEnv, HasSignature, HasFunctor}
use Rattle.type_phrases.proofs.PartsRead.{passed_on}
use Rattle.bare_phrases.specs.PhraseOf.{str_bind_phrase, str_binds}
use Rattle.module_semantics.specs.SigPhrases.{sig_binds}
use Rattle.unit_semantics.specs.UnitPhrases.{TopPhrase, module_binds, sig_bind_phrase, fun_phrase, funsig_phrase, top_phrase, read_binds, read_top}
use Rattle.module_scopes.specs.Tops.{AllRows}
use Rattle.structure_elab.specs.Moments.{moment}
use Rattle.module_elab.specs.Tops.{IsDefined}
use Rattle.module_elab.proofs.Declared.{as_top, define_memory, structures_fail, structures_defined, signatures_fail, signatures_defined, functors_fail, functors_defined, funsigs_fail, funsigs_defined}
use Rattle.module_elab.proofs.tops.elab_top.Goals as goal

pub elab_structures-requires-clause-made : goal.elab_structures-requires-clause-made
elab_structures-requires-clause-made c = subst (AllRows (HasEnv c.args.g.now)) (sym c.new-made.ensures) tt

pub returns-in_err-elab_structures-in-Structures : goal.returns-in_err-elab_structures-in-Structures
returns-in_err-elab_structures-in-Structures c =
    passed_on (IsDefined (moment c.args.g.now c.args.t.now c.args.top.now) (read_top c.args.sealing (top_phrase c.args.dec.now))
    (moment c.elab_structures.new.g c.elab_structures.new.t c.elab_structures.new.top)) c.from_residual.result
    c.in_err-elab_structures-in-Structures.field-0.0 c.from_residual.ensures.1
    (as_top (ap (λ d. read_top c.args.sealing (top_phrase d)) c.in-Structures.is
    ∙ ap (λ (binds : List StrBind). TopPhrase.Structures (read_binds c.args.sealing (module_binds (str_binds (map str_bind_phrase binds)))) c.in-Structures.field-1) (sym c.as_slice.ensures))
    (structures_fail c.args.sealing c.as_slice.result.now c.in-Structures.field-1 c.new-made.result c.elab_structures.new.made c.new-made.ensures c.in_err-elab_structures-in-Structures.ensures))

pub returns-in_err-define_structures-in-Structures : goal.returns-in_err-define_structures-in-Structures
returns-in_err-define_structures-in-Structures c =
    passed_on (IsDefined (moment c.args.g.now c.args.t.now c.args.top.now) (read_top c.args.sealing (top_phrase c.args.dec.now))
    (moment c.elab_structures.new.g c.elab_structures.new.t c.define_structures.new.self)) c.from_residual-in_err-define_structures-in-Structures.result
    fault.NoMemory c.from_residual-in_err-define_structures-in-Structures.ensures.1
    (define_memory (read_top c.args.sealing (top_phrase c.args.dec.now)) c.define_structures.new.self
    c.in_ok-elab_structures-in-Structures.ensures.goes)

pub returns-in_ok-define_structures-in-Structures : goal.returns-in_ok-define_structures-in-Structures
returns-in_ok-define_structures-in-Structures c =
    as_top (ap (λ d. read_top c.args.sealing (top_phrase d)) c.in-Structures.is
    ∙ ap (λ (binds : List StrBind). TopPhrase.Structures (read_binds c.args.sealing (module_binds (str_binds (map str_bind_phrase binds)))) c.in-Structures.field-1) (sym c.as_slice.ensures))
    (structures_defined c.args.sealing c.as_slice.result.now c.in-Structures.field-1 c.new-made.result c.elab_structures.new.made c.new-made.ensures c.define_structures.new.self c.in_ok-elab_structures-in-Structures.ensures c.in_ok-define_structures-in-Structures.ensures)

pub elab_signatures-requires-clause-made : goal.elab_signatures-requires-clause-made
elab_signatures-requires-clause-made c = subst (AllRows (HasSignature c.args.g.now)) (sym c.new-made-in-Signatures.ensures) tt

pub returns-in_err-elab_signatures-in-Signatures : goal.returns-in_err-elab_signatures-in-Signatures
returns-in_err-elab_signatures-in-Signatures c =
    passed_on (IsDefined (moment c.args.g.now c.args.t.now c.args.top.now) (read_top c.args.sealing (top_phrase c.args.dec.now))
    (moment c.elab_signatures.new.g c.elab_signatures.new.t c.elab_signatures.new.top)) c.from_residual-in_err-elab_signatures-in-Signatures.result
    c.in_err-elab_signatures-in-Signatures.field-0.0 c.from_residual-in_err-elab_signatures-in-Signatures.ensures.1
    (as_top (ap (λ d. read_top c.args.sealing (top_phrase d)) c.in-Signatures.is
    ∙ ap (λ (binds : List SigBind). TopPhrase.Signatures (sig_binds (map sig_bind_phrase binds)) c.in-Signatures.field-1) (sym c.as_slice-in-Signatures.ensures))
    (signatures_fail (map sig_bind_phrase c.as_slice-in-Signatures.result.now) c.in-Signatures.field-1 c.new-made-in-Signatures.result c.elab_signatures.new.made c.new-made-in-Signatures.ensures c.in_err-elab_signatures-in-Signatures.ensures))

pub returns-in_err-define_signatures-in-Signatures : goal.returns-in_err-define_signatures-in-Signatures
returns-in_err-define_signatures-in-Signatures c =
    passed_on (IsDefined (moment c.args.g.now c.args.t.now c.args.top.now) (read_top c.args.sealing (top_phrase c.args.dec.now))
    (moment c.elab_signatures.new.g c.elab_signatures.new.t c.define_signatures.new.self)) c.from_residual-in_err-define_signatures-in-Signatures.result
    fault.NoMemory c.from_residual-in_err-define_signatures-in-Signatures.ensures.1
    (define_memory (read_top c.args.sealing (top_phrase c.args.dec.now)) c.define_signatures.new.self
    c.in_ok-elab_signatures-in-Signatures.ensures.goes)

pub returns-in_ok-define_signatures-in-Signatures : goal.returns-in_ok-define_signatures-in-Signatures
returns-in_ok-define_signatures-in-Signatures c =
    as_top (ap (λ d. read_top c.args.sealing (top_phrase d)) c.in-Signatures.is
    ∙ ap (λ (binds : List SigBind). TopPhrase.Signatures (sig_binds (map sig_bind_phrase binds)) c.in-Signatures.field-1) (sym c.as_slice-in-Signatures.ensures))
    (signatures_defined (map sig_bind_phrase c.as_slice-in-Signatures.result.now) c.in-Signatures.field-1 c.new-made-in-Signatures.result c.elab_signatures.new.made c.new-made-in-Signatures.ensures c.define_signatures.new.self c.in_ok-elab_signatures-in-Signatures.ensures c.in_ok-define_signatures-in-Signatures.ensures)

pub elab_functors-requires-clause-made : goal.elab_functors-requires-clause-made
elab_functors-requires-clause-made c = subst (AllRows (HasFunctor c.args.g.now)) (sym c.new-made-in-Functors.ensures) tt

pub returns-in_err-elab_functors-in-Functors : goal.returns-in_err-elab_functors-in-Functors
returns-in_err-elab_functors-in-Functors c =
    passed_on (IsDefined (moment c.args.g.now c.args.t.now c.args.top.now) (read_top c.args.sealing (top_phrase c.args.dec.now))
    (moment c.elab_functors.new.g c.elab_functors.new.t c.elab_functors.new.top)) c.from_residual-in_err-elab_functors-in-Functors.result
    c.in_err-elab_functors-in-Functors.field-0.0 c.from_residual-in_err-elab_functors-in-Functors.ensures.1
    (as_top (ap (λ d. read_top c.args.sealing (top_phrase d)) c.in-Functors.is
    ∙ ap (λ (binds : List FunBind). TopPhrase.Functors (map fun_phrase binds) c.in-Functors.field-1) (sym c.as_slice-in-Functors.ensures))
    (functors_fail (map fun_phrase c.as_slice-in-Functors.result.now) c.in-Functors.field-1 c.new-made-in-Functors.result c.elab_functors.new.made c.new-made-in-Functors.ensures c.in_err-elab_functors-in-Functors.ensures))

pub returns-in_err-define_functors-in-Functors : goal.returns-in_err-define_functors-in-Functors
returns-in_err-define_functors-in-Functors c =
    passed_on (IsDefined (moment c.args.g.now c.args.t.now c.args.top.now) (read_top c.args.sealing (top_phrase c.args.dec.now))
    (moment c.elab_functors.new.g c.elab_functors.new.t c.define_functors.new.self)) c.from_residual-in_err-define_functors-in-Functors.result
    fault.NoMemory c.from_residual-in_err-define_functors-in-Functors.ensures.1
    (define_memory (read_top c.args.sealing (top_phrase c.args.dec.now)) c.define_functors.new.self
    c.in_ok-elab_functors-in-Functors.ensures.goes)

pub returns-in_ok-define_functors-in-Functors : goal.returns-in_ok-define_functors-in-Functors
returns-in_ok-define_functors-in-Functors c =
    as_top (ap (λ d. read_top c.args.sealing (top_phrase d)) c.in-Functors.is
    ∙ ap (λ (binds : List FunBind). TopPhrase.Functors (map fun_phrase binds) c.in-Functors.field-1) (sym c.as_slice-in-Functors.ensures))
    (functors_defined (map fun_phrase c.as_slice-in-Functors.result.now) c.in-Functors.field-1 c.new-made-in-Functors.result c.elab_functors.new.made c.new-made-in-Functors.ensures c.define_functors.new.self c.in_ok-elab_functors-in-Functors.ensures c.in_ok-define_functors-in-Functors.ensures)

pub elab_funsigs-requires-clause-made : goal.elab_funsigs-requires-clause-made
elab_funsigs-requires-clause-made c = subst (AllRows (HasFunctor c.args.g.now)) (sym c.new-made-in-Funsigs.ensures) tt

pub returns-in_err-elab_funsigs-in-Funsigs : goal.returns-in_err-elab_funsigs-in-Funsigs
returns-in_err-elab_funsigs-in-Funsigs c =
    passed_on (IsDefined (moment c.args.g.now c.args.t.now c.args.top.now) (read_top c.args.sealing (top_phrase c.args.dec.now))
    (moment c.elab_funsigs.new.g c.elab_funsigs.new.t c.elab_funsigs.new.top)) c.from_residual-in_err-elab_funsigs-in-Funsigs.result
    c.in_err-elab_funsigs-in-Funsigs.field-0.0 c.from_residual-in_err-elab_funsigs-in-Funsigs.ensures.1
    (as_top (ap (λ d. read_top c.args.sealing (top_phrase d)) c.in-Funsigs.is
    ∙ ap (λ (binds : List FunsigBind). TopPhrase.Funsigs (map funsig_phrase binds) c.in-Funsigs.field-1) (sym c.as_slice-in-Funsigs.ensures))
    (funsigs_fail (map funsig_phrase c.as_slice-in-Funsigs.result.now) c.in-Funsigs.field-1 c.new-made-in-Funsigs.result c.elab_funsigs.new.made c.new-made-in-Funsigs.ensures c.in_err-elab_funsigs-in-Funsigs.ensures))

pub returns-in_err-define_funsigs-in-Funsigs : goal.returns-in_err-define_funsigs-in-Funsigs
returns-in_err-define_funsigs-in-Funsigs c =
    passed_on (IsDefined (moment c.args.g.now c.args.t.now c.args.top.now) (read_top c.args.sealing (top_phrase c.args.dec.now))
    (moment c.elab_funsigs.new.g c.elab_funsigs.new.t c.define_funsigs.new.self)) c.from_residual-in_err-define_funsigs-in-Funsigs.result
    fault.NoMemory c.from_residual-in_err-define_funsigs-in-Funsigs.ensures.1
    (define_memory (read_top c.args.sealing (top_phrase c.args.dec.now)) c.define_funsigs.new.self
    c.in_ok-elab_funsigs-in-Funsigs.ensures.goes)

pub returns-in_ok-define_funsigs-in-Funsigs : goal.returns-in_ok-define_funsigs-in-Funsigs
returns-in_ok-define_funsigs-in-Funsigs c =
    as_top (ap (λ d. read_top c.args.sealing (top_phrase d)) c.in-Funsigs.is
    ∙ ap (λ (binds : List FunsigBind). TopPhrase.Funsigs (map funsig_phrase binds) c.in-Funsigs.field-1) (sym c.as_slice-in-Funsigs.ensures))
    (funsigs_defined (map funsig_phrase c.as_slice-in-Funsigs.result.now) c.in-Funsigs.field-1 c.new-made-in-Funsigs.result c.elab_funsigs.new.made c.new-made-in-Funsigs.ensures c.define_funsigs.new.self c.in_ok-elab_funsigs-in-Funsigs.ensures c.in_ok-define_funsigs-in-Funsigs.ensures)
