use Rattle.std.proofs.Common.{refl, sym, ap, ◌∙◌, true}
use Rattle.bare_phrases.specs.PhraseOf.{str_phrase}
use Rattle.bare_phrases.proofs.Forms.{str_phrase-Struct, str_phrase-Named, str_phrase-Transparent, str_phrase-Opaque, str_phrase-Functor, str_phrase-Within}
use Rattle.module_semantics.specs.SigPhrases.{sig_phrase}
use Rattle.unit_semantics.specs.UnitPhrases.{ModulePhrase, module_phrase, read_module}
use Rattle.unit_semantics.specs.StructureInference.{module_at}
use Rattle.structure_elab.proofs.Chains.{passed, there_kept}
use Rattle.structure_elab.proofs.Steps.{as_module}
use Rattle.structure_elab.proofs.Sealing.{sealed_first, sealed_done}
use Rattle.structure_elab.proofs.outermost.elab_sealed.Goals as goal

pub returns-in-Struct : goal.returns-in-Struct
returns-in-Struct c =
    as_module (ap (λ s. read_module true (module_phrase (str_phrase s))) c.in-Struct.is
    ∙ ap (λ p. read_module true (module_phrase p)) (str_phrase-Struct c.in-Struct.field-0 c.in-Struct.field-1)
    ∙ sym (ap (λ s. module_phrase (str_phrase s)) c.in-Struct.is ∙ ap module_phrase (str_phrase-Struct c.in-Struct.field-0 c.in-Struct.field-1)))
    c.elab_str.ensures

pub returns-in-Named : goal.returns-in-Named
returns-in-Named c =
    as_module (ap (λ s. read_module true (module_phrase (str_phrase s))) c.in-Named.is
    ∙ ap (λ p. read_module true (module_phrase p)) (str_phrase-Named c.in-Named.field-0 c.in-Named.field-1)
    ∙ sym (ap (λ s. module_phrase (str_phrase s)) c.in-Named.is ∙ ap module_phrase (str_phrase-Named c.in-Named.field-0 c.in-Named.field-1)))
    c.elab_str-in-Named.ensures

pub returns-in-Opaque : goal.returns-in-Opaque
returns-in-Opaque c =
    as_module (ap (λ s. read_module true (module_phrase (str_phrase s))) c.in-Opaque.is
    ∙ ap (λ p. read_module true (module_phrase p)) (str_phrase-Opaque c.in-Opaque.field-0 c.in-Opaque.field-1 c.in-Opaque.field-2)
    ∙ sym (ap (λ s. module_phrase (str_phrase s)) c.in-Opaque.is ∙ ap module_phrase (str_phrase-Opaque c.in-Opaque.field-0 c.in-Opaque.field-1 c.in-Opaque.field-2)))
    c.elab_str-in-Opaque.ensures

pub returns-in-Functor : goal.returns-in-Functor
returns-in-Functor c =
    as_module (ap (λ s. read_module true (module_phrase (str_phrase s))) c.in-Functor.is
    ∙ ap (λ p. read_module true (module_phrase p)) (str_phrase-Functor c.in-Functor.field-0 c.in-Functor.field-1 c.in-Functor.field-2)
    ∙ sym (ap (λ s. module_phrase (str_phrase s)) c.in-Functor.is ∙ ap module_phrase (str_phrase-Functor c.in-Functor.field-0 c.in-Functor.field-1 c.in-Functor.field-2)))
    c.elab_str-in-Functor.ensures

pub returns-in-Within : goal.returns-in-Within
returns-in-Within c =
    as_module (ap (λ s. read_module true (module_phrase (str_phrase s))) c.in-Within.is
    ∙ ap (λ p. read_module true (module_phrase p)) (str_phrase-Within c.in-Within.field-0 c.in-Within.field-1 c.in-Within.field-2)
    ∙ sym (ap (λ s. module_phrase (str_phrase s)) c.in-Within.is ∙ ap module_phrase (str_phrase-Within c.in-Within.field-0 c.in-Within.field-1 c.in-Within.field-2)))
    c.elab_str-in-Within.ensures

pub seal-requires-clause-there : goal.seal-requires-clause-there
seal-requires-clause-there c = there_kept c.requires.there c.in_ok-env-in-Transparent.ensures.goes
    c.in_ok-env-in-Transparent.ensures.left

pub seal-requires-clause-env : goal.seal-requires-clause-env
seal-requires-clause-env c = c.in_ok-env-in-Transparent.ensures.has

pub returns-in_err-env-in-Transparent : goal.returns-in_err-env-in-Transparent
returns-in_err-env-in-Transparent c =
    passed c.from_residual.result c.in_err-env-in-Transparent.field-0.0 c.from_residual.ensures.1
    (as_module (ap (λ s. read_module true (module_phrase (str_phrase s))) c.in-Transparent.is
    ∙ ap (λ p. read_module true (module_phrase p)) (str_phrase-Transparent c.in-Transparent.inner c.in-Transparent.sig c.in-Transparent.field-2)
    ∙ ap (λ s. ModulePhrase.Opaque (module_phrase (str_phrase s)) (sig_phrase c.in-Transparent.sig)
    c.in-Transparent.field-2) (sym c.get.ensures))
    (sealed_first (module_phrase (str_phrase c.get.result.now)) (sig_phrase c.in-Transparent.sig)
    c.in-Transparent.field-2 c.in_err-env-in-Transparent.ensures))

pub returns-in_ok-env-in-Transparent : goal.returns-in_ok-env-in-Transparent
returns-in_ok-env-in-Transparent c =
    as_module (ap (λ s. read_module true (module_phrase (str_phrase s))) c.in-Transparent.is
    ∙ ap (λ p. read_module true (module_phrase p)) (str_phrase-Transparent c.in-Transparent.inner c.in-Transparent.sig c.in-Transparent.field-2)
    ∙ ap (λ s. ModulePhrase.Opaque (module_phrase (str_phrase s)) (sig_phrase c.in-Transparent.sig)
    c.in-Transparent.field-2) (sym c.get.ensures))
    (sealed_done (module_phrase (str_phrase c.get.result.now)) (sig_phrase c.in-Transparent.sig)
    c.in-Transparent.field-2 c.place_of_str.result
    (c.place_of_str.ensures ∙ ap (λ s. module_at (module_phrase (str_phrase s))) (c.get-in-Transparent.ensures ∙ sym c.get.ensures)) c.requires.there
    c.in_ok-env-in-Transparent.ensures c.seal.ensures)
