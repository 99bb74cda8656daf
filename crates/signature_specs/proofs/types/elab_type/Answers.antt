use Rattle.std.proofs.Common.{◌≡◌, ◌∙◌, ap, sym, subst, List}
use Rattle.std.specs.Prelude.{Err}
use Rattle.semantic_objects.specs.declared.name.TyName.{TyName}
use Rattle.semantic_objects.specs.Environments.{Signature, empty_env, with_type}
use Rattle.sml_modules.specs.Graphs.{Graph}
use Rattle.name_trails.specs.Trails.{Rows}
use Rattle.static_semantics.specs.Inferring.{gives, name_at}
use Rattle.static_semantics.specs.TypeInference.{listed}
use Rattle.type_phrases.specs.Inferred.{Answers, progress}
use Rattle.module_semantics.specs.SigPhrases.{type_desc_phrase}
use Rattle.module_semantics.specs.SignatureInference.{specified}
use Rattle.signature_specs.specs.Specs.{signature_so_far, env_so_far}
use Rattle.signature_specs.proofs.Typing.{unlisted, untaken, specified_type}
use Rattle.std.proofs.Common.{ℕ, []}
use Rattle.signature_specs.proofs.types.elab_type.Goals as goal

pub returns-in_err-list_variables-clause-infers : goal.returns-in_err-list_variables-clause-infers
returns-in_err-list_variables-clause-infers c = λ inner home.
    let graph = c.args.g.now in
    unlisted inner c.args.eq (type_desc_phrase c.args.desc.now) (signature_so_far graph c.args.made.now) graph
    c.args.t.now c.list_variables.new.t home (λ (rows : Rows ℕ). (rows, progress c.list_variables.new.t graph)) _
    c.in_err-list_variables.field-0.0 c.from_residual.result c.from_residual.ensures.1
    (subst (λ names. Answers (listed inner names [] (progress c.args.t.now graph))
    (λ (rows : Rows ℕ). (rows, progress c.list_variables.new.t graph)) (Err c.in_err-list_variables.field-0.0))
    c.as_slice.ensures (c.in_err-list_variables.ensures.listed inner home))

pub returns-in_err-specify_type-clause-infers : goal.returns-in_err-specify_type-clause-infers
returns-in_err-specify_type-clause-infers c = λ inner home.
    let graph = c.args.g.now in
    let desc = type_desc_phrase c.args.desc.now in
    untaken inner c.args.eq desc (signature_so_far graph c.args.made.now) graph
    c.args.t.now c.list_variables.new.t home c.in_ok-list_variables.field-0 c.in_ok-name.name c.len.result
    c.in_ok-entry.entry
    (subst (λ names. listed inner names [] (progress c.args.t.now graph)
    ≡ gives (c.in_ok-list_variables.field-0, progress c.list_variables.new.t graph))
    c.as_slice.ensures (c.in_ok-list_variables.ensures.listed inner home))
    c.len.ensures c.in_ok-name.ensures.ok c.in_ok-entry.ensures
    (λ (x : Unit {0}). signature_so_far c.new_name.new.g c.specify_type.new.made) _
    c.in_err-specify_type.field-0.0 c.from_residual-in_err-specify_type.result
    c.from_residual-in_err-specify_type.ensures.1
    (subst (λ (h : Graph). Answers (specified inner (name_at desc.name)
    (with_type desc.name.text c.in_ok-entry.entry empty_env) (signature_so_far h c.args.made.now))
    (λ (x : Unit {0}). signature_so_far c.new_name.new.g c.specify_type.new.made) (Err c.in_err-specify_type.field-0.0))
    c.in_ok-name.ensures.made
    (c.in_err-specify_type.ensures.infers inner (home ∙ sym (ap (λ (h : Graph). h.home) c.in_ok-name.ensures.made))))

pub returns-clause-infers : goal.returns-clause-infers
returns-clause-infers c = λ inner home.
    let graph = c.args.g.now in
    let desc = type_desc_phrase c.args.desc.now in
    specified_type inner c.args.eq desc (signature_so_far graph c.args.made.now) graph
    c.args.t.now c.list_variables.new.t home c.in_ok-list_variables.field-0 c.in_ok-name.name c.len.result
    c.in_ok-entry.entry
    (subst (λ names. listed inner names [] (progress c.args.t.now graph)
    ≡ gives (c.in_ok-list_variables.field-0, progress c.list_variables.new.t graph))
    c.as_slice.ensures (c.in_ok-list_variables.ensures.listed inner home))
    c.len.ensures c.in_ok-name.ensures.ok c.in_ok-entry.ensures
    c.new_name.new.g (signature_so_far c.new_name.new.g c.specify_type.new.made) _
    c.in_ok-name.ensures.made
    (subst (λ (h : Graph). specified inner (name_at desc.name)
    (with_type desc.name.text c.in_ok-entry.entry empty_env) (signature_so_far h c.args.made.now)
    ≡ gives (signature_so_far c.new_name.new.g c.specify_type.new.made))
    c.in_ok-name.ensures.made
    (c.in_ok-specify_type.ensures.infers inner (home ∙ sym (ap (λ (h : Graph). h.home) c.in_ok-name.ensures.made))))
    (ap (λ (names : List TyName). (let sig : Signature = record {
      bound = names;
      env = env_so_far c.new_name.new.g c.specify_type.new.made;
    } in sig)) (sym c.in_ok-add.ensures.ok))

pub returns-clause-front : goal.returns-clause-front
returns-clause-front c =
    let front = c.in_ok-specify_type.ensures.front in
    record { structures = front.structures; types = front.types; values = front.values }
