use Rattle.std.proofs.Common.{◌≡◌, ℕ, refl, sym, ap, ap₂, subst, ◌∙◌}
use Rattle.bare_phrases.specs.PhraseOf.{ty_phrase}
use Rattle.semantic_objects.specs.Environments.{Signature}
use Rattle.semantic_objects.specs.declared.entry.TypeFn.{TypeFn}
use Rattle.semantic_objects.specs.declared.name.TyName.{TyName}
use Rattle.sml_modules.specs.Graphs.{Graph, signature_of}
use Rattle.name_trails.specs.Trails.{Rows}
use Rattle.static_semantics.specs.Inferring.{Progress}
use Rattle.module_semantics.specs.SignatureInference.{with_function}
use Rattle.type_phrases.specs.Inferred.{progress, scope_in}
use Rattle.type_phrases.proofs.Keeping.{keeps_later}
use Rattle.signature_specs.proofs.Listing.{list_made}
use Rattle.where_types.proofs.TypeFunctions.{grown_progress}
use Rattle.where_types.proofs.Wheres.{unlisted, unfound, untyped, unfit, replaced_by}
use Rattle.where_types.proofs.whole.elab_where.Goals as goal

pub function_under-requires-clause-list : goal.function_under-requires-clause-list
function_under-requires-clause-list g c =
    (list_made c.args.g.now c.args.t.now c.list_variables.new.t c.args.tyvars.now c.args.tyvars.now c.in_ok-list.list
    c.is_kept.ensures refl c.in_ok-list.ensures.made (λ inner home. c.in_ok-list.ensures.listed inner home)).there

pub returns-in_err-list-clause-infers : goal.returns-in_err-list-clause-infers
returns-in_err-list-clause-infers g c = λ u read.
    let graph = c.args.g.now in
    let inner = scope_in graph u read c.args.scope.now in
    unlisted inner c.args.tyvars.now c.args.long.now (ty_phrase c.args.ty.now) c.args.at
    (signature_of graph c.args.sig.now) (progress c.args.t.now graph)
    (λ (rows : Rows ℕ). (rows, progress c.list_variables.new.t graph)) _ c.in_err-list.field-0.0
    c.from_residual.result c.from_residual.ensures.1 (c.in_err-list.ensures.listed inner refl)

pub returns-in_err-old-clause-infers : goal.returns-in_err-old-clause-infers
returns-in_err-old-clause-infers g c = λ u read.
    let graph = c.args.g.now in
    let inner = scope_in graph u read c.args.scope.now in
    unfound inner c.args.tyvars.now c.args.long.now (ty_phrase c.args.ty.now) c.args.at
    (signature_of graph c.args.sig.now) (progress c.args.t.now graph)
    (c.in_ok-list.list, progress c.list_variables.new.t graph) (c.in_ok-list.ensures.listed inner refl)
    (λ (function : TypeFn). function) _ c.in_err-old.field-0.0 c.from_residual-in_err-old.result
    c.from_residual-in_err-old.ensures.1 (c.in_err-old.ensures inner refl)

pub returns-in_err-by-clause-infers : goal.returns-in_err-by-clause-infers
returns-in_err-by-clause-infers g c = λ u read.
    let graph = c.args.g.now in
    let inner = scope_in graph u read c.args.scope.now in
    untyped inner c.args.tyvars.now c.args.long.now (ty_phrase c.args.ty.now) c.args.at
    (signature_of graph c.args.sig.now) (progress c.args.t.now graph)
    (c.in_ok-list.list, progress c.list_variables.new.t graph) (c.in_ok-list.ensures.listed inner refl)
    c.in_ok-old.old (c.in_ok-old.ensures inner refl) (λ (function : TypeFn). function) _ c.in_err-by.field-0.0
    c.from_residual-in_err-by.result c.from_residual-in_err-by.ensures.1 (c.in_err-by.ensures.infers u read)

pub returns-in_err-name-clause-infers : goal.returns-in_err-name-clause-infers
returns-in_err-name-clause-infers g c = λ u read.
    let graph = c.args.g.now in
    let inner = scope_in graph u read c.args.scope.now in
    let sig = signature_of graph c.args.sig.now in
    unfit inner c.args.tyvars.now c.args.long.now (ty_phrase c.args.ty.now) c.args.at sig
    (progress c.args.t.now graph) (c.in_ok-list.list, progress c.list_variables.new.t graph)
    (c.in_ok-list.ensures.listed inner refl) c.in_ok-old.old (c.in_ok-old.ensures inner refl) c.in_ok-by.by
    (c.in_ok-by.ensures.infers u read) (λ (name : TyName). with_function name c.in_ok-by.by sig) _
    c.in_err-name.field-0.0 c.from_residual-in_err-name.result c.from_residual-in_err-name.ensures.1
    (c.in_err-name.ensures inner sig refl refl)

pub returns-clause-infers : goal.returns-clause-infers
returns-clause-infers g c = λ u read.
    let graph = c.args.g.now in
    let inner = scope_in graph u read c.args.scope.now in
    let sig = signature_of graph c.args.sig.now in
    replaced_by inner c.args.tyvars.now c.args.long.now (ty_phrase c.args.ty.now) c.args.at sig
    (progress c.args.t.now graph) (c.in_ok-list.list, progress c.list_variables.new.t graph)
    (c.in_ok-list.ensures.listed inner refl) c.in_ok-old.old (c.in_ok-old.ensures inner refl) c.in_ok-by.by
    (c.in_ok-by.ensures.infers u read) (with_function c.in_ok-name.name c.in_ok-by.by sig)
    (signature_of c.put_function.new.g c.in_ok-put_function.field-0)
    (progress c.function_under.new.t c.put_function.new.g) (c.in_ok-name.ensures inner sig refl refl)
    c.in_ok-put_function.ensures.ok.is
    (grown_progress graph c.put_function.new.g c.list_variables.new.t c.function_under.new.t
    c.in_ok-put_function.ensures.ok.grows.made c.in_ok-by.ensures.makes.state)

pub returns-in_err-name-clause-keeps : goal.returns-in_err-name-clause-keeps
returns-in_err-name-clause-keeps g c =
    keeps_later c.args.t.now c.list_variables.new.t c.function_under.new.t c.in_ok-list.ensures.ids
    c.in_ok-by.ensures.makes.keeps

pub returns-in_err-put_function-clause-keeps : goal.returns-in_err-put_function-clause-keeps
returns-in_err-put_function-clause-keeps g c =
    keeps_later c.args.t.now c.list_variables.new.t c.function_under.new.t c.in_ok-list.ensures.ids
    c.in_ok-by.ensures.makes.keeps

pub returns-clause-keeps : goal.returns-clause-keeps
returns-clause-keeps g c =
    keeps_later c.args.t.now c.list_variables.new.t c.function_under.new.t c.in_ok-list.ensures.ids
    c.in_ok-by.ensures.makes.keeps
