use Rattle.std.proofs.Common.{subst}
use Rattle.type_nodes.specs.Tables.{type_of}
use Rattle.bare_phrases.specs.PhraseOf.{ty_phrase}
use Rattle.static_semantics.specs.TypeInference.{infer_ty}
use Rattle.type_phrases.specs.Inferred.{Answers}
use Rattle.pattern_elab.specs.Scopes.{own_entry}
use Rattle.pattern_elab.proofs.Scoping.{over_core, scope_core}
use Rattle.pattern_elab.proofs.typed.written_type.Goals as goal

pub elab_ty-requires : goal.elab_ty-requires
elab_ty-requires c = over_core c.args.g.now c.args.t.now c.args.scope.now c.requires

pub returns-clause-infers : goal.returns-clause-infers
returns-clause-infers c =
    subst (λ sc. Answers (infer_ty sc (ty_phrase c.args.ty.now)) (type_of c.elab_ty.new.t) c.elab_ty.result)
    (scope_core c.args.g.now c.args.t.now c.args.scope.now c.requires) (c.elab_ty.ensures.infers own_entry)
