use Rattle.std.proofs.Common.{◌∙◌, map, subst, sym}
use Rattle.type_nodes.specs.Tables.{IsFrontOf}
use Rattle.bare_phrases.specs.PhraseOf.{dat_phrase}
use Rattle.static_semantics.specs.DatatypeInference.{datatypes_of}
use Rattle.core_scopes.specs.declared.made.Made.{Made}
use Rattle.core_scopes.specs.Marks.{env_of_made}
use Rattle.type_phrases.specs.Inferred.{KeepsTypes, progress, scope_in}
use Rattle.type_phrases.proofs.Keeping.{keeps_all}
use Rattle.type_phrases.proofs.Steps.{still_refused}
use Rattle.datatype_elab.proofs.whole.datatypes_in.Goals as goal

pub undo-requires : goal.undo-requires
undo-requires g c =
    subst (λ t. IsFrontOf t c.declare.new.t) (sym c.mark-before.ensures) c.in-Err.ensures.ids.front

pub returns-clause-infers : goal.returns-clause-infers
returns-clause-infers g c = λ u read.
    still_refused (datatypes_of (scope_in c.args.g.now u read c.args.scope.now) c.args.refused.now
    (map dat_phrase c.args.binds.now) (progress c.args.t.now c.args.g.now))
    (λ (made : Made g.row.V.Denot). (env_of_made c.declare.new.g read made, progress c.declare.new.t c.declare.new.g))
    (λ (made : Made g.row.V.Denot). (env_of_made c.declare.new.g read made, progress c.undo.new.self c.declare.new.g))
    c.in-Err.fault (c.in-Err.ensures.infers u read)

pub returns-clause-ids : goal.returns-clause-ids
returns-clause-ids g c =
    subst (KeepsTypes c.args.t.now) (sym (c.undo.ensures ∙ c.mark-before.ensures)) (keeps_all c.args.t.now)
