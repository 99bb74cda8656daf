use Rattle.std.proofs.Common.{List, ℕ, map, subst, ◌∙◌}
use Rattle.bare_phrases.specs.PhraseOf.{dat_phrase}
use Rattle.static_semantics.specs.DatatypeInference.{datatypes_of}
use Rattle.core_scopes.specs.declared.made.Made.{Made}
use Rattle.core_scopes.specs.Marks.{env_of_made}
use Rattle.type_phrases.specs.Inferred.{Answers, progress, scope_in}
use Rattle.datatype_declarations.proofs.Enclosing.{keeps_named, names_none}
use Rattle.datatype_declarations.proofs.bindings.elab_datatypes.Goals as goal

pub returns-in_err-refused-clause-names : goal.returns-in_err-refused-clause-names
returns-in_err-refused-clause-names g c = names_none c.args.g.now

pub returns-in_err-refused-clause-keeps : goal.returns-in_err-refused-clause-keeps
returns-in_err-refused-clause-keeps g c = keeps_named c.args.g.now c.args.g.now (names_none c.args.g.now)

pub returns-clause-infers : goal.returns-clause-infers
returns-clause-infers g c = λ u read.
    subst (λ (names : List (List ℕ)). Answers (datatypes_of (scope_in c.args.g.now u read c.args.scope.now) names
    (map dat_phrase c.args.binds.now) (progress c.args.t.now c.args.g.now))
    (λ (made : Made g.row.V.Denot).
    (env_of_made c.datatypes_in.new.g read made, progress c.datatypes_in.new.t c.datatypes_in.new.g))
    c.datatypes_in.result) (c.as_slice.ensures ∙ c.in_ok-refused.ensures) (c.datatypes_in.ensures.infers u read)

pub returns-clause-keeps : goal.returns-clause-keeps
returns-clause-keeps g c = keeps_named c.args.g.now c.datatypes_in.new.g c.datatypes_in.ensures.names
