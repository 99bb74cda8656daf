use Rattle.std.proofs.Common.{◌≡◌, ap, sym, ◌∙◌, subst}
use Rattle.std.specs.Prelude.{IfOk}
use Rattle.unification.specs.Closing.{closed_over}
use Rattle.type_nodes.specs.Tables.{type_of}
use Rattle.bare_phrases.specs.PhraseOf.{ty_phrase}
use Rattle.static_semantics.specs.Inferring.{Scope}
use Rattle.static_semantics.specs.TypeInference.{infer_ty}
use Rattle.static_semantics.specs.DatatypeInference.{counted}
use Rattle.core_scopes.specs.Scopes.{written_rows}
use Rattle.type_phrases.specs.Inferred.{Answers}
use Rattle.listed_types.specs.declared.listed.ListedType.{ListedType}
use Rattle.signature_specs.proofs.Listing.{under_over, under_alone, under_scope, numbers_are}
use Rattle.signature_specs.proofs.under.type_under.Goals as goal

pub elab_listed-made-requires-clause-scope : goal.elab_listed-made-requires-clause-scope
elab_listed-made-requires-clause-scope g c =
    under_over c.args.g.now c.args.t.now c.args.scope.now c.bind_written_alone.new.self c.args.list.now
    (written_rows c.in_ok-written.written) c.in_ok-written.ensures
    (c.in_ok-bind_written_alone.ensures.ok c.args.g.now) c.requires.scope c.requires.list

pub elab_listed-made-requires-clause-alone : goal.elab_listed-made-requires-clause-alone
elab_listed-made-requires-clause-alone g c =
    under_alone c.args.g.now c.args.t.now c.args.scope.now c.bind_written_alone.new.self c.args.list.now
    (written_rows c.in_ok-written.written) c.in_ok-written.ensures
    (c.in_ok-bind_written_alone.ensures.ok c.args.g.now) c.requires.list

pub returns-clause-infers : goal.returns-clause-infers
returns-clause-infers g c = λ u read.
    subst (λ (inner : Scope). Answers (infer_ty inner (ty_phrase c.args.ty.now))
    (λ (made : ListedType). type_of c.elab_listed-made.new.t made.id) c.elab_listed-made.result)
    (under_scope c.args.g.now c.args.t.now c.args.scope.now c.bind_written_alone.new.self c.args.list.now
    (written_rows c.in_ok-written.written) c.in_ok-written.ensures
    (c.in_ok-bind_written_alone.ensures.ok c.args.g.now) u read)
    (c.elab_listed-made.ensures.infers read)

pub returns-clause-tree : goal.returns-clause-tree
returns-clause-tree g c =
    subst (λ ns. IfOk c.elab_listed-made.result
    (λ (made : ListedType). made.tree ≡ closed_over ns (type_of c.elab_listed-made.new.t made.id)))
    (ap (λ n. counted n c.first_of-first.result) c.len-count.ensures
    ∙ sym (numbers_are c.args.t.now c.args.list.now c.first_of-first.result
    (c.first_of-first.ensures c.args.t.now c.requires.list)))
    c.elab_listed-made.ensures.tree
