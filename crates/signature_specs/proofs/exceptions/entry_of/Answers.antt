use Rattle.std.proofs.Common.{subst}
use Rattle.semantic_objects.specs.declared.entry.ValueEntry.{ValueEntry}
use Rattle.static_semantics.specs.Inferring.{Answer}
use Rattle.type_phrases.specs.Inferred.{Answers, scope_in}
use Rattle.signature_specs.proofs.Excepting.{exn_binds, argument_is, none_is}
use Rattle.signature_specs.proofs.exceptions.entry_of.Goals as goal

pub returns-in-Some-clause-infers : goal.returns-in-Some-clause-infers
returns-in-Some-clause-infers g c = λ u read.
    subst (λ (w : Answer ValueEntry). Answers w (λ (entry : ValueEntry). entry) c.entry_with.result)
    (argument_is (scope_in c.args.g.now u read c.args.scope.now) c.args.arg.now c.in-Some.ty c.in-Some.is)
    (c.entry_with.ensures.infers u read)

pub open_exception-requires : goal.open_exception-requires
open_exception-requires g c = exn_binds c.in_ok-exn-in-None.exn c.in_ok-exn-in-None.ensures.tree

pub returns-in_ok-entry-in-None-clause-infers : goal.returns-in_ok-entry-in-None-clause-infers
returns-in_ok-entry-in-None-clause-infers g c = λ u read.
    none_is (scope_in c.args.g.now u read c.args.scope.now) c.args.arg.now c.in_ok-exn-in-None.exn
    c.in_ok-entry-in-None.entry c.in-None.is c.in_ok-exn-in-None.ensures.tree c.in_ok-entry-in-None.ensures
