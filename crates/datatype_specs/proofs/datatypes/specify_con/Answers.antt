use Rattle.std.proofs.Common.{Some, ap, sym, subst, ◌∙◌}
use Rattle.semantic_objects.specs.declared.entry.ValueEntry.{ValueEntry}
use Rattle.semantic_objects.specs.Environments.{Signature}
use Rattle.bare_phrases.specs.PhraseOf.{con_phrase}
use Rattle.static_semantics.specs.Inferring.{Answer}
use Rattle.type_phrases.specs.Inferred.{Answers}
use Rattle.signature_specs.specs.Specs.{signature_so_far}
use Rattle.datatype_specs.proofs.Specifying.{con_is}
use Rattle.datatype_specs.proofs.datatypes.specify_con.Goals as goal

pub returns-in_ok-entry-in-Some-clause-infers : goal.returns-in_ok-entry-in-Some-clause-infers
returns-in_ok-entry-in-Some-clause-infers c = λ inner home.
    let graph = c.args.g.now in
    subst (λ (w : Answer Signature). Answers {R = Unit {0}} w (λ u. signature_so_far graph c.specify_value.new.made)
    c.specify_value.result)
    (con_is inner c.args.new.now (con_phrase c.args.con.now) (signature_so_far graph c.args.made.now)
    c.in_ok-entry-in-Some.entry
    (sym c.in-Some.ensures ∙ ap (λ (x : ValueEntry). Some x) (sym c.in_ok-entry-in-Some.ensures)))
    (c.specify_value.ensures.infers inner home)
