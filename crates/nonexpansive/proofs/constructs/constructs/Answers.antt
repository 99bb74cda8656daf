use Rattle.std.proofs.Common.{◌∙◌, sym, ap, not}
use Rattle.std.specs.Prelude.{Bool, ◌&&◌}
use Rattle.semantic_objects.specs.Environments.{values}
use Rattle.bare_phrases.specs.PhraseOf.{exp_phrase}
use Rattle.bare_phrases.proofs.Forms.{exp_phrase-Long}
use Rattle.static_semantics.specs.Inferring.{found_at, stands_for_con}
use Rattle.static_semantics.specs.Nonexpansive.{constructs, ends_in_ref}
use Rattle.core_scopes.specs.Scopes.{seen}
use Rattle.nonexpansive.proofs.Forms.{and_not}
use Rattle.nonexpansive.proofs.constructs.constructs.Goals as goal

pub returns-in_ok-names_con-in-Long : goal.returns-in_ok-names_con-in-Long
returns-in_ok-names_con-in-Long g c = λ read own.
    let env = seen c.args.g.now read c.args.scope.now in
    c.in_ok-names_con-in-Long.ensures read own
    ∙ and_not (stands_for_con (found_at values c.in-Long.long.parts env)) c.ends_in_ref.result c.if-not-ends_in_ref.true
    ∙ ap (λ (r : Bool). stands_for_con (found_at values c.in-Long.long.parts env) && not r)
    (c.ends_in_ref.ensures ∙ ap ends_in_ref c.as_slice.ensures)
    ∙ ap (constructs env) (sym (exp_phrase-Long c.in-Long.long c.in-Long.field-1))
    ∙ ap (λ e. constructs env (exp_phrase e)) (sym c.in-Long.is)
