use Rattle.std.proofs.Common.{map}
use Rattle.std.specs.Prelude.{Ok, Err}
use Rattle.static_semantics.specs.BasicTypes.{reserved_constructors}
use Rattle.bare_phrases.specs.PhraseOf.{dat_phrase}
use Rattle.static_semantics.specs.DatatypeInference.{datatypes_of}
use Rattle.type_phrases.specs.Inferred.{progress}
use Rattle.pattern_elab.specs.Scopes.{own_entry}
use Rattle.core_rules.specs.Moments.{moment}
use Rattle.core_rules.proofs.Declaring.{dec_passed, step_first, step_done}
use Rattle.declaration_forms.proofs.Declared.{step_made, no_envs}
use Rattle.declaration_forms.proofs.forms.declare_datatypes.Goals as goal

pub elab_datatypes-requires : goal.elab_datatypes-requires
elab_datatypes-requires c = c.requires.there

pub check_made-requires : goal.check_made-requires
check_made-requires c = no_envs c.elab_datatypes.new.g c.in_ok-made.made c.in_ok-made.ensures.structures

pub returns-in_err-made : goal.returns-in_err-made
returns-in_err-made c =
    dec_passed c.from_residual.result c.in_err-made.field-0.0 c.from_residual.ensures.1
    (step_first c.args.at
    (step_made (moment c.args.g.now c.args.t.now c.args.scope.now)
    (λ sc. datatypes_of sc reserved_constructors (map dat_phrase c.args.binds.now) (progress c.args.t.now c.args.g.now)) c.elab_datatypes.new.g
    c.elab_datatypes.new.t c.elab_datatypes.new.scope (Err c.in_err-made.field-0.0) c.requires c.in_err-made.ensures.names.items c.in_err-made.ensures.names.home
    c.in_err-made.ensures.ids c.in_err-made.ensures.scope
    (c.in_err-made.ensures.infers c.args.t.now own_entry)))

pub returns : goal.returns
returns c =
    step_done c.args.at c.in_ok-made.made c.check_made.new.t c.requires
    (step_made (moment c.args.g.now c.args.t.now c.args.scope.now)
    (λ sc. datatypes_of sc reserved_constructors (map dat_phrase c.args.binds.now) (progress c.args.t.now c.args.g.now)) c.elab_datatypes.new.g
    c.elab_datatypes.new.t c.elab_datatypes.new.scope (Ok c.in_ok-made.made) c.requires c.in_ok-made.ensures.names.items c.in_ok-made.ensures.names.home c.in_ok-made.ensures.ids
    c.in_ok-made.ensures.scope (c.in_ok-made.ensures.infers c.args.t.now own_entry))
    c.check_made.ensures.same (no_envs c.elab_datatypes.new.g c.in_ok-made.made c.in_ok-made.ensures.structures)
    c.check_made.ensures.answer c.check_made.ensures.it
