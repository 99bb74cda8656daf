use Rattle.std.proofs.Common.{◌≡◌, ◌+◌, ◌∙◌, ap, drop, map, refl, subst}
use Rattle.std.specs.Prelude.{Err}
use Rattle.bare_phrases.specs.PhraseOf.{con_phrase, dat_phrase}
use Rattle.static_semantics.specs.Inferring.{gives}
use Rattle.module_semantics.specs.SignatureInference.{specified_cons}
use Rattle.type_phrases.specs.Inferred.{Answers}
use Rattle.type_phrases.proofs.PartsRead.{drop_item, drop_end}
use Rattle.signature_specs.specs.Specs.{signature_so_far}
use Rattle.signature_specs.proofs.Fronts.{front_itself, front_later}
use Rattle.datatype_specs.specs.Steps.{env_of_new}
use Rattle.datatype_specs.proofs.Specifying.{type_refused, its_cons_refused, types_more, types_all}
use Rattle.datatype_specs.proofs.datatypes.specify_datatypes.Goals as goal

pub loop-bind-init : goal.loop-bind-init
loop-bind-init c = record {
  front = front_itself c.args.made.now;
  structures = refl;
  left_is = λ inner home. refl;
}

pub returns-in_err-specify_name-clause-infers : goal.returns-in_err-specify_name-clause-infers
returns-in_err-specify_name-clause-infers c = λ inner home.
    let graph = c.args.g.now in
    let binds = c.args.binds.now in
    let i = c.loop-bind.bind-index in
    let item = c.bind-item.result in
    type_refused inner (env_of_new c.args.new.now) (map dat_phrase binds) (map dat_phrase (drop i binds))
    (map dat_phrase (drop (i + 1) binds)) (dat_phrase item) (signature_so_far graph c.args.made.now)
    (signature_so_far graph c.loop-bind.made) (c.loop-bind.invariant.left_is inner home)
    (ap (map dat_phrase) (drop_item binds i item c.loop-bind-test.true c.bind-item.is))
    (λ (x : Unit {0}). signature_so_far graph c.specify_name.new.made) _ c.in_err-specify_name.field-0.0
    c.from_residual.result c.from_residual.ensures.1 (c.in_err-specify_name.ensures.infers inner home)

pub returns-in_err-specify_cons-clause-infers : goal.returns-in_err-specify_cons-clause-infers
returns-in_err-specify_cons-clause-infers c = λ inner home.
    let graph = c.args.g.now in
    let binds = c.args.binds.now in
    let i = c.loop-bind.bind-index in
    let item = c.bind-item.result in
    its_cons_refused inner (env_of_new c.args.new.now) (map dat_phrase binds) (map dat_phrase (drop i binds))
    (map dat_phrase (drop (i + 1) binds)) (dat_phrase item) (signature_so_far graph c.args.made.now)
    (signature_so_far graph c.loop-bind.made) (c.loop-bind.invariant.left_is inner home)
    (ap (map dat_phrase) (drop_item binds i item c.loop-bind-test.true c.bind-item.is))
    (signature_so_far graph c.specify_name.new.made) (c.in_ok-specify_name.ensures.infers inner home)
    (λ (x : Unit {0}). signature_so_far graph c.specify_cons.new.made) _ c.in_err-specify_cons.field-0.0
    c.from_residual-in_err-specify_cons.result c.from_residual-in_err-specify_cons.ensures.1
    (subst (λ cons. Answers (specified_cons inner (map con_phrase cons) (env_of_new c.args.new.now)
    (signature_so_far graph c.specify_name.new.made))
    (λ (x : Unit {0}). signature_so_far graph c.specify_cons.new.made) (Err c.in_err-specify_cons.field-0.0))
    c.as_slice.ensures (c.in_err-specify_cons.ensures.infers inner home))

pub loop-bind-preserved : goal.loop-bind-preserved
loop-bind-preserved c = record {
  front = front_later c.args.made.now c.loop-bind.made c.specify_cons.new.made c.loop-bind.invariant.front
      (front_later c.loop-bind.made c.specify_name.new.made c.specify_cons.new.made
      c.in_ok-specify_name.ensures.front c.in_ok-specify_cons.ensures.front);
  structures = c.in_ok-specify_cons.ensures.structures ∙ c.in_ok-specify_name.ensures.structures
      ∙ c.loop-bind.invariant.structures;
  left_is = λ inner home.
      let graph = c.args.g.now in
      let binds = c.args.binds.now in
      let i = c.loop-bind.bind-index in
      let item = c.bind-item.result in
      types_more inner (env_of_new c.args.new.now) (map dat_phrase binds) (map dat_phrase (drop i binds))
      (map dat_phrase (drop (i + 1) binds)) (dat_phrase item) (signature_so_far graph c.args.made.now)
      (signature_so_far graph c.loop-bind.made) (c.loop-bind.invariant.left_is inner home)
      (ap (map dat_phrase) (drop_item binds i item c.loop-bind-test.true c.bind-item.is))
      (signature_so_far graph c.specify_name.new.made) (c.in_ok-specify_name.ensures.infers inner home)
      (signature_so_far graph c.specify_cons.new.made)
      (subst (λ cons. specified_cons inner (map con_phrase cons) (env_of_new c.args.new.now)
      (signature_so_far graph c.specify_name.new.made) ≡ gives (signature_so_far graph c.specify_cons.new.made))
      c.as_slice.ensures (c.in_ok-specify_cons.ensures.infers inner home));
}

pub returns-clause-infers : goal.returns-clause-infers
returns-clause-infers c = λ inner home.
    let graph = c.args.g.now in
    let binds = c.args.binds.now in
    let i = c.loop-bind.bind-index in
    types_all inner (env_of_new c.args.new.now) (map dat_phrase binds) (map dat_phrase (drop i binds))
    (signature_so_far graph c.args.made.now) (signature_so_far graph c.loop-bind.made)
    (c.loop-bind.invariant.left_is inner home)
    (ap (map dat_phrase) (drop_end binds i c.loop-bind-test.false))
