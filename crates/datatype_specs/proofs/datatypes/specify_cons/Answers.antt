use Rattle.std.proofs.Common.{◌+◌, ◌∙◌, ap, drop, map, refl}
use Rattle.bare_phrases.specs.PhraseOf.{con_phrase}
use Rattle.type_phrases.proofs.PartsRead.{drop_item, drop_end}
use Rattle.signature_specs.specs.Specs.{signature_so_far}
use Rattle.signature_specs.proofs.Fronts.{front_itself, front_later}
use Rattle.datatype_specs.specs.Steps.{env_of_new}
use Rattle.datatype_specs.proofs.Specifying.{cons_refused, cons_more, cons_all}
use Rattle.datatype_specs.proofs.datatypes.specify_cons.Goals as goal

pub loop-con-init : goal.loop-con-init
loop-con-init c = record {
  front = front_itself c.args.made.now;
  structures = refl;
  left_is = λ inner home. refl;
}

pub returns-in_err-specify_con-clause-infers : goal.returns-in_err-specify_con-clause-infers
returns-in_err-specify_con-clause-infers c = λ inner home.
    let graph = c.args.g.now in
    let cons = c.args.cons.now in
    let i = c.loop-con.con-index in
    let item = c.con-item.result in
    cons_refused inner (env_of_new c.args.new.now) (map con_phrase cons) (map con_phrase (drop i cons))
    (map con_phrase (drop (i + 1) cons)) (con_phrase item) (signature_so_far graph c.args.made.now)
    (signature_so_far graph c.loop-con.made) (c.loop-con.invariant.left_is inner home)
    (ap (map con_phrase) (drop_item cons i item c.loop-con-test.true c.con-item.is))
    (λ (x : Unit {0}). signature_so_far graph c.specify_con.new.made) _ c.in_err-specify_con.field-0.0
    c.from_residual.result c.from_residual.ensures.1 (c.in_err-specify_con.ensures.infers inner home)

pub loop-con-preserved : goal.loop-con-preserved
loop-con-preserved c = record {
  front = front_later c.args.made.now c.loop-con.made c.specify_con.new.made c.loop-con.invariant.front
      c.in_ok-specify_con.ensures.front;
  structures = c.in_ok-specify_con.ensures.structures ∙ c.loop-con.invariant.structures;
  left_is = λ inner home.
      let graph = c.args.g.now in
      let cons = c.args.cons.now in
      let i = c.loop-con.con-index in
      let item = c.con-item.result in
      cons_more inner (env_of_new c.args.new.now) (map con_phrase cons) (map con_phrase (drop i cons))
      (map con_phrase (drop (i + 1) cons)) (con_phrase item) (signature_so_far graph c.args.made.now)
      (signature_so_far graph c.loop-con.made) (c.loop-con.invariant.left_is inner home)
      (ap (map con_phrase) (drop_item cons i item c.loop-con-test.true c.con-item.is))
      (signature_so_far graph c.specify_con.new.made) (c.in_ok-specify_con.ensures.infers inner home);
}

pub returns-clause-infers : goal.returns-clause-infers
returns-clause-infers c = λ inner home.
    let graph = c.args.g.now in
    let cons = c.args.cons.now in
    let i = c.loop-con.con-index in
    cons_all inner (env_of_new c.args.new.now) (map con_phrase cons) (map con_phrase (drop i cons))
    (signature_so_far graph c.args.made.now) (signature_so_far graph c.loop-con.made)
    (c.loop-con.invariant.left_is inner home)
    (ap (map con_phrase) (drop_end cons i c.loop-con-test.false))
