use Rattle.std.proofs.Common.{◌≡◌, ◌+◌, ◌∙◌, ap, drop, map, refl, subst}
use Rattle.std.specs.Prelude.{Err}
use Rattle.std.specs.Option.{option_map}
use Rattle.semantic_objects.specs.declared.entry.ValueEntry.{ValueEntry}
use Rattle.bare_phrases.specs.PhraseOf.{ty_phrase, con_phrase}
use Rattle.static_semantics.specs.Inferring.{gives}
use Rattle.type_phrases.specs.Inferred.{Answers, scope_in}
use Rattle.type_phrases.proofs.Keeping.{makes_nothing, makes_later}
use Rattle.type_phrases.proofs.PartsRead.{drop_item, drop_end}
use Rattle.signature_specs.specs.Specs.{signature_so_far}
use Rattle.signature_specs.specs.Steps.{infer_exception}
use Rattle.signature_specs.proofs.Fronts.{front_itself, front_later}
use Rattle.signature_specs.proofs.Excepting.{exceptions_refused, exceptions_taken, exceptions_more, exceptions_all}
use Rattle.signature_specs.proofs.exceptions.elab_exception_specs.Goals as goal

pub loop-con-init : goal.loop-con-init
loop-con-init g c = record {
  makes = makes_nothing c.args.t.now;
  scope = refl;
  front = front_itself c.args.made.now;
  structures = refl;
  left_is = λ u read. refl;
}

pub returns-in_err-entry-clause-infers : goal.returns-in_err-entry-clause-infers
returns-in_err-entry-clause-infers g c = λ u read.
    let graph = c.args.g.now in
    let cons = c.args.cons.now in
    let i = c.loop-con.con-index in
    let item = c.con-item.result in
    let inner = scope_in graph u read c.args.scope.now in
    exceptions_refused inner (map con_phrase cons) (map con_phrase (drop i cons)) (map con_phrase (drop (i + 1) cons))
    (con_phrase item) (signature_so_far graph c.args.made.now) (signature_so_far graph c.loop-con.made)
    (c.loop-con.invariant.left_is u read)
    (ap (map con_phrase) (drop_item cons i item c.loop-con-test.true c.con-item.is))
    (λ (entry : ValueEntry). entry) _ c.in_err-entry.field-0.0 c.from_residual.result
    c.from_residual.ensures.1
    (subst (λ s. Answers (infer_exception (scope_in graph u read s) (option_map ty_phrase item.arg))
    (λ (entry : ValueEntry). entry) (Err c.in_err-entry.field-0.0))
    c.loop-con.invariant.scope (c.in_err-entry.ensures.infers u read))

pub returns-in_err-specify_value-clause-infers : goal.returns-in_err-specify_value-clause-infers
returns-in_err-specify_value-clause-infers g c = λ u read.
    let graph = c.args.g.now in
    let cons = c.args.cons.now in
    let i = c.loop-con.con-index in
    let item = c.con-item.result in
    let inner = scope_in graph u read c.args.scope.now in
    exceptions_taken inner (map con_phrase cons) (map con_phrase (drop i cons)) (map con_phrase (drop (i + 1) cons))
    (con_phrase item) (signature_so_far graph c.args.made.now) (signature_so_far graph c.loop-con.made)
    (c.loop-con.invariant.left_is u read)
    (ap (map con_phrase) (drop_item cons i item c.loop-con-test.true c.con-item.is))
    c.in_ok-entry.entry
    (λ (x : Unit {0}). signature_so_far graph c.specify_value.new.made) _ c.in_err-specify_value.field-0.0
    c.from_residual-in_err-specify_value.result c.from_residual-in_err-specify_value.ensures.1
    (subst (λ s. infer_exception (scope_in graph u read s) (option_map ty_phrase item.arg)
    ≡ gives c.in_ok-entry.entry)
    c.loop-con.invariant.scope (c.in_ok-entry.ensures.infers u read))
    (c.in_err-specify_value.ensures.infers inner refl)

pub returns-in_err-specify_value-clause-makes : goal.returns-in_err-specify_value-clause-makes
returns-in_err-specify_value-clause-makes g c =
    makes_later c.args.t.now c.loop-con.t c.entry_of.new.t c.loop-con.invariant.makes c.in_ok-entry.ensures.makes

pub loop-con-preserved : goal.loop-con-preserved
loop-con-preserved g c = record {
  makes = makes_later c.args.t.now c.loop-con.t c.entry_of.new.t c.loop-con.invariant.makes
      c.in_ok-entry.ensures.makes;
  scope = c.in_ok-entry.ensures.scope ∙ c.loop-con.invariant.scope;
  front = front_later c.args.made.now c.loop-con.made c.specify_value.new.made c.loop-con.invariant.front
      c.in_ok-specify_value.ensures.front;
  structures = c.in_ok-specify_value.ensures.structures ∙ c.loop-con.invariant.structures;
  left_is = λ u read.
      let graph = c.args.g.now in
      let cons = c.args.cons.now in
      let i = c.loop-con.con-index in
      let item = c.con-item.result in
      let inner = scope_in graph u read c.args.scope.now in
      exceptions_more inner (map con_phrase cons) (map con_phrase (drop i cons)) (map con_phrase (drop (i + 1) cons))
      (con_phrase item) (signature_so_far graph c.args.made.now) (signature_so_far graph c.loop-con.made)
      (c.loop-con.invariant.left_is u read)
      (ap (map con_phrase) (drop_item cons i item c.loop-con-test.true c.con-item.is))
      c.in_ok-entry.entry (signature_so_far graph c.specify_value.new.made)
      (subst (λ s. infer_exception (scope_in graph u read s) (option_map ty_phrase item.arg)
      ≡ gives c.in_ok-entry.entry)
      c.loop-con.invariant.scope (c.in_ok-entry.ensures.infers u read))
      (c.in_ok-specify_value.ensures.infers inner refl);
}

pub returns-clause-infers : goal.returns-clause-infers
returns-clause-infers g c = λ u read.
    let graph = c.args.g.now in
    let cons = c.args.cons.now in
    let i = c.loop-con.con-index in
    exceptions_all (scope_in graph u read c.args.scope.now) (map con_phrase cons) (map con_phrase (drop i cons))
    (signature_so_far graph c.args.made.now) (signature_so_far graph c.loop-con.made)
    (c.loop-con.invariant.left_is u read)
    (ap (map con_phrase) (drop_end cons i c.loop-con-test.false))
