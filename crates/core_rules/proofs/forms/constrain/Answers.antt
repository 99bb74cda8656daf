use Rattle.bare_phrases.specs.PhraseOf.{ty_phrase}
use Rattle.core_rules.specs.Moments.{moment}
use Rattle.core_rules.proofs.Chains.{passed}
use Rattle.core_rules.proofs.Parted.{constraint_first, constraint_second, constraint_done}
use Rattle.core_rules.proofs.forms.constrain.Goals as goal

pub returns-in_err-written : goal.returns-in_err-written
returns-in_err-written c =
    passed c.from_residual.result c.in_err-written.field-0.0 c.from_residual.ensures.1
    (constraint_first {m = moment c.args.g.now c.args.t.now c.args.scope.now} (ty_phrase c.args.ty.now) c.args.at
    c.args.id c.requires.scope c.in_err-written.ensures.infers c.in_err-written.ensures.ids)

pub returns-in_err-id : goal.returns-in_err-id
returns-in_err-id c =
    passed c.from_residual-in_err-id.result c.in_err-id.field-0.0 c.from_residual-in_err-id.ensures.1
    (constraint_second {m = moment c.args.g.now c.args.t.now c.args.scope.now} (ty_phrase c.args.ty.now) c.args.at
    c.args.id c.in_ok-written.written c.requires.scope c.requires.id c.in_ok-written.ensures.infers
    c.in_ok-written.ensures.has c.in_ok-written.ensures.state c.in_ok-written.ensures.ids c.in_err-id.ensures)

pub returns : goal.returns
returns c =
    rw c.sized.ensures.table
    (constraint_done {m = moment c.args.g.now c.args.t.now c.args.scope.now} (ty_phrase c.args.ty.now) c.args.at
    c.args.id c.in_ok-written.written c.requires.scope c.requires.id c.in_ok-written.ensures.infers
    c.in_ok-written.ensures.has c.in_ok-written.ensures.state c.in_ok-written.ensures.ids c.in_ok-id.ensures
    c.sized.ensures.answer c.sized.ensures.same)
