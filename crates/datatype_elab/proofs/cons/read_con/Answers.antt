use Rattle.bare_phrases.specs.PhraseOf.{con_phrase}
use Rattle.datatype_elab.proofs.Consing.{con_unchecked, con_untyped, con_no_memory, con_read}
use Rattle.datatype_elab.proofs.cons.read_con.Goals as goal

pub returns-in_err-check_con : goal.returns-in_err-check_con
returns-in_err-check_con g c =
    con_unchecked c.args.g.now c.args.t.now c.args.scope.now c.args.refused.now c.args.names.now c.args.variables
    (con_phrase c.args.con.now) c.in_err-check_con.field-0.0 c.from_residual.result c.from_residual.ensures.1
    (λ inner others home same. c.in_err-check_con.ensures inner others home same)

pub returns-in_err-arg : goal.returns-in_err-arg
returns-in_err-arg g c =
    con_untyped c.args.g.now c.args.t.now c.read_argument.new.t c.args.scope.now c.args.refused.now c.args.names.now
    c.args.variables (con_phrase c.args.con.now) c.in_err-arg.field-0.0 c.from_residual-in_err-arg.result
    c.from_residual-in_err-arg.ensures.1
    (λ inner others home same. c.in_ok-check_con.ensures inner others home same) c.in_err-arg.ensures.makes
    c.in_err-arg.ensures.infers

pub returns-in_err-name : goal.returns-in_err-name
returns-in_err-name g c =
    con_no_memory c.args.g.now c.args.t.now c.read_argument.new.t c.args.scope.now c.args.refused.now c.args.names.now
    c.add_name.new.names c.args.variables (con_phrase c.args.con.now) c.from_residual-in_err-name.result
    c.from_residual-in_err-name.ensures.1 c.in_ok-arg.ensures.makes

pub returns : goal.returns
returns g c =
    con_read c.args.g.now c.args.t.now c.read_argument.new.t c.args.scope.now c.args.refused.now c.args.names.now
    c.add_name.new.names c.args.variables (con_phrase c.args.con.now) c.in_ok-name.name c.in_ok-arg.arg
    (λ inner others home same. c.in_ok-check_con.ensures inner others home same) c.in_ok-arg.ensures.makes
    c.in_ok-arg.ensures.infers c.in_ok-arg.ensures.read c.in_ok-name.ensures.text c.in_ok-name.ensures.names
