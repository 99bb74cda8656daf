use Rattle.sml_modules.specs.Items.{at, as_env}
use Rattle.row_entries.proofs.Found.{not_so, is_so}
use Rattle.row_binders.proofs.Bound.{signature_found, signature_uncounted}
use Rattle.row_binders.proofs.binders.signature_over.Goals as goal

pub returns-then-not-are_counted-clause-is : goal.returns-then-not-are_counted-clause-is
returns-then-not-are_counted-clause-is c =
    signature_uncounted (as_env (at c.args.graph.now.items c.args.env)) c.args.count c.in_ok-bound.bound
    c.args.graph.now.items c.in_ok-bound.ensures
    (not_so c.are_counted.result c.are_counted.ensures c.if-not-are_counted.true)

pub returns-clause-is : goal.returns-clause-is
returns-clause-is c =
    signature_found (as_env (at c.args.graph.now.items c.args.env)) c.args.count c.in_ok-bound.bound
    c.add.new.self.items c.in_ok-place.place c.in_ok-bound.ensures
    (is_so c.are_counted.result c.are_counted.ensures c.if-not-are_counted.false) c.in_ok-place.ensures.ok.stands
