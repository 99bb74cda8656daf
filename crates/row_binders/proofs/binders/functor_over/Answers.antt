use Rattle.sml_modules.specs.Items.{at, as_env}
use Rattle.row_entries.proofs.Found.{not_so, is_so}
use Rattle.row_binders.proofs.Bound.{functor_found, functor_uncounted, functor_beyond}
use Rattle.row_binders.proofs.binders.functor_over.Goals as goal

pub returns-then-not-are_counted-clause-is : goal.returns-then-not-are_counted-clause-is
returns-then-not-are_counted-clause-is c =
    functor_uncounted (as_env (at c.args.graph.now.items c.args.param)) (as_env (at c.args.graph.now.items c.args.body))
    c.args.form c.in_ok-bound.bound c.args.graph.now.items c.in_ok-bound.ensures
    (not_so c.are_counted.result c.are_counted.ensures c.if-not-are_counted.true)

pub returns-then-not-are_counted-2-clause-is : goal.returns-then-not-are_counted-2-clause-is
returns-then-not-are_counted-2-clause-is c =
    functor_beyond (as_env (at c.args.graph.now.items c.args.param)) (as_env (at c.args.graph.now.items c.args.body))
    c.args.form c.in_ok-bound.bound c.in_ok-further.further c.args.graph.now.items c.in_ok-bound.ensures
    (is_so c.are_counted.result c.are_counted.ensures c.if-not-are_counted.false) c.in_ok-further.ensures
    (not_so c.are_counted-2.result c.are_counted-2.ensures c.if-not-are_counted-2.true)

pub returns-clause-is : goal.returns-clause-is
returns-clause-is c =
    functor_found (as_env (at c.args.graph.now.items c.args.param)) (as_env (at c.args.graph.now.items c.args.body))
    c.args.form c.in_ok-bound.bound c.in_ok-further.further c.add.new.self.items c.in_ok-place.place
    c.in_ok-bound.ensures (is_so c.are_counted.result c.are_counted.ensures c.if-not-are_counted.false)
    c.in_ok-further.ensures (is_so c.are_counted-2.result c.are_counted-2.ensures c.if-not-are_counted-2.false)
    c.in_ok-place.ensures.ok.stands
