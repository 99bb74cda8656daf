use Rattle.row_binders.proofs.Bound.{binder_placed, envs_have, places_have, bound_more}
use Rattle.row_binders.proofs.rows.note_row.Goals as goal

pub signature_row-requires : goal.signature_row-requires
signature_row-requires c = (c.args.home.now, envs_have c.args.home.now c.args.graph.now.items c.args.rows.now c.requires)

pub functor_row-requires : goal.functor_row-requires
functor_row-requires c = (
  c.args.home.now,
  envs_have c.args.home.now c.signature_row.new.graph.items c.args.rows.now
      (bound_more c.args.home.now c.args.graph.now c.signature_row.new.graph c.args.rows.now
      c.in_ok-signature.ensures.extends c.requires),
)

pub note_env-requires : goal.note_env-requires
note_env-requires c =
    places_have c.args.home.now c.functor_row.new.graph.items c.args.rows.now
    (bound_more c.args.home.now c.signature_row.new.graph c.functor_row.new.graph c.args.rows.now
    c.in_ok-functor.ensures.extends
    (bound_more c.args.home.now c.args.graph.now c.signature_row.new.graph c.args.rows.now
    c.in_ok-signature.ensures.extends c.requires))

pub returns-clause-bound : goal.returns-clause-bound
returns-clause-bound c =
    binder_placed c.args.home.now c.args.graph.now c.signature_row.new.graph c.functor_row.new.graph
    c.note_env.new.graph c.args.rows.now
    (record { envs = c.note_env.new.rows; signatures = c.add.new.self; functors = c.add-2.new.self }) c.args.row.now
    c.in_ok-signature.signature c.in_ok-functor.functor c.in_ok-signature.ensures.extends
    c.in_ok-functor.ensures.extends c.in_ok-note_env.ensures.extends c.in_ok-signature.ensures.is
    c.in_ok-functor.ensures.is c.in_ok-note_env.ensures.placed c.in_ok-add.ensures.ok c.in_ok-add-2.ensures.ok
