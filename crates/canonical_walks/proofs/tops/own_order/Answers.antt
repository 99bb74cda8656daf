use Rattle.type_walks.proofs.Imaging.{if_ok}
use Rattle.canonical_walks.proofs.Topped.{own_found}
use Rattle.canonical_walks.proofs.tops.own_order.Goals as goal

pub returns : goal.returns
returns c = if_ok c.new.result c.new.ensures
    (λ order h. own_found c.args.graph.now c.args.tables.now c.in_ok-envs.envs c.in_ok-names.names c.in_ok-own.own order
    c.in_ok-home.home c.in_ok-envs.ensures.names c.in_ok-names.ensures c.in_ok-home.ensures c.in_ok-own.ensures h)
