use Rattle.std.proofs.Common.{ap}
use Rattle.type_walks.proofs.Imaging.{if_ok}
use Rattle.semantic_objects.specs.Environments.{Top}
use Rattle.sml_modules.specs.Items.{at, as_env}
use Rattle.sml_modules.specs.Graphs.{top_at}
use Rattle.row_entries.proofs.Found.{not_so, is_so}
use Rattle.interface_restoring.proofs.Agreeing.{names_of_top, own_decides, others_decide, inside_decides}
use Rattle.interface_restoring.proofs.names.has_names.Goals as goal

pub returns-then-not-branch : goal.returns-then-not-branch
returns-then-not-branch c =
    own_decides c.args.home.now (top_at c.args.graph.now c.args.top) c.in_ok-names.names
    (names_of_top c.args.graph.now (top_at c.args.graph.now c.args.top) c.in_ok-tables.tables.now c.in_ok-envs.envs
    c.in_ok-names.names c.in_ok-tables.ensures.is c.in_ok-envs.ensures.names c.in_ok-names.ensures)
    (not_so c.in_ok-own_numbered.field-0 c.in_ok-own_numbered.ensures c.if-not-branch.true)

pub returns-then-not-branch-2 : goal.returns-then-not-branch-2
returns-then-not-branch-2 c =
    others_decide c.args.home.now (top_at c.args.graph.now c.args.top) c.in_ok-names.names c.in_ok-others.others
    (names_of_top c.args.graph.now (top_at c.args.graph.now c.args.top) c.in_ok-tables.tables.now c.in_ok-envs.envs
    c.in_ok-names.names c.in_ok-tables.ensures.is c.in_ok-envs.ensures.names c.in_ok-names.ensures)
    c.in_ok-others.ensures
    (not_so c.in_ok-all_agree.field-0 c.in_ok-all_agree.ensures c.if-not-branch-2.true)

pub returns : goal.returns
returns c =
    if_ok c.none_bound.result c.none_bound.ensures
    (λ r h. inside_decides c.args.home.now (top_at c.args.graph.now c.args.top) c.in_ok-names.names
    c.in_ok-others.others (as_env (at c.args.graph.now.items c.in_ok-tables.tables.now.env)) r
    (names_of_top c.args.graph.now (top_at c.args.graph.now c.args.top) c.in_ok-tables.tables.now c.in_ok-envs.envs
    c.in_ok-names.names c.in_ok-tables.ensures.is c.in_ok-envs.ensures.names c.in_ok-names.ensures)
    c.in_ok-others.ensures
    (is_so c.in_ok-own_numbered.field-0 c.in_ok-own_numbered.ensures c.if-not-branch.false)
    (is_so c.in_ok-all_agree.field-0 c.in_ok-all_agree.ensures c.if-not-branch-2.false)
    (ap (λ (z : Top). z.env) c.in_ok-tables.ensures.is) h)
