use Rattle.std.proofs.Common.{◌≡◌, subst, refl, length, ◌-◌}
use Rattle.std.specs.Prelude.{IfOk}
use Rattle.std.specs.Option.{option_copied}
use Rattle.function_forms.proofs.Naming.{last_counted, last_alone, last_bound, last_free}
use Rattle.function_forms.proofs.flexible.alone.Goals as goal

pub alone_over-requires-clause-counted : goal.alone_over-requires-clause-counted
alone_over-requires-clause-counted c = last_counted c.nodes-nodes.result.now (length c.nodes-nodes.result.now - 1)
    c.index-nodes-nodes.result c.in-Made.symbol c.in-Made.places c.as_slice.result.now c.nodes-nodes.ensures.nodes refl
    c.index-nodes-nodes.is c.in-Made.is c.as_slice.ensures

pub returns-in-Made : goal.returns-in-Made
returns-in-Made c = subst (λ z. IfOk c.alone_over.result (λ name. option_copied name ≡ z))
    (last_alone c.nodes-nodes.result.now c.args.function.now (length c.nodes-nodes.result.now - 1)
    c.index-nodes-nodes.result c.in-Made.symbol c.in-Made.places c.as_slice.result.now c.nodes-nodes.ensures.tree
    c.nodes-nodes.ensures.nodes refl c.index-nodes-nodes.is c.in-Made.is c.as_slice.ensures) c.alone_over.ensures

pub returns-in-Bound : goal.returns-in-Bound
returns-in-Bound c = last_bound c.nodes-nodes.result.now c.args.function.now (length c.nodes-nodes.result.now - 1)
    c.in-Bound.field-0 c.index-nodes-nodes.result c.nodes-nodes.ensures.tree c.nodes-nodes.ensures.nodes refl
    c.index-nodes-nodes.is c.in-Bound.is

pub returns-in-Free : goal.returns-in-Free
returns-in-Free c = last_free c.nodes-nodes.result.now c.args.function.now (length c.nodes-nodes.result.now - 1)
    c.in-Free.field-0 c.index-nodes-nodes.result c.nodes-nodes.ensures.tree c.nodes-nodes.ensures.nodes refl
    c.index-nodes-nodes.is c.in-Free.is
