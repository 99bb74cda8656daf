use Rattle.std.proofs.Common.{◌∙◌, ap, ◌+◌, ◌++◌, ◌∷◌, []}
use Rattle.generated_projects.specs.Generating.{write_source}
use Rattle.generated_projects.proofs.Numbers.{items_more, items_all}
use Rattle.generated_projects.proofs.project.add_sources.Goals as goal

pub loop-k-preserved : goal.loop-k-preserved
loop-k-preserved c =
    items_more write_source c.loop-k.steps c.add.new.self _ c.loop-k.k (c.args.n + 1) c.loop-k-test.true
    (c.in_ok-add.ensures.ok ∙ ap (λ step. c.loop-k.steps ++ step ∷ []) c.in_ok-write_source.ensures) c.loop-k.invariant

pub returns : goal.returns
returns c = items_all write_source c.loop-k.steps _ c.loop-k.k (c.args.n + 1) c.loop-k-test.false c.loop-k.invariant
