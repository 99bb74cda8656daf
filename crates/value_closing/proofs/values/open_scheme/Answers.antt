use Rattle.semantic_objects.specs.declared.name.TyId.TheVariants as id
use Rattle.std.proofs.Common.{◌∙◌, ap, ◌++◌, ◌∷◌, []}
use Rattle.value_closing.proofs.Grouping.{open_is}
use Rattle.value_closing.proofs.values.open_scheme.Goals as goal

pub returns-clause-scheme : goal.returns-clause-scheme
returns-clause-scheme c =
    open_is c.args.t.now (id.Variable c.args.number) c.add.new.self c.in_ok-generalise.field-0
    (c.in_ok-add.ensures.ok ∙ ap (λ ids. ids ++ (id.Variable c.args.number) ∷ []) c.new-kept.ensures)
    c.in_ok-generalise.ensures.scheme
