use Rattle.std.proofs.Common.{ℕ, List, ◌∙◌, ap, length, get_or}
use Rattle.static_semantics.specs.DatatypeInference.{counted}
use Rattle.datatype_elab.proofs.Dating.{first_number}
use Rattle.datatype_elab.proofs.dats.variables_of.Goals as goal

pub returns-clause-numbers : goal.returns-clause-numbers
returns-clause-numbers c = λ n k e.
    first_number c.args.list.now c.index-rows-0.result (length c.rows-rows.result.now) n k
    (c.index-rows-0.is ∙ ap (λ xs. get_or xs 0 c.index-rows-0.result) c.rows-rows.ensures)
    (ap length c.rows-rows.ensures) e c.if-count-eq0.false
    ∙ ap (λ (row : List ℕ × ℕ). counted (length c.rows-rows.result.now) row.1) c.index-rows-0.is
