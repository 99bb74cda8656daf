use Rattle.std.proofs.Common.{[], ap, ◌∙◌}
use Rattle.unification.specs.Closing.{found_in_all, scheme_over}
use Rattle.type_nodes.specs.Tables.{state, whole, whole_all}
use Rattle.type_schemes.specs.Numbering.{keeps}
use Rattle.type_schemes.proofs.Numbering.{numbers_kept}
use Rattle.type_schemes.proofs.close.generalise.Goals as goal

pub returns : goal.returns
returns c =
    let t = c.args.table.now in
    c.in_ok-close_but.ensures ∙ ap (λ vs. scheme_over vs (state t).marks (whole t c.args.ty))
    (numbers_kept t c.in_ok-outer.outer (keeps c.into_kept-staying.result) c.args.kept.now c.args.ty c.in_ok-outer.ensures.reached
    (λ kept. c.in_ok-outer.ensures.found kept ∙ ap (λ ids. found_in_all kept (whole_all t ids) []) c.as_slice.ensures)
    c.into_kept-staying.ensures)
