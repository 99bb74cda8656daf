use Rattle.std.proofs.Common.{sym, ap, ◌∙◌, ◌++◌, ◌∷◌, [], Some}
use Rattle.std.specs.Option.{option_map, option_copied}
use Rattle.sml_modules.specs.Items.{at, as_type}
use Rattle.type_walks.specs.Replaced.{rows_of}
use Rattle.module_semantics.specs.Matching.{Item, realising, realising_all}
use Rattle.structure_matching.specs.Searching.{at_of, known_type}
use Rattle.structure_matching.proofs.RealisingSteps.{same_answer, type_alone}
use Rattle.structure_matching.proofs.realising.realise_type.Goals as goal

pub returns-in-Some-found-clause-realises : goal.returns-in-Some-found-clause-realises
returns-in-Some-found-clause-realises c inner s root home found =
    let place = c.args.at.now in
    let rows = rows_of c.args.search.now.rows in
    let items = c.args.g.now.items in
    let path = c.args.search.now.path ++ c.args.component.now.name ∷ [] in
    same_answer (realising_all inner (at_of place) s root c.args.search.now.bound.names
    (Item.TypeItem path (as_type (at items c.args.component.now.specified)) ∷ []) rows)
    (realising inner (at_of place) s root path rows (Some c.in-Some.name.now))
    (λ u. rows_of c.realise_name.new.search.rows) c.realise_name.result
    (type_alone inner place s root c.args.search.now.bound.names path rows
    (at items c.args.component.now.specified) c.in_ok-specified.specified.now (Some c.in-Some.name.now)
    c.in_ok-specified.ensures
    (sym (ap option_copied c.in-Some.is) ∙ c.in_ok-flexible.ensures))
    (c.realise_name.ensures.answers inner s root path home
    (found ∙ ap (option_map (known_type items s)) c.in-Some-found.is))
