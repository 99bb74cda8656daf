use Rattle.std.proofs.Common.{◌∙◌, sym, ap, ◌+◌, ◌++◌, ◌∷◌, drop, map}
use Rattle.std.specs.Option.{option_copied}
use Rattle.std.proofs.lemmas.List.{drop_more}
use Rattle.build_laws.specs.Inputs.{done_unit, givens_of, imports_in, with_given}
use Rattle.cutoff_builder.specs.Planning.{wanted_name}
use Rattle.cutoff_builder.proofs.Giving.{import_step}
use Rattle.cutoff_builder.proofs.unit.imports_of.Goals as goal

pub loop-name-preserved : goal.loop-name-preserved
loop-name-preserved c =
    let i = c.loop-name.name-index in
    let units = c.args.units.now in
    let done = c.args.done.now.units in
    let item = c.name-item.result in
    let rest = givens_of done (map (wanted_name units) (drop (i + 1) c.args.wanted.now)) in
    let next = drop_more c.args.wanted.now i item c.loop-name-test.true
    ∙ ap (λ w. w ∷ drop (i + 1) c.args.wanted.now) (sym c.name-item.is) in
    ap (λ l. l ++ imports_in rest) c.in_ok-add_import.ensures
    ∙ import_step c.loop-name.imports (record { name = item.name; provider = c.name_of-provider.result.now }) (option_copied c.find.result) rest
    ∙ ap (λ o. c.loop-name.imports ++ imports_in (with_given (record { name = item.name; provider = c.name_of-provider.result.now }) o rest))
    c.find.ensures
    ∙ ap (λ p. c.loop-name.imports ++ imports_in (with_given (record { name = item.name; provider = p }) (done_unit done p) rest))
    c.name_of-provider.ensures
    ∙ sym (ap (λ ws. c.loop-name.imports ++ imports_in (givens_of done (map (wanted_name units) ws))) next)
    ∙ c.loop-name.invariant
