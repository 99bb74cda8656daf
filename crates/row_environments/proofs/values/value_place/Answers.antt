use Rattle.std.proofs.Common.{subst}
use Rattle.row_entries.specs.Told.{ToldAt}
use Rattle.row_environments.proofs.Valued.{values_kept, value_set}
use Rattle.row_environments.proofs.values.value_place.Goals as goal

pub returns-in_ok-set-in-Some-2-clause-values : goal.returns-in_ok-set-in-Some-2-clause-values
returns-in_ok-set-in-Some-2-clause-values c =
    value_set c.args.entries.now.schemes c.add_value.new.graph.items c.args.places.now c.set.new.self
    c.args.row.now.status c.args.row.now.place c.in_ok-place-in-Some-2.place
    (values_kept c.args.entries.now.schemes c.args.graph.now c.add_value.new.graph c.args.places.now
    c.add_value.ensures.extends c.requires)
    c.in_ok-set-in-Some-2.ensures
    (record {
      scheme = c.in-Some-2.scheme;
      told = subst (ToldAt c.args.entries.now.schemes c.args.row.now.place) c.in-Some-2.is
          c.in_ok-scheme-in-None.ensures;
      is = c.in_ok-place-in-Some-2.ensures.is;
    })
