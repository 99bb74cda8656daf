use Rattle.type_nodes.specs.Tables.{state}
use Rattle.core_scopes.specs.Scopes.{entry_of}
use Rattle.pattern_elab.specs.Scopes.{own_entry}
use Rattle.pattern_elab.proofs.Stepping.{sides_found, sides_missed}
use Rattle.pattern_elab.proofs.constructor.sides_of.Goals as goal

pub returns-in-Some-clause-finds : goal.returns-in-Some-clause-finds
returns-in-Some-clause-finds c = sides_found c.instance.new.t (entry_of own_entry c.args.value.now).scheme
    (state c.args.t.now) c.in_ok-id.id c.in-Some.sides.0 c.in-Some.sides.1 c.in_ok-id.ensures.made c.in-Some.ensures

pub returns-in-None-clause-finds : goal.returns-in-None-clause-finds
returns-in-None-clause-finds c = sides_missed c.args.g.now c.args.at c.instance.new.t
    (entry_of own_entry c.args.value.now).scheme (state c.args.t.now) c.in_ok-id.id c.refuse.result
    c.in_ok-id.ensures.made c.in-None.ensures c.refuse.ensures
