use Rattle.std.proofs.Common.{refl, sym, ◌∙◌}
use Rattle.type_schemes.proofs.Reaching.{reached_variable, found_variable, found_again}
use Rattle.type_schemes.proofs.reach.Reached.add_variable.Goals as goal

pub returns-in-Some-clause-found : goal.returns-in-Some-clause-found
returns-in-Some-clause-found c = found_again c.args.table.now c.args.self.now c.args.number _ c.requires.reached
    (sym c.of.ensures ∙ c.in-Some.is) c.requires.end

pub returns-in_ok-set-in-None-clause-reached : goal.returns-in_ok-set-in-None-clause-reached
returns-in_ok-set-in-None-clause-reached c = reached_variable c.args.table.now c.args.self.now
    (record { ids = c.add.new.self; nodes = c.args.self.now.nodes; variables = c.set.new.self; heads = c.args.self.now.heads }) c.args.number
    c.len-place.result c.requires.reached c.requires.has c.requires.end c.len-place.ensures c.in_ok-add-in-None.ensures.ok
    refl c.in_ok-set-in-None.ensures refl

pub returns-in_ok-set-in-None-clause-found : goal.returns-in_ok-set-in-None-clause-found
returns-in_ok-set-in-None-clause-found c = found_variable c.args.self.now
    (record { ids = c.add.new.self; nodes = c.args.self.now.nodes; variables = c.set.new.self; heads = c.args.self.now.heads }) c.args.number
    c.in_ok-add-in-None.ensures.ok
