use Rattle.std.proofs.Common.{Some, None}
use Rattle.semantic_objects.specs.Tables.{entry}
use Rattle.semantic_objects.specs.Environments.{structures}
use Rattle.sml_modules.specs.Graphs.{env_at}
use Rattle.core_scopes.specs.Scopes.{seen}
use Rattle.core_scopes.proofs.Pathing.{if_ok, finds_is, any_reading, first_found, first_none}
use Rattle.core_scopes.proofs.scope.Scope.find_long_structure.Goals as goal

pub lead_on-requires : goal.lead_on-requires
lead_on-requires g c =
    let found = finds_is c.args.g.now
    (entry c.in-Some.first.now (structures (seen c.args.g.now any_reading c.args.self.now)))
    c.in_ok-env.field-0 (Some c.in-Some-2.env) c.in-Some-2.is (c.in_ok-env.ensures any_reading) in
    found.0

pub returns-in-Some-2 : goal.returns-in-Some-2
returns-in-Some-2 g c = if_ok c.lead_on.result _ _
    (λ found h read.
    let env = seen c.args.g.now read c.args.self.now in
    let there = finds_is c.args.g.now (entry c.in-Some.first.now (structures env)) c.in_ok-env.field-0
    (Some c.in-Some-2.env) c.in-Some-2.is (c.in_ok-env.ensures read) in
    first_found c.args.g.now c.args.parts.now c.in-Some.rest.now c.in-Some.first.now env
    (env_at c.args.g.now c.in-Some-2.env) found c.in-Some.ensures.cases.0 there.1 h)
    c.lead_on.ensures

pub returns-in-None : goal.returns-in-None
returns-in-None g c = λ read.
    let env = seen c.args.g.now read c.args.self.now in
    let there = finds_is c.args.g.now (entry c.in-Some.first.now (structures env)) c.in_ok-env.field-0 None c.in-None.is
    (c.in_ok-env.ensures read) in
    first_none c.args.parts.now c.in-Some.rest.now c.in-Some.first.now env c.in-Some.ensures.cases.0 there
