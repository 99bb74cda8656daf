use Rattle.std.proofs.Common.{◌∙◌, sym, ap, Some, None}
use Rattle.std.specs.Option.{option_map}
use Rattle.sml_modules.specs.Items.{function_of}
use Rattle.semantic_objects.specs.Environments.{structures, types}
use Rattle.sml_modules.specs.Graphs.{env_at}
use Rattle.static_semantics.specs.Inferring.{found_at}
use Rattle.core_scopes.specs.Scopes.{seen}
use Rattle.core_scopes.proofs.Pathing.{if_ok, finds_is, any_reading, none_before, some_before, long_one, long_found, long_none}
use Rattle.core_scopes.proofs.scope.Scope.find_long_type_function.Goals as goal

pub returns-then-is_empty : goal.returns-then-is_empty
returns-then-is_empty g c =
    if_ok c.find_type_function.result _ _
    (λ found h read. h read ∙ ap (option_map function_of) (sym (long_one types c.args.parts.now c.in-Some.front.now c.in-Some.last.now
    (seen c.args.g.now read c.args.self.now) c.in-Some.ensures.cases.0
    (none_before c.in-Some.front.now c.is_empty.result c.is_empty.ensures c.if-is_empty.true))))
    c.find_type_function.ensures

pub find_type_function-requires-in-Some-2 : goal.find_type_function-requires-in-Some-2
find_type_function-requires-in-Some-2 g c =
    let found = finds_is c.args.g.now
    (found_at structures c.in-Some.front.now (seen c.args.g.now any_reading c.args.self.now))
    c.in_ok-env.field-0 (Some c.in-Some-2.env) c.in-Some-2.is (c.in_ok-env.ensures any_reading) in
    found.0

pub returns-in-Some-2 : goal.returns-in-Some-2
returns-in-Some-2 g c = if_ok c.find_type_function-in-Some-2.result _ _
    (λ found h read.
    let env = seen c.args.g.now read c.args.self.now in
    let there = finds_is c.args.g.now (found_at structures c.in-Some.front.now env) c.in_ok-env.field-0
    (Some c.in-Some-2.env) c.in-Some-2.is (c.in_ok-env.ensures read) in
    h ∙ ap (option_map function_of) (sym (long_found types c.args.parts.now c.in-Some.front.now c.in-Some.last.now env
    (env_at c.args.g.now c.in-Some-2.env) c.in-Some.ensures.cases.0
    (some_before c.in-Some.front.now c.is_empty.result c.is_empty.ensures c.if-is_empty.false) there.1)))
    c.find_type_function-in-Some-2.ensures

pub returns-in-None : goal.returns-in-None
returns-in-None g c = λ read.
    let env = seen c.args.g.now read c.args.self.now in
    let there = finds_is c.args.g.now (found_at structures c.in-Some.front.now env) c.in_ok-env.field-0 None
    c.in-None.is
    (c.in_ok-env.ensures read) in
    ap (option_map function_of) (sym (long_none types c.args.parts.now c.in-Some.front.now c.in-Some.last.now env c.in-Some.ensures.cases.0
    (some_before c.in-Some.front.now c.is_empty.result c.is_empty.ensures c.if-is_empty.false) there))
