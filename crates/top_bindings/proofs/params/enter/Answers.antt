use Rattle.top_bindings.proofs.Bodies.{param_enters}
use Rattle.top_bindings.proofs.params.enter.Goals as goal

pub returns : goal.returns
returns c = param_enters c.args.name.now c.args.env c.args.top.now c.enter_parameter.new.scope c.enter_parameter.result
    c.enter_parameter.ensures.ok
