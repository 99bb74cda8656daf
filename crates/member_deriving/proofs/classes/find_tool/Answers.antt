use Rattle.std.proofs.Common.{◌≡◌, false, true}
use Rattle.tool_deriving.specs.Toolboxes.{is_built_in}
use Rattle.member_deriving.proofs.Naming.{built_in_none, found_tool}
use Rattle.member_deriving.proofs.classes.find_tool.Goals as goal

pub returns-then-is_built_in : goal.returns-then-is_built_in
returns-then-is_built_in g c =
    let built : is_built_in c.args.class.now ≡ true =
    cc (c.is_built_in.ensures, c.if-is_built_in.true, c.as_bytes.ensures) in
    built_in_none g.T.Tool.class g.T.Tool.rule c.args.tools.now c.args.class.now built

pub returns : goal.returns
returns g c =
    let plain : is_built_in c.args.class.now ≡ false =
    cc (c.is_built_in.ensures, c.if-is_built_in.false, c.as_bytes.ensures) in
    found_tool g.T.Tool.class g.T.Tool.rule c.args.tools.now c.args.class.now c.find.result plain c.find.ensures
