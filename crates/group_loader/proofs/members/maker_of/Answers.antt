use Rattle.group_loader.proofs.Making.{is_maker}
use Rattle.group_loader.proofs.members.maker_of.Goals as goal

pub returns : goal.returns
returns g c =
    is_maker g.T.Tool.class g.T.Tool.rule c.args.tools.now c.args.member.now c.in-Some.class c.in-Some.is
    c.in-Some-find_tool.place c.in-Some-find_tool.ensures
