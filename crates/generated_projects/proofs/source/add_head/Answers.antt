use Rattle.std.specs.Prelude.{codes}
use Rattle.std.specs.Fmt.{decimal}
use Rattle.generated_projects.specs.Generating.{head_text}
use Rattle.generated_projects.proofs.Numbers.{three_added}
use Rattle.generated_projects.proofs.source.add_head.Goals as goal

pub returns : goal.returns
unfolding head_text
returns c =
    three_added c.args.out.now.items c.add.new.out.items c.add_number.new.out.items c.add-2.new.out.items (codes "structure U")
    (decimal c.args.k) (codes " = struct val n = ") c.in_ok-add.ensures c.in_ok-add_number.ensures c.in_ok-add-2.ensures
