use Rattle.std.proofs.Common.{◌∙◌, ◌+◌}
use Rattle.generated_projects.specs.Generating.{member_line}
use Rattle.generated_projects.proofs.Numbers.{texts_more, texts_all}
use Rattle.generated_projects.proofs.description.description_text.Goals as goal

pub loop-k-preserved : goal.loop-k-preserved
loop-k-preserved c =
    texts_more member_line c.loop-k.text.items c.add_member_line.new.out.items _ c.loop-k.k (c.args.n + 1) c.loop-k-test.true
    c.in_ok-add_member_line.ensures c.loop-k.invariant

pub returns : goal.returns
returns c =
    c.from_vec.ensures
    ∙ texts_all member_line c.loop-k.text.items _ c.loop-k.k (c.args.n + 1) c.loop-k-test.false c.loop-k.invariant
