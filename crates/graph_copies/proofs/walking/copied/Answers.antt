use Rattle.std.proofs.Common.{sym, ◌∙◌}
use Rattle.sml_modules.specs.declared.id.TopId.{TopId}
use Rattle.graph_copies.proofs.Copying.{top_given}
use Rattle.graph_copies.proofs.walking.copied.Goals as goal

pub returns-in-Some-clause-gives : goal.returns-in-Some-clause-gives
returns-in-Some-clause-gives c =
    let made : TopId = record { place = c.in-Some.place } in
    top_given c.args.graph.now c.args.into.now c.walk.new.into c.walk.new.images c.args.top made c.requires
    c.walk.ensures.extends c.in_ok-walk.ensures.copied (sym c.of.ensures ∙ c.in-Some.is)
