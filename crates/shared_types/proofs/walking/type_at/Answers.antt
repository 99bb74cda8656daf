use Rattle.std.proofs.Common.{sym, ◌∙◌}
use Rattle.shared_types.proofs.walking.type_at.Goals as goal

pub tree_to-requires-clause-within : goal.tree_to-requires-clause-within
tree_to-requires-clause-within c =
    (c.in_ok-walk.ensures.each c.args.place c.in-Some.image (sym c.of.ensures ∙ c.in-Some.is)).within
