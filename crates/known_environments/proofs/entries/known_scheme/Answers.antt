use Rattle.std.proofs.Common.{length}
use Rattle.type_nodes.specs.Tables.{state}
use Rattle.known_environments.proofs.Becoming.{put_below}
use Rattle.known_environments.proofs.entries.known_scheme.Goals as goal

pub make-requires : goal.make-requires
make-requires c = put_below (state c.args.by.now).stands (length c.in_ok-parts.parts.marks) c.in_ok-parts.parts.body
    c.in_ok-body.body c.in_ok-parts.ensures.bound c.in_ok-body.ensures
