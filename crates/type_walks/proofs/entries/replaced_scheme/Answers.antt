use Rattle.std.proofs.Common.{length}
use Rattle.type_walks.specs.Replaced.{put_by}
use Rattle.type_walks.proofs.Putting.{realised_below}
use Rattle.type_walks.proofs.entries.replaced_scheme.Goals as goal

pub make-requires : goal.make-requires
make-requires c = realised_below (put_by c.args.by.now) (length c.in_ok-parts.parts.marks) c.in_ok-parts.parts.body
    c.in_ok-body.body c.in_ok-parts.ensures.bound c.in_ok-body.ensures
