use Rattle.std.proofs.Common.{◌∙◌, get_or, nat_eq}
use Rattle.indexmap.specs.IndexMap.{get}
use Rattle.visibility.specs.Tables.{shown_at}
use Rattle.visibility.proofs.Defining.{own_item}
use Rattle.visibility.proofs.NamesShown.{names_more}
use Rattle.visibility.proofs.there.names_there.Goals as goal

pub loop-member-preserved : goal.loop-member-preserved
loop-member-preserved c =
    names_more (shown_at (get nat_eq c.args.places.now) c.args.below.now) c.loop-member.names c.add_member.new.names
    c.args.among.now c.loop-member.member-index (get_or c.args.among.now c.loop-member.member-index 0)
    c.loop-member-test.true (own_item c.args.among.now c.loop-member.member-index c.loop-member-test.true)
    c.in_ok-add_member.ensures
    ∙ c.loop-member.invariant
