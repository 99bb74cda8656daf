use Rattle.std.proofs.Common.{refl, get_or}
use Rattle.semantic_objects.specs.declared.name.TyId.TheVariants as id
use Rattle.type_schemes.proofs.Items.{item_at}
use Rattle.type_schemes.proofs.Walks.{have_next}
use Rattle.type_schemes.proofs.young.Young.meet_all.Goals as goal

pub loop-id-preserved : goal.loop-id-preserved
loop-id-preserved c =
    let ids = c.args.ids.now in
    let i = c.loop-id.id-index in
    record {
      met = have_next c.args.table.now ids i (get_or ids i (id.Variable 0)) c.args.self.now c.loop-id.self c.meet.new.self
          c.loop-id.invariant.met (item_at ids ids i (id.Variable 0) refl c.loop-id-test.true) c.in_ok-meet.ensures.met;
      heads = c.in_ok-meet.ensures.heads;
    }
