use Rattle.equality_types.proofs.Fallen.{falls_first}
use Rattle.equality_types.proofs.choice.refuse_where_needed.Goals as goal

-- the barred types fell
pub refuse_holders-requires-clause-falling : goal.refuse_holders-requires-clause-falling
refuse_holders-requires-clause-falling c =
    falls_first c.args.barred.now c.args.holders.now _ _ _ _ c.requires.all c.new-work.ensures.items
    c.in_ok-refuse_barred.ensures
