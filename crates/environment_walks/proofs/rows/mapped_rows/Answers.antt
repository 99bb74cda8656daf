use Rattle.std.proofs.Common.{◌+◌, refl, sym}
use Rattle.environment_walks.proofs.Mapping.{mapped_none, mapped_next}
use Rattle.environment_walks.proofs.rows.mapped_rows.Goals as goal

pub loop-at-init : goal.loop-at-init
loop-at-init c = mapped_none c.args.images.now c.args.rows.now c.new-made.result c.new-made.ensures

pub loop-at-preserved : goal.loop-at-preserved
loop-at-preserved c =
    mapped_next c.args.images.now c.args.rows.now c.loop-at.made c.set.new.self c.in_ok-names.names
    c.in_ok-places.places c.in-Some.name.now c.in_ok-copy-in-Some.field-0 c.in_ok-image.image c.loop-at.at
    (c.loop-at.at + 1) c.in_ok-names.ensures.names c.in_ok-names.ensures.rising c.in_ok-places.ensures
    c.loop-at.invariant (sym c.in-Some.ensures.item) (λ p e. c.in_ok-image.ensures p e) c.in_ok-copy-in-Some.ensures
    c.in_ok-set-in-Some.ensures.ok refl
