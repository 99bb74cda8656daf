use Rattle.std.proofs.Common.{ap, ◌∙◌, map}
use Rattle.repeated_names.specs.Repeats.{earliest_with}
use Rattle.repeated_names.specs.Finding.{found_behind, names_behind}
use Rattle.repeated_names.specs.RepeatedTypes.{con_member, dat_cons}
use Rattle.repeated_names.proofs.Found.{group_step}
use Rattle.repeated_names.proofs.find_ty.find_cons.Goals as goal

pub loop-bind-preserved : goal.loop-bind-preserved
loop-bind-preserved c =
    group_step dat_cons c.args.binds.now c.loop-bind.bind-index c.bind-item.result c.loop-bind.finder
    c.find_behind.new.finder _ c.loop-bind.seen.keys c.find_behind.new.seen.keys c.loop-bind-test.true c.bind-item.is
    (c.in_ok-find_behind.ensures.first
    ∙ ap (λ cons. earliest_with c.loop-bind.finder (found_behind c.loop-bind.seen.keys (map con_member cons))) c.as_slice.ensures)
    (c.in_ok-find_behind.ensures.names
    ∙ ap (λ cons. names_behind c.loop-bind.seen.keys (map con_member cons)) c.as_slice.ensures)
    c.loop-bind.invariant
