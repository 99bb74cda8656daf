use Rattle.table_schemes.proofs.Later.{scheme_later}
use Rattle.table_cases.proofs.growing.entered_instances.Goals as goal

pub loop-preserved : goal.loop-preserved
loop-preserved c =
    scheme_later c.loop.table c.instance.new.self c.args.scheme.now c.in_ok-entered.entered
    (record { types = c.in_ok-instance.ensures.extends.types; ids = c.in_ok-instance.ensures.extends.ids })
    c.loop.invariant
