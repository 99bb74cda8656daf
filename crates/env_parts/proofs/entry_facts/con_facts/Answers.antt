use Rattle.env_parts.proofs.Facting.{cons_done}
use Rattle.env_parts.proofs.entry_facts.con_facts.Goals as goal

pub returns : goal.returns
returns c = cons_done c.loop-con.facts c.args.cons.now c.as_slice-con-items.result.now c.loop-con.con-index
    c.as_slice-con-items.ensures c.loop-con-test.false c.loop-con.invariant
