use Rattle.tool_records.proofs.Finding.{found_so, no_digest, by_steps}
use Rattle.tool_records.proofs.read.read_record.Goals as goal

pub returns-in-None-clause-spelled : goal.returns-in-None-clause-spelled
returns-in-None-clause-spelled c = no_digest c.args.bytes.now c.in-None.ensures

pub returns-in-None-clause-read : goal.returns-in-None-clause-read
returns-in-None-clause-read c =
    by_steps c.args.bytes.now _ (record { below = λ i. (c.type_inv.bytes i).fits }) (no_digest c.args.bytes.now c.in-None.ensures)

pub returns-in_ok-found-in-Some-clause-spelled : goal.returns-in_ok-found-in-Some-clause-spelled
returns-in_ok-found-in-Some-clause-spelled c =
    found_so c.args.bytes.now c.in-Some.body.now c.in_ok-found-in-Some.found (record { below = λ i. (c.type_inv.bytes i).fits })
    c.in-Some.ensures c.in_ok-found-in-Some.ensures

pub returns-in_ok-found-in-Some-clause-read : goal.returns-in_ok-found-in-Some-clause-read
returns-in_ok-found-in-Some-clause-read c =
    by_steps c.args.bytes.now c.in_ok-found-in-Some.found (record { below = λ i. (c.type_inv.bytes i).fits })
    (found_so c.args.bytes.now c.in-Some.body.now c.in_ok-found-in-Some.found (record { below = λ i. (c.type_inv.bytes i).fits })
    c.in-Some.ensures c.in_ok-found-in-Some.ensures)
