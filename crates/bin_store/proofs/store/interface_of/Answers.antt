use Rattle.std.proofs.Common.{sym}
use Rattle.bin_formats.proofs.Tests.{not_same, same}
use Rattle.bin_store.proofs.StoredLaws.{Halves, too_long, too_short, head_differs, hash_differs, all_same}
use Rattle.bin_store.proofs.store.interface_of.Goals as goal

pub returns-then-bytes-gt1048584 : goal.returns-then-bytes-gt1048584
returns-then-bytes-gt1048584 c = sym (too_long c.args.pid.now c.args.bytes.now c.if-bytes-gt1048584.true)

pub returns-then-bytes-lt8 : goal.returns-then-bytes-lt8
returns-then-bytes-lt8 c = sym (too_short c.args.pid.now c.args.bytes.now c.if-bytes-lt8.true)

pub returns-then-not-same_bytes : goal.returns-then-not-same_bytes
returns-then-not-same_bytes c =
    let halves : Halves c.args.bytes.now c.split_at.result.0.now c.split_at.result.1.now c.interface_head.result =
    record { front = c.split_at.ensures.front; back = c.split_at.ensures.back; made_is = c.interface_head.ensures } in
    sym (head_differs c.args.pid.now _ _ _ _ halves
    (not_same _ _ c.same_bytes.result c.if-not-same_bytes.true c.same_bytes.ensures))

pub returns-then-not-same_pid : goal.returns-then-not-same_pid
returns-then-not-same_pid c =
    let halves : Halves c.args.bytes.now c.split_at.result.0.now c.split_at.result.1.now c.interface_head.result =
    record { front = c.split_at.ensures.front; back = c.split_at.ensures.back; made_is = c.interface_head.ensures } in
    sym (hash_differs c.args.pid.now _ _ _ _ _ halves c.pid_of.ensures
    (not_same _ _ c.same_pid.result c.if-not-same_pid.true c.same_pid.ensures))

pub returns : goal.returns
returns c =
    let halves : Halves c.args.bytes.now c.split_at.result.0.now c.split_at.result.1.now c.interface_head.result =
    record { front = c.split_at.ensures.front; back = c.split_at.ensures.back; made_is = c.interface_head.ensures } in
    sym (all_same c.args.pid.now _ _ _ _ _ halves c.if-bytes-gt1048584.false
    (same _ _ c.same_bytes.result c.if-not-same_bytes.false c.same_bytes.ensures) c.pid_of.ensures
    (same _ _ c.same_pid.result c.if-not-same_pid.false c.same_pid.ensures))
