use Rattle.std.proofs.Common.{◌∙◌, ap}
use Rattle.cm_bytes.specs.Hashes.{hash_of}
use Rattle.bin_store.proofs.StoredLaws.{put_kept, put_written}
use Rattle.bin_store.proofs.store.put_interface.Goals as goal

pub returns-then-branch-clause-done : goal.returns-then-branch-clause-done
returns-then-branch-clause-done g c =
    put_kept _ _ c.args.bytes.now c.pid_of-pid.result c.in_ok-has_interface.field-0
    (c.pid_of-pid.ensures ∙ ap hash_of c.as_bytes.ensures) c.in_ok-has_interface.ensures.same c.if-branch.true
    c.in_ok-has_interface.ensures.found

pub returns-clause-done : goal.returns-clause-done
returns-clause-done g c =
    put_written _ _ _ c.args.bytes.now c.in_ok-path.path c.in_ok-file.file c.pid_of-pid.result
    c.in_ok-has_interface.field-0
    (c.pid_of-pid.ensures ∙ ap hash_of c.as_bytes.ensures) c.in_ok-path.ensures c.in_ok-file.ensures
    c.in_ok-has_interface.ensures.same c.if-branch.false c.in_ok-has_interface.ensures.found
    c.in_ok-put_file.ensures.done
