use Rattle.repeated_names.specs.RepeatedTypes.{spec_repeats, sig_bind_member}
use Rattle.repeated_names.proofs.Found.{phrase_step, member_step}
use Rattle.repeated_names.proofs.FoundSigs.{sig_bind_member-kept}
use Rattle.repeated_names.proofs.find_sig.+find_sig.Goals as goal

pub find_specs-loop-spec-preserved : goal.find_specs-loop-spec-preserved
find_specs-loop-spec-preserved t c =
    phrase_step spec_repeats c.args.specs.now c.loop-spec.spec-index c.spec-item.result c.loop-spec.finder
    c.find_spec.new.finder _ c.loop-spec-test.true c.spec-item.is c.in_ok-find_spec.ensures c.loop-spec.invariant

pub find_sig_binds-loop-bind-preserved : goal.find_sig_binds-loop-bind-preserved
find_sig_binds-loop-bind-preserved t c =
    member_step sig_bind_member c.args.binds.now c.loop-bind.bind-index c.bind-item.result _ c.loop-bind.finder
    c.see.new.self c.find_sig.new.finder _ c.loop-bind.seen.keys c.see.new.seen.keys c.loop-bind-test.true
    c.bind-item.is (sig_bind_member-kept c.bind-item.result) c.in_ok-see.ensures.first c.in_ok-see.ensures.names
    c.in_ok-find_sig.ensures c.loop-bind.invariant
