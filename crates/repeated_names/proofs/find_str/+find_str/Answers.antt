use Rattle.std.proofs.Common.{sym, ap, ◌∙◌}
use Rattle.sml_trees.specs.declared.full_str.FullStrBind.{out-FullStrBind}
use Rattle.repeated_names.specs.RepeatedTypes.{seal_repeats}
use Rattle.repeated_names.specs.Repeats.{earliest_with}
use Rattle.repeated_names.specs.RepeatedUnits.{str_dec_repeats, str_repeats, str_bind_member}
use Rattle.repeated_names.proofs.Found.{earliest_with-append, phrase_step, member_step}
use Rattle.repeated_names.proofs.FoundStrs.{str_bind_member-kept}
use Rattle.repeated_names.proofs.find_str.+find_str.Goals as goal

pub find_str_decs-loop-dec-preserved : goal.find_str_decs-loop-dec-preserved
find_str_decs-loop-dec-preserved t c =
    phrase_step str_dec_repeats c.args.decs.now c.loop-dec.dec-index c.dec-item.result c.loop-dec.finder
    c.find_str_dec.new.finder _ c.loop-dec-test.true c.dec-item.is c.in_ok-find_str_dec.ensures c.loop-dec.invariant

pub find_str_binds-loop-bind-preserved : goal.find_str_binds-loop-bind-preserved
find_str_binds-loop-bind-preserved t c =
    let seal = seal_repeats (out-FullStrBind c.bind-item.result).seal in
    let body = str_repeats (out-FullStrBind c.bind-item.result).body in
    member_step str_bind_member c.args.binds.now c.loop-bind.bind-index c.bind-item.result _ c.loop-bind.finder
    c.see.new.self c.find_str.new.finder _ c.loop-bind.seen.keys c.see.new.seen.keys c.loop-bind-test.true
    c.bind-item.is (str_bind_member-kept c.bind-item.result) c.in_ok-see.ensures.first c.in_ok-see.ensures.names
    (c.in_ok-find_str.ensures
    ∙ ap (λ first. earliest_with first body) c.in_ok-find_seal.ensures
    ∙ sym (earliest_with-append c.see.new.self seal body))
    c.loop-bind.invariant
