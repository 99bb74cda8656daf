use Rattle.std.proofs.Common.{refl, ap, ◌∙◌}
use Rattle.repeated_names.specs.Repeats.{earliest_with, place_again}
use Rattle.repeated_names.specs.RepeatedTypes.{pat_repeats, pat_item_repeats, pat_field_member}
use Rattle.repeated_names.specs.Finding.{names_then}
use Rattle.repeated_names.proofs.Found.{phrase_step, member_step}
use Rattle.repeated_names.proofs.find_pat.+find_pat.Goals as goal

pub find_pats-loop-pat-preserved : goal.find_pats-loop-pat-preserved
find_pats-loop-pat-preserved t c =
    phrase_step pat_repeats c.args.pats.now c.loop-pat.pat-index c.pat-item.result c.loop-pat.finder
    c.find_pat.new.finder _ c.loop-pat-test.true c.pat-item.is c.in_ok-find_pat.ensures c.loop-pat.invariant

pub find_pat_items-loop-item-preserved : goal.find_pat_items-loop-item-preserved
find_pat_items-loop-item-preserved t c =
    phrase_step pat_item_repeats c.args.items.now c.loop-item.item-index c.item-item.result c.loop-item.finder
    c.find_pat_item.new.finder _ c.loop-item-test.true c.item-item.is c.in_ok-find_pat_item.ensures c.loop-item.invariant

pub find_pat_fields-loop-field-preserved : goal.find_pat_fields-loop-field-preserved
find_pat_fields-loop-field-preserved t c =
    member_step pat_field_member c.args.fields.now c.loop-field.field-index c.field-item.result
    (pat_field_member c.field-item.result) c.loop-field.finder c.see.new.self c.find_in_field.new.finder _
    c.loop-field.seen.keys c.see.new.seen.keys c.loop-field-test.true c.field-item.is refl
    (c.in_ok-see.ensures.first
    ∙ ap (λ n. earliest_with c.loop-field.finder (place_again c.loop-field.seen.keys n)) c.label_of.ensures)
    (c.in_ok-see.ensures.names ∙ ap (names_then c.loop-field.seen.keys) c.label_of.ensures)
    c.in_ok-find_in_field.ensures c.loop-field.invariant
