use Rattle.std.proofs.Common.{[], ap, sym, ◌∙◌, length}
use Rattle.std.proofs.lemmas.List.{length-replicate}
use Rattle.datatype_elab.specs.Wants.{need_in}
use Rattle.datatype_elab.proofs.Choosing.{vec_back, choose_types, chosen_ok}
use Rattle.datatype_elab.proofs.choice.choose.Goals as goal

pub greatest_choice-requires-clause-types : goal.greatest_choice-requires-clause-types
greatest_choice-requires-clause-types c =
    choose_types (need_in c.args.new.now) c.as_slice.result.now c.gather.new.barred c.gather.new.holders
    c.from_vec-holders.result c.in_ok-gather.ensures
    (vec_back c.in_ok-lists.lists.len c.gather.new.holders _ c.from_vec-holders.result c.from_vec-holders.ensures
    (sym c.deref_mut.ensures.len ∙ ap length (c.deref_mut.ensures.value ∙ c.in_ok-lists.ensures)
    ∙ length-replicate c.len.result [] ∙ c.len.ensures ∙ ap length (sym c.as_slice.ensures)
    ∙ sym c.in_ok-gather.ensures.counted))

pub returns : goal.returns
returns c =
    chosen_ok c.args.new.now c.args.dats.now c.as_slice.result.now c.gather.new.barred c.gather.new.holders
    c.from_vec-holders.result c.greatest_choice.result c.requires c.as_slice.ensures c.in_ok-gather.ensures
    (vec_back c.in_ok-lists.lists.len c.gather.new.holders _ c.from_vec-holders.result c.from_vec-holders.ensures
    (sym c.deref_mut.ensures.len ∙ ap length (c.deref_mut.ensures.value ∙ c.in_ok-lists.ensures)
    ∙ length-replicate c.len.result [] ∙ c.len.ensures ∙ ap length (sym c.as_slice.ensures)
    ∙ sym c.in_ok-gather.ensures.counted))
    c.greatest_choices_are_taken.ensures c.greatest_choice.ensures
