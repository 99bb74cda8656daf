use Rattle.std.proofs.Common.{[], ◌∷◌, ◌++◌, ap, ◌∙◌, subst}
use Rattle.datatype_elab.specs.Wants.{need_in, AddsWants}
use Rattle.datatype_elab.specs.Choosing.{cons_wanted, dat_wanted, has_none}
use Rattle.datatype_elab.proofs.Choosing.{ok_of, bars_same, holders_ok}
use Rattle.datatype_elab.proofs.choice.add_dat.Goals as goal

pub returns-clause-barred : goal.returns-clause-barred
returns-clause-barred c = ok_of c.add_holders.result
    (c.in_ok-add.ensures.ok
    ∙ ap (λ b. c.args.barred.now ++ b ∷ [])
    (c.bars.ensures ∙ ap has_none c.as_slice-2.ensures
    ∙ bars_same (dat_wanted (need_in c.args.new.now) c.args.dat.now) c.in_ok-wants.wants
    (subst (λ cons. AddsWants (cons_wanted (need_in c.args.new.now) cons) [] c.in_ok-wants.wants) c.as_slice.ensures
    c.in_ok-wants.ensures)))

pub returns-clause-holders : goal.returns-clause-holders
returns-clause-holders c =
    holders_ok c.add_holders.result c.args.holders.now c.add_holders.new.holders
    (dat_wanted (need_in c.args.new.now) c.args.dat.now) c.in_ok-wants.wants c.as_slice-3.result.now c.args.at
    (subst (λ cons. AddsWants (cons_wanted (need_in c.args.new.now) cons) [] c.in_ok-wants.wants) c.as_slice.ensures
    c.in_ok-wants.ensures)
    c.as_slice-3.ensures c.add_holders.ensures
