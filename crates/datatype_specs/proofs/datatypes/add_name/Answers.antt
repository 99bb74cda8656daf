use Rattle.std.proofs.Common.{ap, sym, ◌∙◌}
use Rattle.std.specs.Option.{option_copied}
use Rattle.bare_phrases.specs.PhraseOf.{dat_phrase}
use Rattle.datatype_specs.proofs.Specifying.{not_some, no_type, no_name, one_name}
use Rattle.datatype_specs.proofs.datatypes.add_name.Goals as goal

pub returns-in_ok-add : goal.returns-in_ok-add
returns-in_ok-add c =
    one_name c.args.new.now (dat_phrase c.args.bind.now) c.args.bound.now c.add.new.self c.in-Some.entry.now
    c.in-Some-2.name.now c.in_ok-copy.field-0 (sym c.in-Some.ensures)
    (sym c.in_ok-name.ensures ∙ ap option_copied c.in-Some-2.is) c.in_ok-copy.ensures c.in_ok-add.ensures.ok

pub returns-in_default-2 : goal.returns-in_default-2
returns-in_default-2 c =
    no_name c.args.new.now (dat_phrase c.args.bind.now) c.args.bound.now c.in-Some.entry.now (sym c.in-Some.ensures)
    (sym c.in_ok-name.ensures ∙ ap option_copied (not_some c.in_ok-name.field-0 c.in_default-2.not-Some))

pub returns-in_default : goal.returns-in_default
returns-in_default c =
    no_type c.args.new.now (dat_phrase c.args.bind.now) c.args.bound.now
    (sym c.find.ensures ∙ ap option_copied (not_some c.find.result c.in_default.not-Some))
