use Rattle.std.proofs.Common.{◌-◌, ◌∙◌, ap, sym}
use Rattle.std.specs.Option.{option_copied}
use Rattle.initial_basis.proofs.Lasts.{last_copied}
use Rattle.initial_basis.proofs.type_names.last_word.Goals as goal

pub returns-in-Some : goal.returns-in-Some
returns-in-Some c =
    last_copied c.args.words.now (c.len-len.result - 1) c.in-Some.word.now c.copy.result
    (ap (λ n. n - 1) c.len-len.ensures) (sym c.get.ensures.item ∙ ap option_copied c.in-Some.is) c.copy.ensures
