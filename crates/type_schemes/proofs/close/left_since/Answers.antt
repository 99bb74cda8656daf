use Rattle.std.proofs.Common.{ap, ◌∙◌}
use Rattle.type_nodes.specs.Tables.{state}
use Rattle.type_schemes.specs.Schemes.{stays_since}
use Rattle.type_schemes.proofs.Ages.{first_left}
use Rattle.type_schemes.proofs.close.left_since.Goals as goal

pub returns : goal.returns
returns c =
    let t = c.args.table.now in
    let n = (state c.args.since.now).next in
    first_left t n c.in_ok-kept.kept c.args.unclosed.now c.args.own.now c.first_of.result
    (λ v. c.in_ok-kept.ensures v ∙ ap (λ z. stays_since t n z v) c.as_slice.ensures) c.first_of.ensures
