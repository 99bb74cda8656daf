use Rattle.std.proofs.Common.{◌≡◌, ◌≤◌, ◌∙◌, sym, ap, [], drop, length, arith}
use Rattle.std.proofs.lemmas.List.{drop_all}
use Rattle.written_variables.specs.Texts.{with_names}
use Rattle.written_variables.proofs.Texts.{gathered}
use Rattle.written_variables.proofs.written.texts_once.Goals as goal

pub returns : goal.returns
returns c =
    let past : length c.args.names.now ≤ c.loop-name.name-index = omega (arith, c.loop-name-test.false) in
    let done : drop c.loop-name.name-index c.args.names.now ≡ [] = drop_all c.loop-name.name-index c.args.names.now past in
    sym (ap (with_names c.loop-name.texts) done) ∙ c.loop-name.invariant.all ∙ gathered [] c.args.names.now
