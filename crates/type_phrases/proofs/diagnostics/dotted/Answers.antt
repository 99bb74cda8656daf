use Rattle.std.proofs.Common.{◌∙◌}
use Rattle.type_phrases.proofs.Dotting.{dotted_first}
use Rattle.type_phrases.proofs.diagnostics.dotted.Goals as goal

pub loop-part-init : goal.loop-part-init
loop-part-init c =
    dotted_first c.args.parts.now c.in-Some.rest.now c.in-Some.first.now c.in_ok-bytes.bytes.items
    c.in-Some.ensures.cases.0 (c.in_ok-bytes.ensures.items ∙ c.as_bytes.ensures)
