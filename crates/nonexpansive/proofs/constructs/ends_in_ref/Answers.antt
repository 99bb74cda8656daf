use Rattle.std.proofs.Common.{◌∙◌, ap}
use Rattle.std.specs.Prelude.{nat_eq}
use Rattle.std.specs.Cmp.Lexicographic.{pointwise}
use Rattle.nonexpansive.proofs.Parts.{last_part}
use Rattle.nonexpansive.proofs.constructs.ends_in_ref.Goals as goal

pub returns-in-Some : goal.returns-in-Some
returns-in-Some c =
    c.eq.ensures ∙ ap (λ t. pointwise nat_eq t c.as_bytes-in-Some.result.now) c.as_bytes.ensures
    ∙ ap (pointwise nat_eq c.in-Some.last.now) c.as_bytes-in-Some.ensures.value
    ∙ last_part c.args.parts.now c.in-Some.field-0-1.now c.in-Some.last.now c.in-Some.ensures.cases.0
