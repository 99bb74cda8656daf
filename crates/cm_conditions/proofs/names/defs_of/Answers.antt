use Rattle.std.proofs.Common.{◌∙◌, ◌∷◌, ap, cond, Some, nat_eq}
use Rattle.cm_conditions.proofs.TableSteps.{one_back}
use Rattle.cm_conditions.proofs.names.defs_of.Goals as goal
use lib.Pointwise.{pointwise}

pub loop-def-preserved : goal.loop-def-preserved
loop-def-preserved c =
    let def = c.in-Some.def.now in
    let last = c.in-Some.ensures.cases in (
      def ∷ c.loop-def.invariant.0,
      one_back c.args.defs.now c.loop-def.rest.now c.in-Some.before.now c.loop-def.invariant.0 def c.loop-def.invariant.1 last.0,
      λ name. c.in_ok-note.ensures name
          ∙ ap (λ old. cond (pointwise nat_eq def.name name) (Some def.value) old) (c.loop-def.invariant.2 name),
    )
