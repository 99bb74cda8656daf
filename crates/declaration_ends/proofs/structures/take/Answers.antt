use Rattle.std.proofs.Common.{sym, ◌∙◌, subst, false}
use Rattle.type_nodes.specs.Tables.{state}
use Rattle.core_scopes.proofs.Pathing.{if_ok}
use Rattle.declaration_ends.specs.Structures.{large_at, IsTaken}
use Rattle.declaration_ends.proofs.Meeting.{skipped, parts_done}
use Rattle.declaration_ends.proofs.structures.take.Goals as goal

pub returns-in-Some-clause-taken : goal.returns-in-Some-clause-taken
returns-in-Some-clause-taken c = subst (λ s. IsTaken (large_at (state c.args.t.now).stands c.args.g.now.items) s
    c.args.done.now c.args.done.now c.args.steps.now c.args.steps.now false) (sym c.in-Enter.is)
    (skipped (large_at (state c.args.t.now).stands c.args.g.now.items) c.args.done.now c.args.steps.now
    c.in-Enter.place c.in-Some.field-0 (sym c.of.ensures ∙ c.in-Some.is))

pub returns-in-None-clause-taken : goal.returns-in-None-clause-taken
returns-in-None-clause-taken c = if_ok c.enter.result _ _
    (λ found h. subst (λ s. IsTaken (large_at (state c.args.t.now).stands c.args.g.now.items) s
    c.args.done.now c.enter.new.done c.args.steps.now c.enter.new.steps found) (sym c.in-Enter.is) h)
    c.enter.ensures.taken

pub returns-in_ok-set-in-Leave-clause-taken : goal.returns-in_ok-set-in-Leave-clause-taken
returns-in_ok-set-in-Leave-clause-taken c = subst (λ s. IsTaken (large_at (state c.args.t.now).stands c.args.g.now.items) s
    c.args.done.now c.set.new.self c.args.steps.now c.args.steps.now false) (sym c.in-Leave.is)
    (parts_done (large_at (state c.args.t.now).stands c.args.g.now.items) c.args.done.now c.set.new.self
    c.args.steps.now c.in-Leave.place c.in_ok-set-in-Leave.ensures)
