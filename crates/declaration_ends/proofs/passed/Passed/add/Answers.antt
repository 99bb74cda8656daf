use Rattle.std.proofs.Common.{refl, sym, subst}
use Rattle.declaration_ends.specs.declared.passed.Passed.{Passed}
use Rattle.declaration_ends.specs.Leaving.{Adds}
use Rattle.declaration_ends.proofs.Walking.{adds_variable, adds_node}
use Rattle.declaration_ends.proofs.passed.Passed.add.Goals as goal

pub returns-in_ok-add-in-Variable : goal.returns-in_ok-add-in-Variable
returns-in_ok-add-in-Variable c =
    let new : Passed = record { variables = c.add.new.self; nodes = c.args.self.now.nodes } in
    subst (λ id. Adds c.args.self.now id new) (sym c.in-Variable.is)
    (adds_variable c.args.self.now new c.in-Variable.number c.add.new.self c.in_ok-add-in-Variable.ensures refl)

pub returns-in_ok-add-in-Made : goal.returns-in_ok-add-in-Made
returns-in_ok-add-in-Made c =
    let new : Passed = record { variables = c.args.self.now.variables; nodes = c.add-in-Made.new.self } in
    subst (λ id. Adds c.args.self.now id new) (sym c.in-Made.is)
    (adds_node c.args.self.now new c.in-Made.at c.add-in-Made.new.self c.in_ok-add-in-Made.ensures refl)
