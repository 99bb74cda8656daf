use Rattle.std.proofs.Common.{◌≡◌, sym, ◌∙◌, subst, Some, None, Option}
use Rattle.std.specs.Prelude.{IfOk}
use Rattle.semantic_objects.specs.Environments.{Functor}
use Rattle.sml_modules.specs.Graphs.{functor_at, top_at, HasFunctor, FindsFunctor}
use Rattle.name_trails.specs.Trails.{last_entry}
use Rattle.module_scopes.proofs.Rows.{found_over, found_below, holds_last}
use Rattle.module_scopes.proofs.top.TopScope.find_functor.Goals as goal

pub returns-in-Some : goal.returns-in-Some
returns-in-Some c =
    let e : last_entry c.args.self.now.defined.functors c.args.name.now ≡ Some c.in-Some.fun =
    sym c.defined_functor.ensures ∙ c.in-Some.is in (
      holds_last (HasFunctor c.args.g.now) c.args.self.now.defined.functors c.args.name.now c.in-Some.fun
          c.requires.defined.functors e,
      found_over (functor_at c.args.g.now) c.args.self.now.defined.functors (top_at c.args.g.now c.args.self.now.given).functors
          c.args.name.now c.in-Some.fun e,
    )

pub returns-in-None : goal.returns-in-None
returns-in-None c =
    let e : last_entry c.args.self.now.defined.functors c.args.name.now ≡ None =
    sym c.defined_functor.ensures ∙ c.in-None.is in
    subst (λ (o : Option Functor). IfOk c.find_functor.result (FindsFunctor c.args.g.now o))
    (sym (found_below (functor_at c.args.g.now) c.args.self.now.defined.functors
    (top_at c.args.g.now c.args.self.now.given).functors c.args.name.now e)) c.find_functor.ensures
