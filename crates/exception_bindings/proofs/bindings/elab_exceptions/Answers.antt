use Rattle.std.proofs.Common.{sym, ap, ◌∙◌}
use Rattle.static_semantics.specs.Inferring.{gives}
use Rattle.core_scopes.specs.declared.made.Made.{Made}
use Rattle.exception_bindings.proofs.Binding.{made_is}
use Rattle.exception_bindings.proofs.bindings.elab_exceptions.Goals as goal

pub returns-clause-infers : goal.returns-clause-infers
returns-clause-infers g c = λ read a.
    let made : Made g.row.V.Denot = record {
      structures = c.new-structures.result;
      types = c.new-types.result;
      values = c.in_ok-values.values;
    } in
    c.in_ok-entries.ensures.infers read a
    ∙ ap gives (sym (made_is c.args.g.now read made c.in_ok-entries.entries c.new-structures.ensures
    c.new-types.ensures c.in_ok-values.ensures))
