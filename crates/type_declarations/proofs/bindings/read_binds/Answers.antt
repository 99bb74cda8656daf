use Rattle.std.proofs.Common.{◌+◌, ◌∙◌, ap, sym, refl, subst, map, drop}
use Rattle.std.specs.Prelude.{Ok, Err}
use Rattle.bare_phrases.specs.PhraseOf.{typ_phrase}
use Rattle.semantic_objects.specs.declared.entry.TypeStr.{TypeStr}
use Rattle.core_scopes.specs.Scopes.{IsScopeOf}
use Rattle.type_phrases.proofs.PartsRead.{drop_item, drop_end}
use Rattle.type_phrases.proofs.Keeping.{keeps_later}
use Rattle.type_declarations.specs.Binding.{IsBindStep}
use Rattle.type_declarations.proofs.Binding.{types_none, types_more, types_refused, types_no_memory, types_all, phrase_next, phrases_end}
use Rattle.type_declarations.proofs.bindings.read_binds.Goals as goal

pub loop-bind-init : goal.loop-bind-init
loop-bind-init g c = record {
  same = refl;
  sofar = types_none c.args.g.now c.args.t.now c.args.scope.now (map typ_phrase c.args.binds.now) c.new-names.result
      c.new-made.result c.new-names.ensures c.new-made.ensures;
}

pub read_bind-requires : goal.read_bind-requires
read_bind-requires g c = subst (IsScopeOf c.args.g.now) (sym c.loop-bind.invariant.same) c.requires

pub returns-in_err-function-clause-binds : goal.returns-in_err-function-clause-binds
returns-in_err-function-clause-binds g c =
    let binds = c.args.binds.now in
    let i = c.loop-bind.bind-index in
    types_refused c.args.g.now c.args.t.now c.loop-bind.t c.read_bind.new.t c.args.scope.now (map typ_phrase binds)
    (map typ_phrase (drop i binds)) (map typ_phrase (drop (i + 1) binds)) (typ_phrase c.bind-item.result)
    c.loop-bind.names c.loop-bind.made c.in_err-function.field-0.0 c.from_residual.result c.loop-bind.invariant.sofar
    c.from_residual.ensures.1
    (phrase_next (drop i binds) (drop (i + 1) binds) c.bind-item.result
    (drop_item binds i c.bind-item.result c.loop-bind-test.true c.bind-item.is))
    (subst (λ s. IsBindStep c.args.g.now c.loop-bind.t s c.loop-bind.names (typ_phrase c.bind-item.result)
    c.read_bind.new.t (Err c.in_err-function.field-0.0)) c.loop-bind.invariant.same c.in_err-function.ensures.bind)

pub loop-bind-preserved : goal.loop-bind-preserved
loop-bind-preserved g c =
    let binds = c.args.binds.now in
    let i = c.loop-bind.bind-index in
    record {
      same = c.in_ok-function.ensures.scope ∙ c.loop-bind.invariant.same;
      sofar = types_more c.args.g.now c.args.t.now c.loop-bind.t c.read_bind.new.t c.args.scope.now
          (map typ_phrase binds) (map typ_phrase (drop i binds)) (map typ_phrase (drop (i + 1) binds))
          (typ_phrase c.bind-item.result) c.loop-bind.names c.bind.new.self c.loop-bind.made c.add.new.self
          c.in_ok-function.function c.in_ok-key.key c.in_ok-name.name
          (record { function = c.in_ok-function.function; cons = c.new-cons.result }) c.loop-bind.invariant.sofar
          (phrase_next (drop i binds) (drop (i + 1) binds) c.bind-item.result
          (drop_item binds i c.bind-item.result c.loop-bind-test.true c.bind-item.is))
          (subst (λ s. IsBindStep c.args.g.now c.loop-bind.t s c.loop-bind.names (typ_phrase c.bind-item.result)
          c.read_bind.new.t (Ok c.in_ok-function.function)) c.loop-bind.invariant.same c.in_ok-function.ensures.bind)
          (ap (λ cons. (let str : TypeStr = record { function = c.in_ok-function.function; cons = cons } in str))
          c.new-cons.ensures)
          c.in_ok-key.ensures c.in_ok-bind.ensures.ok c.in_ok-name.ensures c.in_ok-add.ensures.ok;
    }

pub returns-clause-binds : goal.returns-clause-binds
returns-clause-binds g c =
    types_all c.args.g.now c.args.t.now c.loop-bind.t c.args.scope.now (map typ_phrase c.args.binds.now)
    (map typ_phrase (drop c.loop-bind.bind-index c.args.binds.now)) c.loop-bind.names c.loop-bind.made
    c.loop-bind.invariant.sofar
    (phrases_end (drop c.loop-bind.bind-index c.args.binds.now)
    (drop_end c.args.binds.now c.loop-bind.bind-index c.loop-bind-test.false))

pub returns-in_err-key-clause-binds : goal.returns-in_err-key-clause-binds
returns-in_err-key-clause-binds g c =
    types_no_memory c.args.g.now c.args.t.now c.read_bind.new.t c.args.scope.now (map typ_phrase c.args.binds.now)
    c.from_residual-in_err-key.result c.from_residual-in_err-key.ensures.1
    (keeps_later c.args.t.now c.loop-bind.t c.read_bind.new.t c.loop-bind.invariant.sofar.keeps
    c.in_ok-function.ensures.bind.keeps)

pub returns-in_err-name-clause-binds : goal.returns-in_err-name-clause-binds
returns-in_err-name-clause-binds g c =
    types_no_memory c.args.g.now c.args.t.now c.read_bind.new.t c.args.scope.now (map typ_phrase c.args.binds.now)
    c.from_residual-in_err-name.result c.from_residual-in_err-name.ensures.1
    (keeps_later c.args.t.now c.loop-bind.t c.read_bind.new.t c.loop-bind.invariant.sofar.keeps
    c.in_ok-function.ensures.bind.keeps)

pub returns-in_err-bind-clause-binds : goal.returns-in_err-bind-clause-binds
returns-in_err-bind-clause-binds g c =
    types_no_memory c.args.g.now c.args.t.now c.read_bind.new.t c.args.scope.now (map typ_phrase c.args.binds.now)
    c.from_residual-in_err-bind.result c.from_residual-in_err-bind.ensures.1
    (keeps_later c.args.t.now c.loop-bind.t c.read_bind.new.t c.loop-bind.invariant.sofar.keeps
    c.in_ok-function.ensures.bind.keeps)

pub returns-in_err-add-clause-binds : goal.returns-in_err-add-clause-binds
returns-in_err-add-clause-binds g c =
    types_no_memory c.args.g.now c.args.t.now c.read_bind.new.t c.args.scope.now (map typ_phrase c.args.binds.now)
    c.from_residual-in_err-add.result c.from_residual-in_err-add.ensures.1
    (keeps_later c.args.t.now c.loop-bind.t c.read_bind.new.t c.loop-bind.invariant.sofar.keeps
    c.in_ok-function.ensures.bind.keeps)
