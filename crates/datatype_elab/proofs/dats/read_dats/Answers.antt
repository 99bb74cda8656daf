use Rattle.std.proofs.Common.{◌+◌, ◌∙◌, sym, refl, subst, map, drop}
use Rattle.std.specs.Prelude.{Ok, Err}
use Rattle.bare_phrases.specs.PhraseOf.{dat_phrase}
use Rattle.core_scopes.specs.Scopes.{IsScopeOf}
use Rattle.type_phrases.proofs.PartsRead.{drop_item, drop_end}
use Rattle.type_phrases.proofs.Keeping.{keeps_later}
use Rattle.datatype_elab.specs.Listing.{IsDatStep}
use Rattle.datatype_elab.proofs.Dating.{dats_none, dats_more, dats_refused, dats_no_memory, dats_all}
use Rattle.datatype_elab.proofs.dats.read_dats.Goals as goal

pub loop-bind-init : goal.loop-bind-init
loop-bind-init g c = (
  dats_none c.args.g.now c.args.t.now c.args.scope.now c.args.refused.now c.args.binds.now c.new-names.result
      c.new-made.result c.new-names.ensures c.new-made.ensures,
  refl,
)

pub read_dat-requires : goal.read_dat-requires
read_dat-requires g c = subst (IsScopeOf c.args.g.now) (sym c.loop-bind.invariant.1) c.requires

pub returns-in_err-next-clause-dats : goal.returns-in_err-next-clause-dats
returns-in_err-next-clause-dats g c =
    let binds = c.args.binds.now in
    let i = c.loop-bind.bind-index in
    dats_refused c.args.g.now c.args.t.now c.loop-bind.t c.read_dat.new.t c.args.scope.now c.args.refused.now
    c.loop-bind.names c.read_dat.new.names binds (drop i binds) (drop (i + 1) binds) c.bind-item.result
    c.loop-bind.made c.in_err-next.field-0.0 c.from_residual.result c.loop-bind.invariant.0 c.from_residual.ensures.1
    (drop_item binds i c.bind-item.result c.loop-bind-test.true c.bind-item.is)
    (subst (λ s. IsDatStep c.args.g.now c.loop-bind.t s c.args.refused.now c.loop-bind.names
    (dat_phrase c.bind-item.result) c.read_dat.new.t c.read_dat.new.names (Err c.in_err-next.field-0.0))
    c.loop-bind.invariant.1 c.in_err-next.ensures.dat)

pub returns-in_err-next-clause-scope : goal.returns-in_err-next-clause-scope
returns-in_err-next-clause-scope g c = c.in_err-next.ensures.scope ∙ c.loop-bind.invariant.1

pub returns-in_err-add-clause-dats : goal.returns-in_err-add-clause-dats
returns-in_err-add-clause-dats g c =
    dats_no_memory c.args.g.now c.args.t.now c.read_dat.new.t c.args.scope.now c.args.refused.now
    (map dat_phrase c.args.binds.now) c.from_residual-in_err-add.result c.from_residual-in_err-add.ensures.1
    (keeps_later c.args.t.now c.loop-bind.t c.read_dat.new.t c.loop-bind.invariant.0.keeps
    c.in_ok-next.ensures.dat.keeps)

pub returns-in_err-add-clause-scope : goal.returns-in_err-add-clause-scope
returns-in_err-add-clause-scope g c = c.in_ok-next.ensures.scope ∙ c.loop-bind.invariant.1

pub loop-bind-preserved : goal.loop-bind-preserved
loop-bind-preserved g c =
    let binds = c.args.binds.now in
    let i = c.loop-bind.bind-index in (
      dats_more c.args.g.now c.args.t.now c.loop-bind.t c.read_dat.new.t c.args.scope.now c.args.refused.now
          c.loop-bind.names c.read_dat.new.names binds (drop i binds) (drop (i + 1) binds) c.bind-item.result
          c.loop-bind.made c.add.new.self c.in_ok-next.next c.loop-bind.invariant.0
          (drop_item binds i c.bind-item.result c.loop-bind-test.true c.bind-item.is)
          (subst (λ s. IsDatStep c.args.g.now c.loop-bind.t s c.args.refused.now c.loop-bind.names
          (dat_phrase c.bind-item.result) c.read_dat.new.t c.read_dat.new.names (Ok c.in_ok-next.next))
          c.loop-bind.invariant.1 c.in_ok-next.ensures.dat)
          c.in_ok-add.ensures.ok,
      c.in_ok-next.ensures.scope ∙ c.loop-bind.invariant.1,
    )

pub returns-clause-dats : goal.returns-clause-dats
returns-clause-dats g c =
    dats_all c.args.g.now c.args.t.now c.loop-bind.t c.args.scope.now c.args.refused.now c.loop-bind.names
    c.args.binds.now (drop c.loop-bind.bind-index c.args.binds.now) c.loop-bind.made c.loop-bind.invariant.0
    (drop_end c.args.binds.now c.loop-bind.bind-index c.loop-bind-test.false)

pub returns-clause-scope : goal.returns-clause-scope
returns-clause-scope g c = c.loop-bind.invariant.1
