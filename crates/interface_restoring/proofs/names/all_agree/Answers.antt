use Rattle.std.proofs.Common.{List, length, ◌≡◌, ◌≤◌, ◌<◌, take, subst, sym, ◌∙◌, get_or}
use Rattle.std.proofs.lemmas.List.{take_all}
use Rattle.semantic_objects.specs.declared.name.TyName.{TyName}
use Rattle.interface_restoring.proofs.Agreeing.{covers_none, names_more, names_not, names_all}
use Rattle.interface_restoring.proofs.names.all_agree.Goals as goal

pub loop-name-init : goal.loop-name-init
loop-name-init c =
    record { kept = c.new-known.ensures.kept; covers = covers_none c.new-known.result.names c.new-known.ensures.names }

pub loop-name-preserved : goal.loop-name-preserved
loop-name-preserved c = record {
  kept = c.in_ok-note.ensures.kept;
  covers = names_more c.args.names.now c.loop-name.name-index c.name-item.result c.name-item.result
      c.loop-name.known.names c.note.new.known.names
      (subst (λ (z : List TyName). c.name-item.result ≡ get_or z c.loop-name.name-index c.name-item.result)
      c.as_slice-name-items.ensures c.name-item.is)
      (subst (λ (z : List TyName). c.loop-name.name-index < length z) c.as_slice-name-items.ensures
      c.loop-name-test.true)
      c.loop-name.invariant.covers (sym c.in_ok-note.ensures.one ∙ c.if-not-branch.false)
      c.in_ok-note.ensures.names;
}

pub returns-then-not-branch : goal.returns-then-not-branch
returns-then-not-branch c =
    names_not c.args.names.now c.loop-name.name-index c.name-item.result c.name-item.result c.loop-name.known.names
    (subst (λ (z : List TyName). c.name-item.result ≡ get_or z c.loop-name.name-index c.name-item.result)
    c.as_slice-name-items.ensures c.name-item.is)
    (subst (λ (z : List TyName). c.loop-name.name-index < length z) c.as_slice-name-items.ensures c.loop-name-test.true)
    c.loop-name.invariant.covers (sym c.in_ok-note.ensures.one ∙ c.if-not-branch.true)

pub returns : goal.returns
returns c =
    names_all c.args.names.now (take c.loop-name.name-index c.args.names.now) c.loop-name.known.names
    (take_all c.loop-name.name-index c.args.names.now
    (subst (λ (z : List TyName). length z ≤ c.loop-name.name-index) c.as_slice-name-items.ensures
    c.loop-name-test.false))
    c.loop-name.invariant.covers
