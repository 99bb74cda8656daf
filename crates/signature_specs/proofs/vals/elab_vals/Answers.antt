use Rattle.std.proofs.Common.{◌≡◌, ◌+◌, ◌∙◌, ap, drop, map, refl, subst}
use Rattle.std.specs.Prelude.{Err}
use Rattle.semantic_objects.specs.declared.entry.ValueEntry.{ValueEntry}
use Rattle.bare_phrases.specs.PhraseOf.{ty_phrase}
use Rattle.static_semantics.specs.Inferring.{gives}
use Rattle.type_phrases.specs.Inferred.{Answers, progress, scope_in}
use Rattle.type_phrases.proofs.Keeping.{keeps_all, keeps_later}
use Rattle.type_phrases.proofs.PartsRead.{drop_item, drop_end}
use Rattle.module_semantics.specs.SigPhrases.{val_phrase}
use Rattle.signature_specs.specs.Specs.{signature_so_far}
use Rattle.signature_specs.specs.Steps.{infer_val}
use Rattle.signature_specs.proofs.Fronts.{front_itself, front_later}
use Rattle.signature_specs.proofs.Valuing.{vals_refused, vals_taken, vals_more, vals_all}
use Rattle.signature_specs.proofs.vals.elab_vals.Goals as goal

pub loop-desc-init : goal.loop-desc-init
loop-desc-init g c = record {
  keeps = keeps_all c.args.t.now;
  scope = refl;
  front = front_itself c.args.made.now;
  structures = refl;
  left_is = λ u read. refl;
}

pub returns-in_err-entry-clause-infers : goal.returns-in_err-entry-clause-infers
returns-in_err-entry-clause-infers g c = λ u read.
    let graph = c.args.g.now in
    let descs = c.args.descs.now in
    let i = c.loop-desc.desc-index in
    let item = c.desc-item.result in
    let now = progress c.loop-desc.t graph in
    let inner = scope_in graph u read c.args.scope.now in
    vals_refused inner (map val_phrase descs) (map val_phrase (drop i descs)) (map val_phrase (drop (i + 1) descs))
    (val_phrase item) (signature_so_far graph c.args.made.now) (signature_so_far graph c.loop-desc.made)
    (progress c.args.t.now graph) now (c.loop-desc.invariant.left_is u read)
    (ap (map val_phrase) (drop_item descs i item c.loop-desc-test.true c.desc-item.is))
    (λ (entry : ValueEntry). (entry, progress c.entry_of.new.t graph)) _ c.in_err-entry.field-0.0 c.from_residual.result
    c.from_residual.ensures.1
    (subst (λ s. Answers (infer_val (scope_in graph u read s) (ty_phrase item.ty) now)
    (λ (entry : ValueEntry). (entry, progress c.entry_of.new.t graph)) (Err c.in_err-entry.field-0.0))
    c.loop-desc.invariant.scope (c.in_err-entry.ensures.infers u read))

pub returns-in_err-specify_value-clause-infers : goal.returns-in_err-specify_value-clause-infers
returns-in_err-specify_value-clause-infers g c = λ u read.
    let graph = c.args.g.now in
    let descs = c.args.descs.now in
    let i = c.loop-desc.desc-index in
    let item = c.desc-item.result in
    let now = progress c.loop-desc.t graph in
    let inner = scope_in graph u read c.args.scope.now in
    vals_taken inner (map val_phrase descs) (map val_phrase (drop i descs)) (map val_phrase (drop (i + 1) descs))
    (val_phrase item) (signature_so_far graph c.args.made.now) (signature_so_far graph c.loop-desc.made)
    (progress c.args.t.now graph) now (c.loop-desc.invariant.left_is u read)
    (ap (map val_phrase) (drop_item descs i item c.loop-desc-test.true c.desc-item.is))
    c.in_ok-entry.entry (progress c.entry_of.new.t graph)
    (λ (x : Unit {0}). signature_so_far graph c.specify_value.new.made) _ c.in_err-specify_value.field-0.0
    c.from_residual-in_err-specify_value.result c.from_residual-in_err-specify_value.ensures.1
    (subst (λ s. infer_val (scope_in graph u read s) (ty_phrase item.ty) now
    ≡ gives (c.in_ok-entry.entry, progress c.entry_of.new.t graph))
    c.loop-desc.invariant.scope (c.in_ok-entry.ensures.infers u read))
    (c.in_err-specify_value.ensures.infers inner refl)

pub returns-in_err-specify_value-clause-keeps : goal.returns-in_err-specify_value-clause-keeps
returns-in_err-specify_value-clause-keeps g c =
    keeps_later c.args.t.now c.loop-desc.t c.entry_of.new.t c.loop-desc.invariant.keeps c.in_ok-entry.ensures.keeps

pub loop-desc-preserved : goal.loop-desc-preserved
loop-desc-preserved g c = record {
  keeps = keeps_later c.args.t.now c.loop-desc.t c.entry_of.new.t c.loop-desc.invariant.keeps
      c.in_ok-entry.ensures.keeps;
  scope = c.in_ok-entry.ensures.scope ∙ c.loop-desc.invariant.scope;
  front = front_later c.args.made.now c.loop-desc.made c.specify_value.new.made c.loop-desc.invariant.front
      c.in_ok-specify_value.ensures.front;
  structures = c.in_ok-specify_value.ensures.structures ∙ c.loop-desc.invariant.structures;
  left_is = λ u read.
      let graph = c.args.g.now in
      let descs = c.args.descs.now in
      let i = c.loop-desc.desc-index in
      let item = c.desc-item.result in
      let now = progress c.loop-desc.t graph in
      let inner = scope_in graph u read c.args.scope.now in
      vals_more inner (map val_phrase descs) (map val_phrase (drop i descs)) (map val_phrase (drop (i + 1) descs))
      (val_phrase item) (signature_so_far graph c.args.made.now) (signature_so_far graph c.loop-desc.made)
      (progress c.args.t.now graph) now (c.loop-desc.invariant.left_is u read)
      (ap (map val_phrase) (drop_item descs i item c.loop-desc-test.true c.desc-item.is))
      c.in_ok-entry.entry (progress c.entry_of.new.t graph) (signature_so_far graph c.specify_value.new.made)
      (subst (λ s. infer_val (scope_in graph u read s) (ty_phrase item.ty) now
      ≡ gives (c.in_ok-entry.entry, progress c.entry_of.new.t graph))
      c.loop-desc.invariant.scope (c.in_ok-entry.ensures.infers u read))
      (c.in_ok-specify_value.ensures.infers inner refl);
}

pub returns-clause-infers : goal.returns-clause-infers
returns-clause-infers g c = λ u read.
    let graph = c.args.g.now in
    let descs = c.args.descs.now in
    let i = c.loop-desc.desc-index in
    vals_all (scope_in graph u read c.args.scope.now) (map val_phrase descs) (map val_phrase (drop i descs))
    (signature_so_far graph c.args.made.now) (signature_so_far graph c.loop-desc.made) (progress c.args.t.now graph)
    (progress c.loop-desc.t graph) (c.loop-desc.invariant.left_is u read)
    (ap (map val_phrase) (drop_end descs i c.loop-desc-test.false))
