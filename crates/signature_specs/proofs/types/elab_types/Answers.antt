use Rattle.std.proofs.Common.{◌+◌, ◌∙◌, ap, drop, map, refl, sym}
use Rattle.type_phrases.specs.Inferred.{progress}
use Rattle.type_phrases.proofs.Keeping.{keeps_all, keeps_later}
use Rattle.type_phrases.proofs.PartsRead.{drop_item, drop_end}
use Rattle.module_semantics.specs.SigPhrases.{type_desc_phrase}
use Rattle.signature_specs.specs.Specs.{signature_so_far}
use Rattle.signature_specs.proofs.Fronts.{front_itself, front_later}
use Rattle.signature_specs.proofs.Typing.{types_refused, types_more, types_all}
use Rattle.signature_specs.proofs.types.elab_types.Goals as goal

pub loop-desc-init : goal.loop-desc-init
loop-desc-init c = record {
  keeps = keeps_all c.args.t.now;
  items = refl;
  home = refl;
  front = front_itself c.args.made.now;
  structures = refl;
  left_is = λ inner home. refl;
}

pub returns-in_err-elab_type-clause-infers : goal.returns-in_err-elab_type-clause-infers
returns-in_err-elab_type-clause-infers c = λ inner home.
    let descs = c.args.descs.now in
    let i = c.loop-desc.desc-index in
    let item = c.desc-item.result in
    types_refused inner c.args.eq (map type_desc_phrase descs) (map type_desc_phrase (drop i descs))
    (map type_desc_phrase (drop (i + 1) descs)) (type_desc_phrase item) (signature_so_far c.args.g.now c.args.made.now)
    (signature_so_far c.loop-desc.g c.loop-desc.made) (progress c.args.t.now c.args.g.now)
    (progress c.loop-desc.t c.loop-desc.g) (c.loop-desc.invariant.left_is inner home)
    (ap (map type_desc_phrase) (drop_item descs i item c.loop-desc-test.true c.desc-item.is))
    (λ (x : Unit {0}). (
      signature_so_far c.elab_type.new.g c.elab_type.new.made,
      progress c.elab_type.new.t c.elab_type.new.g,
    ))
    _ c.in_err-elab_type.field-0.0 c.from_residual.result c.from_residual.ensures.1
    (c.in_err-elab_type.ensures.infers inner (home ∙ sym c.loop-desc.invariant.home))

pub returns-in_err-elab_type-clause-keeps : goal.returns-in_err-elab_type-clause-keeps
returns-in_err-elab_type-clause-keeps c =
    keeps_later c.args.t.now c.loop-desc.t c.elab_type.new.t c.loop-desc.invariant.keeps
    c.in_err-elab_type.ensures.keeps

pub loop-desc-preserved : goal.loop-desc-preserved
loop-desc-preserved c = record {
  keeps = keeps_later c.args.t.now c.loop-desc.t c.elab_type.new.t c.loop-desc.invariant.keeps
      c.in_ok-elab_type.ensures.keeps;
  items = c.in_ok-elab_type.ensures.items ∙ c.loop-desc.invariant.items;
  home = c.in_ok-elab_type.ensures.home ∙ c.loop-desc.invariant.home;
  front = front_later c.args.made.now c.loop-desc.made c.elab_type.new.made c.loop-desc.invariant.front
      c.in_ok-elab_type.ensures.front;
  structures = c.in_ok-elab_type.ensures.structures ∙ c.loop-desc.invariant.structures;
  left_is = λ inner home.
      let descs = c.args.descs.now in
      let i = c.loop-desc.desc-index in
      let item = c.desc-item.result in
      types_more inner c.args.eq (map type_desc_phrase descs) (map type_desc_phrase (drop i descs))
      (map type_desc_phrase (drop (i + 1) descs)) (type_desc_phrase item)
      (signature_so_far c.args.g.now c.args.made.now)
      (signature_so_far c.loop-desc.g c.loop-desc.made) (progress c.args.t.now c.args.g.now)
      (progress c.loop-desc.t c.loop-desc.g) (c.loop-desc.invariant.left_is inner home)
      (ap (map type_desc_phrase) (drop_item descs i item c.loop-desc-test.true c.desc-item.is))
      (signature_so_far c.elab_type.new.g c.elab_type.new.made) (progress c.elab_type.new.t c.elab_type.new.g)
      (c.in_ok-elab_type.ensures.infers inner (home ∙ sym c.loop-desc.invariant.home));
}

pub returns-clause-infers : goal.returns-clause-infers
returns-clause-infers c = λ inner home.
    let descs = c.args.descs.now in
    let i = c.loop-desc.desc-index in
    types_all inner c.args.eq (map type_desc_phrase descs) (map type_desc_phrase (drop i descs))
    (signature_so_far c.args.g.now c.args.made.now) (signature_so_far c.loop-desc.g c.loop-desc.made)
    (progress c.args.t.now c.args.g.now) (progress c.loop-desc.t c.loop-desc.g)
    (c.loop-desc.invariant.left_is inner home)
    (ap (map type_desc_phrase) (drop_end descs i c.loop-desc-test.false))
