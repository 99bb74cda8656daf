use Rattle.std.proofs.Common.{◌∙◌, sym, ap, ap₂, ◌+◌, ◌<◌, ◌&&◌, ◌∷◌, length, drop, arith}
use Rattle.std.proofs.lemmas.List.{drop_more, drop_all}
use Rattle.build_laws.specs.Stale.{same_imports}
use Rattle.cutoff_builder.proofs.Keys.{length_differs}
use Rattle.cutoff_builder.proofs.fresh.same_imports.Goals as goal

pub returns-then-a-b : goal.returns-then-a-b
returns-then-a-b c = length_differs c.args.a.now c.args.b.now c.if-a-b.true

pub returns-then-not-same_import : goal.returns-then-not-same_import
returns-then-not-same_import c =
    let i = c.loop-at.at in
    let in_b : i < length c.args.b.now = omega (arith, c.loop-at.invariant.long, c.loop-at-test.true) in
    let a = drop_more c.args.a.now i c.index-a-at.result c.loop-at-test.true ∙ ap (λ v. v ∷ drop (i + 1) c.args.a.now) (sym c.index-a-at.is) in
    let b = drop_more c.args.b.now i c.index-b-at.result in_b ∙ ap (λ v. v ∷ drop (i + 1) c.args.b.now) (sym c.index-b-at.is) in
    sym (sym c.loop-at.invariant.rest ∙ ap₂ same_imports a b
    ∙ ap (λ s. s && same_imports (drop (i + 1) c.args.a.now) (drop (i + 1) c.args.b.now))
    (sym c.same_import.ensures ∙ c.if-not-same_import.true))

pub loop-at-preserved : goal.loop-at-preserved
loop-at-preserved c =
    let i = c.loop-at.at in
    let in_b : i < length c.args.b.now = omega (arith, c.loop-at.invariant.long, c.loop-at-test.true) in
    let a = drop_more c.args.a.now i c.index-a-at.result c.loop-at-test.true ∙ ap (λ v. v ∷ drop (i + 1) c.args.a.now) (sym c.index-a-at.is) in
    let b = drop_more c.args.b.now i c.index-b-at.result in_b ∙ ap (λ v. v ∷ drop (i + 1) c.args.b.now) (sym c.index-b-at.is) in
    record {
      long = c.loop-at.invariant.long;
      rest = sym (ap₂ same_imports a b
          ∙ ap (λ s. s && same_imports (drop (i + 1) c.args.a.now) (drop (i + 1) c.args.b.now))
          (sym c.same_import.ensures ∙ c.if-not-same_import.false))
          ∙ c.loop-at.invariant.rest;
    }

pub returns : goal.returns
returns c =
    let i = c.loop-at.at in
    sym (sym c.loop-at.invariant.rest
    ∙ ap₂ same_imports (drop_all i c.args.a.now c.loop-at-test.false)
    (drop_all i c.args.b.now (omega (arith, c.loop-at.invariant.long, c.loop-at-test.false))))
