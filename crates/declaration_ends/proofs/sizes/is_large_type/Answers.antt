use Rattle.std.proofs.Common.{◌+◌, ◌∷◌, ◌∙◌, ap, refl, sym, drop}
use Rattle.type_nodes.specs.Tables.{state}
use Rattle.static_semantics.specs.Inferring.{con_bodies}
use Rattle.declaration_ends.specs.Sizes.{is_large_in}
use Rattle.declaration_ends.proofs.Sizing.{any_here, any_behind, none_any, cons_next, cons_end}
use Rattle.declaration_ends.proofs.sizes.is_large_type.Goals as goal

pub loop-con-init : goal.loop-con-init
loop-con-init c =
    let p = is_large_in (state c.args.t.now).stands in
    let str = c.args.entry.now in
    record {
      same = c.in_ok-large.ensures.same;
      left = any_behind p (str.function.body ∷ con_bodies str.cons) (con_bodies str.cons) str.function.body
          c.in_ok-large.large refl c.in_ok-large.ensures.large c.if-large.false;
    }

pub loop-con-preserved : goal.loop-con-preserved
loop-con-preserved c =
    let p = is_large_in (state c.args.t.now).stands in
    let cons = c.args.entry.now.cons in
    let i = c.loop-con.con-index in
    record {
      same = c.in_ok-large-2.ensures.same ∙ c.loop-con.invariant.same;
      left = c.loop-con.invariant.left
          ∙ any_behind p (con_bodies (drop i cons)) (con_bodies (drop (i + 1) cons)) c.con-item.result.scheme.body
          c.in_ok-large-2.large
          (cons_next c.as_slice-con-items.result.now cons i c.con-item.result c.as_slice-con-items.ensures
          c.loop-con-test.true c.con-item.is)
          (c.in_ok-large-2.ensures.large
          ∙ ap (λ u. is_large_in (state u).stands c.body.result.now) c.loop-con.invariant.same
          ∙ ap p c.body.ensures) c.if-large-2.false;
    }

pub returns-then-large-clause-large : goal.returns-then-large-clause-large
returns-then-large-clause-large c =
    let p = is_large_in (state c.args.t.now).stands in
    let str = c.args.entry.now in
    any_here p (str.function.body ∷ con_bodies str.cons) (con_bodies str.cons) str.function.body c.in_ok-large.large refl
    c.in_ok-large.ensures.large c.if-large.true

pub returns-then-large-2-clause-large : goal.returns-then-large-2-clause-large
returns-then-large-2-clause-large c =
    let p = is_large_in (state c.args.t.now).stands in
    let cons = c.args.entry.now.cons in
    let i = c.loop-con.con-index in
    any_here p (con_bodies (drop i cons)) (con_bodies (drop (i + 1) cons)) c.con-item.result.scheme.body
    c.in_ok-large-2.large
    (cons_next c.as_slice-con-items.result.now cons i c.con-item.result c.as_slice-con-items.ensures
    c.loop-con-test.true c.con-item.is)
    (c.in_ok-large-2.ensures.large
    ∙ ap (λ u. is_large_in (state u).stands c.body.result.now) c.loop-con.invariant.same
    ∙ ap p c.body.ensures) c.if-large-2.true
    ∙ sym c.loop-con.invariant.left

pub returns-clause-large : goal.returns-clause-large
returns-clause-large c =
    none_any (is_large_in (state c.args.t.now).stands) (con_bodies (drop c.loop-con.con-index c.args.entry.now.cons))
    (cons_end c.as_slice-con-items.result.now c.args.entry.now.cons c.loop-con.con-index c.as_slice-con-items.ensures
    c.loop-con-test.false)
    ∙ sym c.loop-con.invariant.left
