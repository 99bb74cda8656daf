use Rattle.std.proofs.Common.{subst, ap, ◌∙◌, ◌≡◌, ◌++◌, ◌∷◌, []}
use Rattle.type_nodes.specs.Tables.{state, whole}
use Rattle.sml_types.specs.Frames.{seen}
use Rattle.sml_types.specs.Requiring.{DemandedOk, require_left}
use Rattle.sml_types.proofs.Requiring.{start_answer, start_frames, nothing_done, step_answer, step_frames, step_done, marks_then}
use Rattle.sml_types.proofs.require.require.Goals as goal

pub loop-frame-init : goal.loop-frame-init
loop-frame-init c =
    let t = c.args.table.now in
    let h : DemandedOk t c.demand.new.table (whole t c.args.id) [] c.demand.new.frames =
    subst (λ b. DemandedOk t c.demand.new.table (whole t c.args.id) b c.demand.new.frames) c.new-frames.ensures
    c.in_ok-demand.ensures.answer in
    record {
      only = c.demand.ensures.only;
      answer = start_answer t c.demand.new.table (whole t c.args.id) c.demand.new.frames c.is_kept.ensures.kept
          c.is_kept-2.ensures.kept c.demand.ensures.only h;
      frames = start_frames t c.demand.new.table (whole t c.args.id) c.demand.new.frames c.demand.ensures.only h;
      done = nothing_done (state c.demand.new.table).marks (seen c.demand.new.table) c.new-done.result c.new-done.ensures;
    }

pub loop-frame-preserved : goal.loop-frame-preserved
loop-frame-preserved c =
    let old = c.loop-frame.table in
    let new = c.demand_next.new.table in
    let e : c.loop-frame.frames ≡ c.pop.new.self ++ c.in-Some.frame ∷ [] = c.in-Some.ensures in
    record {
      only = marks_then c.args.table.now old new c.loop-frame.invariant.only c.demand_next.ensures.only;
      answer = step_answer c.args.table.now old new (whole c.args.table.now c.args.id) (c.pop.new.self ++ c.in-Some.frame ∷ [])
          c.demand_next.new.frames c.demand_next.new.done c.is_kept-in-Some.ensures.kept c.is_kept-in-Some-2.ensures.kept
          c.demand_next.ensures.only
          (c.loop-frame.invariant.answer ∙ ap (λ fs. require_left (state old).rigid (seen old) fs (state old).marks) e)
          c.in_ok-demand_next.ensures.answer;
      frames = step_frames old new (c.pop.new.self ++ c.in-Some.frame ∷ []) c.demand_next.new.frames c.demand_next.new.done
          c.demand_next.ensures.only c.in_ok-demand_next.ensures.answer;
      done = step_done old new (c.pop.new.self ++ c.in-Some.frame ∷ []) c.demand_next.new.frames c.demand_next.new.done
          c.demand_next.ensures.only c.in_ok-demand_next.ensures.answer;
    }

pub returns-in_err-demand_next-clause-only : goal.returns-in_err-demand_next-clause-only
returns-in_err-demand_next-clause-only c =
    marks_then c.args.table.now c.loop-frame.table c.demand_next.new.table c.loop-frame.invariant.only c.demand_next.ensures.only
