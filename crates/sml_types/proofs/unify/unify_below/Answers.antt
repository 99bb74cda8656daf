use Rattle.std.proofs.Common.{subst, sym, ap, ◌∙◌, ◌++◌, ◌∷◌, [], Ok, Err}
use Rattle.type_nodes.specs.Tables.{state, type_of}
use Rattle.sml_types.specs.Pairs.{MeetingOk, Meeting, meeting_answer, AreThese, SteppingOk, unify_left}
use Rattle.sml_types.proofs.Solving.{grown_then}
use Rattle.sml_types.proofs.Pairing.{begun, pairs_nodes, left_nodes, one_nodes, one_nothing, first_fault, later_fault, sought_whole}
use Rattle.sml_types.proofs.unify.unify_below.Goals as goal

pub loop-pair-init : goal.loop-pair-init
loop-pair-init c =
    let t = c.args.table.now in
    let new = c.meet.new.table in
    let a = c.args.left in
    let b = c.args.right in
    let m : MeetingOk t new (meeting_answer t c.args.depth a b []) (AreThese (state t) (type_of t a) (type_of t b)) [] c.meet.new.pairs =
    subst (λ ps. MeetingOk t new (meeting_answer t c.args.depth a b ps) (AreThese (state t) (type_of t a) (type_of t b)) ps c.meet.new.pairs)
    c.new-pairs.ensures c.in_ok-meet.ensures.answer in
    record {
      grown = c.meet.ensures.grown;
      answer = begun t new c.args.depth a b (AreThese (state t) (type_of t a) (type_of t b)) c.meet.new.pairs
          c.meet.ensures.grown.nodes m;
      pairs = pairs_nodes t new c.meet.new.pairs (state new) c.meet.ensures.grown.nodes (m.pairs tt);
      one = one_nothing new (state new) c.new-same.result c.new-same.ensures;
    }

pub loop-pair-preserved : goal.loop-pair-preserved
loop-pair-preserved c =
    let t = c.loop-pair.table in
    let new = c.meet_next.new.table in
    let n = c.meet_next.ensures.grown.nodes in
    let s : SteppingOk t new (c.pop.new.self ++ c.in-Some.pair ∷ []) c.meet_next.new.pairs c.meet_next.new.same =
    c.in_ok-meet_next.ensures.answer in
    record {
      grown = grown_then c.args.table.now t new c.loop-pair.invariant.grown c.meet_next.ensures.grown;
      answer = c.loop-pair.invariant.answer ∙ ap (λ ps. unify_left t ps (state t)) c.in-Some.ensures ∙ s.answer
          ∙ sym (left_nodes t new c.meet_next.new.pairs (state new) n);
      pairs = pairs_nodes t new c.meet_next.new.pairs (state new) n s.pairs;
      one = one_nodes t new c.meet_next.new.same (state new) n s.one;
    }

pub returns-in_err-meet-clause-answer : goal.returns-in_err-meet-clause-answer
returns-in_err-meet-clause-answer c =
    let t = c.args.table.now in
    let new = c.meet.new.table in
    let a = c.args.left in
    let b = c.args.right in
    first_fault t new c.args.depth a b (AreThese (state t) (type_of t a) (type_of t b)) c.meet.new.pairs
    c.in_err-meet.field-0.0 c.from_residual.result c.is_kept.ensures.kept c.from_residual.ensures.1
    (subst (λ ps. Meeting t new (meeting_answer t c.args.depth a b ps) (AreThese (state t) (type_of t a) (type_of t b)) ps
    c.meet.new.pairs (Err c.in_err-meet.field-0.0)) c.new-pairs.ensures c.in_err-meet.ensures.answer)

pub returns-in_err-meet_next-clause-answer : goal.returns-in_err-meet_next-clause-answer
returns-in_err-meet_next-clause-answer c =
    let t = c.loop-pair.table in
    later_fault c.args.table.now t c.meet_next.new.table c.args.depth c.args.left c.args.right
    (c.pop.new.self ++ c.in-Some.pair ∷ []) c.meet_next.new.pairs c.meet_next.new.same c.in_err-meet_next.field-0.0
    c.from_residual-in_err-meet_next.result c.is_kept.ensures.kept c.from_residual-in_err-meet_next.ensures.1
    (c.loop-pair.invariant.answer ∙ ap (λ ps. unify_left t ps (state t)) c.in-Some.ensures) c.in_err-meet_next.ensures.answer

pub returns-clause-answer : goal.returns-clause-answer
returns-clause-answer c =
    let t = c.loop-pair.table in
    sought_whole c.args.depth c.args.table.now t c.args.left c.args.right (Ok tt) c.is_kept.ensures.kept
    (c.loop-pair.invariant.answer ∙ ap (λ ps. unify_left t ps (state t)) c.in_default.ensures.0)
