use Rattle.std.proofs.Common.{◌≡◌, ◌∙◌, ◌+◌, ap, sym, arith, length, length-drop, take, drop}
use Rattle.std.proofs.lemmas.List.{length-take}
use Rattle.std.proofs.lemmas.Bool.Decides.{nat_tests}
use Rattle.path_anchors.specs.Pathconfig.{after_line, after_lines, lines_of}
use Rattle.path_anchors.proofs.PartLemmas.{err_is}
use Rattle.path_anchors.proofs.LineLemmas.{front_line, later_text, line_bound, line_refused}
use Rattle.path_anchors.proofs.pathconfig.read_lines.Goals as goal

pub add_line-requires : goal.add_line-requires
add_line-requires c =
    omega (arith, ap length c.split_at.ensures.front, length-take c.line_len.result c.loop-rest.rest.now)

pub returns-in_err-add_line : goal.returns-in_err-add_line
returns-in_err-add_line c =
    let anchors = c.loop-rest.anchors in
    let number = c.loop-rest.number in
    let rest = c.loop-rest.rest.now in
    let line : c.split_at.result.0.now ≡ front_line rest = c.split_at.ensures.front ∙ ap (λ n. take n rest) c.line_len.ensures.run in
    line_refused c.from_residual.result c.in_err-add_line.field-0.0 anchors c.add_line.new.anchors number rest _
    (err_is c.from_residual.result _ c.from_residual.ensures.1)
    (rw line at c.in_err-add_line.ensures)
    c.loop-rest.invariant.so

pub loop-rest-preserved : goal.loop-rest-preserved
loop-rest-preserved c =
    let anchors = c.loop-rest.anchors in
    let number = c.loop-rest.number in
    let rest = c.loop-rest.rest.now in
    let line : c.split_at.result.0.now ≡ front_line rest = c.split_at.ensures.front ∙ ap (λ n. take n rest) c.line_len.ensures.run in
    let left : c.without_feed-rest.result.now ≡ later_text rest =
    c.without_feed-rest.ensures ∙ ap (drop 1) (c.split_at.ensures.back ∙ ap (λ n. drop n rest) c.line_len.ensures.run) in
    record {
      so = ap (λ text. after_lines c.add_line.new.anchors (number + 1) (lines_of text)) left
          ∙ line_bound anchors c.add_line.new.anchors number rest _
          (sym (ap (after_line anchors number) line) ∙ c.in_ok-add_line.ensures)
          c.loop-rest.invariant.so;
      first = omega arith;
      room = grind (arith, nat_tests, ap length c.without_feed-rest.ensures, length-drop 1 c.split_at.result.1.now, c.split_at.ensures.back_len, c.is_empty.ensures);
    }
