use Rattle.std.proofs.Common.{◌≤◌, ◌<◌, ℕ, List, Ok, Err, inl, length, subst, arith}
use Rattle.std.proofs.lemmas.Grind.{common_steps}
use Rattle.cm_description.specs.Answers.{IsWhole}
use Rattle.cm_description.proofs.Wholes.{none_answer, checked_answer}
use Rattle.cm_description.proofs.read.read_description.Goals as goal

pub returns-then-as_bytes-gt65536 : goal.returns-then-as_bytes-gt65536
returns-then-as_bytes-gt65536 c =
    let large : 65536 < length c.args.text.now = grind (arith, common_steps) in
    inl (large, c.in_ok-on_file.ensures)

pub returns-in-Ok : goal.returns-in-Ok
returns-in-Ok c =
    let small : length c.args.text.now ≤ 65536 = grind (arith, common_steps) in
    let is =
    subst (λ (t : List ℕ). IsWhole c.args.file.now t (Ok c.in-Ok.description)) c.as_bytes-2.ensures c.in-Ok.ensures in
    let gives = rw (c.as_slice.ensures, c.in_ok-scan.ensures.exact) at c.checked.ensures in
    checked_answer c.args.file.now c.args.text.now c.in-Ok.description c.checked.result small is gives

pub returns : goal.returns
returns c =
    let small : length c.args.text.now ≤ 65536 = grind (arith, common_steps) in
    none_answer c.args.file.now c.args.text.now c.in-Err.fault small
    (subst (λ (t : List ℕ). IsWhole c.args.file.now t (Err c.in-Err.fault)) c.as_bytes-2.ensures c.in-Err.ensures)
