use Rattle.std.proofs.Common.{◌≡◌, ◌∙◌, ◌++◌, ◌∷◌, [], ℕ, List, length, ap, sym, subst}
use Rattle.std.proofs.lemmas.List.{length-set}
use Rattle.project_checks.specs.Owning.{ArePassed, PassesDown, own_turn, owned_at}
use Rattle.project_checks.specs.declared.owners.Owned.{Owned}
use Rattle.project_checks.proofs.Dealing.{nothing_left}
use Rattle.project_checks.proofs.Dealt.{written_back}
use Rattle.project_checks.proofs.Passing.{all_passed, turn_passed}
use Rattle.project_checks.proofs.Turns.{one_back}
use Rattle.project_checks.proofs.owners.owners_of.Goals as goal

pub loop-number-preserved : goal.loop-number-preserved
loop-number-preserved c =
    let groups = c.args.groups.now in
    let finished = c.args.finished.now in
    let owners = c.loop-number.owners in
    let new = c.pass_down.new.owners in
    let done = c.loop-number.invariant.0 in
    let before = c.in-Some.before.now in
    let number = c.in-Some.number.now in
    let value : c.as_mut_slice.result.now ≡ owners.items = c.as_mut_slice.ensures.value in
    let split : finished ≡ before ++ (number ∷ done) =
    one_back finished c.loop-number.rest.now before done number c.loop-number.invariant.1 c.in-Some.ensures.cases.0 in
    let many : length new ≡ length owners.items =
    c.pass_down.ensures.each
    ∙ length-set c.as_mut_slice.result.now number (own_turn groups number (owned_at c.as_mut_slice.result.now number))
    ∙ ap length value in
    let passes : PassesDown groups number owners.items new =
    subst (λ (old : List Owned). PassesDown groups number old new) value c.pass_down.ensures in (
      number ∷ done,
      split,
      subst (ArePassed groups finished (number ∷ done))
          (sym (written_back owners.len owners.items new owners.ok.0 many))
          (turn_passed groups finished c.requires.ordered c.requires.numbers before number done split owners.items new
          c.loop-number.invariant.2 passes),
    )

pub returns : goal.returns
returns c =
    let groups = c.args.groups.now in
    let finished = c.args.finished.now in
    let done = c.loop-number.invariant.0 in
    let none : c.loop-number.rest.now ≡ [] = nothing_left _ c.in_default.ensures.cases in
    let all : finished ≡ done = c.loop-number.invariant.1 ∙ ap (λ (rest : List ℕ). rest ++ done) none in
    all_passed groups finished c.loop-number.owners.items c.requires.ordered
    (subst (λ (xs : List ℕ). ArePassed groups finished xs c.loop-number.owners.items) (sym all)
    c.loop-number.invariant.2)
