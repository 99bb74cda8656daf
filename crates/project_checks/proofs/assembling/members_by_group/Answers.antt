use Rattle.std.proofs.Common.{◌≡◌, ◌∙◌, List, length, ap, sym, ℕ, replicate, [], map}
use Rattle.std.specs.List.{range_with_len}
use Rattle.project_checks.specs.Assembly.{dealt_to}
use Rattle.project_checks.specs.Checks.{members_among}
use Rattle.project_checks.proofs.Dealt.{dealt_all, made_count, none_made, written_back}
use Rattle.project_checks.proofs.assembling.members_by_group.Goals as goal

pub returns : goal.returns
returns c =
    let before : c.as_mut_slice.result.now ≡ replicate c.args.count [] =
    c.as_mut_slice.ensures.value ∙ c.in_ok-lists.ensures in
    let after : c.deal.new.lists ≡ map (members_among c.args.memberships.now) (range_with_len 0 c.args.count) =
    c.in_ok-deal.ensures
    ∙ ap (λ (lists : List (List ℕ)). dealt_to lists c.args.memberships.now) before
    ∙ dealt_all c.args.memberships.now c.args.count c.requires in
    let many : length c.deal.new.lists ≡ length c.in_ok-lists.lists.items =
    ap length after ∙ made_count (members_among c.args.memberships.now) c.args.count
    ∙ sym (made_count (λ i. []) c.args.count)
    ∙ sym (ap length (c.in_ok-lists.ensures ∙ none_made c.args.count 0)) in
    written_back c.in_ok-lists.lists.len c.in_ok-lists.lists.items c.deal.new.lists c.in_ok-lists.lists.ok.0 many ∙ after
