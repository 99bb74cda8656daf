use Rattle.std.proofs.Common.{◌≡◌, length, drop}
use Rattle.project_checks.specs.Assembly.{dealt_to}
use Rattle.project_checks.proofs.assembling.deal.Given as goal

-- what is left to deal leads to what all leads to
abbrev pub invariant-loop-membership : goal.invariant-loop-membership
invariant-loop-membership l = record {
  each : length l.lists ≡ length l.fn.lists;
  made : dealt_to l.lists (drop l.membership-index l.memberships) ≡ dealt_to l.fn.lists l.memberships;
}
