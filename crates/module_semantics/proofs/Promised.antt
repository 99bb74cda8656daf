-- The laws, as the public functions of this crate state them.
use Rattle.module_semantics.specs.Promises.{MatchesByRules, MatchesOnce}
use Rattle.module_semantics.proofs.Sound.{matches_by_rules}
use Rattle.module_semantics.proofs.Unique.{no_other}

pub by_rules : MatchesByRules
by_rules = matches_by_rules

pub once : MatchesOnce
once = record { one = no_other }
