-- The laws, for every grammar.
use Rattle.std.proofs.Common.{ℕ, Bool}
use Rattle.grammars.specs.Grammar.{Grammar, Tall}
use Rattle.grammars.specs.Laws.{IsLawful, IsReadInTurn, KeepsLimit}
use Rattle.grammars.proofs.Complete.{complete}
use Rattle.grammars.proofs.Sound.{sound}
use Rattle.grammars.proofs.Fronts.{ends_front, front_read, read_front, place, one_place}
use Rattle.grammars.proofs.Texts.{unique, decided, refused_once, deep_not_refused}
use Rattle.grammars.proofs.Follows.{read_after, front_after}
use Rattle.grammars.proofs.Rounds.{many_go, many_end, wraps_go, wraps_deep, wraps_end}
use Rattle.grammars.proofs.Values.{wraps_fit}

-- Every grammar obeys each of the laws.
pub lawful : {L A : Type 0} (g : Grammar L A) → IsLawful g
lawful g = record {
  complete = complete g;
  sound = sound g;
  unique = unique g;
  decided = decided g;
  refused_once = refused_once g;
  deep_not_refused = deep_not_refused g;
  fronts = ends_front g;
  front_read = λ xs. (front_read g xs, read_front g xs);
  place = place g;
  one_place = one_place g;
  after_read = read_after g;
  after_front = front_after g;
}

-- All rounds are read in turn.
pub read_in_turn : {L A : Type 0} (t : A → L → Bool) (step : A → L → Grammar L A) → IsReadInTurn t step
read_in_turn t step = record {
  go = many_go t step;
  stop = many_end t step;
}

-- All forms that nest to the left keep their limit.
pub keeps_limit : {L A B : Type 0} (limit : ℕ) (t : L → Bool) (part : L → Grammar L (Tall B)) (join : L → A → B → A)
    → KeepsLimit limit t part join
keeps_limit limit t part join = record {
  go = wraps_go limit t part join;
  deep = wraps_deep limit t part join;
  stop = wraps_end limit t part join;
  fits = wraps_fit limit t part join;
}
