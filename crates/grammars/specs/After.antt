-- The grammar that is left after one lexeme: what may follow it, if it may stand first.
use Rattle.std.specs.Prelude.{Bool, true, false, if◌then◌else◌}
use Rattle.grammars.specs.Grammar.{Grammar, End}

-- what may follow a lexeme, if it may stand
pub data After (L A : Type 0) : Type 1 where
  then : Grammar L A → After L A
  never : After L A

-- goes on with a whole end's value
abbrev pub end_then : {A B : Type 0} → End A → (A → End B) → End B
end_then (End.whole a) k = k a
end_then End.refused k = End.refused
end_then End.deep k = End.deep

-- goes on with the value of a part of no lexeme
abbrev pub after_end : {L A B : Type 0} → End A → (A → After L B) → After L B
after_end (End.whole a) k = k a
after_end End.refused k = After.never
after_end End.deep k = After.never

-- what is left of the first part and then more, or what is left of the next part
abbrev pub after_then : {L A B : Type 0} → After L A → End A → (Grammar L A → Grammar L B) → (A → After L B)
    → After L B
after_then (After.then g) e more k = After.then (more g)
after_then After.never e more k = after_end e k

-- what may follow, if the limit allows it
abbrev pub if_within : {L A : Type 0} → Bool → After L A → After L A
if_within true o = o
if_within false o = After.never

-- what may follow the choice that the test makes
abbrev pub or_after : {L A : Type 0} → Bool → Grammar L A → After L A → After L A
or_after true g o = After.then g
or_after false g o = o

-- how a phrase of no lexeme ends
abbrev pub empty : {L A : Type 0} → Grammar L A → End A
empty (Grammar.pure a) = End.whole a
empty Grammar.refuse = End.refused
empty (Grammar.bind g k) = end_then (empty g) (λ a. empty (k a))
empty (Grammar.on t go or) = empty or
empty (Grammar.many t step a) = End.whole a
empty (Grammar.within ok g) = if ok then empty g else End.deep

-- what may follow the lexeme, if it may stand first
abbrev pub after : {L A : Type 0} → Grammar L A → L → After L A
after (Grammar.pure a) x = After.never
after Grammar.refuse x = After.never
after (Grammar.bind g k) x = after_then (after g x) (empty g) (λ g. Grammar.bind g k) (λ a. after (k a) x)
after (Grammar.on t go or) x = or_after (t x) (go x) (after or x)
after (Grammar.many t step a) x = or_after (t a x) (Grammar.bind (step a x) (λ b. Grammar.many t step b)) After.never
after (Grammar.within ok g) x = if_within ok (after g x)
