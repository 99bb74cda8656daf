-- The reader of a grammar: how a text ends, and the lexemes that are left. Code is proved against it, step by step;
-- that it agrees with the relation is proved once, for every grammar.
use Rattle.std.specs.Prelude.{ℕ, zero, suc, List, [], ◌∷◌, length, Bool, if◌then◌else◌}
use Rattle.grammars.specs.Grammar.{Grammar, End}

-- an end, and the lexemes that are left
pub data Out (L A : Type 0) : Type 0 where
  out : End A → List L → Out L A

-- how reading ends
abbrev pub end_of : {L A : Type 0} → Out L A → End A
end_of (Out.out e rest) = e

-- the lexemes that are left
abbrev pub left_of : {L A : Type 0} → Out L A → List L
left_of (Out.out e rest) = rest

-- what is made of a text
abbrev pub Reader : Type 0 → Type 0 → Type 0
Reader L A = List L → Out L A

-- goes on with a whole part's value, and else ends there
abbrev pub chain : {L A B : Type 0} → Out L A → (A → Reader L B) → Out L B
chain (Out.out (End.whole a) rest) k = k a rest
chain (Out.out End.refused rest) k = Out.out End.refused rest
chain (Out.out End.deep rest) k = Out.out End.deep rest

-- takes such a lexeme and goes on, or goes the other way and takes none
abbrev pub choose : {L A : Type 0} → (L → Bool) → (L → Reader L A) → Reader L A → Reader L A
choose t go or [] = or []
choose t go or (x ∷ xs) = if t x then go x xs else or (x ∷ xs)

-- at most so many rounds
abbrev pub rounds : {L A : Type 0} → (A → L → Bool) → (A → L → Reader L A) → ℕ → A → Reader L A
rounds t step zero a xs = Out.out (End.whole a) xs
rounds t step (suc n) a xs =
    choose (t a) (λ x rest. chain (step a x rest) (rounds t step n)) (λ rest. Out.out (End.whole a) rest) xs

-- reads as far as the grammar takes the text; each round takes a lexeme, so that there are no more than those
abbrev pub read : {L A : Type 0} → Grammar L A → Reader L A
read (Grammar.pure a) xs = Out.out (End.whole a) xs
read Grammar.refuse xs = Out.out End.refused xs
read (Grammar.bind g k) xs = chain (read g xs) (λ a rest. read (k a) rest)
read (Grammar.on t go or) xs = choose t (λ x rest. read (go x) rest) (read or) xs
read (Grammar.many t step a) xs = rounds t (λ a x rest. read (step a x) rest) (length xs) a xs
read (Grammar.within ok g) xs = if ok then read g xs else Out.out End.deep xs
