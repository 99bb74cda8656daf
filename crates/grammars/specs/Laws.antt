-- The laws of grammars, as facts about one grammar. Each is proved for every grammar.
use Rattle.std.specs.Prelude.{◌≡◌, ℕ, List, [], ◌∷◌, ◌++◌, length, Option, None, Bool, true, false, ◌⊎◌, ◌↔◌}
use Rattle.std.specs.Prelude.{nat_lt, ◌<◌, ◌≤◌}
use Rattle.grammars.specs.Grammar.{Grammar, End, Relation, begins, head_or, Ends, Phrase, Tall, above, wraps}
use Rattle.grammars.specs.Front.{Front, FirstNoFront}
use Rattle.grammars.specs.Reading.{Out, Reader, chain, read}
use Rattle.grammars.specs.Texts.{IsRefused, IsTooDeep}
use Rattle.grammars.specs.After.{After, after, empty}

-- what was taken of a text, before the rest
abbrev pub Taken : {L : Type 0} → (List L → Type 0) → List L → List L → Type 0
Taken {L} P xs rest = (ys : List L) × (xs ≡ ys ++ rest) × P ys

-- what the relation says of lexemes is what the reader makes of them, whatever follows
abbrev pub IsComplete : {L A : Type 0} → Reader L A → Relation L A → Type 0
IsComplete {L} {A} r P = (e : End A) (xs rest : List L) → P e xs (head_or rest None) → r (xs ++ rest) ≡ Out.out e rest

-- what the reader makes of this text is what the relation says of the lexemes that it took
abbrev pub IsSoundAt : {L A : Type 0} → Reader L A → Relation L A → List L → Type 0
IsSoundAt {L} {A} r P xs =
    (e : End A) (rest : List L) → r xs ≡ Out.out e rest → Taken (λ ys. P e ys (head_or rest None)) xs rest

-- read to the end of the text
abbrev pub AtEnd : {L A : Type 0} → Out L A → Type 0
AtEnd {L} {A} o = (e : End A) × (o ≡ Out.out e [])

-- what reading answers, by what the grammar is after the lexeme
abbrev pub by_after : {L A : Type 0} → After L A → End A → L → List L → Out L A
by_after (After.then g) e x xs = read g xs
by_after After.never e x xs = Out.out e (x ∷ xs)

-- a front of the grammar that is left, if one is
abbrev pub FrontAfter : {L A : Type 0} → After L A → List L → Type 0
FrontAfter (After.then g) xs = Front g xs
FrontAfter After.never xs = ⊥

-- a phrase, or refused or too deep at some place
abbrev pub IsDecided : {L A : Type 0} → Grammar L A → List L → Type 0
IsDecided {L} {A} g xs =
    ((a : A) × Phrase g xs None a) ⊎ ((n : ℕ) × IsRefused g xs n) ⊎ ((n : ℕ) × IsTooDeep g xs n)

-- what holds of a grammar, whatever it is
pub record IsLawful {L A : Type 0} (g : Grammar L A) : Type 0 where
  -- the reader and the relation agree, both ways
  pub complete : IsComplete (read g) (Ends g)
  pub sound : (xs : List L) → IsSoundAt (read g) (Ends g) xs
  -- the same lexemes, before the same lexeme, end in one way only
  pub unique : (e f : End A) (xs : List L) (next : Option L) → Ends g e xs next → Ends g f xs next → e ≡ f
  -- each text is a phrase, or is refused or too deep at some place
  pub decided : (xs : List L) → IsDecided g xs
  -- a text is refused at one place, and then is neither a phrase nor too deep
  pub refused_once : (xs : List L) (n m : ℕ) → IsRefused g xs n → IsRefused g xs m → n ≡ m
  pub deep_not_refused : (xs : List L) (n m : ℕ) → IsTooDeep g xs n → IsRefused g xs m → ⊥
  -- each beginning of what a text ends with is a front
  pub fronts : (e : End A) (us vs : List L) (next : Option L) → Ends g e (us ++ vs) next → Front g us
  -- the fronts are the texts that are read to their end
  pub front_read : (xs : List L) → Front g xs ↔ AtEnd (read g xs)
  -- however reading ends, it ends at the first lexeme up to which there is no front
  pub place : (e : End A) (xs rest : List L) → read g xs ≡ Out.out e rest → FirstNoFront g xs rest
  -- there is one such place in a text
  pub one_place : (xs rest more : List L) → FirstNoFront g xs rest → FirstNoFront g xs more → length rest ≡ length more
  -- a text is read as the grammar that is left after its first lexeme is, on what follows
  pub after_read : (x : L) (xs : List L) → read g (x ∷ xs) ≡ by_after (after g x) (empty g) x xs
  -- a front is a lexeme that may stand first, and a front of the grammar that is left after it
  pub after_front : (x : L) (xs : List L) → Front g (x ∷ xs) ↔ FrontAfter (after g x) xs

-- ---- rounds

-- rounds are read one after the other, as long as the next lexeme begins one
pub record IsReadInTurn {L A : Type 0} (t : A → L → Bool) (step : A → L → Grammar L A) : Type 0 where
  pub go : (a : A) (x : L) (xs : List L) → t a x ≡ true
      → read (Grammar.many t step a) (x ∷ xs)
      ≡ chain (read (step a x) xs) (λ b rest. read (Grammar.many t step b) rest)
  pub stop : (a : A) (xs : List L) → begins (t a) (head_or xs None) ≡ false
      → read (Grammar.many t step a) xs ≡ Out.out (End.whole a) xs

-- each phrase of the grammar has a value of which this holds
abbrev pub Gives : {L A : Type 0} → Grammar L A → (A → Type 0) → Type 0
Gives {L} {A} g P = (xs : List L) (next : Option L) (a : A) → Phrase g xs next a → P a

-- what a form that nests to the left does at its limit
pub record KeepsLimit {L A B : Type 0} (limit : ℕ) (t : L → Bool) (part : L → Grammar L (Tall B))
    (join : L → A → B → A) : Type 0 where
  -- below the limit what stands before such a lexeme is wrapped
  pub go : (left : Tall A) (x : L) (xs : List L) → t x ≡ true → nat_lt left.height limit ≡ true
      → read (wraps limit t part join left) (x ∷ xs)
      ≡ chain (read (part x) xs) (λ right rest. read (wraps limit t part join (above (join x) left right)) rest)
  -- at the limit the text is too deep behind that lexeme
  pub deep : (left : Tall A) (x : L) (xs : List L) → t x ≡ true → nat_lt left.height limit ≡ false
      → read (wraps limit t part join left) (x ∷ xs) ≡ Out.out End.deep xs
  -- nothing is wrapped before another lexeme
  pub stop : (left : Tall A) (xs : List L) → begins t (head_or xs None) ≡ false
      → read (wraps limit t part join left) xs ≡ Out.out (End.whole left) xs
  -- no value is higher than the limit, if the first isn't and the parts beside a wrap are lower
  pub fits : ((x : L) → Gives (part x) (λ b. b.height < limit)) → (left : Tall A) → left.height ≤ limit
      → Gives (wraps limit t part join left) (λ a. a.height ≤ limit)
