-- Grammars as data, and which lexemes are a phrase.
--
-- For the reviewer. A grammar is a value of `Grammar L A`: it describes phrases over lexemes of any kind L, and each
-- phrase has a value in A, as a tree. It is built of six forms: no lexeme (`pure`), no phrase (`refuse`), one part and
-- then the next (`bind`), a choice (`on`), rounds (`many`) and a limit (`within`). What comes after a part may depend
-- on that part's value, so that names declared before, or the depth of what stands to the left, are plain arguments.
--
-- What a grammar means is the relation `Ends`, by recursion on that data: these lexemes, before that one or before
-- the end of the text, are a whole phrase with this value, or are all that can be taken before no phrase goes on
-- (`refused`), or before one level too many (`deep`). It looks at the lexemes themselves and at the one lexeme after
-- them, and at nothing else. `Phrase` is its first case. Nothing here is a parser: `Reading.antt` has one, and
-- `proofs/` shows that the two agree, both ways, for every grammar.
--
-- The two rules of reading, which a reader of a grammar has to accept:
--
-- 1. The next lexeme decides a choice. `on t go or` is `go x` where the next lexeme x passes the test t, and `or`
--    where it doesn't or where none is left. `go x` describes what stands after x, which the choice itself takes.
-- 2. Rounds go on as long as the next lexeme begins one. `many t step a` takes another round exactly where the next
--    lexeme passes the test at the value so far, and is whole only where it doesn't.
--
-- Where they depart from a plain choice, which would allow a text as soon as any alternative does:
--
-- 1. Rule 1 allows less only where a lexeme of t could also stand next the other way: where `or` has a phrase that
--    begins with it, or has the phrase of no lexeme and what follows the choice may begin with it. Such a text is no
--    phrase then, unless the first way allows it too. So alternatives that begin alike are written as one, split
--    behind what they share, and an optional part takes each lexeme that begins it.
-- 2. Rule 2 allows less only where what follows the rounds may begin with a lexeme that begins a round, since the
--    rounds take it. So of two nested phrases whose rounds begin with the same lexeme, the inner one takes it. A round
--    that isn't to begin, as at an operator that clashes with an earlier one, is one whose test says no at the value
--    so far.
--
-- For both reasons whether lexemes are a phrase may depend on the lexeme after them, which `Ends` is given.
--
-- A limit is no rule of reading: `within ok g` is g where ok, and otherwise deep before any lexeme. It stands behind
-- the lexeme that opens a level, so that at one lexeme a level too many comes before a refusal.
use Rattle.std.specs.Prelude.{◌≡◌, ℕ, zero, suc, List, [], ◌∷◌, ◌++◌, Option, None, Some, Bool, true, false, ◌⊎◌}
use Rattle.std.specs.Prelude.{◌+◌, max, nat_lt}

-- A grammar of phrases with a value in A, over lexemes in L. What comes next may depend on the values before it.
pub data Grammar (L : Type 0) : Type 0 → Type 1 where
  -- no lexeme, and this value
  pure : {A : Type 0} → A → Grammar L A
  -- no phrase
  refuse : {A : Type 0} → Grammar L A
  -- one part, then the next
  bind : {A B : Type 0} → Grammar L A → (A → Grammar L B) → Grammar L B
  -- a phrase that begins with such a lexeme, or else the other
  on : {A : Type 0} → (L → Bool) → (L → Grammar L A) → Grammar L A → Grammar L A
  -- rounds that each begin with such a lexeme, from a first value on
  many : {A : Type 0} → (A → L → Bool) → (A → L → Grammar L A) → A → Grammar L A
  -- one level too many, unless so
  within : {A : Type 0} → Bool → Grammar L A → Grammar L A

infixl 10 ◌>>=◌
infixl 10 ◌>>◌
-- one part, then the next: `do` blocks mean this
abbrev pub ◌>>=◌ : {L A B : Type 0} → Grammar L A → (A → Grammar L B) → Grammar L B
g >>= k = Grammar.bind g k

-- one part, then the next, whatever the value of the first
abbrev pub ◌>>◌ : {L A B : Type 0} → Grammar L A → Grammar L B → Grammar L B
g >> h = Grammar.bind g (λ _. h)

-- how the lexemes of a text end, as far as a grammar takes them
pub data End (A : Type 0) : Type 0 where
  -- a whole phrase, and its value
  whole : A → End A
  -- no phrase goes on with the next lexeme
  refused : End A
  -- one level too many
  deep : End A

-- which ends lexemes have before the lexeme that follows, if one does
abbrev pub Relation : Type 0 → Type 0 → Type 1
Relation L A = End A → List L → Option L → Type 0

-- whether there is a lexeme, and it passes
abbrev pub begins : {L : Type 0} → (L → Bool) → Option L → Bool
begins t None = false
begins t (Some x) = t x

-- the first of the lexemes, or what comes after them
abbrev pub head_or : {L : Type 0} → List L → Option L → Option L
head_or [] after = after
head_or (x ∷ xs) after = Some x

-- such a lexeme and the rest, or no such lexeme and the whole
abbrev pub Chosen : {L : Type 0} → (L → Bool) → (L → List L → Type 0) → (List L → Type 0) → List L → Option L
    → Type 0
Chosen t Go Or [] after = (begins t after ≡ false) × Or []
Chosen t Go Or (x ∷ xs) after = ((t x ≡ true) × Go x xs) ⊎ ((t x ≡ false) × Or (x ∷ xs))

-- a whole part, and then the rest
abbrev pub Then : {L A B : Type 0} → Relation L A → (A → Relation L B) → Relation L B
Then {L} {A} P Q e xs after =
    (a : A) × (ys zs : List L) × (xs ≡ ys ++ zs) × P (End.whole a) ys (head_or zs after) × Q a e zs after

-- the first part isn't whole, and that is the end
abbrev pub Broken : {L A B : Type 0} → Relation L A → Relation L B
Broken P (End.whole b) xs after = ⊥
Broken P End.refused xs after = P End.refused xs after
Broken P End.deep xs after = P End.deep xs after

-- so many rounds, of which the last may be broken, and no other begins
abbrev pub Rounds : {L A : Type 0} → (A → L → Bool) → (A → L → Relation L A) → ℕ → A → Relation L A
Rounds t Step zero a e xs after = (begins (t a) (head_or xs after) ≡ false) × (xs ≡ []) × (e ≡ End.whole a)
Rounds t Step (suc n) a e [] after = ⊥
Rounds t Step (suc n) a e (x ∷ xs) after =
    (t a x ≡ true) × (Then (Step a x) (Rounds t Step n) e xs after ⊎ Broken (Step a x) e xs after)

-- these lexemes, before that one if there is one, end so
abbrev pub Ends : {L A : Type 0} → Grammar L A → Relation L A
Ends (Grammar.pure a) e xs after = (xs ≡ []) × (e ≡ End.whole a)
Ends Grammar.refuse e xs after = (xs ≡ []) × (e ≡ End.refused)
Ends (Grammar.bind g k) e xs after = Then (Ends g) (λ a. Ends (k a)) e xs after ⊎ Broken (Ends g) e xs after
Ends (Grammar.on t go or) e xs after =
    Chosen t (λ x rest. Ends (go x) e rest after) (λ rest. Ends or e rest after) xs after
Ends (Grammar.many t step a) e xs after = (n : ℕ) × Rounds t (λ a x. Ends (step a x)) n a e xs after
Ends (Grammar.within ok g) e xs after =
    ((ok ≡ true) × Ends g e xs after) ⊎ ((ok ≡ false) × (xs ≡ []) × (e ≡ End.deep))

-- these lexemes, before that one if there is one, are a phrase with this value
abbrev pub Phrase : {L A : Type 0} → Grammar L A → List L → Option L → A → Type 0
Phrase g xs after a = Ends g (End.whole a) xs after

-- ---- forms that grammars are written with

-- such a lexeme, or a refusal
abbrev pub expect : {L : Type 0} → (L → Bool) → Grammar L L
expect t = Grammar.on t (λ x. Grammar.pure x) Grammar.refuse

-- rounds that each begin with such a lexeme and add the part after it to the value
abbrev pub fold : {L A B : Type 0} → (L → Bool) → (L → Grammar L B) → (A → B → A) → A → Grammar L A
fold t part add a = Grammar.many (λ _ x. t x) (λ a x. Grammar.bind (part x) (λ b. Grammar.pure (add a b))) a

-- a value, and how many levels it nests
pub record Tall (A : Type 0) : Type 0 where
  pub value : A
  pub height : ℕ

-- a value one level above two others
abbrev pub above : {A B C : Type 0} → (A → B → C) → Tall A → Tall B → Tall C
above join left right = record {
  value = join left.value right.value;
  height = 1 + max left.height right.height;
}

-- what stands before such a lexeme becomes part of something one level higher, which the limit has to allow
abbrev pub wrap : {L A B : Type 0} → ℕ → (L → Grammar L (Tall B)) → (L → A → B → A) → Tall A → L
    → Grammar L (Tall A)
wrap limit part join left x =
    Grammar.within (nat_lt left.height limit)
    (Grammar.bind (part x) (λ right. Grammar.pure (above (join x) left right)))

-- forms that nest to the left: each round begins with such a lexeme and wraps what stands before it
abbrev pub wraps : {L A B : Type 0} → ℕ → (L → Bool) → (L → Grammar L (Tall B)) → (L → A → B → A) → Tall A
    → Grammar L (Tall A)
wraps limit t part join left = Grammar.many (λ _ x. t x) (wrap limit part join) left
