-- How conditions are read, a step at a time.
use Rattle.std.proofs.Common.{◌≡◌, ℕ, ◌+◌, ◌<◌, List, [], ◌∷◌, Option, Some, None, Bool, true, false, is_some, refl, ap, sym, ◌∙◌, drop, option_and_then, add-one, length, arith}
use Rattle.grammars.specs.Grammar.{Grammar, End, begins, head_or}
use Rattle.std.proofs.Common.{Result, Ok, Err, subst}
use Rattle.std.specs.Result.{IsErrAnd}
use Rattle.cm_base.specs.declared.record.Namespace.{Namespace}
use Rattle.cm_conditions.specs.Seen.{Stops, Reads}
use Rattle.cm_conditions.specs.declared.reader.Stop.{Stop}
use Rattle.cm_conditions.specs.declared.reader.Stop.TheVariants as stop
use Rattle.grammars.specs.Reading.{Out, Reader, chain as then, read}
use Rattle.grammars.proofs.Choices.{on_go}
use Rattle.grammars.proofs.Complete.{goes, stops}
use Rattle.grammars.proofs.Rounds.{many_go, chain_pure, not_longer}
use Rattle.cm_conditions.specs.Grammar.{g, operator_of, comparison_of, joined, joined_by, part, rounds, compared, factor, atom, atom_after, starts_atom, is_paren, is_word, is_not, is_name, word_of, with_word, word_then, closed, defined, defined_of, module_of, space_of, below, condition}
use Rattle.cm_conditions.specs.declared.cond.Cond.{Cond}
use Rattle.cm_conditions.specs.declared.cond.Cond.TheVariants as c
use Rattle.cm_conditions.specs.declared.lexeme.Lexeme.{Lexeme}
use Rattle.cm_conditions.specs.declared.lexeme.Mark.TheVariants as m
use Rattle.cm_conditions.specs.declared.lexeme.Operator.{Operator}
use Rattle.cm_conditions.specs.declared.lexeme.Strength.{Strength}
use Rattle.cm_conditions.specs.declared.lexeme.Strength.TheVariants as s

-- the place of a chain's parts in the order of calls at one level
abbrev pub rank : Strength → ℕ
rank s.Product = 4
rank s.Sum = 7
rank s.And = 12
rank s.Or = 15

-- behind an operator, what stands beside it and then more of them
pub rounds_go : (part : g) (strength : Strength) (op : Operator) (left : Cond) (xs : List Lexeme)
    → option_and_then (operator_of strength) (head_or xs None) ≡ Some op
    → read (rounds part strength left) xs
    ≡ then (read part (drop 1 xs)) (λ right rest. read (rounds part strength (joined op left right)) rest)
unfolding rounds
rounds_go part strength op left [] h = absurd (cc)
rounds_go part strength op left (x ∷ xs) h =
    many_go (λ _ x. is_some (operator_of strength x))
    (λ left x. Grammar.bind part (λ right. Grammar.pure (joined_by (operator_of strength x) left right))) left x xs (ap is_some h)
    ∙ chain_pure (read part xs) (joined_by (operator_of strength x) left) (λ b rest. read (rounds part strength b) rest)
    ∙ ap (λ (found : Option Operator). then (read part xs) (λ right rest. read (rounds part strength (joined_by found left right)) rest)) h

-- no more where no operator stands
pub rounds_end : (part : g) (strength : Strength) (left : Cond) (xs : List Lexeme)
    → option_and_then (operator_of strength) (head_or xs None) ≡ None
    → read (rounds part strength left) xs ≡ Out.out (End.whole left) xs
unfolding rounds
rounds_end part strength left [] h = refl
rounds_end part strength left (x ∷ xs) h = stops (is_some (operator_of strength x)) _ _ (ap is_some h)

pub compared_go : (sum : g) (op : Operator) (left : Cond) (xs : List Lexeme)
    → option_and_then comparison_of (head_or xs None) ≡ Some op
    → read (compared sum left) xs
    ≡ then (read sum (drop 1 xs)) (λ right rest. Out.out (End.whole (joined op left right)) rest)
unfolding compared
compared_go sum op left [] h = absurd (cc)
compared_go sum op left (x ∷ xs) h =
    goes (is_some (comparison_of x)) _ _ (ap is_some h)
    ∙ ap (λ (found : Option Operator). then (read sum xs) (λ right rest. Out.out (End.whole (joined_by found left right)) rest)) h

pub compared_end : (sum : g) (left : Cond) (xs : List Lexeme) → option_and_then comparison_of (head_or xs None) ≡ None
    → read (compared sum left) xs ≡ Out.out (End.whole left) xs
unfolding compared
compared_end sum left [] h = refl
compared_end sum left (x ∷ xs) h = stops (is_some (comparison_of x)) _ _ (ap is_some h)

pub factor_go : (below : g) (xs : List Lexeme) → begins (is_word is_not) (head_or xs None) ≡ true
    → read (factor below) xs ≡ then (read (atom below) (drop 1 xs)) (λ inner rest. Out.out (End.whole (c.Not inner)) rest)
unfolding factor
factor_go below [] h = absurd (cc)
factor_go below (x ∷ xs) h = goes (is_word is_not x) _ _ h

pub factor_stop : (below : g) (xs : List Lexeme) → begins (is_word is_not) (head_or xs None) ≡ false
    → read (factor below) xs ≡ read (atom below) xs
unfolding factor
factor_stop below [] h = refl
factor_stop below (x ∷ xs) h = stops (is_word is_not x) _ _ h

pub atom_go : (below : g) (x : Lexeme) (xs : List Lexeme) → head_or xs None ≡ Some x → starts_atom x ≡ true
    → read (atom below) xs ≡ read (atom_after below x) (drop 1 xs)
unfolding atom
atom_go below x xs h is = on_go starts_atom (atom_after below) Grammar.refuse x xs h is

pub atom_none : (below : g) (xs : List Lexeme) → head_or xs None ≡ None → read (atom below) xs ≡ Out.out End.refused xs
unfolding atom
atom_none below [] h = refl
atom_none below (x ∷ xs) h = absurd (cc)

pub atom_stop : (below : g) (x : Lexeme) (xs : List Lexeme) → head_or xs None ≡ Some x → starts_atom x ≡ false
    → read (atom below) xs ≡ Out.out End.refused xs
unfolding atom
atom_stop below x [] h is = absurd (cc)
atom_stop below x (y ∷ xs) h is = let same : y ≡ x = cc in rw same (stops (starts_atom x) _ _ is)

pub closed_go : (cond : Cond) (xs : List Lexeme) → begins (is_paren m.Close) (head_or xs None) ≡ true
    → read (closed cond) xs ≡ Out.out (End.whole cond) (drop 1 xs)
unfolding closed
closed_go cond [] h = absurd (cc)
closed_go cond (x ∷ xs) h = ap (λ (o : Out Lexeme Lexeme). then o (λ _ rest. Out.out (End.whole cond) rest)) (goes (is_paren m.Close x) _ _ h)

pub closed_stop : (cond : Cond) (xs : List Lexeme) → begins (is_paren m.Close) (head_or xs None) ≡ false
    → read (closed cond) xs ≡ Out.out End.refused xs
unfolding closed
closed_stop cond [] h = refl
closed_stop cond (x ∷ xs) h = ap (λ (o : Out Lexeme Lexeme). then o (λ _ rest. Out.out (End.whole cond) rest)) (stops (is_paren m.Close x) _ _ h)

pub defined_go : (xs : List Lexeme) → begins (is_paren m.Open) (head_or xs None) ≡ true
    → read defined xs ≡ read (word_then is_name defined_of) (drop 1 xs)
unfolding defined
defined_go [] h = absurd (cc)
defined_go (x ∷ xs) h = ap (λ (o : Out Lexeme Lexeme). then o (λ _ rest. read (word_then is_name defined_of) rest)) (goes (is_paren m.Open x) _ _ h)

pub defined_stop : (xs : List Lexeme) → begins (is_paren m.Open) (head_or xs None) ≡ false
    → read defined xs ≡ Out.out End.refused xs
unfolding defined
defined_stop [] h = refl
defined_stop (x ∷ xs) h = ap (λ (o : Out Lexeme Lexeme). then o (λ _ rest. read (word_then is_name defined_of) rest)) (stops (is_paren m.Open x) _ _ h)

pub word_go : (t : List ℕ → Bool) (k : List ℕ → g) (word : List ℕ) (xs : List Lexeme)
    → option_and_then (word_of t) (head_or xs None) ≡ Some word → read (word_then t k) xs ≡ read (k word) (drop 1 xs)
unfolding word_then
word_go t k word [] h = absurd (cc)
word_go t k word (x ∷ xs) h =
    goes (is_some (word_of t x)) _ _ (ap is_some h) ∙ ap (λ (w : Option (List ℕ)). read (with_word k w) xs) h

pub word_stop : (t : List ℕ → Bool) (k : List ℕ → g) (xs : List Lexeme)
    → option_and_then (word_of t) (head_or xs None) ≡ None → read (word_then t k) xs ≡ Out.out End.refused xs
unfolding word_then
word_stop t k [] h = refl
word_stop t k (x ∷ xs) h = stops (is_some (word_of t x)) _ _ (ap is_some h)

pub defined_of_go : (word : List ℕ) (xs : List Lexeme) → begins (is_paren m.Close) (head_or xs None) ≡ true
    → read (defined_of word) xs ≡ Out.out (End.whole (c.Defined word)) (drop 1 xs)
unfolding defined_of
defined_of_go word [] h = absurd (cc)
defined_of_go word (x ∷ xs) h = goes (is_paren m.Close x) _ _ h

pub defined_of_stop : (word : List ℕ) (xs : List Lexeme) → begins (is_paren m.Close) (head_or xs None) ≡ false
    → read (defined_of word) xs ≡ read (module_of (space_of word)) xs
unfolding defined_of
defined_of_stop word [] h = refl
defined_of_stop word (x ∷ xs) h = stops (is_paren m.Close x) _ _ h

-- one parenthesis less than some
pub below_some : (n : ℕ) → below (n + 1) ≡ condition n
unfolding below
below_some n = rw add-one refl

pub below_none : below 0 ≡ Grammar.within false Grammar.refuse
unfolding below
below_none = refl

-- a text that begins with an operator has a lexeme to take
pub some_left : (operator : Lexeme → Option Operator) (op : Operator) (xs : List Lexeme)
    → option_and_then operator (head_or xs None) ≡ Some op → length (drop 1 xs) < length xs
some_left operator op [] h = absurd (cc)
some_left operator op (x ∷ xs) h = omega arith

pub ruleset rounds_steps = (rounds_go, rounds_end, not_longer, some_left)

pub ruleset compared_steps = (compared_go, compared_end)

pub ruleset factor_steps = (factor_go, factor_stop)

pub ruleset atom_steps = (atom_go, atom_none, atom_stop)

pub ruleset closed_steps = (closed_go, closed_stop)

pub ruleset defined_steps = (defined_go, defined_stop)

pub ruleset word_steps = (word_go, word_stop)

pub ruleset defined_of_steps = (defined_of_go, defined_of_stop)

pub ruleset level_steps = (below_some, below_none)

-- a part that isn't whole: reading ends there
pub round_broken : (o p : Out Lexeme Cond) (k : Cond → Reader Lexeme Cond) (why : Stop) (left : List Lexeme)
    → p ≡ then o k → Stops why o left → Stops why p left
round_broken o p k stop.Refused left step is = step ∙ ap (λ (o : Out Lexeme Cond). then o k) is
round_broken o p k stop.TooDeep left step is = step ∙ ap (λ (o : Out Lexeme Cond). then o k) is
round_broken o p k stop.NoMemory left step is = tt

-- a stop that is passed on is that of the reading
pub passed_on : (g : g) (xs : List Lexeme) (r : Result Cond Stop) (why : Stop) (left : List Lexeme)
    → IsErrAnd r (λ e. e ≡ why) → Stops why (read g xs) left → Reads g xs r left
passed_on g xs (Ok cond) why left h ends = absurd h
passed_on g xs (Err e) why left h ends = subst (λ (e : Stop). Stops e (read g xs) left) (sym h) ends

-- what is read as something else has the same answer
pub reads_same : (g h : g) (xs ys : List Lexeme) (r : Result Cond Stop) (left : List Lexeme)
    → read g xs ≡ read h ys → Reads h ys r left → Reads g xs r left
reads_same g h xs ys (Ok cond) left e is = e ∙ is
reads_same g h xs ys (Err why) left e is = subst (λ (o : Out Lexeme Cond). Stops why o left) (sym e) is

-- behind a name space, a module's name and then its parenthesis
abbrev pub provided : Namespace → List ℕ → Cond
provided space name = c.Provided (record { space = space; name = name })

pub module_go : (space : Namespace) (word : List ℕ) (xs : List Lexeme)
    → option_and_then (word_of (λ _. true)) (head_or xs None) ≡ Some word
    → read (module_of (Some space)) xs ≡ read (closed (provided space word)) (drop 1 xs)
unfolding module_of
module_go space word xs h = word_go (λ _. true) (λ name. closed (provided space name)) word xs h
