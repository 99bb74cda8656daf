-- How the toy grammar's phrases are read, a step at a time.
use Rattle.std.proofs.Common.{◌≡◌, ◌≢◌, ℕ, ◌+◌, ◌-◌, List, [], ◌∷◌, Option, Some, None, true, false, is_some}
use Rattle.std.proofs.Common.{nat_lt, refl, ap, ◌∙◌, drop, option_and_then, Result, Ok, Err, add-one, length, sym}
use Rattle.std.proofs.Common.{subst, ◌<◌, arith}
use Rattle.std.specs.Result.{IsErrAnd}
use Rattle.std.proofs.lemmas.Bool.{lt-ltb}
use Rattle.std.proofs.lemmas.Bool.Decides.{nat_tests}
use Rattle.grammars.specs.Grammar.{Grammar, End, Phrase, begins, head_or, above, wrap}
use Rattle.grammars.specs.Reading.{Out, Reader, chain, read}
use Rattle.grammars.specs.Shape.{Shape, shape, operator_of, joined_by}
use Rattle.grammars.specs.Sums.{TallShape, g, Level, part, joined, beside, starts_atom, atom_after, atom_of, below}
use Rattle.grammars.specs.Sums.{level, no_level}
use Rattle.grammars.specs.declared.toy.token.Token.{Token}
use Rattle.grammars.specs.declared.toy.token.Strength.{Strength}
use Rattle.grammars.specs.declared.toy.tree.Operator.{Operator}
use Rattle.grammars.specs.Seen.{seen, Faults, Reads}
use Rattle.grammars.specs.Answers.{Answers, measured}
use Rattle.grammars.specs.declared.toy.refusal.Refusal.TheVariants as r
use Rattle.grammars.proofs.Texts.{phrase_read, refused_read, more_read, too_deep_read}
use Rattle.grammars.specs.declared.toy.made.Made.{Made}
use Rattle.grammars.specs.declared.toy.fault.Fault.{Fault}
use Rattle.grammars.specs.declared.toy.fault.Fault.TheVariants as f
use Rattle.grammars.proofs.Choices.{on_go, on_stop}
use Rattle.grammars.proofs.Complete.{goes, stops}
use Rattle.grammars.proofs.Rounds.{many_go, not_longer}

-- An atom is what its first token begins.
pub atom_go : (b : Level) (x : Token) (xs : List Token) → head_or xs None ≡ Some x → starts_atom x ≡ true
    → read (atom_of b) xs ≡ read (atom_after b x) (drop 1 xs)
atom_go b x xs h start = on_go starts_atom (atom_after b) Grammar.refuse x xs h start

-- No atom stands where no token begins one.
pub atom_stop : (b : Level) (xs : List Token) → begins starts_atom (head_or xs None) ≡ false
    → read (atom_of b) xs ≡ Out.out End.refused xs
atom_stop b xs h = on_stop starts_atom (atom_after b) Grammar.refuse xs h

-- One level less than some is the level below.
pub below_some : (n : ℕ) → below (n + 1) ≡ level n
unfolding below
below_some n = rw add-one refl

-- Below no level there is none.
pub below_none : below 0 ≡ no_level
unfolding below
below_none = refl

-- Behind an operator, what stands beside it and then more of them.
pub joined_go : (n : ℕ) (b : Level) (strength : Strength) (op : Operator) (left : TallShape) (xs : List Token)
    → option_and_then (operator_of strength) (head_or xs None) ≡ Some op
    → chain (read (beside n b strength op left) (drop 1 xs)) (λ made rest. read (joined n b strength made) rest)
    ≡ read (joined n b strength left) xs
unfolding beside joined
joined_go n b strength op left [] h = absurd (cc)
joined_go n b strength op left (x ∷ xs) h =
    sym (many_go (λ _ x. is_some (operator_of strength x))
    (wrap n (λ _. part b strength) (λ x left right. joined_by (operator_of strength x) left right)) left x xs
    (ap is_some h)
    ∙ ap (λ (found : Option Operator). chain
    (read (Grammar.within (nat_lt left.height n)
    (Grammar.bind (part b strength) (λ right. Grammar.pure (above (joined_by found) left right)))) xs)
    (λ made rest. read (joined n b strength made) rest)) h)

-- No more is joined where no operator stands.
pub joined_end : (n : ℕ) (b : Level) (strength : Strength) (left : TallShape) (xs : List Token)
    → option_and_then (operator_of strength) (head_or xs None) ≡ None
    → read (joined n b strength left) xs ≡ Out.out (End.whole left) xs
unfolding joined
joined_end n b strength left [] h = refl
joined_end n b strength left (x ∷ xs) h = stops (is_some (operator_of strength x)) _ _ (ap is_some h)

-- One level less than more than none is the level below.
below_less : (m n : ℕ) → m < n → below n ≡ level (n - 1)
below_less m n h =
    let more : n ≡ n - 1 + 1 = omega arith in
    subst (λ (k : ℕ). below k ≡ level (n - 1)) (sym more) (below_some (n - 1))

-- What stands beside an operator is read one level down, where one is left.
pub beside_go : (n : ℕ) (strength : Strength) (op : Operator) (left : TallShape) (xs : List Token) → left.height < n
    → read (beside n (below n) strength op left) xs
    ≡ chain (read (part (level (n - 1)) strength) xs)
    (λ right rest. Out.out (End.whole (above (Shape.joined op) left right)) rest)
unfolding beside
beside_go n strength op left xs h =
    goes (nat_lt left.height n) _ _ (lt-ltb left.height n h)
    ∙ ap (λ (b : Level). chain (read (part b strength) xs)
    (λ right rest. Out.out (End.whole (above (Shape.joined op) left right)) rest)) (below_less left.height n h)

-- What stands beside an operator is too deep where no level is left.
pub beside_deep : (n : ℕ) (b : Level) (strength : Strength) (op : Operator) (left : TallShape) (xs : List Token)
    → left.height ≡ n → read (beside n b strength op left) xs ≡ Out.out End.deep xs
unfolding beside
beside_deep n b strength op left xs h = stops (nat_lt left.height n) _ _ (grind (arith, nat_tests))

-- A text that begins with an operator has a token to take.
pub some_left : (operator : Token → Option Operator) (op : Operator) (xs : List Token)
    → option_and_then operator (head_or xs None) ≡ Some op → length (drop 1 xs) < length xs
some_left operator op [] h = absurd (cc)
some_left operator op (x ∷ xs) h = omega arith

-- A round that isn't whole: reading ends there.
pub round_broken : (o p : Out Token TallShape) (k : TallShape → Reader Token TallShape) (fault : Fault)
    (left : List Token) → chain o k ≡ p → Faults fault o left → Faults fault p left
round_broken o p k f.Refused left step is = sym step ∙ ap (λ (o : Out Token TallShape). chain o k) is
round_broken o p k f.TooDeep left step is = sym step ∙ ap (λ (o : Out Token TallShape). chain o k) is
round_broken o p k f.NoMemory left step is = tt

-- A fault that is passed on is that of the reading.
pub passed_on : (g : g) (xs : List Token) (r : Result Made Fault) (fault : Fault) (left : List Token)
    → IsErrAnd r (λ e. e ≡ fault) → Faults fault (read g xs) left → Reads g xs r left
passed_on g xs (Ok made) fault left h ends = absurd h
passed_on g xs (Err e) fault left h ends = subst (λ (e : Fault). Faults e (read g xs) left) (sym h) ends

-- A text that is read whole is a sum, whose height is that of its tree.
pub whole_answer : (limit : ℕ) (xs rest : List Token) (made : Made)
    → read (level limit).sum xs ≡ Out.out (End.whole (seen made)) rest → length rest ≡ 0
    → Answers limit xs (Ok made.tree)
whole_answer limit xs [] made h none =
    let exact : seen made ≡ measured (shape made.tree) =
    ap (λ n. record { value = shape made.tree; height = n }) made.exact in
    subst (λ (a : TallShape). Phrase (level limit).sum xs None a) exact (phrase_read (level limit).sum xs
    (seen made) h)
whole_answer limit xs (y ∷ rest) made h none = absurd (cc)

-- A text with more behind a whole sum is refused there.
pub more_answer : (limit : ℕ) (xs rest : List Token) (made : TallShape)
    → read (level limit).sum xs ≡ Out.out (End.whole made) rest → length rest ≢ 0
    → Answers limit xs (Err (r.NoPhrase (length xs - length rest)))
more_answer limit xs [] made h some = absurd (some refl)
more_answer limit xs (y ∷ rest) made h some = more_read (level limit).sum xs made y rest h

-- A text that is read as refused is refused there.
pub refused_answer : (limit : ℕ) (xs rest : List Token) → read (level limit).sum xs ≡ Out.out End.refused rest
    → Answers limit xs (Err (r.NoPhrase (length xs - length rest)))
refused_answer limit xs rest h = refused_read (level limit).sum xs rest h

-- A text that is read as too deep is so there.
pub deep_answer : (limit : ℕ) (xs rest : List Token) → read (level limit).sum xs ≡ Out.out End.deep rest
    → Answers limit xs (Err (r.TooDeep (length xs - length rest)))
deep_answer limit xs rest h = too_deep_read (level limit).sum xs rest h

pub ruleset joined_steps = (joined_go, joined_end, not_longer, some_left)

pub ruleset beside_steps = (beside_go, beside_deep)

pub ruleset atom_steps = (atom_go, atom_stop)

pub ruleset level_steps = (below_some, below_none)
