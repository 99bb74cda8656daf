-- A text is read as the grammar that is left after its first lexeme is, on what follows.
use Rattle.std.proofs.Common.{◌≡◌, List, [], ◌∷◌, ◌↔◌, Bool, true, false, if◌then◌else◌, refl, sym, ap, subst, ◌∙◌}
use Rattle.grammars.specs.Grammar.{Grammar, End}
use Rattle.grammars.specs.Reading.{Out, chain, left_of, read}
use Rattle.grammars.specs.After.{After, or_after, if_within, empty, after, after_then, end_then}
use Rattle.grammars.specs.Laws.{AtEnd, by_after, FrontAfter}
use Rattle.grammars.specs.Front.{Front}
use Rattle.grammars.proofs.Fronts.{front_read, read_front}
use Rattle.grammars.proofs.Rounds.{many_go, many_stop}

-- Two parts, one after the other, follow a lexeme as they should if each of them does.
then_by : {L A B : Type 0} (o : After L A) (e : End A) (k : A → Grammar L B) (x : L) (xs : List L)
    → ((a : A) → read (k a) (x ∷ xs) ≡ by_after (after (k a) x) (empty (k a)) x xs)
    → chain (by_after o e x xs) (λ a rest. read (k a) rest)
    ≡ by_after (after_then o e (λ g. Grammar.bind g k) (λ a. after (k a) x)) (end_then e (λ a. empty (k a))) x xs
then_by (After.then g) e k x xs h = refl
then_by After.never (End.whole a) k x xs h = h a
then_by After.never End.refused k x xs h = refl
then_by After.never End.deep k x xs h = refl

-- A choice follows a lexeme as it should if the other way does.
on_by : {L A : Type 0} (b : Bool) (go or : Grammar L A) (x : L) (xs : List L)
    → read or (x ∷ xs) ≡ by_after (after or x) (empty or) x xs
    → (if b then read go xs else read or (x ∷ xs)) ≡ by_after (or_after b go (after or x)) (empty or) x xs
on_by true go or x xs h = refl
on_by false go or x xs h = h

-- Rounds follow a lexeme that begins one, and no other.
many_by : {L A : Type 0} (t : A → L → Bool) (step : A → L → Grammar L A) (a : A) (x : L) (xs : List L) (b : Bool)
    → t a x ≡ b
    → read (Grammar.many t step a) (x ∷ xs)
    ≡ by_after (or_after b (Grammar.bind (step a x) (λ b. Grammar.many t step b)) After.never) (End.whole a) x xs
many_by t step a x xs true h = many_go t step a x xs h
many_by t step a x xs false h = many_stop t step a x xs h

-- A limit follows a lexeme as it should if what it allows does.
within_by : {L A : Type 0} (ok : Bool) (g : Grammar L A) (x : L) (xs : List L)
    → read g (x ∷ xs) ≡ by_after (after g x) (empty g) x xs
    → (if ok then read g (x ∷ xs) else Out.out End.deep (x ∷ xs))
    ≡ by_after (if_within ok (after g x)) (if ok then empty g else End.deep) x xs
within_by true g x xs h = h
within_by false g x xs h = refl

-- A text is read as the grammar that is left after its first lexeme is, on what follows.
pub read_after : {L A : Type 0} (g : Grammar L A) (x : L) (xs : List L)
    → read g (x ∷ xs) ≡ by_after (after g x) (empty g) x xs
read_after (Grammar.pure a) x xs = refl
read_after Grammar.refuse x xs = refl
read_after (Grammar.bind g k) x xs =
    ap (λ (o : Out _ _). chain o (λ a rest. read (k a) rest)) (read_after g x xs)
    ∙ then_by (after g x) (empty g) k x xs (λ a. read_after (k a) x xs)
read_after (Grammar.on t go or) x xs = on_by (t x) (go x) or x xs (read_after or x xs)
read_after (Grammar.many t step a) x xs = many_by t step a x xs (t a x) refl
read_after (Grammar.within ok g) x xs = within_by ok g x xs (read_after g x xs)

-- The reading of a front goes on behind its first lexeme, which may stand there.
front_goes : {L A : Type 0} (o : After L A) (e : End A) (x : L) (xs : List L) → AtEnd (by_after o e x xs)
    → FrontAfter o xs
front_goes (After.then g) e x xs h = read_front g xs h
front_goes After.never e x xs (f, h) = let never : x ∷ xs ≡ [] = ap left_of h in absurd (cc)

-- A front behind a lexeme that may stand first is read to its end.
goes_front : {L A : Type 0} (o : After L A) (e : End A) (x : L) (xs : List L) → FrontAfter o xs
    → AtEnd (by_after o e x xs)
goes_front (After.then g) e x xs f = front_read g xs f
goes_front After.never e x xs f = absurd f

-- A front is a lexeme that may stand first, and a front of the grammar that is left after it.
pub front_after : {L A : Type 0} (g : Grammar L A) (x : L) (xs : List L)
    → Front g (x ∷ xs) ↔ FrontAfter (after g x) xs
front_after g x xs = (
  λ f. front_goes (after g x) (empty g) x xs (subst AtEnd (read_after g x xs) (front_read g (x ∷ xs) f)),
  λ f. read_front g (x ∷ xs) (subst AtEnd (sym (read_after g x xs)) (goes_front (after g x) (empty g) x xs f)),
)
