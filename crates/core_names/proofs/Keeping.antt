-- What holds of the value of each phrase of a grammar whose lexemes are within their limits, form by form.
use Rattle.std.proofs.Common.{◌≡◌, ℕ, zero, suc, ◌+◌, ◌<◌, ◌≤◌, ◌^◌, List, [], ◌∷◌, ◌++◌, length, Option, Some, None, Bool, true, false, ap, subst, inl, inr, arith}
use Rattle.std.proofs.lemmas.List.{length-append}
use Rattle.grammars.specs.Grammar.{Grammar, End, Ends, Rounds, Phrase}
use Rattle.grammars.proofs.Values.{gives_pure, gives_bind}
use Rattle.sml_lexer.specs.declared.lexeme.Lexeme.{Lexeme}
use Rattle.phrase_reading.specs.Names.{either, if_mark, if_marked, if_taken, beginning}
use Rattle.phrase_reading.specs.Sized.{leaf, over, over_two, part, one, more, further, maybe}
use Rattle.phrase_reading.specs.Words.{g, is, made, taken}
use Rattle.phrase_reading.specs.declared.tall.Tall.{Tall}
use Rattle.sml_lexer.specs.declared.words.Word.{Word}
use Rattle.infix_names.specs.Fixities.{Fixities}
use Rattle.core_bindings.specs.Decs.{Decs, declares, with_dec, plain}
use Rattle.lexeme_laws.specs.Limits.{IsWithinLimits}
use Rattle.body_laws.proofs.Signatures.{Each}

-- ---- lists

pub each-append : {A : Type 0} (P : A → Type 0) (xs ys : List A) → Each P xs → Each P ys → Each P (xs ++ ys)
each-append P [] ys first second = second
each-append P (x ∷ xs) ys first second = (first.0, each-append P xs ys first.1 second)

each-front : {A : Type 0} (P : A → Type 0) (xs ys : List A) → Each P (xs ++ ys) → Each P xs
each-front P [] ys all = tt
each-front P (x ∷ xs) ys all = (all.0, each-front P xs ys all.1)

each-back : {A : Type 0} (P : A → Type 0) (xs ys : List A) → Each P (xs ++ ys) → Each P ys
each-back P [] ys all = all
each-back P (x ∷ xs) ys all = each-back P xs ys all.1

-- ---- grammars

-- a lexeme within its limits
abbrev pub Good : Lexeme → Type 0
Good x = IsWithinLimits x.kind

-- lexemes within their limits, and so few that each list of what is read of them has a length of 63 bits
pub record Fit (xs : List Lexeme) : Type 0 where
  pub good : Each Good xs
  pub few : length xs < 2 ^ 62

front_fits : (ys zs : List Lexeme) → Fit (ys ++ zs) → Fit ys
front_fits ys zs fit = record {
  good = each-front Good ys zs fit.good;
  few = omega (arith, fit.few, length-append ys zs);
}

back_fits : (ys zs : List Lexeme) → Fit (ys ++ zs) → Fit zs
back_fits ys zs fit = record {
  good = each-back Good ys zs fit.good;
  few = omega (arith, fit.few, length-append ys zs);
}

rest_fits : (x : Lexeme) (xs : List Lexeme) → Fit (x ∷ xs) → Fit xs
rest_fits x xs fit = record { good = fit.good.1; few = let low = fit.few in omega (arith, low) }

-- what holds of the value of each phrase of such lexemes
abbrev pub Gives : {A : Type 0} → g A → (A → Type 0) → Type 0
Gives {A} grammar P = (xs : List Lexeme) (next : Option Lexeme) (a : A) → Fit xs → Phrase grammar xs next a → P a

-- each phrase of the grammar whose lexemes are within their limits has a value of which this holds
pub record Keeps {A : Type 0} (grammar : g A) (P : A → Type 0) : Type 0 where
  pub gives : Gives grammar P

pure_gives : {A : Type 0} (a : A) (P : A → Type 0) → P a → Gives (Grammar.pure a) P
pure_gives a P p xs next b good h =
    let is : End.whole b ≡ End.whole a = h.1 in let same : a ≡ b = cc in subst P same p

refuse_gives : {A : Type 0} (P : A → Type 0) → Gives (Grammar.refuse {A = A}) P
refuse_gives P xs next a good h = let never : End.whole a ≡ End.refused = h.1 in absurd (cc)

bind_gives : {A B : Type 0} (grammar : g A) (k : A → g B) (P : A → Type 0) (Q : B → Type 0) → Gives grammar P
    → ((a : A) → P a → Gives (k a) Q) → Gives (Grammar.bind grammar k) Q
bind_gives grammar k P Q first second xs next b good (inl (a, ys, zs, split, p, q)) =
    let both : Fit (ys ++ zs) = subst Fit split good in
    second a (first ys _ a (front_fits ys zs both) p) zs next b (back_fits ys zs both) q
bind_gives grammar k P Q first second xs next b good (inr h) = absurd h

on_gives : {A : Type 0} (t : Lexeme → Bool) (go : Lexeme → g A) (or : g A) (P : A → Type 0)
    → ((x : Lexeme) → Good x → Gives (go x) P) → Gives or P → Gives (Grammar.on t go or) P
on_gives t go or P goes ors [] next a good h = ors [] next a good h.1
on_gives t go or P goes ors (x ∷ xs) next a good (inl h) = goes x good.good.0 xs next a (rest_fits x xs good) h.1
on_gives t go or P goes ors (x ∷ xs) next a good (inr h) = ors (x ∷ xs) next a good h.1

within_gives : {A : Type 0} (ok : Bool) (grammar : g A) (P : A → Type 0) → Gives grammar P
    → Gives (Grammar.within ok grammar) P
within_gives ok grammar P some xs next a good (inl h) = some xs next a good h.1
within_gives ok grammar P some xs next a good (inr h) = let never : End.whole a ≡ End.deep = h.2 in absurd (cc)

module _ {A : Type 0} (t : A → Lexeme → Bool) (step : A → Lexeme → g A) (P : A → Type 0) where
  rounds_give : ((a : A) (x : Lexeme) → Good x → P a → Gives (step a x) P) → (n : ℕ) (a b : A) (xs : List Lexeme)
      (next : Option Lexeme) → Fit xs → P a → Rounds t (λ a x. Ends (step a x)) n a (End.whole b) xs next → P b
  rounds_give lasts zero a b xs next good p h =
      let is : End.whole b ≡ End.whole a = h.2 in let same : a ≡ b = cc in subst P same p
  rounds_give lasts (suc n) a b [] next good p h = absurd h
  rounds_give lasts (suc n) a b (x ∷ xs) next good p (go, inr h) = absurd h
  rounds_give lasts (suc n) a b (x ∷ xs) next good p (go, inl (c, ys, zs, split, q, r)) =
      let both : Fit (ys ++ zs) = subst Fit split (rest_fits x xs good) in
      rounds_give lasts n c b zs next (back_fits ys zs both)
      (lasts a x good.good.0 p ys _ c (front_fits ys zs both) q) r

  many_gives : ((a : A) (x : Lexeme) → Good x → P a → Gives (step a x) P) → (a : A) → P a
      → Gives (Grammar.many t step a) P
  many_gives lasts a p xs next b good h = rounds_give lasts h.0 a b xs next good p h.1

pub keep_pure : {A : Type 0} {P : A → Type 0} (a : A) → P a → Keeps (Grammar.pure a) P
keep_pure {A} {P} a p = record { gives = pure_gives a P p }

pub keep_refuse : {A : Type 0} {P : A → Type 0} → Keeps (Grammar.refuse {A = A}) P
keep_refuse {A} {P} = record { gives = refuse_gives P }

pub keep_bind : {A B : Type 0} {grammar : g A} {k : A → g B} {P : A → Type 0} {Q : B → Type 0} → Keeps grammar P
    → ((a : A) → P a → Keeps (k a) Q) → Keeps (Grammar.bind grammar k) Q
keep_bind {A} {B} {grammar} {k} {P} {Q} first next =
    record { gives = bind_gives grammar k P Q first.gives (λ a p. (next a p).gives) }

-- behind a part of which nothing is asked
pub keep_then : {A B : Type 0} {grammar : g A} {k : A → g B} {Q : B → Type 0} → ((a : A) → Keeps (k a) Q)
    → Keeps (Grammar.bind grammar k) Q
keep_then {A} {B} {grammar} {k} {Q} next =
    record { gives = bind_gives grammar k (λ _. Unit {0}) Q (λ xs after a good h. tt) (λ a _. (next a).gives) }

pub keep_on_good : {A : Type 0} {t : Lexeme → Bool} {go : Lexeme → g A} {or : g A} {P : A → Type 0}
    → ((x : Lexeme) → Good x → Keeps (go x) P) → Keeps or P → Keeps (Grammar.on t go or) P
keep_on_good {A} {t} {go} {or} {P} first second =
    record { gives = on_gives t go or P (λ x good. (first x good).gives) second.gives }

pub keep_on : {A : Type 0} {t : Lexeme → Bool} {go : Lexeme → g A} {or : g A} {P : A → Type 0}
    → ((x : Lexeme) → Keeps (go x) P) → Keeps or P → Keeps (Grammar.on t go or) P
keep_on first second = keep_on_good (λ x _. first x) second

pub keep_within : {A : Type 0} {ok : Bool} {grammar : g A} {P : A → Type 0} → Keeps grammar P
    → Keeps (Grammar.within ok grammar) P
keep_within {A} {ok} {grammar} {P} some = record { gives = within_gives ok grammar P some.gives }

pub keep_many : {A : Type 0} {t : A → Lexeme → Bool} {step : A → Lexeme → g A} {P : A → Type 0}
    → ((a : A) (x : Lexeme) → Good x → P a → Keeps (step a x) P) → (a : A) → P a → Keeps (Grammar.many t step a) P
keep_many {A} {t} {step} {P} lasts a p =
    record { gives = many_gives t step P (λ a x good p. (lasts a x good p).gives) a p }

-- a lexeme with which a phrase begins
pub keep_beginning : (t : Lexeme → Bool) → Keeps (beginning t) Good
unfolding beginning
keep_beginning t = keep_on_good (λ x good. keep_pure x good) keep_refuse

-- what may be absent
abbrev pub IfAny : {A : Type 0} → (A → Type 0) → Option A → Type 0
IfAny P None = Unit {0}
IfAny P (Some a) = P a

-- .. of which something is known, by which this holds of what is made of it
pub keep_made_by : {A B : Type 0} (make : A → B) {P : B → Type 0} (found : Option A) → IfAny (λ a. P (make a)) found
    → Keeps (made make found) P
keep_made_by make None is = keep_refuse
keep_made_by make (Some found) is = keep_pure (make found) is

pub keep_taken_by : {A B : Type 0} (what : Lexeme → Option A) (make : Lexeme → A → B) {P : B → Type 0}
    → ((x : Lexeme) → Good x → IfAny (λ a. P (make x a)) (what x)) → Keeps (taken what make) P
unfolding taken
keep_taken_by what make each = keep_on_good (λ x good. keep_made_by (make x) (what x) (each x good)) keep_refuse

pub keep_if_taken_by : {A B C : Type 0} (what : Lexeme → Option A) (make : Lexeme → A → B) (Q : B → Type 0)
    {go : B → g C} {or : g C} {P : C → Type 0} → ((x : Lexeme) → Good x → IfAny (λ a. Q (make x a)) (what x))
    → ((b : B) → Q b → Keeps (go b) P) → Keeps or P → Keeps (if_taken what make go or) P
unfolding if_taken
keep_if_taken_by what make Q each go second =
    keep_on_good (λ x good. keep_bind (keep_made_by (make x) {P = Q} (what x) (each x good)) go) second

-- a lexeme of which something is known
pub keep_made : {A B : Type 0} (make : A → B) {P : B → Type 0} → ((a : A) → P (make a)) → (found : Option A)
    → Keeps (made make found) P
keep_made make each None = keep_refuse
keep_made make each (Some found) = keep_pure (make found) (each found)

pub keep_taken : {A B : Type 0} (what : Lexeme → Option A) (make : Lexeme → A → B) {P : B → Type 0}
    → ((x : Lexeme) (a : A) → P (make x a)) → Keeps (taken what make) P
unfolding taken
keep_taken what make each = keep_on (λ x. keep_made (make x) (each x) (what x)) keep_refuse

-- what goes on from such a lexeme, or else another way
pub keep_if_taken : {A B C : Type 0} (what : Lexeme → Option A) (make : Lexeme → A → B) {go : B → g C} {or : g C}
    {P : C → Type 0} → ((b : B) → Keeps (go b) P) → Keeps or P → Keeps (if_taken what make go or) P
unfolding if_taken
keep_if_taken what make each second = keep_on (λ x. keep_then each) second

pub keep_if_mark : {A : Type 0} (mark : Word) {go or : g A} {P : A → Type 0} → Keeps go P → Keeps or P
    → Keeps (if_mark mark go or) P
unfolding if_mark
keep_if_mark mark first second = keep_on (λ _. first) second

pub keep_if_marked : {A : Type 0} (mark : Word) {go : Lexeme → g A} {or : g A} {P : A → Type 0}
    → ((x : Lexeme) → Good x → Keeps (go x) P) → Keeps or P → Keeps (if_marked mark go or) P
unfolding if_marked
keep_if_marked mark first second = keep_on_good first second

-- one of two, by a test
pub keep_either : {A : Type 0} (test : Bool) {go or : g A} {P : A → Type 0} → Keeps go P → Keeps or P
    → Keeps (either test go or) P
keep_either true first second = first
keep_either false first second = second

-- ---- trees with their heights

-- a tree of which this holds
pub record Holds {A : Type 0} (P : A → Type 0) (made : Tall A) : Type 0 where
  pub tree : P made.tree

pub leaf_is : {A : Type 0} {P : A → Type 0} (tree : A) → P tree → Holds P (leaf tree)
leaf_is tree is = record { tree = is }

pub over_is : {A B : Type 0} {P : A → Type 0} {Q : B → Type 0} (wrap : A → B) → ((tree : A) → P tree → Q (wrap tree))
    → {made : Tall A} → Holds P made → Holds Q (over wrap made)
over_is wrap each {made} is = record { tree = each made.tree is.tree }

pub over_two_is : {A B C : Type 0} {P : A → Type 0} {Q : B → Type 0} {R : C → Type 0} (wrap : A → B → C)
    → ((a : A) (b : B) → P a → Q b → R (wrap a b)) → {left : Tall A} {right : Tall B} → Holds P left → Holds Q right
    → Holds R (over_two wrap left right)
over_two_is wrap each {left} {right} is other = record { tree = each left.tree right.tree is.tree other.tree }

pub part_is : {A B : Type 0} {P : A → Type 0} {Q : B → Type 0} (wrap : A → B) → ((tree : A) → P tree → Q (wrap tree))
    → {made : Tall A} → Holds P made → Holds Q (part wrap made)
part_is wrap each {made} is = record { tree = each made.tree is.tree }

pub one_is : {A : Type 0} {P : A → Type 0} {first : Tall A} → Holds P first → Holds (Each P) (one first)
one_is is = record { tree = (is.tree, tt) }

pub more_is : {A : Type 0} {P : A → Type 0} {found : Tall (List A)} {next : Tall A} → Holds (Each P) found
    → Holds P next → Holds (Each P) (more found next)
more_is {A} {P} {found} {next} are is =
    record { tree = each-append P found.tree (next.tree ∷ []) are.tree (is.tree, tt) }

-- nothing yet
pub none_is : {A : Type 0} {P : A → Type 0} → Holds (Each P) (record { tree = []; height = 0 })
none_is = record { tree = tt }

-- several, so few that each has a number
pub record HoldsFew {A : Type 0} (P : A → Type 0) (made : Tall (List A)) : Type 0 where
  pub all : Each P made.tree
  pub few : length made.tree < 2 ^ 63

-- further parts behind their marks
pub further_keeps : {A : Type 0} {P : A → Type 0} (mark : Word) {each : g (Tall A)} {found : Tall (List A)}
    → Keeps each (Holds P) → Holds (Each P) found → Keeps (further mark each found) (Holds (Each P))
unfolding further
further_keeps mark {each} {found} every are =
    keep_many (λ found x _ so. keep_bind every (λ next is. keep_pure (more found next) (more_is so is))) found are

pub maybe_keeps : {A : Type 0} {P : A → Type 0} (mark : Word) {each : g (Tall A)} → Keeps each (Holds P)
    → Keeps (maybe mark each) (Holds (IfAny P))
unfolding maybe
maybe_keeps {A} mark every =
    keep_on (λ _. keep_bind every (λ found is. keep_pure _ (record { tree = is.tree })))
    (keep_pure _ (record { tree = tt }))

-- ---- how long lists are

-- a round makes a list longer by one
step_few : {A : Type 0} (part : Lexeme → g (Tall A)) (found made : Tall (List A)) (x : Lexeme) (xs : List Lexeme)
    (next : Option Lexeme) → Phrase (Grammar.bind (part x) (λ each. Grammar.pure (more found each))) xs next made
    → length made.tree ≤ suc (length found.tree)
step_few {A} part found made x xs next h =
    gives_bind (part x) (λ each. Grammar.pure (more found each)) (λ _. Unit {0})
    (λ made. length made.tree ≤ suc (length found.tree)) (λ _ _ _ _. tt)
    (λ each _. gives_pure (more found each) (λ made. length made.tree ≤ suc (length found.tree))
    (omega (arith, length-append found.tree (each.tree ∷ []))))
    xs next made h

module _ {A : Type 0} (t : Tall (List A) → Lexeme → Bool) (part : Lexeme → g (Tall A)) where
  abbrev step : Tall (List A) → Lexeme → g (Tall (List A))
  step found x = Grammar.bind (part x) (λ each. Grammar.pure (more found each))

  rounds_few : (n : ℕ) (found made : Tall (List A)) (xs : List Lexeme) (next : Option Lexeme)
      → Rounds t (λ found x. Ends (step found x)) n found (End.whole made) xs next
      → length made.tree ≤ length found.tree + length xs
  rounds_few zero found made xs next h =
      let is : End.whole made ≡ End.whole found = h.2 in
      let same : found ≡ made = cc in
      subst (λ (other : Tall (List A)). length other.tree ≤ length found.tree + length xs) same (omega arith)
  rounds_few (suc n) found made [] next h = absurd h
  rounds_few (suc n) found made (x ∷ xs) next (go, inr h) = absurd h
  rounds_few (suc n) found made (x ∷ xs) next (go, inl (c, ys, zs, split, q, r)) =
      let one = step_few part found c x ys _ q in
      let rest = rounds_few n c made zs next r in
      let lengths : length xs ≡ length (ys ++ zs) = ap length split in
      omega (arith, one, rest, lengths, length-append ys zs)

  -- .. of which there are few
  pub many_few_keeps : {P : A → Type 0} (found : Tall (List A)) → length found.tree ≤ 2
      → Keeps (Grammar.many t step found) (Holds (Each P)) → Keeps (Grammar.many t step found) (HoldsFew P)
  many_few_keeps found short all = record {
    gives = λ xs next made fit h. record {
      all = (all.gives xs next made fit h).tree;
      few = let most = rounds_few h.0 found made xs next h.1 in let low = fit.few in omega (arith, most, low, short);
    };
  }

pub further_few_keeps : {A : Type 0} {P : A → Type 0} (mark : Word) {each : g (Tall A)} {found : Tall (List A)}
    → length found.tree ≤ 2 → Keeps each (Holds P) → Holds (Each P) found → Keeps (further mark each found) (HoldsFew P)
unfolding further
further_few_keeps {A} {P} mark {each} {found} short every are =
    many_few_keeps (λ _ x. is mark x) (λ _. each) found short
    (keep_many (λ found x _ so. keep_bind every (λ next is. keep_pure (more found next) (more_is so is))) found are)

-- ---- declarations

pub record HoldsEach {A : Type 0} (P : A → Type 0) (found : Decs A) : Type 0 where
  pub decs : Each P found.decs

pub declares_is : {A : Type 0} {P : A → Type 0} {made : Tall A} (fs : Fixities) → Holds P made
    → HoldsEach P (declares made fs)
declares_is fs is = record { decs = (is.tree, tt) }

pub with_dec_is : {A : Type 0} {P : A → Type 0} {found next : Decs A} → HoldsEach P found → HoldsEach P next
    → HoldsEach P (with_dec found next)
with_dec_is {A} {P} {found} {next} are more =
    record { decs = each-append P found.decs next.decs are.decs more.decs }

pub plain_keeps : {A : Type 0} {P : A → Type 0} {grammar : g (Tall A)} (fs : Fixities) → Keeps grammar (Holds P)
    → Keeps (plain fs grammar) (HoldsEach P)
unfolding plain
plain_keeps fs each = keep_bind each (λ found is. keep_pure _ (declares_is fs is))
