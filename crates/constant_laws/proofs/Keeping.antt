-- What holds of the value of each phrase of a grammar whose lexemes are within their limits, form by form.
use Rattle.std.proofs.Common.{◌≡◌, ℕ, zero, suc, List, [], ◌∷◌, ◌++◌, Option, Some, None, Bool, true, false, subst, inl, inr}
use Rattle.grammars.specs.Grammar.{Grammar, End, Ends, Rounds, Phrase}
use Rattle.sml_lexer.specs.declared.lexeme.Lexeme.{Lexeme}
use Rattle.phrase_reading.specs.Names.{either, if_mark, if_marked, if_taken, beginning}
use Rattle.phrase_reading.specs.Sized.{leaf, over, over_two, part, one, more, further, maybe}
use Rattle.phrase_reading.specs.Words.{g, made, taken}
use Rattle.phrase_reading.specs.declared.tall.Tall.{Tall}
use Rattle.sml_lexer.specs.declared.words.Word.{Word}
use Rattle.infix_names.specs.Fixities.{Fixities}
use Rattle.core_bindings.specs.Decs.{Decs, declares, with_dec, plain}
use Rattle.lexeme_laws.specs.Limits.{IsWithinLimits}
use Rattle.body_laws.proofs.Signatures.{Each}
use Rattle.fitting_forms.proofs.PatForms.{IfAny}

-- ---- lists

pub each-append : {A : Type 0} (P : A → Type 0) (xs ys : List A) → Each P xs → Each P ys → Each P (xs ++ ys)
each-append P [] ys first second = second
each-append P (x ∷ xs) ys first second = (first.0, each-append P xs ys first.1 second)

each-front : {A : Type 0} (P : A → Type 0) (xs ys : List A) → Each P (xs ++ ys) → Each P xs
each-front P [] ys all = tt
each-front P (x ∷ xs) ys all = (all.0, each-front P xs ys all.1)

each-back : {A : Type 0} (P : A → Type 0) (xs ys : List A) → Each P (xs ++ ys) → Each P ys
each-back P [] ys all = all
each-back P (x ∷ xs) ys all = each-back P xs ys all.1

-- ---- grammars

-- a lexeme within its limits
abbrev pub Good : Lexeme → Type 0
Good x = IsWithinLimits x.kind

-- what holds of the value of each phrase of such lexemes
abbrev pub Gives : {A : Type 0} → g A → (A → Type 0) → Type 0
Gives {A} grammar P =
    (xs : List Lexeme) (next : Option Lexeme) (a : A) → Each Good xs → Phrase grammar xs next a → P a

-- each phrase of the grammar whose lexemes are within their limits has a value of which this holds
pub record Keeps {A : Type 0} (grammar : g A) (P : A → Type 0) : Type 0 where
  pub gives : Gives grammar P

pure_gives : {A : Type 0} (a : A) (P : A → Type 0) → P a → Gives (Grammar.pure a) P
pure_gives a P p xs next b good h =
    let is : End.whole b ≡ End.whole a = h.1 in let same : a ≡ b = cc in subst P same p

refuse_gives : {A : Type 0} (P : A → Type 0) → Gives (Grammar.refuse {A = A}) P
refuse_gives P xs next a good h = let never : End.whole a ≡ End.refused = h.1 in absurd (cc)

bind_gives : {A B : Type 0} (grammar : g A) (k : A → g B) (P : A → Type 0) (Q : B → Type 0) → Gives grammar P
    → ((a : A) → P a → Gives (k a) Q) → Gives (Grammar.bind grammar k) Q
bind_gives grammar k P Q first second xs next b good (inl (a, ys, zs, split, p, q)) =
    let both : Each Good (ys ++ zs) = subst (Each Good) split good in
    second a (first ys _ a (each-front Good ys zs both) p) zs next b (each-back Good ys zs both) q
bind_gives grammar k P Q first second xs next b good (inr h) = absurd h

on_gives : {A : Type 0} (t : Lexeme → Bool) (go : Lexeme → g A) (or : g A) (P : A → Type 0)
    → ((x : Lexeme) → Good x → Gives (go x) P) → Gives or P → Gives (Grammar.on t go or) P
on_gives t go or P goes ors [] next a good h = ors [] next a good h.1
on_gives t go or P goes ors (x ∷ xs) next a good (inl h) = goes x good.0 xs next a good.1 h.1
on_gives t go or P goes ors (x ∷ xs) next a good (inr h) = ors (x ∷ xs) next a good h.1

within_gives : {A : Type 0} (ok : Bool) (grammar : g A) (P : A → Type 0) → Gives grammar P
    → Gives (Grammar.within ok grammar) P
within_gives ok grammar P some xs next a good (inl h) = some xs next a good h.1
within_gives ok grammar P some xs next a good (inr h) = let never : End.whole a ≡ End.deep = h.2 in absurd (cc)

module _ {A : Type 0} (t : A → Lexeme → Bool) (step : A → Lexeme → g A) (P : A → Type 0) where
  rounds_give : ((a : A) (x : Lexeme) → Good x → P a → Gives (step a x) P) → (n : ℕ) (a b : A) (xs : List Lexeme)
      (next : Option Lexeme) → Each Good xs → P a → Rounds t (λ a x. Ends (step a x)) n a (End.whole b) xs next → P b
  rounds_give lasts zero a b xs next good p h =
      let is : End.whole b ≡ End.whole a = h.2 in let same : a ≡ b = cc in subst P same p
  rounds_give lasts (suc n) a b [] next good p h = absurd h
  rounds_give lasts (suc n) a b (x ∷ xs) next good p (go, inr h) = absurd h
  rounds_give lasts (suc n) a b (x ∷ xs) next good p (go, inl (c, ys, zs, split, q, r)) =
      let both : Each Good (ys ++ zs) = subst (Each Good) split good.1 in
      rounds_give lasts n c b zs next (each-back Good ys zs both)
      (lasts a x good.0 p ys _ c (each-front Good ys zs both) q) r

  many_gives : ((a : A) (x : Lexeme) → Good x → P a → Gives (step a x) P) → (a : A) → P a
      → Gives (Grammar.many t step a) P
  many_gives lasts a p xs next b good h = rounds_give lasts h.0 a b xs next good p h.1

pub keep_pure : {A : Type 0} {P : A → Type 0} (a : A) → P a → Keeps (Grammar.pure a) P
keep_pure {A} {P} a p = record { gives = pure_gives a P p }

pub keep_refuse : {A : Type 0} {P : A → Type 0} → Keeps (Grammar.refuse {A = A}) P
keep_refuse {A} {P} = record { gives = refuse_gives P }

pub keep_bind : {A B : Type 0} {grammar : g A} {k : A → g B} {P : A → Type 0} {Q : B → Type 0} → Keeps grammar P
    → ((a : A) → P a → Keeps (k a) Q) → Keeps (Grammar.bind grammar k) Q
keep_bind {A} {B} {grammar} {k} {P} {Q} first next =
    record { gives = bind_gives grammar k P Q first.gives (λ a p. (next a p).gives) }

-- behind a part of which nothing is asked
pub keep_then : {A B : Type 0} {grammar : g A} {k : A → g B} {Q : B → Type 0} → ((a : A) → Keeps (k a) Q)
    → Keeps (Grammar.bind grammar k) Q
keep_then {A} {B} {grammar} {k} {Q} next =
    record { gives = bind_gives grammar k (λ _. Unit {0}) Q (λ xs after a good h. tt) (λ a _. (next a).gives) }

pub keep_on_good : {A : Type 0} {t : Lexeme → Bool} {go : Lexeme → g A} {or : g A} {P : A → Type 0}
    → ((x : Lexeme) → Good x → Keeps (go x) P) → Keeps or P → Keeps (Grammar.on t go or) P
keep_on_good {A} {t} {go} {or} {P} first second =
    record { gives = on_gives t go or P (λ x good. (first x good).gives) second.gives }

pub keep_on : {A : Type 0} {t : Lexeme → Bool} {go : Lexeme → g A} {or : g A} {P : A → Type 0}
    → ((x : Lexeme) → Keeps (go x) P) → Keeps or P → Keeps (Grammar.on t go or) P
keep_on first second = keep_on_good (λ x _. first x) second

pub keep_within : {A : Type 0} {ok : Bool} {grammar : g A} {P : A → Type 0} → Keeps grammar P
    → Keeps (Grammar.within ok grammar) P
keep_within {A} {ok} {grammar} {P} some = record { gives = within_gives ok grammar P some.gives }

pub keep_many : {A : Type 0} {t : A → Lexeme → Bool} {step : A → Lexeme → g A} {P : A → Type 0}
    → ((a : A) (x : Lexeme) → Good x → P a → Keeps (step a x) P) → (a : A) → P a → Keeps (Grammar.many t step a) P
keep_many {A} {t} {step} {P} lasts a p =
    record { gives = many_gives t step P (λ a x good p. (lasts a x good p).gives) a p }

-- a lexeme with which a phrase begins
pub keep_beginning : (t : Lexeme → Bool) → Keeps (beginning t) Good
unfolding beginning
keep_beginning t = keep_on_good (λ x good. keep_pure x good) keep_refuse

-- a lexeme of which something is known
pub keep_made : {A B : Type 0} (make : A → B) {P : B → Type 0} → ((a : A) → P (make a)) → (found : Option A)
    → Keeps (made make found) P
keep_made make each None = keep_refuse
keep_made make each (Some found) = keep_pure (make found) (each found)

pub keep_taken : {A B : Type 0} (what : Lexeme → Option A) (make : Lexeme → A → B) {P : B → Type 0}
    → ((x : Lexeme) (a : A) → P (make x a)) → Keeps (taken what make) P
unfolding taken
keep_taken what make each = keep_on (λ x. keep_made (make x) (each x) (what x)) keep_refuse

-- what goes on from such a lexeme, or else another way
pub keep_if_taken : {A B C : Type 0} (what : Lexeme → Option A) (make : Lexeme → A → B) {go : B → g C} {or : g C}
    {P : C → Type 0} → ((b : B) → Keeps (go b) P) → Keeps or P → Keeps (if_taken what make go or) P
unfolding if_taken
keep_if_taken what make each second = keep_on (λ x. keep_then each) second

pub keep_if_mark : {A : Type 0} (mark : Word) {go or : g A} {P : A → Type 0} → Keeps go P → Keeps or P
    → Keeps (if_mark mark go or) P
unfolding if_mark
keep_if_mark mark first second = keep_on (λ _. first) second

pub keep_if_marked : {A : Type 0} (mark : Word) {go : Lexeme → g A} {or : g A} {P : A → Type 0}
    → ((x : Lexeme) → Good x → Keeps (go x) P) → Keeps or P → Keeps (if_marked mark go or) P
unfolding if_marked
keep_if_marked mark first second = keep_on_good first second

-- one of two, by a test
pub keep_either : {A : Type 0} (test : Bool) {go or : g A} {P : A → Type 0} → Keeps go P → Keeps or P
    → Keeps (either test go or) P
keep_either true first second = first
keep_either false first second = second

-- ---- trees with their heights

-- a tree of which this holds
pub record Holds {A : Type 0} (P : A → Type 0) (made : Tall A) : Type 0 where
  pub tree : P made.tree

pub leaf_is : {A : Type 0} {P : A → Type 0} (tree : A) → P tree → Holds P (leaf tree)
leaf_is tree is = record { tree = is }

pub over_is : {A B : Type 0} {P : A → Type 0} {Q : B → Type 0} (wrap : A → B) → ((tree : A) → P tree → Q (wrap tree))
    → {made : Tall A} → Holds P made → Holds Q (over wrap made)
over_is wrap each {made} is = record { tree = each made.tree is.tree }

pub over_two_is : {A B C : Type 0} {P : A → Type 0} {Q : B → Type 0} {R : C → Type 0} (wrap : A → B → C)
    → ((a : A) (b : B) → P a → Q b → R (wrap a b)) → {left : Tall A} {right : Tall B} → Holds P left → Holds Q right
    → Holds R (over_two wrap left right)
over_two_is wrap each {left} {right} is other = record { tree = each left.tree right.tree is.tree other.tree }

pub part_is : {A B : Type 0} {P : A → Type 0} {Q : B → Type 0} (wrap : A → B) → ((tree : A) → P tree → Q (wrap tree))
    → {made : Tall A} → Holds P made → Holds Q (part wrap made)
part_is wrap each {made} is = record { tree = each made.tree is.tree }

pub one_is : {A : Type 0} {P : A → Type 0} {first : Tall A} → Holds P first → Holds (Each P) (one first)
one_is is = record { tree = (is.tree, tt) }

pub more_is : {A : Type 0} {P : A → Type 0} {found : Tall (List A)} {next : Tall A} → Holds (Each P) found
    → Holds P next → Holds (Each P) (more found next)
more_is {A} {P} {found} {next} are is =
    record { tree = each-append P found.tree (next.tree ∷ []) are.tree (is.tree, tt) }

-- nothing yet
pub none_is : {A : Type 0} {P : A → Type 0} → Holds (Each P) (record { tree = []; height = 0 })
none_is = record { tree = tt }

-- further parts behind their marks
pub further_keeps : {A : Type 0} {P : A → Type 0} (mark : Word) {each : g (Tall A)} {found : Tall (List A)}
    → Keeps each (Holds P) → Holds (Each P) found → Keeps (further mark each found) (Holds (Each P))
unfolding further
further_keeps mark {each} {found} every are =
    keep_many (λ found x _ so. keep_bind every (λ next is. keep_pure (more found next) (more_is so is))) found are

pub maybe_keeps : {A : Type 0} {P : A → Type 0} (mark : Word) {each : g (Tall A)} → Keeps each (Holds P)
    → Keeps (maybe mark each) (Holds (IfAny P))
unfolding maybe
maybe_keeps {A} mark every =
    keep_on (λ _. keep_bind every (λ found is. keep_pure _ (record { tree = is.tree })))
    (keep_pure _ (record { tree = tt }))

-- ---- declarations

pub record HoldsEach {A : Type 0} (P : A → Type 0) (found : Decs A) : Type 0 where
  pub decs : Each P found.decs

pub declares_is : {A : Type 0} {P : A → Type 0} {made : Tall A} (fs : Fixities) → Holds P made
    → HoldsEach P (declares made fs)
declares_is fs is = record { decs = (is.tree, tt) }

pub with_dec_is : {A : Type 0} {P : A → Type 0} {found next : Decs A} → HoldsEach P found → HoldsEach P next
    → HoldsEach P (with_dec found next)
with_dec_is {A} {P} {found} {next} are more =
    record { decs = each-append P found.decs next.decs are.decs more.decs }

pub plain_keeps : {A : Type 0} {P : A → Type 0} {grammar : g (Tall A)} (fs : Fixities) → Keeps grammar (Holds P)
    → Keeps (plain fs grammar) (HoldsEach P)
unfolding plain
plain_keeps fs each = keep_bind each (λ found is. keep_pure _ (declares_is fs is))
