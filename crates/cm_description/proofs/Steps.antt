-- How descriptions are read, a step at a time.
use Rattle.std.proofs.Common.{◌≡◌, ℕ, ◌<◌, List, [], ◌∷◌, ◌++◌, Option, Some, None, Bool, true, false, if◌then◌else◌, refl, ap, sym, ◌∙◌, drop, length, is_some, Result, Ok, Err, subst, arith}
use Rattle.std.specs.Result.{IsErrAnd}
use Rattle.grammars.specs.Grammar.{Grammar, End, begins, head_or}
use Rattle.grammars.specs.Reading.{Out, Reader, chain, read}
use Rattle.grammars.proofs.Complete.{goes, stops}
use Rattle.grammars.proofs.Rounds.{many_go, many_end, not_longer}
use Rattle.cm_lexer.specs.Spelling.{slice_of}
use Rattle.cm_lexer.specs.declared.token.Token.{Token}
use Rattle.cm_lexer.specs.declared.token.TokenKind.{TokenKind}
use Rattle.cm_lexer.specs.declared.token.TokenKind.TheVariants as kind
use Rattle.cm_description.specs.Words.{that, is_word, has_kind, is_path, space_at, begins_export, begins_member}
use Rattle.cm_description.specs.Seen.{Stops, Reads}
use Rattle.cm_description.specs.declared.stop.Stop.{Stop}
use Rattle.cm_description.specs.declared.stop.Stop.TheVariants as stop
use Rattle.cm_description.specs.Grammar.{g, word, mark, exports, export_step, options, some_options, maybe_options, class, maybe_class, unclassed, members, member_step}
use Rattle.cm_description.specs.declared.word.WordKind.{WordKind}
use Rattle.cm_description.specs.declared.word.WordKind.TheVariants as wanted
use Rattle.cm_description.specs.declared.found.Exports.{Exports}
use Rattle.cm_description.specs.declared.found.Members.{Members}

-- a token that passes is the one that is asked for, and passes
abbrev Passed : (Token → Bool) → Token → Token → Type 0
Passed t y x = (y ≡ x) × (t y ≡ true)

passed : (t : Token → Bool) (y x : Token) (b : Bool) → t y ≡ b → (if b then Some y else None) ≡ Some x → Passed t y x
passed t y x true e h = (cc, e)
passed t y x false e h = absurd (cc)

failed : (t : Token → Bool) (y : Token) (b : Bool) → t y ≡ b → (if b then Some y else None) ≡ None → t y ≡ false
failed t y true e h = absurd (cc)
failed t y false e h = e

-- where no token passes, none begins what follows
none_begins : (t : Token → Bool) (xs : List Token) → that t (head_or xs None) ≡ None
    → begins t (head_or xs None) ≡ false
none_begins t [] h = refl
none_begins t (y ∷ xs) h = failed t y (t y) refl h

module _ {A : Type 0} (t : Token → Bool) (go : Token → g A) (or : g A) where
  on_that : (x : Token) (xs : List Token) → that t (head_or xs None) ≡ Some x
      → read (Grammar.on t go or) xs ≡ read (go x) (drop 1 xs)
  on_that x [] h = absurd (cc)
  on_that x (y ∷ xs) h =
      let is = passed t y x (t y) refl h in
      goes (t y) _ _ is.1 ∙ ap (λ (z : Token). read (go z) xs) is.0

  on_none : (xs : List Token) → that t (head_or xs None) ≡ None → read (Grammar.on t go or) xs ≡ read or xs
  on_none [] h = refl
  on_none (y ∷ xs) h = stops (t y) _ _ (failed t y (t y) refl h)

module _ {A : Type 0} (t : Token → Bool) (step : A → Token → g A) where
  many_that : (a : A) (x : Token) (xs : List Token) → that t (head_or xs None) ≡ Some x
      → read (Grammar.many (λ _ x. t x) step a) xs
      ≡ chain (read (step a x) (drop 1 xs)) (λ b rest. read (Grammar.many (λ _ x. t x) step b) rest)
  many_that a x [] h = absurd (cc)
  many_that a x (y ∷ xs) h =
      let is = passed t y x (t y) refl h in
      many_go (λ _ x. t x) step a y xs is.1
      ∙ ap (λ (z : Token). chain (read (step a z) xs) (λ b rest. read (Grammar.many (λ _ x. t x) step b) rest)) is.0

  many_none : (a : A) (xs : List Token) → that t (head_or xs None) ≡ None
      → read (Grammar.many (λ _ x. t x) step a) xs ≡ Out.out (End.whole a) xs
  many_none a xs h = many_end (λ _ x. t x) step a xs (none_begins t xs h)

-- a text that begins with a token that passes has one to take
pub some_left : (t : Token → Bool) (x : Token) (xs : List Token) → that t (head_or xs None) ≡ Some x
    → length (drop 1 xs) < length xs
some_left t x [] h = absurd (cc)
some_left t x (y ∷ xs) h = omega arith

-- a part that isn't whole: reading ends there
pub round_broken : {A B : Type 0} (o : Out Token A) (p : Out Token B) (k : A → Reader Token B) (why : Stop)
    (left : List Token) → p ≡ chain o k → Stops why o left → Stops why p left
round_broken {A} o p k stop.Refused left step is = step ∙ ap (λ (o : Out Token A). chain o k) is
round_broken {A} o p k stop.BadCondition left step is = step ∙ ap (λ (o : Out Token A). chain o k) is
round_broken o p k stop.NoMemory left step is = tt

-- a stop that is passed on is that of the reading
pub passed_on : {A : Type 0} (form : g A) (xs : List Token) (r : Result A Stop) (why : Stop) (left : List Token)
    → IsErrAnd r (λ e. e ≡ why) → Stops why (read form xs) left → Reads form xs r left
passed_on form xs (Ok value) why left h ends = absurd h
passed_on form xs (Err e) why left h ends = subst (λ (e : Stop). Stops e (read form xs) left) (sym h) ends

-- ---- single tokens

pub word_go : (want : WordKind) (text : List ℕ) (x : Token) (xs : List Token)
    → that (is_word want text) (head_or xs None) ≡ Some x
    → read (word want text) xs ≡ Out.out (End.whole x) (drop 1 xs)
unfolding word
word_go want text x xs h = on_that (is_word want text) (λ x. Grammar.pure x) Grammar.refuse x xs h

pub word_stop : (want : WordKind) (text : List ℕ) (xs : List Token)
    → that (is_word want text) (head_or xs None) ≡ None → read (word want text) xs ≡ Out.out End.refused xs
unfolding word
word_stop want text xs h = on_none (is_word want text) (λ x. Grammar.pure x) Grammar.refuse xs h

pub mark_go : (kind : TokenKind) (x : Token) (xs : List Token) → that (has_kind kind) (head_or xs None) ≡ Some x
    → read (mark kind) xs ≡ Out.out (End.whole x) (drop 1 xs)
unfolding mark
mark_go kind x xs h = on_that (has_kind kind) (λ x. Grammar.pure x) Grammar.refuse x xs h

pub mark_stop : (kind : TokenKind) (xs : List Token) → that (has_kind kind) (head_or xs None) ≡ None
    → read (mark kind) xs ≡ Out.out End.refused xs
unfolding mark
mark_stop kind xs h = on_none (has_kind kind) (λ x. Grammar.pure x) Grammar.refuse xs h

-- ---- lists

pub exports_go : (file text : List ℕ) (found : Exports) (x : Token) (xs : List Token)
    → that (begins_export text) (head_or xs None) ≡ Some x
    → read (exports file text found) xs
    ≡ chain (read (export_step file text found x (space_at text x)) (drop 1 xs))
    (λ b rest. read (exports file text b) rest)
unfolding exports
exports_go file text found x xs h =
    many_that (begins_export text) (λ found x. export_step file text found x (space_at text x)) found x xs h

pub exports_end : (file text : List ℕ) (found : Exports) (xs : List Token)
    → that (begins_export text) (head_or xs None) ≡ None
    → read (exports file text found) xs ≡ Out.out (End.whole found) xs
unfolding exports
exports_end file text found xs h =
    many_none (begins_export text) (λ found x. export_step file text found x (space_at text x)) found xs h

pub members_go : (file text : List ℕ) (found : Members) (x : Token) (xs : List Token)
    → that begins_member (head_or xs None) ≡ Some x
    → read (members file text found) xs
    ≡ chain (read (member_step file text found x (is_path x)) (drop 1 xs)) (λ b rest. read (members file text b) rest)
unfolding members
members_go file text found x xs h =
    many_that begins_member (λ found x. member_step file text found x (is_path x)) found x xs h

pub members_end : (file text : List ℕ) (found : Members) (xs : List Token)
    → that begins_member (head_or xs None) ≡ None
    → read (members file text found) xs ≡ Out.out (End.whole found) xs
unfolding members
members_end file text found xs h =
    many_none begins_member (λ found x. member_step file text found x (is_path x)) found xs h

pub options_go : (text : List ℕ) (found : List (List ℕ)) (x : Token) (xs : List Token)
    → that (is_word wanted.Letters text) (head_or xs None) ≡ Some x
    → read (options text found) xs ≡ read (options text (found ++ slice_of text x ∷ [])) (drop 1 xs)
unfolding options
options_go text found x xs h =
    many_that (is_word wanted.Letters text) (λ found x. Grammar.pure (found ++ slice_of text x ∷ [])) found x xs h

pub options_end : (text : List ℕ) (found : List (List ℕ)) (xs : List Token)
    → that (is_word wanted.Letters text) (head_or xs None) ≡ None
    → read (options text found) xs ≡ Out.out (End.whole found) xs
unfolding options
options_end text found xs h =
    many_none (is_word wanted.Letters text) (λ found x. Grammar.pure (found ++ slice_of text x ∷ [])) found xs h

-- ---- what may be written

-- whether a token passes
some_that : (o : Option Token) → is_some o ≡ true → (x : Token) × (o ≡ Some x)
some_that None h = absurd (cc)
some_that (Some x) h = (x, refl)

none_that : (o : Option Token) → is_some o ≡ false → o ≡ None
none_that None h = refl
none_that (Some x) h = absurd (cc)

pub maybe_options_go : (text : List ℕ) (xs : List Token) → is_some (that (has_kind kind.Open) (head_or xs None)) ≡ true
    → read (maybe_options text) xs ≡ read (some_options text) (drop 1 xs)
unfolding maybe_options
maybe_options_go text xs h =
    let is = some_that (that (has_kind kind.Open) (head_or xs None)) h in
    on_that (has_kind kind.Open) (λ _. some_options text) (Grammar.pure []) is.0 xs is.1

pub maybe_options_none : (text : List ℕ) (xs : List Token)
    → is_some (that (has_kind kind.Open) (head_or xs None)) ≡ false
    → read (maybe_options text) xs ≡ Out.out (End.whole []) xs
unfolding maybe_options
maybe_options_none text xs h =
    on_none (has_kind kind.Open) (λ _. some_options text) (Grammar.pure []) xs
    (none_that (that (has_kind kind.Open) (head_or xs None)) h)

pub maybe_class_go : (text : List ℕ) (xs : List Token) → is_some (that (has_kind kind.Colon) (head_or xs None)) ≡ true
    → read (maybe_class text) xs ≡ read (class text) (drop 1 xs)
unfolding maybe_class
maybe_class_go text xs h =
    let is = some_that (that (has_kind kind.Colon) (head_or xs None)) h in
    on_that (has_kind kind.Colon) (λ _. class text) (Grammar.pure unclassed) is.0 xs is.1

pub maybe_class_none : (text : List ℕ) (xs : List Token)
    → is_some (that (has_kind kind.Colon) (head_or xs None)) ≡ false
    → read (maybe_class text) xs ≡ Out.out (End.whole unclassed) xs
unfolding maybe_class
maybe_class_none text xs h =
    on_none (has_kind kind.Colon) (λ _. class text) (Grammar.pure unclassed) xs
    (none_that (that (has_kind kind.Colon) (head_or xs None)) h)

pub ruleset word_steps = (word_go, word_stop)

pub ruleset mark_steps = (mark_go, mark_stop)

pub ruleset export_steps = (exports_go, exports_end, not_longer, some_left)

pub ruleset member_steps = (members_go, members_end, not_longer, some_left)

pub ruleset option_steps = (options_go, options_end, not_longer, some_left)

pub ruleset maybe_options_steps = (maybe_options_go, maybe_options_none)

pub ruleset maybe_class_steps = (maybe_class_go, maybe_class_none)
