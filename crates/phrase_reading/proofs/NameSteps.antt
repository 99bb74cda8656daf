-- How names and the parts that productions share are read, a step at a time.
use Rattle.std.proofs.Common.{◌≡◌, ◌∷◌, [], List, Option, Some, None, Bool, true, false, is_some, refl, ap, ◌∙◌, sym, drop, length, ◌<◌, arith}
use Rattle.grammars.specs.Grammar.{Grammar, End, begins, head_or}
use Rattle.grammars.specs.Reading.{Out, chain, read}
use Rattle.grammars.proofs.Complete.{goes, stops}
use Rattle.grammars.proofs.Rounds.{fold_go, fold_end, not_longer}
use Rattle.sml_lexer.specs.declared.lexeme.Lexeme.{Lexeme}
use Rattle.sml_trees.specs.declared.name.Name.{Name}
use Rattle.phrase_reading.specs.Words.{g, is, made, taken, tyvar}
use Rattle.phrase_reading.specs.Sized.{part, maybe}
use Rattle.phrase_reading.specs.Names.{if_mark, if_marked, marked, if_taken, and_one, taken_from, tyvars_from, beginning}
use Rattle.phrase_reading.specs.declared.tall.Tall.{Tall}
use Rattle.sml_lexer.specs.declared.words.Word.{Word}
use Rattle.sml_lexer.specs.declared.words.Word.TheVariants as w

-- a text that begins with a lexeme has one to take
pub some_left : (t : Lexeme → Bool) (xs : List Lexeme) → begins t (head_or xs None) ≡ true
    → length (drop 1 xs) < length xs
some_left t [] h = absurd (cc)
some_left t (x ∷ xs) h = omega arith

pub if_mark_go : {A : Type 0} (mark : Word) (go or : g A) (xs : List Lexeme)
    → begins (is mark) (head_or xs None) ≡ true → read (if_mark mark go or) xs ≡ read go (drop 1 xs)
unfolding if_mark
if_mark_go mark go or [] h = absurd (cc)
if_mark_go mark go or (x ∷ xs) h = goes (is mark x) _ _ h

pub if_mark_stop : {A : Type 0} (mark : Word) (go or : g A) (xs : List Lexeme)
    → begins (is mark) (head_or xs None) ≡ false → read (if_mark mark go or) xs ≡ read or xs
unfolding if_mark
if_mark_stop mark go or [] h = refl
if_mark_stop mark go or (x ∷ xs) h = stops (is mark x) _ _ h

pub ruleset mark_steps = (if_mark_go, if_mark_stop)

module _ {A B : Type 0} (what : Lexeme → Option A) (make : Lexeme → A → B) where
  pub if_taken_go : {C : Type 0} (go : B → g C) (or : g C) (xs : List Lexeme)
      → begins (λ x. is_some (what x)) (head_or xs None) ≡ true
      → read (if_taken what make go or) xs ≡ chain (read (taken what make) xs) (λ b rest. read (go b) rest)
  unfolding if_taken taken
  if_taken_go go or [] h = absurd (cc)
  if_taken_go go or (x ∷ xs) h =
      goes (is_some (what x)) _ _ h
      ∙ ap (λ (o : Out Lexeme B). chain o (λ b rest. read (go b) rest))
      (sym (goes (is_some (what x)) (read (made (make x) (what x)) xs) (Out.out End.refused (x ∷ xs)) h))

  pub if_taken_stop : {C : Type 0} (go : B → g C) (or : g C) (xs : List Lexeme)
      → begins (λ x. is_some (what x)) (head_or xs None) ≡ false → read (if_taken what make go or) xs ≡ read or xs
  unfolding if_taken
  if_taken_stop go or [] h = refl
  if_taken_stop go or (x ∷ xs) h = stops (is_some (what x)) _ _ h

  pub taken_from_go : (found : List B) (xs : List Lexeme) → begins (λ x. is_some (what x)) (head_or xs None) ≡ true
      → read (taken_from what make found) xs
      ≡ chain (read (taken what make) xs) (λ b rest. read (taken_from what make (and_one found b)) rest)
  unfolding taken_from taken
  taken_from_go found [] h = absurd (cc)
  taken_from_go found (x ∷ xs) h =
      fold_go (λ x. is_some (what x)) (λ x. made (make x) (what x)) and_one found x xs h
      ∙ ap (λ (o : Out Lexeme B). chain o (λ b rest. read (taken_from what make (and_one found b)) rest))
      (sym (goes (is_some (what x)) (read (made (make x) (what x)) xs) (Out.out End.refused (x ∷ xs)) h))

  pub taken_from_end : (found : List B) (xs : List Lexeme) → begins (λ x. is_some (what x)) (head_or xs None) ≡ false
      → read (taken_from what make found) xs ≡ Out.out (End.whole found) xs
  unfolding taken_from
  taken_from_end found xs h = fold_end (λ x. is_some (what x)) (λ x. made (make x) (what x)) and_one found xs h

  -- a lexeme of which it is known is taken
  pub taken_shorter : (xs rest : List Lexeme) (b : B) → begins (λ x. is_some (what x)) (head_or xs None) ≡ true
      → read (taken what make) xs ≡ Out.out (End.whole b) rest → length rest < length xs
  unfolding taken
  taken_shorter [] rest b h is = absurd (cc)
  taken_shorter (x ∷ xs) rest b h is =
      let le = not_longer (made (make x) (what x)) (End.whole b) xs rest
      (sym (goes (is_some (what x)) (read (made (make x) (what x)) xs) (Out.out End.refused (x ∷ xs)) h) ∙ is) in
      omega (arith, le)

pub ruleset if_taken_steps = (if_taken_go, if_taken_stop)

pub ruleset taken_from_steps = (taken_from_go, taken_from_end, taken_shorter)

pub tyvars_go : (found : List Name) (xs : List Lexeme) → begins (is w.Comma) (head_or xs None) ≡ true
    → read (tyvars_from found) xs ≡ chain (read tyvar (drop 1 xs)) (λ b rest. read (tyvars_from (and_one found b)) rest)
unfolding tyvars_from
tyvars_go found [] h = absurd (cc)
tyvars_go found (x ∷ xs) h = fold_go (is w.Comma) (λ _. tyvar) and_one found x xs h

pub tyvars_end : (found : List Name) (xs : List Lexeme) → begins (is w.Comma) (head_or xs None) ≡ false
    → read (tyvars_from found) xs ≡ Out.out (End.whole found) xs
unfolding tyvars_from
tyvars_end found xs h = fold_end (is w.Comma) (λ _. tyvar) and_one found xs h

pub ruleset tyvars_steps = (tyvars_go, tyvars_end, not_longer, some_left)

pub marked_go : {A : Type 0} (mark : Word) (go : Lexeme → g A) (or : g A) (x : Lexeme) (xs : List Lexeme)
    → marked mark (head_or xs None) ≡ Some x → read (if_marked mark go or) xs ≡ read (go x) (drop 1 xs)
unfolding if_marked
marked_go mark go or x [] h = absurd (cc)
marked_go {A} mark go or x (y ∷ xs) h = by_test (is mark y) refl h
  where
    by_test : (b : Bool) → is mark y ≡ b → marked mark (Some y) ≡ Some x
        → read (Grammar.on (is mark) go or) (y ∷ xs) ≡ read (go x) xs
    by_test true fact h = let same : y ≡ x = cc in goes (is mark y) _ _ fact ∙ ap (λ (z : Lexeme). read (go z) xs) same
    by_test false fact h = absurd (cc)

pub marked_stop : {A : Type 0} (mark : Word) (go : Lexeme → g A) (or : g A) (xs : List Lexeme)
    → marked mark (head_or xs None) ≡ None → read (if_marked mark go or) xs ≡ read or xs
unfolding if_marked
marked_stop mark go or [] h = refl
marked_stop {A} mark go or (y ∷ xs) h = by_test (is mark y) refl h
  where
    by_test : (b : Bool) → is mark y ≡ b → marked mark (Some y) ≡ None
        → read (Grammar.on (is mark) go or) (y ∷ xs) ≡ read or (y ∷ xs)
    by_test true fact h = absurd (cc)
    by_test false fact h = stops (is mark y) _ _ fact

pub ruleset marked_steps = (marked_go, marked_stop)

pub maybe_go : {A : Type 0} (mark : Word) (each : g (Tall A)) (xs : List Lexeme) → begins (is mark) (head_or xs None) ≡ true
    → read (maybe mark each) xs
    ≡ chain (read each (drop 1 xs)) (λ found rest. Out.out (End.whole (part (λ (tree : A). Some tree) found)) rest)
unfolding maybe
maybe_go mark each [] h = absurd (cc)
maybe_go mark each (x ∷ xs) h = goes (is mark x) _ _ h

pub maybe_end : {A : Type 0} (mark : Word) (each : g (Tall A)) (xs : List Lexeme) → begins (is mark) (head_or xs None) ≡ false
    → read (maybe mark each) xs ≡ Out.out (End.whole (record { tree = None; height = 0 })) xs
unfolding maybe
maybe_end mark each [] h = refl
maybe_end mark each (x ∷ xs) h = stops (is mark x) _ _ h

pub ruleset maybe_steps = (maybe_go, maybe_end)

-- ---- first lexemes

-- A lexeme that may begin a phrase is taken.
pub first_go : (t : Lexeme → Bool) (x : Lexeme) (xs : List Lexeme) → head_or xs None ≡ Some x → t x ≡ true
    → read (beginning t) xs ≡ Out.out (End.whole x) (drop 1 xs)
unfolding beginning
first_go t x [] h is = absurd (cc)
first_go t x (y ∷ xs) h is = let same : y ≡ x = cc in rw same (goes (t x) _ _ is)

-- Nothing begins where no lexeme is left.
pub first_none : (t : Lexeme → Bool) (xs : List Lexeme) → head_or xs None ≡ None
    → read (beginning t) xs ≡ Out.out End.refused xs
unfolding beginning
first_none t [] h = refl
first_none t (x ∷ xs) h = absurd (cc)

-- Another lexeme begins nothing.
pub first_stop : (t : Lexeme → Bool) (x : Lexeme) (xs : List Lexeme) → head_or xs None ≡ Some x → t x ≡ false
    → read (beginning t) xs ≡ Out.out End.refused xs
unfolding beginning
first_stop t x [] h is = absurd (cc)
first_stop t x (y ∷ xs) h is = let same : y ≡ x = cc in rw same (stops (t x) _ _ is)

pub ruleset first_steps = (first_go, first_none, first_stop)

-- A lexeme that stands next leaves fewer lexemes behind it.
pub some_next : (x : Lexeme) (xs : List Lexeme) → head_or xs None ≡ Some x → length (drop 1 xs) < length xs
some_next x [] h = absurd (cc)
some_next x (y ∷ xs) h = omega arith
