-- How single lexemes are read: the equations that code is proved with.
use Rattle.std.proofs.Common.{◌≡◌, List, [], ◌∷◌, Option, Some, None, Bool, true, false, is_some, refl, ap, subst, ◌∙◌, drop, length, ◌<◌, arith}
use Rattle.grammars.specs.Grammar.{Grammar, End, begins, head_or}
use Rattle.grammars.specs.Reading.{Out, read, end_of, left_of}
use Rattle.grammars.proofs.Complete.{goes, stops}
use Rattle.sml_lexer.specs.declared.lexeme.Lexeme.{Lexeme}
use Rattle.std.proofs.Common.{ℕ, nat_lt, sym}
use Rattle.std.proofs.lemmas.Bool.{lt-ltb}
use Rattle.std.proofs.lemmas.Bool.Decides.{nat_tests}
use Rattle.grammars.specs.Reading.{chain}
use Rattle.grammars.proofs.Rounds.{fold_go, fold_end, not_longer}
use Rattle.phrase_reading.specs.Words.{g, is, taken, made, token}
use Rattle.phrase_reading.specs.Sized.{more, lower, further}
use Rattle.phrase_reading.specs.declared.tall.Tall.{Tall}
use Rattle.sml_lexer.specs.declared.words.Word.{Word}

pub token_go : (w : Word) (xs : List Lexeme) → begins (is w) (head_or xs None) ≡ true
    → read (token w) xs ≡ Out.out (End.whole tt) (drop 1 xs)
unfolding token
token_go w [] h = absurd (cc)
token_go w (x ∷ xs) h = goes (is w x) _ _ h

pub token_stop : (w : Word) (xs : List Lexeme) → begins (is w) (head_or xs None) ≡ false
    → read (token w) xs ≡ Out.out End.refused xs
unfolding token
token_stop w [] h = refl
token_stop w (x ∷ xs) h = stops (is w x) _ _ h

pub ruleset token_steps = (token_go, token_stop)

module _ {A B : Type 0} (what : Lexeme → Option A) (make : Lexeme → A → B) where
  pub taken_is : (x : Lexeme) (a : A) (xs : List Lexeme) → what x ≡ Some a
      → read (taken what make) (x ∷ xs) ≡ Out.out (End.whole (make x a)) xs
  unfolding taken
  taken_is x a xs fact =
      goes (is_some (what x)) _ _ (ap is_some fact) ∙ ap (λ (found : Option A). read (made (make x) found) xs) fact

  pub taken_go : (x : Lexeme) (a : A) (xs : List Lexeme) → head_or xs None ≡ Some x → what x ≡ Some a
      → read (taken what make) xs ≡ Out.out (End.whole (make x a)) (drop 1 xs)
  taken_go x a [] h fact = absurd (cc)
  taken_go x a (y ∷ xs) h fact =
      let same : x ≡ y = cc in
      subst (λ (z : Lexeme). read (taken what make) (z ∷ xs) ≡ Out.out (End.whole (make x a)) xs) same (taken_is x a xs fact)

  pub taken_none : (xs : List Lexeme) → head_or xs None ≡ None → read (taken what make) xs ≡ Out.out End.refused xs
  unfolding taken
  taken_none [] h = refl
  taken_none (x ∷ xs) h = absurd (cc)

  refused_cons : (x : Lexeme) (xs : List Lexeme) → what x ≡ None
      → read (taken what make) (x ∷ xs) ≡ Out.out End.refused (x ∷ xs)
  unfolding taken
  refused_cons x xs fact = stops (is_some (what x)) _ _ (ap is_some fact)

  pub taken_stop : (x : Lexeme) (xs : List Lexeme) → head_or xs None ≡ Some x → what x ≡ None
      → read (taken what make) xs ≡ Out.out End.refused xs
  taken_stop x [] h fact = absurd (cc)
  taken_stop x (y ∷ xs) h fact =
      let same : x ≡ y = cc in
      subst (λ (z : Lexeme). read (taken what make) (z ∷ xs) ≡ Out.out End.refused (z ∷ xs)) same (refused_cons x xs fact)

  nothing_taken : (b : B) (rest : List Lexeme) → read (taken what make) [] ≡ Out.out (End.whole b) rest → ⊥
  nothing_taken b rest h =
      let ends : End.refused ≡ End.whole b = ap end_of (sym (taken_none [] refl) ∙ h) in absurd (cc)

  one_taken : (b : B) (x : Lexeme) (xs rest : List Lexeme) (found : Option A) → what x ≡ found
      → read (taken what make) (x ∷ xs) ≡ Out.out (End.whole b) rest → length rest < length (x ∷ xs)
  one_taken b x xs rest None fact h =
      let ends : End.refused ≡ End.whole b = ap end_of (sym (refused_cons x xs fact) ∙ h) in absurd (cc)
  one_taken b x xs rest (Some a) fact h =
      let left : xs ≡ rest = ap left_of (sym (taken_is x a xs fact) ∙ h) in rw (sym left) (omega arith)

  -- A lexeme that was taken is one less.
  pub taken_shorter : (b : B) (xs rest : List Lexeme) → read (taken what make) xs ≡ Out.out (End.whole b) rest
      → length rest < length xs
  taken_shorter b [] rest h = absurd (nothing_taken b rest h)
  taken_shorter b (x ∷ xs) rest h = one_taken b x xs rest (what x) refl h

pub ruleset taken_steps = (taken_go, taken_none, taken_stop)

-- A choice whose test passes takes the lexeme.
pub on_true : {A : Type 0} (t : Lexeme → Bool) (go or : g A) (xs : List Lexeme) → begins t (head_or xs None) ≡ true
    → read (Grammar.on t (λ _. go) or) xs ≡ read go (drop 1 xs)
on_true t go or [] h = absurd (cc)
on_true t go or (x ∷ xs) h = goes (t x) _ _ h

-- What leaves a level becomes a part, and nothing else does.
pub lower_go : {A B : Type 0} (levels : ℕ) (left : Tall A) (behind : g B) (xs : List Lexeme) → left.height < levels
    → read (lower levels left behind) xs ≡ read behind xs
lower_go levels left behind xs h = goes (nat_lt left.height levels) _ _ (lt-ltb left.height levels h)

pub lower_deep : {A B : Type 0} (levels : ℕ) (left : Tall A) (behind : g B) (xs : List Lexeme) → left.height ≡ levels
    → read (lower levels left behind) xs ≡ Out.out End.deep xs
lower_deep levels left behind xs h = stops (nat_lt left.height levels) _ _ (grind (arith, nat_tests))

-- Further parts, one at a time.
pub further_go : {A : Type 0} (mark : Word) (each : g (Tall A)) (found : Tall (List A)) (xs : List Lexeme)
    → begins (is mark) (head_or xs None) ≡ true
    → read (further mark each found) xs
    ≡ chain (read each (drop 1 xs)) (λ next rest. read (further mark each (more found next)) rest)
unfolding further
further_go mark each found [] h = absurd (cc)
further_go mark each found (x ∷ xs) h = fold_go (is mark) (λ _. each) more found x xs h

pub further_end : {A : Type 0} (mark : Word) (each : g (Tall A)) (found : Tall (List A)) (xs : List Lexeme)
    → begins (is mark) (head_or xs None) ≡ false → read (further mark each found) xs ≡ Out.out (End.whole found) xs
unfolding further
further_end mark each found xs h = fold_end (is mark) (λ _. each) more found xs h

-- A text that begins with such a lexeme has one to take.
pub one_less : (t : Lexeme → Bool) (xs : List Lexeme) → begins t (head_or xs None) ≡ true → length (drop 1 xs) < length xs
one_less t [] h = absurd (cc)
one_less t (x ∷ xs) h = omega arith

-- A round of a loop that takes such a lexeme, and a phrase behind it, leaves less.
pub round_less : {A : Type 0} (t : Lexeme → Bool) (grammar : g A) (a : A) (xs rest : List Lexeme)
    → begins t (head_or xs None) ≡ true → read grammar (drop 1 xs) ≡ Out.out (End.whole a) rest → length rest < length xs
round_less t grammar a xs rest h whole =
    let less = one_less t xs h in
    let left = not_longer grammar (End.whole a) (drop 1 xs) rest whole in
    omega (arith, less, left)

pub ruleset further_steps = (further_go, further_end, not_longer, one_less)
