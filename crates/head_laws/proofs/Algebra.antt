-- Grammars that have the same phrases.
use Rattle.std.proofs.Common.{◌≡◌, ℕ, zero, suc, List, [], ◌∷◌, ◌++◌, Option, Some, None, Bool, true, false, ◌⊎◌, inl, inr, is_some, refl, sym, ap, subst, ◌∙◌}
use Rattle.std.proofs.lemmas.List.{append_assoc}
use Rattle.grammars.specs.Grammar.{Grammar, End, Ends, Phrase, Rounds, head_or, begins}
use Rattle.sml_lexer.specs.declared.lexeme.Lexeme.{Lexeme}
use Rattle.phrase_reading.specs.Names.{either, if_mark, if_taken, beginning}
use Rattle.phrase_reading.specs.Words.{g, is, made, taken, token}
use Rattle.sml_lexer.specs.declared.words.Word.{Word}

-- the same lexemes are phrases of both, with the same values
pub record Same {A : Type 0} (first second : g A) : Type 0 where
  pub to : (xs : List Lexeme) (next : Option Lexeme) (a : A) → Phrase first xs next a → Phrase second xs next a
  pub back : (xs : List Lexeme) (next : Option Lexeme) (a : A) → Phrase second xs next a → Phrase first xs next a

pub same_itself : {A : Type 0} {grammar : g A} → Same grammar grammar
same_itself = record { to = λ xs next a h. h; back = λ xs next a h. h }

pub same_sym : {A : Type 0} {first second : g A} → Same first second → Same second first
same_sym it = record { to = it.back; back = it.to }

pub same_trans : {A : Type 0} {first second third : g A} → Same first second → Same second third → Same first third
same_trans it other = record {
  to = λ xs next a h. other.to xs next a (it.to xs next a h);
  back = λ xs next a h. it.back xs next a (other.back xs next a h);
}

bind_to : {A B : Type 0} (first second : g A) (k j : A → g B)
    → ((xs : List Lexeme) (next : Option Lexeme) (a : A) → Phrase first xs next a → Phrase second xs next a)
    → ((a : A) (xs : List Lexeme) (next : Option Lexeme) (b : B) → Phrase (k a) xs next b → Phrase (j a) xs next b)
    → (xs : List Lexeme) (next : Option Lexeme) (b : B) → Phrase (Grammar.bind first k) xs next b
    → Phrase (Grammar.bind second j) xs next b
bind_to first second k j part rest xs next b (inl (a, ys, zs, split, h, r)) =
    inl (a, ys, zs, split, part ys (head_or zs next) a h, rest a zs next b r)
bind_to first second k j part rest xs next b (inr h) = absurd h

pub same_bind : {A B : Type 0} {first second : g A} {k j : A → g B} → Same first second → ((a : A) → Same (k a) (j a))
    → Same (Grammar.bind first k) (Grammar.bind second j)
same_bind {A} {B} {first} {second} {k} {j} part rest = record {
  to = bind_to first second k j part.to (λ a. (rest a).to);
  back = bind_to second first j k part.back (λ a. (rest a).back);
}

-- equal grammars
pub same_equal : {A : Type 0} {first second : g A} → first ≡ second → Same first second
same_equal {A} {first} equal = subst (λ (grammar : g A). Same first grammar) equal same_itself

on_to : {A : Type 0} (t : Lexeme → Bool) (go to : Lexeme → g A) (or than : g A)
    → ((x : Lexeme) (xs : List Lexeme) (next : Option Lexeme) (a : A) → Phrase (go x) xs next a → Phrase
    (to x) xs next a)
    → ((xs : List Lexeme) (next : Option Lexeme) (a : A) → Phrase or xs next a → Phrase than xs next a)
    → (xs : List Lexeme) (next : Option Lexeme) (a : A) → Phrase (Grammar.on t go or) xs next a
    → Phrase (Grammar.on t to than) xs next a
on_to t go to or than ways other [] next a h = (h.0, other [] next a h.1)
on_to t go to or than ways other (x ∷ xs) next a (inl h) = inl (h.0, ways x xs next a h.1)
on_to t go to or than ways other (x ∷ xs) next a (inr h) = inr (h.0, other (x ∷ xs) next a h.1)

pub same_on : {A : Type 0} {t : Lexeme → Bool} {go to : Lexeme → g A} {or than : g A} → ((x : Lexeme) → Same (go x)
    (to x))
    → Same or than → Same (Grammar.on t go or) (Grammar.on t to than)
same_on {A} {t} {go} {to} {or} {than} ways other = record {
  to = on_to t go to or than (λ x. (ways x).to) other.to;
  back = on_to t to go than or (λ x. (ways x).back) other.back;
}

-- ---- the laws of parts one after the other

-- what follows several lists
pub head_both : (xs ys : List Lexeme) (next : Option Lexeme) → head_or xs (head_or ys next) ≡ head_or (xs ++ ys) next
head_both [] ys next = refl
head_both (x ∷ xs) ys next = refl

-- a part of no lexeme
pub same_pure : {A B : Type 0} (a : A) (k : A → g B) → Same (Grammar.bind (Grammar.pure a) k) (k a)
same_pure {A} {B} a k = record { to = by_parts; back = λ xs next b h. inl (a, [], xs, refl, (refl, refl), h) }
  where
    by_parts : (xs : List Lexeme) (next : Option Lexeme) (b : B) → Phrase (Grammar.bind (Grammar.pure a) k) xs next b
        → Phrase (k a) xs next b
    by_parts xs next b (inl (c, ys, zs, split, (nil, is), r)) =
        let same : c ≡ a = cc in
        let all : zs ≡ xs = sym (split ∙ ap (λ (l : List Lexeme). l ++ zs) nil) in
        subst (λ (l : List Lexeme). Phrase (k a) l next b) all (subst (λ (c : A). Phrase (k c) zs next b) same r)
    by_parts xs next b (inr h) = absurd h

-- three parts
pub same_three : {A B C : Type 0} (first : g A) (k : A → g B) (j : B → g C)
    → Same (Grammar.bind (Grammar.bind first k) j) (Grammar.bind first (λ a. Grammar.bind (k a) j))
same_three {A} {B} {C} first k j = record { to = by_left; back = by_right }
  where
    by_left : (xs : List Lexeme) (next : Option Lexeme) (c : C)
        → Phrase (Grammar.bind (Grammar.bind first k) j) xs next c
        → Phrase (Grammar.bind first (λ a. Grammar.bind (k a) j)) xs next c
    by_left xs next c (inl (b, ys, zs, split, inl (a, us, vs, parts, p, q), r)) = inl (
      a,
      us,
      vs ++ zs,
      split ∙ ap (λ (l : List Lexeme). l ++ zs) parts ∙ append_assoc us vs zs,
      subst (λ (o : Option Lexeme). Phrase first us o a) (head_both vs zs next) p,
      inl (b, vs, zs, refl, q, r),
    )
    by_left xs next c (inl (b, ys, zs, split, inr h, r)) = absurd h
    by_left xs next c (inr h) = absurd h

    by_right : (xs : List Lexeme) (next : Option Lexeme) (c : C)
        → Phrase (Grammar.bind first (λ a. Grammar.bind (k a) j)) xs next c
        → Phrase (Grammar.bind (Grammar.bind first k) j) xs next c
    by_right xs next c (inl (a, us, ws, split, p, inl (b, vs, zs, parts, q, r))) = inl (
      b,
      us ++ vs,
      zs,
      split ∙ ap (λ (l : List Lexeme). us ++ l) parts ∙ sym (append_assoc us vs zs),
      inl (
        a,
        us,
        vs,
        refl,
        subst (λ (o : Option Lexeme). Phrase first us o a)
            (ap (λ (l : List Lexeme). head_or l next) parts ∙ sym (head_both vs zs next)) p,
        q,
      ),
      r,
    )
    by_right xs next c (inl (a, us, ws, split, p, inr h)) = absurd h
    by_right xs next c (inr h) = absurd h

-- each way of a choice before the same part
abbrev parted : {A B : Type 0} → (Lexeme → Bool) → (Lexeme → g A) → g A → (A → g B) → g B
parted t go or k = Grammar.on t (λ x. Grammar.bind (go x) k) (Grammar.bind or k)

-- a choice before the same part
pub same_choice : {A B : Type 0} (t : Lexeme → Bool) (go : Lexeme → g A) (or : g A) (k : A → g B)
    → Same (Grammar.bind (Grammar.on t go or) k) (Grammar.on t (λ x. Grammar.bind (go x) k) (Grammar.bind or k))
same_choice {A} {B} t go or k = record { to = by_parts; back = by_choice }
  where
    or_whole : (xs : List Lexeme) (next : Option Lexeme) (b : B) → begins t (head_or xs next) ≡ false
        → Phrase (Grammar.bind or k) xs next b → Phrase (parted t go or k) xs next b
    or_whole [] next b stop h = (stop, h)
    or_whole (x ∷ xs) next b stop h = inr (stop, h)

    by_parts : (xs : List Lexeme) (next : Option Lexeme) (b : B) → Phrase (Grammar.bind
        (Grammar.on t go or) k) xs next b
        → Phrase (parted t go or k) xs next b
    by_parts xs next b (inl (a, [], zs, split, h, r)) =
        or_whole xs next b (subst (λ (l : List Lexeme). begins t (head_or l next) ≡ false) (sym split) h.0)
        (inl (a, [], zs, split, h.1, r))
    by_parts xs next b (inl (a, y ∷ ys, zs, split, inl h, r)) =
        subst (λ (l : List Lexeme). Phrase (parted t go or k) l next b) (sym split) (inl (
          h.0,
          inl
              (a, ys, zs, refl, h.1, r),
        ))
    by_parts xs next b (inl (a, y ∷ ys, zs, split, inr h, r)) =
        or_whole xs next b (subst (λ (l : List Lexeme). begins t (head_or l next) ≡ false) (sym split) h.0)
        (inl (a, y ∷ ys, zs, split, h.1, r))
    by_parts xs next b (inr h) = absurd h

    or_part : (ys zs : List Lexeme) (next : Option Lexeme) (a : A) → begins t (head_or (ys ++ zs) next) ≡ false
        → Phrase or ys (head_or zs next) a → Phrase (Grammar.on t go or) ys (head_or zs next) a
    or_part [] zs next a stop p = (stop, p)
    or_part (y ∷ ys) zs next a stop p = inr (stop, p)

    by_choice : (xs : List Lexeme) (next : Option Lexeme) (b : B) → Phrase (parted t go or k) xs next b
        → Phrase (Grammar.bind (Grammar.on t go or) k) xs next b
    by_choice [] next b (stop, inl (a, ys, zs, split, p, r)) = inl (
      a,
      ys,
      zs,
      split,
      or_part ys zs next a (subst (λ (l : List Lexeme). begins t (head_or l next) ≡ false) split stop) p,
      r,
    )
    by_choice [] next b (stop, inr h) = absurd h
    by_choice (x ∷ xs) next b (inl (goes, inl (a, ys, zs, split, p, r))) =
        inl (a, x ∷ ys, zs, ap (λ (l : List Lexeme). x ∷ l) split, inl (goes, p), r)
    by_choice (x ∷ xs) next b (inl (goes, inr h)) = absurd h
    by_choice (x ∷ xs) next b (inr (stop, inl (a, ys, zs, split, p, r))) = inl (
      a,
      ys,
      zs,
      split,
      or_part ys zs next a (subst (λ (l : List Lexeme). begins t (head_or l next) ≡ false) split stop) p,
      r,
    )
    by_choice (x ∷ xs) next b (inr (stop, inr h)) = absurd h

-- a limit before a part
pub same_limit : {A B : Type 0} (ok : Bool) (first : g A) (k : A → g B)
    → Same (Grammar.bind (Grammar.within ok first) k) (Grammar.within ok (Grammar.bind first k))
same_limit {A} {B} ok first k = record { to = by_parts; back = by_limit }
  where
    by_parts : (xs : List Lexeme) (next : Option Lexeme) (b : B)
        → Phrase (Grammar.bind (Grammar.within ok first) k) xs next b
        → Phrase (Grammar.within ok (Grammar.bind first k)) xs next b
    by_parts xs next b (inl (a, ys, zs, split, inl h, r)) = inl (h.0, inl (a, ys, zs, split, h.1, r))
    by_parts xs next b (inl (a, ys, zs, split, inr h, r)) = let never : End.whole a ≡ End.deep = h.2 in absurd (cc)
    by_parts xs next b (inr h) = absurd h

    by_limit : (xs : List Lexeme) (next : Option Lexeme) (b : B)
        → Phrase (Grammar.within ok (Grammar.bind first k)) xs next b
        → Phrase (Grammar.bind (Grammar.within ok first) k) xs next b
    by_limit xs next b (inl (room, inl (a, ys, zs, split, p, r))) = inl (a, ys, zs, split, inl (room, p), r)
    by_limit xs next b (inl (room, inr h)) = absurd h
    by_limit xs next b (inr h) = let never : End.whole b ≡ End.deep = h.2 in absurd (cc)

-- a limit that allows it
pub same_room : {A : Type 0} (ok : Bool) (grammar : g A) → ok ≡ true → Same (Grammar.within ok grammar) grammar
same_room {A} ok grammar room = record { to = by_limit; back = λ xs next a h. inl (room, h) }
  where
    by_limit : (xs : List Lexeme) (next : Option Lexeme) (a : A) → Phrase (Grammar.within ok grammar) xs next a
        → Phrase grammar xs next a
    by_limit xs next a (inl h) = h.1
    by_limit xs next a (inr h) = let never : End.whole a ≡ End.deep = h.2 in absurd (cc)

-- nothing before a part
pub same_refused : {A B : Type 0} (k : A → g B) → Same (Grammar.bind Grammar.refuse k) Grammar.refuse
same_refused {A} {B} k = record { to = by_parts; back = λ xs next b h. nothing xs b h }
  where
    by_parts : (xs : List Lexeme) (next : Option Lexeme) (b : B) → Phrase (Grammar.bind Grammar.refuse k) xs next b
        → Phrase (Grammar.refuse {A = B}) xs next b
    by_parts xs next b (inl (a, ys, zs, split, h, r)) = let never : End.whole a ≡ End.refused = h.1 in absurd (cc)
    by_parts xs next b (inr h) = absurd h

    nothing : {C : Type 0} (xs : List Lexeme) (b : B) → (xs ≡ []) × (End.whole b ≡ End.refused) → C
    nothing xs b h = let never : End.whole b ≡ End.refused = h.1 in absurd (cc)

-- a round and then more, or none
abbrev unrolled : {A : Type 0} → (A → Lexeme → Bool) → (A → Lexeme → g A) → A → g A
unrolled t step a = Grammar.on (t a) (λ x. Grammar.bind (step a x) (λ b. Grammar.many t step b)) (Grammar.pure a)

-- rounds: one and then more, or none
pub same_many : {A : Type 0} (t : A → Lexeme → Bool) (step : A → Lexeme → g A) (a : A)
    → Same (Grammar.many t step a)
    (Grammar.on (t a) (λ x. Grammar.bind (step a x) (λ b. Grammar.many t step b)) (Grammar.pure a))
same_many {A} t step a = record { to = λ xs next b h. by_rounds h.0 xs next b h.1; back = by_choice }
  where
    by_rounds : (n : ℕ) (xs : List Lexeme) (next : Option Lexeme) (b : A)
        → Rounds t (λ a x. Ends (step a x)) n a (End.whole b) xs next → Phrase (unrolled t step a) xs next b
    by_rounds zero [] next b h = (h.0, (h.1, h.2))
    by_rounds zero (x ∷ xs) next b h = let never : x ∷ xs ≡ [] = h.1 in absurd (cc)
    by_rounds (suc n) [] next b h = absurd h
    by_rounds (suc n) (x ∷ xs) next b (goes, inl (c, ys, zs, split, q, r)) =
        inl (goes, inl (c, ys, zs, split, q, (n, r)))
    by_rounds (suc n) (x ∷ xs) next b (goes, inr h) = absurd h

    by_choice : (xs : List Lexeme) (next : Option Lexeme) (b : A) → Phrase (unrolled t step a) xs next b
        → Phrase (Grammar.many t step a) xs next b
    by_choice [] next b h = (zero, (h.0, h.1.0, h.1.1))
    by_choice (x ∷ xs) next b (inl (goes, inl (c, ys, zs, split, q, r))) =
        (suc r.0, (goes, inl (c, ys, zs, split, q, r.1)))
    by_choice (x ∷ xs) next b (inl (goes, inr h)) = absurd h
    by_choice (x ∷ xs) next b (inr h) = let never : x ∷ xs ≡ [] = h.1.0 in absurd (cc)

-- ---- by the next lexeme

module _ {A : Type 0} (t : Lexeme → Bool) (go : Lexeme → g A) (or : g A) where
  pub on_yes : (x : Lexeme) (xs : List Lexeme) (next : Option Lexeme) (a : A) → t x ≡ true
      → Phrase (Grammar.on t go or) (x ∷ xs) next a → Phrase (go x) xs next a
  on_yes x xs next a goes (inl h) = h.1
  on_yes x xs next a goes (inr h) = absurd (cc (h.0))

  pub on_no : (xs : List Lexeme) (next : Option Lexeme) (a : A) → begins t (head_or xs next) ≡ false
      → Phrase (Grammar.on t go or) xs next a → Phrase or xs next a
  on_no [] next a stop h = h.1
  on_no (x ∷ xs) next a stop (inl h) = absurd (cc (h.0))
  on_no (x ∷ xs) next a stop (inr h) = h.1

  pub on_or : (xs : List Lexeme) (next : Option Lexeme) (a : A) → begins t (head_or xs next) ≡ false
      → Phrase or xs next a → Phrase (Grammar.on t go or) xs next a
  on_or [] next a stop h = (stop, h)
  on_or (x ∷ xs) next a stop h = inr (stop, h)

-- ---- a lexeme of which something is known

-- such a lexeme, and what holds of it and of the rest
pub record Took {A : Type 0} (what : Lexeme → Option A) (xs : List Lexeme) (Q : Lexeme → A → List Lexeme
    → Type 0) : Type 0 where
  pub first : Lexeme
  pub found : A
  pub rest : List Lexeme
  pub written : xs ≡ first ∷ rest
  pub is : what first ≡ Some found
  pub then_so : Q first found rest

made_in : {A B C : Type 0} (make : A → B) (go : B → g C) (found : Option A) (xs : List Lexeme)
    (next : Option Lexeme) (c : C)
    → Phrase (Grammar.bind (made make found) go) xs next c → (a : A) × (found ≡ Some a) × Phrase (go (make a)) xs next c
made_in make go None xs next c h =
    let never = (same_refused go).to xs next c h in let no : End.whole c ≡ End.refused = never.1 in absurd (cc)
made_in make go (Some a) xs next c h = (a, refl, (same_pure (make a) go).to xs next c h)

made_of : {A B C : Type 0} (make : A → B) (go : B → g C) (found : Option A) (a : A) (xs : List Lexeme)
    (next : Option Lexeme) (c : C) → found ≡ Some a → Phrase (go (make a)) xs next c
    → Phrase (Grammar.bind (made make found) go) xs next c
made_of make go None a xs next c is h = absurd (cc)
made_of {A} {B} {C} make go (Some b) a xs next c is h =
    let same : a ≡ b = cc in
    (same_pure (make b) go).back xs next c (subst (λ (a : A). Phrase (go (make a)) xs next c) same h)

is_one : {A : Type 0} (found : Option A) (a : A) → found ≡ Some a → is_some found ≡ true
is_one found a is = ap is_some is

module _ {A B C : Type 0} (what : Lexeme → Option A) (make : Lexeme → A → B) (go : B → g C) (or : g C) where
  pub if_taken_in : (xs : List Lexeme) (next : Option Lexeme) (c : C) → Phrase (if_taken what make go or) xs next c
      → Took what xs (λ x a rest. Phrase (go (make x a)) rest next c)
      ⊎ ((begins (λ x. is_some (what x)) (head_or xs next) ≡ false) × Phrase or xs next c)
  unfolding if_taken
  if_taken_in [] next c h = inr (h.0, h.1)
  if_taken_in (x ∷ xs) next c (inl h) =
      let found = made_in (make x) go (what x) xs next c h.1 in
      inl (record { first = x; found = found.0; rest = xs; written = refl; is = found.1; then_so = found.2 })
  if_taken_in (x ∷ xs) next c (inr h) = inr (h.0, h.1)

  pub if_taken_of : (x : Lexeme) (a : A) (rest : List Lexeme) (next : Option Lexeme) (c : C) → what x ≡ Some a
      → Phrase (go (make x a)) rest next c → Phrase (if_taken what make go or) (x ∷ rest) next c
  unfolding if_taken
  if_taken_of x a rest next c is h =
      inl (is_one (what x) a is, made_of (make x) go (what x) a rest next c is h)

  pub if_taken_or : (xs : List Lexeme) (next : Option Lexeme) (c : C)
      → begins (λ x. is_some (what x)) (head_or xs next) ≡ false → Phrase or xs next c
      → Phrase (if_taken what make go or) xs next c
  unfolding if_taken
  if_taken_or xs next c stop h =
      on_or (λ x. is_some (what x)) (λ x. Grammar.bind (made (make x) (what x)) go) or xs next c stop h

  pub taken_in : (xs : List Lexeme) (next : Option Lexeme) (c : C) → Phrase (Grammar.bind
      (taken what make) go) xs next c
      → Took what xs (λ x a rest. Phrase (go (make x a)) rest next c)
  unfolding taken
  taken_in xs next c h =
      by_choice xs ((same_choice (λ x. is_some (what x)) (λ x. made (make x)
      (what x)) Grammar.refuse go).to xs next c h)
    where
      never : {D : Type 0} (xs : List Lexeme) → Phrase (Grammar.bind (Grammar.refuse {A = B}) go) xs next c → D
      never xs h =
          let none = (same_refused go).to xs next c h in let no : End.whole c ≡ End.refused = none.1 in absurd (cc)

      by_choice : (xs : List Lexeme)
          → Phrase (Grammar.on (λ x. is_some (what x)) (λ x. Grammar.bind (made (make x) (what x)) go)
          (Grammar.bind Grammar.refuse go)) xs next c
          → Took what xs (λ x a rest. Phrase (go (make x a)) rest next c)
      by_choice [] h = never [] h.1
      by_choice (x ∷ xs) (inl h) =
          let found = made_in (make x) go (what x) xs next c h.1 in
          record { first = x; found = found.0; rest = xs; written = refl; is = found.1; then_so = found.2 }
      by_choice (x ∷ xs) (inr h) = never (x ∷ xs) h.1

  pub taken_of : (x : Lexeme) (a : A) (rest : List Lexeme) (next : Option Lexeme) (c : C) → what x ≡ Some a
      → Phrase (go (make x a)) rest next c → Phrase (Grammar.bind (taken what make) go) (x ∷ rest) next c
  unfolding taken
  taken_of x a rest next c is h =
      (same_choice (λ x. is_some (what x)) (λ x. made (make x) (what x)) Grammar.refuse go).back (x ∷ rest) next c
      (inl (is_one (what x) a is, made_of (make x) go (what x) a rest next c is h))

-- ---- a lexeme that begins a phrase, and marks

-- such a lexeme, and what holds of it and of the rest
pub record Began (t : Lexeme → Bool) (xs : List Lexeme) (Q : Lexeme → List Lexeme → Type 0) : Type 0 where
  pub first : Lexeme
  pub rest : List Lexeme
  pub written : xs ≡ first ∷ rest
  pub is : t first ≡ true
  pub then_so : Q first rest

module _ {C : Type 0} (t : Lexeme → Bool) (go : Lexeme → g C) where
  pub same_begun : Same (Grammar.bind (beginning t) go) (Grammar.on t go Grammar.refuse)
  unfolding beginning
  same_begun =
      same_trans (same_choice t (λ x. Grammar.pure x) Grammar.refuse go)
      (same_on (λ x. same_pure x go) (same_refused go))

  pub began : (xs : List Lexeme) (next : Option Lexeme) (c : C) → Phrase (Grammar.on t go Grammar.refuse) xs next c
      → Began t xs (λ x rest. Phrase (go x) rest next c)
  began [] next c h = let no : End.whole c ≡ End.refused = h.1.1 in absurd (cc)
  began (x ∷ xs) next c (inl h) = record { first = x; rest = xs; written = refl; is = h.0; then_so = h.1 }
  began (x ∷ xs) next c (inr h) = let no : End.whole c ≡ End.refused = h.1.1 in absurd (cc)

  pub begun_in : (xs : List Lexeme) (next : Option Lexeme) (c : C) → Phrase (Grammar.bind (beginning t) go) xs next c
      → Began t xs (λ x rest. Phrase (go x) rest next c)
  begun_in xs next c h = began xs next c (same_begun.to xs next c h)

  pub begun_of : (x : Lexeme) (rest : List Lexeme) (next : Option Lexeme) (c : C) → t x ≡ true
      → Phrase (go x) rest next c → Phrase (Grammar.bind (beginning t) go) (x ∷ rest) next c
  begun_of x rest next c is h = same_begun.back (x ∷ rest) next c (inl (is, h))

module _ {C : Type 0} (mark : Word) (go : g C) where
  pub same_token : Same (Grammar.bind (token mark) (λ _. go)) (Grammar.on (is mark) (λ _. go) Grammar.refuse)
  unfolding token
  same_token =
      same_trans (same_choice (is mark) (λ _. Grammar.pure tt) Grammar.refuse (λ _. go))
      (same_on (λ x. same_pure tt (λ _. go)) (same_refused (λ _. go)))

pub if_mark_in : {C : Type 0} (mark : Word) (go or : g C) (xs : List Lexeme) (next : Option Lexeme) (c : C)
    → Phrase (if_mark mark go or) xs next c
    → Began (is mark) xs (λ _ rest. Phrase go rest next c) ⊎ ((begins (is mark) (head_or xs next) ≡ false)
    × Phrase or xs next c)
unfolding if_mark
if_mark_in mark go or [] next c h = inr (h.0, h.1)
if_mark_in mark go or (x ∷ xs) next c (inl h) =
    inl (record { first = x; rest = xs; written = refl; is = h.0; then_so = h.1 })
if_mark_in mark go or (x ∷ xs) next c (inr h) = inr (h.0, h.1)

pub if_mark_of : {C : Type 0} (mark : Word) (go or : g C) (x : Lexeme) (rest : List Lexeme) (next : Option Lexeme)
    (c : C)
    → is mark x ≡ true → Phrase go rest next c → Phrase (if_mark mark go or) (x ∷ rest) next c
unfolding if_mark
if_mark_of mark go or x rest next c marked h = inl (marked, h)

pub if_mark_or : {C : Type 0} (mark : Word) (go or : g C) (xs : List Lexeme) (next : Option Lexeme) (c : C)
    → begins (is mark) (head_or xs next) ≡ false → Phrase or xs next c → Phrase (if_mark mark go or) xs next c
unfolding if_mark
if_mark_or mark go or xs next c stop h = on_or (is mark) (λ _. go) or xs next c stop h

-- one of two, by a test
pub either_in : {C : Type 0} (test : Bool) (go or : g C) (xs : List Lexeme) (next : Option Lexeme) (c : C)
    → Phrase (either test go or) xs next c
    → ((test ≡ true) × Phrase go xs next c) ⊎ ((test ≡ false) × Phrase or xs next c)
either_in true go or xs next c h = inl (refl, h)
either_in false go or xs next c h = inr (refl, h)

pub either_of : {C : Type 0} (test : Bool) (go or : g C) (xs : List Lexeme) (next : Option Lexeme) (c : C) → test ≡ true
    → Phrase go xs next c → Phrase (either test go or) xs next c
either_of true go or xs next c is h = h
either_of false go or xs next c is h = absurd (cc)

-- nothing is a phrase where all is refused
pub never_refused : {C D : Type 0} (xs : List Lexeme) (next : Option Lexeme) (c : C)
    → Phrase (Grammar.refuse {A = C}) xs next c → D
never_refused xs next c h = let no : End.whole c ≡ End.refused = h.1 in absurd (cc)

pub same_within : {A : Type 0} {ok : Bool} {first second : g A} → Same first second
    → Same (Grammar.within ok first) (Grammar.within ok second)
same_within {A} {ok} {first} {second} it = record {
  to = λ xs next a h. limited ok first second it.to xs next a h;
  back = λ xs next a h. limited ok second first it.back xs next a h;
}
  where
    limited : (ok : Bool) (first second : g A)
        → ((xs : List Lexeme) (next : Option Lexeme) (a : A) → Phrase first xs next a → Phrase second xs next a)
        → (xs : List Lexeme) (next : Option Lexeme) (a : A) → Phrase (Grammar.within ok first) xs next a
        → Phrase (Grammar.within ok second) xs next a
    limited ok first second go xs next a (inl h) = inl (h.0, go xs next a h.1)
    limited ok first second go xs next a (inr h) = inr h

-- what a limit allows
pub within_in : {C : Type 0} (ok : Bool) (grammar : g C) (xs : List Lexeme) (next : Option Lexeme) (c : C)
    → Phrase (Grammar.within ok grammar) xs next c → (ok ≡ true) × Phrase grammar xs next c
within_in ok grammar xs next c (inl h) = h
within_in {C} ok grammar xs next c (inr h) = let never : End.whole c ≡ End.deep = h.2 in absurd (cc)

-- .. of a grammar that is a choice, or a limit
pub same_yes : {A : Type 0} {grammar : g A} {t : Lexeme → Bool} {go : Lexeme → g A} {or : g A}
    → Same grammar (Grammar.on t go or) → (x : Lexeme) (xs : List Lexeme) (next : Option Lexeme) (a : A) → t x ≡ true
    → Phrase grammar (x ∷ xs) next a → Phrase (go x) xs next a
same_yes {A} {grammar} {t} {go} {or} it x xs next a goes h = on_yes t go or x xs next a goes (it.to (x ∷ xs) next a h)

pub same_no : {A : Type 0} {grammar : g A} {t : Lexeme → Bool} {go : Lexeme → g A} {or : g A}
    → Same grammar (Grammar.on t go or) → (xs : List Lexeme) (next : Option Lexeme) (a : A)
    → begins t (head_or xs next) ≡ false → Phrase grammar xs next a → Phrase or xs next a
same_no {A} {grammar} {t} {go} {or} it xs next a stop h = on_no t go or xs next a stop (it.to xs next a h)

pub same_or : {A : Type 0} {grammar : g A} {t : Lexeme → Bool} {go : Lexeme → g A} {or : g A}
    → Same grammar (Grammar.on t go or) → (xs : List Lexeme) (next : Option Lexeme) (a : A)
    → begins t (head_or xs next) ≡ false → Phrase or xs next a → Phrase grammar xs next a
same_or {A} {grammar} {t} {go} {or} it xs next a stop h = it.back xs next a (on_or t go or xs next a stop h)

pub same_began : {A : Type 0} {grammar : g A} {t : Lexeme → Bool} {go : Lexeme → g A}
    → Same grammar (Grammar.on t go Grammar.refuse) → (xs : List Lexeme) (next : Option Lexeme) (a : A)
    → Phrase grammar xs next a → Began t xs (λ x rest. Phrase (go x) rest next a)
same_began {A} {grammar} {t} {go} it xs next a h = began t go xs next a (it.to xs next a h)

pub same_low : {A : Type 0} {grammar : g A} {ok : Bool} {inner : g A} → Same grammar (Grammar.within ok inner)
    → (xs : List Lexeme) (next : Option Lexeme) (a : A) → Phrase grammar xs next a → (ok ≡ true)
    × Phrase inner xs next a
same_low {A} {grammar} {ok} {inner} it xs next a h = within_in ok inner xs next a (it.to xs next a h)

-- no rounds where none begins
pub many_none : {A : Type 0} (t : A → Lexeme → Bool) (step : A → Lexeme → g A) (a : A) (xs : List Lexeme)
    (next : Option Lexeme) (b : A) → begins (t a) (head_or xs next) ≡ false → Phrase (Grammar.many t step a) xs next b
    → (xs ≡ []) × (b ≡ a)
many_none t step a xs next b stop h =
    let none = on_no (t a) (λ x. Grammar.bind (step a x) (λ b. Grammar.many t step b)) (Grammar.pure a) xs next b stop
    ((same_many t step a).to xs next b h) in
    let ends : End.whole b ≡ End.whole a = none.1 in (none.0, cc)

-- two lists of which nothing is left
pub no_parts : (ys zs : List Lexeme) → [] ≡ ys ++ zs → zs ≡ []
no_parts [] zs h = sym h
no_parts (y ∷ ys) zs h = absurd (cc)
