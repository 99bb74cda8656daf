-- What one grammar takes another takes too, with the same value, form by form.
use Rattle.std.proofs.Common.{◌≡◌, ℕ, zero, suc, ◌+◌, ◌≤◌, ◌<◌, List, [], ◌∷◌, Option, Bool, true, false, ◌⊎◌, inl, inr, nat_lt, max, arith, rules}
use Rattle.grammars.specs.Grammar.{Grammar, End, Ends, Phrase, Rounds, head_or}
use Rattle.grammars.specs.Laws.{Gives}
use Rattle.grammars.proofs.Values.{gives_pure, gives_refuse, gives_bind, gives_on, gives_within, gives_many}
use Rattle.sml_lexer.specs.declared.lexeme.Lexeme.{Lexeme}
use Rattle.phrase_reading.specs.Sized.{more, further, maybe}
use Rattle.phrase_reading.specs.Words.{g, is, made}
use Rattle.phrase_reading.specs.declared.tall.Tall.{Tall}
use Rattle.sml_lexer.specs.declared.words.Word.{Word}

-- ---- what holds of all values of a grammar

-- each phrase of the grammar has a value of which this holds
pub record Keeps {A : Type 0} (grammar : g A) (P : A → Type 0) : Type 0 where
  pub gives : Gives grammar P

pub keep_pure : {A : Type 0} {P : A → Type 0} (a : A) → P a → Keeps (Grammar.pure a) P
keep_pure {A} {P} a p = record { gives = gives_pure a P p }

pub keep_refuse : {A : Type 0} {P : A → Type 0} → Keeps (Grammar.refuse {A = A}) P
keep_refuse {A} {P} = record { gives = gives_refuse P }

pub keep_bind : {A B : Type 0} {grammar : g A} {k : A → g B} {P : A → Type 0} {Q : B → Type 0} → Keeps grammar P
    → ((a : A) → P a → Keeps (k a) Q) → Keeps (Grammar.bind grammar k) Q
keep_bind {A} {B} {grammar} {k} {P} {Q} first next =
    record { gives = gives_bind grammar k P Q first.gives (λ a p. (next a p).gives) }

-- behind a part of which nothing is asked
pub keep_then : {A B : Type 0} {grammar : g A} {k : A → g B} {Q : B → Type 0} → ((a : A) → Keeps (k a) Q)
    → Keeps (Grammar.bind grammar k) Q
keep_then {A} {B} {grammar} {k} {Q} next =
    record { gives = gives_bind grammar k (λ _. Unit {0}) Q (λ xs after a h. tt) (λ a _. (next a).gives) }

pub keep_on : {A : Type 0} {t : Lexeme → Bool} {go : Lexeme → g A} {or : g A} {P : A → Type 0}
    → ((x : Lexeme) → Keeps (go x) P) → Keeps or P → Keeps (Grammar.on t go or) P
keep_on {A} {t} {go} {or} {P} first second = record { gives = gives_on t go or P (λ x _. (first x).gives) second.gives }

pub keep_within : {A : Type 0} {ok : Bool} {grammar : g A} {P : A → Type 0} → (ok ≡ true → Keeps grammar P)
    → Keeps (Grammar.within ok grammar) P
keep_within {A} {ok} {grammar} {P} some = record { gives = gives_within ok grammar P (λ h. (some h).gives) }

pub keep_many : {A : Type 0} {t : A → Lexeme → Bool} {step : A → Lexeme → g A} {P : A → Type 0}
    → ((a : A) (x : Lexeme) → P a → Keeps (step a x) P) → (a : A) → P a → Keeps (Grammar.many t step a) P
keep_many {A} {t} {step} {P} lasts a p =
    record { gives = gives_many t step P (λ a x p _. (lasts a x p).gives) a p }

pub keep_weak : {A : Type 0} {grammar : g A} {P Q : A → Type 0} → Keeps grammar P → ((a : A) → P a → Q a)
    → Keeps grammar Q
keep_weak first weak = record { gives = λ xs next a h. weak a (first.gives xs next a h) }

-- nothing is taken where no level is left
pub keep_none : {A : Type 0} {grammar : g A} {P : A → Type 0} → Keeps (Grammar.within false grammar) P
keep_none = keep_within (λ h. absurd (cc))

-- ---- what one grammar takes of another

-- each phrase of the first whose value is such is one of the second
pub record Passes {A : Type 0} (first second : g A) (P : A → Type 0) : Type 0 where
  pub pass : (xs : List Lexeme) (next : Option Lexeme) (a : A) → P a → Phrase first xs next a → Phrase second xs next a

pub pass_same : {A : Type 0} {grammar : g A} {P : A → Type 0} → Passes grammar grammar P
pass_same = record { pass = λ xs next a p h. h }

-- one that takes nothing
pub pass_none : {A : Type 0} {first second : g A} {P : A → Type 0} → Keeps first (λ _. ⊥) → Passes first second P
pass_none none = record { pass = λ xs next a p h. absurd (none.gives xs next a h) }

pub pass_bind : {A B : Type 0} {first second : g A} {k j : A → g B} {P : A → Type 0} {Q : B → Type 0}
    → Passes first second P → ((a : A) → Passes (k a) (j a) Q) → ((a : A) → Keeps (k a) (λ b. Q b → P a))
    → Passes (Grammar.bind first k) (Grammar.bind second j) Q
pass_bind {A} {B} {first} {second} {k} {j} {P} {Q} each rest grows = record { pass = by_parts }
  where
    by_parts : (xs : List Lexeme) (next : Option Lexeme) (b : B) → Q b → Phrase (Grammar.bind first k) xs next b
        → Phrase (Grammar.bind second j) xs next b
    by_parts xs next b q (inl (a, ys, zs, split, h, r)) = inl (
      a,
      ys,
      zs,
      split,
      each.pass ys (head_or zs next) a ((grows a).gives zs next b r q) h,
      (rest a).pass zs next b q r,
    )
    by_parts xs next b q (inr h) = absurd h

-- .. where something is known of the first part
pub pass_known : {A B : Type 0} {first second : g A} {k j : A → g B} {K P : A → Type 0} {Q : B → Type 0}
    → Keeps first K → Passes first second P → ((a : A) → K a → Passes (k a) (j a) Q)
    → ((a : A) → K a → Keeps (k a) (λ b. Q b → P a)) → Passes (Grammar.bind first k) (Grammar.bind second j) Q
pass_known {A} {B} {first} {second} {k} {j} {K} {P} {Q} keeps each rest grows = record { pass = by_parts }
  where
    by_parts : (xs : List Lexeme) (next : Option Lexeme) (b : B) → Q b → Phrase (Grammar.bind first k) xs next b
        → Phrase (Grammar.bind second j) xs next b
    by_parts xs next b q (inl (a, ys, zs, split, h, r)) =
        let known = keeps.gives ys (head_or zs next) a h in
        inl (
          a,
          ys,
          zs,
          split,
          each.pass ys (head_or zs next) a ((grows a known).gives zs next b r q) h,
          (rest a known).pass zs next b q r,
        )
    by_parts xs next b q (inr h) = absurd h

-- behind the same part
pub pass_then : {A B : Type 0} {grammar : g A} {k j : A → g B} {Q : B → Type 0} → ((a : A) → Passes (k a) (j a) Q)
    → Passes (Grammar.bind grammar k) (Grammar.bind grammar j) Q
pass_then {A} {B} {grammar} rest =
    pass_bind (pass_same {P = λ _. Unit {0}}) rest (λ a. record { gives = λ xs next b h q. tt })

-- before the same part
pub pass_first : {A B : Type 0} {first second : g A} {k : A → g B} {P : A → Type 0} {Q : B → Type 0}
    → Passes first second P → ((a : A) → Keeps (k a) (λ b. Q b → P a))
    → Passes (Grammar.bind first k) (Grammar.bind second k) Q
pass_first each grows = pass_bind each (λ a. pass_same) grows

pub pass_on : {A : Type 0} {t : Lexeme → Bool} {go to : Lexeme → g A} {or than : g A} {P : A → Type 0}
    → ((x : Lexeme) → Passes (go x) (to x) P) → Passes or than P → Passes (Grammar.on t go or) (Grammar.on t to than) P
pass_on {A} {t} {go} {to} {or} {than} {P} ways other = record { pass = by_text }
  where
    by_text : (xs : List Lexeme) (next : Option Lexeme) (a : A) → P a → Phrase (Grammar.on t go or) xs next a
        → Phrase (Grammar.on t to than) xs next a
    by_text [] next a p h = (h.0, other.pass [] next a p h.1)
    by_text (x ∷ xs) next a p (inl h) = inl (h.0, (ways x).pass xs next a p h.1)
    by_text (x ∷ xs) next a p (inr h) = inr (h.0, other.pass (x ∷ xs) next a p h.1)

pub pass_within : {A : Type 0} {ok okay : Bool} {first second : g A} {P : A → Type 0}
    → (ok ≡ true → Keeps first (λ a. P a → okay ≡ true)) → Passes first second P
    → Passes (Grammar.within ok first) (Grammar.within okay second) P
pass_within {A} {ok} {okay} {first} {second} {P} room each = record { pass = by_limit }
  where
    by_limit : (xs : List Lexeme) (next : Option Lexeme) (a : A) → P a → Phrase (Grammar.within ok first) xs next a
        → Phrase (Grammar.within okay second) xs next a
    by_limit xs next a p (inl h) = inl ((room h.0).gives xs next a h.1 p, each.pass xs next a p h.1)
    by_limit xs next a p (inr h) = let never : End.whole a ≡ End.deep = h.2 in absurd (cc)

module _ {A : Type 0} (t : A → Lexeme → Bool) (step other : A → Lexeme → g A) (P : A → Type 0)
    (each : (a : A) (x : Lexeme) → Passes (step a x) (other a x) P)
    (grows : (a : A) (x : Lexeme) → Keeps (step a x) (λ b. P b → P a)) where
  -- what rounds go on from is such if what they give is
  rounds_grow : (a : A) → Keeps (Grammar.many t step a) (λ b. P b → P a)
  rounds_grow a =
      keep_many (λ b x back. record { gives = λ xs next c h p. back ((grows b x).gives xs next c h p) }) a (λ p. p)

  rounds_pass : (n : ℕ) (a b : A) (xs : List Lexeme) (next : Option Lexeme) → P b
      → Rounds t (λ a x. Ends (step a x)) n a (End.whole b) xs next
      → Rounds t (λ a x. Ends (other a x)) n a (End.whole b) xs next
  rounds_pass zero a b xs next p h = h
  rounds_pass (suc n) a b [] next p h = absurd h
  rounds_pass (suc n) a b (x ∷ xs) next p (go, inr h) = absurd h
  rounds_pass (suc n) a b (x ∷ xs) next p (go, inl (c, ys, zs, split, q, r)) = (
    go,
    inl (
      c,
      ys,
      zs,
      split,
      (each a x).pass ys (head_or zs next) c ((rounds_grow c).gives zs next b (n, r) p) q,
      rounds_pass n c b zs next p r,
    ),
  )

  pub pass_many : (a : A) → Passes (Grammar.many t step a) (Grammar.many t other a) P
  pass_many a = record { pass = λ xs next b p h. (h.0, rounds_pass h.0 a b xs next p h.1) }

-- ---- trees of a lower height

-- what has so many levels at most, or all that a limit allows if that is no higher
abbrev pub Fits : ℕ → ℕ → ℕ → Type 0
Fits most limit height = (most ≤ limit) ⊎ (height ≤ limit)

abbrev pub Low : {A : Type 0} → ℕ → ℕ → Tall A → Type 0
Low most limit made = Fits most limit made.height

pub fits_lower : {most limit : ℕ} (low high : ℕ) → low ≤ high → Fits most limit high → Fits most limit low
fits_lower low high le (inl h) = inl h
fits_lower low high le (inr h) = inr (omega arith)

-- one level below
pub fits_below : {most limit : ℕ} (low high : ℕ) → low + 1 ≤ high → Fits (suc most) (suc limit) high
    → Fits most limit low
fits_below low high le (inl h) = inl (omega arith)
fits_below low high le (inr h) = inr (omega arith)

-- .. and above
pub fits_above : {most limit : ℕ} (low : ℕ) → Fits most limit low → Fits (suc most) (suc limit) (low + 1)
fits_above low (inl h) = inl (omega arith)
fits_above low (inr h) = inr (omega arith)

-- what has a level doesn't fit where none is left
pub pass_high : {A : Type 0} {most : ℕ} {first second : g A} (height : A → ℕ) → Keeps first (λ a. 1 ≤ height a)
    → Passes first second (λ a. Fits (suc most) zero (height a))
pass_high {A} {most} {first} {second} height some =
    record { pass = λ xs next a fits h. never (height a) fits (some.gives xs next a h) }
  where
    never : {B : Type 0} (n : ℕ) → Fits (suc most) zero n → 1 ≤ n → B
    never n (inl h) le = absurd (omega arith)
    never n (inr h) le = absurd (omega arith)

-- what a limit has room for, another has
pub fits_room : {most limit : ℕ} (low high : ℕ) → low + 1 ≤ high → nat_lt low most ≡ true → Fits most limit high
    → nat_lt low limit ≡ true
fits_room {most} {limit} low high le room (inl h) =
    let below : low < most = search rules in let under : low < limit = omega arith in search rules
fits_room {most} {limit} low high le room (inr h) = let under : low < limit = omega arith in search rules

-- further parts
pub pass_further : {A : Type 0} {most limit : ℕ} (mark : Word) {each other : g (Tall A)} (found : Tall (List A))
    → Passes each other (Low most limit) → Passes (further mark each found) (further mark other found) (Low most limit)
unfolding further
pass_further {A} {most} {limit} mark {each} {other} found part =
    pass_many (λ _ x. is mark x) (λ found x. Grammar.bind each (λ next. Grammar.pure (more found next)))
    (λ found x. Grammar.bind other (λ next. Grammar.pure (more found next))) (Low most limit)
    (λ found x. pass_first part (λ next. keep_pure _ (fits_lower next.height (max found.height next.height)
    (omega arith))))
    (λ found x. keep_then (λ next. keep_pure _
    (fits_lower found.height (max found.height next.height) (omega arith)))) found

-- .. are no lower than those before
pub further_grows : {A : Type 0} (mark : Word) (each : g (Tall A)) (found : Tall (List A))
    → Keeps (further mark each found) (λ all. found.height ≤ all.height)
unfolding further
further_grows {A} mark each found =
    keep_many (λ all x le. keep_then (λ next. keep_pure _ (omega arith))) found (omega arith)

-- a part that may be absent
pub pass_maybe : {A : Type 0} {most limit : ℕ} (mark : Word) {each other : g (Tall A)}
    → Passes each other (Low most limit) → Passes (maybe mark each) (maybe mark other) (Low most limit)
unfolding maybe
pass_maybe mark part =
    pass_on (λ _. pass_first part (λ found. keep_pure _ (λ fits. fits))) pass_same
