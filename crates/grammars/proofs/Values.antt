-- What holds of each value that the phrases of a grammar have, and the heights of what is wrapped.
use Rattle.std.proofs.Common.{◌≡◌, ℕ, zero, suc, List, [], ◌∷◌, Option, Bool, true, inl, inr, nat_lt, ◌<◌, ◌≤◌}
use Rattle.std.proofs.Common.{subst, arith, rules}
use Rattle.grammars.specs.Grammar.{Grammar, End, Ends, Rounds, Tall, above, wrap, wraps}
use Rattle.grammars.specs.Laws.{Gives}

-- What holds of a value holds of that of the phrase of no lexeme.
pub gives_pure : {L A : Type 0} (a : A) (P : A → Type 0) → P a → Gives {L = L} (Grammar.pure a) P
gives_pure a P p xs next b h =
    let is : End.whole b ≡ End.whole a = h.1 in let same : a ≡ b = cc in subst P same p

-- Where there is no phrase, there is no value.
pub gives_refuse : {L A : Type 0} (P : A → Type 0) → Gives {L = L} (Grammar.refuse {A = A}) P
gives_refuse P xs next a h = let never : End.whole a ≡ End.refused = h.1 in absurd (cc)

-- What holds of the next part's values, whenever something holds of the first part's, holds of the values of both.
pub gives_bind : {L A B : Type 0} (g : Grammar L A) (k : A → Grammar L B) (P : A → Type 0) (Q : B → Type 0)
    → Gives g P → ((a : A) → P a → Gives (k a) Q) → Gives (Grammar.bind g k) Q
gives_bind g k P Q first second xs next b (inl (a, ys, zs, split, p, q)) = second a (first ys _ a p) zs next b q
gives_bind g k P Q first second xs next b (inr h) = absurd h

-- What holds of the values of both ways holds of a choice's.
pub gives_on : {L A : Type 0} (t : L → Bool) (go : L → Grammar L A) (or : Grammar L A) (P : A → Type 0)
    → ((x : L) → t x ≡ true → Gives (go x) P) → Gives or P → Gives (Grammar.on t go or) P
gives_on t go or P goes ors [] next a h = ors [] next a h.1
gives_on t go or P goes ors (x ∷ xs) next a (inl h) = goes x h.0 xs next a h.1
gives_on t go or P goes ors (x ∷ xs) next a (inr h) = ors (x ∷ xs) next a h.1

-- What holds of the values that a limit allows, where it does, holds of the limit's.
pub gives_within : {L A : Type 0} (ok : Bool) (g : Grammar L A) (P : A → Type 0) → (ok ≡ true → Gives g P)
    → Gives (Grammar.within ok g) P
gives_within ok g P some xs next a (inl h) = some h.0 xs next a h.1
gives_within ok g P some xs next a (inr h) = let never : End.whole a ≡ End.deep = h.2 in absurd (cc)

module _ {L A : Type 0} (t : A → L → Bool) (step : A → L → Grammar L A) (P : A → Type 0) where
  -- What holds at first, and lasts over each round, holds of what so many rounds give.
  rounds_give : ((a : A) (x : L) → P a → t a x ≡ true → Gives (step a x) P) → (n : ℕ) (a b : A) (xs : List L)
      (next : Option L) → P a → Rounds t (λ a x. Ends (step a x)) n a (End.whole b) xs next → P b
  rounds_give lasts zero a b xs next p h =
      let is : End.whole b ≡ End.whole a = h.2 in let same : a ≡ b = cc in subst P same p
  rounds_give lasts (suc n) a b [] next p h = absurd h
  rounds_give lasts (suc n) a b (x ∷ xs) next p (go, inr h) = absurd h
  rounds_give lasts (suc n) a b (x ∷ xs) next p (go, inl (c, ys, zs, split, q, r)) =
      rounds_give lasts n c b zs next (lasts a x p go ys _ c q) r

  -- What holds at first, and lasts over each round, holds of the values of rounds.
  pub gives_many : ((a : A) (x : L) → P a → t a x ≡ true → Gives (step a x) P) → (a : A) → P a
      → Gives (Grammar.many t step a) P
  gives_many lasts a p xs next b h = rounds_give lasts h.0 a b xs next p h.1

module _ {L A B : Type 0} (limit : ℕ) (t : L → Bool) (part : L → Grammar L (Tall B)) (join : L → A → B → A) where
  -- a wrap, after the part beside it
  abbrev wrapping : Tall A → L → Tall B → Grammar L (Tall A)
  wrapping left x right = Grammar.pure (above (join x) left right)

  -- What holds of a wrap of each value of which it holds, beside each part of which something holds, holds of the
  -- values of wraps.
  pub gives_wraps : (P : Tall A → Type 0) (Q : Tall B → Type 0) → ((x : L) → Gives (part x) Q)
      → ((x : L) (left : Tall A) (right : Tall B) → t x ≡ true → P left → nat_lt left.height limit ≡ true → Q right
      → P (above (join x) left right))
      → (left : Tall A) → P left → Gives (wraps limit t part join left) P
  gives_wraps P Q parts lasts left p =
      gives_many (λ _ x. t x) (wrap limit part join) P
      (λ left x p go. gives_within (nat_lt left.height limit) (Grammar.bind (part x) (wrapping left x)) P
      (λ room. gives_bind (part x) (wrapping left x) Q P (parts x)
      (λ right q. gives_pure (above (join x) left right) P (lasts x left right go p room q))))
      left p

  -- What is wrapped is no higher than the limit, if it isn't at first and what stands beside a wrap is always lower.
  pub wraps_fit : ((x : L) → Gives (part x) (λ b. b.height < limit)) → (left : Tall A) → left.height ≤ limit
      → Gives (wraps limit t part join left) (λ a. a.height ≤ limit)
  wraps_fit low left p =
      gives_wraps (λ a. a.height ≤ limit) (λ b. b.height < limit) low
      (λ x left right go p room q. let below : left.height < limit = search rules in omega arith) left p
