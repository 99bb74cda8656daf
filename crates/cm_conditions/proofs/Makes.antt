-- What holds of the value of each phrase and the lexemes up to its end, where each of these is as it has to be.
use Rattle.std.proofs.Common.{◌≡◌, ℕ, zero, suc, List, [], ◌∷◌, ◌++◌, Option, Bool, true, inl, inr, refl, sym, ap, ◌∙◌, subst, append_assoc, append-nil}
use Rattle.grammars.specs.Grammar.{Grammar, End, Ends, Phrase, Rounds}

-- each of these is as it has to be
abbrev pub AreAll : {L : Type 0} → (L → Type 0) → List L → Type 0
AreAll W [] = Unit {0}
AreAll W (x ∷ xs) = W x × AreAll W xs

pub all_parts : {L : Type 0} (W : L → Type 0) (xs ys : List L) → AreAll W (xs ++ ys) → AreAll W xs × AreAll W ys
all_parts W [] ys w = (tt, w)
all_parts W (x ∷ xs) ys w = let rest = all_parts W xs ys w.1 in ((w.0, rest.0), rest.1)

pub all_both : {L : Type 0} (W : L → Type 0) (xs ys : List L) → AreAll W xs → AreAll W ys → AreAll W (xs ++ ys)
all_both W [] ys v w = w
all_both W (x ∷ xs) ys v w = (v.0, all_both W xs ys v.1 w)

-- behind these lexemes each phrase has a value of which this holds, with all lexemes up to its end
pub record Makes {L A : Type 0} (W : L → Type 0) (before : List L) (f : Grammar L A)
    (Q : List L → A → Type 0) : Type 0 where
  pub made : (xs : List L) (next : Option L) (a : A) → AreAll W xs → Phrase f xs next a → Q (before ++ xs) a

pure_made : {L A : Type 0} (Q : List L → A → Type 0) (before xs : List L) (a b : A) (next : Option L) → Q before a
    → Phrase {L = L} (Grammar.pure a) xs next b → Q (before ++ xs) b
pure_made Q before xs a b next q h =
    let is : End.whole b ≡ End.whole a = h.1 in
    let same : a ≡ b = cc in
    subst (λ l. Q l b) (sym (append-nil before) ∙ ap (λ l. before ++ l) (sym h.0)) (subst (Q before) same q)

pub makes_pure : {L A : Type 0} {W : L → Type 0} {before : List L} {a : A} {Q : List L → A → Type 0} → Q before a
    → Makes W before (Grammar.pure a) Q
makes_pure {before = before} {a} {Q} q = record { made = λ xs next b w h. pure_made Q before xs a b next q h }

refuse_made : {L A : Type 0} (Q : Type 0) (xs : List L) (b : A) (next : Option L)
    → Phrase {L = L} Grammar.refuse xs next b → Q
refuse_made Q xs b next h = let never : End.whole b ≡ End.refused = h.1 in absurd (cc)

pub makes_refuse : {L A : Type 0} {W : L → Type 0} {before : List L} {Q : List L → A → Type 0}
    → Makes W before Grammar.refuse Q
makes_refuse {before = before} {Q} = record { made = λ xs next b w h. refuse_made (Q (before ++ xs) b) xs b next h }

bind_made : {L A B : Type 0} (W : L → Type 0) (before : List L) (f : Grammar L A) (k : A → Grammar L B)
    (P : List L → A → Type 0) (Q : List L → B → Type 0) → Makes W before f P
    → ((ys : List L) (a : A) → P ys a → Makes W ys (k a) Q) → (xs : List L) (next : Option L) (b : B) → AreAll W xs
    → Phrase (Grammar.bind f k) xs next b → Q (before ++ xs) b
bind_made W before f k P Q one two xs next b w (inl (a, ys, zs, split, p, q)) =
    let parts = all_parts W ys zs (subst (AreAll W) split w) in
    let first = one.made ys _ a parts.0 p in
    let second = (two (before ++ ys) a first).made zs next b parts.1 q in
    subst (λ l. Q l b) (append_assoc before ys zs ∙ ap (λ l. before ++ l) (sym split)) second
bind_made W before f k P Q one two xs next b w (inr h) = absurd h

-- one part, and then the next
pub makes_bind : {L A B : Type 0} {W : L → Type 0} {before : List L} {f : Grammar L A} {k : A → Grammar L B}
    {P : List L → A → Type 0} {Q : List L → B → Type 0} → Makes W before f P
    → ((ys : List L) (a : A) → P ys a → Makes W ys (k a) Q) → Makes W before (Grammar.bind f k) Q
makes_bind {W = W} {before} {f} {k} {P} {Q} one two =
    record { made = λ xs next b w h. bind_made W before f k P Q one two xs next b w h }

on_made : {L A : Type 0} (W : L → Type 0) (before : List L) (t : L → Bool) (go : L → Grammar L A) (or : Grammar L A)
    (Q : List L → A → Type 0) → ((x : L) → t x ≡ true → W x → Makes W (before ++ x ∷ []) (go x) Q)
    → Makes W before or Q → (xs : List L) (next : Option L) (a : A) → AreAll W xs
    → Phrase (Grammar.on t go or) xs next a → Q (before ++ xs) a
on_made W before t go or Q one other [] next a w h = other.made [] next a tt h.1
on_made W before t go or Q one other (x ∷ xs) next a w (inl h) =
    subst (λ l. Q l a) (append_assoc before (x ∷ []) xs) ((one x h.0 w.0).made xs next a w.1 h.1)
on_made W before t go or Q one other (x ∷ xs) next a w (inr h) = other.made (x ∷ xs) next a w h.1

pub makes_on : {L A : Type 0} {W : L → Type 0} {before : List L} {t : L → Bool} {go : L → Grammar L A}
    {or : Grammar L A} {Q : List L → A → Type 0}
    → ((x : L) → t x ≡ true → W x → Makes W (before ++ x ∷ []) (go x) Q) → Makes W before or Q
    → Makes W before (Grammar.on t go or) Q
makes_on {W = W} {before} {t} {go} {or} {Q} one other =
    record { made = λ xs next a w h. on_made W before t go or Q one other xs next a w h }

within_made : {L A : Type 0} (W : L → Type 0) (before : List L) (ok : Bool) (f : Grammar L A)
    (Q : List L → A → Type 0) → (ok ≡ true → Makes W before f Q) → (xs : List L) (next : Option L) (a : A)
    → AreAll W xs → Phrase (Grammar.within ok f) xs next a → Q (before ++ xs) a
within_made W before ok f Q some xs next a w (inl h) = (some h.0).made xs next a w h.1
within_made W before ok f Q some xs next a w (inr h) = let never : End.whole a ≡ End.deep = h.2 in absurd (cc)

pub makes_within : {L A : Type 0} {W : L → Type 0} {before : List L} {ok : Bool} {f : Grammar L A}
    {Q : List L → A → Type 0} → (ok ≡ true → Makes W before f Q) → Makes W before (Grammar.within ok f) Q
makes_within {W = W} {before} {ok} {f} {Q} some =
    record { made = λ xs next a w h. within_made W before ok f Q some xs next a w h }

module _ {L A : Type 0} (W : L → Type 0) (t : A → L → Bool) (step : A → L → Grammar L A) (Q : List L → A → Type 0)
    (each : (before : List L) (a : A) (x : L) → Q before a → t a x ≡ true → W x
    → Makes W (before ++ x ∷ []) (step a x) Q) where
  rounds_made : (n : ℕ) (before : List L) (a b : A) (xs : List L) (next : Option L) → Q before a → AreAll W xs
      → Rounds t (λ a x. Ends (step a x)) n a (End.whole b) xs next → Q (before ++ xs) b
  rounds_made zero before a b xs next q w h =
      let is : End.whole b ≡ End.whole a = h.2 in
      let same : a ≡ b = cc in
      subst (λ l. Q l b) (sym (append-nil before) ∙ ap (λ l. before ++ l) (sym h.1)) (subst (Q before) same q)
  rounds_made (suc n) before a b [] next q w h = absurd h
  rounds_made (suc n) before a b (x ∷ xs) next q w (go, inr h) = absurd h
  rounds_made (suc n) before a b (x ∷ xs) next q w (go, inl (c, ys, zs, split, p, r)) =
      let parts = all_parts W ys zs (subst (AreAll W) split w.1) in
      let one = (each before a x q go w.0).made ys _ c parts.0 p in
      let more = rounds_made n ((before ++ x ∷ []) ++ ys) c b zs next one parts.1 r in
      subst (λ l. Q l b)
      (append_assoc (before ++ x ∷ []) ys zs ∙ append_assoc before (x ∷ []) (ys ++ zs)
      ∙ ap (λ l. before ++ x ∷ l) (sym split)) more

-- rounds, each of which keeps what holds
pub makes_many : {L A : Type 0} {W : L → Type 0} {before : List L} {t : A → L → Bool} {step : A → L → Grammar L A}
    {a : A} {Q : List L → A → Type 0}
    → ((before : List L) (a : A) (x : L) → Q before a → t a x ≡ true → W x
    → Makes W (before ++ x ∷ []) (step a x) Q)
    → Q before a → Makes W before (Grammar.many t step a) Q
makes_many {W = W} {before} {t} {step} {a} {Q} each q =
    record { made = λ xs next b w h. rounds_made W t step Q each h.0 before a b xs next q w h.1 }

-- what holds of a phrase's own lexemes, behind others
abbrev pub Behind : {L A : Type 0} → List L → (List L → A → Type 0) → List L → A → Type 0
Behind {L} before P ys a = (zs : List L) × (ys ≡ before ++ zs) × P zs a

pub makes_behind : {L A : Type 0} {W : L → Type 0} {before : List L} {f : Grammar L A} {P : List L → A → Type 0}
    → Makes W [] f P → Makes W before f (Behind before P)
makes_behind {before = before} one = record { made = λ xs next a w h. (xs, refl, one.made xs next a w h) }
