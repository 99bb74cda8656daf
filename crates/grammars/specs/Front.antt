-- Fronts: the lexemes up to which a text of the grammar may still go on.
use Rattle.std.specs.Prelude.{◌≡◌, ℕ, zero, suc, List, [], ◌∷◌, ◌++◌, None, Bool, true, false, ◌⊎◌}
use Rattle.grammars.specs.Grammar.{Grammar, End, Relation, head_or, Ends}

-- a front of a choice: none, or the lexeme that decides it and a front of what it chose
abbrev pub FrontOn : {L : Type 0} → (L → Bool) → (L → List L → Type 0) → (List L → Type 0) → List L → Type 0
FrontOn t Go Or [] = Unit {0}
FrontOn t Go Or (x ∷ xs) = ((t x ≡ true) × Go x xs) ⊎ ((t x ≡ false) × Or (x ∷ xs))

-- a whole part, and then a front of the next
abbrev pub FrontThen : {L A : Type 0} → Relation L A → (A → List L → Type 0) → List L → Type 0
FrontThen {L} {A} P F xs = (a : A) × (ys zs : List L) × (xs ≡ ys ++ zs) × P (End.whole a) ys (head_or zs None) × F a zs

-- so many rounds, of which the last is a front
abbrev pub FrontRounds : {L A : Type 0} → (A → L → Bool) → (A → L → Relation L A) → (A → L → List L → Type 0) → ℕ → A
    → List L → Type 0
FrontRounds t Step Front zero a xs = xs ≡ []
FrontRounds t Step Front (suc n) a [] = ⊥
FrontRounds t Step Front (suc n) a (x ∷ xs) =
    (t a x ≡ true) × (Front a x xs ⊎ FrontThen (Step a x) (FrontRounds t Step Front n) xs)

-- Read off the grammar: no lexeme, or whole parts of a form followed by a front of the next part. No text has to be
-- completed to show it.
abbrev pub Front : {L A : Type 0} → Grammar L A → List L → Type 0
Front (Grammar.pure a) xs = xs ≡ []
Front Grammar.refuse xs = xs ≡ []
Front (Grammar.bind g k) xs = Front g xs ⊎ FrontThen (Ends g) (λ a. Front (k a)) xs
Front (Grammar.on t go or) xs = FrontOn t (λ x rest. Front (go x) rest) (Front or) xs
Front (Grammar.many t step a) xs =
    (n : ℕ) × FrontRounds t (λ a x. Ends (step a x)) (λ a x. Front (step a x)) n a xs
Front (Grammar.within ok g) xs = (xs ≡ []) ⊎ ((ok ≡ true) × Front g xs)

-- The place before `rest`: what stands before it and each beginning of that are fronts, and with the next lexeme
-- nothing is, whatever comes after it.
pub record FirstNoFront {L A : Type 0} (g : Grammar L A) (xs rest : List L) : Type 0 where
  pub taken : List L
  pub text : xs ≡ taken ++ rest
  pub fronts : (us vs : List L) → taken ≡ us ++ vs → Front g us
  pub none : (y : L) (zs more : List L) → rest ≡ y ∷ zs → Front g (taken ++ y ∷ more) → ⊥
