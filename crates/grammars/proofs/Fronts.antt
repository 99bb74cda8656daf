-- Fronts, for every grammar: each beginning of what was read is one, and with the next lexeme none is.
use Rattle.std.proofs.Common.{◌≡◌, ℕ, zero, suc, List, [], ◌∷◌, ◌++◌, length, Option, None, Bool, true, false}
use Rattle.std.proofs.Common.{◌⊎◌, inl, inr, if◌then◌else◌, refl, sym, ap, ◌∙◌, subst, ◌≤◌, arith}
use Rattle.std.proofs.Common.{length-append, append-nil}
use Rattle.grammars.specs.Grammar.{Grammar, End, Relation, head_or, Then, Broken, Rounds, Ends}
use Rattle.grammars.specs.Front.{FrontThen, FrontRounds, Front, FirstNoFront}
use Rattle.grammars.specs.Reading.{Out, Reader, chain, end_of, left_of, rounds, read}
use Rattle.grammars.specs.Laws.{IsComplete, AtEnd}
use Rattle.grammars.proofs.Complete.{goes, stops, complete, shorter}
use Rattle.grammars.proofs.Sound.{is_out, pair_of, sound}

-- the first cut stands in the first part of the second, or behind a lexeme of its second part
abbrev Cut : {L : Type 0} → List L → List L → List L → List L → Type 0
Cut {L} us vs ys zs =
    ((m : List L) × (ys ≡ us ++ m)) ⊎ ((x : L) × (m : List L) × (us ≡ ys ++ x ∷ m) × (zs ≡ x ∷ m ++ vs))

-- A lexeme before both parts moves no cut.
cut_more : {L : Type 0} (u y : L) (us vs ys zs : List L) → u ≡ y → Cut us vs ys zs → Cut (u ∷ us) vs (y ∷ ys) zs
cut_more u y us vs ys zs same (inl (m, e)) = inl (m, cc)
cut_more u y us vs ys zs same (inr (x, m, e, f)) = inr (x, m, cc, f)

-- Two ways to cut a list.
cut : {L : Type 0} (us vs ys zs : List L) → us ++ vs ≡ ys ++ zs → Cut us vs ys zs
cut [] vs ys zs h = inl (ys, refl)
cut (u ∷ us) vs [] zs h = inr (u, us, refl, sym h)
cut (u ∷ us) vs (y ∷ ys) zs h = cut_more u y us vs ys zs (cc) (cut us vs ys zs (cc))

-- each beginning of what the relation says is a front
abbrev pub HasFronts : {L A : Type 0} → Relation L A → (List L → Type 0) → Type 0
HasFronts {L} {A} P F = (e : End A) (us vs : List L) (after : Option L) → P e (us ++ vs) after → F us

module _ {L A B : Type 0} (P : Relation L A) (F : List L → Type 0) (Q : A → Relation L B)
    (H : A → List L → Type 0) where
  -- A beginning of a whole part and what follows it is a front of the part, or the part and a front of the next.
  cut_front : HasFronts P F → (e : End B) (us vs : List L) (after : Option L)
      → ((a : A) (ms vs : List L) → Q a e (ms ++ vs) after → H a ms)
      → (a : A) (ys zs : List L) → P (End.whole a) ys (head_or zs after) → Q a e zs after → Cut us vs ys zs
      → F us ⊎ FrontThen P H us
  cut_front ps e us vs after qs a ys zs p q (inl (m, is)) =
      inl (ps (End.whole a) us m (head_or zs after)
      (subst (λ (l : List L). P (End.whole a) l (head_or zs after)) is p))
  cut_front ps e us vs after qs a ys zs p q (inr (x, m, is, on)) =
      let first : P (End.whole a) ys (head_or (x ∷ m ++ vs) after) =
      subst (λ (l : List L). P (End.whole a) ys (head_or l after)) on p in
      inr (a, ys, x ∷ m, is, first, qs a (x ∷ m) vs (subst (λ (l : List L). Q a e l after) on q))

  -- Each beginning of two parts, one after the other, is a front.
  then_front : HasFronts P F → (e : End B) (us vs : List L) (after : Option L)
      → ((a : A) (ms vs : List L) → Q a e (ms ++ vs) after → H a ms)
      → (Then P Q e (us ++ vs) after ⊎ Broken P e (us ++ vs) after) → F us ⊎ FrontThen P H us
  then_front ps (End.whole b) us vs after qs (inr h) = absurd h
  then_front ps End.refused us vs after qs (inr h) = inl (ps End.refused us vs after h)
  then_front ps End.deep us vs after qs (inr h) = inl (ps End.deep us vs after h)
  then_front ps e us vs after qs (inl (a, ys, zs, split, p, q)) =
      cut_front ps e us vs after qs a ys zs p q (cut us vs ys zs split)

module _ {L A : Type 0} (t : A → L → Bool) (Step : A → L → Relation L A) (F : A → L → List L → Type 0) where
  -- a front of some number of rounds
  abbrev Front_rounds : A → List L → Type 0
  Front_rounds a xs = (m : ℕ) × FrontRounds t Step F m a xs

  -- one more round than there were
  front_counted : (a : A) (x : L) (us : List L) → t a x ≡ true → (F a x us ⊎ FrontThen (Step a x) Front_rounds us)
      → Front_rounds a (x ∷ us)
  front_counted a x us go (inl f) = (suc zero, (go, inl f))
  front_counted a x us go (inr (b, ys, zs, split, p, (m, q))) = (suc m, (go, inr (b, ys, zs, split, p, q)))

  -- Each beginning of rounds is a front.
  rounds_front : ((a : A) (x : L) → HasFronts (Step a x) (F a x)) → (n : ℕ) (a : A)
      → HasFronts (Rounds t Step n a) (Front_rounds a)
  rounds_front each n a e [] vs after h = (zero, refl)
  rounds_front each zero a e (x ∷ us) vs after h = absurd (let no : x ∷ (us ++ vs) ≡ [] = h.1 in cc)
  rounds_front each (suc n) a e (x ∷ us) vs after (go, h) =
      front_counted a x us go
      (then_front (Step a x) (F a x) (Rounds t Step n) Front_rounds (each a x) e us vs after
      (λ b ms vs q. rounds_front each n b e ms vs after q) h)

-- A beginning of no lexeme has none.
nil_left : {L : Type 0} (us vs : List L) → us ++ vs ≡ [] → us ≡ []
nil_left [] vs h = refl
nil_left (u ∷ us) vs h = absurd (cc)

-- Each beginning of what a text ends with is a front.
pub ends_front : {L A : Type 0} (g : Grammar L A) → HasFronts (Ends g) (Front g)
ends_front (Grammar.pure a) e us vs after h = nil_left us vs h.0
ends_front Grammar.refuse e us vs after h = nil_left us vs h.0
ends_front (Grammar.bind g k) e us vs after h =
    then_front (Ends g) (Front g) (λ a. Ends (k a)) (λ a. Front (k a)) (ends_front g) e us vs after
    (λ a ms vs q. ends_front (k a) e ms vs after q) h
ends_front (Grammar.on t go or) e [] vs after h = tt
ends_front (Grammar.on t go or) e (x ∷ us) vs after (inl h) = inl (h.0, ends_front (go x) e us vs after h.1)
ends_front (Grammar.on t go or) e (x ∷ us) vs after (inr h) = inr (h.0, ends_front or e (x ∷ us) vs after h.1)
ends_front (Grammar.many t step a) e us vs after (n, h) =
    rounds_front t (λ a x. Ends (step a x)) (λ a x. Front (step a x)) (λ b x. ends_front
    (step b x)) n a e us vs after h
ends_front (Grammar.within ok g) e us vs after (inl h) = inr (h.0, ends_front g e us vs after h.1)
ends_front (Grammar.within ok g) e us vs after (inr h) = inl (nil_left us vs h.1)

-- ---- a front is read to its end

-- What is left of no lexeme is none.
nil_right : {L : Type 0} (ys rest : List L) → [] ≡ ys ++ rest → rest ≡ []
nil_right [] rest h = sym h
nil_right (y ∷ ys) rest h = absurd (cc)

-- No lexeme is read to its end.
nothing : {L A : Type 0} (g : Grammar L A) → AtEnd (read g [])
nothing {L} {A} g =
    let one = sound g [] (end_of (read g [])) (left_of (read g [])) (is_out (read g [])) in
    let none : left_of (read g []) ≡ [] = nil_right one.0 (left_of (read g [])) one.1 in
    (end_of (read g []), is_out (read g []) ∙ ap (λ (l : List L). pair_of (end_of (read g [])) l) none)

module _ {L A B : Type 0} (r : Reader L A) (k : A → Reader L B) (P : Relation L A) (F : List L → Type 0)
    (H : A → List L → Type 0) where
  -- What follows a part that is read to the end of the text is read to its end.
  by_end : (xs : List L) → ((a : A) → AtEnd (k a [])) → (e : End A) → r xs ≡ Out.out e [] → AtEnd (chain (r xs) k)
  by_end xs ends (End.whole a) is = ((ends a).0, ap (λ (o : Out L A). chain o k) is ∙ (ends a).1)
  by_end xs ends End.refused is = (End.refused, ap (λ (o : Out L A). chain o k) is)
  by_end xs ends End.deep is = (End.deep, ap (λ (o : Out L A). chain o k) is)

  -- A front of two parts, one after the other, is read to its end.
  then_read : (xs : List L) → IsComplete r P → (F xs → AtEnd (r xs)) → ((a : A) → AtEnd (k a []))
      → ((a : A) (zs : List L) → length zs ≤ length xs → H a zs → AtEnd (k a zs))
      → F xs ⊎ FrontThen P H xs → AtEnd (chain (r xs) k)
  then_read xs rs fs ends ks (inl f) = by_end xs ends (fs f).0 (fs f).1
  then_read xs rs fs ends ks (inr (a, ys, zs, split, p, q)) =
      let last : AtEnd (k a zs) = ks a zs (shorter ys zs xs split) q in (
        last.0,
        ap (λ (l : List L). chain (r l) k) split ∙ ap (λ (o : Out L A). chain o k) (rs (End.whole a) ys zs p)
            ∙ last.1,
      )

module _ {L A : Type 0} (t : A → L → Bool) (step : A → L → Reader L A) (Step : A → L → Relation L A)
    (F : A → L → List L → Type 0) where
  -- Rounds of no lexeme are read to the end.
  rounds_none : (m : ℕ) (a : A) → AtEnd (rounds t step m a [])
  rounds_none zero a = (End.whole a, refl)
  rounds_none (suc m) a = (End.whole a, refl)

  -- A front of rounds is read to its end.
  rounds_read : ((a : A) (x : L) → IsComplete (step a x) (Step a x))
      → ((a : A) (x : L) (xs : List L) → F a x xs → AtEnd (step a x xs))
      → (n m : ℕ) (a : A) (xs : List L) → length xs ≤ m → FrontRounds t Step F n a xs → AtEnd (rounds t step m a xs)
  rounds_read rs fs zero m a xs le h = subst (λ (l : List L). AtEnd (rounds t step m a l)) (sym h) (rounds_none m a)
  rounds_read rs fs (suc n) m a [] le h = absurd h
  rounds_read rs fs (suc n) zero a (x ∷ xs) le h = absurd (omega arith)
  rounds_read rs fs (suc n) (suc m) a (x ∷ xs) le (go, h) =
      let round = then_read (step a x) (rounds t step m) (Step a x) (F a x) (FrontRounds t Step F n) xs (rs a x)
      (fs a x xs) (rounds_none m) (λ b zs short q. rounds_read rs fs n m b zs (omega arith) q) h in
      (round.0, goes (t a x) _ _ go ∙ round.1)

-- A front under a limit is read to its end.
within_read : {L A : Type 0} (g : Grammar L A) (ok : Bool) (xs : List L) → (Front g xs → AtEnd (read g xs))
    → (xs ≡ []) ⊎ ((ok ≡ true) × Front g xs) → AtEnd (if ok then read g xs else Out.out End.deep xs)
within_read g true xs h (inl e) = subst (λ (l : List _). AtEnd (read g l)) (sym e) (nothing g)
within_read g false xs h (inl e) = (End.deep, ap (λ (l : List _). pair_of End.deep l) e)
within_read g true xs h (inr (is, f)) = h f
within_read g false xs h (inr (is, f)) = absurd (cc)

-- A front is read to its end.
pub front_read : {L A : Type 0} (g : Grammar L A) (xs : List L) → Front g xs → AtEnd (read g xs)
front_read (Grammar.pure a) xs h = (End.whole a, ap (λ (l : List _). pair_of (End.whole a) l) h)
front_read Grammar.refuse xs h = (End.refused, ap (λ (l : List _). pair_of End.refused l) h)
front_read (Grammar.bind g k) xs h =
    then_read (read g) (λ a. read (k a)) (Ends g) (Front g) (λ a. Front (k a)) xs (complete g) (front_read g xs)
    (λ a. nothing (k a)) (λ a zs short. front_read (k a) zs) h
front_read (Grammar.on t go or) [] h = nothing or
front_read (Grammar.on t go or) (x ∷ xs) (inl h) =
    let one = front_read (go x) xs h.1 in (one.0, goes (t x) _ _ h.0 ∙ one.1)
front_read (Grammar.on t go or) (x ∷ xs) (inr h) =
    let one = front_read or (x ∷ xs) h.1 in (one.0, stops (t x) _ _ h.0 ∙ one.1)
front_read (Grammar.many t step a) xs (n, h) =
    rounds_read t (λ a x. read (step a x)) (λ a x. Ends (step a x)) (λ a x. Front (step a x))
    (λ b x. complete (step b x)) (λ b x. front_read (step b x)) n (length xs) a xs (omega arith) h
front_read (Grammar.within ok g) xs h = within_read g ok xs (front_read g xs) h

-- A beginning that goes on and ends as itself is whole.
same_length : {L : Type 0} (xs ys ms ns : List L) → ys ≡ xs ++ ms → xs ≡ ys ++ ns → length xs ≡ length ys
same_length xs ys ms ns e f =
    let more : length ys ≡ length (xs ++ ms) = ap length e in
    let less : length xs ≡ length (ys ++ ns) = ap length f in
    omega (arith, simp length-append at more, simp length-append at less)

-- A text that is read to its end is a front.
pub read_front : {L A : Type 0} (g : Grammar L A) (xs : List L) → AtEnd (read g xs) → Front g xs
read_front g xs (e, h) =
    let one = sound g xs e [] h in
    let all : one.0 ≡ xs ++ [] = sym (append-nil one.0) ∙ sym one.1 ∙ sym (append-nil xs) in
    ends_front g e xs [] None (subst (λ (l : List _). Ends g e l None) all one.2)

-- ---- the place of a refusal

-- However reading ends, it ends at the first lexeme up to which there is no front.
pub place : {L A : Type 0} (g : Grammar L A) (e : End A) (xs rest : List L) → read g xs ≡ Out.out e rest
    → FirstNoFront g xs rest
place g e xs rest h =
    let one = sound g xs e rest h in
    record {
      taken = one.0;
      text = one.1;
      fronts = λ us vs is.
          ends_front g e us vs (head_or rest None) (subst
          (λ (l : List _). Ends g e l (head_or rest None)) is one.2);
      none = λ y zs more is f.
          let other = front_read g (one.0 ++ y ∷ more) f in
          let same =
          complete g e one.0 (y ∷ more) (subst (λ (l : List _). Ends g e one.0 (head_or l None)) is one.2) in
          let left : y ∷ more ≡ [] = ap left_of (sym same ∙ other.1) in absurd (cc);
    }

-- A place that stands behind another is none.
no_later : {L A : Type 0} (g : Grammar L A) (xs rest more : List L) → (p : FirstNoFront g xs rest)
    → (q : FirstNoFront g xs more) → Cut p.taken rest q.taken more → (m : List L) × (q.taken ≡ p.taken ++ m)
no_later g xs rest more p q (inl h) = h
no_later g xs rest more p q (inr (x, m, is, on)) =
    absurd (q.none x (m ++ rest) m on (p.fronts (q.taken ++ x ∷ m) [] (is ∙ sym (append-nil (q.taken ++ x ∷ m)))))

-- There is one such place in a text.
pub one_place : {L A : Type 0} (g : Grammar L A) (xs rest more : List L) → FirstNoFront g xs rest
    → FirstNoFront g xs more → length rest ≡ length more
one_place g xs rest more p q =
    let there = no_later g xs rest more p q (cut p.taken rest q.taken more (sym p.text ∙ q.text)) in
    let back = no_later g xs more rest q p (cut q.taken more p.taken rest (sym q.text ∙ p.text)) in
    let same : length p.taken ≡ length q.taken = same_length p.taken q.taken there.0 back.0 there.1 back.1 in
    let one : length xs ≡ length (p.taken ++ rest) = ap length p.text in
    let two : length xs ≡ length (q.taken ++ more) = ap length q.text in
    omega (arith, simp length-append at one, simp length-append at two)
