-- What is written and what is left stay the spelling, step by step.
use Rattle.std.proofs.Common.{◌≡◌, ◌⊎◌, inl, inr, ℕ, zero, suc, ◌+◌, ◌<◌, refl, sym, ap, subst, ◌∙◌, List, [], ◌∷◌, ◌++◌, length, get_or, set, Bool, true, false, Option, Some, None, arith}
use Rattle.std.specs.Prelude.{eqb}
use Rattle.std.proofs.lemmas.List.{length-append, get_or-set_same, get_or-set_other}
use Rattle.std.proofs.lemmas.Bool.{eqb-true, eqb-false}
use Rattle.cm_bytes.proofs.Fields.{some_is}
use Rattle.node_bytes.specs.Nodes.{Node, Begun, number_of, node_of}
use Rattle.node_bytes.specs.Tables.{table_node, AreApart}
use Rattle.node_bytes.specs.Writing.{on}
use Rattle.node_bytes.specs.Going.{close, IsOpen, Known, AreOpen, AllBelow, AllAbove, AreNested}
use Rattle.node_bytes.specs.declared.table.Row.{Row}
use Rattle.node_bytes.specs.declared.write.Open.{Open}
use Rattle.node_bytes.proofs.Numbers.{number_leads, number_none, stands_at}

-- two numbers are one or they aren't
one_or : (a b : ℕ) → (a ≡ b) ⊎ (a ≡ b → ⊥)
one_or a b = by_test (eqb a b) refl
  where
    by_test : (t : Bool) → eqb a b ≡ t → (a ≡ b) ⊎ (a ≡ b → ⊥)
    by_test true e = inl (eqb-true a b e)
    by_test false e = inr (eqb-false a b e)

-- ---- places of open nodes

open_snoc : (xs : List Open) (o : Open) (p : ℕ) → IsOpen (xs ++ o ∷ []) p → IsOpen xs p ⊎ (o.id ≡ p)
open_snoc [] o p (inl e) = inr e
open_snoc [] o p (inr h) = elim h [ ]
open_snoc (x ∷ xs) o p (inl e) = inl (inl e)
open_snoc (x ∷ xs) o p (inr h) = elim (open_snoc xs o p h) [ inl k ↦ inl (inr k) | inr e ↦ inr e ]

open_front : (xs ys : List Open) (p : ℕ) → IsOpen xs p → IsOpen (xs ++ ys) p
open_front (x ∷ xs) ys p (inl e) = inl e
open_front (x ∷ xs) ys p (inr h) = inr (open_front xs ys p h)
open_front [] ys p h = elim h [ ]

open_last : (xs : List Open) (o : Open) (p : ℕ) → o.id ≡ p → IsOpen (xs ++ o ∷ []) p
open_last [] o p e = inl e
open_last (x ∷ xs) o p e = inr (open_last xs o p e)

-- the innermost goes on
open_on : (xs : List Open) (o : Open) (p : ℕ) → IsOpen (xs ++ o ∷ []) p → IsOpen (xs ++ on o ∷ []) p
open_on xs o p h =
    elim (open_snoc xs o p h) [ inl k ↦ open_front xs (on o ∷ []) p k | inr e ↦ open_last xs (on o) p e ]

pub above_not_open : (p : ℕ) (xs : List Open) → AllAbove p xs → IsOpen xs p → ⊥
above_not_open p [] h k = k
above_not_open p (o ∷ xs) h (inl e) = let lt = h.0 in omega (arith, lt, e)
above_not_open p (o ∷ xs) h (inr k) = above_not_open p xs h.1 k

pub above_lower : (p q : ℕ) (xs : List Open) → p < q → AllAbove q xs → AllAbove p xs
above_lower p q [] lt h = tt
above_lower p q (o ∷ xs) lt h = (let k = h.0 in omega (arith, lt, k), above_lower p q xs lt h.1)

pub above_snoc : (p : ℕ) (xs : List Open) (o : Open) → AllAbove p xs → p < o.id → AllAbove p (xs ++ o ∷ [])
above_snoc p [] o h lt = (lt, tt)
above_snoc p (x ∷ xs) o h lt = (h.0, above_snoc p xs o h.1 lt)

below_snoc : (p : ℕ) (xs : List Open) (o : Open) → AllBelow p (xs ++ o ∷ []) → AllBelow p xs × (o.id < p)
below_snoc p [] o h = (tt, h.0)
below_snoc p (x ∷ xs) o h = let k = below_snoc p xs o h.1 in ((h.0, k.0), k.1)

snoc_below : (p : ℕ) (xs : List Open) (o : Open) → AllBelow p xs → o.id < p → AllBelow p (xs ++ o ∷ [])
snoc_below p [] o h lt = (lt, tt)
snoc_below p (x ∷ xs) o h lt = (h.0, snoc_below p xs o h.1 lt)

pub nested_snoc : (xs : List Open) (o : Open) → AreNested (xs ++ o ∷ []) → AreNested xs × AllAbove o.id xs
nested_snoc [] o h = (tt, tt)
nested_snoc (x ∷ xs) o h =
    let k = nested_snoc xs o h.1 in
    let b = below_snoc x.id xs o h.0 in
    ((b.0, k.0), (b.1, k.1))

pub snoc_nested : (xs : List Open) (o : Open) → AreNested xs → AllAbove o.id xs → AreNested (xs ++ o ∷ [])
snoc_nested [] o h k = (tt, tt)
snoc_nested (x ∷ xs) o h k = (snoc_below x.id xs o h.0 k.0, snoc_nested xs o h.1 k.1)

pub placed_snoc : (n : ℕ) (numbers : List (Option ℕ)) (xs : List Open) (o : Open) → AreOpen n numbers (xs ++ o ∷ [])
    → AreOpen n numbers xs × (o.id < n) × (get_or numbers o.id None ≡ Some o.number)
placed_snoc n numbers [] o h = (tt, h.0, h.1)
placed_snoc n numbers (x ∷ xs) o h = let k = placed_snoc n numbers xs o h.2 in ((h.0, h.1, k.0), k.1, k.2)

pub snoc_placed : (n : ℕ) (numbers : List (Option ℕ)) (xs : List Open) (o : Open) → AreOpen n numbers xs
    → o.id < n → get_or numbers o.id None ≡ Some o.number → AreOpen n numbers (xs ++ o ∷ [])
snoc_placed n numbers [] o h lt e = (lt, e, tt)
snoc_placed n numbers (x ∷ xs) o h lt e = (h.0, h.1, snoc_placed n numbers xs o h.2 lt e)

-- a number more, at a place that is no open node's
pub placed_set : (n : ℕ) (numbers : List (Option ℕ)) (p k : ℕ) (xs : List Open) → AllAbove p xs → AreOpen n numbers xs
    → AreOpen n (set numbers p (Some k)) xs
placed_set n numbers p k [] above h = tt
placed_set n numbers p k (x ∷ xs) above h =
    let lt = above.0 in
    let other : x.id ≡ p → ⊥ = λ e. omega (arith, lt, e) in
    (h.0, get_or-set_other numbers p x.id (Some k) None other ∙ h.1, placed_set n numbers p k xs above.1 h.2)

-- ---- what was begun

node_of_within : (begun : Begun) (m : ℕ) (x : Node) → node_of begun m ≡ Some x → m < length begun
node_of_within [] m x e = absurd (cc)
node_of_within (y ∷ begun) zero x e = omega arith
node_of_within (y ∷ begun) (suc m) x e = let lt = node_of_within begun m x e in omega (arith, lt)

node_of_front : (begun later : Begun) (m : ℕ) → m < length begun → node_of (begun ++ later) m ≡ node_of begun m
node_of_front [] later m lt = absurd (omega (arith, lt))
node_of_front (y ∷ begun) later zero lt = refl
node_of_front (y ∷ begun) later (suc m) lt = node_of_front begun later m (omega (arith, lt))

node_of_opened : (begun : Begun) (m : ℕ) (x : Node) → node_of (begun ++ None ∷ []) m ≡ Some x → node_of begun m ≡ Some x
node_of_opened [] zero x e = absurd (cc)
node_of_opened [] (suc m) x e = absurd (cc)
node_of_opened (y ∷ begun) zero x e = e
node_of_opened (y ∷ begun) (suc m) x e = node_of_opened begun m x e

close_same : (begun : Begun) (n : ℕ) (x : Node) → n < length begun → node_of (close begun n x) n ≡ Some x
close_same [] n x lt = absurd (omega (arith, lt))
close_same (y ∷ begun) zero x lt = refl
close_same (y ∷ begun) (suc n) x lt = close_same begun n x (omega (arith, lt))

close_other : (begun : Begun) (n m : ℕ) (x : Node) → (m ≡ n → ⊥) → node_of (close begun n x) m ≡ node_of begun m
close_other [] n m x h = refl
close_other (y ∷ begun) zero zero x h = absurd (h refl)
close_other (y ∷ begun) zero (suc m) x h = refl
close_other (y ∷ begun) (suc n) zero x h = refl
close_other (y ∷ begun) (suc n) (suc m) x h = close_other begun n m x (λ e. h (ap suc e))

length-close : (begun : Begun) (n : ℕ) (x : Node) → length (close begun n x) ≡ length begun
length-close [] n x = refl
length-close (y ∷ begun) zero x = refl
length-close (y ∷ begun) (suc n) x = ap suc (length-close begun n x)

-- ---- the number of a part

-- a place without a number: its node stands nowhere
pub number_unknown : (rows : List Row) (begun : Begun) (numbers : List (Option ℕ)) (opens : List Open) (next p : ℕ)
    → AreApart rows → Known rows begun numbers opens next → p < length rows → get_or numbers p None ≡ None
    → number_of begun (table_node rows p) ≡ None
number_unknown rows begun numbers opens next p apart known lt e = by_number (number_of begun (table_node rows p)) refl
  where
    by_number : (o : Option ℕ) → number_of begun (table_node rows p) ≡ o → number_of begun (table_node rows p) ≡ None
    by_number None i = i
    by_number (Some k) i =
        let leads = number_leads begun (table_node rows p) k i in
        let s = known.stands k (table_node rows p) leads.0 in
        let same = apart.apart p s.place lt s.within s.is in
        let number : get_or numbers p None ≡ Some k =
        subst (λ (z : ℕ). get_or numbers z None ≡ Some k) (sym same) s.number in
        absurd (cc (e, number))

-- a place with a number, which isn't open: its node has that number
pub number_known : (rows : List Row) (begun : Begun) (numbers : List (Option ℕ)) (opens : List Open) (next p m : ℕ)
    → AreApart rows → Known rows begun numbers opens next → p < length rows → get_or numbers p None ≡ Some m
    → (IsOpen opens p → ⊥) → number_of begun (table_node rows p) ≡ Some m
number_known rows begun numbers opens next p m apart known lt e shut =
    there (known.numbered p m e)
  where
    by_number : node_of begun m ≡ Some (table_node rows p) → (o : Option ℕ)
        → number_of begun (table_node rows p) ≡ o → number_of begun (table_node rows p) ≡ Some m
    by_number is None i =
        let gone = number_none begun (table_node rows p) i in
        let here = stands_at begun m (table_node rows p) is in
        absurd (cc (gone, here))
    by_number is (Some k) i =
        let leads = number_leads begun (table_node rows p) k i in
        let s = known.stands k (table_node rows p) leads.0 in
        let same = apart.apart p s.place lt s.within s.is in
        let number : get_or numbers p None ≡ Some k =
        subst (λ (z : ℕ). get_or numbers z None ≡ Some k) (sym same) s.number in
        let one : k ≡ m = some_is k m (sym number ∙ e) in
        i ∙ ap (λ (z : ℕ). Some z) one

    there : IsOpen opens p ⊎ (node_of begun m ≡ Some (table_node rows p)) → number_of begun (table_node rows p) ≡ Some m
    there (inl h) = absurd (shut h)
    there (inr is) = by_number is (number_of begun (table_node rows p)) refl

-- ---- the numbers stay known

-- the innermost goes on
pub known_on : (rows : List Row) (begun : Begun) (numbers : List (Option ℕ)) (xs : List Open) (top : Open) (next : ℕ)
    → Known rows begun numbers (xs ++ top ∷ []) next → Known rows begun numbers (xs ++ on top ∷ []) next
known_on rows begun numbers xs top next known = record {
  numbered = λ p m e. elim (known.numbered p m e) [ inl h ↦ inl (open_on xs top p h) | inr is ↦ inr is ];
  stands = known.stands;
  below = known.below;
  one = known.one;
  count = known.count;
}

-- .. is whole
pub known_close : (rows : List Row) (begun : Begun) (numbers : List (Option ℕ)) (xs : List Open) (top : Open) (next : ℕ)
    → Known rows begun numbers (xs ++ top ∷ []) next → top.id < length rows
    → get_or numbers top.id None ≡ Some top.number
    → Known rows (close begun top.number (table_node rows top.id)) numbers xs next
known_close rows begun numbers xs top next known lt mine = record {
  numbered = λ p m e.
      elim (one_or p top.id) [
        | inl same ↦
            let number : m ≡ top.number =
            some_is m top.number (sym e ∙ ap (λ (z : ℕ). get_or numbers z None) same ∙ mine) in
            let room : top.number < length begun = omega (arith, known.below top.id top.number mine, known.count) in
            inr (ap (node_of (close begun top.number (table_node rows top.id))) number
            ∙ close_same begun top.number (table_node rows top.id) room
            ∙ ap (λ (z : ℕ). Some (table_node rows z)) (sym same))
        | inr other ↦
            let differs : m ≡ top.number → ⊥ =
            λ number. other (known.one p top.id m e (mine ∙ ap (λ (z : ℕ). Some z) (sym number))) in
            elim (known.numbered p m e) [
              | inl h ↦ elim (open_snoc xs top p h) [ inl k ↦ inl k | inr here ↦ absurd (other (sym here)) ]
              | inr is ↦ inr (close_other begun top.number m (table_node rows top.id) differs ∙ is)
            ]
      ];
  stands = λ m x e.
      elim (one_or m top.number) [
        | inl same ↦
            let room : top.number < length begun = omega (arith, known.below top.id top.number mine, known.count) in
            let is : table_node rows top.id ≡ x =
            some_is (table_node rows top.id) x
            (sym (close_same begun top.number (table_node rows top.id) room)
            ∙ ap (node_of (close begun top.number (table_node rows top.id))) (sym same) ∙ e) in
            record {
              place = top.id;
              within = lt;
              is = sym is;
              number = mine ∙ ap (λ (z : ℕ). Some z) (sym same);
            }
        | inr other ↦ known.stands m x (sym (close_other begun top.number m (table_node rows top.id) other) ∙ e)
      ];
  below = known.below;
  one = known.one;
  count = length-close begun top.number (table_node rows top.id) ∙ known.count;
}

-- .. has a part that is opened
pub known_open : (rows : List Row) (begun : Begun) (numbers : List (Option ℕ)) (opens : List Open) (new : Open)
    (next : ℕ)
    → Known rows begun numbers opens next → new.id < length numbers → get_or numbers new.id None ≡ None
    → Known rows (begun ++ None ∷ []) (set numbers new.id (Some next)) (opens ++ new ∷ []) (next + 1)
known_open rows begun numbers opens new next known lt free = record {
  numbered = λ p m e.
      elim (one_or p new.id) [
        | inl same ↦ inl (open_last opens new p (sym same))
        | inr other ↦
            elim (known.numbered p m (sym (get_or-set_other numbers new.id p (Some next) None other) ∙ e)) [
              | inl h ↦ inl (open_front opens (new ∷ []) p h)
              | inr is ↦ inr (node_of_front begun (None ∷ []) m (node_of_within begun m (table_node rows p) is) ∙ is)
            ]
      ];
  stands = λ m x e.
      let s = known.stands m x (node_of_opened begun m x e) in
      let other : s.place ≡ new.id → ⊥ =
      λ same. let number = s.number in
      let none : get_or numbers s.place None ≡ None = ap (λ (z : ℕ). get_or numbers z None) same ∙ free in
      absurd (cc (none, number)) in
      record {
        place = s.place;
        within = s.within;
        is = s.is;
        number = get_or-set_other numbers new.id s.place (Some next) None other ∙ s.number;
      };
  below = λ p m e.
      elim (one_or p new.id) [
        | inl same ↦ let is = mine p m same e in omega (arith, is)
        | inr other ↦
            let lower = known.below p m (sym (get_or-set_other numbers new.id p (Some next) None other) ∙ e) in
            omega (arith, lower)
      ];
  one = λ p q m e i.
      elim (one_or p new.id) [
        | inl same ↦
            elim (one_or q new.id) [
              | inl also ↦ same ∙ sym also
              | inr other ↦
                  let is = mine p m same e in
                  let lower = known.below q m (sym (get_or-set_other numbers new.id q (Some next) None other) ∙ i) in
                  absurd (omega (arith, is, lower))
            ]
        | inr other ↦
            elim (one_or q new.id) [
              | inl also ↦
                  let is = mine q m also i in
                  let lower = known.below p m (sym (get_or-set_other numbers new.id p (Some next) None other) ∙ e) in
                  absurd (omega (arith, is, lower))
              | inr more ↦
                  known.one p q m (sym (get_or-set_other numbers new.id p (Some next) None other) ∙ e)
                  (sym (get_or-set_other numbers new.id q (Some next) None more) ∙ i)
            ]
      ];
  count = let longer = length-append begun (None ∷ []) in omega (arith, longer, known.count);
}
  where
    mine : (p m : ℕ) → p ≡ new.id → get_or (set numbers new.id (Some next)) p None ≡ Some m → m ≡ next
    mine p m same e =
        sym (some_is next m (sym (get_or-set_same numbers new.id (Some next) None lt)
        ∙ ap (λ (z : ℕ). get_or (set numbers new.id (Some next)) z None) (sym same) ∙ e))
