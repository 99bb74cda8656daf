-- Type names in a type, each id looked at once.
use Rattle.std.proofs.Common.{◌≡◌, ℕ, zero, suc, ◌+◌, ◌<◌, ◌≤◌, List, [], ◌∷◌, ◌++◌, refl, sym, ap, ap₂, ◌∙◌, subst, Option, Some, None, Bool, true, false, ◌||◌, cond, nat_eq, arith, ◌⊎◌, inl, inr, slice_get}
use Rattle.std.specs.Prelude.{Err, ltb, ◌-◌, ◌&&◌, not}
use Rattle.std.specs.Option.{is_some}
use Rattle.std.specs.Cmp.Lexicographic.{nat_list_eq_equiv, same_text as same_bytes}
use Rattle.std.proofs.lemmas.Bool.{eqb-true, eq-eqb, lt-ltb, ltb-true, ltb-false}
use Rattle.cm_base.specs.declared.fault.Fault.{Fault}
use Rattle.sml_trees.specs.declared.name.At.{At}
use Rattle.indexmap.specs.IndexMap.{get}
use Rattle.semantic_objects.specs.declared.name.TyId.{TyId}
use Rattle.semantic_objects.specs.declared.name.TyId.TheVariants as id
use Rattle.semantic_objects.specs.declared.symbol.Symbol.{Symbol}
use Rattle.semantic_objects.specs.declared.symbol.Symbol.TheVariants as symbol
use Rattle.semantic_objects.specs.declared.name.TyName.{TyName}
use Rattle.semantic_objects.specs.Symbols.{same_text}
use Rattle.semantic_objects.proofs.Same.{text_is, text_same}
use Rattle.unification.specs.Types.{Ty, Types, put, size, size_all}
use Rattle.unification.proofs.Walking.{or_left, or_right}
use Rattle.type_nodes.specs.Tables.{Table, Has, whole, whole_all}
use Rattle.type_schemes.specs.Schemes.{HaveAll}
use Rattle.sml_modules.specs.Graphs.{Graph}
use Rattle.name_trails.specs.Trails.{same}
use Rattle.sml_types.specs.Looking.{LooksVariable}
use Rattle.static_semantics.specs.Inferring.{Progress, Scope, Answer, ◌>>=◌, gives, refuses_where}
use Rattle.static_semantics.specs.DatatypeInference.{same_as_home}
use Rattle.static_semantics.specs.CoreInference.{is_made_between, holds_made, any_holds_made, within_let}
use Rattle.type_phrases.specs.Inferred.{Answers, Refuses, home_scope}
use Rattle.type_phrases.proofs.Steps.{refused}
use Rattle.declaration_ends.specs.declared.passed.Passed.{Passed}
use Rattle.declaration_ends.specs.declared.passed.Numbers.{Numbers}
use Rattle.declaration_ends.specs.Leaving.{has_passed, Adds, Opens, IsLone, IsEntered, IsDue, IsOver, AllOver, Lead, SteppedOn, IsStepped, IsWalk}

-- ---- ids that were looked at

added_kept : (number n : ℕ) (o : Option ℕ) → is_some o ≡ true → is_some (cond (nat_eq number n) (Some number) o) ≡ true
added_kept number n o h = by_test (nat_eq number n)
  where
    by_test : (b : Bool) → is_some (cond b (Some number) o) ≡ true
    by_test true = refl
    by_test false = h

added_only : (number n : ℕ) (o : Option ℕ) → is_some (cond (nat_eq number n) (Some number) o) ≡ true
    → (is_some o ≡ true) ⊎ (number ≡ n)
added_only number n o h = by_test (nat_eq number n) refl h
  where
    by_test : (b : Bool) → nat_eq number n ≡ b → is_some (cond b (Some number) o) ≡ true
        → (is_some o ≡ true) ⊎ (number ≡ n)
    by_test true e k = inr (eqb-true number n e)
    by_test false e k = inl k

mapped : {P Q R : Type 0} → P ⊎ Q → (Q → R) → P ⊎ R
mapped (inl p) f = inl p
mapped (inr q) f = inr (f q)

abbrev IsNoted : Numbers → ℕ → Numbers → Type 0
IsNoted old number new = (n : ℕ) → get nat_eq new.numbers n ≡ cond (nat_eq number n) (Some number) (get nat_eq old.numbers n)

noted_it : (old new : Numbers) (number : ℕ) → IsNoted old number new → is_some (get nat_eq new.numbers number) ≡ true
noted_it old new number h =
    ap is_some (h number)
    ∙ ap (λ b. is_some (cond b (Some number) (get nat_eq old.numbers number))) (eq-eqb number number refl)

pub adds_variable : (old new : Passed) (number : ℕ) (numbers : Numbers) → IsNoted old.variables number numbers
    → new ≡ (let p : Passed = record { variables = numbers; nodes = old.nodes } in p) → Adds old (id.Variable number) new
adds_variable old new number numbers h e =
    subst (Adds old (id.Variable number)) (sym e) (record {
      it = noted_it old.variables numbers number h;
      kept = keep;
      only = only;
    })
  where
    next : Passed
    next = record { variables = numbers; nodes = old.nodes }

    keep : (b : TyId) → has_passed old b ≡ true → has_passed next b ≡ true
    keep (id.Variable n) k = ap is_some (h n) ∙ added_kept number n (get nat_eq old.variables.numbers n) k
    keep (id.Made i) k = k

    only : (b : TyId) → has_passed next b ≡ true → (has_passed old b ≡ true) ⊎ (id.Variable number ≡ b)
    only (id.Variable n) k = mapped (added_only number n (get nat_eq old.variables.numbers n)
        (sym (ap is_some (h n)) ∙ k)) (ap id.Variable)
    only (id.Made i) k = inl k

pub adds_node : (old new : Passed) (at : ℕ) (numbers : Numbers) → IsNoted old.nodes at numbers
    → new ≡ (let p : Passed = record { variables = old.variables; nodes = numbers } in p) → Adds old (id.Made at) new
adds_node old new at numbers h e =
    subst (Adds old (id.Made at)) (sym e) (record {
      it = noted_it old.nodes numbers at h;
      kept = keep;
      only = only;
    })
  where
    next : Passed
    next = record { variables = old.variables; nodes = numbers }

    keep : (b : TyId) → has_passed old b ≡ true → has_passed next b ≡ true
    keep (id.Variable n) k = k
    keep (id.Made i) k = ap is_some (h i) ∙ added_kept at i (get nat_eq old.nodes.numbers i) k

    only : (b : TyId) → has_passed next b ≡ true → (has_passed old b ≡ true) ⊎ (id.Made at ≡ b)
    only (id.Variable n) k = inl k
    only (id.Made i) k = mapped (added_only at i (get nat_eq old.nodes.numbers i)
        (sym (ap is_some (h i)) ∙ k)) (ap id.Made)

pub none_passed : (p : Passed) → ((n : ℕ) → get nat_eq p.variables.numbers n ≡ None)
    → ((n : ℕ) → get nat_eq p.nodes.numbers n ≡ None) → (a : TyId) → has_passed p a ≡ false
none_passed p h k (id.Variable n) = ap is_some (h n)
none_passed p h k (id.Made i) = ap is_some (k i)

-- ---- lists of ids

at_front : {A : Type 0} (xs ys : List A) (k : ℕ) (x : A) → slice_get xs k ≡ Some x → slice_get (xs ++ ys) k ≡ Some x
at_front [] ys k x h = absurd (cc)
at_front (z ∷ xs) ys zero x h = h
at_front (z ∷ xs) ys (suc k) x h = at_front xs ys k x h

at_back : {A : Type 0} (xs ys : List A) (k : ℕ) (x : A) → slice_get ys k ≡ Some x
    → (j : ℕ) × (slice_get (xs ++ ys) j ≡ Some x)
at_back [] ys k x h = (k, h)
at_back (z ∷ xs) ys k x h = (let r = at_back xs ys k x h in (suc r.0, r.1))

at_either : {A : Type 0} (xs ys : List A) (k : ℕ) (x : A) → slice_get (xs ++ ys) k ≡ Some x
    → (slice_get xs k ≡ Some x) ⊎ ((j : ℕ) × (slice_get ys j ≡ Some x))
at_either [] ys k x h = inr (k, h)
at_either (z ∷ xs) ys zero x h = inl h
at_either (z ∷ xs) ys (suc k) x h = at_either xs ys k x h

have_append : (t : Table) (xs ys : List TyId) → HaveAll t xs → HaveAll t ys → HaveAll t (xs ++ ys)
have_append t xs ys h k i a e = by_side (at_either xs ys i a e)
  where
    by_side : (slice_get xs i ≡ Some a) ⊎ ((j : ℕ) × (slice_get ys j ≡ Some a)) → Has t a
    by_side (inl f) = h i a f
    by_side (inr r) = k r.0 a r.1

one_left : (a b : TyId) (j : ℕ) → slice_get (a ∷ []) j ≡ Some b → a ≡ b
one_left a b zero h = cc
one_left a b (suc j) h = absurd (cc)

size_append : (t : Table) (xs ys : List TyId)
    → size_all (whole_all t (xs ++ ys)) ≡ size_all (whole_all t xs) + size_all (whole_all t ys)
size_append t [] ys = omega arith
size_append t (x ∷ xs) ys =
    let k : size_all (whole_all t (xs ++ ys)) ≡ size_all (whole_all t xs) + size_all (whole_all t ys) = size_append t xs ys in
    omega (arith, k)

size_some : (u : Ty) → 1 ≤ size u
size_some (Ty.Var n) = omega arith
size_some (Ty.Made c ts) = omega arith

-- ---- steps

-- what was due is due, if the id was looked at
due_left : (p : Passed) (before after : List TyId) (a b : TyId) → has_passed p a ≡ true
    → ((k : ℕ) → slice_get before k ≡ Some b → (j : ℕ) × (slice_get after j ≡ Some b))
    → IsDue p (before ++ a ∷ []) b → IsDue p after b
due_left p before after a b h f (inl k) = inl k
due_left p before after a b h f (inr r) = by_side (at_either before (a ∷ []) r.0 b r.1)
  where
    by_side : (slice_get before r.0 ≡ Some b) ⊎ ((j : ℕ) × (slice_get (a ∷ []) j ≡ Some b)) → IsDue p after b
    by_side (inl e) = inr (f r.0 e)
    by_side (inr e) = inl (subst (λ x. has_passed p x ≡ true) (one_left a b e.0 e.1) h)

due_more : (old new : Passed) (ids : List TyId) (b : TyId)
    → ((c : TyId) → has_passed old c ≡ true → has_passed new c ≡ true) → IsDue old ids b → IsDue new ids b
due_more old new ids b f (inl h) = inl (f b h)
due_more old new ids b f (inr r) = inr r

over_as : (t : Table) (home : List ℕ) (from to : ℕ) (p q : Passed) (ids after : List TyId) (a : TyId)
    → ((b : TyId) → IsDue p ids b → IsDue q after b) → IsOver t home from to p ids a → IsOver t home from to q after a
over_as t home from to p q ids after a f (inl h) = inl h
over_as t home from to p q ids after a f (inr o) = inr (record {
  symbol = o.symbol;
  parts = o.parts;
  is = o.is;
  clear = o.clear;
  due = λ k b e. f b (o.due k b e);
})

-- an id that was looked at already
pub stepped_over : (t : Table) (home : List ℕ) (from to : ℕ) (a : TyId) (old new : Passed) (ids : List TyId)
    → has_passed old a ≡ true → new ≡ old → SteppedOn t home from to a old new ids ids
stepped_over t home from to a old new ids h e = subst (λ p. SteppedOn t home from to a old p ids ids) (sym e) (record {
  have = λ k. k;
  lead = λ root f k. k;
  due = left;
  over = λ k b i. over_as t home from to old old (ids ++ a ∷ []) ids b left (k b i);
  less = let n : 1 ≤ size (whole t a) = size_some (whole t a) in omega (arith, n);
})
  where
    left : (b : TyId) → IsDue old (ids ++ a ∷ []) b → IsDue old ids b
    left b = due_left old ids ids a b h (λ k i. (k, i))

all_holds : (t : Table) (home : List ℕ) (from to : ℕ) (parts : List TyId) (k : ℕ) (b : TyId)
    → slice_get parts k ≡ Some b → holds_made home from to (whole t b) ≡ true
    → any_holds_made home from to (whole_all t parts) ≡ true
all_holds t home from to [] k b e h = absurd (cc)
all_holds t home from to (x ∷ parts) zero b e h =
    let f : b ≡ x = cc in
    or_left (holds_made home from to (whole t x)) (any_holds_made home from to (whole_all t parts))
    (subst (λ z. holds_made home from to (whole t z) ≡ true) f h)
all_holds t home from to (x ∷ parts) (suc k) b e h =
    or_right (holds_made home from to (whole t x)) (any_holds_made home from to (whole_all t parts))
    (all_holds t home from to parts k b e h)

-- a variable
pub stepped_lone : (t : Table) (home : List ℕ) (from to : ℕ) (a : TyId) (old new : Passed) (before after : List TyId)
    → Adds old a new → IsLone t a before after → SteppedOn t home from to a old new before after
stepped_lone t home from to a old new before after h l =
    subst (λ ids. SteppedOn t home from to a old new before ids) (sym l.ids) (record {
      have = λ k. k;
      lead = λ root f k. k;
      due = left;
      over = λ k b i. by_side k b (h.only b i);
      less = let n : 1 ≤ size (whole t a) = size_some (whole t a) in omega (arith, n);
    })
  where
    left : (b : TyId) → IsDue old (before ++ a ∷ []) b → IsDue new before b
    left b d = due_left new before before a b h.it (λ k i. (k, i)) (due_more old new (before ++ a ∷ []) b h.kept d)

    by_side : AllOver t home from to old (before ++ a ∷ []) → (b : TyId) → (has_passed old b ≡ true) ⊎ (a ≡ b)
        → IsOver t home from to new before b
    by_side k b (inl i) = over_as t home from to old new (before ++ a ∷ []) before b left (k b i)
    by_side k b (inr e) = inl (l.number, ap (whole t) (sym e) ∙ l.is)

-- a symbol over parts
pub stepped_open : (t : Table) (home : List ℕ) (from to : ℕ) (a : TyId) (old new : Passed) (before after : List TyId)
    → Adds old a new → Opens t home from to a before after → SteppedOn t home from to a old new before after
stepped_open t home from to a old new before after h o =
    subst (λ ids. SteppedOn t home from to a old new before ids) (sym o.ids) (record {
      have = λ k. have_append t before o.parts k o.has;
      lead = λ root f k i b e j. lead root f k i b (at_either before o.parts i b e) j;
      due = left;
      over = λ k b i. by_side k b (h.only b i);
      less = let n : size (whole t a) ≡ size_all (whole_all t o.parts) + 1 = ap size o.is in
          let m : size_all (whole_all t (before ++ o.parts)) ≡ size_all (whole_all t before) + size_all (whole_all t o.parts) =
          size_append t before o.parts in omega (arith, n, m);
    })
  where
    left : (b : TyId) → IsDue old (before ++ a ∷ []) b → IsDue new (before ++ o.parts) b
    left b d = due_left new before (before ++ o.parts) a b h.it (λ k i. (k, at_front before o.parts k b i))
        (due_more old new (before ++ a ∷ []) b h.kept d)

    lead : (root : TyId) → (holds_made home from to (whole t a) ≡ true → holds_made home from to (whole t root) ≡ true)
        → Lead t home from to root before → (i : ℕ)
        (b : TyId) → (slice_get before i ≡ Some b) ⊎ ((j : ℕ) × (slice_get o.parts j ≡ Some b))
        → holds_made home from to (whole t b) ≡ true → holds_made home from to (whole t root) ≡ true
    lead root f k i b (inl e) j = k i b e j
    lead root f k i b (inr r) j = f (ap (holds_made home from to) o.is
        ∙ or_right (is_made_between home from to o.symbol) (any_holds_made home from to (whole_all t o.parts))
        (all_holds t home from to o.parts r.0 b r.1 j))

    by_side : AllOver t home from to old (before ++ a ∷ []) → (b : TyId) → (has_passed old b ≡ true) ⊎ (a ≡ b)
        → IsOver t home from to new (before ++ o.parts) b
    by_side k b (inl i) = over_as t home from to old new (before ++ a ∷ []) (before ++ o.parts) b left (k b i)
    by_side k b (inr e) = inr (record {
      symbol = o.symbol;
      parts = o.parts;
      is = ap (whole t) (sym e) ∙ o.is;
      clear = o.clear;
      due = λ i c f. inr (at_back before o.parts i c f);
    })

pub stepped_in : (t : Table) (home : List ℕ) (from to : ℕ) (a : TyId) (old new : Passed) (before after : List TyId)
    (found : Bool) → Adds old a new → IsEntered t home from to a before after found
    → IsStepped t home from to a old new before after found
stepped_in t home from to a old new before after true h e = e
stepped_in t home from to a old new before after false h (inl l) =
    stepped_lone t home from to a old new before after h l
stepped_in t home from to a old new before after false h (inr o) =
    stepped_open t home from to a old new before after h o

-- ---- walks

pub walk_begun : (t : Table) (home : List ℕ) (from to : ℕ) (root : TyId) (p : Passed) (ids : List TyId)
    → ((a : TyId) → has_passed p a ≡ false) → ids ≡ root ∷ [] → Has t root → IsWalk t home from to root p ids
walk_begun t home from to root p ids h e k = subst (IsWalk t home from to root p) (sym e) (record {
  have = λ i a f. subst (Has t) (one_left root a i f) k;
  lead = λ i b f j. subst (λ x. holds_made home from to (whole t x) ≡ true) (sym (one_left root b i f)) j;
  due = inr (0, refl);
  over = λ a i. absurd (let f : true ≡ false = sym i ∙ h a in cc);
})

pub walk_has : (t : Table) (home : List ℕ) (from to : ℕ) (root a : TyId) (p : Passed) (ids before : List TyId)
    → IsWalk t home from to root p ids → ids ≡ before ++ a ∷ [] → Has t a
walk_has t home from to root a p ids before w e =
    let r = at_back before (a ∷ []) 0 a refl in
    w.have r.0 a (ap (λ xs. slice_get xs r.0) e ∙ r.1)

pub walk_found : (t : Table) (home : List ℕ) (from to : ℕ) (root a : TyId) (p : Passed) (ids before : List TyId)
    → IsWalk t home from to root p ids → ids ≡ before ++ a ∷ [] → holds_made home from to (whole t a) ≡ true
    → true ≡ holds_made home from to (whole t root)
walk_found t home from to root a p ids before w e h =
    let r = at_back before (a ∷ []) 0 a refl in
    sym (w.lead r.0 a (ap (λ xs. slice_get xs r.0) e ∙ r.1) h)

pub walk_on : (t : Table) (home : List ℕ) (from to : ℕ) (root a : TyId) (old new : Passed) (ids before after : List TyId)
    → IsWalk t home from to root old ids → ids ≡ before ++ a ∷ []
    → SteppedOn t home from to a old new before after → IsWalk t home from to root new after
walk_on t home from to root a old new ids before after w e s =
    let v : IsWalk t home from to root old (before ++ a ∷ []) = subst (IsWalk t home from to root old) e w in
    let r = at_back before (a ∷ []) 0 a refl in
    record {
      have = s.have (λ i b f. v.have i b (at_front before (a ∷ []) i b f));
      lead = s.lead root (λ h. v.lead r.0 a r.1 h)
          (λ i b f j. v.lead i b (at_front before (a ∷ []) i b f) j);
      due = s.due root v.due;
      over = s.over v.over;
    }

pub walk_less : (t : Table) (home : List ℕ) (from to : ℕ) (a : TyId) (old new : Passed) (ids before after : List TyId)
    → ids ≡ before ++ a ∷ [] → SteppedOn t home from to a old new before after
    → size_all (whole_all t after) < size_all (whole_all t ids)
walk_less t home from to a old new ids before after e s =
    let k : size_all (whole_all t (before ++ a ∷ [])) ≡ size_all (whole_all t before) + size_all (whole_all t (a ∷ [])) =
    size_append t before (a ∷ []) in
    let l : size_all (whole_all t ids) ≡ size_all (whole_all t (before ++ a ∷ [])) =
    ap (λ xs. size_all (whole_all t xs)) e in
    omega (arith, k, l, s.less)

passed_at : (p : Passed) (a : TyId) → IsDue p [] a → has_passed p a ≡ true
passed_at p a (inl h) = h
passed_at p a (inr r) = absurd (let f : slice_get {X = TyId} [] r.0 ≡ Some a = r.1 in cc)

made_symbol : (c d : Symbol) (ts us : Types) → Ty.Made c ts ≡ Ty.Made d us → c ≡ d
made_symbol c d ts us h = cc

made_parts : (c d : Symbol) (ts us : Types) → Ty.Made c ts ≡ Ty.Made d us → ts ≡ us
made_parts c d ts us h = cc

neither : (a b : Bool) → a ≡ false → b ≡ false → (a || b) ≡ false
neither a b h k = ap₂ (λ x y. x || y) h k

record MadeOver (t : Table) (home : List ℕ) (from to : ℕ) (p : Passed) (c : Symbol) (ts : Types) : Type 0 where
  parts : List TyId
  clear : is_made_between home from to c ≡ false
  are : ts ≡ whole_all t parts
  due : (k : ℕ) (b : TyId) → slice_get parts k ≡ Some b → IsDue p [] b

made_over : (t : Table) (home : List ℕ) (from to : ℕ) (p : Passed) (c : Symbol) (ts : Types) (a : TyId)
    → whole t a ≡ Ty.Made c ts → IsOver t home from to p [] a → MadeOver t home from to p c ts
made_over t home from to p c ts a e (inl r) = absurd (let f : Ty.Var r.0 ≡ Ty.Made c ts = sym r.1 ∙ e in cc)
made_over t home from to p c ts a e (inr o) =
    let f : Ty.Made c ts ≡ Ty.Made o.symbol (whole_all t o.parts) = sym e ∙ o.is in
    record {
      parts = o.parts;
      clear = ap (is_made_between home from to) (made_symbol c o.symbol ts (whole_all t o.parts) f) ∙ o.clear;
      are = made_parts c o.symbol ts (whole_all t o.parts) f;
      due = o.due;
    }

mutual
  clear : (t : Table) (home : List ℕ) (from to : ℕ) (p : Passed) → AllOver t home from to p [] → (u : Ty) (a : TyId)
      → has_passed p a ≡ true → whole t a ≡ u → holds_made home from to u ≡ false
  clear t home from to p h (Ty.Var n) a k e = refl
  clear t home from to p h (Ty.Made c ts) a k e =
      let o : MadeOver t home from to p c ts = made_over t home from to p c ts a e (h a k) in
      neither (is_made_between home from to c) (any_holds_made home from to ts) o.clear
      (clear_all t home from to p h ts o.parts o.are o.due)

  clear_all : (t : Table) (home : List ℕ) (from to : ℕ) (p : Passed) → AllOver t home from to p [] → (ts : Types)
      (parts : List TyId) → ts ≡ whole_all t parts → ((k : ℕ) (b : TyId) → slice_get parts k ≡ Some b → IsDue p [] b)
      → any_holds_made home from to ts ≡ false
  clear_all t home from to p h Types.Nil parts e d = refl
  clear_all t home from to p h (Types.Cons u us) [] e d = absurd (cc)
  clear_all t home from to p h (Types.Cons u us) (b ∷ parts) e d =
      let f : u ≡ whole t b = cc in
      let g : us ≡ whole_all t parts = cc in
      neither (holds_made home from to u) (any_holds_made home from to us)
      (clear t home from to p h u b (passed_at p b (d 0 b refl)) (sym f))
      (clear_all t home from to p h us parts g (λ k c i. d (suc k) c i))

pub walk_done : (t : Table) (home : List ℕ) (from to : ℕ) (root : TyId) (p : Passed) (ids : List TyId)
    → IsWalk t home from to root p ids → ids ≡ [] → false ≡ holds_made home from to (whole t root)
walk_done t home from to root p ids w e =
    let v : IsWalk t home from to root p [] = subst (IsWalk t home from to root p) e w in
    sym (clear t home from to p v.over (whole t root) root (passed_at p root v.due) refl)

-- ---- what stands at an id

pub lone_look : (t : Table) (a : TyId) (eq rigid : Bool) (ids : List TyId) → LooksVariable t a eq rigid
    → IsLone t a ids ids
lone_look t a eq rigid ids h = record { number = h.number; is = h.is; ids = refl }

pub opens_of : (t : Table) (home : List ℕ) (from to : ℕ) (a : TyId) (symbol : Symbol) (parts before after : List TyId)
    → whole t a ≡ Ty.Made symbol (whole_all t parts) → HaveAll t parts → is_made_between home from to symbol ≡ false
    → after ≡ before ++ parts → IsLone t a before after ⊎ Opens t home from to a before after
opens_of t home from to a symbol parts before after is has none ids =
    inr (record { symbol = symbol; parts = parts; is = is; clear = none; has = has; ids = ids })

pub name_stands : (t : Table) (home : List ℕ) (from to : ℕ) (a : TyId) (name : TyName) (parts : List TyId) (b : Bool)
    → whole t a ≡ Ty.Made (symbol.Name name) (whole_all t parts) → b ≡ is_made_between home from to (symbol.Name name)
    → b ≡ true → holds_made home from to (whole t a) ≡ true
name_stands t home from to a name parts b is h k =
    ap (holds_made home from to) is
    ∙ or_left (is_made_between home from to (symbol.Name name)) (any_holds_made home from to (whole_all t parts))
    (sym h ∙ k)

-- ---- numbers

below_same : (from to n : ℕ) → from ≤ n → ltb n (from + (to - from)) ≡ ltb n to
below_same from to n h = by_tests (ltb n (from + (to - from))) (ltb n to) refl refl
  where
    by_tests : (b c : Bool) → ltb n (from + (to - from)) ≡ b → ltb n to ≡ c → b ≡ c
    by_tests true true e f = refl
    by_tests false false e f = refl
    by_tests true false e f =
        let k : n < from + (to - from) = ltb-true n (from + (to - from)) e in
        let l : to ≤ n = ltb-false n to f in absurd (omega (arith, h, k, l))
    by_tests false true e f =
        let k : from + (to - from) ≤ n = ltb-false n (from + (to - from)) e in
        let l : n < to = ltb-true n to f in absurd (omega (arith, h, k, l))

pub other_owner : (home : List ℕ) (from to : ℕ) (name : TyName) (own : Bool) → own ≡ same_as_home home name.owner
    → own ≡ false → false ≡ is_made_between home from to (symbol.Name name)
other_owner home from to name own h k =
    sym (ap (λ b. b && (not (ltb name.number from) && ltb name.number (from + (to - from)))) (sym h ∙ k))

pub number_before : (home : List ℕ) (from to : ℕ) (name : TyName) (own : Bool) → own ≡ same_as_home home name.owner
    → own ≡ true → name.number < from → false ≡ is_made_between home from to (symbol.Name name)
number_before home from to name own h k l =
    sym (ap (λ b. b && (not (ltb name.number from) && ltb name.number (from + (to - from)))) (sym h ∙ k)
    ∙ ap (λ b. not b && ltb name.number (from + (to - from))) (lt-ltb name.number from l))

pub number_from : (home : List ℕ) (from to : ℕ) (name : TyName) (own : Bool) → own ≡ same_as_home home name.owner
    → own ≡ true → from ≤ name.number → ltb name.number to ≡ is_made_between home from to (symbol.Name name)
number_from home from to name own h k l =
    sym (ap (λ b. b && (not (ltb name.number from) && ltb name.number (from + (to - from)))) (sym h ∙ k)
    ∙ ap (λ b. not b && ltb name.number (from + (to - from))) (not_below from name.number l)
    ∙ below_same from to name.number l)
  where
    not_below : (m n : ℕ) → m ≤ n → ltb n m ≡ false
    not_below m n i = by_test (ltb n m) refl
      where
        by_test : (b : Bool) → ltb n m ≡ b → b ≡ false
        by_test true e = let j : n < m = ltb-true n m e in absurd (omega (arith, i, j))
        by_test false e = refl

pub texts_alike : (a b : List ℕ) → same_text a b ≡ same b a
texts_alike a b = by_tests (same_text a b) (same b a) refl refl
  where
    by_tests : (c d : Bool) → same_text a b ≡ c → same b a ≡ d → c ≡ d
    by_tests true true e f = refl
    by_tests false false e f = refl
    by_tests true false e f =
        let k : same a a ≡ true = nat_list_eq_equiv.refl a in
        let l : same a a ≡ false = subst (λ z. same z a ≡ false) (sym (text_is a b e)) f in
        absurd (cc)
    by_tests false true e f =
        let k : same_text a a ≡ true = text_same a in
        let l : same_text a a ≡ false = subst (λ z. same_text a z ≡ false) (same_bytes b a (sym f)) e in
        absurd (cc)

-- ---- the type of a `let`

pub let_passes : (sc : Scope) (at : At) (from to : ℕ) (r : Ty × Progress) (home : List ℕ) (b : Bool) → home ≡ sc.home
    → b ≡ holds_made home from to (put r.1.types.stands r.0) → b ≡ false → within_let sc at from to r ≡ gives r
let_passes sc at from to r home b h k l =
    ap (λ c. refuses_where c 41 sc at >>= λ u. gives r)
    (ap (λ z. holds_made z from to (put r.1.types.stands r.0)) (sym h) ∙ sym k ∙ l)

pub let_refused : {R : Type 0} (g : Graph) (at : At) (from to : ℕ) (r : Ty × Progress) (home : List ℕ) (b : Bool)
    (read : R → Ty × Progress) (e : Fault) → home ≡ g.home
    → b ≡ holds_made home from to (put r.1.types.stands r.0) → b ≡ true → Refuses g 41 at [] e
    → Answers (within_let (home_scope g) at from to r) read (Err e)
let_refused g at from to r home b read e h k l f =
    subst (λ (w : Answer (Ty × Progress)). Answers w read (Err e))
    (sym (ap (λ c. refuses_where c 41 (home_scope g) at >>= λ u. gives r)
    (ap (λ z. holds_made z from to (put r.1.types.stands r.0)) (sym h) ∙ sym k ∙ l)))
    (refused g (home_scope g) 41 at [] read e refl f)
