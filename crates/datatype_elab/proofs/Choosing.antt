-- The greatest choice of datatypes that admit equality, from what each of them needs.
use Rattle.std.proofs.Common.{◌≡◌, ◌≢◌, ℕ, ◌+◌, ◌<◌, List, [], ◌∷◌, ◌++◌, length, get_or, set, replicate, map, take, refl, sym, ap, ap₂, ◌∙◌, subst, Option, Some, None, Bool, true, false, ◌||◌, inl, inr, ◌⊎◌, zero, suc, arith}
use Rattle.std.specs.Prelude.{Contains, cond, Result, Ok, Err, OnOk, IfOk}
use Rattle.std.proofs.lemmas.Bool.{cases_eq}
use Rattle.std.proofs.lemmas.List.{get_or-set_same, get_or-set_other, length-set, length-replicate, length-map, map_more, take_all, take-append-le}
use Rattle.semantic_objects.specs.declared.symbol.Symbol.{Symbol}
use Rattle.semantic_objects.specs.Trees.{Tree}
use Rattle.unification.specs.Types.{Ty, Types}
use Rattle.unification.specs.Closing.{closed_over, closed_over_all, is_among, place_of}
use Rattle.type_nodes.specs.Tables.{Table, type_of}
use Rattle.static_semantics.specs.DatatypeInference.{counted, Dat, equality_choice}
use Rattle.equality_types.specs.Choices.{AllAreTypes, IsGreatest}
use Rattle.equality_laws.specs.Needs.{Need, need_of, is_barred, are_barred, held, all_held, barred_over, held_over, argument_barred, argument_held, cons_barred, cons_held, barred_of, held_of}
use Rattle.equality_laws.specs.Promises.{AreHoldersOf, GreatestChoicesAreTaken}
use Rattle.listed_types.specs.declared.listed.ListedType.{ListedType}
use Rattle.datatype_elab.specs.declared.cons.ConRead.{ConRead}
use Rattle.datatype_elab.specs.declared.cons.Variables.{Variables}
use Rattle.datatype_elab.specs.declared.dats.DatRead.{DatRead}
use Rattle.datatype_elab.specs.declared.needs.NewNames.{NewNames}
use Rattle.datatype_elab.specs.Reading.{con_of, argument_ty, IsArgument, AreCons}
use Rattle.datatype_elab.specs.Listing.{dat_of, AreDats}
use Rattle.datatype_elab.specs.Wants.{need_in, wanted_over, wanted, all_wanted, In, AddsWants}
use Rattle.datatype_elab.specs.Choosing.{argument_wanted, cons_wanted, dat_wanted, is_bar, has_none, holders_at, AddsWanted, AddsHolders, wanted_at, Gathered}
use Rattle.datatype_elab.proofs.Wanting.{in_left, in_right, in_either}

-- ---- all constructors

pub record WantsSoFar (all left found : List (Option ℕ)) : Type 0 where
  pub more : (x : Option ℕ) → In x found → In x all
  pub sub : (x : Option ℕ) → In x left → In x all
  pub done : (x : Option ℕ) → In x all → In x found ⊎ In x left

pub wants_none : (all found : List (Option ℕ)) → found ≡ [] → WantsSoFar all all found
wants_none all found e = record {
  more = λ x h. absurd (subst (In x) e h);
  sub = λ x h. h;
  done = λ x h. inr h;
}

pub wants_more : (need : Symbol → Need) (all : List (Option ℕ)) (left rest : List ConRead) (con : ConRead)
    (found after : List (Option ℕ)) → WantsSoFar all (cons_wanted need left) found → left ≡ con ∷ rest
    → AddsWants (argument_wanted need con.arg) found after → WantsSoFar all (cons_wanted need rest) after
wants_more need all left rest con found after inv e adds =
    let same : cons_wanted need left ≡ argument_wanted need con.arg ++ cons_wanted need rest = ap (cons_wanted need) e in
    record {
      more = λ x h. elim (adds.more x h) [
        | inl k ↦ inv.more x k
        | inr k ↦ inv.sub x (subst (In x) (sym same) (in_left x (argument_wanted need con.arg) (cons_wanted need rest) k))
      ];
      sub = λ x h. inv.sub x (subst (In x) (sym same) (in_right x (argument_wanted need con.arg) (cons_wanted need rest) h));
      done = λ x h. elim (inv.done x h) [
        | inl k ↦ inl (adds.kept x k)
        | inr k ↦ elim (in_either x (argument_wanted need con.arg) (cons_wanted need rest) (subst (In x) same k)) [
          | inl l ↦ inl (adds.all x l)
          | inr l ↦ inr l
        ]
      ];
    }

pub wants_all : (need : Symbol → Need) (all : List (Option ℕ)) (left : List ConRead) (found : List (Option ℕ))
    → WantsSoFar all (cons_wanted need left) found → left ≡ [] → AddsWants all [] found
wants_all need all left found inv e = record {
  more = λ x h. inr (inv.more x h);
  kept = λ x h. absurd h;
  all = λ x h. elim (inv.done x h) [
    | inl k ↦ k
    | inr k ↦ absurd (subst (λ l. In x (cons_wanted need l)) e k)
  ];
}

-- ---- what stands against it

none_in : (wants : List (Option ℕ)) → has_none wants ≡ true → In None wants
none_in [] h = absurd (cc)
none_in (None ∷ wants) h = inl refl
none_in (Some at ∷ wants) h = inr (none_in wants h)

in_none : (wants : List (Option ℕ)) → In None wants → has_none wants ≡ true
in_none [] h = absurd h
in_none (None ∷ wants) h = refl
in_none (Some at ∷ wants) (inl e) = absurd (cc)
in_none (Some at ∷ wants) (inr h) = in_none wants h

same_tests : (a b : Bool) → (a ≡ true → b ≡ true) → (b ≡ true → a ≡ true) → a ≡ b
same_tests true b h k = sym (h refl)
same_tests false true h k = k refl
same_tests false false h k = refl

found_either : (ws found : List (Option ℕ)) (x : Option ℕ) → AddsWants ws [] found → In x found → In x ws
found_either ws found x h i = elim (h.more x i) [ inl j ↦ absurd j | inr j ↦ j ]

pub bars_same : (ws found : List (Option ℕ)) → AddsWants ws [] found → has_none found ≡ has_none ws
bars_same ws found h = same_tests (has_none found) (has_none ws)
    (λ e. in_none ws (found_either ws found None h (none_in found e)))
    (λ e. in_none found (h.all None (none_in ws e)))

pub holders_same : (old new : List (List ℕ)) (ws found : List (Option ℕ)) (at : ℕ) → AddsWants ws [] found
    → AddsHolders old new found at → AddsHolders old new ws at
holders_same old new ws found at h k = record {
  counted = k.counted;
  more = λ p a i. elim (k.more p a i) [
    | inl j ↦ inl j
    | inr j ↦ inr (j.0, found_either ws found (Some p) h j.1)
  ];
  kept = k.kept;
  all = λ p i. k.all p (h.all (Some p) i);
}

-- ---- holders

set_cases : (xs : List (List ℕ)) (at : ℕ) (x : List ℕ) (k : ℕ) → at < length xs
    → ((k ≡ at) × (holders_at (set xs at x) k ≡ x)) ⊎ ((k ≢ at) × (holders_at (set xs at x) k ≡ holders_at xs k))
set_cases xs at x k within = elim (cases_eq k at) [
  | inl same ↦ inl (same, rw same (get_or-set_same xs at x [] within))
  | inr other ↦ inr (other, get_or-set_other xs at k x [] other)
]

pub record HoldersSoFar (old now : List (List ℕ)) (wants left : List (Option ℕ)) (at : ℕ) : Type 0 where
  pub counted : length now ≡ length old
  pub more : (p a : ℕ) → In a (holders_at now p) → In a (holders_at old p) ⊎ ((a ≡ at) × In (Some p) wants)
  pub kept : (p a : ℕ) → In a (holders_at old p) → In a (holders_at now p)
  pub sub : (x : Option ℕ) → In x left → In x wants
  pub done : (p : ℕ) → In (Some p) wants → In at (holders_at now p) ⊎ In (Some p) left

pub holders_none : (old : List (List ℕ)) (wants : List (Option ℕ)) (at : ℕ) → HoldersSoFar old old wants wants at
holders_none old wants at = record {
  counted = refl;
  more = λ p a h. inl h;
  kept = λ p a h. h;
  sub = λ x h. h;
  done = λ p h. inr h;
}

pub holders_more : (old now new : List (List ℕ)) (wants left rest : List (Option ℕ)) (x : Option ℕ) (at : ℕ)
    → HoldersSoFar old now wants left at → left ≡ x ∷ rest → AddsWanted now new x at
    → HoldersSoFar old new wants rest at
holders_more old now new wants left rest None at inv e adds =
    subst (λ hs. HoldersSoFar old hs wants rest at) (sym adds) (record {
      counted = inv.counted;
      more = inv.more;
      kept = inv.kept;
      sub = λ x h. inv.sub x (subst (In x) (sym e) (inr h));
      done = λ p h. elim (inv.done p h) [
        | inl k ↦ inl k
        | inr k ↦ other p (subst (In (Some p)) e k)
      ];
    })
  where
    other : (p : ℕ) → In (Some p) (None ∷ rest) → In at (holders_at now p) ⊎ In (Some p) rest
    other p (inl f) = absurd (cc)
    other p (inr h) = inr h
holders_more old now new wants left rest (Some part) at inv e adds =
    let here : In (Some part) wants = inv.sub (Some part) (subst (In (Some part)) (sym e) (inl refl)) in
    subst (λ hs. HoldersSoFar old hs wants rest at) (sym adds.is) (record {
      counted = length-set now part (holders_at now part ++ at ∷ []) ∙ inv.counted;
      more = λ p a h. elim (set_cases now part (holders_at now part ++ at ∷ []) p adds.within) [
        | inl (same, f) ↦ elim (in_either a (holders_at now part) (at ∷ []) (subst (In a) f h)) [
          | inl k ↦ inv.more p a (subst (λ z. In a (holders_at now z)) (sym same) k)
          | inr k ↦ inr (only a k, subst (λ z. In (Some z) wants) (sym same) here)
        ]
        | inr (_, f) ↦ inv.more p a (subst (In a) f h)
      ];
      kept = λ p a h. elim (set_cases now part (holders_at now part ++ at ∷ []) p adds.within) [
        | inl (same, f) ↦ subst (In a) (sym f) (in_left a (holders_at now part) (at ∷ [])
            (subst (λ z. In a (holders_at now z)) same (inv.kept p a h)))
        | inr (_, f) ↦ subst (In a) (sym f) (inv.kept p a h)
      ];
      sub = λ x h. inv.sub x (subst (In x) (sym e) (inr h));
      done = λ p h. elim (set_cases now part (holders_at now part ++ at ∷ []) p adds.within) [
        | inl (_, f) ↦ inl (subst (In at) (sym f) (in_right at (holders_at now part) (at ∷ []) (inl refl)))
        | inr (other, f) ↦ elim (inv.done p h) [
          | inl k ↦ inl (subst (In at) (sym f) k)
          | inr k ↦ inr (tail p other (subst (In (Some p)) e k))
        ]
      ];
    })
  where
    only : (a : ℕ) → In a (at ∷ []) → a ≡ at
    only a (inl f) = f
    only a (inr h) = absurd h

    tail : (p : ℕ) → (p ≡ part → ⊥) → In (Some p) (Some part ∷ rest) → In (Some p) rest
    tail p other (inl f) = absurd (other (let k : p ≡ part = cc in k))
    tail p other (inr h) = h

pub holders_all : (old now : List (List ℕ)) (wants left : List (Option ℕ)) (at : ℕ)
    → HoldersSoFar old now wants left at → left ≡ [] → AddsHolders old now wants at
holders_all old now wants left at inv e = record {
  counted = inv.counted;
  more = inv.more;
  kept = inv.kept;
  all = λ p h. elim (inv.done p h) [
    | inl k ↦ k
    | inr k ↦ absurd (subst (In (Some p)) e k)
  ];
}

-- ---- all datatypes

empty_at : (n p a : ℕ) → In a (holders_at (replicate n []) p) → ⊥
empty_at zero p a h = h
empty_at (suc n) zero a h = h
empty_at (suc n) (suc p) a h = empty_at n p a h

pub gathered_none : (need : Symbol → Need) (dats : List DatRead) (barred : List Bool) (holders : List (List ℕ))
    → barred ≡ [] → holders ≡ replicate (length dats) [] → Gathered need dats 0 barred holders
gathered_none need dats barred holders e f = record {
  barred_are = e;
  counted = ap length f ∙ length-replicate (length dats) [];
  more = λ p a h. absurd (empty_at (length dats) p a (subst (λ hs. In a (holders_at hs p)) f h));
  all = λ p a h i. absurd (omega (arith, h));
}

wanted_here : (need : Symbol → Need) (dats : List DatRead) (k : ℕ) (dat : DatRead) → k < length dats
    → dat ≡ get_or dats k dat → wanted_at need dats k ≡ dat_wanted need dat
wanted_here need [] k dat h e = absurd (omega (arith, h))
wanted_here need (d ∷ dats) zero dat h e = ap (dat_wanted need) (sym e)
wanted_here need (d ∷ dats) (suc k) dat h e = wanted_here need dats k dat (omega (arith, h)) e

pub gathered_more : (need : Symbol → Need) (dats : List DatRead) (k : ℕ) (dat : DatRead) (barred after : List Bool)
    (holders new : List (List ℕ)) → Gathered need dats k barred holders → k < length dats → dat ≡ get_or dats k dat
    → after ≡ barred ++ has_none (dat_wanted need dat) ∷ [] → AddsHolders holders new (dat_wanted need dat) k
    → Gathered need dats (k + 1) after new
gathered_more need dats k dat barred after holders new inv within e f adds =
    let here : wanted_at need dats k ≡ dat_wanted need dat = wanted_here need dats k dat within e in
    record {
      barred_are = f ∙ ap₂ (λ bs b. bs ++ b ∷ []) inv.barred_are (ap (λ (d : DatRead). has_none (dat_wanted need d)) e)
          ∙ sym (map_more (λ (d : DatRead). has_none (dat_wanted need d)) dats k dat within);
      counted = adds.counted ∙ inv.counted;
      more = λ p a h. elim (adds.more p a h) [
        | inl i ↦ (let j = inv.more p a i in let l : a < k = j.0 in (omega (arith, l), j.1))
        | inr i ↦ (let l : a ≡ k = i.0 in (
          omega (arith, l),
          subst (λ z. In (Some p) (wanted_at need dats z)) (sym l) (subst (In (Some p)) (sym here) i.1),
        ))
      ];
      all = λ p a l i. elim (cases_eq a k) [
        | inl same ↦ subst (λ z. In z (holders_at new p)) (sym same) (adds.all p (subst (In (Some p)) here
            (subst (λ z. In (Some p) (wanted_at need dats z)) same i)))
        | inr other ↦ adds.kept p a (inv.all p a (omega (arith, l, other)) i)
      ];
    }

-- ---- by types

abbrev somes : List (Option ℕ) → List ℕ
somes [] = []
somes (None ∷ wants) = somes wants
somes (Some at ∷ wants) = at ∷ somes wants

or_assoc : (a b c : Bool) → (a || (b || c)) ≡ ((a || b) || c)
or_assoc true b c = refl
or_assoc false b c = refl

none_append : (xs ys : List (Option ℕ)) → has_none (xs ++ ys) ≡ (has_none xs || has_none ys)
none_append [] ys = refl
none_append (x ∷ xs) ys = ap (λ b. is_bar x || b) (none_append xs ys) ∙ or_assoc (is_bar x) (has_none xs) (has_none ys)

somes_append : (xs ys : List (Option ℕ)) → somes (xs ++ ys) ≡ somes xs ++ somes ys
somes_append [] ys = refl
somes_append (None ∷ xs) ys = somes_append xs ys
somes_append (Some at ∷ xs) ys = ap (λ zs. at ∷ zs) (somes_append xs ys)

none_over : (n : Need) (ws : List (Option ℕ)) (b : Bool) → has_none ws ≡ b → has_none (wanted_over n ws) ≡ barred_over n b
none_over Need.Never ws b e = refl
none_over Need.Always ws b e = refl
none_over Need.OfParts ws b e = e
none_over (Need.OfNew at) ws b e = e

somes_over : (n : Need) (ws : List (Option ℕ)) (hs : List ℕ) → somes ws ≡ hs → somes (wanted_over n ws) ≡ held_over n hs
somes_over Need.Never ws hs e = refl
somes_over Need.Always ws hs e = refl
somes_over Need.OfParts ws hs e = e
somes_over (Need.OfNew at) ws hs e = ap (λ zs. at ∷ zs) e

leaf_none : (need : Symbol → Need) (c : Bool) (i n : ℕ) → has_none (wanted need (cond c (Tree.Bound i) (Tree.Free n))) ≡ false
leaf_none need true i n = refl
leaf_none need false i n = refl

leaf_somes : (need : Symbol → Need) (c : Bool) (i n : ℕ) → somes (wanted need (cond c (Tree.Bound i) (Tree.Free n))) ≡ []
leaf_somes need true i n = refl
leaf_somes need false i n = refl

mutual
  closed_barred : (need : Symbol → Need) (vs : List ℕ) (t : Ty)
      → has_none (wanted need (closed_over vs t)) ≡ is_barred need t
  closed_barred need vs (Ty.Var n) = leaf_none need (is_among n vs) (place_of n vs) n
  closed_barred need vs (Ty.Made c ts) =
      none_over (need c) (all_wanted need (closed_over_all vs ts)) (are_barred need ts) (closed_all_barred need vs ts)

  closed_all_barred : (need : Symbol → Need) (vs : List ℕ) (ts : Types)
      → has_none (all_wanted need (closed_over_all vs ts)) ≡ are_barred need ts
  closed_all_barred need vs Types.Nil = refl
  closed_all_barred need vs (Types.Cons t ts) =
      none_append (wanted need (closed_over vs t)) (all_wanted need (closed_over_all vs ts))
      ∙ ap₂ (λ a b. a || b) (closed_barred need vs t) (closed_all_barred need vs ts)

mutual
  closed_held : (need : Symbol → Need) (vs : List ℕ) (t : Ty) → somes (wanted need (closed_over vs t)) ≡ held need t
  closed_held need vs (Ty.Var n) = leaf_somes need (is_among n vs) (place_of n vs) n
  closed_held need vs (Ty.Made c ts) =
      somes_over (need c) (all_wanted need (closed_over_all vs ts)) (all_held need ts) (closed_all_held need vs ts)

  closed_all_held : (need : Symbol → Need) (vs : List ℕ) (ts : Types)
      → somes (all_wanted need (closed_over_all vs ts)) ≡ all_held need ts
  closed_all_held need vs Types.Nil = refl
  closed_all_held need vs (Types.Cons t ts) =
      somes_append (wanted need (closed_over vs t)) (all_wanted need (closed_over_all vs ts))
      ∙ ap₂ (λ a b. a ++ b) (closed_held need vs t) (closed_all_held need vs ts)

argument_none : (need : Symbol → Need) (t : Table) (vs : Variables) (arg : Option ListedType) → IsArgument t vs arg
    → has_none (argument_wanted need arg) ≡ argument_barred need (argument_ty t arg)
argument_none need t vs None h = refl
argument_none need t vs (Some a) h =
    ap (λ z. has_none (wanted need z)) h.1 ∙ closed_barred need (counted vs.count vs.first) (type_of t a.id)

argument_somes : (need : Symbol → Need) (t : Table) (vs : Variables) (arg : Option ListedType) → IsArgument t vs arg
    → somes (argument_wanted need arg) ≡ argument_held need (argument_ty t arg)
argument_somes need t vs None h = refl
argument_somes need t vs (Some a) h =
    ap (λ z. somes (wanted need z)) h.1 ∙ closed_held need (counted vs.count vs.first) (type_of t a.id)

cons_none : (need : Symbol → Need) (t : Table) (vs : Variables) (cons : List ConRead) → AreCons t vs cons
    → has_none (cons_wanted need cons) ≡ cons_barred need (map (con_of t) cons)
cons_none need t vs [] h = refl
cons_none need t vs (con ∷ cons) h =
    none_append (argument_wanted need con.arg) (cons_wanted need cons)
    ∙ ap₂ (λ a b. a || b) (argument_none need t vs con.arg h.0) (cons_none need t vs cons h.1)

cons_somes : (need : Symbol → Need) (t : Table) (vs : Variables) (cons : List ConRead) → AreCons t vs cons
    → somes (cons_wanted need cons) ≡ cons_held need (map (con_of t) cons)
cons_somes need t vs [] h = refl
cons_somes need t vs (con ∷ cons) h =
    somes_append (argument_wanted need con.arg) (cons_wanted need cons)
    ∙ ap₂ (λ a b. a ++ b) (argument_somes need t vs con.arg h.0) (cons_somes need t vs cons h.1)

barred_is : (need : Symbol → Need) (t : Table) (dats : List DatRead) → AreDats t dats
    → map (λ (dat : DatRead). has_none (dat_wanted need dat)) dats ≡ barred_of need (map (dat_of t) dats)
barred_is need t [] h = refl
barred_is need t (dat ∷ dats) h =
    ap₂ (λ b bs. b ∷ bs) (cons_none need t dat.variables dat.cons h.0.cons) (barred_is need t dats h.1)

held_at : (need : Symbol → Need) (t : Table) (dats : List DatRead) (at : ℕ) → AreDats t dats
    → somes (wanted_at need dats at) ≡ get_or (held_of need (map (dat_of t) dats)) at []
held_at need t [] at h = refl
held_at need t (dat ∷ dats) zero h = cons_somes need t dat.variables dat.cons h.0.cons
held_at need t (dat ∷ dats) (suc at) h = held_at need t dats at h.1

wanted_within : (need : Symbol → Need) (dats : List DatRead) (at : ℕ) (x : Option ℕ) → In x (wanted_at need dats at)
    → at < length dats
wanted_within need [] at x h = absurd h
wanted_within need (dat ∷ dats) zero x h = omega arith
wanted_within need (dat ∷ dats) (suc at) x h =
    let k : at < length dats = wanted_within need dats at x h in omega (arith, k)

-- ---- members

some_to : (ws : List (Option ℕ)) (p : ℕ) → In (Some p) ws → In p (somes ws)
some_to [] p h = absurd h
some_to (None ∷ ws) p (inl e) = absurd (cc)
some_to (None ∷ ws) p (inr h) = some_to ws p h
some_to (Some at ∷ ws) p (inl e) = inl (let k : p ≡ at = cc in k)
some_to (Some at ∷ ws) p (inr h) = inr (some_to ws p h)

some_from : (ws : List (Option ℕ)) (p : ℕ) → In p (somes ws) → In (Some p) ws
some_from [] p h = absurd h
some_from (None ∷ ws) p h = inr (some_from ws p h)
some_from (Some at ∷ ws) p (inl e) = inl (ap Some e)
some_from (Some at ∷ ws) p (inr h) = inr (some_from ws p h)

to_contains : (xs : List ℕ) (x : ℕ) → In x xs → Contains xs x
to_contains [] x h = absurd h
to_contains (y ∷ xs) x (inl e) = (0, omega arith, sym e)
to_contains (y ∷ xs) x (inr h) =
    let k = to_contains xs x h in
    let l : k.0 < length xs = k.1 in
    (suc k.0, omega (arith, l), k.2)

at_in : (xs : List ℕ) (i x : ℕ) → i < length xs → get_or xs i x ≡ x → In x xs
at_in [] i x h e = absurd (omega (arith, h))
at_in (y ∷ xs) zero x h e = inl (sym e)
at_in (y ∷ xs) (suc i) x h e = inr (at_in xs i x (omega (arith, h)) e)

from_contains : (xs : List ℕ) (x : ℕ) → Contains xs x → In x xs
from_contains xs x h = at_in xs h.0 x h.1 h.2

get_in : (xs : List ℕ) (i d : ℕ) → i < length xs → In (get_or xs i d) xs
get_in [] i d h = absurd (omega (arith, h))
get_in (y ∷ xs) zero d h = inl refl
get_in (y ∷ xs) (suc i) d h = inr (get_in xs i d (omega (arith, h)))

any_default : (xs : List (List ℕ)) (i : ℕ) (d : List ℕ) → i < length xs → get_or xs i d ≡ holders_at xs i
any_default [] i d h = absurd (omega (arith, h))
any_default (y ∷ xs) zero d h = refl
any_default (y ∷ xs) (suc i) d h = any_default xs i d (omega (arith, h))

pub holders_types : (need : Symbol → Need) (dats : List DatRead) (barred : List Bool) (holders : List (List ℕ))
    → Gathered need dats (length dats) barred holders → AllAreTypes holders
holders_types need dats barred holders h = λ k d within i e inside.
    let same : get_or holders k d ≡ holders_at holders k = any_default holders k d within in
    let here : In (get_or (get_or holders k d) i e) (get_or holders k d) = get_in (get_or holders k d) i e inside in
    let l : get_or (get_or holders k d) i e < length dats =
    (h.more k (get_or (get_or holders k d) i e) (subst (In (get_or (get_or holders k d) i e)) same here)).0 in
    subst (λ n. get_or (get_or holders k d) i e < n) (sym h.counted) l

pub chosen : (new : NewNames) (dats : List DatRead) (barred choice : List Bool) (holders : List (List ℕ))
    → new.count ≡ length dats → Gathered (need_in new) dats (length dats) barred holders → GreatestChoicesAreTaken
    → IsGreatest barred holders choice → (t : Table) → AreDats t dats
    → choice ≡ equality_choice new.home new.first (map (dat_of t) dats)
chosen new dats barred choice holders count h law greatest t are =
    let all : List Dat = map (dat_of t) dats in
    let len : length all ≡ new.count = length-map dats (dat_of t) ∙ sym count in
    law new.home new.first all barred holders choice
    (h.barred_are ∙ ap (map (λ (dat : DatRead). has_none (dat_wanted (need_in new) dat))) (take_all (length dats) dats (omega arith))
    ∙ barred_is (need_in new) t dats are
    ∙ ap (λ n. barred_of (need_of new.home new.first n) all) (sym len))
    (subst (λ n. AreHoldersOf (held_of (need_of new.home new.first n) all) holders) (sym len) (record {
      counted = h.counted ∙ sym (length-map dats (dat_of t))
          ∙ sym (length-map all (λ (dat : Dat). cons_held (need_in new) dat.cons));
      back = λ at part has.
          to_contains _ part (subst (In part) (held_at (need_in new) t dats at are)
          (some_to (wanted_at (need_in new) dats at) part (h.more part at (from_contains _ at has)).1));
      all = λ at part has.
          let i : In (Some part) (wanted_at (need_in new) dats at) =
          some_from (wanted_at (need_in new) dats at) part
          (subst (In part) (sym (held_at (need_in new) t dats at are)) (from_contains _ part has)) in
          to_contains _ at (h.all part at (wanted_within (need_in new) dats at (Some part) i) i);
    }))
    greatest

-- ---- in code

pub ok_of : {A E P : Type 0} (r : Result A E) → P → OnOk r P
ok_of (Ok x) h = h
ok_of (Err e) h = tt

pub holders_ok : {A E : Type 0} (r : Result A E) (old new : List (List ℕ)) (ws found slice : List (Option ℕ)) (at : ℕ)
    → AddsWants ws [] found → slice ≡ found → OnOk r (AddsHolders old new slice at) → OnOk r (AddsHolders old new ws at)
holders_ok (Ok x) old new ws found slice at h e k =
    holders_same old new ws found at h (subst (λ s. AddsHolders old new s at) e k)
holders_ok (Err e) old new ws found slice at h f k = tt

pub index_want : (xs : List (Option ℕ)) (i : ℕ) → i < length xs → get_or xs i None ≡ get_or xs i (get_or xs i None)
index_want [] i h = absurd (omega (arith, h))
index_want (y ∷ xs) zero h = refl
index_want (y ∷ xs) (suc i) h = index_want xs i (omega (arith, h))

pub vec_back : {X : Type 0} (len : ℕ) (new rest result : List X) → result ≡ take len (new ++ rest) → len ≡ length new
    → result ≡ new
vec_back len new rest result e l =
    e ∙ take-append-le len new rest (omega (arith, l)) ∙ take_all len new (omega (arith, l))

pub choose_types : (need : Symbol → Need) (slice : List DatRead) (barred : List Bool) (holders result : List (List ℕ))
    → Gathered need slice (length slice) barred holders → result ≡ holders → AllAreTypes result
choose_types need slice barred holders result h e =
    subst AllAreTypes (sym e) (holders_types need slice barred holders h)

pub chosen_ok : {E : Type 0} (new : NewNames) (dats slice : List DatRead) (barred : List Bool)
    (holders result : List (List ℕ)) (r : Result (List Bool) E) → new.count ≡ length dats → slice ≡ dats
    → Gathered (need_in new) slice (length slice) barred holders → result ≡ holders → GreatestChoicesAreTaken
    → IfOk r (λ choice. IsGreatest barred result choice)
    → IfOk r (λ choice. (t : Table) → AreDats t dats
    → choice ≡ equality_choice new.home new.first (map (dat_of t) dats))
chosen_ok new dats slice barred holders result (Ok choice) count e h f law g = λ t are.
    chosen new dats barred choice holders count
    (subst (λ ds. Gathered (need_in new) ds (length ds) barred holders) e h) law
    (subst (λ hs. IsGreatest barred hs choice) f g) t are
chosen_ok new dats slice barred holders result (Err x) count e h f law g = tt
