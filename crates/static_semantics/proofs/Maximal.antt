-- As many looks as there are types leave the greatest choice of datatypes that admit equality.
use Rattle.std.proofs.Common.{◌≡◌, ℕ, zero, suc, ◌+◌, ◌-◌, ◌<◌, ◌≤◌, List, [], ◌∷◌, length, map, refl, sym, ap, ap₂, ◌∙◌, subst, arith, Option, Some, None, Bool, true, false, ◌&&◌, ◌⊎◌, inl, inr, cond, get_or}
use Rattle.std.specs.List.{list_all}
use Rattle.std.proofs.lemmas.List.{length-map}
use Rattle.semantic_objects.specs.declared.name.TyName.{TyName}
use Rattle.semantic_objects.specs.declared.symbol.Symbol.{Symbol}
use Rattle.semantic_objects.specs.declared.symbol.Symbol.TheVariants as symbol
use Rattle.unification.specs.declared.equality.Equality.{Equality}
use Rattle.unification.specs.declared.equality.Equality.TheVariants as equality
use Rattle.unification.specs.Types.{Ty, Types, is_ref, equality_of, where_parts, admits, admits_all}
use Rattle.unification.proofs.Putting.{and_left, and_right, and_both}
use Rattle.static_semantics.specs.DatatypeInference.{Con, Dat, is_new, settled_symbol, settled, settled_all, argument_admits, dat_admits, narrowed, looked_over, looked_over_times, equality_choice}
use Rattle.static_semantics.specs.RuleConditions.{RespectsIn, RespectsEquality, IsWithinChoice, MaximisesEquality}
use Rattle.static_semantics.specs.Promises.{DatatypesMaximiseEquality}

-- ---- a wider choice admits no less

at_place : (c d : List Bool) → IsWithinChoice c d → (i : ℕ) → get_or c i false ≡ true → get_or d i false ≡ true
at_place [] d h i e = absurd (cc)
at_place (a ∷ c) [] h i e = absurd h
at_place (a ∷ c) (b ∷ d) h zero e = h.0 e
at_place (a ∷ c) (b ∷ d) h (suc i) e = at_place c d h.1 i e

-- parts under a symbol that admits equality as far as another one does, or further
abbrev NoLess : Equality → Equality → Type 0
NoLess e f = (a b : Bool) → (a ≡ true → b ≡ true) → where_parts e a ≡ true → where_parts f b ≡ true

same_kind : (e f : Equality) → e ≡ f → NoLess e f
same_kind equality.Never f k a b h i = absurd (cc)
same_kind equality.Always f k a b h i = subst (λ z. where_parts z b ≡ true) k refl
same_kind equality.ByParts f k a b h i = subst (λ z. where_parts z b ≡ true) k (h i)

by_mark : (c d : Bool) → (c ≡ true → d ≡ true) → NoLess (cond c equality.ByParts equality.Never)
    (cond d equality.ByParts equality.Never)
by_mark false d k a b h i = absurd (cc)
by_mark true d k a b h i = subst (λ z. where_parts (cond z equality.ByParts equality.Never) b ≡ true) (sym (k refl))
    (h i)

-- `ref` or not, two names that differ in their marks alone
by_name : (r c d : Bool) → (c ≡ true → d ≡ true)
    → NoLess (cond r equality.Always (cond c equality.ByParts equality.Never))
    (cond r equality.Always (cond d equality.ByParts equality.Never))
by_name true c d k = same_kind equality.Always equality.Always refl
by_name false c d k = by_mark c d k

name_wider : (home : List ℕ) (first : ℕ) (c d : List Bool) → IsWithinChoice c d → (name : TyName) (new : Bool)
    → NoLess
    (equality_of (symbol.Name (cond new (record {
      owner = name.owner;
      number = name.number;
      arity = name.arity;
      eq = get_or c (name.number - first) false;
    }) name)))
    (equality_of (symbol.Name (cond new (record {
      owner = name.owner;
      number = name.number;
      arity = name.arity;
      eq = get_or d (name.number - first) false;
    }) name)))
name_wider home first c d h name true = by_name (is_ref name) (get_or c (name.number - first) false)
    (get_or d (name.number - first) false) (at_place c d h (name.number - first))
name_wider home first c d h name false = same_kind (equality_of (symbol.Name name)) (equality_of
    (symbol.Name name)) refl

symbol_wider : (home : List ℕ) (first : ℕ) (c d : List Bool) → length c ≡ length d → IsWithinChoice c d → (s : Symbol)
    → NoLess (equality_of (settled_symbol home first c s)) (equality_of (settled_symbol home first d s))
symbol_wider home first c d l h symbol.Arrow = same_kind equality.Never equality.Never refl
symbol_wider home first c d l h (symbol.Record labels) = same_kind equality.ByParts equality.ByParts refl
symbol_wider home first c d l h (symbol.Name name) =
    subst (λ n. NoLess (equality_of (settled_symbol home first c (symbol.Name name)))
    (equality_of (symbol.Name (cond (is_new home first n name) (record {
      owner = name.owner;
      number = name.number;
      arity = name.arity;
      eq = get_or d (name.number - first) false;
    }) name)))) l
    (name_wider home first c d h name (is_new home first (length c) name))

mutual
  ty_wider : (home : List ℕ) (first : ℕ) (c d : List Bool) → length c ≡ length d → IsWithinChoice c d → (t : Ty)
      → admits (λ n. true) (settled home first c t) ≡ true → admits (λ n. true) (settled home first d t) ≡ true
  ty_wider home first c d l h (Ty.Var n) e = e
  ty_wider home first c d l h (Ty.Made s ts) e = symbol_wider home first c d l h s
      (admits_all (λ n. true) (settled_all home first c ts)) (admits_all (λ n. true) (settled_all home first d ts))
      (tys_wider home first c d l h ts) e

  tys_wider : (home : List ℕ) (first : ℕ) (c d : List Bool) → length c ≡ length d → IsWithinChoice c d → (ts : Types)
      → admits_all (λ n. true) (settled_all home first c ts) ≡ true
      → admits_all (λ n. true) (settled_all home first d ts) ≡ true
  tys_wider home first c d l h Types.Nil e = e
  tys_wider home first c d l h (Types.Cons t ts) e = and_both _ _
      (ty_wider home first c d l h t (and_left _ _ e)) (tys_wider home first c d l h ts (and_right _ _ e))

argument_wider : (home : List ℕ) (first : ℕ) (c d : List Bool) → length c ≡ length d → IsWithinChoice c d
    → (arg : Option Ty) → argument_admits home first c arg ≡ true → argument_admits home first d arg ≡ true
argument_wider home first c d l h None e = e
argument_wider home first c d l h (Some ty) e = ty_wider home first c d l h ty e

cons_wider : (home : List ℕ) (first : ℕ) (c d : List Bool) → length c ≡ length d → IsWithinChoice c d
    → (cons : List Con)
    → list_all (λ (con : Con). argument_admits home first c con.1) cons ≡ true
    → list_all (λ (con : Con). argument_admits home first d con.1) cons ≡ true
cons_wider home first c d l h [] e = e
cons_wider home first c d l h (con ∷ cons) e = and_both _ _
    (argument_wider home first c d l h con.1 (and_left _ _ e)) (cons_wider home first c d l h cons (and_right _ _ e))

dat_wider : (home : List ℕ) (first : ℕ) (c d : List Bool) → length c ≡ length d → IsWithinChoice c d → (dat : Dat)
    → dat_admits home first c dat ≡ true → dat_admits home first d dat ≡ true
dat_wider home first c d l h dat e = cons_wider home first c d l h dat.cons e

-- ---- looks at all constructors

narrowed_length : (choice looks : List Bool) → length (narrowed choice looks) ≡ length choice
narrowed_length [] looks = refl
narrowed_length (a ∷ choice) [] = ap suc (narrowed_length choice [])
narrowed_length (a ∷ choice) (b ∷ looks) = ap suc (narrowed_length choice looks)

looked_length : (home : List ℕ) (first : ℕ) (dats : List Dat) (choice : List Bool)
    → length (looked_over home first dats choice) ≡ length choice
looked_length home first dats choice = narrowed_length choice (map (dat_admits home first choice) dats)

times_length : (n : ℕ) (home : List ℕ) (first : ℕ) (dats : List Dat) (choice : List Bool)
    → length (looked_over_times n home first dats choice) ≡ length choice
times_length zero home first dats choice = refl
times_length (suc n) home first dats choice =
    times_length n home first dats (looked_over home first dats choice) ∙ looked_length home first dats choice

-- a choice that respects equality stays within
stays_within : (home : List ℕ) (first : ℕ) (whole wide : List Bool) → length whole ≡ length wide
    → IsWithinChoice whole wide → (other choice : List Bool) (dats : List Dat) → IsWithinChoice other choice
    → RespectsIn home first whole other dats
    → IsWithinChoice other (narrowed choice (map (dat_admits home first wide) dats))
stays_within home first whole wide l w [] choice dats h k = tt
stays_within home first whole wide l w (a ∷ other) [] dats h k = absurd h
stays_within home first whole wide l w (a ∷ other) (b ∷ choice) [] h k = absurd k
stays_within home first whole wide l w (a ∷ other) (b ∷ choice) (dat ∷ dats) h k = (
  λ e. and_both b (dat_admits home first wide dat) (h.0 e) (dat_wider home first whole wide l w dat (k.0 e)),
  stays_within home first whole wide l w other choice dats h.1 k.1,
)

times_within : (n : ℕ) (home : List ℕ) (first : ℕ) (dats : List Dat) (other choice : List Bool)
    → length other ≡ length choice → IsWithinChoice other choice → RespectsEquality home first dats other
    → IsWithinChoice other (looked_over_times n home first dats choice)
times_within zero home first dats other choice l h k = h
times_within (suc n) home first dats other choice l h k = times_within n home first dats other
    (looked_over home first dats choice) (l ∙ sym (looked_length home first dats choice))
    (stays_within home first other choice l h other choice dats h k) k

-- all types admit equality at first
within_all : (home : List ℕ) (first : ℕ) (whole other : List Bool) (dats : List Dat)
    → RespectsIn home first whole other dats → IsWithinChoice other (map (λ (dat : Dat). true) dats)
within_all home first whole [] [] k = tt
within_all home first whole [] (dat ∷ dats) k = absurd k
within_all home first whole (a ∷ other) [] k = absurd k
within_all home first whole (a ∷ other) (dat ∷ dats) k = (λ e. refl, within_all home first whole other dats k.1)

respects_length : (home : List ℕ) (first : ℕ) (whole other : List Bool) (dats : List Dat)
    → RespectsIn home first whole other dats → length other ≡ length dats
respects_length home first whole [] [] k = refl
respects_length home first whole [] (dat ∷ dats) k = absurd k
respects_length home first whole (a ∷ other) [] k = absurd k
respects_length home first whole (a ∷ other) (dat ∷ dats) k = ap suc (respects_length home first whole other dats k.1)

-- ---- how many looks are enough

one_if : Bool → ℕ
one_if true = 1
one_if false = 0

admitted : List Bool → ℕ
admitted [] = 0
admitted (b ∷ bs) = one_if b + admitted bs

-- a look leaves a choice as it is, or fewer admit equality
narrows_here : (a b : Bool) → ((a && b) ≡ a) ⊎ (suc (one_if (a && b)) ≡ one_if a)
unfolding one_if
narrows_here true true = inl refl
narrows_here true false = inr refl
narrows_here false b = inl refl

one_more_true : suc (one_if false) ≡ one_if true
unfolding one_if
one_more_true = refl

more_here : (a b : Bool) → one_if (a && b) ≤ one_if a
unfolding one_if
more_here true true = omega arith
more_here true false = omega arith
more_here false b = omega arith

narrowed_less : (choice looks : List Bool) → admitted (narrowed choice looks) ≤ admitted choice
unfolding admitted one_if
narrowed_less [] looks = omega arith
narrowed_less (a ∷ choice) [] = let k : admitted (narrowed choice []) ≤ admitted choice = narrowed_less choice [] in
    omega (arith, k)
narrowed_less (a ∷ choice) (b ∷ looks) =
    let k : admitted (narrowed choice looks) ≤ admitted choice = narrowed_less choice looks in
    let l : one_if (a && b) ≤ one_if a = more_here a b in omega (arith, k, l)

-- the rest of a choice, behind a first mark that stays or goes
behind : (a b : Bool) (choice rest : List Bool) → b ≡ a → (rest ≡ choice) ⊎ (admitted rest < admitted choice)
    → ((b ∷ rest) ≡ (a ∷ choice)) ⊎ (admitted (b ∷ rest) < admitted (a ∷ choice))
unfolding admitted one_if
behind a b choice rest e (inl h) = inl (ap₂ (λ x xs. x ∷ xs) e h)
behind a b choice rest e (inr h) = inr (let k : one_if b ≡ one_if a = ap one_if e in omega (arith, h, k))

fewer : (a b : Bool) (choice rest : List Bool) → suc (one_if b) ≡ one_if a → admitted rest ≤ admitted choice
    → admitted (b ∷ rest) < admitted (a ∷ choice)
unfolding admitted one_if
fewer a b choice rest e h = omega (arith, e, h)

by_look : (a b : Bool) (choice looks : List Bool) → ((a && b) ≡ a) ⊎ (suc (one_if (a && b)) ≡ one_if a)
    → (narrowed choice looks ≡ choice) ⊎ (admitted (narrowed choice looks) < admitted choice)
    → (((a && b) ∷ narrowed choice looks) ≡ (a ∷ choice))
    ⊎ (admitted ((a && b) ∷ narrowed choice looks) < admitted (a ∷ choice))
by_look a b choice looks (inl e) h = behind a (a && b) choice (narrowed choice looks) e h
by_look a b choice looks (inr e) h = inr (fewer a (a && b) choice (narrowed choice looks) e
    (narrowed_less choice looks))

narrows : (choice looks : List Bool)
    → (narrowed choice looks ≡ choice) ⊎ (admitted (narrowed choice looks) < admitted choice)
narrows [] looks = inl refl
narrows (true ∷ choice) [] = inr (fewer true false choice (narrowed choice []) one_more_true (narrowed_less choice []))
narrows (false ∷ choice) [] = behind false false choice (narrowed choice []) refl (narrows choice [])
narrows (a ∷ choice) (b ∷ looks) = by_look a b choice looks (narrows_here a b) (narrows choice looks)

-- where none admits equality, none is left to look at
none_left : (choice looks : List Bool) → admitted choice ≡ 0 → narrowed choice looks ≡ choice
unfolding admitted one_if
none_left [] looks e = refl
none_left (true ∷ choice) looks e = absurd (omega (arith, e))
none_left (false ∷ choice) [] e = ap (λ xs. false ∷ xs) (none_left choice [] (omega (arith, e)))
none_left (false ∷ choice) (b ∷ looks) e = ap (λ xs. false ∷ xs) (none_left choice looks (omega (arith, e)))

abbrev IsFixed : List ℕ → ℕ → List Dat → List Bool → Type 0
IsFixed home first dats choice = looked_over home first dats choice ≡ choice

stays_fixed : (n : ℕ) (home : List ℕ) (first : ℕ) (dats : List Dat) (choice : List Bool)
    → IsFixed home first dats choice
    → looked_over_times n home first dats choice ≡ choice
stays_fixed zero home first dats choice h = refl
stays_fixed (suc n) home first dats choice h =
    ap (looked_over_times n home first dats) h ∙ stays_fixed n home first dats choice h

become_fixed : (n : ℕ) (home : List ℕ) (first : ℕ) (dats : List Dat) (choice : List Bool) → admitted choice ≤ n
    → IsFixed home first dats (looked_over_times n home first dats choice)
become_fixed zero home first dats choice h =
    none_left choice (map (dat_admits home first choice) dats) (omega (arith, h))
become_fixed (suc n) home first dats choice h = elim (narrows choice (map (dat_admits home first choice) dats)) [
  | inl e ↦ subst (IsFixed home first dats)
      (sym (ap (looked_over_times n home first dats) e ∙ stays_fixed n home first dats choice e)) e
  | inr e ↦ become_fixed n home first dats (looked_over home first dats choice) (omega (arith, h, e))
]

kept_look : (a b : Bool) → (a && b) ≡ a → a ≡ true → b ≡ true
kept_look true b e h = e
kept_look false b e h = absurd (cc)

fixed_respects : (home : List ℕ) (first : ℕ) (whole choice : List Bool) (dats : List Dat) → length choice ≡ length dats
    → narrowed choice (map (dat_admits home first whole) dats) ≡ choice → RespectsIn home first whole choice dats
fixed_respects home first whole [] [] l e = tt
fixed_respects home first whole [] (dat ∷ dats) l e = absurd (omega (arith, l))
fixed_respects home first whole (a ∷ choice) [] l e = absurd (omega (arith, l))
fixed_respects home first whole (a ∷ choice) (dat ∷ dats) l e = (
  kept_look a (dat_admits home first whole dat) (let k : (a && dat_admits home first whole dat) ≡ a = cc in k),
  fixed_respects home first whole choice dats (omega (arith, l))
      (let k : narrowed choice (map (dat_admits home first whole) dats) ≡ choice = cc in k),
)

admitted_all : (dats : List Dat) → admitted (map (λ (dat : Dat). true) dats) ≤ length dats
unfolding admitted one_if
admitted_all [] = omega arith
admitted_all (dat ∷ dats) = let k : admitted (map (λ (dat : Dat). true) dats) ≤ length dats = admitted_all dats in
    omega (arith, k)

maximises : (home : List ℕ) (first : ℕ) (dats : List Dat)
    → MaximisesEquality home first dats (equality_choice home first dats)
maximises home first dats =
    let all : List Bool = map (λ (dat : Dat). true) dats in
    let count : length all ≡ length dats = length-map dats (λ (dat : Dat). true) in
    let choice : List Bool = equality_choice home first dats in
    record {
      respects = fixed_respects home first choice choice dats (times_length (length dats) home first dats all ∙ count)
          (become_fixed (length dats) home first dats all (admitted_all dats));
      greatest = λ other h. times_within (length dats) home first dats other all
          (respects_length home first other other dats h ∙ sym count) (within_all home first other other dats h) h;
    }

pub datatypes_maximise : DatatypesMaximiseEquality
datatypes_maximise = record { all = maximises }
