-- The canonical form of a fair top meets the rules of interfaces.
use Rattle.std.proofs.Common.{◌≡◌, ℕ, ◌+◌, ◌<◌, ◌≤◌, ◌^◌, refl, sym, ap, ap₂, ◌∙◌, subst, arith, Bool, true, false, ◌&&◌, not, List, [], ◌∷◌, ◌++◌, map, filter, length}
use Rattle.std.specs.Prelude.{All}
use Rattle.std.proofs.lemmas.List.{length-append, map-append}
use Rattle.std.proofs.lemmas.List.Elements.{filter-append, All-head, All-tail, All-nil, All-cons}
use Rattle.node_bytes.specs.Interfaces.{interfaces}
use Rattle.node_bytes.specs.Spelling.{spelling, nodes_of}
use Rattle.node_bytes.proofs.Again.{nodes_few}
use Rattle.semantic_objects.specs.declared.name.Owner.{Owner}
use Rattle.semantic_objects.specs.declared.name.Owner.TheVariants as owner
use Rattle.semantic_objects.specs.declared.name.TyName.{TyName}
use Rattle.semantic_objects.specs.Tables.{Table}
use Rattle.semantic_objects.specs.Environments.{Env, Signature, Functor, Top, types, values}
use Rattle.unification.proofs.Walking.{either_way, and_both}
use Rattle.realisation.specs.Names.{names_in_env, names_in_functor, names_in_signatures, names_in_functors, names_in_top, is_listed}
use Rattle.realisation.specs.Environments.{changed_type, changed_value, each_row}
use Rattle.realisation.specs.Canonical.{canonical_env, met, is_own, is_bound_name, signature_name, canonical_signature, functor_name, canonical_functor, own_name, canonical, to_canonical}
use Rattle.realisation.proofs.Listing.{Named, named_left, named_right}
use Rattle.interface_format.specs.Rules.{AreNames, IsTypeName, IsSignatureRow, IsFunctorRow, AreNumbered, Agree, is_not_bound, HasTables, HasNames}
use Rattle.interface_format.specs.Interfaces.{mark, interface_bytes}
use Rattle.interface_format.specs.Trees.{top_node}
use Rattle.canonical_laws.proofs.Names.{filter_renamed, filter_listed, filter_passes, filter_keeps, listed_before, met_renamed}
use Rattle.canonical_laws.proofs.Envs.{canonical_follows}
use Rattle.canonical_laws.proofs.Parts.{own_is_not_bound, other_stays}
use Rattle.canonical_interfaces.specs.Fair.{is_other, IsFairName, IsFairSignatureRow, IsFairFunctorRow, IsFairTop, FairTopsAreWritten}
use Rattle.canonical_interfaces.proofs.Types.{Keeps}
use Rattle.canonical_interfaces.proofs.Envs.{row_names, env_written}
use Rattle.canonical_interfaces.proofs.Numbers.{not_asked, keeps_numbered, NumbersBy, numbers_by, same_number, apart_by, numbered_by, IsReady, fits_by}
use Rattle.canonical_interfaces.proofs.Binders.{same_bound, keeps_signature, signature_written, keeps_functor, not_bound_as_own, functor_written}

-- ---- the unit's own names

keeps_itself : Keeps (λ n. n)
keeps_itself n = refl

keeps_own : (home : List ℕ) (top : Top) → Keeps (own_name home top)
keeps_own home top = keeps_numbered (is_own home) (names_in_top top) 0 (λ n. n) keeps_itself

own_by : (home : List ℕ) (top : Top) → NumbersBy (is_own home) (names_in_top top) 0 (own_name home top)
own_by home top = numbers_by (is_own home) (names_in_top top) 0 (λ n. n)

-- what is asked of the names of the top is enough
own_ready : (home : List ℕ) (top : Top) → IsFairTop home top → Named (IsReady (own_name home top)) (names_in_top top)
own_ready home top f n e =
    let name : IsFairName home n = f.names n e in
    let all : length (met (is_own home) (names_in_top top)) < 2 ^ 32 = f.own_counted.below in
    let some : 0 + length (met (is_own home) (names_in_top top)) < 2 ^ 32 = omega (arith, all) in
    record {
      owner = name.owner;
      arity = name.arity;
      settled = λ b. either_way (is_own home n)
          (λ o. fits_by (is_own home) (names_in_top top) 0 (own_name home top) (own_by home top) n (e, o) name.owner
          name.arity (record { below = some }))
          (λ o. subst IsTypeName (sym (other_stays home top n o))
          (record { owner = name.owner; number = name.number (is_other_name home n o b); arity = name.arity }));
    }
  where
    is_other_name : (h : List ℕ) (m : TyName) → is_own h m ≡ false → is_bound_name m ≡ false → is_other h m ≡ true
    is_other_name h m o b = ap₂ (λ x y. not x && not y) o b

-- ---- names that a test finds, outside binders

-- a test of owners that no bound name passes
record IsOutside (p : TyName → Bool) : Type 0 where
  same : (h : TyName → TyName) → Keeps h → (n : TyName) → p (h n) ≡ p n
  outside : (n : TyName) → p n ≡ true → is_bound_name n ≡ false

abbrev AlikeBy : (TyName → Bool) → (TyName → TyName) → List TyName → List TyName → Type 0
AlikeBy p f xs ys = filter p ys ≡ map f (filter p xs)

both_alike : (p : TyName → Bool) (f : TyName → TyName) (xs ys us vs : List TyName) → AlikeBy p f xs us
    → AlikeBy p f ys vs → AlikeBy p f (xs ++ ys) (us ++ vs)
both_alike p f xs ys us vs a b = filter-append p us vs ∙ ap₂ (λ x y. x ++ y) a b
    ∙ sym (map-append f (filter p xs) (filter p ys)) ∙ sym (ap (map f) (filter-append p xs ys))

env_alike : (p : TyName → Bool) → IsOutside p → (f h : TyName → TyName) → Keeps h
    → ((n : TyName) → p n ≡ true → h n ≡ f n) → (env : Env)
    → AlikeBy p f (names_in_env env) (names_in_env (canonical_env h env))
env_alike p o f h k e env = ap (filter p) (canonical_follows h env).names
    ∙ filter_renamed p p h f (names_in_env env) (λ n l. o.same h k n) (λ n l i. e n i)

signature_alike : (p : TyName → Bool) → IsOutside p → (f : TyName → TyName) → Keeps f → (sig : Signature)
    → AlikeBy p f (names_in_env sig.env) (names_in_env (canonical_signature f sig).env)
signature_alike p o f k sig = env_alike p o f (signature_name f sig) (keeps_signature f k sig)
    (λ n e. not_asked is_bound_name (names_in_env sig.env) 0 f n (o.outside n e)) sig.env

functor_alike : (p : TyName → Bool) → IsOutside p → (f : TyName → TyName) → Keeps f → (fun : Functor)
    → AlikeBy p f (names_in_functor fun) (names_in_functor (canonical_functor f fun))
functor_alike p o f k fun = both_alike p f (names_in_env fun.param) (names_in_env fun.result)
    (names_in_env (canonical_functor f fun).param) (names_in_env (canonical_functor f fun).result)
    (env_alike p o f (functor_name f fun) (keeps_functor f k fun) (λ n e. not_bound_as_own f fun n (o.outside n e))
    fun.param)
    (env_alike p o f (functor_name f fun) (keeps_functor f k fun) (λ n e. not_bound_as_own f fun n (o.outside n e))
    fun.result)

signatures_alike : (p : TyName → Bool) → IsOutside p → (f : TyName → TyName) → Keeps f → (rows : Table Signature)
    → AlikeBy p f (names_in_signatures rows) (names_in_signatures (each_row (canonical_signature f) rows))
signatures_alike p o f k [] = refl
signatures_alike p o f k (row ∷ rows) = both_alike p f (names_in_env row.1.env) (names_in_signatures rows)
    (names_in_env (canonical_signature f row.1).env) (names_in_signatures (each_row (canonical_signature f) rows))
    (signature_alike p o f k row.1) (signatures_alike p o f k rows)

functors_alike : (p : TyName → Bool) → IsOutside p → (f : TyName → TyName) → Keeps f → (rows : Table Functor)
    → AlikeBy p f (names_in_functors rows) (names_in_functors (each_row (canonical_functor f) rows))
functors_alike p o f k [] = refl
functors_alike p o f k (row ∷ rows) = both_alike p f (names_in_functor row.1) (names_in_functors rows)
    (names_in_functor (canonical_functor f row.1)) (names_in_functors (each_row (canonical_functor f) rows))
    (functor_alike p o f k row.1) (functors_alike p o f k rows)

top_alike : (p : TyName → Bool) → IsOutside p → (home : List ℕ) (top : Top)
    → AlikeBy p (own_name home top) (names_in_top top) (names_in_top (canonical home top))
top_alike p o home top =
    let f : TyName → TyName = own_name home top in
    let k : Keeps f = keeps_own home top in
    let other : Top = canonical home top in
    both_alike p f (names_in_env top.env)
    (names_in_signatures top.signatures ++ (names_in_functors top.functors ++ names_in_functors top.funsigs))
    (names_in_env other.env)
    (names_in_signatures other.signatures ++ (names_in_functors other.functors ++ names_in_functors other.funsigs))
    (env_alike p o f f k (λ n e. refl) top.env)
    (both_alike p f (names_in_signatures top.signatures)
    (names_in_functors top.functors ++ names_in_functors top.funsigs) (names_in_signatures other.signatures)
    (names_in_functors other.functors ++ names_in_functors other.funsigs)
    (signatures_alike p o f k top.signatures)
    (both_alike p f (names_in_functors top.functors) (names_in_functors top.funsigs)
    (names_in_functors other.functors) (names_in_functors other.funsigs) (functors_alike p o f k top.functors)
    (functors_alike p o f k top.funsigs)))

own_outside : (home : List ℕ) → IsOutside (is_own home)
own_outside home = record {
  same = λ h k n. ap (is_own home) (k n);
  outside = λ n e. own_is_not_bound home n e;
}

not_is : (b : Bool) → not b ≡ true → b ≡ false
not_is true h = absurd (cc)
not_is false h = refl

is_not : (b : Bool) → b ≡ false → not b ≡ true
is_not true h = absurd (cc)
is_not false h = refl

rest_outside : IsOutside is_not_bound
rest_outside = record {
  same = λ h k n. ap is_not_bound (k n);
  outside = λ n e. not_is (is_bound_name n) e;
}

-- ---- names of the form

own_numbered : (home : List ℕ) (top : Top)
    → AreNumbered 0 (met (is_own home) (names_in_top (canonical home top)))
own_numbered home top =
    let xs : List TyName = names_in_top top in
    let f : TyName → TyName = own_name home top in
    subst (AreNumbered 0)
    (sym (met_renamed (is_own home) (is_own home) f xs (names_in_top (canonical home top))
    (top_alike (is_own home) (own_outside home) home top) (apart_by (is_own home) xs 0 f (own_by home top))))
    (numbered_by (is_own home) xs 0 f (own_by home top))

same_owner_own : (home : List ℕ) (x y : TyName) → x.owner ≡ y.owner → is_own home x ≡ is_own home y
same_owner_own home x y e =
    ap (λ (o : Owner). Rattle.semantic_objects.specs.Symbols.same_owner (owner.«Unit» home) o) e

keeps_owner : (h : TyName → TyName) → Keeps h → (n : TyName) → (h n).owner ≡ n.owner
keeps_owner h k n = ap (λ (m : TyName). m.owner) (k n)

rest_agree : (home : List ℕ) (top : Top) → IsFairTop home top
    → Agree (filter is_not_bound (names_in_top (canonical home top)))
rest_agree home top f =
    let xs : List TyName = names_in_top top in
    let ys : List TyName = names_in_top (canonical home top) in
    let h : TyName → TyName = own_name home top in
    let k : Keeps h = keeps_own home top in
    let alike : filter is_not_bound ys ≡ map h (filter is_not_bound xs) =
    top_alike is_not_bound rest_outside home top in
    record {
      agree = λ m n i j o s. (let a : (z : TyName) × (is_listed z (filter is_not_bound xs) ≡ true) × (m ≡ h z) =
          listed_before h m (filter is_not_bound xs) (subst (λ z. is_listed m z ≡ true) alike i) in
          let b : (z : TyName) × (is_listed z (filter is_not_bound xs) ≡ true) × (n ≡ h z) =
          listed_before h n (filter is_not_bound xs) (subst (λ z. is_listed n z ≡ true) alike j) in
          let x : TyName = a.0 in
          let y : TyName = b.0 in
          let mx : m ≡ h x = a.2 in
          let ny : n ≡ h y = b.2 in
          let lx : is_listed x xs ≡ true = filter_listed is_not_bound x xs a.1 in
          let ly : is_listed y xs ≡ true = filter_listed is_not_bound y xs b.1 in
          let owners : x.owner ≡ y.owner =
          sym (keeps_owner h k x) ∙ ap (λ (z : TyName). z.owner) (sym mx) ∙ o
          ∙ ap (λ (z : TyName). z.owner) ny ∙ keeps_owner h k y in
          let numbers : (h x).number ≡ (h y).number =
          ap (λ (z : TyName). z.number) (sym mx) ∙ s ∙ ap (λ (z : TyName). z.number) ny in
          let one : x ≡ y = either_way (is_own home x)
          (λ e. same_number (is_own home) xs 0 h (own_by home top) x y (lx, e)
          (ly, sym (same_owner_own home x y owners) ∙ e) numbers)
          (λ e. (let d : is_own home y ≡ false = sym (same_owner_own home x y owners) ∙ e in
          f.agree.agree x y
          (filter_keeps (is_other home) x xs lx
          (and_both (not (is_own home x)) (not (is_bound_name x)) (is_not (is_own home x) e)
          (filter_passes is_not_bound x xs a.1)))
          (filter_keeps (is_other home) y xs ly
          (and_both (not (is_own home y)) (not (is_bound_name y)) (is_not (is_own home y) d)
          (filter_passes is_not_bound y xs b.1))) owners
          (ap (λ (z : TyName). z.number) (sym (other_stays home top x e)) ∙ numbers
          ∙ ap (λ (z : TyName). z.number) (other_stays home top y d)))) in
          mx ∙ ap h one ∙ sym ny);
    }

none_inside : (home : List ℕ) (top : Top) → filter is_bound_name (names_in_env top.env) ≡ []
    → filter is_bound_name (names_in_env (canonical home top).env) ≡ []
none_inside home top e =
    let h : TyName → TyName = own_name home top in
    ap (filter is_bound_name) (canonical_follows h top.env).names
    ∙ filter_renamed is_bound_name is_bound_name h h (names_in_env top.env)
    (λ n l. same_bound h (keeps_own home top) n) (λ n l i. refl)
    ∙ ap (map h) e

-- ---- tables of the form

rows_none : {A : Type 0} (f : A → A) (rows : Table A) → rows ≡ [] → each_row f rows ≡ []
rows_none f rows e = ap (each_row f) e

no_types : (h : TyName → TyName) (env : Env) → types env ≡ [] → types (canonical_env h env) ≡ []
no_types h (Env.MakeEnv ss ts vs) e = rows_none (changed_type (to_canonical h)) ts e

no_values : (h : TyName → TyName) (env : Env) → values env ≡ [] → values (canonical_env h env) ≡ []
no_values h (Env.MakeEnv ss ts vs) e = rows_none (changed_value (to_canonical h)) vs e

signatures_written : (f : TyName → TyName) → Keeps f → (rows : Table Signature) → All IsFairSignatureRow rows
    → Named (IsReady f) (names_in_signatures rows) → All IsSignatureRow (each_row (canonical_signature f) rows)
signatures_written f k [] s r = All-nil IsSignatureRow
signatures_written f k (row ∷ rows) s r = All-cons IsSignatureRow (row.0, canonical_signature f row.1)
    (each_row (canonical_signature f) rows)
    (signature_written f k row.1 (All-head IsFairSignatureRow row rows s)
    (named_left (IsReady f) (names_in_env row.1.env) (names_in_signatures rows) r))
    (signatures_written f k rows (All-tail IsFairSignatureRow row rows s)
    (named_right (IsReady f) (names_in_env row.1.env) (names_in_signatures rows) r))

functors_written : (f : TyName → TyName) → Keeps f → (rows : Table Functor) → All IsFairFunctorRow rows
    → Named (IsReady f) (names_in_functors rows) → All IsFunctorRow (each_row (canonical_functor f) rows)
functors_written f k [] s r = All-nil IsFunctorRow
functors_written f k (row ∷ rows) s r = All-cons IsFunctorRow (row.0, canonical_functor f row.1)
    (each_row (canonical_functor f) rows)
    (functor_written f k row.1 (All-head IsFairFunctorRow row rows s)
    (named_left (IsReady f) (names_in_functor row.1) (names_in_functors rows) r))
    (functors_written f k rows (All-tail IsFairFunctorRow row rows s)
    (named_right (IsReady f) (names_in_functor row.1) (names_in_functors rows) r))

empty_listed : (n : TyName) (xs : List TyName) → xs ≡ [] → is_listed n xs ≡ true → ⊥
empty_listed n [] e h = absurd (cc)
empty_listed n (x ∷ xs) e h = absurd (cc)

-- no bound name stands in the environment of the top
inside_not_bound : (xs : List TyName) → filter is_bound_name xs ≡ [] → (n : TyName) → is_listed n xs ≡ true
    → is_bound_name n ≡ false
inside_not_bound xs e n l = either_way (is_bound_name n)
    (λ b. absurd (empty_listed n (filter is_bound_name xs) e (filter_keeps is_bound_name n xs l b))) (λ b. b)

tables_written : (home : List ℕ) (top : Top) → IsFairTop home top → HasTables (canonical home top)
tables_written home top f =
    let h : TyName → TyName = own_name home top in
    let k : Keeps h = keeps_own home top in
    let R : TyName → Type 0 = IsReady h in
    let ready : Named R (names_in_top top) = own_ready home top f in
    let es : List TyName = names_in_env top.env in
    let ss : List TyName = names_in_signatures top.signatures in
    let us : List TyName = names_in_functors top.functors in
    let vs : List TyName = names_in_functors top.funsigs in
    let after : Named R (ss ++ (us ++ vs)) = named_right R es (ss ++ (us ++ vs)) ready in
    let last : Named R (us ++ vs) = named_right R ss (us ++ vs) after in
    record {
      env = env_written h k top.env f.env (λ n e. (named_left R es (ss ++ (us ++ vs)) ready n e).settled
          (inside_not_bound es f.inside n e));
      no_types = no_types h top.env f.no_types;
      no_values = no_values h top.env f.no_values;
      signature_names = subst AreNames (sym (row_names (canonical_signature h) top.signatures)) f.signature_names;
      functor_names = subst AreNames (sym (row_names (canonical_functor h) top.functors)) f.functor_names;
      funsig_names = subst AreNames (sym (row_names (canonical_functor h) top.funsigs)) f.funsig_names;
      signatures = signatures_written h k top.signatures f.signatures (named_left R ss (us ++ vs) after);
      functors = functors_written h k top.functors f.functors (named_left R us vs last);
      funsigs = functors_written h k top.funsigs f.funsigs (named_right R us vs last);
    }

names_written : (home : List ℕ) (top : Top) → IsFairTop home top → HasNames home (canonical home top)
names_written home top f = record {
  own = own_numbered home top;
  agree = rest_agree home top f;
  inside = none_inside home top f.inside;
}

-- ---- the spelling

nodes_counted : (home : List ℕ) (top : Top) → length (interface_bytes home top) ≤ 2 ^ 32
    → length (nodes_of interfaces (top_node home top)) ≤ 2 ^ 32
nodes_counted home top h =
    let few : length (nodes_of interfaces (top_node home top)) ≤ length (spelling interfaces (top_node home top)) =
    nodes_few interfaces (top_node home top) in
    let all : length (interface_bytes home top) ≡ 4 + length (spelling interfaces (top_node home top)) =
    length-append mark (spelling interfaces (top_node home top)) in
    omega (arith, few, all, h)

pub fair_tops_written : FairTopsAreWritten
fair_tops_written = record {
  tables = λ home top f. tables_written home top f;
  names = λ home top f. names_written home top f;
  written = λ home top f few. record {
    rules = record {
      tables = tables_written home top f;
      names = names_written home top f;
      nodes = nodes_counted home (canonical home top) few;
    };
    spelled = refl;
  };
}
