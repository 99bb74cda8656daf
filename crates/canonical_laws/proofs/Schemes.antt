-- Schemes whose variables have other numbers, and types whose names do.
use Rattle.std.proofs.Common.{◌≡◌, ℕ, suc, refl, sym, ap, ap₂, ◌∙◌, subst, Bool, true, false, ◌||◌, cond, List, [], ◌∷◌, ◌++◌, map, eqb}
use Rattle.std.proofs.lemmas.Bool.{eq-eqb, eqb-true}
use Rattle.std.proofs.lemmas.List.{map-append, get_or-map}
use Rattle.semantic_objects.specs.declared.name.TyName.{TyName}
use Rattle.semantic_objects.specs.declared.symbol.Symbol.{Symbol}
use Rattle.semantic_objects.specs.declared.symbol.Symbol.TheVariants as symbol
use Rattle.semantic_objects.specs.Trees.{Tree, Trees, TypeScheme, binds, binds_any}
use Rattle.unification.specs.Closing.{is_among, place_of, noticed, bound_in, bound_in_all, plug, plug_all, renumbered, canonical_scheme}
use Rattle.unification.specs.Instances.{mark_of}
use Rattle.unification.proofs.Walking.{Anything, or_left, or_right, or_either, walk_tree, alike_tree}
use Rattle.unification.proofs.Canonical.{place_below, stands_there}
use Rattle.realisation.specs.Canonical.{renamed_symbol, renamed, renamed_all}
use Rattle.realisation.proofs.Realising.{plug_plug}
use Rattle.canonical_laws.specs.Renumbering.{RenumbersVariables}

-- ---- variables in lists

abbrev AllOf : (ℕ → Type 0) → List ℕ → Type 0
AllOf B vs = (j : ℕ) → is_among j vs ≡ true → B j

-- no two numbers of which `B` holds get one
abbrev ApartIn : (ℕ → Type 0) → (ℕ → ℕ) → Type 0
ApartIn B f = (i j : ℕ) → B i → B j → f i ≡ f j → i ≡ j

yes_or_no : (b c : Bool) → (b ≡ true → c ≡ true) → (c ≡ true → b ≡ true) → b ≡ c
yes_or_no true c h k = sym (h refl)
yes_or_no false true h k = k refl
yes_or_no false false h k = refl

same_number : (f : ℕ → ℕ) (i j : ℕ) → (f i ≡ f j → i ≡ j) → eqb (f i) (f j) ≡ eqb i j
same_number f i j h = yes_or_no (eqb (f i) (f j)) (eqb i j)
    (λ e. eq-eqb i j (h (eqb-true (f i) (f j) e)))
    (λ e. eq-eqb (f i) (f j) (ap f (eqb-true i j e)))

all_rest : (B : ℕ → Type 0) (x : ℕ) (vs : List ℕ) → AllOf B (x ∷ vs) → AllOf B vs
all_rest B x vs h j e = h j (or_right (eqb j x) (is_among j vs) e)

all_first : (B : ℕ → Type 0) (x : ℕ) (vs : List ℕ) → AllOf B (x ∷ vs) → B x
all_first B x vs h = h x (or_left (eqb x x) (is_among x vs) (eq-eqb x x refl))

among_alike : (B : ℕ → Type 0) (f : ℕ → ℕ) → ApartIn B f → (i : ℕ) (vs : List ℕ) → B i → AllOf B vs
    → is_among (f i) (map f vs) ≡ is_among i vs
among_alike B f a i [] b h = refl
among_alike B f a i (x ∷ vs) b h = ap₂ (λ c d. c || d) (same_number f i x (a i x b (all_first B x vs h)))
    (among_alike B f a i vs b (all_rest B x vs h))

place_alike : (B : ℕ → Type 0) (f : ℕ → ℕ) → ApartIn B f → (i : ℕ) (vs : List ℕ) → B i → AllOf B vs
    → place_of (f i) (map f vs) ≡ place_of i vs
place_alike B f a i [] b h = refl
place_alike B f a i (x ∷ vs) b h = ap₂ (λ c n. cond c 0 (suc n)) (same_number f i x (a i x b (all_first B x vs h)))
    (place_alike B f a i vs b (all_rest B x vs h))

-- ---- what is found in a tree

abbrev by_number : (ℕ → ℕ) → ℕ → Tree
by_number f i = Tree.Bound (f i)

record FoundAlike (B : ℕ → Type 0) (f : ℕ → ℕ) (vs us : List ℕ) : Type 0 where
  is : us ≡ map f vs
  all : AllOf B vs

pushed : (f : ℕ → ℕ) (c : Bool) (i : ℕ) (vs : List ℕ)
    → cond c (map f vs) (map f vs ++ f i ∷ []) ≡ map f (cond c vs (vs ++ i ∷ []))
pushed f true i vs = refl
pushed f false i vs = sym (map-append f vs (i ∷ []))

among_pushed : (B : ℕ → Type 0) (i : ℕ) (vs : List ℕ) → B i → AllOf B vs → AllOf B (vs ++ i ∷ [])
among_pushed B i [] b h j e = or_either (eqb j i) false e (λ k. subst B (sym (eqb-true j i k)) b) (λ k. absurd (cc))
among_pushed B i (x ∷ vs) b h j e = or_either (eqb j x) (is_among j (vs ++ i ∷ [])) e
    (λ k. subst B (sym (eqb-true j x k)) (all_first B x vs h))
    (λ k. among_pushed B i vs b (all_rest B x vs h) j k)

all_noticed : (B : ℕ → Type 0) (c : Bool) (i : ℕ) (vs : List ℕ) → B i → AllOf B vs
    → AllOf B (cond c vs (vs ++ i ∷ []))
all_noticed B true i vs b h = h
all_noticed B false i vs b h = among_pushed B i vs b h

noticed_alike : (B : ℕ → Type 0) (f : ℕ → ℕ) → ApartIn B f → (i : ℕ) → B i → (vs : List ℕ) → AllOf B vs
    → FoundAlike B f (noticed false i vs) (noticed false (f i) (map f vs))
noticed_alike B f a i b vs h = record {
  is = ap (λ c. cond c (map f vs) (map f vs ++ f i ∷ [])) (among_alike B f a i vs b h) ∙ pushed f (is_among i vs) i vs;
  all = all_noticed B (is_among i vs) i vs b h;
}

abbrev FindsAlike : (ℕ → Type 0) → (ℕ → ℕ) → Tree → Type 0
FindsAlike B f t = (vs : List ℕ) → AllOf B vs
    → FoundAlike B f (bound_in t vs) (bound_in (plug (by_number f) t) (map f vs))

abbrev FindsAllAlike : (ℕ → Type 0) → (ℕ → ℕ) → Trees → Type 0
FindsAllAlike B f ts = (vs : List ℕ) → AllOf B vs
    → FoundAlike B f (bound_in_all ts vs) (bound_in_all (plug_all (by_number f) ts) (map f vs))

found_alike : (B : ℕ → Type 0) (f : ℕ → ℕ) → ApartIn B f → (t : Tree) → ((i : ℕ) → binds i t ≡ true → B i)
    → FindsAlike B f t
found_alike B f a t b = walk_tree B Anything (FindsAlike B f) (FindsAllAlike B f)
    (record {
      bound = λ i k vs h. noticed_alike B f a i k vs h;
      free = λ n _ vs h. record { is = refl; all = h };
      made = λ c ts k. k;
      none = λ vs h. record { is = refl; all = h };
      more = λ u us k ks vs h. (let first : FoundAlike B f (bound_in u vs) (bound_in (plug (by_number f) u) (map f
          vs)) =
          k vs h in
          let rest : FoundAlike B f (bound_in_all us (bound_in u vs))
          (bound_in_all (plug_all (by_number f) us) (map f (bound_in u vs))) = ks (bound_in u vs) first.all in
          record {
            is = ap (bound_in_all (plug_all (by_number f) us)) first.is ∙ rest.is;
            all = rest.all;
          });
    })
    t b (λ n _. tt)

-- what stands in a tree is found
record Finds (t : Tree) : Type 0 where
  stays : (i : ℕ) (vs : List ℕ) → is_among i vs ≡ true → is_among i (bound_in t vs) ≡ true
  found : (i : ℕ) (vs : List ℕ) → binds i t ≡ true → is_among i (bound_in t vs) ≡ true

record FindsAll (ts : Trees) : Type 0 where
  stay : (i : ℕ) (vs : List ℕ) → is_among i vs ≡ true → is_among i (bound_in_all ts vs) ≡ true
  found : (i : ℕ) (vs : List ℕ) → binds_any i ts ≡ true → is_among i (bound_in_all ts vs) ≡ true

among_front : (i v : ℕ) (vs : List ℕ) → is_among i vs ≡ true → is_among i (vs ++ v ∷ []) ≡ true
among_front i v [] h = absurd (cc)
among_front i v (x ∷ vs) h = or_either (eqb i x) (is_among i vs) h
    (λ e. or_left (eqb i x) (is_among i (vs ++ v ∷ [])) e)
    (λ e. or_right (eqb i x) (is_among i (vs ++ v ∷ [])) (among_front i v vs e))

among_end : (i : ℕ) (vs : List ℕ) → is_among i (vs ++ i ∷ []) ≡ true
among_end i [] = or_left (eqb i i) false (eq-eqb i i refl)
among_end i (x ∷ vs) = or_right (eqb i x) (is_among i (vs ++ i ∷ [])) (among_end i vs)

stays_noticed : (i v : ℕ) (vs : List ℕ) (c : Bool) → is_among i vs ≡ true → is_among i (cond c vs (vs ++ v ∷ [])) ≡ true
stays_noticed i v vs true h = h
stays_noticed i v vs false h = among_front i v vs h

is_noticed : (i : ℕ) (vs : List ℕ) (c : Bool) → is_among i vs ≡ c → is_among i (cond c vs (vs ++ i ∷ [])) ≡ true
is_noticed i vs true h = h
is_noticed i vs false h = among_end i vs

finds : (t : Tree) → Finds t
finds t = walk_tree Anything Anything Finds FindsAll
    (record {
      bound = λ v _. record {
        stays = λ i vs h. stays_noticed i v vs (is_among v vs) h;
        found = λ i vs h. subst (λ z. is_among z (noticed false v vs) ≡ true) (sym (eqb-true i v h))
            (is_noticed v vs (is_among v vs) refl);
      };
      free = λ n _. record { stays = λ i vs h. h; found = λ i vs h. absurd (cc) };
      made = λ c ts k. record { stays = k.stay; found = k.found };
      none = record { stay = λ i vs h. h; found = λ i vs h. absurd (cc) };
      more = λ u us k ks. record {
        stay = λ i vs h. ks.stay i (bound_in u vs) (k.stays i vs h);
        found = λ i vs h. or_either (binds i u) (binds_any i us) h
            (λ e. ks.stay i (bound_in u vs) (k.found i vs e)) (λ e. ks.found i (bound_in u vs) e);
      };
    })
    t (λ i _. tt) (λ n _. tt)

-- ---- schemes

plug_same_on : (θ η : ℕ → Tree) (x : Tree) → ((i : ℕ) → binds i x ≡ true → θ i ≡ η i) → plug θ x ≡ plug η x
plug_same_on θ η x h = alike_tree Tree.Made Trees.Nil Trees.Cons (plug θ) (plug η) (plug_all θ) (plug_all η)
    (record { at_made = λ c ts. refl; at_none = refl; at_more = λ y ys. refl })
    (record { at_made = λ c ts. refl; at_none = refl; at_more = λ y ys. refl }) x h (λ n _. refl)

marks_alike : (B : ℕ → Type 0) (f : ℕ → ℕ) (p q : ℕ → Bool) → ((i : ℕ) → B i → p (f i) ≡ q i) → (vs : List ℕ)
    → AllOf B vs → map p (map f vs) ≡ map q vs
marks_alike B f p q m [] h = refl
marks_alike B f p q m (x ∷ vs) h =
    ap₂ (λ y ys. y ∷ ys) (m x (all_first B x vs h)) (marks_alike B f p q m vs (all_rest B x vs h))

abbrev scheme_of : List Bool → Tree → TypeScheme
scheme_of marks body = record { marks = marks; body = body }

abbrev StandsIn : Tree → ℕ → Type 0
StandsIn t i = binds i t ≡ true

none_of : (B : ℕ → Type 0) → AllOf B []
none_of B j e = absurd (cc)

pub scheme_alike : (f : ℕ → ℕ) (σ τ : TypeScheme) → RenumbersVariables f σ τ → canonical_scheme τ ≡ canonical_scheme σ
scheme_alike f σ τ r =
    let B : ℕ → Type 0 = StandsIn σ.body in
    let vs : List ℕ = bound_in σ.body [] in
    let k : FoundAlike B f vs (bound_in (plug (by_number f) σ.body) []) =
    found_alike B f r.apart σ.body (λ i h. h) [] (none_of B) in
    let found : bound_in τ.body [] ≡ map f vs = ap (λ t. bound_in t []) r.body ∙ k.is in
    ap (λ us. renumbered us τ) found
    ∙ ap₂ scheme_of (marks_alike B f (mark_of τ.marks) (mark_of σ.marks) r.marks vs k.all)
    (ap (plug (λ i. Tree.Bound (place_of i (map f vs)))) r.body
    ∙ plug_plug (λ i. Tree.Bound (place_of i (map f vs))) (by_number f) σ.body
    ∙ plug_same_on (λ i. Tree.Bound (place_of (f i) (map f vs))) (λ i. Tree.Bound (place_of i vs)) σ.body
    (λ i h. ap Tree.Bound (place_alike B f r.apart i vs h k.all)))

place_apart : (vs : List ℕ) (i j : ℕ) → is_among i vs ≡ true → is_among j vs ≡ true → place_of i vs ≡ place_of j vs
    → i ≡ j
place_apart vs i j h k e = sym (stands_there i vs h)
    ∙ ap (λ n. Rattle.std.specs.Prelude.get_or vs n 0) e ∙ stands_there j vs k

pub scheme_again : (σ : TypeScheme) → canonical_scheme (canonical_scheme σ) ≡ canonical_scheme σ
scheme_again σ =
    let vs : List ℕ = bound_in σ.body [] in
    let there : (i : ℕ) → binds i σ.body ≡ true → is_among i vs ≡ true = λ i h. (finds σ.body).found i [] h in
    scheme_alike (λ i. place_of i vs) σ (canonical_scheme σ) (record {
      body = refl;
      marks = λ i h. get_or-map (mark_of σ.marks) vs (place_of i vs) 0 false (place_below i vs (there i h))
          ∙ ap (mark_of σ.marks) (stands_there i vs (there i h));
      apart = λ i j h k e. place_apart vs i j (there i h) (there j k) e;
    })

-- ---- types whose names are renamed

mutual
  pub renamed_twice : (h k : TyName → TyName) (t : Tree) → renamed k (renamed h t) ≡ renamed (λ n. k (h n)) t
  renamed_twice h k (Tree.Bound i) = refl
  renamed_twice h k (Tree.Free n) = refl
  renamed_twice h k (Tree.Made c ts) = ap₂ Tree.Made (symbol_twice c) (renamed_all_twice h k ts)
    where
      symbol_twice : (c : Symbol) → renamed_symbol k (renamed_symbol h c) ≡ renamed_symbol (λ n. k (h n)) c
      symbol_twice symbol.Arrow = refl
      symbol_twice (symbol.Record labels) = refl
      symbol_twice (symbol.Name name) = refl

  renamed_all_twice : (h k : TyName → TyName) (ts : Trees)
      → renamed_all k (renamed_all h ts) ≡ renamed_all (λ n. k (h n)) ts
  renamed_all_twice h k Trees.Nil = refl
  renamed_all_twice h k (Trees.Cons t ts) = ap₂ Trees.Cons (renamed_twice h k t) (renamed_all_twice h k ts)

mutual
  renamed_plug : (h : TyName → TyName) (f : ℕ → ℕ) (t : Tree)
      → renamed h (plug (by_number f) t) ≡ plug (by_number f) (renamed h t)
  renamed_plug h f (Tree.Bound i) = refl
  renamed_plug h f (Tree.Free n) = refl
  renamed_plug h f (Tree.Made c ts) = ap (Tree.Made (renamed_symbol h c)) (renamed_plug_all h f ts)

  renamed_plug_all : (h : TyName → TyName) (f : ℕ → ℕ) (ts : Trees)
      → renamed_all h (plug_all (by_number f) ts) ≡ plug_all (by_number f) (renamed_all h ts)
  renamed_plug_all h f Trees.Nil = refl
  renamed_plug_all h f (Trees.Cons t ts) = ap₂ Trees.Cons (renamed_plug h f t) (renamed_plug_all h f ts)

mutual
  renamed_found : (h : TyName → TyName) (t : Tree) (vs : List ℕ) → bound_in (renamed h t) vs ≡ bound_in t vs
  renamed_found h (Tree.Bound i) vs = refl
  renamed_found h (Tree.Free n) vs = refl
  renamed_found h (Tree.Made c ts) vs = renamed_all_found h ts vs

  renamed_all_found : (h : TyName → TyName) (ts : Trees) (vs : List ℕ)
      → bound_in_all (renamed_all h ts) vs ≡ bound_in_all ts vs
  renamed_all_found h Trees.Nil vs = refl
  renamed_all_found h (Trees.Cons t ts) vs =
      renamed_all_found h ts (bound_in (renamed h t) vs) ∙ ap (bound_in_all ts) (renamed_found h t vs)

abbrev pub renamed_scheme : (TyName → TyName) → TypeScheme → TypeScheme
renamed_scheme h σ = record { marks = σ.marks; body = renamed h σ.body }

renamed_canonical : (h : TyName → TyName) (σ : TypeScheme)
    → renamed_scheme h (canonical_scheme σ) ≡ canonical_scheme (renamed_scheme h σ)
renamed_canonical h σ =
    ap (scheme_of (map (mark_of σ.marks) (bound_in σ.body [])))
    (renamed_plug h (λ i. place_of i (bound_in σ.body [])) σ.body)
    ∙ ap (λ vs. renumbered vs (renamed_scheme h σ)) (sym (renamed_found h σ.body []))

-- a scheme that is renamed and brought to its one form, and again
pub form_twice : (h k : TyName → TyName) (σ : TypeScheme)
    → canonical_scheme (renamed_scheme k (canonical_scheme (renamed_scheme h σ)))
    ≡ canonical_scheme (renamed_scheme (λ n. k (h n)) σ)
form_twice h k σ =
    ap canonical_scheme (renamed_canonical k (renamed_scheme h σ))
    ∙ scheme_again (renamed_scheme k (renamed_scheme h σ))
    ∙ ap (λ t. canonical_scheme (scheme_of σ.marks t)) (renamed_twice h k σ.body)
