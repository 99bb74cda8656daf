-- Names of which each agrees with those before, and what is asked of the names of a unit.
use Rattle.std.proofs.Common.{◌≡◌, ℕ, zero, suc, arith, ◌+◌, ◌<◌, refl, sym, ap, subst, ◌∙◌, List, [], ◌∷◌, ◌++◌, length, take, get_or, filter, Bool, true, false, ◌&&◌, not, IsTrue, ◌↔◌}
use Rattle.std.proofs.lemmas.List.{take_more}
use Rattle.unification.proofs.Walking.{or_left, or_right, or_either}
use Rattle.semantic_objects.specs.declared.name.TyName.{TyName}
use Rattle.semantic_objects.specs.Symbols.{same_name}
use Rattle.semantic_objects.specs.Environments.{Env, Top}
use Rattle.env_parts.specs.declared.tables.TopTables.{TopTables}
use Rattle.sml_modules.specs.declared.id.EnvId.{EnvId}
use Rattle.sml_modules.specs.Graphs.{Graph}
use Rattle.sml_modules.specs.Nodes.{top_of_tables}
use Rattle.name_walks.specs.Places.{names_in_all}
use Rattle.realisation.specs.Names.{is_listed, once, names_in_env, names_in_top}
use Rattle.realisation.specs.Canonical.{met, is_own, is_bound_name}
use Rattle.realisation.proofs.Listing.{name_is, name_same, listed_left, listed_right}
use Rattle.canonical_laws.proofs.Names.{filter_listed, filter_passes, filter_keeps, listed_once, once_listed}
use Rattle.canonical_types.proofs.Ordered.{filter_once}
use Rattle.canonical_interfaces.specs.Fair.{is_other}
use Rattle.interface_format.specs.Rules.{AreNumbered, Agree, is_not_bound, HasNames}
use Rattle.restoring_laws.proofs.Numbered.{names_agree}
use Rattle.imported_interfaces.specs.declared.known.Standing.{Standing}
use Rattle.imported_interfaces.specs.declared.known.Standing.TheVariants as stands
use Rattle.imported_interfaces.specs.Known.{standing, with_new}
use Rattle.imported_interfaces.proofs.Keys.{OfOne, IsOther, when_new, when_same, when_other}
use Rattle.interface_restoring.specs.Names.{is_one}

-- ---- names one after the other

-- the names that are known are those of a list, and agree
pub record Covers (known names : List TyName) : Type 0 where
  pub to : (m : TyName) → is_listed m names ≡ true → is_listed m known ≡ true
  pub from : (m : TyName) → is_listed m known ≡ true → is_listed m names ≡ true
  pub agree : Agree known

pub covers_none : (known : List TyName) → known ≡ [] → Covers known []
covers_none known e = subst (λ z. Covers z []) (sym e) (record {
  to = λ m l. l;
  from = λ m l. l;
  agree = record { agree = λ m n l r o s. absurd (let t : false ≡ true = l in cc) };
})

either_listed : {P : Type 0} (n : TyName) (xs ys : List TyName) → is_listed n (xs ++ ys) ≡ true
    → (is_listed n xs ≡ true → P) → (is_listed n ys ≡ true → P) → P
either_listed n [] ys h f g = g h
either_listed n (x ∷ xs) ys h f g =
    or_either (same_name n x) (is_listed n (xs ++ ys)) h
    (λ e. f (or_left (same_name n x) (is_listed n xs) e))
    (λ r. either_listed n xs ys r (λ k. f (or_right (same_name n x) (is_listed n xs) k)) g)

last_is : {P : Type 0} (n x : TyName) → is_listed n (x ∷ []) ≡ true → (n ≡ x → P) → P
last_is n x h f = or_either (same_name n x) false h (λ e. f (name_is n x e)) (λ r. absurd (let t : false ≡ true = r in cc))

last_listed : (x : TyName) (xs : List TyName) → is_listed x (xs ++ x ∷ []) ≡ true
last_listed x xs = listed_right x xs (x ∷ []) (or_left (same_name x x) false (name_same x))

one_of : (m n : TyName) → m.owner ≡ n.owner → m.number ≡ n.number → OfOne m n
one_of m n o s = record { owner = o; number = s }

-- one name more
covers_new : (known names : List TyName) (x : TyName) → Covers known names → standing x known ≡ stands.New
    → Covers (known ++ x ∷ []) (names ++ x ∷ [])
covers_new known names x h e = record {
  to = λ m l. either_listed m names (x ∷ []) l (λ k. listed_left m known (x ∷ []) (h.to m k))
      (λ k. listed_right m known (x ∷ []) k);
  from = λ m l. either_listed m known (x ∷ []) l (λ k. listed_left m names (x ∷ []) (h.from m k))
      (λ k. listed_right m names (x ∷ []) k);
  agree = record {
    agree = λ m n l r o s.
        either_listed m known (x ∷ []) l
        (λ a. either_listed n known (x ∷ []) r (λ b. h.agree.agree m n a b o s)
        (λ b. last_is n x b (λ i. absurd (when_new x known e m a (subst (λ z. OfOne m z) i (one_of m n o s))))))
        (λ a. last_is m x a (λ i.
        either_listed n known (x ∷ []) r
        (λ b. absurd (when_new x known e n b (subst (λ z. OfOne n z) i (one_of n m (sym o) (sym s)))))
        (λ b. last_is n x b (λ j. i ∙ sym j))));
  };
}

covers_same : (known names : List TyName) (x : TyName) → Covers known names → standing x known ≡ stands.Same
    → Covers known (names ++ x ∷ [])
covers_same known names x h e = record {
  to = λ m l. either_listed m names (x ∷ []) l (λ k. h.to m k)
      (λ k. last_is m x k (λ i. subst (λ z. is_listed z known ≡ true) (sym i) (when_same x known e)));
  from = λ m l. listed_left m names (x ∷ []) (h.from m l);
  agree = h.agree;
}

pub covers_more : (known names new : List TyName) (x : TyName) → Covers known names
    → is_one (standing x known) ≡ true → new ≡ with_new (standing x known) known x → Covers new (names ++ x ∷ [])
covers_more known names new x h one e = by_standing (standing x known) refl
  where
    by_standing : (s : Standing) → standing x known ≡ s → Covers new (names ++ x ∷ [])
    by_standing stands.New k = subst (λ z. Covers z (names ++ x ∷ []))
        (sym (e ∙ ap (λ z. with_new z known x) k)) (covers_new known names x h k)
    by_standing stands.Same k = subst (λ z. Covers z (names ++ x ∷ []))
        (sym (e ∙ ap (λ z. with_new z known x) k)) (covers_same known names x h k)
    by_standing stands.Other k = absurd (let t : false ≡ true = sym (ap is_one k) ∙ one in cc)

other_one : (known : List TyName) (x : TyName) → is_one (standing x known) ≡ false → IsOther x known
other_one known x e = by_standing (standing x known) refl
  where
    by_standing : (s : Standing) → standing x known ≡ s → IsOther x known
    by_standing stands.New k = absurd (let t : true ≡ false = sym (ap is_one k) ∙ e in cc)
    by_standing stands.Same k = absurd (let t : true ≡ false = sym (ap is_one k) ∙ e in cc)
    by_standing stands.Other k = when_other x known k

-- a name doesn't agree with an earlier one
pub covers_not : (known names all : List TyName) (x : TyName) → Covers known names
    → is_one (standing x known) ≡ false → ((m : TyName) → is_listed m names ≡ true → is_listed m all ≡ true)
    → is_listed x all ≡ true → Agree all → ⊥
covers_not known names all x h e sub l agree =
    let other = other_one known x e in
    let same : other.known ≡ x = agree.agree other.known x (sub other.known (h.from other.known other.listed)) l
    other.of_one.owner other.of_one.number in
    let t : true ≡ false = sym (name_same x) ∙ ap (λ z. same_name z x) (sym same) ∙ other.apart in cc

taken_listed : (i : ℕ) (all : List TyName) (m : TyName) → is_listed m (take i all) ≡ true → is_listed m all ≡ true
taken_listed zero all m h = absurd (let t : false ≡ true = h in cc)
taken_listed (suc i) [] m h = h
taken_listed (suc i) (x ∷ xs) m h =
    or_either (same_name m x) (is_listed m (take i xs)) h
    (λ e. or_left (same_name m x) (is_listed m xs) e)
    (λ r. or_right (same_name m x) (is_listed m xs) (taken_listed i xs m r))

at_listed : (i : ℕ) (all : List TyName) (x d : TyName) → x ≡ get_or all i d → i < length all → is_listed x all ≡ true
at_listed i [] x d e lt = absurd (omega (arith, lt))
at_listed zero (y ∷ ys) x d e lt =
    or_left (same_name x y) (is_listed x ys) (subst (λ z. same_name x z ≡ true) e (name_same x))
at_listed (suc i) (y ∷ ys) x d e lt =
    or_right (same_name x y) (is_listed x ys) (at_listed i ys x d e (omega (arith, lt)))

pub names_more : (all : List TyName) (i : ℕ) (x d : TyName) (known new : List TyName) → x ≡ get_or all i d
    → i < length all → Covers known (take i all) → is_one (standing x known) ≡ true
    → new ≡ with_new (standing x known) known x → Covers new (take (i + 1) all)
names_more all i x d known new e lt h one n =
    subst (Covers new) (sym (take_more all i d lt ∙ ap (λ (z : TyName). take i all ++ z ∷ []) (sym e)))
    (covers_more known (take i all) new x h one n)

pub names_not : (all : List TyName) (i : ℕ) (x d : TyName) (known : List TyName) → x ≡ get_or all i d → i < length all
    → Covers known (take i all) → is_one (standing x known) ≡ false → IsTrue false ↔ Agree all
names_not all i x d known e lt h one = (
  λ t. absurd (untrue t),
  λ agree. absurd (covers_not known (take i all) all x h one (taken_listed i all) (at_listed i all x d e lt) agree),
)
  where
    untrue : IsTrue false → ⊥
    untrue t = cc

pub names_all : (all front known : List TyName) → front ≡ all → Covers known front → IsTrue true ↔ Agree all
names_all all front known e h = (
  λ t. record {
    agree = λ m n l r o s.
        h.agree.agree m n (h.to m (subst (λ z. is_listed m z ≡ true) (sym e) l))
        (h.to n (subst (λ z. is_listed n z ≡ true) (sym e) r)) o s;
  },
  λ agree. refl,
)

-- ---- none

once_none : (xs : List TyName) → once xs ≡ [] → xs ≡ []
once_none [] e = refl
once_none (x ∷ xs) e = absurd (cc)

none_once : (xs : List TyName) → xs ≡ [] → once xs ≡ []
none_once xs e = ap once e

pub none_is : (xs names bound : List TyName) → names ≡ once xs → bound ≡ filter is_bound_name names → bound ≡ []
    → filter is_bound_name xs ≡ []
none_is xs names bound a b e =
    once_none (filter is_bound_name xs) (sym (filter_once is_bound_name xs) ∙ sym (ap (filter is_bound_name) a) ∙ sym b ∙ e)

pub is_none : (xs names bound : List TyName) → names ≡ once xs → bound ≡ filter is_bound_name names
    → filter is_bound_name xs ≡ [] → bound ≡ []
is_none xs names bound a b e =
    b ∙ ap (filter is_bound_name) a ∙ filter_once is_bound_name xs ∙ ap once e

-- ---- a unit

others_listed : (home : List ℕ) (names : List TyName) (n : TyName) → is_listed n (filter (is_other home) names) ≡ true
    → is_listed n (filter is_not_bound names) ≡ true
others_listed home names n h =
    filter_keeps is_not_bound n names (filter_listed (is_other home) n names h)
    (and_right (not (is_own home n)) (not (is_bound_name n)) (filter_passes (is_other home) n names h))
  where
    and_right : (a b : Bool) → (a && b) ≡ true → b ≡ true
    and_right true b e = e
    and_right false b e = absurd (let t : false ≡ true = e in cc)

once_agrees : (home : List ℕ) (xs : List TyName) → Agree (filter (is_other home) (once xs))
    → Agree (filter (is_other home) xs)
once_agrees home xs h = record {
  agree = λ m n l r o s. h.agree m n (listed m l) (listed n r) o s;
}
  where
    listed : (m : TyName) → is_listed m (filter (is_other home) xs) ≡ true
        → is_listed m (filter (is_other home) (once xs)) ≡ true
    listed m l = filter_keeps (is_other home) m (once xs)
        (listed_once m xs (filter_listed (is_other home) m xs l))
        (filter_passes (is_other home) m xs l)

agrees_once : (home : List ℕ) (xs : List TyName) → Agree (filter (is_other home) xs)
    → Agree (filter (is_other home) (once xs))
agrees_once home xs h = record {
  agree = λ m n l r o s. h.agree m n (listed m l) (listed n r) o s;
}
  where
    listed : (m : TyName) → is_listed m (filter (is_other home) (once xs)) ≡ true
        → is_listed m (filter (is_other home) xs) ≡ true
    listed m l = filter_keeps (is_other home) m xs
        (once_listed m xs (filter_listed (is_other home) m (once xs) l))
        (filter_passes (is_other home) m (once xs) l)

pub own_is : (home : List ℕ) (xs names : List TyName) → names ≡ once xs → AreNumbered 0 (filter (is_own home) names)
    → AreNumbered 0 (met (is_own home) xs)
own_is home xs names e h =
    subst (AreNumbered 0) (ap (filter (is_own home)) e ∙ filter_once (is_own home) xs) h

pub is_own_numbered : (home : List ℕ) (xs names : List TyName) → names ≡ once xs
    → AreNumbered 0 (met (is_own home) xs) → AreNumbered 0 (filter (is_own home) names)
is_own_numbered home xs names e h =
    subst (AreNumbered 0) (sym (ap (filter (is_own home)) e ∙ filter_once (is_own home) xs)) h

pub others_agree : (home : List ℕ) (xs names others : List TyName) → names ≡ once xs
    → others ≡ filter (is_other home) names → Agree (filter is_not_bound xs) → Agree others
others_agree home xs names others e f h =
    subst Agree (sym (f ∙ ap (filter (is_other home)) e)) (agrees_once home xs (record {
      agree = λ m n l r o s. h.agree m n (others_listed home xs m l) (others_listed home xs n r) o s;
    }))

-- the names are as the rules ask
pub names_are : (home : List ℕ) (top : Top) (names others : List TyName) → names ≡ once (names_in_top top)
    → others ≡ filter (is_other home) names → AreNumbered 0 (filter (is_own home) names) → Agree others
    → filter is_bound_name (names_in_env top.env) ≡ [] → HasNames home top
names_are home top names others e f own agree inside =
    let xs = names_in_top top in
    let numbered = own_is home xs names e own in
    record {
      own = numbered;
      agree = names_agree.unit home xs numbered
          (once_agrees home xs (subst Agree (f ∙ ap (filter (is_other home)) e) agree));
      inside = inside;
    }

-- ---- what is decided of a unit

pub names_of_top : (g : Graph) (top : Top) (tables : TopTables) (envs : List EnvId) (names : List TyName)
    → top ≡ top_of_tables g.items tables → names_in_all g envs ≡ names_in_top (top_of_tables g.items tables)
    → names ≡ once (names_in_all g envs) → names ≡ once (names_in_top top)
names_of_top g top tables envs names a b c = c ∙ ap once (b ∙ ap names_in_top (sym a))

no_truth : IsTrue false → ⊥
no_truth t = cc

pub own_decides : (home : List ℕ) (top : Top) (names : List TyName) → names ≡ once (names_in_top top)
    → (AreNumbered 0 (filter (is_own home) names) → ⊥) → IsTrue false ↔ HasNames home top
own_decides home top names e bad = (
  λ t. absurd (no_truth t),
  λ h. absurd (bad (is_own_numbered home (names_in_top top) names e h.own)),
)

pub others_decide : (home : List ℕ) (top : Top) (names others : List TyName) → names ≡ once (names_in_top top)
    → others ≡ filter (is_other home) names → (Agree others → ⊥) → IsTrue false ↔ HasNames home top
others_decide home top names others e f bad = (
  λ t. absurd (no_truth t),
  λ h. absurd (bad (others_agree home (names_in_top top) names others e f h.agree)),
)

pub inside_decides : (home : List ℕ) (top : Top) (names others : List TyName) (env : Env) (r : Bool)
    → names ≡ once (names_in_top top) → others ≡ filter (is_other home) names
    → AreNumbered 0 (filter (is_own home) names) → Agree others → top.env ≡ env
    → IsTrue r ↔ (filter is_bound_name (names_in_env env) ≡ []) → IsTrue r ↔ HasNames home top
inside_decides home top names others env r e f own agree same h = (
  λ t. names_are home top names others e f own agree
      (ap (λ z. filter is_bound_name (names_in_env z)) same ∙ h.0 t),
  λ k. h.1 (ap (λ z. filter is_bound_name (names_in_env z)) (sym same) ∙ k.inside),
)
