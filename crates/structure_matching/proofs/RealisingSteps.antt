-- The walk for a realisation, item by item.
use Rattle.std.proofs.Common.{◌≡◌, ℕ, refl, sym, ap, ap₂, ◌∙◌, subst, List, [], ◌∷◌, ◌++◌, map, Option, Some, None, Bool, true, false, ◌&&◌, not, eqb}
use Rattle.std.specs.Prelude.{Result, Ok, Err}
use Rattle.cm_base.specs.declared.diag.Diag.{Diag}
use Rattle.cm_base.specs.declared.diag.Place.{Place}
use Rattle.cm_base.specs.declared.fault.Fault.{Fault}
use Rattle.cm_base.specs.declared.fault.Fault.TheVariants as fault
use Rattle.semantic_objects.specs.declared.name.TyName.{TyName}
use Rattle.semantic_objects.specs.declared.entry.TypeStr.{TypeStr}
use Rattle.semantic_objects.specs.Environments.{Env, types}
use Rattle.unification.specs.Types.{State}
use Rattle.realisation.specs.Realised.{function_admits}
use Rattle.sml_modules.specs.Items.{Item as Node, at, as_type}
use Rattle.type_walks.specs.Replaced.{rows_of}
use Rattle.static_semantics.specs.Inferring.{Scope, Answer, ◌>>=◌, gives, diag_at, refuses_where, found_at}
use Rattle.static_semantics.specs.Holding.{AllItems}
use Rattle.module_semantics.specs.SignatureNames.{name_alone}
use Rattle.module_semantics.specs.Matching.{Item, Rows, present, if_flexible, realising, realising_item, realising_all}
use Rattle.type_phrases.specs.Inferred.{Answers}
use Rattle.structure_matching.specs.declared.parts.Component.{Component}
use Rattle.structure_matching.specs.declared.search.Search.{Search}
use Rattle.structure_matching.specs.Refusals.{Refuses}
use Rattle.std.proofs.lemmas.Bool.{eq-eqb}
use Rattle.semantic_objects.specs.declared.entry.ConEntry.{ConEntry}
use Rattle.semantic_objects.specs.Trees.{Tree, Trees}
use Rattle.unification.specs.Types.{Substitution}
use Rattle.unification.specs.Closing.{put_tree, put_trees}
use Rattle.unification.proofs.Walking.{or_false_left, or_false_right}
use Rattle.env_parts.specs.declared.facts.Facts.{Facts}
use Rattle.env_parts.specs.Types.{holds_free, any_holds_free, facts_of, con_types, type_types}
use Rattle.sml_modules.specs.Items.{item_facts}
use Rattle.static_semantics.specs.EnvironmentsPut.{put_con, put_type}
use Rattle.structure_matching.specs.Searching.{known_type, at_of, Continues, Realises, of_components}

-- ---- answers

-- a diagnostic at a place is one of inference in its file
pub refused : {A R : Type 0} (place : Place) (number : ℕ) (names : List (List ℕ)) (f : Fault) (inner : Scope)
    (want : Answer A) (read : R → A) → inner.home ≡ place.file → Refuses place number names f
    → want ≡ Some (Err (diag_at number inner (at_of place) names)) → Answers want read (Err f)
refused place number names (fault.Diag d) inner want read home h e =
    e ∙ ap (λ file. Some (Err (diag_in file))) home ∙ ap (λ z. Some (Err z)) (sym h)
  where
    diag_in : List ℕ → Diag
    diag_in file = record { number = number; at = record { file = file; line = place.line; col = place.col }; names = names }
refused place number names fault.NoMemory inner want read home h e = tt

-- ---- items one after the other

pub then_nothing : (inner : Scope) (place : Place) (s : State) (root : Env) (bound : List TyName) (m : Answer Rows)
    → (m >>= realising_all inner (at_of place) s root bound []) ≡ m
then_nothing inner place s root bound None = refl
then_nothing inner place s root bound (Some (Err d)) = refl
then_nothing inner place s root bound (Some (Ok rows)) = refl

then_assoc : {A B C : Type 0} (m : Answer A) (f : A → Answer B) (h : B → Answer C)
    → ((m >>= f) >>= h) ≡ (m >>= λ x. f x >>= h)
then_assoc None f h = refl
then_assoc (Some (Err d)) f h = refl
then_assoc (Some (Ok x)) f h = refl

then_same : {A B : Type 0} (m : Answer A) (f h : A → Answer B) → ((x : A) → f x ≡ h x) → (m >>= f) ≡ (m >>= h)
then_same None f h e = refl
then_same (Some (Err d)) f h e = refl
then_same (Some (Ok x)) f h e = e x

pub realising_all-append : (inner : Scope) (place : Place) (s : State) (root : Env) (bound : List TyName)
    (xs ys : List Item) (rows : Rows)
    → realising_all inner (at_of place) s root bound (xs ++ ys) rows
    ≡ (realising_all inner (at_of place) s root bound xs rows >>= realising_all inner (at_of place) s root bound ys)
realising_all-append inner place s root bound [] ys rows = refl
realising_all-append inner place s root bound (x ∷ xs) ys rows =
    then_same (realising_item inner (at_of place) s root bound x rows)
    (realising_all inner (at_of place) s root bound (xs ++ ys))
    (λ r. realising_all inner (at_of place) s root bound xs r >>= realising_all inner (at_of place) s root bound ys)
    (λ r. realising_all-append inner place s root bound xs ys r)
    ∙ sym (then_assoc (realising_item inner (at_of place) s root bound x rows)
    (realising_all inner (at_of place) s root bound xs) (realising_all inner (at_of place) s root bound ys))

-- a step that gives, and then more
pub goes_on : {A B : Type 0} (m : Answer A) (x : A) (f : A → Answer B) → m ≡ gives x → (m >>= f) ≡ f x
goes_on m x f e = ap (λ z. z >>= f) e

-- a step that fails, and then more
pub stops : {A B : Type 0} (m : Answer A) (d : Diag) (f : A → Answer B) → m ≡ Some (Err d) → (m >>= f) ≡ Some (Err d)
stops m d f e = ap (λ z. z >>= f) e

-- ---- a walk over components

pub record RealisedTo (place : Place) (first now : Search) (Finds : State → Env → Component → Type 0)
    (items_of : Component → List Item) (all rest : List Component) : Type 0 where
  pub continues : Continues first now
  pub finds : (s : State) (root : Env) → AllItems (Finds s root) all → AllItems (Finds s root) rest
  pub whole : (inner : Scope) (s : State) (root : Env) → inner.home ≡ place.file → AllItems (Finds s root) all
      → realising_all inner (at_of place) s root first.bound.names (of_components items_of all) (rows_of first.rows)
      ≡ realising_all inner (at_of place) s root first.bound.names (of_components items_of rest) (rows_of now.rows)

-- what is left after one of them
after : (place : Place) (first now : Search) (Finds : State → Env → Component → Type 0)
    (items_of : Component → List Item) (all rest more : List Component) (c : Component)
    → RealisedTo place first now Finds items_of all rest → rest ≡ c ∷ more → (s : State) (root : Env)
    → AllItems (Finds s root) all → Finds s root c × AllItems (Finds s root) more
after place first now Finds items_of all rest more c r at s root f =
    subst (AllItems (Finds s root)) at (r.finds s root f)

step : (place : Place) (first now : Search) (Finds : State → Env → Component → Type 0)
    (items_of : Component → List Item) (all rest more : List Component) (c : Component)
    → RealisedTo place first now Finds items_of all rest → rest ≡ c ∷ more → (inner : Scope) (s : State) (root : Env)
    → inner.home ≡ place.file → AllItems (Finds s root) all
    → realising_all inner (at_of place) s root first.bound.names (of_components items_of all) (rows_of first.rows)
    ≡ (realising_all inner (at_of place) s root first.bound.names (items_of c) (rows_of now.rows)
    >>= realising_all inner (at_of place) s root first.bound.names (of_components items_of more))
step place first now Finds items_of all rest more c r at inner s root home f =
    r.whole inner s root home f
    ∙ ap (λ cs. realising_all inner (at_of place) s root first.bound.names (of_components items_of cs) (rows_of now.rows)) at
    ∙ realising_all-append inner place s root first.bound.names (items_of c) (of_components items_of more) (rows_of now.rows)

pub realised_one : (place : Place) (first now new : Search) (Finds : State → Env → Component → Type 0)
    (items_of : Component → List Item) (all rest more : List Component) (c : Component)
    → RealisedTo place first now Finds items_of all rest → rest ≡ c ∷ more
    → Realises place now new (Ok tt) (λ s root. Finds s root c) (items_of c) → Continues now new
    → RealisedTo place first new Finds items_of all more
realised_one place first now new Finds items_of all rest more c r at h k = record {
  continues = record {
    path = k.path ∙ r.continues.path;
    bound = k.bound ∙ r.continues.bound;
    search = k.search;
  };
  finds = λ s root f. (after place first now Finds items_of all rest more c r at s root f).1;
  whole = λ inner s root home f.
      step place first now Finds items_of all rest more c r at inner s root home f
      ∙ goes_on (realising_all inner (at_of place) s root first.bound.names (items_of c) (rows_of now.rows))
      (rows_of new.rows) (realising_all inner (at_of place) s root first.bound.names (of_components items_of more))
      (ap (λ names. realising_all inner (at_of place) s root names (items_of c) (rows_of now.rows)) (sym r.continues.bound)
      ∙ h inner s root home (after place first now Finds items_of all rest more c r at s root f).0);
}

pub realised_stop : (place : Place) (first now new last : Search) (Finds : State → Env → Component → Type 0)
    (items_of : Component → List Item) (all rest more : List Component) (c : Component) (f : Fault)
    → RealisedTo place first now Finds items_of all rest → rest ≡ c ∷ more
    → Realises place now new (Err f) (λ s root. Finds s root c) (items_of c)
    → Realises place first last (Err f) (λ s root. AllItems (Finds s root) all) (of_components items_of all)
realised_stop place first now new last Finds items_of all rest more c (fault.Diag d) r at h inner s root home f =
    step place first now Finds items_of all rest more c r at inner s root home f
    ∙ stops (realising_all inner (at_of place) s root first.bound.names (items_of c) (rows_of now.rows)) d
    (realising_all inner (at_of place) s root first.bound.names (of_components items_of more))
    (ap (λ names. realising_all inner (at_of place) s root names (items_of c) (rows_of now.rows)) (sym r.continues.bound)
    ∙ h inner s root home (after place first now Finds items_of all rest more c r at s root f).0)
realised_stop place first now new last Finds items_of all rest more c fault.NoMemory r at h inner s root home f = tt

-- ---- a type

pub same_answer : {A R : Type 0} (want other : Answer A) (read : R → A) (r : Result R Fault) → want ≡ other
    → Answers other read r → Answers want read r
same_answer want other read r e h = subst (λ z. Answers z read r) (sym e) h

-- a name, where this type structure is found
realising_by : (inner : Scope) (place : Place) (s : State) (root : Env) (path : List (List ℕ)) (rows : Rows) (name : TyName)
    (str : TypeStr) (a b : Bool) → found_at types path root ≡ Some str → a ≡ not (eqb str.function.arity name.arity)
    → b ≡ (name.eq && not (function_admits s.marks str.function))
    → realising inner (at_of place) s root path rows (Some name)
    ≡ (refuses_where a 35 inner (at_of place)
    >>= λ u. refuses_where b 33 inner (at_of place)
    >>= λ v. gives (rows ++ (name, str.function) ∷ []))
realising_by inner place s root path rows name str a b e f g =
    ap (λ o. present inner (at_of place) path o
    >>= λ x. refuses_where (not (eqb x.function.arity name.arity)) 35 inner (at_of place)
    >>= λ u. refuses_where (name.eq && not (function_admits s.marks x.function)) 33 inner (at_of place)
    >>= λ v. gives (rows ++ (name, x.function) ∷ [])) e
    ∙ ap₂ (λ x y. refuses_where x 35 inner (at_of place)
    >>= λ u. refuses_where y 33 inner (at_of place)
    >>= λ v. gives (rows ++ (name, str.function) ∷ [])) (sym f) (sym g)

same_arity : (m n : ℕ) → m ≡ n → false ≡ not (eqb m n)
same_arity m n e = sym (ap not (eq-eqb m n e))

pub name_lacks : (inner : Scope) (place : Place) (s : State) (root : Env) (path : List (List ℕ)) (rows : Rows)
    (name : TyName) (str : TypeStr) (b : Bool) → found_at types path root ≡ Some str → str.function.arity ≡ name.arity
    → b ≡ (name.eq && not (function_admits s.marks str.function)) → b ≡ true
    → realising inner (at_of place) s root path rows (Some name) ≡ Some (Err (diag_at 33 inner (at_of place) []))
name_lacks inner place s root path rows name str b e f g h =
    realising_by inner place s root path rows name str false true e
    (same_arity str.function.arity name.arity f) (sym h ∙ g)

pub name_fits : (inner : Scope) (place : Place) (s : State) (root : Env) (path : List (List ℕ)) (rows : Rows)
    (name : TyName) (str : TypeStr) (b : Bool) → found_at types path root ≡ Some str → str.function.arity ≡ name.arity
    → b ≡ (name.eq && not (function_admits s.marks str.function)) → b ≡ false
    → realising inner (at_of place) s root path rows (Some name) ≡ gives (rows ++ (name, str.function) ∷ [])
name_fits inner place s root path rows name str b e f g h =
    realising_by inner place s root path rows name str false false e
    (same_arity str.function.arity name.arity f) (sym h ∙ g)

-- a type alone is a walk over it
pub type_alone : (inner : Scope) (place : Place) (s : State) (root : Env) (bound : List TyName) (path : List (List ℕ))
    (rows : Rows) (item : Node) (str : TypeStr) (o : Option TyName) → item ≡ Node.TypeItem str
    → o ≡ if_flexible bound rows (name_alone str.function)
    → realising_all inner (at_of place) s root bound (Item.TypeItem path (as_type item) ∷ []) rows
    ≡ realising inner (at_of place) s root path rows o
type_alone inner place s root bound path rows item str o e f =
    then_nothing inner place s root bound (realising inner (at_of place) s root path rows
    (if_flexible bound rows (name_alone (as_type item).function)))
    ∙ ap (λ x. realising inner (at_of place) s root path rows (if_flexible bound rows (name_alone (as_type x).function))) e
    ∙ ap (realising inner (at_of place) s root path rows) (sym f)

-- ---- types without variables of a table

mutual
  pub put_same : (s : Substitution) (t : Tree) → holds_free t ≡ false → put_tree s t ≡ t
  put_same s (Tree.Bound i) h = refl
  put_same s (Tree.Free n) h = absurd (cc)
  put_same s (Tree.Made c ts) h = ap (Tree.Made c) (put_all_same s ts h)

  put_all_same : (s : Substitution) (ts : Trees) → any_holds_free ts ≡ false → put_trees s ts ≡ ts
  put_all_same s Trees.Nil h = refl
  put_all_same s (Trees.Cons t ts) h = ap₂ Trees.Cons
      (put_same s t (or_false_left (holds_free t) (any_holds_free ts) h))
      (put_all_same s ts (or_false_right (holds_free t) (any_holds_free ts) h))

con_same : (s : Substitution) (con : ConEntry) → holds_free con.scheme.body ≡ false → put_con s con ≡ con
con_same s con h = ap (λ t. (let c : ConEntry = record { name = con.name; scheme = record { marks = con.scheme.marks; body = t } } in c))
    (put_same s con.scheme.body h)

cons_same : (s : Substitution) (cons : List ConEntry) → (facts_of (con_types cons)).has_free ≡ false
    → map (put_con s) cons ≡ cons
cons_same s [] h = refl
cons_same s (con ∷ cons) h = ap₂ (λ x xs. x ∷ xs)
    (con_same s con (or_false_left (holds_free con.scheme.body) (facts_of (con_types cons)).has_free h))
    (cons_same s cons (or_false_right (holds_free con.scheme.body) (facts_of (con_types cons)).has_free h))

type_same : (s : Substitution) (str : TypeStr) → (facts_of (type_types str)).has_free ≡ false → put_type s str ≡ str
type_same s str h = ap₂ (λ t cs. (let x : TypeStr = record { function = record { arity = str.function.arity; body = t }; cons = cs } in x))
    (put_same s str.function.body (or_false_left (holds_free str.function.body) (facts_of (con_types str.cons)).has_free h))
    (cons_same s str.cons (or_false_right (holds_free str.function.body) (facts_of (con_types str.cons)).has_free h))

-- a type structure at a place is known as it stands there
pub type_known : (items : List Node) (s : State) (p : ℕ) (str : TypeStr) (facts : Facts) → at items p ≡ Node.TypeItem str
    → facts ≡ item_facts (at items p) → facts.has_free ≡ false → known_type items s p ≡ str
type_known items s p str facts e f h =
    ap (λ x. put_type s.stands (as_type x)) e
    ∙ type_same s.stands str (sym (ap (λ (z : Facts). z.has_free) (f ∙ ap item_facts e)) ∙ h)
