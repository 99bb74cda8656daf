-- Matching accepts exactly where a realisation matches.
use Rattle.std.proofs.Common.{◌≡◌, ℕ, zero, suc, ◌<◌, refl, sym, ◌∙◌, subst, List, [], ◌∷◌, ◌++◌, map, Option, Some, None, Bool, true, false, ◌&&◌, not, cond, inl, inr, eqb}
use Rattle.std.specs.Prelude.{Ok, Err}
use Rattle.std.specs.List.{list_any}
use Rattle.sml_trees.specs.declared.name.At.{At}
use Rattle.semantic_objects.specs.declared.name.TyName.{TyName}
use Rattle.semantic_objects.specs.declared.symbol.Symbol.{Symbol}
use Rattle.semantic_objects.specs.declared.symbol.Symbol.TheVariants as symbol
use Rattle.semantic_objects.specs.declared.entry.TypeFn.{TypeFn}
use Rattle.semantic_objects.specs.declared.entry.TypeStr.{TypeStr}
use Rattle.semantic_objects.specs.Symbols.{same_name}
use Rattle.semantic_objects.specs.Trees.{Tree, Trees, frees, frees_any}
use Rattle.semantic_objects.specs.Environments.{Env, Signature, structures, types}
use Rattle.unification.specs.Types.{State}
use Rattle.unification.specs.Closing.{plug, plug_all}
use Rattle.unification.specs.Generality.{IsOf}
use Rattle.unification.proofs.Walking.{either_way, or_left, or_right, or_either}
use Rattle.realisation.specs.Names.{is_listed}
use Rattle.realisation.specs.Realised.{Realisation, of_rows, argument, put_function, over_realised, realised_tree, realised_trees, realised, function_admits}
use Rattle.static_semantics.specs.Holding.{Given, AllItems}
use Rattle.static_semantics.specs.Inferring.{Scope, Answer, gives, found_at}
use Rattle.static_semantics.proofs.Holding.{given_then, given_where}
use Rattle.module_semantics.specs.SignatureNames.{name_alone}
use Rattle.module_semantics.specs.Matching.{Item, items, present, Rows, if_flexible, realising, realising_item, realising_all, is_left, realisation_of, enriching_all, matching}
use Rattle.module_semantics.specs.ElaboratesSignatures.{EnrichesItem, Matches}
use Rattle.module_semantics.specs.Promises.{IsItemOf, IsOneOf, StandAlone}
use Rattle.module_semantics.proofs.Sound.{matches_by_rules}
use Rattle.module_semantics.proofs.Unique.{item_by, items_by}
use Rattle.matching_laws.specs.Promises.{FindsRows, AreOfState, MatchesExactlyWhereOneDoes}
use Rattle.matching_laws.proofs.Finding.{Holds, is_by, finds, mapped, none_some}

-- ---- variables of what is realised

mutual
  plug_frees : (θ : ℕ → Tree) (n : ℕ) (x : Tree) (P : Type 0) → frees n (plug θ x) ≡ true
      → (frees n x ≡ true → P) → ((i : ℕ) → frees n (θ i) ≡ true → P) → P
  plug_frees θ n (Tree.Bound i) P h f g = g i h
  plug_frees θ n (Tree.Free m) P h f g = f h
  plug_frees θ n (Tree.Made c xs) P h f g = plug_all_frees θ n xs P h f g

  plug_all_frees : (θ : ℕ → Tree) (n : ℕ) (xs : Trees) (P : Type 0) → frees_any n (plug_all θ xs) ≡ true
      → (frees_any n xs ≡ true → P) → ((i : ℕ) → frees n (θ i) ≡ true → P) → P
  plug_all_frees θ n Trees.Nil P h f g = absurd (cc)
  plug_all_frees θ n (Trees.Cons x xs) P h f g = or_either (frees n (plug θ x)) (frees_any n (plug_all θ xs)) h
      (λ e. plug_frees θ n x P e (λ k. f (or_left (frees n x) (frees_any n xs) k)) g)
      (λ e. plug_all_frees θ n xs P e (λ k. f (or_right (frees n x) (frees_any n xs) k)) g)

argument_frees : (n i : ℕ) (ts : Trees) → frees n (argument i ts) ≡ true → frees_any n ts ≡ true
argument_frees n i Trees.Nil h = absurd (cc)
argument_frees n zero (Trees.Cons t ts) h = or_left (frees n t) (frees_any n ts) h
argument_frees n (suc i) (Trees.Cons t ts) h = or_right (frees n t) (frees_any n ts) (argument_frees n i ts h)

-- what is put for names has variables of a state alone
abbrev PutsOf : State → Realisation → Type 0
PutsOf s φ = (name : TyName) (by : TypeFn) → φ name ≡ Some by → IsOf s by.body

put_of : (s : State) (name : TyName) (ts : Trees) (o : Option TypeFn) → ((by : TypeFn) → o ≡ Some by → IsOf s by.body)
    → ((n : ℕ) → frees_any n ts ≡ true → n < s.next) → IsOf s (put_function name ts o)
put_of s name ts None h k n e = k n e
put_of s name ts (Some by) h k n e = plug_frees (λ i. argument i ts) n by.body (n < s.next) e (h by refl n)
    (λ i j. k n (argument_frees n i ts j))

over_of : (s : State) (φ : Realisation) → PutsOf s φ → (c : Symbol) (ts : Trees)
    → ((n : ℕ) → frees_any n ts ≡ true → n < s.next) → IsOf s (over_realised φ c ts)
over_of s φ p symbol.Arrow ts k n e = k n e
over_of s φ p (symbol.Record labels) ts k n e = k n e
over_of s φ p (symbol.Name name) ts k n e = put_of s name ts (φ name) (λ by i. p name by i) k n e

mutual
  realised_of : (s : State) (φ : Realisation) → PutsOf s φ → (t : Tree) → IsOf s t → IsOf s (realised_tree φ t)
  realised_of s φ p (Tree.Bound i) h = h
  realised_of s φ p (Tree.Free m) h = h
  realised_of s φ p (Tree.Made c ts) h = over_of s φ p c (realised_trees φ ts) (realised_all_of s φ p ts h)

  realised_all_of : (s : State) (φ : Realisation) → PutsOf s φ → (ts : Trees)
      → ((n : ℕ) → frees_any n ts ≡ true → n < s.next) → (n : ℕ) → frees_any n (realised_trees φ ts) ≡ true → n < s.next
  realised_all_of s φ p Trees.Nil h n e = absurd (cc)
  realised_all_of s φ p (Trees.Cons t ts) h n e = or_either (frees n (realised_tree φ t)) (frees_any n (realised_trees
      φ ts)) e
      (λ i. realised_of s φ p t (λ m j. h m (or_left (frees m t) (frees_any m ts) j)) n i)
      (λ i. realised_all_of s φ p ts (λ m j. h m (or_right (frees m t) (frees_any m ts) j)) n i)

item_of : (s : State) (φ : Realisation) → PutsOf s φ → (x : Item) → IsItemOf s x
    → IsItemOf s (item_by (realised_tree φ) x)
item_of s φ p (Item.StructureItem path) h = tt
item_of s φ p (Item.TypeItem path str) h = tt
item_of s φ p (Item.ValueItem path value) h = realised_of s φ p value.scheme.body h

items_of : (s : State) (φ : Realisation) → PutsOf s φ → (xs : List Item) → AllItems (IsItemOf s) xs
    → AllItems (IsItemOf s) (map (item_by (realised_tree φ)) xs)
items_of s φ p [] h = tt
items_of s φ p (x ∷ xs) h = (item_of s φ p x h.0, items_of s φ p xs h.1)

env_of : (s : State) (φ : Realisation) (env : Env) → PutsOf s φ → AllItems (IsItemOf s) (items env)
    → AllItems (IsItemOf s) (items (realised φ env))
env_of s φ env p h = subst (AllItems (IsItemOf s)) (sym (items_by (realised_tree φ) [] env)) (items_of s φ p (items
    env) h)

-- ---- what matching puts

abbrev RowsOf : State → Rows → Type 0
RowsOf s rows = AllItems (λ (row : TyName × TypeFn). IsOf s row.1.body) rows

row_added : (s : State) (rows : Rows) (row : TyName × TypeFn) → RowsOf s rows → IsOf s row.1.body
    → RowsOf s (rows ++ row ∷ [])
row_added s [] row h k = (k, tt)
row_added s (first ∷ rows) row h k = (h.0, row_added s rows row h.1 k)

first_of : (s : State) (c : Bool) (f by : TypeFn) (rest : Option TypeFn) → IsOf s f.body
    → (rest ≡ Some by → IsOf s by.body) → cond c (Some f) rest ≡ Some by → IsOf s by.body
first_of s true f by rest h k e = subst (λ (z : TypeFn). IsOf s z.body) (let i : f ≡ by = cc in i) h
first_of s false f by rest h k e = k e

rows_put : (s : State) (rows : Rows) → RowsOf s rows → PutsOf s (of_rows rows)
rows_put s [] h name by e = absurd (none_some by e)
rows_put s (row ∷ rows) h name by e =
    first_of s (same_name row.0 name) row.1 by (of_rows rows name) h.0 (rows_put s rows h.1 name by) e

present_is : {A : Type 0} (sc : Scope) (at : At) (path : List (List ℕ)) (found : Option A)
    → Given (λ x. found ≡ Some x) (present sc at path found)
present_is sc at path None = tt
present_is sc at path (Some x) = refl

anything : {A : Type 0} (m : Answer A) → Given (λ x. Unit {0}) m
anything None = tt
anything (Some (Err d)) = tt
anything (Some (Ok x)) = tt

realising_of : (sc : Scope) (at : At) (s : State) (env : Env) (sig : Signature) (path : List (List ℕ)) (rows : Rows)
    (o : Option TyName) → AreOfState s env sig → RowsOf s rows → Given (RowsOf s) (realising sc at s env path rows o)
realising_of sc at s env sig path rows None a h = h
realising_of sc at s env sig path rows (Some name) a h =
    given_then (λ str. found_at types path env ≡ Some str) (RowsOf s) (present sc at path (found_at types path env)) _
    (present_is sc at path (found_at types path env)) (λ str e.
    given_where (RowsOf s) (not (eqb str.function.arity name.arity)) 35 sc at _
    (given_where (RowsOf s) (name.eq && not (function_admits s.marks str.function)) 33 sc at _
    (row_added s rows (name, str.function) h (a.functions path str e))))

item_puts : (sc : Scope) (at : At) (s : State) (env : Env) (sig : Signature) (x : Item) (rows : Rows)
    → AreOfState s env sig → RowsOf s rows → Given (RowsOf s) (realising_item sc at s env sig.bound x rows)
item_puts sc at s env sig (Item.StructureItem path) rows a h =
    given_then (λ e. Unit {0}) (RowsOf s) (present sc at path (found_at structures path env)) _
    (anything (present sc at path (found_at structures path env))) (λ e _. h)
item_puts sc at s env sig (Item.TypeItem path str) rows a h =
    realising_of sc at s env sig path rows (if_flexible sig.bound rows (name_alone str.function)) a h
item_puts sc at s env sig (Item.ValueItem path value) rows a h = h

all_put : (sc : Scope) (at : At) (s : State) (env : Env) (sig : Signature) (xs : List Item) (rows : Rows)
    → AreOfState s env sig → RowsOf s rows → Given (RowsOf s) (realising_all sc at s env sig.bound xs rows)
all_put sc at s env sig [] rows a h = h
all_put sc at s env sig (x ∷ xs) rows a h =
    given_then (RowsOf s) (RowsOf s) (realising_item sc at s env sig.bound x rows)
    (realising_all sc at s env sig.bound xs) (item_puts sc at s env sig x rows a h)
    (λ more k. all_put sc at s env sig xs more a k)

matching_puts : (sc : Scope) (at : At) (s : State) (env : Env) (sig : Signature) → AreOfState s env sig
    → Given (RowsOf s) (matching sc at s env sig)
matching_puts sc at s env sig a =
    given_then (RowsOf s) (RowsOf s) (realisation_of sc at s env sig) _
    (given_then (RowsOf s) (RowsOf s) (realising_all sc at s env sig.bound (items sig.env) []) _
    (all_put sc at s env sig (items sig.env) [] a tt) (λ rows h.
    given_where (RowsOf s) (list_any (is_left rows) sig.bound) 37 sc at _ h)) (λ rows h.
    given_then (λ u. Unit {0}) (RowsOf s) (enriching_all sc at s env (items (realised (of_rows rows) sig.env))) _
    (anything (enriching_all sc at s env (items (realised (of_rows rows) sig.env)))) (λ u _. h))

-- ---- a realisation that matches puts what is found

of_one : (P : Item → Type 0) (x : Item) (ys : List Item) → AllItems P ys → IsOneOf x ys → P x
of_one P x [] h i = absurd i
of_one P x (y ∷ ys) h (inl e) = subst P (sym e) h.0
of_one P x (y ∷ ys) h (inr i) = of_one P x ys h.1 i

some_is : (a b : TypeFn) (o : Option TypeFn) → o ≡ Some a → o ≡ Some b → a ≡ b
some_is a b o h k = let e : Some a ≡ Some b = sym h ∙ k in cc

puts_found : (s : State) (env : Env) (sig : Signature) (φ : Realisation) → AreOfState s env sig → StandAlone sig
    → Matches s env sig φ → PutsOf s φ
puts_found s env sig φ a alone m name by e = either_way (is_listed name sig.bound)
    (λ l. (let place : (path : List (List ℕ)) × (str : TypeStr) × IsOneOf (Item.TypeItem path str) (items sig.env)
    × (name_alone str.function ≡ Some name) = alone name l in
    let holds : AllItems (Holds s env φ) (items sig.env) =
    mapped (EnrichesItem s env) (item_by (realised_tree φ)) (items sig.env)
    (subst (AllItems (EnrichesItem s env)) (items_by (realised_tree φ) [] sig.env) m.enriches) in
    let found : (found : TypeStr) × (found_at types place.0 env ≡ Some found) × (φ name ≡ Some found.function)
    × Rattle.module_semantics.specs.ElaboratesSignatures.Respects s name found.function =
    is_by s env sig φ m place.0 place.1 name place.3 l
    (of_one (Holds s env φ) (Item.TypeItem place.0 place.1) (items sig.env) holds place.2) in
    subst (λ (z : TypeFn). IsOf s z.body) (some_is found.0.function by (φ name) found.2 e)
    (a.functions place.0 found.0 found.1)))
    (λ l. absurd (none_some by (sym (m.realises.others name l) ∙ e)))

-- ---- both ways

given_at : {A : Type 0} (R : A → Type 0) (m : Answer A) (x : A) → m ≡ gives x → Given R m → R x
given_at R m x e h = subst (Given R) e h

pub exactly_where_one_does : MatchesExactlyWhereOneDoes
exactly_where_one_does = record {
  exactly = λ sc at s env sig a alone. (
    (λ r. (
      of_rows r.0,
      given_at
          (λ rows. AllItems (IsItemOf s) (items (realised (of_rows rows) sig.env)) → Matches s env sig (of_rows rows))
          (matching sc at s env sig) r.0 r.1 (matches_by_rules sc at s env sig a.state)
          (env_of s (of_rows r.0) sig.env
          (rows_put s r.0 (given_at (RowsOf s) (matching sc at s env sig) r.0 r.1 (matching_puts sc at s env sig a)))
          a.values),
    )),
    (λ m. (let f : FindsRows sc at s env sig m.0 = finds sc at s env sig m.0 a.state alone
        (env_of s m.0 sig.env (puts_found s env sig m.0 a alone m.1) a.values) m.1 in (f.rows, f.found))),
  );
}
