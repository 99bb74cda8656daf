-- What matching gives, the rules allow.
use Rattle.std.proofs.Common.{◌≡◌, ℕ, refl, sym, ap₂, subst, List, [], ◌∷◌, ◌++◌, map, Option, Some, None, Bool, true, false, ◌&&◌, not, cond, ◌⊎◌, inl, inr}
use Rattle.std.proofs.lemmas.Bool.{eqb-true}
use Rattle.std.specs.Prelude.{eqb, Ok, Err}
use Rattle.std.specs.Option.{is_none}
use Rattle.std.specs.List.{list_any}
use Rattle.sml_trees.specs.declared.name.At.{At}
use Rattle.semantic_objects.proofs.Same.{text_is}
use Rattle.semantic_objects.specs.declared.name.TyName.{TyName}
use Rattle.semantic_objects.specs.declared.entry.ConEntry.{ConEntry}
use Rattle.semantic_objects.specs.declared.entry.TypeFn.{TypeFn}
use Rattle.semantic_objects.specs.declared.entry.TypeStr.{TypeStr}
use Rattle.semantic_objects.specs.declared.entry.VidStatus.{VidStatus}
use Rattle.semantic_objects.specs.declared.entry.VidStatus.TheVariants as status
use Rattle.semantic_objects.specs.Symbols.{same_list, same_text, same_bool, same_name}
use Rattle.semantic_objects.specs.Trees.{Tree, TypeScheme}
use Rattle.semantic_objects.specs.Environments.{Env, Signature, structures, types, values}
use Rattle.unification.specs.Types.{State}
use Rattle.unification.specs.Closing.{canonical_scheme}
use Rattle.unification.specs.Generality.{same_tree, covers}
use Rattle.unification.proofs.Walking.{not_both, or_either, or_false_left, or_false_right, and_left, and_right}
use Rattle.unification.proofs.Filling.{tree_is}
use Rattle.unification.proofs.Covering.{covers_law}
use Rattle.realisation.specs.Names.{is_listed}
use Rattle.realisation.specs.Realised.{of_rows, realised, function_admits}
use Rattle.realisation.proofs.Listing.{name_is}
use Rattle.static_semantics.proofs.Holding.{given_then}
use Rattle.static_semantics.specs.Holding.{Given, IfSome, AllItems}
use Rattle.static_semantics.specs.Inferring.{Scope, Answer, ◌>>=◌, refuses_where, found_at}
use Rattle.module_semantics.specs.SignatureNames.{name_alone}
use Rattle.module_semantics.specs.Matching.{Item, items, present, misfits_where, Rows, realisation_of, if_flexible, realising, realising_item, realising_all, is_left, same_function, same_scheme, same_con, has_cons, has_status, fits_type, fits_value, enriching_item, enriching_all, matching}
use Rattle.module_semantics.specs.ElaboratesSignatures.{Respects, Realises, con_form, HasCons, HasStatus, EnrichesType, EnrichesItem, Matches}
use Rattle.module_semantics.specs.Promises.{IsOfState, IsItemOf}

-- ---- answers

-- a check on the way, which doesn't fail
where_false : {B : Type 0} (Q : B → Type 0) (c : Bool) (number : ℕ) (sc : Scope) (at : At)
    (next : Unit {0} → Answer B) → (c ≡ false → Given Q (next tt)) → Given Q (refuses_where c number sc at >>= next)
where_false Q true number sc at next h = tt
where_false Q false number sc at next h = h refl

misfits_false : (Q : Unit {0} → Type 0) (c : Bool) (sc : Scope) (at : At) (path : List (List ℕ)) → (c ≡ false → Q tt)
    → Given Q (misfits_where c sc at path)
misfits_false Q true sc at path h = tt
misfits_false Q false sc at path h = h refl

present_is : {A : Type 0} (sc : Scope) (at : At) (path : List (List ℕ)) (found : Option A)
    → Given (λ x. found ≡ Some x) (present sc at path found)
present_is sc at path None = tt
present_is sc at path (Some x) = refl

not_false : (b : Bool) → not b ≡ false → b ≡ true
not_false true h = refl
not_false false h = absurd (cc)

implied : (a b : Bool) → (a && not b) ≡ false → a ≡ true → b ≡ true
implied true true h k = refl
implied true false h k = absurd (cc)
implied false b h k = absurd (cc)

-- ---- rows

some_of : (c : Bool) (f by : TypeFn) (rest : Option TypeFn) → cond c (Some f) rest ≡ Some by
    → ((c ≡ true) × (f ≡ by)) ⊎ (rest ≡ Some by)
some_of true f by rest h = inl (refl, (let k : f ≡ by = cc in k))
some_of false f by rest h = inr h

some_none : (by : TypeFn) → None ≡ Some by → ⊥
some_none by h = cc

some_first : (c : Bool) (f by : TypeFn) (rest more : Option TypeFn)
    → (rest ≡ Some by → more ≡ Some by) → cond c (Some f) rest ≡ Some by → cond c (Some f) more ≡ Some by
some_first true f by rest more k h = h
some_first false f by rest more k h = k h

-- what is found after a row was added was found before, or is that of the row
abbrev pub FoundBefore : Rows → TyName → TypeFn → TyName → TypeFn → Type 0
FoundBefore rows n f name by = (of_rows rows name ≡ Some by) ⊎ ((n ≡ name) × (f ≡ by))

head_or : (c : Bool) (x f by : TypeFn) (rest more : Option TypeFn) (R : Type 0) → cond c (Some x) more ≡ Some by
    → (more ≡ Some by → (rest ≡ Some by) ⊎ R) → (cond c (Some x) rest ≡ Some by) ⊎ R
head_or true x f by rest more R h k = inl h
head_or false x f by rest more R h k = k h

one_row : (n : TyName) (f : TypeFn) (name : TyName) (by : TypeFn) (c : Bool) → same_name n name ≡ c
    → cond c (Some f) None ≡ Some by → ((n ≡ name) × (f ≡ by))
one_row n f name by true e h = (name_is n name e, (let k : f ≡ by = cc in k))
one_row n f name by false e h = absurd (some_none by h)

pub row_added : (rows : Rows) (n : TyName) (f : TypeFn) (name : TyName) (by : TypeFn)
    → of_rows (rows ++ (n, f) ∷ []) name ≡ Some by → FoundBefore rows n f name by
row_added [] n f name by h = inr (one_row n f name by (same_name n name) refl h)
row_added (row ∷ rows) n f name by h = head_or (same_name row.0 name) row.1 f by (of_rows rows name)
    (of_rows (rows ++ (n, f) ∷ []) name) ((n ≡ name) × (f ≡ by)) h (row_added rows n f name by)

-- every row is of a bound name, and may be put for it
abbrev RowsRespect : State → List TyName → Rows → Type 0
RowsRespect s bound rows =
    (name : TyName) (by : TypeFn) → of_rows rows name ≡ Some by → (is_listed name bound ≡ true) × Respects s name by

-- ---- the first walk

abbrev IsBoundName : List TyName → TyName → Type 0
IsBoundName bound name = is_listed name bound ≡ true

if_both : (bound : List TyName) (name : TyName) (c d : Bool) → is_listed name bound ≡ c
    → IfSome (IsBoundName bound) (cond (c && d) (Some name) None)
if_both bound name true true e = e
if_both bound name true false e = tt
if_both bound name false d e = tt

flexible_bound : (bound : List TyName) (rows : Rows) (found : Option TyName)
    → IfSome (IsBoundName bound) (if_flexible bound rows found)
flexible_bound bound rows None = tt
flexible_bound bound rows (Some name) =
    if_both bound name (is_listed name bound) (is_none (of_rows rows name)) refl

added_respects : (s : State) (bound : List TyName) (rows : Rows) (n : TyName) (f : TypeFn) → RowsRespect s bound rows
    → is_listed n bound ≡ true → Respects s n f → RowsRespect s bound (rows ++ (n, f) ∷ [])
added_respects s bound rows n f h l r name by e = cases (row_added rows n f name by e)
  where
    cases : FoundBefore rows n f name by → (is_listed name bound ≡ true) × Respects s name by
    cases (inl k) = h name by k
    cases (inr k) = (
      subst (λ z. is_listed z bound ≡ true) k.0 l,
      subst (λ z. Respects s name z) k.1 (subst (λ z. Respects s z f) k.0 r),
    )

realising_respects : (sc : Scope) (at : At) (s : State) (env : Env) (bound : List TyName) (path : List (List ℕ))
    (rows : Rows) (found : Option TyName) → IsOfState s env → IfSome (IsBoundName bound) found
    → RowsRespect s bound rows → Given (RowsRespect s bound) (realising sc at s env path rows found)
realising_respects sc at s env bound path rows None of l h = h
realising_respects sc at s env bound path rows (Some name) of l h =
    given_then (λ str. found_at types path env ≡ Some str) (RowsRespect s bound)
    (present sc at path (found_at types path env))
    (λ str. refuses_where (not (eqb str.function.arity name.arity)) 35 sc at
    >>= λ u. refuses_where (name.eq && not (function_admits s.marks str.function)) 33 sc at
    >>= λ v. Some (Ok (rows ++ (name, str.function) ∷ [])))
    (present_is sc at path (found_at types path env))
    (λ str e. where_false (RowsRespect s bound) (not (eqb str.function.arity name.arity)) 35 sc at
    (λ u. refuses_where (name.eq && not (function_admits s.marks str.function)) 33 sc at
    >>= λ v. Some (Ok (rows ++ (name, str.function) ∷ [])))
    (λ a. where_false (RowsRespect s bound) (name.eq && not (function_admits s.marks str.function)) 33 sc at
    (λ v. Some (Ok (rows ++ (name, str.function) ∷ [])))
    (λ q. added_respects s bound rows name str.function h l (record {
      arity = eqb-true str.function.arity name.arity (not_false (eqb str.function.arity name.arity) a);
      closed = of.functions path str e;
      equality = implied name.eq (function_admits s.marks str.function) q;
    }))))

item_respects : (sc : Scope) (at : At) (s : State) (env : Env) (bound : List TyName) (item : Item) (rows : Rows)
    → IsOfState s env → RowsRespect s bound rows
    → Given (RowsRespect s bound) (realising_item sc at s env bound item rows)
item_respects sc at s env bound (Item.StructureItem path) rows of h =
    given_then (λ e. Unit {0}) (RowsRespect s bound) (present sc at path (found_at structures path env))
    (λ e. Some (Ok rows)) (anything sc at path (found_at structures path env)) (λ e _. h)
  where
    anything : {A : Type 0} (sc : Scope) (at : At) (path : List (List ℕ)) (found : Option A)
        → Given (λ x. Unit {0}) (present sc at path found)
    anything sc at path None = tt
    anything sc at path (Some x) = tt
item_respects sc at s env bound (Item.TypeItem path str) rows of h =
    realising_respects sc at s env bound path rows (if_flexible bound rows (name_alone str.function)) of
    (flexible_bound bound rows (name_alone str.function)) h
item_respects sc at s env bound (Item.ValueItem path value) rows of h = h

all_respect : (sc : Scope) (at : At) (s : State) (env : Env) (bound : List TyName) (xs : List Item) (rows : Rows)
    → IsOfState s env → RowsRespect s bound rows
    → Given (RowsRespect s bound) (realising_all sc at s env bound xs rows)
all_respect sc at s env bound [] rows of h = h
all_respect sc at s env bound (x ∷ xs) rows of h = given_then (RowsRespect s bound) (RowsRespect s bound)
    (realising_item sc at s env bound x rows) (realising_all sc at s env bound xs)
    (item_respects sc at s env bound x rows of h) (λ more k. all_respect sc at s env bound xs more of k)

-- ---- no name is left

none_left : (rows : Rows) (bound : List TyName) (name : TyName) → list_any (is_left rows) bound ≡ false
    → is_listed name bound ≡ true → is_left rows name ≡ false
none_left rows [] name h l = absurd (cc)
none_left rows (m ∷ ms) name h l = or_either (same_name name m) (is_listed name ms) l
    (λ e. subst (λ z. is_left rows z ≡ false) (sym (name_is name m e))
    (or_false_left (is_left rows m) (list_any (is_left rows) ms) h))
    (λ e. none_left rows ms name (or_false_right (is_left rows m) (list_any (is_left rows) ms) h) e)

there : (found : Option TypeFn) → is_none found ≡ false → (by : TypeFn) × (found ≡ Some by)
there None h = absurd (cc)
there (Some by) h = (by, refl)

not_there : (P : TypeFn → Type 0) (found : Option TypeFn) → ((by : TypeFn) → found ≡ Some by → ⊥) → found ≡ None
not_there P None h = refl
not_there P (Some by) h = absurd (h by refl)

rows_realise : (s : State) (sig : Signature) (rows : Rows) → RowsRespect s sig.bound rows
    → list_any (is_left rows) sig.bound ≡ false → Realises s sig (of_rows rows)
rows_realise s sig rows h none = record {
  bound = λ name l. (let found : (by : TypeFn) × (of_rows rows name ≡ Some by) =
      there (of_rows rows name) (none_left rows sig.bound name none l) in
      (found.0, found.1, (h name found.0 found.1).1));
  others = λ name l. not_there (λ by. Unit {0}) (of_rows rows name)
      (λ by e. not_both (is_listed name sig.bound) l (h name by e).0);
}

-- ---- the second walk

bools_are : (a b : Bool) → same_bool a b ≡ true → a ≡ b
bools_are true true h = refl
bools_are true false h = absurd (cc)
bools_are false true h = absurd (cc)
bools_are false false h = refl

marks_are : (xs ys : List Bool) → same_list same_bool xs ys ≡ true → xs ≡ ys
marks_are [] [] h = refl
marks_are [] (y ∷ ys) h = absurd (cc)
marks_are (x ∷ xs) [] h = absurd (cc)
marks_are (x ∷ xs) (y ∷ ys) h = ap₂ (λ z zs. z ∷ zs)
    (bools_are x y (and_left (same_bool x y) (same_list same_bool xs ys) h))
    (marks_are xs ys (and_right (same_bool x y) (same_list same_bool xs ys) h))

abbrev scheme_of : List Bool → Tree → TypeScheme
scheme_of marks body = record { marks = marks; body = body }

schemes_are : (σ τ : TypeScheme) → same_scheme σ τ ≡ true → σ ≡ τ
schemes_are σ τ h = ap₂ scheme_of
    (marks_are σ.marks τ.marks (and_left (same_list same_bool σ.marks τ.marks) (same_tree σ.body τ.body) h))
    (tree_is σ.body τ.body (and_right (same_list same_bool σ.marks τ.marks) (same_tree σ.body τ.body) h))

con_is : (a b : ConEntry) → same_con a b ≡ true → con_form a ≡ con_form b
con_is a b h = ap₂ (λ n σ. (n, σ))
    (text_is a.name b.name (and_left (same_text a.name b.name)
    (same_scheme (canonical_scheme a.scheme) (canonical_scheme b.scheme)) h))
    (schemes_are (canonical_scheme a.scheme) (canonical_scheme b.scheme) (and_right (same_text a.name b.name)
    (same_scheme (canonical_scheme a.scheme) (canonical_scheme b.scheme)) h))

cons_are : (xs ys : List ConEntry) → same_list same_con xs ys ≡ true → map con_form xs ≡ map con_form ys
cons_are [] [] h = refl
cons_are [] (y ∷ ys) h = absurd (cc)
cons_are (x ∷ xs) [] h = absurd (cc)
cons_are (x ∷ xs) (y ∷ ys) h = ap₂ (λ z zs. z ∷ zs)
    (con_is x y (and_left (same_con x y) (same_list same_con xs ys) h))
    (cons_are xs ys (and_right (same_con x y) (same_list same_con xs ys) h))

has_cons_is : (want found : List ConEntry) → has_cons want found ≡ true → HasCons want found
has_cons_is [] found h = tt
has_cons_is (con ∷ cons) found h = cons_are (con ∷ cons) found h

has_status_is : (want found : VidStatus) → has_status want found ≡ true → HasStatus want found
has_status_is status.Variable found h = tt
has_status_is status.Constructor status.Constructor h = refl
has_status_is status.Constructor status.Variable h = absurd (cc)
has_status_is status.Constructor status.Exception h = absurd (cc)
has_status_is status.Exception status.Exception h = refl
has_status_is status.Exception status.Variable h = absurd (cc)
has_status_is status.Exception status.Constructor h = absurd (cc)

abbrev function_of : ℕ → Tree → TypeFn
function_of arity body = record { arity = arity; body = body }

functions_are : (f g : TypeFn) → same_function f g ≡ true → f ≡ g
functions_are f g h = ap₂ function_of
    (eqb-true f.arity g.arity (and_left (eqb f.arity g.arity) (same_tree f.body g.body) h))
    (tree_is f.body g.body (and_right (eqb f.arity g.arity) (same_tree f.body g.body) h))

type_enriches : (want found : TypeStr) → fits_type want found ≡ true → EnrichesType want found
type_enriches want found h = record {
  function = sym (functions_are want.function found.function
      (and_left (same_function want.function found.function) (has_cons want.cons found.cons) h));
  cons = has_cons_is want.cons found.cons
      (and_right (same_function want.function found.function) (has_cons want.cons found.cons) h);
}

item_enriches : (sc : Scope) (at : At) (s : State) (env : Env) (item : Item) → IsOfState s env → IsItemOf s item
    → Given (λ u. EnrichesItem s env item) (enriching_item sc at s env item)
item_enriches sc at s env (Item.StructureItem path) of own =
    given_then (λ found. found_at structures path env ≡ Some found) (λ u. EnrichesItem s env (Item.StructureItem path))
    (present sc at path (found_at structures path env)) (λ e. Some (Ok tt))
    (present_is sc at path (found_at structures path env)) (λ found e. (found, e))
item_enriches sc at s env (Item.TypeItem path want) of own =
    given_then (λ found. found_at types path env ≡ Some found) (λ u. EnrichesItem s env (Item.TypeItem path want))
    (present sc at path (found_at types path env))
    (λ found. refuses_where (not (eqb want.function.arity found.function.arity)) 35 sc at
    >>= λ u. misfits_where (not (fits_type want found)) sc at path)
    (present_is sc at path (found_at types path env))
    (λ found e. where_false (λ u. EnrichesItem s env (Item.TypeItem path want))
    (not (eqb want.function.arity found.function.arity)) 35 sc at
    (λ u. misfits_where (not (fits_type want found)) sc at path)
    (λ a. misfits_false (λ u. EnrichesItem s env (Item.TypeItem path want)) (not (fits_type want found)) sc at path
    (λ m. (found, e, type_enriches want found (not_false (fits_type want found) m)))))
item_enriches sc at s env (Item.ValueItem path want) of own =
    given_then (λ found. found_at values path env ≡ Some found) (λ u. EnrichesItem s env (Item.ValueItem path want))
    (present sc at path (found_at values path env))
    (λ found. misfits_where (not (fits_value s want found)) sc at path)
    (present_is sc at path (found_at values path env))
    (λ found e. misfits_false (λ u. EnrichesItem s env (Item.ValueItem path want)) (not (fits_value s want found)) sc at
    path
    (λ m. (let fits : fits_value s want found ≡ true = not_false (fits_value s want found) m in (
      found,
      e,
      record {
        scheme = (covers_law s found.scheme want.scheme of.marks (of.values path found e) own).0
            (and_left (covers s found.scheme want.scheme) (has_status want.status found.status) fits);
        status = has_status_is want.status found.status
            (and_right (covers s found.scheme want.scheme) (has_status want.status found.status) fits);
      },
    ))))

all_enrich : (sc : Scope) (at : At) (s : State) (env : Env) (xs : List Item) → IsOfState s env
    → AllItems (IsItemOf s) xs → Given (λ u. AllItems (EnrichesItem s env) xs) (enriching_all sc at s env xs)
all_enrich sc at s env [] of own = tt
all_enrich sc at s env (x ∷ xs) of own =
    given_then (λ u. EnrichesItem s env x) (λ u. AllItems (EnrichesItem s env) (x ∷ xs))
    (enriching_item sc at s env x) (λ u. enriching_all sc at s env xs) (item_enriches sc at s env x of own.0)
    (λ u e. also (enriching_all sc at s env xs) e (all_enrich sc at s env xs of own.1))
  where
    also : (m : Answer (Unit {0})) → EnrichesItem s env x → Given (λ u. AllItems (EnrichesItem s env) xs) m
        → Given (λ u. AllItems (EnrichesItem s env) (x ∷ xs)) m
    also None e h = tt
    also (Some (Err d)) e h = tt
    also (Some (Ok u)) e h = (e, h)

-- ---- both

no_rows : (s : State) (bound : List TyName) → RowsRespect s bound []
no_rows s bound name by h = absurd (some_none by h)

realisation_good : (sc : Scope) (at : At) (s : State) (env : Env) (sig : Signature) → IsOfState s env
    → Given (λ rows. Realises s sig (of_rows rows)) (realisation_of sc at s env sig)
realisation_good sc at s env sig of =
    given_then (RowsRespect s sig.bound) (λ rows. Realises s sig (of_rows rows))
    (realising_all sc at s env sig.bound (items sig.env) [])
    (λ rows. refuses_where (list_any (is_left rows) sig.bound) 37 sc at >>= λ u. Some (Ok rows))
    (all_respect sc at s env sig.bound (items sig.env) [] of (no_rows s sig.bound))
    (λ rows h. where_false (λ more. Realises s sig (of_rows more)) (list_any (is_left rows) sig.bound) 37 sc at
    (λ u. Some (Ok rows)) (λ none. rows_realise s sig rows h none))

abbrev MatchesWhere : State → Env → Signature → Rows → Type 0
MatchesWhere s env sig rows =
    AllItems (IsItemOf s) (items (realised (of_rows rows) sig.env)) → Matches s env sig (of_rows rows)

finished : (s : State) (env : Env) (sig : Signature) (rows : Rows) (m : Answer (Unit {0}))
    → Realises s sig (of_rows rows)
    → (AllItems (IsItemOf s) (items (realised (of_rows rows) sig.env))
    → Given (λ u. AllItems (EnrichesItem s env) (items (realised (of_rows rows) sig.env))) m)
    → Given (MatchesWhere s env sig) (m >>= λ u. Some (Ok rows))
finished s env sig rows None r h = tt
finished s env sig rows (Some (Err d)) r h = tt
finished s env sig rows (Some (Ok u)) r h = λ own. record { realises = r; enriches = h own }

pub matches_by_rules : (sc : Scope) (at : At) (s : State) (env : Env) (sig : Signature) → IsOfState s env
    → Given (MatchesWhere s env sig) (matching sc at s env sig)
matches_by_rules sc at s env sig of =
    given_then (λ rows. Realises s sig (of_rows rows)) (MatchesWhere s env sig) (realisation_of sc at s env sig)
    (λ rows. enriching_all sc at s env (items (realised (of_rows rows) sig.env)) >>= λ u. Some (Ok rows))
    (realisation_good sc at s env sig of)
    (λ rows r. finished s env sig rows (enriching_all sc at s env (items (realised (of_rows rows) sig.env))) r
    (λ own. all_enrich sc at s env (items (realised (of_rows rows) sig.env)) of own))
