-- What matching puts is made of what is matched.
use Rattle.std.proofs.Common.{◌≡◌, ℕ, List, [], ◌∷◌, refl, sym, subst, Option, Some, None, Bool, true, false, ◌&&◌, not, eqb}
use Rattle.std.specs.Prelude.{Ok, Err}
use Rattle.std.specs.List.{list_any}
use Rattle.sml_trees.specs.declared.name.At.{At}
use Rattle.semantic_objects.specs.declared.name.TyName.{TyName}
use Rattle.semantic_objects.specs.declared.symbol.Symbol.TheVariants as symbol
use Rattle.semantic_objects.specs.declared.entry.TypeFn.{TypeFn}
use Rattle.semantic_objects.specs.Symbols.{same_name}
use Rattle.semantic_objects.specs.Environments.{Env, Signature, structures, types}
use Rattle.unification.specs.Types.{State}
use Rattle.unification.proofs.Walking.{or_either, or_false_left, or_false_right}
use Rattle.realisation.specs.Names.{is_listed}
use Rattle.realisation.specs.Realised.{of_rows, realised, function_admits}
use Rattle.realisation.proofs.Listing.{name_is}
use Rattle.static_semantics.specs.Inferring.{Scope, Answer, ◌>>=◌, gives, refuses_where, found_at}
use Rattle.static_semantics.specs.Holding.{Given, IfSome, TypeHas}
use Rattle.static_semantics.proofs.Holding.{given_then, given_where, has_types, has_found}
use Rattle.inference_laws.specs.Nodes.{Nodes, SchemeOf, FunctionOf, EnvOf}
use Rattle.inference_laws.proofs.DatatypesMade.{items_after}
use Rattle.module_semantics.specs.SignatureNames.{name_alone}
use Rattle.module_semantics.specs.Matching.{Item, items, present, Rows, if_flexible, realising, realising_item, realising_all, is_left, realisation_of, enriching_all, matching, matched}
use Rattle.unit_laws.specs.Parts.{SignatureOf}
use Rattle.unit_laws.proofs.Realised.{env_realised}
use Rattle.unit_laws.proofs.Naming.{RowsOf, HasRows, from_allowed}

-- ---- the first walk

given_present : {A : Type 0} (R : A → Type 0) (sc : Scope) (at : At) (path : List (List ℕ)) (o : Option A) → IfSome R o
    → Given R (present sc at path o)
given_present R sc at path None h = tt
given_present R sc at path (Some x) h = h

realising_of : (q : Nodes) (sc : Scope) (at : At) (s : State) (env : Env) (path : List (List ℕ)) (rows : Rows)
    (o : Option TyName) → EnvOf q env → RowsOf q rows → Given (RowsOf q) (realising sc at s env path rows o)
realising_of q sc at s env path rows None h k = k
realising_of q sc at s env path rows (Some name) h k =
    given_then (TypeHas (SchemeOf q) (FunctionOf q)) (RowsOf q) (present sc at path (found_at types path env)) _
    (given_present (TypeHas (SchemeOf q) (FunctionOf q)) sc at path (found_at types path env)
    (has_found (SchemeOf q) (FunctionOf q) (TypeHas (SchemeOf q) (FunctionOf q)) types
    (has_types (SchemeOf q) (FunctionOf q)) path env h)) (λ str l.
    given_where (RowsOf q) (not (eqb str.function.arity name.arity)) 35 sc at _
    (given_where (RowsOf q) (name.eq && not (function_admits s.marks str.function)) 33 sc at _
    (items_after (λ (row : TyName × TypeFn). Rattle.inference_laws.specs.Nodes.TreeOf q row.1.body) rows
    ((name, str.function) ∷ []) k (l.0.body, tt))))

item_of : (q : Nodes) (sc : Scope) (at : At) (s : State) (env : Env) (bound : List TyName) (item : Item) (rows : Rows)
    → EnvOf q env → RowsOf q rows → Given (RowsOf q) (realising_item sc at s env bound item rows)
item_of q sc at s env bound (Item.StructureItem path) rows h k =
    given_then (λ e. Unit {0}) (RowsOf q) (present sc at path (found_at structures path env)) _
    (anything sc at path (found_at structures path env)) (λ e _. k)
  where
    anything : {A : Type 0} (sc : Scope) (at : At) (path : List (List ℕ)) (o : Option A)
        → Given (λ x. Unit {0}) (present sc at path o)
    anything sc at path None = tt
    anything sc at path (Some x) = tt
item_of q sc at s env bound (Item.TypeItem path str) rows h k =
    realising_of q sc at s env path rows (if_flexible bound rows (name_alone str.function)) h k
item_of q sc at s env bound (Item.ValueItem path value) rows h k = k

all_of : (q : Nodes) (sc : Scope) (at : At) (s : State) (env : Env) (bound : List TyName) (xs : List Item) (rows : Rows)
    → EnvOf q env → RowsOf q rows → Given (RowsOf q) (realising_all sc at s env bound xs rows)
all_of q sc at s env bound [] rows h k = k
all_of q sc at s env bound (x ∷ xs) rows h k =
    given_then (RowsOf q) (RowsOf q) (realising_item sc at s env bound x rows) (realising_all sc at s env bound xs)
    (item_of q sc at s env bound x rows h k) (λ more l. all_of q sc at s env bound xs more h l)

-- ---- no name is left

none_left : (rows : Rows) (bound : List TyName) → list_any (is_left rows) bound ≡ false → HasRows bound rows
none_left rows [] h name l = absurd (cc)
none_left rows (m ∷ ms) h name l = or_either (same_name name m) (is_listed name ms) l
    (λ e. subst (λ z. is_left rows z ≡ false) (sym (name_is name m e))
    (or_false_left (is_left rows m) (list_any (is_left rows) ms) h))
    (none_left rows ms (or_false_right (is_left rows m) (list_any (is_left rows) ms) h) name)

where_false : {B : Type 0} (Q : B → Type 0) (c : Bool) (number : ℕ) (sc : Scope) (at : At)
    (next : Unit {0} → Answer B) → (c ≡ false → Given Q (next tt)) → Given Q (refuses_where c number sc at >>= next)
where_false Q true number sc at next h = tt
where_false Q false number sc at next h = h refl

-- rows by which an environment matches
abbrev pub MatchesOf : Nodes → Signature → Rows → Type 0
MatchesOf q sig rows = RowsOf q rows × HasRows sig.bound rows

pub matching_of : (q : Nodes) (sc : Scope) (at : At) (s : State) (env : Env) (sig : Signature) → EnvOf q env
    → Given (MatchesOf q sig) (matching sc at s env sig)
matching_of q sc at s env sig h =
    given_then (MatchesOf q sig) (MatchesOf q sig) (realisation_of sc at s env sig) _
    (given_then (RowsOf q) (MatchesOf q sig) (realising_all sc at s env sig.bound (items sig.env) []) _
    (all_of q sc at s env sig.bound (items sig.env) [] h tt) (λ rows k.
    where_false (MatchesOf q sig) (list_any (is_left rows) sig.bound) 37 sc at (λ u. gives rows)
    (λ n. (k, none_left rows sig.bound n)))) (λ rows k.
    given_then (λ u. Unit {0}) (MatchesOf q sig)
    (enriching_all sc at s env (items (realised (of_rows rows) sig.env))) _
    (anything (enriching_all sc at s env (items (realised (of_rows rows) sig.env)))) (λ u _. k))
  where
    anything : {A : Type 0} (m : Answer A) → Given (λ x. Unit {0}) m
    anything None = tt
    anything (Some (Err d)) = tt
    anything (Some (Ok x)) = tt

pub matched_of : (q : Nodes) (sc : Scope) (at : At) (s : State) (env : Env) (sig : Signature)
    → q (symbol.Record []) 0 ≡ true → EnvOf q env → SignatureOf q sig → Given (EnvOf q) (matched sc at s env sig)
matched_of q sc at s env sig e h k =
    given_then (MatchesOf q sig) (EnvOf q) (matching sc at s env sig) _ (matching_of q sc at s env sig h) (λ rows l.
    env_realised _ q (of_rows rows) (from_allowed q sig.bound rows e l.0 l.1) sig.env k.env)
