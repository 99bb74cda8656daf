-- Names of types and constructors, one after another.
use Rattle.std.proofs.Common.{◌≡◌, ℕ, ◌+◌, List, [], ◌∷◌, ◌++◌, length, map, refl, sym, ap, ap₂, ◌∙◌, subst, Option, Some, None, Bool, true, false, ◌||◌, suc, arith}
use Rattle.std.specs.Prelude.{Result, Ok, Err, IsErrAnd}
use Rattle.std.specs.Option.{is_some}
use Rattle.std.specs.Cmp.Lexicographic.{same_text as same_bytes}
use Rattle.cm_base.specs.declared.fault.Fault.{Fault}
use Rattle.sml_trees.specs.declared.ty.DatBind.{DatBind}
use Rattle.semantic_objects.specs.declared.name.TyName.{TyName}
use Rattle.semantic_objects.specs.declared.entry.TypeStr.{TypeStr}
use Rattle.semantic_objects.specs.Symbols.{same_text}
use Rattle.semantic_objects.specs.Tables.{with_all, with_entry, entry}
use Rattle.semantic_objects.specs.Environments.{Env, env_of, empty_env}
use Rattle.semantic_objects.proofs.Same.{text_same}
use Rattle.bare_phrases.specs.PhraseOf.{dat_phrase}
use Rattle.sml_modules.specs.Graphs.{Graph}
use Rattle.name_trails.specs.Trails.{Rows, same, last_entry}
use Rattle.static_semantics.specs.BasicTypes.{is_one_of}
use Rattle.static_semantics.specs.Inferring.{Scope, Answer, ◌>>=◌, gives, refuses_where, name_at}
use Rattle.static_semantics.specs.DatatypeInference.{new_types, own_name, own_type}
use Rattle.core_scopes.proofs.Tables.{or_held, entry_under, all_append}
use Rattle.type_phrases.specs.Inferred.{Answers}
use Rattle.type_phrases.proofs.Records.{texts_apart}
use Rattle.type_phrases.proofs.Steps.{failed}

-- ---- a name among some

texts_one : (a b : List ℕ) → same a b ≡ true → same_text a b ≡ true
texts_one a b e = subst (λ z. same_text a z ≡ true) (same_bytes a b (sym e)) (text_same a)

pub one_found : (names left rest : List (List ℕ)) (x name : List ℕ) → is_one_of left name ≡ is_one_of names name
    → left ≡ x ∷ rest → (b : Bool) → b ≡ same name x → b ≡ true → true ≡ is_one_of names name
one_found names left rest x name h e b f k =
    ap (λ c. c || is_one_of rest name) (sym (texts_one name x (sym f ∙ k)))
    ∙ ap (λ xs. is_one_of xs name) (sym e) ∙ h

pub one_other : (names left rest : List (List ℕ)) (x name : List ℕ) → is_one_of left name ≡ is_one_of names name
    → left ≡ x ∷ rest → (b : Bool) → b ≡ same name x → b ≡ false → is_one_of rest name ≡ is_one_of names name
one_other names left rest x name h e b f k =
    ap (λ c. c || is_one_of rest name) (sym (texts_apart name x (sym f ∙ k)))
    ∙ ap (λ xs. is_one_of xs name) (sym e) ∙ h

-- ---- types

held_none : {A : Type 0} (o : Option A) → is_some (or_held o None) ≡ is_some o
held_none None = refl
held_none (Some x) = refl

bound_before : {A : Type 0} (rows : Rows A) (name : List ℕ)
    → is_some (entry name (with_all rows [])) ≡ is_some (last_entry rows name)
bound_before rows name = ap is_some (entry_under rows [] name) ∙ held_none (last_entry rows name)

-- the environment of types alone
abbrev pub types_env : Rows TypeStr → Env
types_env rows = env_of [] (with_all rows []) []

pub record TypesSoFar (g : Graph) (binds left : List DatBind) (number : ℕ) (rows : Rows TypeStr) : Type 0 where
  pub left_is : (inner : Scope) → inner.home ≡ g.home
      → new_types inner (map dat_phrase binds) (length g.made) empty_env
      ≡ new_types inner (map dat_phrase left) number (types_env rows)

pub types_none : (g : Graph) (binds : List DatBind) (number : ℕ) (rows : Rows TypeStr) → number ≡ length g.made
    → rows ≡ [] → TypesSoFar g binds binds number rows
types_none g binds number rows e f = record {
  left_is = λ inner h.
      ap₂ (λ n (rs : Rows TypeStr). new_types inner (map dat_phrase binds) n (types_env rs)) (sym e) (sym f);
}

abbrev pub IsChecked : Graph → Rows TypeStr → DatBind → Result (Unit {0}) Fault → Type 0
IsChecked g rows x result = (inner : Scope) → inner.home ≡ g.home
    → Answers (refuses_where (is_some (last_entry rows x.name.text)) 40 inner (name_at x.name)) (λ u. tt) result

pub checked_by : (g : Graph) (rows : Rows TypeStr) (x : DatBind) (b : Bool) (r : Result (Unit {0}) Fault)
    → b ≡ is_some (last_entry rows x.name.text)
    → ((inner : Scope) → inner.home ≡ g.home → Answers (refuses_where b 40 inner (name_at x.name)) (λ u. tt) r)
    → IsChecked g rows x r
checked_by g rows x b r e h inner home =
    subst (λ c. Answers (refuses_where c 40 inner (name_at x.name)) (λ u. tt) r) e (h inner home)

types_first : (inner : Scope) (left rest : List DatBind) (x : DatBind) (number : ℕ) (rows : Rows TypeStr)
    → left ≡ x ∷ rest
    → new_types inner (map dat_phrase left) number (types_env rows)
    ≡ (refuses_where (is_some (last_entry rows x.name.text)) 40 inner (name_at x.name)
    >>= λ u. new_types inner (map dat_phrase rest) (suc number)
    (env_of [] (with_entry x.name.text (own_type (own_name inner.home number (length x.tyvars) true))
    (with_all rows [])) []))
types_first inner left rest x number rows e =
    ap (λ xs. new_types inner (map dat_phrase xs) number (types_env rows)) e
    ∙ ap (λ b. refuses_where b 40 inner (name_at x.name)
    >>= λ u. new_types inner (map dat_phrase rest) (suc number)
    (env_of [] (with_entry x.name.text (own_type (own_name inner.home number (length x.tyvars) true))
    (with_all rows [])) [])) (bound_before rows x.name.text)

pub types_more : (g : Graph) (binds left rest : List DatBind) (x : DatBind) (number after arity : ℕ)
    (rows more : Rows TypeStr) (name : TyName) (str : TypeStr) (text : List ℕ) → TypesSoFar g binds left number rows
    → left ≡ x ∷ rest → IsChecked g rows x (Ok tt) → arity ≡ length x.tyvars
    → name ≡ own_name g.home number arity true
    → str ≡ own_type name → text ≡ x.name.text → more ≡ rows ++ (text, str) ∷ [] → after ≡ number + 1
    → TypesSoFar g binds rest after more
types_more g binds left rest x number after arity rows more name str text inv e checked a n s t m l = record {
  left_is = λ inner h.
      let str_is : own_type (own_name inner.home number (length x.tyvars) true) ≡ str =
      ap₂ (λ home k. own_type (own_name home number k true)) h (sym a) ∙ ap own_type (sym n) ∙ sym s in
      inv.left_is inner h
      ∙ types_first inner left rest x number rows e
      ∙ ap (λ (w : Answer (Unit {0})). w >>= λ u. new_types inner (map dat_phrase rest) (suc number)
      (env_of [] (with_entry x.name.text (own_type (own_name inner.home number (length x.tyvars) true))
      (with_all rows [])) [])) (checked inner h)
      ∙ ap₂ (λ z (w : TypeStr). new_types inner (map dat_phrase rest) (suc number)
      (env_of [] (with_entry z w (with_all rows [])) [])) (sym t) str_is
      ∙ ap (λ (rs : Rows TypeStr). new_types inner (map dat_phrase rest) (suc number) (env_of [] rs []))
      (sym (ap (λ (rs : Rows TypeStr). with_all rs []) m ∙ all_append rows ((text, str) ∷ []) []))
      ∙ ap (λ k. new_types inner (map dat_phrase rest) k (types_env more))
      (let k : suc number ≡ after = omega (arith, l) in k);
}

pub types_refused : (g : Graph) (binds left rest : List DatBind) (x : DatBind) (number : ℕ) (rows : Rows TypeStr)
    (e : Fault) → TypesSoFar g binds left number rows → left ≡ x ∷ rest → IsChecked g rows x (Err e)
    → (inner : Scope) → inner.home ≡ g.home
    → Answers {R = Rows TypeStr} (new_types inner (map dat_phrase binds) (length g.made) empty_env) types_env (Err e)
types_refused g binds left rest x number rows e inv is checked inner home =
    subst (λ (w : Answer Env). Answers {R = Rows TypeStr} w types_env (Err e))
    (sym (inv.left_is inner home ∙ types_first inner left rest x number rows is))
    (failed {R = Unit {0}} {S = Rows TypeStr} (refuses_where (is_some (last_entry rows x.name.text)) 40 inner (name_at x.name))
    (λ u. new_types inner (map dat_phrase rest) (suc number)
    (env_of [] (with_entry x.name.text (own_type (own_name inner.home number (length x.tyvars) true))
    (with_all rows [])) []))
    (λ u. tt) types_env e (checked inner home))

pub types_all : (g : Graph) (binds left : List DatBind) (number : ℕ) (rows : Rows TypeStr)
    → TypesSoFar g binds left number rows → left ≡ [] → (inner : Scope) → inner.home ≡ g.home
    → new_types inner (map dat_phrase binds) (length g.made) empty_env ≡ gives (types_env rows)
types_all g binds left number rows inv e inner home =
    inv.left_is inner home ∙ ap (λ xs. new_types inner (map dat_phrase xs) number (types_env rows)) e

-- what a failed step hands on
pub passed_on : {R : Type 0} (P : Result R Fault → Type 0) (r : Result R Fault) (e : Fault) → IsErrAnd r (λ f. f ≡ e)
    → P (Err e) → P r
passed_on P (Ok x) e h k = absurd h
passed_on P (Err f) e h k = subst (λ (z : Fault). P (Err z)) (sym h) k
