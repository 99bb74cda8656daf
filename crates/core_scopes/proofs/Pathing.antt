-- What long names stand for, by their first and by their last part.
use Rattle.std.proofs.Common.{◌≡◌, ℕ, refl, sym, ap, ◌∙◌, subst, List, [], ◌∷◌, ◌++◌, Option, Some, None, Bool, true, false, length, arith}
use Rattle.std.specs.Prelude.{Result, Ok, Err, IfOk, ◌==◌}
use Rattle.std.proofs.lemmas.Bool.{eqb-true}
use Rattle.semantic_objects.specs.Tables.{Table, entry}
use Rattle.semantic_objects.specs.Environments.{Env, structures}
use Rattle.semantic_objects.specs.declared.entry.ValueEntry.{ValueEntry}
use Rattle.sml_modules.specs.declared.id.EnvId.{EnvId}
use Rattle.sml_modules.specs.Items.{Item, as_value}
use Rattle.sml_modules.specs.Graphs.{Graph, FindsEnv}
use Rattle.static_semantics.specs.Inferring.{found_in_structure, found_at}
use Rattle.core_scopes.specs.Paths.{led_on}

pub if_ok : {A E : Type 0} (r : Result A E) (P Q : A → Type 0) → ((x : A) → P x → Q x) → IfOk r P → IfOk r Q
if_ok (Ok x) P Q f h = f x h
if_ok (Err e) P Q f h = h

pub finds_is : (g : Graph) (want : Option Env) (found other : Option EnvId) → found ≡ other → FindsEnv g want found
    → FindsEnv g want other
finds_is g want found other is h = subst (λ o. FindsEnv g want o) is h

found_same : {A : Type 0} (o : Option Env) (f g : Env → Option A) → ((env : Env) → f env ≡ g env)
    → found_in_structure o f ≡ found_in_structure o g
found_same None f g h = refl
found_same (Some env) f g h = h env

found_some : (o : Option Env) → o ≡ found_in_structure o (λ env. Some env)
found_some None = refl
found_some (Some env) = refl

-- the first part, and those behind it
pub found_first : (first : List ℕ) (rest : List (List ℕ)) (env : Env)
    → found_at structures (first ∷ rest) env ≡ found_in_structure (entry first (structures env)) (led_on rest)
found_first first [] env = found_some (entry first (structures env))
found_first first (next ∷ rest) env =
    found_same (entry first (structures env)) (found_at structures (next ∷ rest)) (led_on (next ∷ rest))
    (λ inner. found_first next rest inner)

-- an answer for any reading of the unit's own values
pub any_reading : {V : Type 0} → V → ValueEntry
any_reading v = as_value Item.Nowhere

pub first_found : (g : Graph) (parts rest : List (List ℕ)) (first : List ℕ) (env inner : Env) (found : Option EnvId)
    → parts ≡ first ∷ rest → entry first (structures env) ≡ Some inner → FindsEnv g (led_on rest inner) found
    → FindsEnv g (found_at structures parts env) found
first_found g parts rest first env inner found is there h =
    subst (λ want. FindsEnv g want found)
    (sym (ap (λ ps. found_at structures ps env) is ∙ found_first first rest env
    ∙ ap (λ o. found_in_structure o (led_on rest)) there)) h

pub first_none : (parts rest : List (List ℕ)) (first : List ℕ) (env : Env) → parts ≡ first ∷ rest
    → entry first (structures env) ≡ None → found_at structures parts env ≡ None
first_none parts rest first env is none =
    ap (λ ps. found_at structures ps env) is ∙ found_first first rest env ∙ ap (λ o. found_in_structure o (led_on rest)) none

-- whether there are parts before the last one
pub none_before : (front : List (List ℕ)) (b : Bool) → b ≡ (length front == 0) → b ≡ true → front ≡ []
none_before [] b is h = refl
none_before (x ∷ xs) b is h = absurd (omega (arith, eqb-true (length (x ∷ xs)) 0 (sym is ∙ h)))

pub some_before : (front : List (List ℕ)) (b : Bool) → b ≡ (length front == 0) → b ≡ false → front ≡ [] → ⊥
some_before [] b is h e = let k : true ≡ false = sym is ∙ h in absurd (cc)
some_before (x ∷ xs) b is h e = absurd (cc)

-- the last part alone
pub long_one : {A : Type 0} (table : Env → Table A) (parts front : List (List ℕ)) (last : List ℕ) (env : Env)
    → parts ≡ front ++ last ∷ [] → front ≡ [] → found_at table parts env ≡ entry last (table env)
long_one table parts front last env is none =
    ap (λ ps. found_at table ps env) (is ∙ ap (λ ps. ps ++ last ∷ []) none)

-- the parts before the last one, and the last one
last_of_two : {A : Type 0} (table : Env → Table A) (first : List ℕ) (front : List (List ℕ)) (last : List ℕ) (env : Env)
    → found_at table ((first ∷ front) ++ last ∷ []) env
    ≡ found_in_structure (found_at structures (first ∷ front) env) (λ inner. entry last (table inner))
last_of_two table first [] last env = refl
last_of_two {A} table first (next ∷ front) last env =
    found_same (entry first (structures env)) (found_at table ((next ∷ front) ++ last ∷ []))
    (λ inner. found_in_structure (found_at structures (next ∷ front) inner) (λ e. entry last (table e)))
    (λ inner. last_of_two table next front last inner)
    ∙ two_steps (entry first (structures env))
  where
    two_steps : (o : Option Env)
        → found_in_structure o (λ inner. found_in_structure (found_at structures (next ∷ front) inner) (λ e. entry last (table e)))
        ≡ found_in_structure (found_in_structure o (found_at structures (next ∷ front))) (λ e. entry last (table e))
    two_steps None = refl
    two_steps (Some inner) = refl

long_last : {A : Type 0} (table : Env → Table A) (front : List (List ℕ)) (last : List ℕ) (env : Env)
    → (front ≡ [] → ⊥)
    → found_at table (front ++ last ∷ []) env
    ≡ found_in_structure (found_at structures front env) (λ inner. entry last (table inner))
long_last table [] last env some = absurd (some refl)
long_last table (first ∷ front) last env some = last_of_two table first front last env

pub long_found : {A : Type 0} (table : Env → Table A) (parts front : List (List ℕ)) (last : List ℕ) (env inner : Env)
    → parts ≡ front ++ last ∷ [] → (front ≡ [] → ⊥) → found_at structures front env ≡ Some inner
    → found_at table parts env ≡ entry last (table inner)
long_found {A} table parts front last env inner is some found =
    ap (λ ps. found_at table ps env) is ∙ long_last table front last env some
    ∙ ap (λ (o : Option Env). found_in_structure o (λ e. entry last (table e))) found

pub long_none : {A : Type 0} (table : Env → Table A) (parts front : List (List ℕ)) (last : List ℕ) (env : Env)
    → parts ≡ front ++ last ∷ [] → (front ≡ [] → ⊥) → found_at structures front env ≡ None
    → found_at table parts env ≡ None
long_none {A} table parts front last env is some found =
    ap (λ ps. found_at table ps env) is ∙ long_last table front last env some
    ∙ ap (λ (o : Option Env). found_in_structure o (λ e. entry last (table e))) found
