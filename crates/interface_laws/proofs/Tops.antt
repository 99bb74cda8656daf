-- What can be written as an interface is its own canonical form.
use Rattle.std.proofs.Common.{◌≡◌, ℕ, refl, sym, ap, ap₂, ◌∙◌, subst, Bool, true, false, ◌&&◌, not, List, [], ◌∷◌, ◌++◌, map, filter, length, All}
use Rattle.std.proofs.lemmas.List.Elements.{All-head, All-tail, filter-append}
use Rattle.semantic_objects.specs.declared.name.TyName.{TyName}
use Rattle.semantic_objects.specs.Tables.{Table}
use Rattle.semantic_objects.specs.Environments.{Env, Signature, Functor, Top}
use Rattle.unification.proofs.Walking.{either_way}
use Rattle.realisation.specs.Names.{names_in_env, names_in_functor, names_in_signatures, names_in_functors, names_in_top, is_listed, once}
use Rattle.realisation.specs.Environments.{each_row}
use Rattle.realisation.specs.Canonical.{met, numbered, is_own, is_bound_name, is_of_param, is_further, signature_name, canonical_signature, functor_name, canonical_functor, own_name, canonical, canonical_env}
use Rattle.realisation.proofs.Listing.{Named, named_left, named_right}
use Rattle.interface_format.specs.Rules.{AreNumbered, is_beyond, IsSignature, IsFunctor, IsSignatureRow, IsFunctorRow}
use Rattle.interface_format.specs.Interfaces.{CanBeWritten}
use Rattle.canonical_laws.proofs.Names.{filter_listed, filter_passes, filter_keeps, listed_met, met_listed}
use Rattle.canonical_interfaces.proofs.Numbers.{filter_none, met_agrees, once_known}
use Rattle.interface_laws.specs.Promises.{InterfacesAreCanonical}
use Rattle.interface_laws.proofs.Entries.{env_same}
use Rattle.interface_laws.proofs.Names.{number_stays, all_stay}

-- names that stay
abbrev Stays : (TyName → TyName) → TyName → Type 0
Stays h n = h n ≡ n

-- ---- signatures

abbrev signature_of : List TyName → Env → Signature
signature_of bound env = record { bound = bound; env = env }

signature_stays : (own : TyName → TyName) (sig : Signature) → IsSignature sig → Named (Stays own) (names_in_env sig.env)
    → Named (Stays (signature_name own sig)) (names_in_env sig.env)
signature_stays own sig h stays n l =
    number_stays is_bound_name (names_in_env sig.env) 0 own (subst (AreNumbered 0) h.bound h.numbered) n l
    (λ e. stays n l)

signature_same : (own : TyName → TyName) (sig : Signature) → IsSignature sig → Named (Stays own) (names_in_env sig.env)
    → canonical_signature own sig ≡ sig
signature_same own sig h stays =
    let all = signature_stays own sig h stays in
    ap₂ signature_of (all_stay (signature_name own sig) is_bound_name (names_in_env sig.env) all ∙ sym h.bound)
    (env_same (signature_name own sig) sig.env h.env all)

-- ---- functors

and_agrees : (b l : Bool) → (b ≡ true → l ≡ true) → (b && l) ≡ b
and_agrees true l h = h refl
and_agrees false l h = refl

and_not : (b l : Bool) → (b ≡ true → l ≡ true) → (b && not l) ≡ false
and_not true true h = refl
and_not true false h = absurd (let k : false ≡ true = h refl in cc)
and_not false l h = refl

and_right : (b l : Bool) → (b && l) ≡ true → l ≡ true
and_right true l h = h
and_right false l h = absurd (cc)

-- the bound names of the parameter are listed
binds : (fun : Functor) → IsFunctor fun → (n : TyName) → is_listed n (names_in_env fun.param) ≡ true
    → is_bound_name n ≡ true → is_listed n fun.bound ≡ true
binds fun h n l b =
    subst (λ (z : List TyName). is_listed n z ≡ true) (sym h.bound) (listed_met is_bound_name n (names_in_env fun.param) l b)

-- and stand in the parameter
stands : (fun : Functor) → IsFunctor fun → (n : TyName) → is_of_param fun n ≡ true
    → is_listed n (names_in_env fun.param) ≡ true
stands fun h n e =
    met_listed is_bound_name n (names_in_env fun.param)
    (subst (λ (z : List TyName). is_listed n z ≡ true) h.bound (and_right (is_bound_name n) (is_listed n fun.bound) e))

firsts_are : (fun : Functor) → IsFunctor fun → met (is_of_param fun) (names_in_functor fun) ≡ fun.bound
firsts_are fun h =
    let ps = names_in_env fun.param in
    let rs = names_in_env fun.result in
    ap once (filter-append (is_of_param fun) ps rs)
    ∙ once_known (filter (is_of_param fun) ps) (filter (is_of_param fun) rs)
    (λ n e. filter_keeps (is_of_param fun) n ps (stands fun h n (filter_passes (is_of_param fun) n rs e))
    (filter_passes (is_of_param fun) n rs e))
    ∙ met_agrees (is_of_param fun) is_bound_name ps
    (λ n e. and_agrees (is_bound_name n) (is_listed n fun.bound) (binds fun h n e))
    ∙ sym h.bound

furthers_are : (fun : Functor) → IsFunctor fun → met (is_further fun) (names_in_functor fun) ≡ fun.further
furthers_are fun h =
    let ps = names_in_env fun.param in
    let rs = names_in_env fun.result in
    ap once (filter-append (is_further fun) ps rs
    ∙ ap (λ (z : List TyName). z ++ filter (is_further fun) rs) (filter_none (is_further fun) ps
    (λ n e. and_not (is_bound_name n) (is_listed n fun.bound) (binds fun h n e))))
    ∙ sym h.further

neither : (b l : Bool) → (b && l) ≡ false → (b && not l) ≡ false → b ≡ false
neither true true e f = absurd (cc)
neither true false e f = absurd (cc)
neither false l e f = refl

abbrev further_name : (TyName → TyName) → Functor → TyName → TyName
further_name own fun =
    numbered (is_further fun) (names_in_functor fun) (length (met (is_of_param fun) (names_in_functor fun))) own

functor_stays : (own : TyName → TyName) (fun : Functor) → IsFunctor fun → Named (Stays own) (names_in_functor fun)
    → Named (Stays (functor_name own fun)) (names_in_functor fun)
functor_stays own fun h stays n l =
    let firsts = firsts_are fun h in
    let furthers = furthers_are fun h in
    number_stays (is_of_param fun) (names_in_functor fun) 0 (further_name own fun)
    (subst (AreNumbered 0) (sym firsts) h.bound_numbered) n l
    (λ e. number_stays (is_further fun) (names_in_functor fun)
    (length (met (is_of_param fun) (names_in_functor fun))) own
    (subst (λ (z : List TyName). AreNumbered (length z) (met (is_further fun) (names_in_functor fun))) (sym firsts)
    (subst (AreNumbered (length fun.bound)) (sym furthers) h.further_numbered)) n l (λ f. stays n l))

abbrev functor_of : List TyName → Env → List TyName → Env → Functor
functor_of bound param further result =
    record { bound = bound; param = param; further = further; result = result }

functor_same : (own : TyName → TyName) (fun : Functor) → IsFunctor fun → Named (Stays own) (names_in_functor fun)
    → canonical_functor own fun ≡ fun
functor_same own fun h stays =
    let name = functor_name own fun in
    let names = names_in_functor fun in
    let ps = names_in_env fun.param in
    let rs = names_in_env fun.result in
    let all : Named (Stays name) (ps ++ rs) = functor_stays own fun h stays in
    let bound = all_stay name (is_of_param fun) names all ∙ firsts_are fun h in
    let further = all_stay name (is_further fun) names all ∙ furthers_are fun h in
    let param = env_same name fun.param h.param (named_left (Stays name) ps rs all) in
    let result = env_same name fun.result h.result (named_right (Stays name) ps rs all) in
    ap₂ (λ (b : List TyName) (p : Env). functor_of b p (map name (met (is_further fun) names))
    (canonical_env name fun.result)) bound param
    ∙ ap₂ (λ (f : List TyName) (r : Env). functor_of fun.bound fun.param f r) further result

-- ---- tables

signatures_same : (own : TyName → TyName) (rows : Table Signature) → All IsSignatureRow rows
    → Named (Stays own) (names_in_signatures rows) → each_row (canonical_signature own) rows ≡ rows
signatures_same own [] h stays = refl
signatures_same own (row ∷ rows) h stays =
    ap₂ (λ (x : Signature) xs. (row.0, x) ∷ xs)
    (signature_same own row.1 (All-head IsSignatureRow row rows h)
    (named_left (Stays own) (names_in_env row.1.env) (names_in_signatures rows) stays))
    (signatures_same own rows (All-tail IsSignatureRow row rows h)
    (named_right (Stays own) (names_in_env row.1.env) (names_in_signatures rows) stays))

functors_same : (own : TyName → TyName) (rows : Table Functor) → All IsFunctorRow rows
    → Named (Stays own) (names_in_functors rows) → each_row (canonical_functor own) rows ≡ rows
functors_same own [] h stays = refl
functors_same own (row ∷ rows) h stays =
    ap₂ (λ (x : Functor) xs. (row.0, x) ∷ xs)
    (functor_same own row.1 (All-head IsFunctorRow row rows h)
    (named_left (Stays own) (names_in_functor row.1) (names_in_functors rows) stays))
    (functors_same own rows (All-tail IsFunctorRow row rows h)
    (named_right (Stays own) (names_in_functor row.1) (names_in_functors rows) stays))

-- ---- tops

own_stays : (home : List ℕ) (top : Top) → CanBeWritten home top → Named (Stays (own_name home top)) (names_in_top top)
own_stays home top h n l =
    number_stays (is_own home) (names_in_top top) 0 (λ name. name) h.names.own n l (λ e. refl)

abbrev top_of : Env → Table Signature → Table Functor → Table Functor → Top
top_of env signatures functors funsigs =
    record { env = env; signatures = signatures; functors = functors; funsigs = funsigs }

pub are_canonical : InterfacesAreCanonical
are_canonical home top h =
    let own = own_name home top in
    let tables = h.tables in
    let es = names_in_env top.env in
    let ss = names_in_signatures top.signatures in
    let fs = names_in_functors top.functors in
    let gs = names_in_functors top.funsigs in
    let all : Named (Stays own) (es ++ (ss ++ (fs ++ gs))) = own_stays home top h in
    let later = named_right (Stays own) es (ss ++ (fs ++ gs)) all in
    let last = named_right (Stays own) ss (fs ++ gs) later in
    ap₂ (λ (e : Env) (s : Table Signature). top_of e s (each_row (canonical_functor own) top.functors)
    (each_row (canonical_functor own) top.funsigs))
    (env_same own top.env tables.env (named_left (Stays own) es (ss ++ (fs ++ gs)) all))
    (signatures_same own top.signatures tables.signatures (named_left (Stays own) ss (fs ++ gs) later))
    ∙ ap₂ (λ (f : Table Functor) (g : Table Functor). top_of top.env top.signatures f g)
    (functors_same own top.functors tables.functors (named_left (Stays own) fs gs last))
    (functors_same own top.funsigs tables.funsigs (named_right (Stays own) fs gs last))
