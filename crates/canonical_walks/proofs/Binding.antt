-- Signatures and functors whose names are numbered, those of the unit first.
use Rattle.std.proofs.Common.{◌≡◌, ℕ, refl, sym, ap, ap₂, ◌∙◌, List, [], ◌∷◌, ◌++◌, length, filter, map, Bool, true, false, cond}
use Rattle.std.proofs.lemmas.List.{append-nil}
use Rattle.semantic_objects.specs.declared.name.TyName.{TyName}
use Rattle.semantic_objects.specs.Tables.{Table}
use Rattle.semantic_objects.specs.Environments.{Env, Signature, Functor, Top}
use Rattle.unification.proofs.Walking.{either_way, not_both}
use Rattle.realisation.specs.Names.{names_in_env, names_in_functor, names_in_signatures, names_in_functors, names_in_top, is_listed, once}
use Rattle.realisation.specs.Environments.{each_row}
use Rattle.realisation.specs.Canonical.{met, numbered, numbered_in, is_own, is_bound_name, is_of_param, is_further, canonical_env, signature_name, canonical_signature, functor_name, canonical_functor, own_name, canonical}
use Rattle.realisation.proofs.Listing.{Named, named_left, named_right}
use Rattle.canonical_laws.proofs.Names.{map_agrees, met_listed}
use Rattle.canonical_laws.proofs.Envs.{canonical_follows, form_agrees}
use Rattle.canonical_laws.proofs.Parts.{Moves, signature_alike, functor_alike, own_is_not_bound}
use Rattle.canonical_types.specs.declared.numbering.FunctorNames.{FunctorNames}
use Rattle.canonical_types.specs.Orders.{by_order, is_of}
use Rattle.canonical_walks.specs.Binders.{unchanged, signature_with, functor_with, NoneBound, NamesFunctor, canonical_by}
use Rattle.canonical_types.proofs.Ordered.{keeps_name, both_filters, filter_once, not_met, stays, order_agrees, both_orders}

abbrev pub sig_of : List TyName → Env → Signature
sig_of bound env = record { bound = bound; env = env }

abbrev pub fun_of : List TyName → List TyName → Env → Env → Functor
fun_of bound further param body = record { bound = bound; param = param; further = further; result = body }

fun_is : (b c f g : List TyName) (p q r s : Env) → b ≡ c → f ≡ g → p ≡ q → r ≡ s → fun_of b f p r ≡ fun_of c g q s
fun_is b c f g p q r s h i j k = ap₂ (λ x y. fun_of x y p r) h i ∙ ap₂ (fun_of c g) j k

-- ---- names of a binder with their numbers

pub sig_numbered : (env made : Env) (all names order bound : List TyName) → all ≡ once (names_in_env env)
    → names ≡ filter is_bound_name all → order ≡ names → made ≡ canonical_env (by_order order) env
    → bound ≡ map (by_order order) names
    → sig_of bound made ≡ canonical_signature unchanged (signature_with env)
sig_numbered env made all names order bound a b c d e =
    let xs : List TyName = names_in_env env in
    let sig : Signature = signature_with env in
    let found : names ≡ met is_bound_name xs = b ∙ ap (filter is_bound_name) a ∙ filter_once is_bound_name xs in
    let agree : Named (λ n. by_order order n ≡ signature_name unchanged sig n) xs =
    λ n l. ap (λ z. by_order z n) (c ∙ found) ∙ order_agrees is_bound_name xs n l in
    ap₂ sig_of
    (e ∙ ap (map (by_order order)) found ∙ map_agrees (by_order order) (signature_name unchanged sig)
    (met is_bound_name xs) (λ n l. agree n (met_listed is_bound_name n xs l)))
    (d ∙ form_agrees (by_order order) (signature_name unchanged sig) env agree)

pub fun_named : (bound all : List TyName) (param body : Env) (names : FunctorNames)
    → all ≡ once (names_in_env param ++ (names_in_env body ++ []))
    → names.of_param ≡ filter (is_of bound true) (filter is_bound_name all)
    → names.further ≡ filter (is_of bound false) (filter is_bound_name all)
    → NamesFunctor (functor_with bound param body) names
fun_named bound all param body names a b c =
    let fun : Functor = functor_with bound param body in
    let xs : List TyName = names_in_functor fun in
    let whole : all ≡ once xs = a ∙ ap (λ z. once (names_in_env param ++ z)) (append-nil (names_in_env body)) in
    record {
      of_param = b ∙ both_filters (is_of bound true) is_bound_name all ∙ ap (filter (is_of_param fun)) whole
          ∙ filter_once (is_of_param fun) xs;
      further = c ∙ both_filters (is_of bound false) is_bound_name all ∙ ap (filter (is_further fun)) whole
          ∙ filter_once (is_further fun) xs;
    }

pub fun_numbered : (bound first further : List TyName) (param body p r : Env) (names : FunctorNames)
    (order : List TyName) → NamesFunctor (functor_with bound param body) names
    → order ≡ names.of_param ++ names.further → p ≡ canonical_env (by_order order) param
    → r ≡ canonical_env (by_order order) body → first ≡ map (by_order order) names.of_param
    → further ≡ map (by_order order) names.further
    → fun_of first further p r ≡ canonical_functor unchanged (functor_with bound param body)
fun_numbered bound first further param body p r names order n a b c d e =
    let fun : Functor = functor_with bound param body in
    let xs : List TyName = names_in_functor fun in
    let h : TyName → TyName = functor_name unchanged fun in
    let whole : order ≡ met (is_of_param fun) xs ++ met (is_further fun) xs =
    a ∙ ap₂ (λ x y. x ++ y) n.of_param n.further in
    let agree : Named (λ m. by_order order m ≡ h m) xs =
    λ m l. ap (λ z. by_order z m) whole ∙ both_orders (is_of_param fun) (is_further fun) xs m l in
    fun_is first (canonical_functor unchanged fun).bound further (canonical_functor unchanged fun).further
    p (canonical_functor unchanged fun).param r (canonical_functor unchanged fun).result
    (d ∙ ap (map (by_order order)) n.of_param ∙ map_agrees (by_order order) h (met (is_of_param fun) xs)
    (λ m l. agree m (met_listed (is_of_param fun) m xs l)))
    (e ∙ ap (map (by_order order)) n.further ∙ map_agrees (by_order order) h (met (is_further fun) xs)
    (λ m l. agree m (met_listed (is_further fun) m xs l)))
    (b ∙ form_agrees (by_order order) h param
    (named_left (λ m. by_order order m ≡ h m) (names_in_env param) (names_in_env body) agree))
    (c ∙ form_agrees (by_order order) h body
    (named_right (λ m. by_order order m ≡ h m) (names_in_env param) (names_in_env body) agree))

-- ---- the unit's own names first

own_moves : (own xs : List TyName) → NoneBound own → Moves (by_order own) unchanged (by_order own) xs
own_moves own xs none = record {
  keeps = λ n l. keeps_name own n;
  others = λ n l e. refl;
  apart = λ m n i j e. sym (stays own m (none m i.1)) ∙ e ∙ stays own n (none n j.1);
}

pub sig_moved : (own : List TyName) (sig : Signature) → NoneBound own
    → canonical_signature unchanged (signature_with (canonical_env (by_order own) sig.env))
    ≡ canonical_signature (by_order own) sig
sig_moved own sig none = signature_alike (by_order own) unchanged (by_order own) sig
    (signature_with (canonical_env (by_order own) sig.env)) (canonical_follows (by_order own) sig.env)
    (own_moves own (names_in_env sig.env) none)

pub fun_moved : (own : List TyName) (fun : Functor) → NoneBound own
    → canonical_functor unchanged (functor_with fun.bound (canonical_env (by_order own) fun.param)
    (canonical_env (by_order own) fun.result)) ≡ canonical_functor (by_order own) fun
fun_moved own fun none = functor_alike (by_order own) unchanged (by_order own) fun
    (functor_with fun.bound (canonical_env (by_order own) fun.param) (canonical_env (by_order own) fun.result))
    (canonical_follows (by_order own) fun.param) (canonical_follows (by_order own) fun.result)
    (own_moves own (names_in_functor fun) none)
    (λ n l e. ap (λ z. is_listed z fun.bound) (stays own n (none n e)))

-- ---- the unit's own names by their order, in all that it defines

numbered_agrees : (p : TyName → Bool) (xs : List TyName) (first : ℕ) (f g : TyName → TyName) (n : TyName) → f n ≡ g n
    → numbered p xs first f n ≡ numbered p xs first g n
numbered_agrees p xs first f g n e = ap (λ z. cond (p n) (numbered_in (met p xs) first n) z) e

sig_agrees : (f g : TyName → TyName) (sig : Signature) → Named (λ n. f n ≡ g n) (names_in_env sig.env)
    → canonical_signature f sig ≡ canonical_signature g sig
sig_agrees f g sig e =
    let xs : List TyName = names_in_env sig.env in
    let agree : Named (λ n. signature_name f sig n ≡ signature_name g sig n) xs =
    λ n l. numbered_agrees is_bound_name xs 0 f g n (e n l) in
    ap₂ sig_of
    (map_agrees (signature_name f sig) (signature_name g sig) (met is_bound_name xs)
    (λ n l. agree n (met_listed is_bound_name n xs l)))
    (form_agrees (signature_name f sig) (signature_name g sig) sig.env agree)

fun_agrees : (f g : TyName → TyName) (fun : Functor) → Named (λ n. f n ≡ g n) (names_in_functor fun)
    → canonical_functor f fun ≡ canonical_functor g fun
fun_agrees f g fun e =
    let xs : List TyName = names_in_functor fun in
    let few : ℕ = length (met (is_of_param fun) xs) in
    let h : TyName → TyName = functor_name f fun in
    let k : TyName → TyName = functor_name g fun in
    let agree : Named (λ n. h n ≡ k n) xs = λ n l. numbered_agrees (is_of_param fun) xs 0
    (numbered (is_further fun) xs few f) (numbered (is_further fun) xs few g) n
    (numbered_agrees (is_further fun) xs few f g n (e n l)) in
    fun_is (canonical_functor f fun).bound (canonical_functor g fun).bound (canonical_functor f fun).further
    (canonical_functor g fun).further (canonical_functor f fun).param (canonical_functor g fun).param
    (canonical_functor f fun).result (canonical_functor g fun).result
    (map_agrees h k (met (is_of_param fun) xs) (λ n l. agree n (met_listed (is_of_param fun) n xs l)))
    (map_agrees h k (met (is_further fun) xs) (λ n l. agree n (met_listed (is_further fun) n xs l)))
    (form_agrees h k fun.param (named_left (λ n. h n ≡ k n) (names_in_env fun.param) (names_in_env fun.result) agree))
    (form_agrees h k fun.result (named_right (λ n. h n ≡ k n) (names_in_env fun.param) (names_in_env fun.result) agree))

sigs_agree : (f g : TyName → TyName) (rows : Table Signature) → Named (λ n. f n ≡ g n) (names_in_signatures rows)
    → each_row (canonical_signature f) rows ≡ each_row (canonical_signature g) rows
sigs_agree f g [] e = refl
sigs_agree f g (row ∷ rows) e = ap₂ (λ x xs. (row.0, x) ∷ xs)
    (sig_agrees f g row.1 (named_left (λ n. f n ≡ g n) (names_in_env row.1.env) (names_in_signatures rows) e))
    (sigs_agree f g rows (named_right (λ n. f n ≡ g n) (names_in_env row.1.env) (names_in_signatures rows) e))

funs_agree : (f g : TyName → TyName) (rows : Table Functor) → Named (λ n. f n ≡ g n) (names_in_functors rows)
    → each_row (canonical_functor f) rows ≡ each_row (canonical_functor g) rows
funs_agree f g [] e = refl
funs_agree f g (row ∷ rows) e = ap₂ (λ x xs. (row.0, x) ∷ xs)
    (fun_agrees f g row.1 (named_left (λ n. f n ≡ g n) (names_in_functor row.1) (names_in_functors rows) e))
    (funs_agree f g rows (named_right (λ n. f n ≡ g n) (names_in_functor row.1) (names_in_functors rows) e))

abbrev top_of : Env → Table Signature → Table Functor → Table Functor → Top
top_of env sigs funs funsigs = record { env = env; signatures = sigs; functors = funs; funsigs = funsigs }

pub top_is : (d e : Env) (s t : Table Signature) (f g h k : Table Functor) → d ≡ e → s ≡ t → f ≡ g → h ≡ k
    → top_of d s f h ≡ top_of e t g k
top_is d e s t f g h k a b c i = ap₂ (λ x y. top_of x y f h) a b ∙ ap₂ (top_of e t) c i

pub top_canonical : (home : List ℕ) (top : Top) (own : List TyName) → own ≡ met (is_own home) (names_in_top top)
    → canonical_by (by_order own) top ≡ canonical home top
top_canonical home top own a =
    let f : TyName → TyName = by_order own in
    let g : TyName → TyName = own_name home top in
    let same : TyName → Type 0 = λ n. f n ≡ g n in
    let es : List TyName = names_in_env top.env in
    let ss : List TyName = names_in_signatures top.signatures in
    let fs : List TyName = names_in_functors top.functors in
    let gs : List TyName = names_in_functors top.funsigs in
    let agree : Named same (names_in_top top) =
    λ n l. ap (λ z. by_order z n) a ∙ order_agrees (is_own home) (names_in_top top) n l in
    let rest : Named same (ss ++ (fs ++ gs)) = named_right same es (ss ++ (fs ++ gs)) agree in
    let more : Named same (fs ++ gs) = named_right same ss (fs ++ gs) rest in
    top_is (canonical_env f top.env) (canonical_env g top.env)
    (each_row (canonical_signature f) top.signatures) (each_row (canonical_signature g) top.signatures)
    (each_row (canonical_functor f) top.functors) (each_row (canonical_functor g) top.functors)
    (each_row (canonical_functor f) top.funsigs) (each_row (canonical_functor g) top.funsigs)
    (form_agrees f g top.env (named_left same es (ss ++ (fs ++ gs)) agree))
    (sigs_agree f g top.signatures (named_left same ss (fs ++ gs) rest))
    (funs_agree f g top.functors (named_left same fs gs more))
    (funs_agree f g top.funsigs (named_right same fs gs more))

-- the unit's own names are none of a binder
pub none_bound : (home : List ℕ) (xs own : List TyName) → own ≡ met (is_own home) xs → NoneBound own
none_bound home xs own a n e = ap (is_listed n) a ∙ not_met (is_own home) n xs
    (either_way (is_own home n) (λ k. absurd (not_both (is_bound_name n) (own_is_not_bound home n k) e)) (λ k. k))
