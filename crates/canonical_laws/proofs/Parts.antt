-- Signatures, functors and tops whose names are renamed have the canonical form that they had.
use Rattle.std.proofs.Common.{◌≡◌, ℕ, ◌+◌, refl, sym, ap, ap₂, ◌∙◌, Bool, true, false, ◌&&◌, not, cond, List, [], ◌∷◌, ◌++◌, map, filter, length}
use Rattle.std.proofs.lemmas.List.{map-append, length-map}
use Rattle.std.proofs.lemmas.List.Elements.{filter-append}
use Rattle.semantic_objects.specs.declared.name.Owner.{Owner}
use Rattle.semantic_objects.specs.declared.name.Owner.TheVariants as owner
use Rattle.semantic_objects.specs.declared.name.TyName.{TyName}
use Rattle.semantic_objects.specs.Symbols.{same_owner}
use Rattle.semantic_objects.specs.Tables.{Table}
use Rattle.semantic_objects.specs.Environments.{Env, Signature, Functor, Top}
use Rattle.env_parts.specs.Types.{is_bound}
use Rattle.unification.proofs.Walking.{not_both, and_left}
use Rattle.realisation.specs.Names.{names_in_env, names_in_functor, names_in_signatures, names_in_functors, names_in_top, is_listed, place_in}
use Rattle.realisation.specs.Environments.{each_row}
use Rattle.realisation.specs.Canonical.{canonical_env, met, with_number, numbered, is_own, is_bound_name, is_of_param, is_further, signature_name, canonical_signature, functor_name, canonical_functor, own_name, canonical}
use Rattle.realisation.proofs.Listing.{Named, named_left, named_right}
use Rattle.canonical_laws.proofs.Names.{ApartBy, Asked, map_agrees, map_map, filter_renamed, met_listed, met_renamed, numbered_renamed}
use Rattle.canonical_laws.proofs.Envs.{Follows, form_agrees}

-- ---- what becomes of the names of a part of a unit

-- `own` and `next` say what becomes of other names, before and after
pub record Moves (own next h : TyName → TyName) (xs : List TyName) : Type 0 where
  pub keeps : Named (λ n. h n ≡ with_number (h n).number n) xs
  pub others : Named (λ n. is_bound_name n ≡ false → next (h n) ≡ own n) xs
  pub apart : ApartBy (Asked is_bound_name xs) h

stays_bound : (own next h : TyName → TyName) (xs : List TyName) → Moves own next h xs
    → Named (λ n. is_bound_name (h n) ≡ is_bound_name n) xs
stays_bound own next h xs m n l = ap is_bound_name (m.keeps n l)

-- names that are asked for are as many and in the same order
met_alike : (p q : TyName → Bool) (h : TyName → TyName) (xs ys : List TyName) → ys ≡ map h xs
    → Named (λ n. q (h n) ≡ p n) xs → ApartBy (Asked p xs) h → met q ys ≡ map h (met p xs)
met_alike p q h xs ys e t a = met_renamed p q h xs ys
    (ap (filter q) e ∙ filter_renamed p q h h xs t (λ n l k. refl)) a

-- the names of a binder, once they are renamed
binder_alike : (p : TyName → Bool) (h f g : TyName → TyName) (xs zs : List TyName) → zs ≡ map h (met p xs)
    → Named (λ n. g (h n) ≡ f n) xs → map g zs ≡ map f (met p xs)
binder_alike p h f g xs zs e a = ap (map g) e ∙ map_map h g (met p xs)
    ∙ map_agrees (λ n. g (h n)) f (met p xs) (λ n l. a n (met_listed p n xs l))

-- ---- signatures

abbrev sig_of : List TyName → Env → Signature
sig_of bound env = record { bound = bound; env = env }

pub signature_alike : (own next h : TyName → TyName) (sig other : Signature) → Follows h sig.env other.env
    → Moves own next h (names_in_env sig.env) → canonical_signature next other ≡ canonical_signature own sig
signature_alike own next h sig other w m =
    let xs : List TyName = names_in_env sig.env in
    let ys : List TyName = names_in_env other.env in
    let t : Named (λ n. is_bound_name (h n) ≡ is_bound_name n) xs = stays_bound own next h xs m in
    let e : met is_bound_name ys ≡ map h (met is_bound_name xs) =
    met_alike is_bound_name is_bound_name h xs ys w.names t m.apart in
    let agree : Named (λ n. signature_name next other (h n) ≡ signature_name own sig n) xs =
    λ n l. numbered_renamed is_bound_name is_bound_name h xs ys 0 own next e m.apart n (h n) l (t n l) (λ _. refl)
    (m.keeps n l) (m.others n l) in
    ap₂ sig_of
    (binder_alike is_bound_name h (signature_name own sig) (signature_name next other) xs (met is_bound_name ys) e
    agree)
    (w.form (signature_name next other)
    ∙ form_agrees (λ n. signature_name next other (h n)) (signature_name own sig) sig.env agree)

-- ---- functors

and_alike : (a b c d : Bool) → a ≡ b → (b ≡ true → c ≡ d) → (a && c) ≡ (b && d)
and_alike a true c d e k = ap₂ (λ x y. x && y) e (k refl)
and_alike a false c d e k = ap (λ x. x && c) e

neither : (b p : Bool) → (b && p) ≡ false → (b && not p) ≡ false → b ≡ false
neither true true h k = absurd (cc)
neither true false h k = absurd (cc)
neither false p h k = refl

abbrev functor_with : List TyName → List TyName → Env → Env → Functor
functor_with bound further param result = record { bound = bound; param = param; further = further; result = result }

functor_is : (fun : Functor) (bound further : List TyName) (param result : Env) → fun.bound ≡ bound
    → fun.further ≡ further → fun.param ≡ param → fun.result ≡ result → fun ≡ functor_with bound further param result
functor_is fun bound further param result a b c d =
    ap₂ (λ x y. functor_with x y fun.param fun.result) a b ∙ ap₂ (functor_with bound further) c d

pub functor_alike : (own next h : TyName → TyName) (fun other : Functor) → Follows h fun.param other.param
    → Follows h fun.result other.result → Moves own next h (names_in_functor fun)
    → Named (λ n. is_bound_name n ≡ true → is_listed (h n) other.bound ≡ is_listed n fun.bound) (names_in_functor fun)
    → canonical_functor next other ≡ canonical_functor own fun
functor_alike own next h fun other w v m params =
    let xs : List TyName = names_in_functor fun in
    let ys : List TyName = names_in_functor other in
    let names : ys ≡ map h xs = ap₂ (λ a b. a ++ b) w.names v.names
    ∙ sym (map-append h (names_in_env fun.param) (names_in_env fun.result)) in
    let t : Named (λ n. is_bound_name (h n) ≡ is_bound_name n) xs = stays_bound own next h xs m in
    let of : Named (λ n. is_of_param other (h n) ≡ is_of_param fun n) xs =
    λ n l. and_alike (is_bound_name (h n)) (is_bound_name n) (is_listed (h n) other.bound) (is_listed n fun.bound)
    (t n l) (params n l) in
    let more : Named (λ n. is_further other (h n) ≡ is_further fun n) xs =
    λ n l. and_alike (is_bound_name (h n)) (is_bound_name n) (not (is_listed (h n) other.bound))
    (not (is_listed n fun.bound)) (t n l) (λ b. ap not (params n l b)) in
    let first_apart : ApartBy (Asked (is_of_param fun) xs) h =
    λ k n i j. m.apart k n (i.0, and_left (is_bound_name k) (is_listed k fun.bound) i.1)
    (j.0, and_left (is_bound_name n) (is_listed n fun.bound) j.1) in
    let more_apart : ApartBy (Asked (is_further fun) xs) h =
    λ k n i j. m.apart k n (i.0, and_left (is_bound_name k) (not (is_listed k fun.bound)) i.1)
    (j.0, and_left (is_bound_name n) (not (is_listed n fun.bound)) j.1) in
    let e : met (is_of_param other) ys ≡ map h (met (is_of_param fun) xs) =
    met_alike (is_of_param fun) (is_of_param other) h xs ys names of first_apart in
    let f : met (is_further other) ys ≡ map h (met (is_further fun) xs) =
    met_alike (is_further fun) (is_further other) h xs ys names more more_apart in
    let counted : length (met (is_of_param other) ys) ≡ length (met (is_of_param fun) xs) =
    ap length e ∙ length-map (met (is_of_param fun) xs) h in
    let rest : Named (λ n. is_of_param fun n ≡ false
    → numbered (is_further other) ys (length (met (is_of_param other) ys)) next (h n)
    ≡ numbered (is_further fun) xs (length (met (is_of_param fun) xs)) own n) xs =
    λ n l p. ap (λ c. numbered (is_further other) ys c next (h n)) counted
    ∙ numbered_renamed (is_further fun) (is_further other) h xs ys (length (met (is_of_param fun) xs)) own next f
    more_apart n (h n) l (more n l) (λ _. refl) (m.keeps n l)
    (λ q. m.others n l (neither (is_bound_name n) (is_listed n fun.bound) p q)) in
    let agree : Named (λ n. functor_name next other (h n) ≡ functor_name own fun n) xs =
    λ n l. numbered_renamed (is_of_param fun) (is_of_param other) h xs ys 0
    (numbered (is_further fun) xs (length (met (is_of_param fun) xs)) own)
    (numbered (is_further other) ys (length (met (is_of_param other) ys)) next) e first_apart n (h n) l (of n l)
    (λ _. refl) (m.keeps n l) (rest n l) in
    functor_is (canonical_functor next other) (canonical_functor own fun).bound (canonical_functor own fun).further
    (canonical_functor own fun).param (canonical_functor own fun).result
    (binder_alike (is_of_param fun) h (functor_name own fun) (functor_name next other) xs
    (met (is_of_param other) ys) e agree)
    (binder_alike (is_further fun) h (functor_name own fun) (functor_name next other) xs
    (met (is_further other) ys) f agree)
    (w.form (functor_name next other)
    ∙ form_agrees (λ n. functor_name next other (h n)) (functor_name own fun) fun.param
    (named_left (λ n. functor_name next other (h n) ≡ functor_name own fun n) (names_in_env fun.param)
    (names_in_env fun.result) agree))
    (v.form (functor_name next other)
    ∙ form_agrees (λ n. functor_name next other (h n)) (functor_name own fun) fun.result
    (named_right (λ n. functor_name next other (h n) ≡ functor_name own fun n) (names_in_env fun.param)
    (names_in_env fun.result) agree))

-- ---- a unit's own names

owner_apart : (home : List ℕ) (o : Owner) → same_owner (owner.«Unit» home) o ≡ true → is_bound o ≡ false
owner_apart home owner.Basis h = refl
owner_apart home (owner.«Unit» u) h = refl
owner_apart home owner.Bound h = absurd (cc)

pub own_is_not_bound : (home : List ℕ) (n : TyName) → is_own home n ≡ true → is_bound_name n ≡ false
own_is_not_bound home n h = owner_apart home n.owner h

-- the own names of the second list are those of the first, renamed
abbrev pub OwnAlike : List ℕ → (TyName → TyName) → List TyName → List TyName → Type 0
OwnAlike home f xs ys = filter (is_own home) ys ≡ map f (filter (is_own home) xs)

pub own_both : (home : List ℕ) (f : TyName → TyName) (xs ys us vs : List TyName) → OwnAlike home f xs us
    → OwnAlike home f ys vs → OwnAlike home f (xs ++ ys) (us ++ vs)
own_both home f xs ys us vs a b = filter-append (is_own home) us vs ∙ ap₂ (λ x y. x ++ y) a b
    ∙ sym (map-append f (filter (is_own home) xs) (filter (is_own home) ys))
    ∙ sym (ap (map f) (filter-append (is_own home) xs ys))

-- a renaming that keeps all but numbers, and renames own names as `f` does
pub record IsLike (home : List ℕ) (f h : TyName → TyName) : Type 0 where
  pub keeps : (n : TyName) → h n ≡ with_number (h n).number n
  pub own : (n : TyName) → is_own home n ≡ true → h n ≡ f n

pub own_follows : (home : List ℕ) (f h : TyName → TyName) (env other : Env) → IsLike home f h → Follows h env other
    → OwnAlike home f (names_in_env env) (names_in_env other)
own_follows home f h env other k w = ap (filter (is_own home)) w.names
    ∙ filter_renamed (is_own home) (is_own home) h f (names_in_env env) (λ n l. ap (is_own home) (k.keeps n))
    (λ n l e. k.own n e)

pub own_signatures : (home : List ℕ) (f : TyName → TyName) (g : Signature → Signature)
    → ((sig : Signature) → OwnAlike home f (names_in_env sig.env) (names_in_env (g sig).env))
    → (rows : Table Signature) → OwnAlike home f (names_in_signatures rows) (names_in_signatures (each_row g rows))
own_signatures home f g k [] = refl
own_signatures home f g k (row ∷ rows) = own_both home f (names_in_env row.1.env) (names_in_signatures rows)
    (names_in_env (g row.1).env) (names_in_signatures (each_row g rows)) (k row.1) (own_signatures home f g k rows)

pub own_functors : (home : List ℕ) (f : TyName → TyName) (g : Functor → Functor)
    → ((fun : Functor) → OwnAlike home f (names_in_functor fun) (names_in_functor (g fun)))
    → (rows : Table Functor) → OwnAlike home f (names_in_functors rows) (names_in_functors (each_row g rows))
own_functors home f g k [] = refl
own_functors home f g k (row ∷ rows) = own_both home f (names_in_functor row.1) (names_in_functors rows)
    (names_in_functor (g row.1)) (names_in_functors (each_row g rows)) (k row.1) (own_functors home f g k rows)

-- ---- rows

pub signature_rows : (f g k : Signature → Signature) (N : TyName → Type 0)
    → ((sig : Signature) → Named N (names_in_env sig.env) → k (g sig) ≡ f sig) → (rows : Table Signature)
    → Named N (names_in_signatures rows) → each_row k (each_row g rows) ≡ each_row f rows
signature_rows f g k N h [] n = refl
signature_rows f g k N h (row ∷ rows) n = ap₂ (λ x xs. (row.0, x) ∷ xs)
    (h row.1 (named_left N (names_in_env row.1.env) (names_in_signatures rows) n))
    (signature_rows f g k N h rows (named_right N (names_in_env row.1.env) (names_in_signatures rows) n))

pub functor_rows : (f g k : Functor → Functor) (N : TyName → Type 0)
    → ((fun : Functor) → Named N (names_in_functor fun) → k (g fun) ≡ f fun) → (rows : Table Functor)
    → Named N (names_in_functors rows) → each_row k (each_row g rows) ≡ each_row f rows
functor_rows f g k N h [] n = refl
functor_rows f g k N h (row ∷ rows) n = ap₂ (λ x xs. (row.0, x) ∷ xs)
    (h row.1 (named_left N (names_in_functor row.1) (names_in_functors rows) n))
    (functor_rows f g k N h rows (named_right N (names_in_functor row.1) (names_in_functors rows) n))

-- ---- tops

abbrev top_with : Env → Table Signature → Table Functor → Table Functor → Top
top_with env sigs funs funsigs = record { env = env; signatures = sigs; functors = funs; funsigs = funsigs }

-- a top whose parts are each renamed
abbrev pub top_by : (Env → Env) → (Signature → Signature) → (Functor → Functor) → Top → Top
top_by e g k top = record {
  env = e top.env;
  signatures = each_row g top.signatures;
  functors = each_row k top.functors;
  funsigs = each_row k top.funsigs;
}

-- what becomes of a name in the end, whichever of two ways it goes
pub record Settles (home : List ℕ) (own next f : TyName → TyName) (n : TyName) : Type 0 where
  pub of_own : is_own home n ≡ true → next (f n) ≡ own n
  pub of_other : is_own home n ≡ false → (next n ≡ n) × (own n ≡ n)

-- what is asked of the renaming of a top: each part is renamed like `f` at own names, and what becomes of it is known
-- where the own names get the numbers that they had
pub record RenamesTop (home : List ℕ) (top : Top) (f : TyName → TyName) (e : Env → Env) (g : Signature → Signature)
    (k : Functor → Functor) : Type 0 where
  pub keeps : (n : TyName) → f n ≡ with_number (f n).number n
  pub apart : ApartBy (Asked (is_own home) (names_in_top top)) f
  pub env_names : (env : Env) → OwnAlike home f (names_in_env env) (names_in_env (e env))
  pub signature_names : (sig : Signature) → OwnAlike home f (names_in_env sig.env) (names_in_env (g sig).env)
  pub functor_names : (fun : Functor) → OwnAlike home f (names_in_functor fun) (names_in_functor (k fun))
  pub env_form : (own next : TyName → TyName) (env : Env) → Named (λ n. Settles home own next f n) (names_in_env env)
      → canonical_env next (e env) ≡ canonical_env own env
  pub signature_form : (own next : TyName → TyName) (sig : Signature)
      → Named (λ n. Settles home own next f n) (names_in_env sig.env)
      → canonical_signature next (g sig) ≡ canonical_signature own sig
  pub functor_form : (own next : TyName → TyName) (fun : Functor)
      → Named (λ n. Settles home own next f n) (names_in_functor fun)
      → canonical_functor next (k fun) ≡ canonical_functor own fun

pub other_stays : (home : List ℕ) (top : Top) (n : TyName) → is_own home n ≡ false → own_name home top n ≡ n
other_stays home top n e = ap (λ c. cond c (with_number (0 + place_in n (met (is_own home) (names_in_top top))) n) n) e

pub top_alike : (home : List ℕ) (top : Top) (f : TyName → TyName) (e : Env → Env) (g : Signature → Signature)
    (k : Functor → Functor) → RenamesTop home top f e g k → canonical home (top_by e g k top) ≡ canonical home top
top_alike home top f e g k r =
    let other : Top = top_by e g k top in
    let xs : List TyName = names_in_top top in
    let ys : List TyName = names_in_top other in
    let more : OwnAlike home f (names_in_functors top.functors ++ names_in_functors top.funsigs)
    (names_in_functors other.functors ++ names_in_functors other.funsigs) =
    own_both home f (names_in_functors top.functors) (names_in_functors top.funsigs)
    (names_in_functors other.functors) (names_in_functors other.funsigs)
    (own_functors home f k r.functor_names top.functors) (own_functors home f k r.functor_names top.funsigs) in
    let rest : OwnAlike home f (names_in_signatures top.signatures
    ++ (names_in_functors top.functors ++ names_in_functors top.funsigs))
    (names_in_signatures other.signatures
    ++ (names_in_functors other.functors ++ names_in_functors other.funsigs)) =
    own_both home f (names_in_signatures top.signatures)
    (names_in_functors top.functors ++ names_in_functors top.funsigs)
    (names_in_signatures other.signatures)
    (names_in_functors other.functors ++ names_in_functors other.funsigs)
    (own_signatures home f g r.signature_names top.signatures) more in
    let names : OwnAlike home f xs ys = own_both home f (names_in_env top.env)
    (names_in_signatures top.signatures ++ (names_in_functors top.functors ++ names_in_functors top.funsigs))
    (names_in_env other.env)
    (names_in_signatures other.signatures ++ (names_in_functors other.functors ++ names_in_functors other.funsigs))
    (r.env_names top.env) rest in
    let own : TyName → TyName = own_name home top in
    let next : TyName → TyName = own_name home other in
    let found : met (is_own home) ys ≡ map f (met (is_own home) xs) =
    met_renamed (is_own home) (is_own home) f xs ys names r.apart in
    let settles : Named (λ n. Settles home own next f n) xs = λ n l. record {
      of_own = λ o. numbered_renamed (is_own home) (is_own home) f xs ys 0 (λ m. m) (λ m. m) found r.apart n (f n) l
          (ap (is_own home) (r.keeps n)) (λ _. refl) (r.keeps n) (λ q. absurd (not_both (is_own home n) q o));
      of_other = λ o. (other_stays home other n o, other_stays home top n o);
    } in
    let N : TyName → Type 0 = λ n. Settles home own next f n in
    let after_env : Named N (names_in_signatures top.signatures
    ++ (names_in_functors top.functors ++ names_in_functors top.funsigs)) =
    named_right N (names_in_env top.env) (names_in_signatures top.signatures
    ++ (names_in_functors top.functors ++ names_in_functors top.funsigs)) settles in
    let after_signatures : Named N (names_in_functors top.functors ++ names_in_functors top.funsigs) =
    named_right N (names_in_signatures top.signatures)
    (names_in_functors top.functors ++ names_in_functors top.funsigs) after_env in
    ap₂ (λ a b. top_with a b (each_row (canonical_functor next) other.functors)
    (each_row (canonical_functor next) other.funsigs))
    (r.env_form own next top.env (named_left N (names_in_env top.env) (names_in_signatures top.signatures
    ++ (names_in_functors top.functors ++ names_in_functors top.funsigs)) settles))
    (signature_rows (canonical_signature own) g (canonical_signature next) N (r.signature_form own next) top.signatures
    (named_left N (names_in_signatures top.signatures)
    (names_in_functors top.functors ++ names_in_functors top.funsigs) after_env))
    ∙ ap₂ (top_with (canonical home top).env (canonical home top).signatures)
    (functor_rows (canonical_functor own) k (canonical_functor next) N (r.functor_form own next) top.functors
    (named_left N (names_in_functors top.functors) (names_in_functors top.funsigs) after_signatures))
    (functor_rows (canonical_functor own) k (canonical_functor next) N (r.functor_form own next) top.funsigs
    (named_right N (names_in_functors top.functors) (names_in_functors top.funsigs) after_signatures))
