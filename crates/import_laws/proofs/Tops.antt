-- What an interface says is as the elaboration of a unit asks, if no name in it is the unit's own.
use Rattle.std.proofs.Common.{◌≡◌, ℕ, suc, ◌+◌, List, [], ◌∷◌, ◌++◌, length, filter, Bool, true, false, not, cond, refl, arith, sym, subst, All}
use Rattle.std.proofs.lemmas.List.Elements.{All-head, All-tail}
use Rattle.semantic_objects.specs.declared.name.Owner.{Owner}
use Rattle.semantic_objects.specs.declared.name.Owner.TheVariants as owner
use Rattle.semantic_objects.specs.declared.name.TyName.{TyName}
use Rattle.semantic_objects.specs.Tables.{Table}
use Rattle.semantic_objects.specs.Environments.{Signature, Functor, Top}
use Rattle.env_parts.specs.Types.{is_bound}
use Rattle.realisation.specs.Names.{names_in_env, names_in_functor, names_in_signatures, names_in_functors, names_in_top, once, is_listed}
use Rattle.realisation.specs.Canonical.{is_bound_name, met}
use Rattle.static_semantics.specs.Holding.{AllItems, AllRows}
use Rattle.inference_laws.specs.Nodes.{Nodes}
use Rattle.unit_semantics.specs.Promises.{IsClosedSignature, IsClosedFunctor, IsClosedTop}
use Rattle.unit_laws.specs.Parts.{allowing, AreBoundFrom, SignatureOf, FunctorOf, TopOf}
use Rattle.table_laws.specs.Rising.{RisingSignature, RisingFunctor, RisingTop}
use Rattle.interface_format.specs.Rules.{AreNumbered, is_beyond, IsSignature, IsFunctor, IsSignatureRow, IsFunctorRow, HasTables}
use Rattle.import_laws.proofs.Items.{front, back, and_left}
use Rattle.import_laws.proofs.Rising.{is_table, env_rises}
use Rattle.import_laws.proofs.Closed.{env_closed}
use Rattle.import_laws.proofs.Nodes.{Lets, lets_allowing, AreOthers, env_may}

-- ---- names that are bound

abbrev AreBound : List TyName → Type 0
AreBound names = AllItems (λ name. is_bound_name name ≡ true) names

owner_bound : (o : Owner) → is_bound o ≡ true → o ≡ owner.Bound
owner_bound owner.Basis h = absurd (cc)
owner_bound (owner.«Unit» u) h = absurd (cc)
owner_bound owner.Bound h = refl

one_more : (a : ℕ) → a + 1 ≡ suc a
one_more a = omega arith

head_is : (x y : ℕ) (xs ys : List ℕ) → x ∷ xs ≡ y ∷ ys → x ≡ y
head_is x y xs ys h = cc

tail_is : (x y : ℕ) (xs ys : List ℕ) → x ∷ xs ≡ y ∷ ys → xs ≡ ys
tail_is x y xs ys h = cc

bound_from : (first : ℕ) (names : List TyName) → AreBound names → AreNumbered first names → AreBoundFrom first names
bound_from first [] h k = tt
bound_from first (name ∷ names) h k = (
  owner_bound name.owner h.0,
  head_is _ _ _ _ k,
  subst (λ (n : ℕ). AreBoundFrom n names) (one_more first) (bound_from (first + 1) names h.1 (tail_is _ _ _ _ k)),
)

kept_if : (R : TyName → Type 0) (b : Bool) (x : TyName) (xs : List TyName) → R x → AllItems R xs
    → AllItems R (cond b (x ∷ xs) xs)
kept_if R true x xs h k = (h, k)
kept_if R false x xs h k = k

filtered : (R : TyName → Type 0) (p : TyName → Bool) (xs : List TyName) → AllItems R xs → AllItems R (filter p xs)
filtered R p [] h = tt
filtered R p (x ∷ xs) h = kept_if R (p x) x (filter p xs) h.0 (filtered R p xs h.1)

each_once : (R : TyName → Type 0) (xs : List TyName) → AllItems R xs → AllItems R (once xs)
each_once R [] h = tt
each_once R (x ∷ xs) h = (h.0, filtered R _ (once xs) (each_once R xs h.1))

picks : (R : TyName → Type 0) (p : TyName → Bool) (b : Bool) (x : TyName) (xs : List TyName) → p x ≡ b
    → ((x : TyName) → p x ≡ true → R x) → AllItems R xs → AllItems R (cond b (x ∷ xs) xs)
picks R p true x xs e f h = (f x e, h)
picks R p false x xs e f h = h

all_pass : (R : TyName → Type 0) (p : TyName → Bool) (xs : List TyName) → ((x : TyName) → p x ≡ true → R x)
    → AllItems R (filter p xs)
all_pass R p [] f = tt
all_pass R p (x ∷ xs) f = picks R p (p x) x (filter p xs) refl f (all_pass R p xs f)

met_bound : (p : TyName → Bool) (names : List TyName) → ((x : TyName) → p x ≡ true → is_bound_name x ≡ true)
    → AreBound (met p names)
met_bound p names f = each_once _ (filter p names) (all_pass _ p names f)

are_bound : (p : TyName → Bool) (bound names : List TyName) → ((x : TyName) → p x ≡ true → is_bound_name x ≡ true)
    → bound ≡ met p names → AreBound bound
are_bound p bound names f e = subst AreBound (sym e) (met_bound p names f)

-- ---- signatures and functors

signature_may : (home : List ℕ) (q : Nodes) (sig : Signature) → Lets home q → IsSignature sig
    → AreOthers home (names_in_env sig.env) → SignatureOf q sig
signature_may home q sig l h k = record {
  bound = bound_from 0 sig.bound (are_bound is_bound_name sig.bound (names_in_env sig.env) (λ x e. e) h.bound) h.numbered;
  env = env_may home (allowing sig.bound q) sig.env (lets_allowing home q sig.bound l) h.env k;
}

beyond_bound : (bound : List TyName) (x : TyName) → is_beyond bound x ≡ true → is_bound_name x ≡ true
beyond_bound bound x e = and_left (is_bound_name x) (not (is_listed x bound)) e

functor_may : (home : List ℕ) (q : Nodes) (fun : Functor) → Lets home q → IsFunctor fun
    → AreOthers home (names_in_functor fun) → FunctorOf q fun
functor_may home q fun l h k = record {
  bound = bound_from 0 fun.bound (are_bound is_bound_name fun.bound (names_in_env fun.param) (λ x e. e) h.bound)
      h.bound_numbered;
  param = env_may home (allowing fun.bound q) fun.param (lets_allowing home q fun.bound l) h.param
      (front _ (names_in_env fun.param) (names_in_env fun.result) k);
  further = bound_from (length fun.bound) fun.further
      (are_bound (is_beyond fun.bound) fun.further (names_in_env fun.result) (beyond_bound fun.bound) h.further)
      h.further_numbered;
  result = env_may home (allowing (fun.bound ++ fun.further) q) fun.result
      (lets_allowing home q (fun.bound ++ fun.further) l) h.result
      (back _ (names_in_env fun.param) (names_in_env fun.result) k);
}

signatures_may : (home : List ℕ) (q : Nodes) (rows : Table Signature) → Lets home q → All IsSignatureRow rows
    → AreOthers home (names_in_signatures rows) → AllRows (SignatureOf q) rows
signatures_may home q [] l h k = tt
signatures_may home q (row ∷ rows) l h k = (
  signature_may home q row.1 l (All-head IsSignatureRow row rows h)
      (front _ (names_in_env row.1.env) (names_in_signatures rows) k),
  signatures_may home q rows l (All-tail IsSignatureRow row rows h)
      (back _ (names_in_env row.1.env) (names_in_signatures rows) k),
)

functors_may : (home : List ℕ) (q : Nodes) (rows : Table Functor) → Lets home q → All IsFunctorRow rows
    → AreOthers home (names_in_functors rows) → AllRows (FunctorOf q) rows
functors_may home q [] l h k = tt
functors_may home q (row ∷ rows) l h k = (
  functor_may home q row.1 l (All-head IsFunctorRow row rows h)
      (front _ (names_in_functor row.1) (names_in_functors rows) k),
  functors_may home q rows l (All-tail IsFunctorRow row rows h)
      (back _ (names_in_functor row.1) (names_in_functors rows) k),
)

-- ---- tops

pub top_may : (home : List ℕ) (q : Nodes) (top : Top) → Lets home q → HasTables top
    → AreOthers home (names_in_top top) → TopOf q top
top_may home q top l h k =
    let rest = back _ (names_in_env top.env) (names_in_signatures top.signatures
    ++ (names_in_functors top.functors ++ names_in_functors top.funsigs)) k in
    let functors = back _ (names_in_signatures top.signatures)
    (names_in_functors top.functors ++ names_in_functors top.funsigs) rest in
    record {
      env = env_may home q top.env l h.env (front _ (names_in_env top.env) (names_in_signatures top.signatures
          ++ (names_in_functors top.functors ++ names_in_functors top.funsigs)) k);
      signatures = signatures_may home q top.signatures l h.signatures
          (front _ (names_in_signatures top.signatures)
          (names_in_functors top.functors ++ names_in_functors top.funsigs) rest);
      functors = functors_may home q top.functors l h.functors
          (front _ (names_in_functors top.functors) (names_in_functors top.funsigs) functors);
      funsigs = functors_may home q top.funsigs l h.funsigs
          (back _ (names_in_functors top.functors) (names_in_functors top.funsigs) functors);
    }

signatures_rise : (rows : Table Signature) → All IsSignatureRow rows → AllRows RisingSignature rows
signatures_rise [] h = tt
signatures_rise (row ∷ rows) h =
    (env_rises row.1.env (All-head IsSignatureRow row rows h).env, signatures_rise rows (All-tail IsSignatureRow row rows h))

functors_rise : (rows : Table Functor) → All IsFunctorRow rows → AllRows RisingFunctor rows
functors_rise [] h = tt
functors_rise (row ∷ rows) h =
    let fun = All-head IsFunctorRow row rows h in (
      (env_rises row.1.param fun.param, env_rises row.1.result fun.result),
      functors_rise rows (All-tail IsFunctorRow row rows h),
    )

pub top_rises : (top : Top) → HasTables top → RisingTop top
top_rises top h = record {
  env = env_rises top.env h.env;
  signatures = (is_table top.signatures h.signature_names.rising, signatures_rise top.signatures h.signatures);
  functors = (is_table top.functors h.functor_names.rising, functors_rise top.functors h.functors);
  funsigs = (is_table top.funsigs h.funsig_names.rising, functors_rise top.funsigs h.funsigs);
}

signatures_closed : (rows : Table Signature) → All IsSignatureRow rows → AllRows IsClosedSignature rows
signatures_closed [] h = tt
signatures_closed (row ∷ rows) h =
    (env_closed row.1.env (All-head IsSignatureRow row rows h).env, signatures_closed rows (All-tail IsSignatureRow row rows h))

functors_closed : (rows : Table Functor) → All IsFunctorRow rows → AllRows IsClosedFunctor rows
functors_closed [] h = tt
functors_closed (row ∷ rows) h =
    let fun = All-head IsFunctorRow row rows h in (
      record { param = env_closed row.1.param fun.param; result = env_closed row.1.result fun.result },
      functors_closed rows (All-tail IsFunctorRow row rows h),
    )

pub top_closed : (top : Top) → HasTables top → IsClosedTop top
top_closed top h = record {
  env = env_closed top.env h.env;
  signatures = signatures_closed top.signatures h.signatures;
  functors = functors_closed top.functors h.functors;
  funsigs = functors_closed top.funsigs h.funsigs;
}
