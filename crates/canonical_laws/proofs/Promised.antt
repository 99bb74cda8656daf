-- The laws of numbers, as the public function of this crate states them.
use Rattle.std.proofs.Common.{◌≡◌, ℕ, refl, sym, ap, ap₂, ◌∙◌, ◌||◌, List, [], ◌∷◌, map}
use Rattle.semantic_objects.specs.declared.name.TyName.{TyName}
use Rattle.semantic_objects.specs.Environments.{Signature, Functor, Top}
use Rattle.unification.proofs.Walking.{either_way}
use Rattle.realisation.specs.Names.{names_in_env, names_in_functor, is_listed}
use Rattle.realisation.specs.Canonical.{is_own, is_bound_name, canonical_signature, canonical_functor}
use Rattle.realisation.proofs.Listing.{Named}
use Rattle.canonical_laws.specs.Renumbering.{Renumbers, renumbered_env, renumbered_signature, renumbered_functor}
use Rattle.canonical_laws.specs.Promises.{NumbersChangeNothing}
use Rattle.canonical_laws.proofs.Schemes.{scheme_alike}
use Rattle.canonical_laws.proofs.Names.{same_renamed}
use Rattle.canonical_laws.proofs.Envs.{renumbered_follows, form_agrees}
use Rattle.canonical_laws.proofs.Parts.{Moves, signature_alike, functor_alike, own_both, IsLike, own_follows, Settles, RenamesTop, top_alike}

listed_alike : (h : TyName → TyName) → ((m n : TyName) → h m ≡ h n → m ≡ n) → (n : TyName) (xs : List TyName)
    → is_listed (h n) (map h xs) ≡ is_listed n xs
listed_alike h a n [] = refl
listed_alike h a n (x ∷ xs) = ap₂ (λ c d. c || d) (same_renamed h n x (a n x)) (listed_alike h a n xs)

-- ---- names that a binder binds

bound_moves : (own h : TyName → TyName) (xs : List TyName) → Renumbers is_bound_name h → Moves own own h xs
bound_moves own h xs r = record {
  keeps = λ n l. r.keeps n;
  others = λ n l b. ap own (r.others n b);
  apart = λ m n i j e. r.apart m n e;
}

of_signature : (own : TyName → TyName) (sig : Signature) (h : TyName → TyName) → Renumbers is_bound_name h
    → canonical_signature own (renumbered_signature h sig) ≡ canonical_signature own sig
of_signature own sig h r = signature_alike own own h sig (renumbered_signature h sig) (renumbered_follows h sig.env)
    (bound_moves own h (names_in_env sig.env) r)

of_functor : (own : TyName → TyName) (fun : Functor) (h : TyName → TyName) → Renumbers is_bound_name h
    → canonical_functor own (renumbered_functor h fun) ≡ canonical_functor own fun
of_functor own fun h r = functor_alike own own h fun (renumbered_functor h fun) (renumbered_follows h fun.param)
    (renumbered_follows h fun.result) (bound_moves own h (names_in_functor fun) r)
    (λ n l b. listed_alike h r.apart n fun.bound)

-- ---- a unit's own names

settled : (home : List ℕ) (own next h : TyName → TyName) → Renumbers (is_own home) h → (n : TyName)
    → Settles home own next h n → next (h n) ≡ own n
settled home own next h r n s = either_way (is_own home n) s.of_own
    (λ o. ap next (r.others n o) ∙ (s.of_other o).0 ∙ sym (s.of_other o).1)

own_moves : (home : List ℕ) (own next h : TyName → TyName) (xs : List TyName) → Renumbers (is_own home) h
    → Named (λ n. Settles home own next h n) xs → Moves own next h xs
own_moves home own next h xs r s = record {
  keeps = λ n l. r.keeps n;
  others = λ n l b. settled home own next h r n (s n l);
  apart = λ m n i j e. r.apart m n e;
}

like_itself : (home : List ℕ) (h : TyName → TyName) → Renumbers (is_own home) h → IsLike home h h
like_itself home h r = record { keeps = r.keeps; own = λ n e. refl }

renames_top : (home : List ℕ) (top : Top) (h : TyName → TyName) → Renumbers (is_own home) h
    → RenamesTop home top h (renumbered_env h) (renumbered_signature h) (renumbered_functor h)
renames_top home top h r = record {
  keeps = r.keeps;
  apart = λ m n i j e. r.apart m n e;
  env_names = λ env. own_follows home h h env (renumbered_env h env) (like_itself home h r) (renumbered_follows h env);
  signature_names = λ sig. own_follows home h h sig.env (renumbered_env h sig.env) (like_itself home h r)
      (renumbered_follows h sig.env);
  functor_names = λ fun. own_both home h (names_in_env fun.param) (names_in_env fun.result)
      (names_in_env (renumbered_env h fun.param)) (names_in_env (renumbered_env h fun.result))
      (own_follows home h h fun.param (renumbered_env h fun.param) (like_itself home h r)
      (renumbered_follows h fun.param))
      (own_follows home h h fun.result (renumbered_env h fun.result) (like_itself home h r)
      (renumbered_follows h fun.result));
  env_form = λ own next env s. (renumbered_follows h env).form next
      ∙ form_agrees (λ n. next (h n)) own env (λ n l. settled home own next h r n (s n l));
  signature_form = λ own next sig s. signature_alike own next h sig (renumbered_signature h sig)
      (renumbered_follows h sig.env) (own_moves home own next h (names_in_env sig.env) r s);
  functor_form = λ own next fun s. functor_alike own next h fun (renumbered_functor h fun)
      (renumbered_follows h fun.param) (renumbered_follows h fun.result)
      (own_moves home own next h (names_in_functor fun) r s) (λ n l b. listed_alike h r.apart n fun.bound);
}

pub numbers_change_nothing : NumbersChangeNothing
numbers_change_nothing = record {
  own = λ home top h r. top_alike home top h (renumbered_env h) (renumbered_signature h) (renumbered_functor h)
      (renames_top home top h r);
  of_signature = of_signature;
  of_functor = of_functor;
  of_scheme = scheme_alike;
}
