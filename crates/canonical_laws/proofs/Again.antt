-- The canonical form of a canonical form is itself.
use Rattle.std.proofs.Common.{◌≡◌, ℕ, ◌+◌, ◌<◌, refl, sym, ap, ◌∙◌, subst, arith, Bool, true, false, ◌&&◌, not, cond, List, length}
use Rattle.semantic_objects.specs.declared.name.TyName.{TyName}
use Rattle.semantic_objects.specs.Environments.{Signature, Functor, Top}
use Rattle.unification.proofs.Walking.{either_way, and_left, and_right, and_both}
use Rattle.realisation.specs.Names.{names_in_env, names_in_functor, names_in_top, is_listed, place_in}
use Rattle.realisation.specs.Canonical.{canonical_env, met, with_number, numbered_in, numbered, is_own, is_bound_name, is_of_param, is_further, signature_name, canonical_signature, functor_name, canonical_functor, own_name}
use Rattle.realisation.proofs.Listing.{Named}
use Rattle.canonical_laws.specs.Promises.{CanonicalIsCanonical}
use Rattle.canonical_laws.proofs.Names.{ApartBy, Asked, yes_or_no, listed_renamed, listed_before, met_listed, met_passes, listed_met, place_below, place_apart}
use Rattle.canonical_laws.proofs.Envs.{canonical_follows, form_agrees}
use Rattle.canonical_laws.proofs.Parts.{Moves, signature_alike, functor_alike, own_is_not_bound, own_both, IsLike, own_follows, Settles, RenamesTop, other_stays, top_alike}

-- ---- what numbering does to a name

asked_for : (p : TyName → Bool) (names : List TyName) (first : ℕ) (others : TyName → TyName) (n : TyName)
    → p n ≡ true → numbered p names first others n ≡ numbered_in (met p names) first n
asked_for p names first others n e = ap (λ c. cond c (numbered_in (met p names) first n) (others n)) e

not_asked : (p : TyName → Bool) (names : List TyName) (first : ℕ) (others : TyName → TyName) (n : TyName)
    → p n ≡ false → numbered p names first others n ≡ others n
not_asked p names first others n e = ap (λ c. cond c (numbered_in (met p names) first n) (others n)) e

abbrev Keeps : (TyName → TyName) → Type 0
Keeps h = (n : TyName) → h n ≡ with_number (h n).number n

either_keeps : (c : Bool) (i : ℕ) (n m : TyName) → m ≡ with_number m.number n
    → cond c (with_number i n) m ≡ with_number (cond c (with_number i n) m).number n
either_keeps true i n m e = refl
either_keeps false i n m e = e

keeps_numbered : (p : TyName → Bool) (names : List TyName) (first : ℕ) (others : TyName → TyName) → Keeps others
    → Keeps (numbered p names first others)
keeps_numbered p names first others k n =
    either_keeps (p n) (first + place_in n (met p names)) n (others n) (k n)

keeps_itself : Keeps (λ n. n)
keeps_itself n = refl

number_of : (first : ℕ) (p : TyName → Bool) (names : List TyName) (others : TyName → TyName) (n : TyName)
    → p n ≡ true → (numbered p names first others n).number ≡ first + place_in n (met p names)
number_of first p names others n e = ap (λ (m : TyName). m.number) (asked_for p names first others n e)

-- names that are asked for get numbers apart
numbers_apart : (p : TyName → Bool) (names : List TyName) (first : ℕ) (others : TyName → TyName)
    → ApartBy (Asked p names) (numbered p names first others)
numbers_apart p names first others m n i j e =
    let a : (numbered p names first others m).number ≡ first + place_in m (met p names) =
    number_of first p names others m i.1 in
    let b : (numbered p names first others n).number ≡ first + place_in n (met p names) =
    number_of first p names others n j.1 in
    let c : (numbered p names first others m).number ≡ (numbered p names first others n).number =
    ap (λ (x : TyName). x.number) e in
    let d : place_in m (met p names) ≡ place_in n (met p names) = omega (arith, a, b, c) in
    place_apart m n (met p names) (listed_met p m names i.0 i.1) (listed_met p n names j.0 j.1) d

-- ---- signatures

keeps_own : (home : List ℕ) (top : Top) → Keeps (own_name home top)
keeps_own home top = keeps_numbered (is_own home) (names_in_top top) 0 (λ n. n) keeps_itself

keeps_signature : (home : List ℕ) (top : Top) (sig : Signature) → Keeps (signature_name (own_name home top) sig)
keeps_signature home top sig = keeps_numbered is_bound_name (names_in_env sig.env) 0 (own_name home top)
    (keeps_own home top)

-- a name that isn't bound, after what it was before became of it
settled : (home : List ℕ) (top : Top) (own next h : TyName → TyName) (n : TyName)
    → Settles home own next (own_name home top) n → h n ≡ own_name home top n → next (h n) ≡ own n
settled home top own next h n s e = ap next e ∙ either_way (is_own home n) s.of_own
    (λ o. ap next (other_stays home top n o) ∙ (s.of_other o).0 ∙ sym (s.of_other o).1)

signature_moves : (home : List ℕ) (top : Top) (own next : TyName → TyName) (sig : Signature)
    → Named (λ n. Settles home own next (own_name home top) n) (names_in_env sig.env)
    → Moves own next (signature_name (own_name home top) sig) (names_in_env sig.env)
signature_moves home top own next sig s = record {
  keeps = λ n l. keeps_signature home top sig n;
  others = λ n l b. settled home top own next (signature_name (own_name home top) sig) n (s n l)
      (not_asked is_bound_name (names_in_env sig.env) 0 (own_name home top) n b);
  apart = numbers_apart is_bound_name (names_in_env sig.env) 0 (own_name home top);
}

-- ---- functors

abbrev further_name : (TyName → TyName) → Functor → TyName → TyName
further_name own fun = numbered (is_further fun) (names_in_functor fun)
    (length (met (is_of_param fun) (names_in_functor fun))) own

keeps_further : (home : List ℕ) (top : Top) (fun : Functor) → Keeps (further_name (own_name home top) fun)
keeps_further home top fun = keeps_numbered (is_further fun) (names_in_functor fun)
    (length (met (is_of_param fun) (names_in_functor fun))) (own_name home top) (keeps_own home top)

keeps_functor : (home : List ℕ) (top : Top) (fun : Functor) → Keeps (functor_name (own_name home top) fun)
keeps_functor home top fun = keeps_numbered (is_of_param fun) (names_in_functor fun) 0
    (further_name (own_name home top) fun) (keeps_further home top fun)

not_bound_not_of : (fun : Functor) (n : TyName) → is_bound_name n ≡ false → is_of_param fun n ≡ false
not_bound_not_of fun n e = ap (λ c. c && is_listed n fun.bound) e

not_bound_not_further : (fun : Functor) (n : TyName) → is_bound_name n ≡ false → is_further fun n ≡ false
not_bound_not_further fun n e = ap (λ c. c && not (is_listed n fun.bound)) e

further_if_not : (b p : Bool) → b ≡ true → (b && p) ≡ false → (b && not p) ≡ true
further_if_not true true e h = absurd (cc)
further_if_not true false e h = refl
further_if_not false p e h = absurd (cc)

is_then_further : (fun : Functor) (n : TyName) → is_bound_name n ≡ true → is_of_param fun n ≡ false
    → is_further fun n ≡ true
is_then_further fun n b e = further_if_not (is_bound_name n) (is_listed n fun.bound) b e

not_bound_as_own : (own : TyName → TyName) (fun : Functor) (n : TyName) → is_bound_name n ≡ false
    → functor_name own fun n ≡ own n
not_bound_as_own own fun n b =
    not_asked (is_of_param fun) (names_in_functor fun) 0 (further_name own fun) n (not_bound_not_of fun n b)
    ∙ not_asked (is_further fun) (names_in_functor fun) (length (met (is_of_param fun) (names_in_functor fun))) own n
    (not_bound_not_further fun n b)

as_further : (own : TyName → TyName) (fun : Functor) (n : TyName) → is_of_param fun n ≡ false
    → functor_name own fun n ≡ further_name own fun n
as_further own fun n e = not_asked (is_of_param fun) (names_in_functor fun) 0 (further_name own fun) n e

-- a parameter's name has a number below those of the further ones
below_further : (own : TyName → TyName) (fun : Functor) (m n : TyName)
    → is_listed m (names_in_functor fun) ≡ true → is_of_param fun m ≡ true
    → is_bound_name n ≡ true → is_of_param fun n ≡ false
    → functor_name own fun m ≡ functor_name own fun n → ⊥
below_further own fun m n l p b q e =
    let xs : List TyName = names_in_functor fun in
    let few : ℕ = length (met (is_of_param fun) xs) in
    let a : (functor_name own fun m).number ≡ 0 + place_in m (met (is_of_param fun) xs) =
    number_of 0 (is_of_param fun) xs (further_name own fun) m p in
    let c : place_in m (met (is_of_param fun) xs) < few =
    place_below m (met (is_of_param fun) xs) (listed_met (is_of_param fun) m xs l p) in
    let d : (functor_name own fun n).number ≡ few + place_in n (met (is_further fun) xs) =
    ap (λ (x : TyName). x.number) (as_further own fun n q)
    ∙ number_of few (is_further fun) xs own n (is_then_further fun n b q) in
    let f : (functor_name own fun m).number ≡ (functor_name own fun n).number = ap (λ (x : TyName). x.number) e in
    omega (arith, a, c, d, f)

functor_apart : (own : TyName → TyName) (fun : Functor)
    → ApartBy (Asked is_bound_name (names_in_functor fun)) (functor_name own fun)
functor_apart own fun m n i j e = either_way (is_of_param fun m)
    (λ p. either_way (is_of_param fun n)
    (λ q. numbers_apart (is_of_param fun) (names_in_functor fun) 0 (further_name own fun) m n (i.0, p) (j.0, q) e)
    (λ q. absurd (below_further own fun m n i.0 p j.1 q e)))
    (λ p. either_way (is_of_param fun n)
    (λ q. absurd (below_further own fun n m j.0 q i.1 p (sym e)))
    (λ q. numbers_apart (is_further fun) (names_in_functor fun) (length (met (is_of_param fun) (names_in_functor
    fun))) own
    m n (i.0, is_then_further fun m i.1 p) (j.0, is_then_further fun n j.1 q)
    (sym (as_further own fun m p) ∙ e ∙ as_further own fun n q)))

-- the parameter's names are those that are listed as its names, before and after
stays_listed : (own : TyName → TyName) (fun : Functor) (n : TyName) → is_listed n (names_in_functor fun) ≡ true
    → is_bound_name n ≡ true
    → is_listed (functor_name own fun n) (canonical_functor own fun).bound ≡ is_listed n fun.bound
stays_listed own fun n l b =
    let xs : List TyName = names_in_functor fun in
    yes_or_no (is_listed (functor_name own fun n) (canonical_functor own fun).bound) (is_listed n fun.bound)
    (λ e. (let m : (m : TyName) × (is_listed m (met (is_of_param fun) xs) ≡ true)
    × (functor_name own fun n ≡ functor_name own fun m) =
    listed_before (functor_name own fun) (functor_name own fun n) (met (is_of_param fun) xs) e in
    let of : is_of_param fun m.0 ≡ true = met_passes (is_of_param fun) m.0 xs m.1 in
    let same : n ≡ m.0 = functor_apart own fun n m.0 (l, b)
    (met_listed (is_of_param fun) m.0 xs m.1, and_left (is_bound_name m.0) (is_listed m.0 fun.bound) of) m.2 in
    subst (λ z. is_listed z fun.bound ≡ true) (sym same) (and_right (is_bound_name m.0) (is_listed m.0 fun.bound) of)))
    (λ e. listed_renamed (functor_name own fun) n (met (is_of_param fun) xs)
    (listed_met (is_of_param fun) n xs l (and_both (is_bound_name n) (is_listed n fun.bound) b e)))

functor_moves : (home : List ℕ) (top : Top) (own next : TyName → TyName) (fun : Functor)
    → Named (λ n. Settles home own next (own_name home top) n) (names_in_functor fun)
    → Moves own next (functor_name (own_name home top) fun) (names_in_functor fun)
functor_moves home top own next fun s = record {
  keeps = λ n l. keeps_functor home top fun n;
  others = λ n l b. settled home top own next (functor_name (own_name home top) fun) n (s n l)
      (not_bound_as_own (own_name home top) fun n b);
  apart = functor_apart (own_name home top) fun;
}

-- ---- tops

own_like : (home : List ℕ) (top : Top) → IsLike home (own_name home top) (own_name home top)
own_like home top = record { keeps = keeps_own home top; own = λ n e. refl }

signature_like : (home : List ℕ) (top : Top) (sig : Signature)
    → IsLike home (own_name home top) (signature_name (own_name home top) sig)
signature_like home top sig = record {
  keeps = keeps_signature home top sig;
  own = λ n e. not_asked is_bound_name (names_in_env sig.env) 0 (own_name home top) n (own_is_not_bound home n e);
}

functor_like : (home : List ℕ) (top : Top) (fun : Functor)
    → IsLike home (own_name home top) (functor_name (own_name home top) fun)
functor_like home top fun = record {
  keeps = keeps_functor home top fun;
  own = λ n e. not_bound_as_own (own_name home top) fun n (own_is_not_bound home n e);
}

renames_top : (home : List ℕ) (top : Top) → RenamesTop home top (own_name home top)
    (canonical_env (own_name home top)) (canonical_signature (own_name home top))
    (canonical_functor (own_name home top))
renames_top home top =
    let f : TyName → TyName = own_name home top in
    record {
      keeps = keeps_own home top;
      apart = numbers_apart (is_own home) (names_in_top top) 0 (λ n. n);
      env_names = λ env. own_follows home f f env (canonical_env f env) (own_like home top) (canonical_follows f env);
      signature_names = λ sig. own_follows home f (signature_name f sig) sig.env (canonical_signature f sig).env
          (signature_like home top sig) (canonical_follows (signature_name f sig) sig.env);
      functor_names = λ fun. own_both home f (names_in_env fun.param) (names_in_env fun.result)
          (names_in_env (canonical_functor f fun).param) (names_in_env (canonical_functor f fun).result)
          (own_follows home f (functor_name f fun) fun.param (canonical_functor f fun).param
          (functor_like home top fun) (canonical_follows (functor_name f fun) fun.param))
          (own_follows home f (functor_name f fun) fun.result (canonical_functor f fun).result
          (functor_like home top fun) (canonical_follows (functor_name f fun) fun.result));
      env_form = λ own next env s. (canonical_follows f env).form next
          ∙ form_agrees (λ n. next (f n)) own env (λ n l. settled home top own next f n (s n l) refl);
      signature_form = λ own next sig s. signature_alike own next (signature_name f sig) sig
          (canonical_signature f sig) (canonical_follows (signature_name f sig) sig.env)
          (signature_moves home top own next sig s);
      functor_form = λ own next fun s. functor_alike own next (functor_name f fun) fun (canonical_functor f fun)
          (canonical_follows (functor_name f fun) fun.param) (canonical_follows (functor_name f fun) fun.result)
          (functor_moves home top own next fun s) (λ n l b. stays_listed f fun n l b);
    }

pub canonical_again : CanonicalIsCanonical
canonical_again = record {
  again = λ home top. top_alike home top (own_name home top) (canonical_env (own_name home top))
      (canonical_signature (own_name home top)) (canonical_functor (own_name home top)) (renames_top home top);
}
