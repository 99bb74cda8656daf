-- Signatures and functors of the canonical form.
use Rattle.std.proofs.Common.{◌≡◌, ℕ, ◌+◌, ◌<◌, ◌^◌, refl, sym, ap, ap₂, ◌∙◌, subst, arith, Bool, true, false, ◌&&◌, not, List, ◌++◌, map, filter, length}
use Rattle.std.proofs.lemmas.List.{length-map, map-append}
use Rattle.std.proofs.lemmas.List.Elements.{filter-append}
use Rattle.semantic_objects.specs.declared.name.TyName.{TyName}
use Rattle.semantic_objects.specs.Environments.{Signature, Functor}
use Rattle.unification.proofs.Walking.{either_way, and_left, and_right, and_both}
use Rattle.realisation.specs.Names.{names_in_env, names_in_functor, is_listed, once, place_in}
use Rattle.realisation.specs.Canonical.{canonical_env, met, numbered, is_bound_name, is_of_param, is_further, signature_name, canonical_signature, functor_name, canonical_functor}
use Rattle.realisation.proofs.Listing.{Named, listed_left, listed_right, named_left, named_right}
use Rattle.interface_format.specs.Rules.{IsNumber, IsTypeName, AreNumbered, Agree, is_beyond, IsSignature, IsFunctor}
use Rattle.canonical_laws.proofs.Names.{ApartBy, Asked, yes_or_no, filter_listed, filter_passes, met_listed, met_passes, listed_met, listed_before, listed_renamed}
use Rattle.canonical_laws.proofs.Envs.{canonical_follows}
use Rattle.canonical_interfaces.specs.Fair.{IsFairSignature, IsFairFunctor}
use Rattle.canonical_interfaces.proofs.Types.{Keeps}
use Rattle.canonical_interfaces.proofs.Envs.{env_written}
use Rattle.canonical_interfaces.proofs.Numbers.{not_asked, keeps_numbered, NumbersBy, numbers_by, same_number, apart_by, numbered_by, number_below, IsReady, fits_by, met_of_renamed, met_agrees, filter_none, once_known}

-- ---- names that are renamed

pub same_bound : (h : TyName → TyName) → Keeps h → (n : TyName) → is_bound_name (h n) ≡ is_bound_name n
same_bound h k n = ap is_bound_name (k n)

counted_map : (h : TyName → TyName) (xs : List TyName) → IsNumber (length xs) → IsNumber (length (map h xs))
counted_map h xs c = subst IsNumber (sym (length-map xs h)) c

-- all bound names agree, where names with one number are one
bound_agree : (h : TyName → TyName) (xs ys : List TyName) → Keeps h → ys ≡ map h xs
    → ((m n : TyName) → Asked is_bound_name xs m → Asked is_bound_name xs n → (h m).number ≡ (h n).number → m ≡ n)
    → Agree (filter is_bound_name ys)
bound_agree h xs ys k e same = record {
  agree = λ m n i j o s. (let a : (z : TyName) × (is_listed z xs ≡ true) × (m ≡ h z) =
      listed_before h m xs (subst (λ z. is_listed m z ≡ true) e (filter_listed is_bound_name m ys i)) in
      let b : (z : TyName) × (is_listed z xs ≡ true) × (n ≡ h z) =
      listed_before h n xs (subst (λ z. is_listed n z ≡ true) e (filter_listed is_bound_name n ys j)) in
      let x : TyName = a.0 in
      let y : TyName = b.0 in
      let mx : m ≡ h x = a.2 in
      let ny : n ≡ h y = b.2 in
      let bx : is_bound_name x ≡ true =
      sym (same_bound h k x) ∙ ap is_bound_name (sym mx) ∙ filter_passes is_bound_name m ys i in
      let by : is_bound_name y ≡ true =
      sym (same_bound h k y) ∙ ap is_bound_name (sym ny) ∙ filter_passes is_bound_name n ys j in
      let numbers : (h x).number ≡ (h y).number =
      ap (λ (z : TyName). z.number) (sym mx) ∙ s ∙ ap (λ (z : TyName). z.number) ny in
      mx ∙ ap h (same x y (a.1, bx) (b.1, by) numbers) ∙ sym ny);
}

-- ---- signatures

pub keeps_signature : (own : TyName → TyName) → Keeps own → (sig : Signature) → Keeps (signature_name own sig)
keeps_signature own k sig = keeps_numbered is_bound_name (names_in_env sig.env) 0 own k

signature_fits : (own : TyName → TyName) (sig : Signature)
    → IsNumber (length (met is_bound_name (names_in_env sig.env))) → Named (IsReady own) (names_in_env sig.env)
    → Named (λ n. IsTypeName (signature_name own sig n)) (names_in_env sig.env)
signature_fits own sig c r n e =
    let xs : List TyName = names_in_env sig.env in
    let ready : IsReady own n = r n e in
    let all : length (met is_bound_name xs) < 2 ^ 32 = c.below in
    let some : 0 + length (met is_bound_name xs) < 2 ^ 32 = omega (arith, all) in
    either_way (is_bound_name n)
    (λ b. fits_by is_bound_name xs 0 (signature_name own sig) (numbers_by is_bound_name xs 0 own) n (e, b)
    ready.owner ready.arity (record { below = some }))
    (λ b. subst IsTypeName (sym (not_asked is_bound_name xs 0 own n b)) (ready.settled b))

pub signature_written : (own : TyName → TyName) → Keeps own → (sig : Signature) → IsFairSignature sig
    → Named (IsReady own) (names_in_env sig.env) → IsSignature (canonical_signature own sig)
signature_written own k sig f r =
    let xs : List TyName = names_in_env sig.env in
    let h : TyName → TyName = signature_name own sig in
    let keeps : Keeps h = keeps_signature own k sig in
    let by : NumbersBy is_bound_name xs 0 h = numbers_by is_bound_name xs 0 own in
    let names : names_in_env (canonical_env h sig.env) ≡ map h xs = (canonical_follows h sig.env).names in
    record {
      env = env_written h keeps sig.env f.env (signature_fits own sig f.counted r);
      bound = sym (met_of_renamed is_bound_name is_bound_name h xs (names_in_env (canonical_env h sig.env)) names
          (λ n l. same_bound h keeps n) (apart_by is_bound_name xs 0 h by));
      numbered = numbered_by is_bound_name xs 0 h by;
      agree = bound_agree h xs (names_in_env (canonical_env h sig.env)) keeps names
          (same_number is_bound_name xs 0 h by);
      counted = counted_map h (met is_bound_name xs) f.counted;
    }

-- ---- functors

abbrev firsts : Functor → List TyName
firsts fun = met (is_of_param fun) (names_in_functor fun)

abbrev furthers : Functor → List TyName
furthers fun = met (is_further fun) (names_in_functor fun)

abbrev further_name : (TyName → TyName) → Functor → TyName → TyName
further_name own fun = numbered (is_further fun) (names_in_functor fun) (length (firsts fun)) own

pub keeps_functor : (own : TyName → TyName) → Keeps own → (fun : Functor) → Keeps (functor_name own fun)
keeps_functor own k fun = keeps_numbered (is_of_param fun) (names_in_functor fun) 0 (further_name own fun)
    (keeps_numbered (is_further fun) (names_in_functor fun) (length (firsts fun)) own k)

firsts_by : (own : TyName → TyName) (fun : Functor)
    → NumbersBy (is_of_param fun) (names_in_functor fun) 0 (functor_name own fun)
firsts_by own fun = numbers_by (is_of_param fun) (names_in_functor fun) 0 (further_name own fun)

not_of_if_further : (b l : Bool) → (b && not l) ≡ true → (b && l) ≡ false
not_of_if_further true true h = absurd (cc)
not_of_if_further true false h = refl
not_of_if_further false l h = refl

further_if_not_of : (b l : Bool) → b ≡ true → (b && l) ≡ false → (b && not l) ≡ true
further_if_not_of true true e h = absurd (cc)
further_if_not_of true false e h = refl
further_if_not_of false l e h = absurd (cc)

as_further : (own : TyName → TyName) (fun : Functor) (n : TyName) → is_of_param fun n ≡ false
    → functor_name own fun n ≡ further_name own fun n
as_further own fun n e = not_asked (is_of_param fun) (names_in_functor fun) 0 (further_name own fun) n e

furthers_by : (own : TyName → TyName) (fun : Functor)
    → NumbersBy (is_further fun) (names_in_functor fun) (length (firsts fun)) (functor_name own fun)
furthers_by own fun = record {
  numbers = λ n e. as_further own fun n (not_of_if_further (is_bound_name n) (is_listed n fun.bound) e)
      ∙ (numbers_by (is_further fun) (names_in_functor fun) (length (firsts fun)) own).numbers n e;
}

no_first : (b l : Bool) → b ≡ false → (b && l) ≡ false
no_first true l h = absurd (cc)
no_first false l h = refl

pub not_bound_as_own : (own : TyName → TyName) (fun : Functor) (n : TyName) → is_bound_name n ≡ false
    → functor_name own fun n ≡ own n
not_bound_as_own own fun n b =
    as_further own fun n (no_first (is_bound_name n) (is_listed n fun.bound) b)
    ∙ not_asked (is_further fun) (names_in_functor fun) (length (firsts fun)) own n
    (no_first (is_bound_name n) (not (is_listed n fun.bound)) b)

-- a first name has a number below those of the further ones
below_further : (own : TyName → TyName) (fun : Functor) (m n : TyName)
    → Asked (is_of_param fun) (names_in_functor fun) m → is_further fun n ≡ true
    → (functor_name own fun m).number ≡ (functor_name own fun n).number → ⊥
below_further own fun m n i p e =
    let few : ℕ = length (firsts fun) in
    let a : (functor_name own fun m).number < 0 + length (firsts fun) =
    number_below (is_of_param fun) (names_in_functor fun) 0 (functor_name own fun) (firsts_by own fun) m i in
    let d : (functor_name own fun n).number ≡ length (firsts fun) + place_in n (furthers fun) =
    ap (λ (x : TyName). x.number) ((furthers_by own fun).numbers n p) in
    omega (arith, a, d, e)

same_in_functor : (own : TyName → TyName) (fun : Functor) (m n : TyName)
    → Asked is_bound_name (names_in_functor fun) m → Asked is_bound_name (names_in_functor fun) n
    → (functor_name own fun m).number ≡ (functor_name own fun n).number → m ≡ n
same_in_functor own fun m n i j e =
    let xs : List TyName = names_in_functor fun in
    let h : TyName → TyName = functor_name own fun in
    let further : (x : TyName) → is_bound_name x ≡ true → is_of_param fun x ≡ false → is_further fun x ≡ true =
    λ x b q. further_if_not_of (is_bound_name x) (is_listed x fun.bound) b q in
    either_way (is_of_param fun m)
    (λ p. either_way (is_of_param fun n)
    (λ q. same_number (is_of_param fun) xs 0 h (firsts_by own fun) m n (i.0, p) (j.0, q) e)
    (λ q. absurd (below_further own fun m n (i.0, p) (further n j.1 q) e)))
    (λ p. either_way (is_of_param fun n)
    (λ q. absurd (below_further own fun n m (j.0, q) (further m i.1 p) (sym e)))
    (λ q. same_number (is_further fun) xs (length (firsts fun)) h (furthers_by own fun) m n (i.0, further m i.1 p)
    (j.0, further n j.1 q) e))

functor_apart : (own : TyName → TyName) (fun : Functor)
    → ApartBy (Asked is_bound_name (names_in_functor fun)) (functor_name own fun)
functor_apart own fun m n i j e = same_in_functor own fun m n i j (ap (λ (x : TyName). x.number) e)

functor_fits : (own : TyName → TyName) (fun : Functor) → IsFairFunctor fun
    → Named (IsReady own) (names_in_functor fun)
    → Named (λ n. IsTypeName (functor_name own fun n)) (names_in_functor fun)
functor_fits own fun f r n e =
    let xs : List TyName = names_in_functor fun in
    let ready : IsReady own n = r n e in
    let all : length (firsts fun) + length (furthers fun) < 2 ^ 32 = f.counted.below in
    let some : 0 + length (firsts fun) < 2 ^ 32 = omega (arith, all) in
    either_way (is_bound_name n)
    (λ b. either_way (is_of_param fun n)
    (λ p. fits_by (is_of_param fun) xs 0 (functor_name own fun) (firsts_by own fun) n (e, p)
    ready.owner ready.arity (record { below = some }))
    (λ p. fits_by (is_further fun) xs (length (firsts fun)) (functor_name own fun) (furthers_by own fun) n
    (e, further_if_not_of (is_bound_name n) (is_listed n fun.bound) b p) ready.owner ready.arity f.counted))
    (λ b. subst IsTypeName (sym (not_bound_as_own own fun n b)) (ready.settled b))

-- ---- which names a functor binds

and_agrees : (b l : Bool) → (b ≡ true → l ≡ true) → (b && l) ≡ b
and_agrees true l h = h refl
and_agrees false l h = refl

and_not : (b l : Bool) → (b ≡ true → l ≡ true) → (b && not l) ≡ false
and_not true true h = refl
and_not true false h = absurd (let k : false ≡ true = h refl in cc)
and_not false l h = refl

-- the first names are the bound names of the parameter
firsts_are : (fun : Functor) → IsFairFunctor fun → firsts fun ≡ met is_bound_name (names_in_env fun.param)
firsts_are fun f =
    let ps : List TyName = names_in_env fun.param in
    let rs : List TyName = names_in_env fun.result in
    ap once (filter-append (is_of_param fun) ps rs)
    ∙ once_known (filter (is_of_param fun) ps) (filter (is_of_param fun) rs)
    (λ n e. Rattle.canonical_laws.proofs.Names.filter_keeps (is_of_param fun) n ps
    (f.first n (filter_listed (is_of_param fun) n rs e) (filter_passes (is_of_param fun) n rs e))
    (filter_passes (is_of_param fun) n rs e))
    ∙ met_agrees (is_of_param fun) is_bound_name ps
    (λ n e. and_agrees (is_bound_name n) (is_listed n fun.bound) (f.binds n e))

-- the further names are those that stand in the result
furthers_are : (fun : Functor) → IsFairFunctor fun → furthers fun ≡ met (is_further fun) (names_in_env fun.result)
furthers_are fun f =
    let ps : List TyName = names_in_env fun.param in
    let rs : List TyName = names_in_env fun.result in
    ap once (filter-append (is_further fun) ps rs
    ∙ ap (λ z. z ++ filter (is_further fun) rs) (filter_none (is_further fun) ps
    (λ n e. and_not (is_bound_name n) (is_listed n fun.bound) (f.binds n e))))

-- a bound name is listed after it is renamed where it was before
stays_listed : (own : TyName → TyName) (fun : Functor) (n : TyName) → Asked is_bound_name (names_in_functor fun) n
    → is_listed (functor_name own fun n) (map (functor_name own fun) (firsts fun)) ≡ is_listed n fun.bound
stays_listed own fun n i =
    let xs : List TyName = names_in_functor fun in
    let h : TyName → TyName = functor_name own fun in
    yes_or_no (is_listed (h n) (map h (firsts fun))) (is_listed n fun.bound)
    (λ e. (let m : (m : TyName) × (is_listed m (firsts fun) ≡ true) × (h n ≡ h m) =
    listed_before h (h n) (firsts fun) e in
    let of : is_of_param fun m.0 ≡ true = met_passes (is_of_param fun) m.0 xs m.1 in
    let same : n ≡ m.0 = functor_apart own fun n m.0 i
    (met_listed (is_of_param fun) m.0 xs m.1, and_left (is_bound_name m.0) (is_listed m.0 fun.bound) of) m.2 in
    subst (λ z. is_listed z fun.bound ≡ true) (sym same) (and_right (is_bound_name m.0) (is_listed m.0 fun.bound) of)))
    (λ e. listed_renamed h n (firsts fun)
    (listed_met (is_of_param fun) n xs i.0 (and_both (is_bound_name n) (is_listed n fun.bound) i.1 e)))

beyond_alike : (a b l m : Bool) → a ≡ b → (b ≡ true → l ≡ m) → (a && not l) ≡ (b && not m)
beyond_alike a true l m e f = ap₂ (λ x y. x && not y) e (f refl)
beyond_alike a false l m e f = ap (λ x. x && not l) e

pub functor_written : (own : TyName → TyName) → Keeps own → (fun : Functor) → IsFairFunctor fun
    → Named (IsReady own) (names_in_functor fun) → IsFunctor (canonical_functor own fun)
functor_written own k fun f r =
    let ps : List TyName = names_in_env fun.param in
    let rs : List TyName = names_in_env fun.result in
    let xs : List TyName = names_in_functor fun in
    let h : TyName → TyName = functor_name own fun in
    let keeps : Keeps h = keeps_functor own k fun in
    let fits : Named (λ n. IsTypeName (h n)) (ps ++ rs) = functor_fits own fun f r in
    let params : names_in_env (canonical_env h fun.param) ≡ map h ps = (canonical_follows h fun.param).names in
    let results : names_in_env (canonical_env h fun.result) ≡ map h rs = (canonical_follows h fun.result).names in
    let all : length (firsts fun) + length (furthers fun) < 2 ^ 32 = f.counted.below in
    let some : length (firsts fun) < 2 ^ 32 = omega (arith, all) in
    let more : length (furthers fun) < 2 ^ 32 = omega (arith, all) in
    record {
      param = env_written h keeps fun.param f.param (named_left (λ n. IsTypeName (h n)) ps rs fits);
      result = env_written h keeps fun.result f.result (named_right (λ n. IsTypeName (h n)) ps rs fits);
      bound = ap (map h) (firsts_are fun f)
          ∙ sym (met_of_renamed is_bound_name is_bound_name h ps (names_in_env (canonical_env h fun.param)) params
          (λ n l. same_bound h keeps n)
          (λ m n i j e. functor_apart own fun m n (listed_left m ps rs i.0, i.1) (listed_left n ps rs j.0, j.1) e));
      further = ap (map h) (furthers_are fun f)
          ∙ sym (met_of_renamed (is_further fun) (is_beyond (map h (firsts fun))) h rs
          (names_in_env (canonical_env h fun.result)) results
          (λ n l. beyond_alike (is_bound_name (h n)) (is_bound_name n) (is_listed (h n) (map h (firsts fun)))
          (is_listed n fun.bound) (same_bound h keeps n)
          (λ b. stays_listed own fun n (listed_right n ps rs l, b)))
          (λ m n i j e. functor_apart own fun m n
          (listed_right m ps rs i.0, and_left (is_bound_name m) (not (is_listed m fun.bound)) i.1)
          (listed_right n ps rs j.0, and_left (is_bound_name n) (not (is_listed n fun.bound)) j.1) e));
      bound_numbered = numbered_by (is_of_param fun) xs 0 h (firsts_by own fun);
      further_numbered = subst (λ n. AreNumbered n (map h (furthers fun))) (sym (length-map (firsts fun) h))
          (numbered_by (is_further fun) xs (length (firsts fun)) h (furthers_by own fun));
      agree = bound_agree h xs (names_in_functor (canonical_functor own fun)) keeps
          (ap₂ (λ a b. a ++ b) params results ∙ sym (map-append h ps rs)) (same_in_functor own fun);
      bound_counted = counted_map h (firsts fun) (record { below = some });
      further_counted = counted_map h (furthers fun) (record { below = more });
    }
