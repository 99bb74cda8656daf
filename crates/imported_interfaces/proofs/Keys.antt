-- What is known of a name, by its key.
use Rattle.std.proofs.Common.{◌≡◌, ℕ, zero, suc, ◌<◌, refl, sym, ap, ap₂, subst, ◌∙◌, List, [], ◌∷◌, ◌++◌, length, map, get_or, Bool, true, false, ◌&&◌, ◌||◌, not, arith, Option, Some, None}
use Rattle.std.specs.Prelude.{eqb, cond}
use Rattle.std.proofs.lemmas.Bool.{and_parts, and_from}
use Rattle.unification.proofs.Walking.{either_way, or_left, or_right, or_either}
use Rattle.semantic_objects.specs.declared.name.TyName.{TyName}
use Rattle.semantic_objects.specs.Symbols.{same_owner, same_name, same_bool}
use Rattle.realisation.specs.Names.{is_listed, place_in}
use Rattle.realisation.proofs.Listing.{name_is, name_same}
use Rattle.type_walks.specs.Tables.{place_among}
use Rattle.interface_tops.proofs.Conditions.{owner_is, owner_itself, same_facts}
use Rattle.interface_tops.proofs.Deciding.{Tells, equal}
use Rattle.imported_interfaces.specs.declared.known.Standing.{Standing}
use Rattle.imported_interfaces.specs.declared.known.Standing.TheVariants as stands
use Rattle.imported_interfaces.specs.Known.{key_of, standing_by, standing}

-- ---- keys

-- two names have one key where they have one owner and one number
pub record OfOne (m n : TyName) : Type 0 where
  pub owner : m.owner ≡ n.owner
  pub number : m.number ≡ n.number

pub keys_one : (m n : TyName) → same_name (key_of n) (key_of m) ≡ true → OfOne m n
keys_one m n e =
    let same : key_of n ≡ key_of m = name_is (key_of n) (key_of m) e in
    record {
      owner = sym (ap (λ (k : TyName). k.owner) same);
      number = sym (ap (λ (k : TyName). k.number) same);
    }

key_same : (m n : TyName) → OfOne m n → key_of n ≡ key_of m
key_same m n h = let o = h.owner in let i = h.number in cc

pub one_key : (m n : TyName) → OfOne m n → same_name (key_of n) (key_of m) ≡ true
one_key m n h = ap (same_name (key_of n)) (sym (key_same m n h)) ∙ name_same (key_of n)

-- ---- what is known

pub record IsOther (name : TyName) (names : List TyName) : Type 0 where
  pub known : TyName
  pub listed : is_listed known names ≡ true
  pub of_one : OfOne known name
  pub apart : same_name known name ≡ false

later_listed : (n m : TyName) (ms : List TyName) → is_listed n ms ≡ true → is_listed n (m ∷ ms) ≡ true
later_listed n m ms h = or_right (same_name n m) (is_listed n ms) h

first_listed : (n : TyName) (ms : List TyName) → is_listed n (n ∷ ms) ≡ true
first_listed n ms = or_left (same_name n n) (is_listed n ms) (name_same n)

new_apart : (b : Bool) → standing_by b ≡ stands.New → ⊥
new_apart true e = cc
new_apart false e = cc

-- no known name has the key of a new one
pub when_new : (name : TyName) (names : List TyName) → standing name names ≡ stands.New → (m : TyName)
    → is_listed m names ≡ true → OfOne m name → ⊥
when_new name [] e m l h = absurd (cc)
when_new name (k ∷ ks) e m l h =
    either_way (same_name (key_of name) (key_of k))
    (λ c. new_apart (same_name k name)
    (sym (ap (λ b. cond b (standing_by (same_name k name)) (standing name ks)) c) ∙ e))
    (λ c. (let rest : standing name ks ≡ stands.New =
    sym (ap (λ b. cond b (standing_by (same_name k name)) (standing name ks)) c) ∙ e in
    or_either (same_name m k) (is_listed m ks) l
    (λ s. (let t : true ≡ false = sym (one_key k name (subst (λ z. OfOne z name) (name_is m k s) h)) ∙ c in cc))
    (λ r. when_new name ks rest m r h)))

by_same : (k name : TyName) (b : Bool) → same_name k name ≡ b → standing_by b ≡ stands.Same → k ≡ name
by_same k name true e h = name_is k name e
by_same k name false e h = absurd (cc)

pub when_same : (name : TyName) (names : List TyName) → standing name names ≡ stands.Same
    → is_listed name names ≡ true
when_same name [] e = absurd (cc)
when_same name (k ∷ ks) e =
    either_way (same_name (key_of name) (key_of k))
    (λ c. (let is : k ≡ name = by_same k name (same_name k name) refl
    (sym (ap (λ b. cond b (standing_by (same_name k name)) (standing name ks)) c) ∙ e) in
    subst (λ z. is_listed name (z ∷ ks) ≡ true) (sym is) (first_listed name ks)))
    (λ c. later_listed name k ks (when_same name ks
    (sym (ap (λ b. cond b (standing_by (same_name k name)) (standing name ks)) c) ∙ e)))

by_other : (k name : TyName) (b : Bool) → same_name k name ≡ b → standing_by b ≡ stands.Other
    → same_name k name ≡ false
by_other k name true e h = absurd (cc)
by_other k name false e h = e

pub when_other : (name : TyName) (names : List TyName) → standing name names ≡ stands.Other → IsOther name names
when_other name [] e = absurd (cc)
when_other name (k ∷ ks) e =
    either_way (same_name (key_of name) (key_of k))
    (λ c. record {
      known = k;
      listed = first_listed k ks;
      of_one = keys_one k name c;
      apart = by_other k name (same_name k name) refl
          (sym (ap (λ b. cond b (standing_by (same_name k name)) (standing name ks)) c) ∙ e);
    })
    (λ c. (let rest = when_other name ks
    (sym (ap (λ b. cond b (standing_by (same_name k name)) (standing name ks)) c) ∙ e) in
    record {
      known = rest.known;
      listed = later_listed rest.known k ks rest.listed;
      of_one = rest.of_one;
      apart = rest.apart;
    }))

-- ---- by the places of keys

pub none_is_new : (name : TyName) (names : List TyName)
    → place_among (key_of name) (map key_of names) ≡ None → standing name names ≡ stands.New
none_is_new name [] e = refl
none_is_new name (k ∷ ks) e =
    either_way (is_listed (key_of name) (map key_of (k ∷ ks)))
    (λ l. absurd (let t : Some (place_in (key_of name) (map key_of (k ∷ ks))) ≡ None =
    sym (ap (λ b. cond b (Some (place_in (key_of name) (map key_of (k ∷ ks)))) None) l) ∙ e in cc))
    (λ l. not_listed name (k ∷ ks) l)
  where
    not_listed : (n : TyName) (ms : List TyName) → is_listed (key_of n) (map key_of ms) ≡ false
        → standing n ms ≡ stands.New
    not_listed n [] l = refl
    not_listed n (m ∷ ms) l =
        either_way (same_name (key_of n) (key_of m))
        (λ c. absurd (let t : true ≡ false =
        sym (or_left (same_name (key_of n) (key_of m)) (is_listed (key_of n) (map key_of ms)) c) ∙ l in cc))
        (λ c. ap (λ b. cond b (standing_by (same_name m n)) (standing n ms)) c
        ∙ not_listed n ms (sym (ap (λ b. b || is_listed (key_of n) (map key_of ms)) c) ∙ l))

-- the name that stands at the place of the key
pub at_place : (name d : TyName) (names : List TyName) (place : ℕ)
    → place_among (key_of name) (map key_of names) ≡ Some place
    → standing name names ≡ standing_by (same_name (get_or names place d) name)
at_place name d names place e =
    either_way (is_listed (key_of name) (map key_of names))
    (λ l. (let p : place_in (key_of name) (map key_of names) ≡ place =
    some_one (sym (ap (λ b. cond b (Some (place_in (key_of name) (map key_of names))) None) l) ∙ e) in
    listed name names l ∙ ap (λ q. standing_by (same_name (get_or names q d) name)) p))
    (λ l. absurd (let t : None ≡ Some place =
    sym (ap (λ b. cond b (Some (place_in (key_of name) (map key_of names))) None) l) ∙ e in cc))
  where
    some_one : {a b : ℕ} → Some a ≡ Some b → a ≡ b
    some_one e = cc

    listed : (n : TyName) (ms : List TyName) → is_listed (key_of n) (map key_of ms) ≡ true
        → standing n ms ≡ standing_by (same_name (get_or ms (place_in (key_of n) (map key_of ms)) d) n)
    listed n [] l = absurd (cc)
    listed n (m ∷ ms) l =
        either_way (same_name (key_of n) (key_of m))
        (λ c. ap (λ b. cond b (standing_by (same_name m n)) (standing n ms)) c
        ∙ sym (ap (λ b. standing_by (same_name (get_or (m ∷ ms)
        (cond b zero (suc (place_in (key_of n) (map key_of ms)))) d) n)) c))
        (λ c. ap (λ b. cond b (standing_by (same_name m n)) (standing n ms)) c
        ∙ listed n ms (sym (ap (λ b. b || is_listed (key_of n) (map key_of ms)) c) ∙ l)
        ∙ sym (ap (λ b. standing_by (same_name (get_or (m ∷ ms)
        (cond b zero (suc (place_in (key_of n) (map key_of ms)))) d) n)) c))
