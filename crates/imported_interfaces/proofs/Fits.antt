-- Names fit to those that are known exactly where the conditions on them hold, and what is known with them.
use Rattle.std.proofs.Common.{◌≡◌, ℕ, refl, sym, ap, ap₂, subst, ◌∙◌, List, [], ◌∷◌, ◌++◌, map, filter, Bool, true, false, ◌&&◌, ◌||◌, not}
use Rattle.std.specs.Prelude.{eqb, cond}
use Rattle.std.specs.List.{list_all}
use Rattle.std.proofs.lemmas.Bool.{and_parts, and_from, eqb-true, eq-eqb}
use Rattle.unification.proofs.Walking.{either_way, or_left, or_right, or_either}
use Rattle.semantic_objects.specs.declared.name.Owner.{Owner}
use Rattle.semantic_objects.specs.declared.name.Owner.TheVariants as owner
use Rattle.semantic_objects.specs.declared.name.TyName.{TyName}
use Rattle.semantic_objects.specs.Symbols.{same_owner, same_name}
use Rattle.realisation.specs.Names.{is_listed, once}
use Rattle.realisation.specs.Canonical.{is_bound_name}
use Rattle.realisation.proofs.Listing.{name_is, name_same, listed_left, listed_right}
use Rattle.canonical_laws.proofs.Names.{filter_listed, filter_passes, filter_keeps}
use Rattle.interface_format.specs.Rules.{Agree, is_not_bound}
use Rattle.initial_basis.specs.Table.{type_lines}
use Rattle.initial_basis.specs.Basis.{basis_names, basis_type_names}
use Rattle.interface_tops.specs.Conditions.{agrees_with, agree}
use Rattle.interface_tops.proofs.Conditions.{owner_is, owner_itself, same_facts, all_where, at_listed, agreeing}
use Rattle.imported_interfaces.specs.declared.known.Standing.{Standing}
use Rattle.imported_interfaces.specs.declared.known.Standing.TheVariants as stands
use Rattle.imported_interfaces.specs.Usable.{is_of_basis, is_in_basis, is_as_in_basis, writes_the_basis, is_of_another, writes_no_name_of, agrees_with_all, agree_with, names_fit}
use Rattle.imported_interfaces.specs.Known.{key_of, standing, may_stand, fits, with_new, noted, noted_all, Knows}
use Rattle.imported_interfaces.specs.Promises.{KnownNamesFit}
use Rattle.imported_interfaces.proofs.Keys.{OfOne, IsOther, when_new, when_same, when_other}

-- ---- names in lists

listed_once : (n : TyName) (xs : List TyName) → is_listed n xs ≡ true → is_listed n (once xs) ≡ true
listed_once n [] l = absurd (cc)
listed_once n (x ∷ xs) l =
    either_way (same_name n x) (λ e. or_left (same_name n x) (is_listed n others) e)
    (λ e. or_right (same_name n x) (is_listed n others)
    (filter_keeps (λ m. not (same_name x m)) n (once xs) (listed_once n xs (rest e)) (apart e)))
  where
    others : List TyName
    others = filter (λ m. not (same_name x m)) (once xs)

    rest : same_name n x ≡ false → is_listed n xs ≡ true
    rest e = sym (ap (λ b. b || is_listed n xs) e) ∙ l

    apart : same_name n x ≡ false → not (same_name x n) ≡ true
    apart e = either_way (same_name x n)
        (λ c. absurd (let t : true ≡ false =
        sym (name_same x) ∙ ap (λ z. same_name z x) (name_is x n c) ∙ e in cc))
        (λ c. ap not c)

once_listed : (n : TyName) (xs : List TyName) → is_listed n (once xs) ≡ true → is_listed n xs ≡ true
once_listed n [] l = absurd (cc)
once_listed n (x ∷ xs) l =
    or_either (same_name n x) (is_listed n (filter (λ m. not (same_name x m)) (once xs))) l
    (λ e. or_left (same_name n x) (is_listed n xs) e)
    (λ r. or_right (same_name n x) (is_listed n xs)
    (once_listed n xs (filter_listed (λ m. not (same_name x m)) n (once xs) r)))

either_listed : {P : Type 0} (n : TyName) (xs ys : List TyName) → is_listed n (xs ++ ys) ≡ true
    → (is_listed n xs ≡ true → P) → (is_listed n ys ≡ true → P) → P
either_listed n [] ys l f g = g l
either_listed n (x ∷ xs) ys l f g =
    or_either (same_name n x) (is_listed n (xs ++ ys)) l
    (λ e. f (or_left (same_name n x) (is_listed n xs) e))
    (λ r. either_listed n xs ys r (λ k. f (or_right (same_name n x) (is_listed n xs) k)) g)

-- ---- names that agree

agreed : (m n : TyName) → agrees_with m n ≡ true → OfOne m n → m ≡ n
agreed m n e h =
    name_is m n (sym (ap (λ z. not z || same_name m n) (same_facts m n h.owner h.number)) ∙ e)

-- what agrees where it has to
agrees : (m n : TyName) → (OfOne m n → m ≡ n) → agrees_with m n ≡ true
agrees m n f = either_way (same_owner m.owner n.owner && eqb m.number n.number)
    (λ e. (let parts = and_parts (same_owner m.owner n.owner) (eqb m.number n.number) e in
    let one : OfOne m n = record {
      owner = owner_is m n parts.0;
      number = eqb-true m.number n.number parts.1;
    } in
    or_right (not (same_owner m.owner n.owner && eqb m.number n.number)) (same_name m n)
    (ap (same_name m) (sym (f one)) ∙ name_same m)))
    (λ e. ap (λ z. not z || same_name m n) e)

agree_at : {xs : List TyName} (m n : TyName) → Agree xs → is_listed m xs ≡ true → is_listed n xs ≡ true → OfOne m n
    → m ≡ n
agree_at m n h l r one = h.agree m n l r one.owner one.number

-- ---- the basis

all_of_basis : list_all (λ (n : TyName). is_of_basis n.owner) basis_type_names ≡ true
unfolding basis_names type_lines
all_of_basis = refl

pub basis_agrees : Agree basis_type_names
unfolding basis_names type_lines
basis_agrees = (agreeing basis_type_names).yes refl

-- a name of the basis is one of its names, where names are as the basis has them
basis_listed : (names : List TyName) (n : TyName) → writes_the_basis names ≡ true → is_listed n names ≡ true
    → is_of_basis n.owner ≡ true → is_in_basis n ≡ true
basis_listed names n h l b =
    sym (ap (λ z. not z || is_in_basis n) b) ∙ at_listed is_as_in_basis names n h l

-- ---- names that fit

-- a known name of the same owner and number is the name itself, where the conditions hold
known_is : (known earlier names : List TyName) → Knows known earlier → writes_the_basis names ≡ true
    → agree_with earlier names ≡ true → (m n : TyName) → is_listed m known ≡ true → is_listed n names ≡ true
    → OfOne m n → m ≡ n
known_is known earlier names k basis agree m n l r one =
    either_listed m basis_type_names earlier (k.only m l)
    (λ b. (let of : is_of_basis m.owner ≡ true = at_listed (λ (n : TyName). is_of_basis n.owner) basis_type_names m
    all_of_basis b in
    let too : is_of_basis n.owner ≡ true = ap is_of_basis (sym one.owner) ∙ of in
    let listed : is_in_basis n ≡ true = basis_listed names n basis r too in
    agree_at m n k.agree l (k.covers n (listed_left n basis_type_names earlier listed)) one))
    (λ e. agreed m n
    (at_listed (λ m. agrees_with m n) earlier m (at_listed (agrees_with_all earlier) names n agree r) e) one)

-- each of the names fits where the conditions hold
one_fits : (known earlier names : List TyName) (unit : List ℕ) → Knows known earlier
    → names_fit unit earlier names ≡ true → (n : TyName) → is_listed n names ≡ true
    → (is_of_another unit n && may_stand (standing n known) n.owner) ≡ true
one_fits known earlier names unit k h n l =
    let parts = and_parts (writes_the_basis names) (writes_no_name_of unit names && agree_with earlier names) h in
    let more = and_parts (writes_no_name_of unit names) (agree_with earlier names) parts.1 in
    and_from (is_of_another unit n) (may_stand (standing n known) n.owner)
    (at_listed (is_of_another unit) names n more.0 l) (may (standing n known) refl parts.0 more.1)
  where
    may : (is : Standing) → standing n known ≡ is → writes_the_basis names ≡ true → agree_with earlier names ≡ true
        → may_stand (standing n known) n.owner ≡ true
    may stands.Same e basis agree = ap (λ z. may_stand z n.owner) e
    may stands.New e basis agree = ap (λ z. may_stand z n.owner) e
        ∙ either_way (is_of_basis n.owner)
        (λ b. absurd (when_new n known e n
        (k.covers n (listed_left n basis_type_names earlier (basis_listed names n basis l b)))
        (record { owner = refl; number = refl })))
        (λ b. ap not b)
    may stands.Other e basis agree =
        let other = when_other n known e in
        absurd (let same = known_is known earlier names k basis agree other.known n other.listed l other.of_one in
        let t : true ≡ false = sym (name_same n) ∙ ap (λ z. same_name z n) (sym same) ∙ other.apart in cc)

-- where each fits, the conditions hold
fits_told : (known earlier : List TyName) (unit : List ℕ) (n : TyName) → Knows known earlier
    → (is_of_another unit n && may_stand (standing n known) n.owner) ≡ true
    → (is_as_in_basis n ≡ true) × (is_of_another unit n ≡ true) × (agrees_with_all earlier n ≡ true)
fits_told known earlier unit n k h =
    let parts = and_parts (is_of_another unit n) (may_stand (standing n known) n.owner) h in
    let t = told (standing n known) refl parts.1 in
    (t.0, parts.0, t.1)
  where
    -- a name that is known itself
    same : is_listed n known ≡ true → (is_as_in_basis n ≡ true) × (agrees_with_all earlier n ≡ true)
    same l = (
      either_way (is_of_basis n.owner)
          (λ b. or_right (not (is_of_basis n.owner)) (is_in_basis n)
          (either_listed n basis_type_names earlier (k.only n l) (λ i. i) (λ e. basis_listed earlier n k.basis e b)))
          (λ b. or_left (not (is_of_basis n.owner)) (is_in_basis n) (ap not b)),
      all_where (λ m. agrees_with m n) earlier
          (λ m e. agrees m n (λ one. agree_at m n k.agree (k.covers m (listed_right m basis_type_names earlier e)) l one)),
    )

    told : (is : Standing) → standing n known ≡ is → may_stand (standing n known) n.owner ≡ true
        → (is_as_in_basis n ≡ true) × (agrees_with_all earlier n ≡ true)
    told stands.Same e m = same (when_same n known e)
    told stands.New e m = (
      or_left (not (is_of_basis n.owner)) (is_in_basis n) (sym (ap (λ z. may_stand z n.owner) e) ∙ m),
      all_where (λ m. agrees_with m n) earlier
          (λ m l. agrees m n (λ one. absurd (when_new n known e m
          (k.covers m (listed_right m basis_type_names earlier l)) one))),
    )
    told stands.Other e m = absurd (let t : false ≡ true = sym (ap (λ z. may_stand z n.owner) e) ∙ m in cc)

same_answer : (a b : Bool) → (a ≡ true → b ≡ true) → (b ≡ true → a ≡ true) → a ≡ b
same_answer true true f g = refl
same_answer true false f g = sym (f refl)
same_answer false true f g = g refl
same_answer false false f g = refl

pub fit_is : (known earlier all : List TyName) (unit : List ℕ) → Knows known earlier
    → list_all (fits known unit) (once all) ≡ names_fit unit earlier (filter is_not_bound all)
fit_is known earlier all unit k =
    same_answer (list_all (fits known unit) (once all)) (names_fit unit earlier names) holds each
  where
    names : List TyName
    names = filter is_not_bound all

    free : (n : TyName) → is_listed n names ≡ true → is_bound_name n ≡ false
    free n l = either_way (is_bound_name n)
        (λ b. absurd (let t : false ≡ true = sym (ap not b) ∙ filter_passes is_not_bound n all l in cc)) (λ b. b)

    told : list_all (fits known unit) (once all) ≡ true → (n : TyName) → is_listed n names ≡ true
        → (is_as_in_basis n ≡ true) × (is_of_another unit n ≡ true) × (agrees_with_all earlier n ≡ true)
    told h n l =
        let fit = at_listed (fits known unit) (once all) n h (listed_once n all (filter_listed is_not_bound n all l)) in
        fits_told known earlier unit n k
        (sym (ap (λ z. z || (is_of_another unit n && may_stand (standing n known) n.owner)) (free n l)) ∙ fit)

    holds : list_all (fits known unit) (once all) ≡ true → names_fit unit earlier names ≡ true
    holds h = and_from (writes_the_basis names) (writes_no_name_of unit names && agree_with earlier names)
        (all_where is_as_in_basis names (λ n l. (told h n l).0))
        (and_from (writes_no_name_of unit names) (agree_with earlier names)
        (all_where (is_of_another unit) names (λ n l. (told h n l).1))
        (all_where (agrees_with_all earlier) names (λ n l. (told h n l).2)))

    each : names_fit unit earlier names ≡ true → list_all (fits known unit) (once all) ≡ true
    each h = all_where (fits known unit) (once all)
        (λ n l. either_way (is_bound_name n)
        (λ b. or_left (is_bound_name n) (is_of_another unit n && may_stand (standing n known) n.owner) b)
        (λ b. or_right (is_bound_name n) (is_of_another unit n && may_stand (standing n known) n.owner)
        (one_fits known earlier names unit k h n
        (filter_keeps is_not_bound n all (once_listed n all l) (ap not b)))))

-- ---- what is noted

kept_one : (known : List TyName) (n m : TyName) → is_listed m known ≡ true → is_listed m (noted known n) ≡ true
kept_one known n m l = either_way (is_bound_name n)
    (λ b. subst (λ z. is_listed m z ≡ true)
    (sym (ap (λ z. cond z known (with_new (standing n known) known n)) b)) l)
    (λ b. subst (λ z. is_listed m z ≡ true)
    (sym (ap (λ z. cond z known (with_new (standing n known) known n)) b)) (stays (standing n known)))
  where
    stays : (is : Standing) → is_listed m (with_new is known n) ≡ true
    stays stands.New = listed_left m known (n ∷ []) l
    stays stands.Same = l
    stays stands.Other = l

kept_all : (known names : List TyName) (m : TyName) → is_listed m known ≡ true
    → is_listed m (noted_all known names) ≡ true
kept_all known [] m l = l
kept_all known (n ∷ ns) m l = kept_all (noted known n) ns m (kept_one known n m l)

-- what is noted was known, or is one of the names
came_one : {P : Type 0} (known : List TyName) (n m : TyName) → is_listed m (noted known n) ≡ true
    → (is_listed m known ≡ true → P) → (m ≡ n → is_bound_name n ≡ false → P) → P
came_one {P} known n m l f g = either_way (is_bound_name n)
    (λ b. f (subst (λ z. is_listed m z ≡ true) (ap (λ z. cond z known (with_new (standing n known) known n)) b) l))
    (λ b. came (standing n known)
    (subst (λ z. is_listed m z ≡ true) (ap (λ z. cond z known (with_new (standing n known) known n)) b) l) b)
  where
    came : (is : Standing) → is_listed m (with_new is known n) ≡ true → is_bound_name n ≡ false → P
    came stands.New h b = either_listed m known (n ∷ []) h f
        (λ r. or_either (same_name m n) false r (λ e. g (name_is m n e) b) (λ e. absurd (cc)))
    came stands.Same h b = f h
    came stands.Other h b = f h

came_all : {P : Type 0} (known names : List TyName) (m : TyName) → is_listed m (noted_all known names) ≡ true
    → (is_listed m known ≡ true → P) → (is_listed m names ≡ true → is_bound_name m ≡ false → P) → P
came_all known [] m l f g = f l
came_all known (n ∷ ns) m l f g = came_all (noted known n) ns m l
    (λ h. came_one known n m h f
    (λ e b. g (or_left (same_name m n) (is_listed m ns) (ap (same_name m) (sym e) ∙ name_same m))
    (ap is_bound_name e ∙ b)))
    (λ r b. g (or_right (same_name m n) (is_listed m ns) r) b)

-- a name that isn't bound is known then, where no other name of its owner has its number
comes_one : (known : List TyName) (n : TyName) → is_bound_name n ≡ false
    → ((m : TyName) → is_listed m known ≡ true → OfOne m n → m ≡ n) → is_listed n (noted known n) ≡ true
comes_one known n b one =
    subst (λ z. is_listed n z ≡ true) (sym (ap (λ z. cond z known (with_new (standing n known) known n)) b))
    (comes (standing n known) refl)
  where
    comes : (is : Standing) → standing n known ≡ is → is_listed n (with_new (standing n known) known n) ≡ true
    comes stands.New e = subst (λ z. is_listed n (with_new z known n) ≡ true) (sym e)
        (listed_right n known (n ∷ []) (or_left (same_name n n) false (name_same n)))
    comes stands.Same e = subst (λ z. is_listed n (with_new z known n) ≡ true) (sym e) (when_same n known e)
    comes stands.Other e =
        let other = when_other n known e in
        absurd (let same = one other.known other.listed other.of_one in
        let t : true ≡ false = sym (name_same n) ∙ ap (λ z. same_name z n) (sym same) ∙ other.apart in cc)

comes_all : (known names : List TyName) (n : TyName) → is_listed n names ≡ true → is_bound_name n ≡ false
    → ((m : TyName) → is_listed m known ≡ true → OfOne m n → m ≡ n)
    → ((m : TyName) → is_listed m names ≡ true → is_bound_name m ≡ false → OfOne m n → m ≡ n)
    → is_listed n (noted_all known names) ≡ true
comes_all known [] n l b one two = absurd (cc)
comes_all known (x ∷ xs) n l b one two =
    or_either (same_name n x) (is_listed n xs) l
    (λ e. kept_all (noted known x) xs n
    (subst (λ z. is_listed n (noted known z) ≡ true) (name_is n x e) (comes_one known n b one)))
    (λ r. comes_all (noted known x) xs n r b
    (λ m h o. came_one known x m h (λ k. one m k o)
    (λ e c. two m (or_left (same_name m x) (is_listed m xs) (ap (same_name m) (sym e) ∙ name_same m))
    (ap is_bound_name e ∙ c) o))
    (λ m h c o. two m (or_right (same_name m x) (is_listed m xs) h) c o))

basis_too : (xs ys : List TyName) → writes_the_basis xs ≡ true → writes_the_basis ys ≡ true
    → writes_the_basis (xs ++ ys) ≡ true
basis_too [] ys h k = k
basis_too (x ∷ xs) ys h k =
    let parts = and_parts (is_as_in_basis x) (list_all is_as_in_basis xs) h in
    and_from (is_as_in_basis x) (list_all is_as_in_basis (xs ++ ys)) parts.0 (basis_too xs ys parts.1 k)

pub first_known : Knows basis_type_names []
first_known = record {
  covers = λ m l. either_listed m basis_type_names [] l (λ h. h) (λ h. absurd (cc));
  only = λ m l. listed_left m basis_type_names [] l;
  agree = basis_agrees;
  basis = refl;
}

pub known_then : (known earlier all : List TyName) (unit : List ℕ) → Knows known earlier
    → Agree (filter is_not_bound all) → names_fit unit earlier (filter is_not_bound all) ≡ true
    → Knows (noted_all known (once all)) (earlier ++ filter is_not_bound all)
known_then known earlier all unit k agree h = record {
  covers = λ m l. either_listed m basis_type_names (earlier ++ names) l
      (λ i. kept_all known (once all) m (k.covers m (listed_left m basis_type_names earlier i)))
      (λ r. either_listed m earlier names r
      (λ i. kept_all known (once all) m (k.covers m (listed_right m basis_type_names earlier i)))
      (λ i. comes m i));
  only = λ m l. came_all known (once all) m l
      (λ i. either_listed m basis_type_names earlier (k.only m i)
      (λ b. listed_left m basis_type_names (earlier ++ names) b)
      (λ e. listed_right m basis_type_names (earlier ++ names) (listed_left m earlier names e)))
      (λ i b. listed_right m basis_type_names (earlier ++ names) (listed_right m earlier names (named m i b)));
  agree = record {
    agree = λ m n l r o s. both_agree m n l r (record { owner = o; number = s });
  };
  basis = basis_too earlier names k.basis parts.0;
}
  where
    names : List TyName
    names = filter is_not_bound all

    parts : (writes_the_basis names ≡ true) × ((writes_no_name_of unit names && agree_with earlier names) ≡ true)
    parts = and_parts (writes_the_basis names) (writes_no_name_of unit names && agree_with earlier names) h

    with_earlier : agree_with earlier names ≡ true
    with_earlier = (and_parts (writes_no_name_of unit names) (agree_with earlier names) parts.1).1

    named : (m : TyName) → is_listed m (once all) ≡ true → is_bound_name m ≡ false → is_listed m names ≡ true
    named m l b = filter_keeps is_not_bound m all (once_listed m all l) (ap not b)

    cross : (m n : TyName) → is_listed m known ≡ true → is_listed n names ≡ true → OfOne m n → m ≡ n
    cross m n l r one = known_is known earlier names k parts.0 with_earlier m n l r one

    free : (n : TyName) → is_listed n names ≡ true → is_bound_name n ≡ false
    free n l = either_way (is_bound_name n)
        (λ b. absurd (let t : false ≡ true = sym (ap not b) ∙ filter_passes is_not_bound n all l in cc)) (λ b. b)

    comes : (m : TyName) → is_listed m names ≡ true → is_listed m (noted_all known (once all)) ≡ true
    comes m i = comes_all known (once all) m (listed_once m all (filter_listed is_not_bound m all i)) (free m i)
        (λ p l one. cross p m l i one) (λ p l b one. agree_at p m agree (named p l b) i one)

    turned : {m n : TyName} → OfOne m n → OfOne n m
    turned one = record { owner = sym one.owner; number = sym one.number }

    both_agree : (m n : TyName) → is_listed m (noted_all known (once all)) ≡ true
        → is_listed n (noted_all known (once all)) ≡ true → OfOne m n → m ≡ n
    both_agree m n l r one = came_all known (once all) m l
        (λ i. came_all known (once all) n r (λ j. agree_at m n k.agree i j one)
        (λ j b. cross m n i (named n j b) one))
        (λ i b. came_all known (once all) n r (λ j. sym (cross n m j (named m i b) (turned one)))
        (λ j c. agree_at m n agree (named m i b) (named n j c) one))

pub known_names_fit : KnownNamesFit
known_names_fit = record { first = first_known; is = fit_is; then = known_then }
