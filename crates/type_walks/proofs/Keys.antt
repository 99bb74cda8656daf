-- Keys of type names: two are one where the names are. A table tells the first place of each name.
use Rattle.std.proofs.Common.{◌≡◌, ℕ, zero, suc, refl, sym, ap, ap₂, ◌∙◌, subst, Bool, true, false, ◌&&◌, ◌||◌, cond, List, [], ◌∷◌, ◌++◌, length, map, Option, Some, None}
use Rattle.std.specs.Prelude.{nat_eq, slice_get}
use lib.Pointwise.{pointwise}
use Rattle.indexmap.specs.IndexMap.{IndexMap, get}
use Rattle.semantic_objects.specs.declared.name.Owner.{Owner}
use Rattle.semantic_objects.specs.declared.name.Owner.TheVariants as owner
use Rattle.semantic_objects.specs.declared.name.TyName.{TyName}
use Rattle.semantic_objects.specs.declared.entry.TypeFn.{TypeFn}
use Rattle.semantic_objects.specs.Symbols.{same_text, same_name}
use Rattle.realisation.specs.Names.{is_listed, place_in}
use Rattle.realisation.proofs.Listing.{name_is, name_same}
use Rattle.type_walks.specs.declared.names.NameKey.{NameKey}
use Rattle.type_walks.specs.declared.replacing.Replace.{Replace}
use Rattle.type_walks.specs.Tables.{key_of, same_key, place_among, first_of, Notes}
use Rattle.type_walks.specs.Replaced.{put_by}

-- ---- keys

texts_same : (s t : List ℕ) → pointwise nat_eq s t ≡ same_text s t
texts_same [] [] = refl
texts_same [] (y ∷ ys) = refl
texts_same (x ∷ xs) [] = refl
texts_same (x ∷ xs) (y ∷ ys) = ap (λ b. nat_eq x y && b) (texts_same xs ys)

abbrev name_of : Owner → ℕ → ℕ → Bool → TyName
name_of o n k e = record { owner = o; number = n; arity = k; eq = e }

alike : (o p : Owner) (m n k l : ℕ) (d e : Bool)
    → same_key (key_of (name_of o m k d)) (key_of (name_of p n l e)) ≡ same_name (name_of o m k d) (name_of p n l e)
alike (owner.«Unit» t) (owner.«Unit» u) m n k l true true = ap (λ b. b && (nat_eq m n && (nat_eq k l && true))) (texts_same t u)
alike (owner.«Unit» t) (owner.«Unit» u) m n k l true false = ap (λ b. b && (nat_eq m n && (nat_eq k l && false))) (texts_same t u)
alike (owner.«Unit» t) (owner.«Unit» u) m n k l false true = ap (λ b. b && (nat_eq m n && (nat_eq k l && false))) (texts_same t u)
alike (owner.«Unit» t) (owner.«Unit» u) m n k l false false = ap (λ b. b && (nat_eq m n && (nat_eq k l && true))) (texts_same t u)
alike (owner.«Unit» t) owner.Basis m n k l d e = refl
alike (owner.«Unit» t) owner.Bound m n k l d e = refl
alike owner.Basis (owner.«Unit» u) m n k l d e = refl
alike owner.Basis owner.Basis m n k l true true = refl
alike owner.Basis owner.Basis m n k l true false = refl
alike owner.Basis owner.Basis m n k l false true = refl
alike owner.Basis owner.Basis m n k l false false = refl
alike owner.Basis owner.Bound m n k l d e = refl
alike owner.Bound (owner.«Unit» u) m n k l d e = refl
alike owner.Bound owner.Basis m n k l d e = refl
alike owner.Bound owner.Bound m n k l true true = refl
alike owner.Bound owner.Bound m n k l true false = refl
alike owner.Bound owner.Bound m n k l false true = refl
alike owner.Bound owner.Bound m n k l false false = refl

pub key_same : (a b : TyName) → same_key (key_of a) (key_of b) ≡ same_name a b
key_same a b = alike a.owner b.owner a.number b.number a.arity b.arity a.eq b.eq

same_truth : (b c : Bool) → (b ≡ true → c ≡ true) → (c ≡ true → b ≡ true) → b ≡ c
same_truth true c f g = sym (f refl)
same_truth false true f g = g refl
same_truth false false f g = refl

turned_one : (a b : TyName) → same_name a b ≡ true → same_name b a ≡ true
turned_one a b h = subst (λ z. same_name z a ≡ true) (name_is a b h) (name_same a)

pub turned : (a b : TyName) → same_name a b ≡ same_name b a
turned a b = same_truth (same_name a b) (same_name b a) (turned_one a b) (turned_one b a)

-- ---- places

first_none : (o : Option ℕ) → first_of o None ≡ o
first_none None = refl
first_none (Some p) = refl

abbrev shifted : Option ℕ → Option ℕ
shifted None = None
shifted (Some n) = Some (suc n)

place_step : (b c : Bool) (p : ℕ)
    → cond (b || c) (Some (cond b zero (suc p))) None ≡ cond b (Some zero) (shifted (cond c (Some p) None))
place_step true c p = refl
place_step false true p = refl
place_step false false p = refl

place_cons : (name m : TyName) (ms : List TyName)
    → place_among name (m ∷ ms) ≡ cond (same_name name m) (Some zero) (shifted (place_among name ms))
place_cons name m ms = place_step (same_name name m) (is_listed name ms) (place_in name ms)

first_step : (b c : Bool) (o : Option ℕ) (n : ℕ)
    → cond b (Some zero) (shifted (first_of o (cond c (Some n) None)))
    ≡ first_of (cond b (Some zero) (shifted o)) (cond c (Some (suc n)) None)
first_step true c o n = refl
first_step false c (Some p) n = refl
first_step false true None n = refl
first_step false false None n = refl

-- one name more
place_snoc : (name w : TyName) (ms : List TyName)
    → place_among name (ms ++ w ∷ []) ≡ first_of (place_among name ms) (cond (same_name w name) (Some (length ms)) None)
place_snoc name w [] = place_cons name w [] ∙ ap (λ b. cond b (Some zero) None) (turned name w)
place_snoc name w (m ∷ ms) =
    place_cons name m (ms ++ w ∷ [])
    ∙ ap (λ o. cond (same_name name m) (Some zero) (shifted o)) (place_snoc name w ms)
    ∙ first_step (same_name name m) (same_name w name) (place_among name ms) (length ms)
    ∙ ap (λ o. first_of o (cond (same_name w name) (Some (length (m ∷ ms))) None)) (sym (place_cons name m ms))

pub told_more : {S : Type 0} (old new : IndexMap NameKey ℕ S) (before after : List TyName) (name : TyName) (place : ℕ)
    → ((m : TyName) → get same_key old (key_of m) ≡ place_among m before) → Notes old new name place
    → place ≡ length before → after ≡ before ++ name ∷ []
    → (m : TyName) → get same_key new (key_of m) ≡ place_among m after
told_more old new before after name place h k e f m =
    k m
    ∙ ap₂ (λ o n. first_of o (cond (same_name name m) (Some n) None)) (h m) e
    ∙ sym (place_snoc m name before)
    ∙ sym (ap (place_among m) f)

-- a name that has its place already, and one that gets it
there_step : (b : Bool) (o : Option ℕ) (p place : ℕ) → (b ≡ true → o ≡ Some p)
    → o ≡ first_of o (cond b (Some place) None)
there_step true o p place h = h refl ∙ sym (ap (λ z. first_of z (Some place)) (h refl))
there_step false o p place h = sym (first_none o)

pub notes_there : {S : Type 0} (old : IndexMap NameKey ℕ S) (name : TyName) (key : NameKey) (p place : ℕ)
    → key ≡ key_of name → get same_key old key ≡ Some p → Notes old old name place
notes_there old name key p place e h m = there_step (same_name name m) (get same_key old (key_of m)) p place
    (λ s. ap (λ z. get same_key old (key_of z)) (sym (name_is name m s)) ∙ ap (get same_key old) (sym e) ∙ h)

new_step : (b : Bool) (o : Option ℕ) (place : ℕ) → (b ≡ true → o ≡ None)
    → cond b (Some place) o ≡ first_of o (cond b (Some place) None)
new_step true o place h = sym (ap (λ z. first_of z (Some place)) (h refl))
new_step false o place h = sym (first_none o)

pub notes_new : {S : Type 0} (old new : IndexMap NameKey ℕ S) (name : TyName) (key : NameKey) (place : ℕ)
    → key ≡ key_of name → get same_key old key ≡ None
    → ((k : NameKey) → get same_key new k ≡ cond (same_key key k) (Some place) (get same_key old k))
    → Notes old new name place
notes_new old new name key place e h k m =
    k (key_of m)
    ∙ ap (λ z. cond (same_key z (key_of m)) (Some place) (get same_key old (key_of m))) e
    ∙ ap (λ b. cond b (Some place) (get same_key old (key_of m))) (key_same name m)
    ∙ new_step (same_name name m) (get same_key old (key_of m)) place
    (λ s. ap (λ z. get same_key old (key_of z)) (sym (name_is name m s)) ∙ ap (get same_key old) (sym e) ∙ h)

-- ---- rows

abbrev names_of_list : List Replace → List TyName
names_of_list list = map (λ (r : Replace). r.name) list

put_cons : (b c : Bool) (f : TypeFn) (rest : Option TypeFn) (want : Option TypeFn) → b ≡ c
    → (c ≡ true → Some f ≡ want) → (c ≡ false → rest ≡ want) → cond b (Some f) rest ≡ want
put_cons true c f rest want e h k = h (sym e)
put_cons false c f rest want e h k = k (sym e)

some_is : {A : Type 0} (x y : A) → Some x ≡ Some y → x ≡ y
some_is x y h = cc

shifted_some : {P : Type 0} (o : Option ℕ) (p : ℕ) → shifted o ≡ Some p → ((q : ℕ) → o ≡ Some q → p ≡ suc q → P) → P
shifted_some None p h f = absurd (cc)
shifted_some (Some q) p h f = f q refl (sym (some_is (suc q) p h))

shifted_none : (o : Option ℕ) → shifted o ≡ None → o ≡ None
shifted_none None h = refl
shifted_none (Some q) h = absurd (cc)

abbrev by_of : Option Replace → Option TypeFn
by_of None = None
by_of (Some x) = Some x.by

pub found_row : (name : TyName) (list : List Replace) (p : ℕ) (r : Replace)
    → place_among name (names_of_list list) ≡ Some p → slice_get list p ≡ Some r → put_by list name ≡ Some r.by
found_row name [] p r h e = absurd (cc)
found_row name (x ∷ list) p r h e =
    let k : cond (same_name name x.name) (Some zero) (shifted (place_among name (names_of_list list))) ≡ Some p =
    sym (place_cons name x.name (names_of_list list)) ∙ h in
    put_cons (same_name x.name name) (same_name name x.name) x.by (put_by list name) (Some r.by) (turned x.name name)
    (λ s. let z : zero ≡ p = some_is zero p (sym (ap (λ b. cond b (Some zero) (shifted (place_among name (names_of_list list)))) s) ∙ k) in
    let y : Some x ≡ Some r = ap (λ q. slice_get (x ∷ list) q) z ∙ e in
    ap (λ (o : Option Replace). by_of o) y)
    (λ s. shifted_some (place_among name (names_of_list list)) p
    (sym (ap (λ b. cond b (Some zero) (shifted (place_among name (names_of_list list)))) s) ∙ k)
    (λ q i j. found_row name list q r i (sym (ap (λ z. slice_get (x ∷ list) z) j) ∙ e)))

pub found_no_row : (name : TyName) (list : List Replace) → place_among name (names_of_list list) ≡ None
    → put_by list name ≡ None
found_no_row name [] h = refl
found_no_row name (x ∷ list) h =
    let k : cond (same_name name x.name) (Some zero) (shifted (place_among name (names_of_list list))) ≡ None =
    sym (place_cons name x.name (names_of_list list)) ∙ h in
    put_cons (same_name x.name name) (same_name name x.name) x.by (put_by list name) None (turned x.name name)
    (λ s. let z : Some zero ≡ None = sym (ap (λ b. cond b (Some zero) (shifted (place_among name (names_of_list list)))) s) ∙ k in absurd (cc))
    (λ s. found_no_row name list (shifted_none (place_among name (names_of_list list))
    (sym (ap (λ b. cond b (Some zero) (shifted (place_among name (names_of_list list)))) s) ∙ k)))
