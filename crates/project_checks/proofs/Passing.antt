-- Owners are passed down in one pass over the groups that ended, from the last to the first.
use Rattle.std.proofs.Common.{◌≡◌, ◌≢◌, ◌∙◌, ◌⊎◌, ℕ, zero, suc, ◌+◌, ◌-◌, ◌<◌, ◌≤◌, List, [], ◌∷◌, ◌++◌, length, length-append, Bool, true, false, Option, Some, None, inl, inr, refl, ap, sym, subst, arith, if◌then◌else◌}
use Rattle.std.specs.Prelude.{◌||◌, nat_eq, slice_get, slice_set, All, Contains}
use Rattle.std.specs.List.{list_any, flat_map}
use Rattle.std.specs.Option.{option_map_or}
use Rattle.std.proofs.lemmas.Bool.Decides.{nat_tests}
use Rattle.std.proofs.lemmas.List.{get_or-set_same, get_or-set_other, length-set}
use Rattle.std.proofs.lemmas.List.Elements.{Contains-append_cases, Contains-append_left, Contains-append_right}
use Rattle.std.proofs.lemmas.Map.Views.{Contains-from_any}
use Rattle.std.proofs.lemmas.Option.{slice_get_within}
use Rattle.cm_description.specs.WellFormed.{StandsAt}
use Rattle.cm_description.specs.declared.loaded.Group.{Group}
use Rattle.project_checks.specs.Owners.{AreOrdered, holders_of, owners_of, owns_itself}
use Rattle.project_checks.specs.Owning.{ArePassed, HaveOwners, IsHeldBy, Joins, PassesDown, Sums, joined, members_at, own_turn, owned_at}
use Rattle.project_checks.specs.declared.owners.Owned.{Owned}
use Rattle.project_checks.specs.declared.owners.Owned.TheVariants as owned
use Rattle.project_checks.proofs.Above.{same_number, pass_down}
use Rattle.project_checks.proofs.Numbering.{number_passes, passes_number}
use Rattle.project_checks.proofs.Places.{place_of, stands_contained, stands_here}
use Rattle.project_checks.proofs.Summing.{contains_cases, contains_first, contains_rest, joined_sums}

-- ---- lists

or_true : (a : Bool) → (a || true) ≡ true
or_true true = refl
or_true false = refl

any_here : (n x : ℕ) (xs : List ℕ) → x ≡ n → list_any (nat_eq n) (x ∷ xs) ≡ true
any_here n x xs is =
    let equal : nat_eq n x ≡ true = grind (arith, nat_tests) in
    ap (λ (b : Bool). b || list_any (nat_eq n) xs) equal

any_later : (n x : ℕ) (xs : List ℕ) → list_any (nat_eq n) xs ≡ true → list_any (nat_eq n) (x ∷ xs) ≡ true
any_later n x xs rest = ap (λ (b : Bool). nat_eq n x || b) rest ∙ or_true (nat_eq n x)

-- a number that is in a list passes the test for it
any_listed : (n : ℕ) (xs : List ℕ) → Contains xs n → list_any (nat_eq n) xs ≡ true
any_listed n [] has = let inside = has.1 in absurd (omega (arith, inside))
any_listed n (x ∷ xs) has = elim (contains_cases x n xs has)
    [ inl is ↦ any_here n x xs is | inr rest ↦ any_later n x xs (any_listed n xs rest) ]

-- one that isn't there passes none, and the other way round
none_by : (n : ℕ) (xs : List ℕ) (b : Bool) → list_any (nat_eq n) xs ≡ b → (Contains xs n → ⊥) → b ≡ false
none_by n xs true e never = absurd (never (Contains-from_any same_number n xs e))
none_by n xs false e never = refl

none_listed : (n : ℕ) (xs : List ℕ) → (Contains xs n → ⊥) → list_any (nat_eq n) xs ≡ false
none_listed n xs never = none_by n xs (list_any (nat_eq n) xs) refl never

not_listed : (n : ℕ) (xs : List ℕ) → list_any (nat_eq n) xs ≡ false → Contains xs n → ⊥
not_listed n xs none has = let listed = any_listed n xs has in cc

-- what stands behind a front
stands_behind : {A : Type 0} (xs ys : List A) (k : ℕ) (x : A) → StandsAt (xs ++ ys) k x → length xs ≤ k
    → StandsAt ys (k - length xs) x
stands_behind [] ys k x at le =
    let same : k ≡ k - 0 = omega arith in subst (λ (n : ℕ). StandsAt ys n x) same at
stands_behind (z ∷ xs) ys zero x at le = absurd (omega (arith, le))
stands_behind (z ∷ xs) ys (suc k) x at le =
    let same : k - length xs ≡ suc k - suc (length xs) = omega arith in
    subst (λ (n : ℕ). StandsAt ys n x) same (stands_behind xs ys k x at (omega (arith, le)))

stands_later : {A : Type 0} (xs ys : List A) (k : ℕ) (x : A) → StandsAt ys k x → StandsAt (xs ++ ys) (length xs + k) x
stands_later [] ys k x at =
    let same : k ≡ 0 + k = omega arith in subst (λ (n : ℕ). StandsAt ys n x) same at
stands_later (z ∷ xs) ys k x at =
    let same : suc (length xs + k) ≡ suc (length xs) + k = omega arith in
    subst (λ (n : ℕ). StandsAt (z ∷ (xs ++ ys)) n x) same (stands_later xs ys k x at)

-- what lists made of numbers have
contains_flat : (f : ℕ → List ℕ) (xs : List ℕ) (x o : ℕ) → Contains xs x → Contains (f x) o → Contains (flat_map f xs) o
contains_flat f [] x o has inner = let inside = has.1 in absurd (omega (arith, inside))
contains_flat f (y ∷ ys) x o has inner = elim (contains_cases y x ys has) [
  | inl is ↦ Contains-append_left (f y) (flat_map f ys) o (subst (λ (n : ℕ). Contains (f n) o) (sym is) inner)
  | inr rest ↦ Contains-append_right (f y) (flat_map f ys) o (contains_flat f ys x o rest inner)
]

-- what is in such lists is in one of them
abbrev In : (ℕ → List ℕ) → List ℕ → ℕ → Type 0
In f xs o = (x : ℕ) × Contains xs x × Contains (f x) o

in_rest : (f : ℕ → List ℕ) (y : ℕ) (ys : List ℕ) (o : ℕ) → In f ys o → In f (y ∷ ys) o
in_rest f y ys o found = (found.0, contains_rest y found.0 ys found.1, found.2)

flat_contains : (f : ℕ → List ℕ) (xs : List ℕ) (o : ℕ) → Contains (flat_map f xs) o → In f xs o
flat_contains f [] o has = let inside = has.1 in absurd (omega (arith, inside))
flat_contains f (y ∷ ys) o has = elim (Contains-append_cases (f y) (flat_map f ys) o has)
    [ inl here ↦ (y, contains_first y ys, here) | inr rest ↦ in_rest f y ys o (flat_contains f ys o rest) ]

-- ---- sums

-- of what holds alike, sums are alike
pub sums_alike : (known : Owned) (P Q : ℕ → Type 0) → ((o : ℕ) → P o → Q o) → ((o : ℕ) → Q o → P o) → Sums known P
    → Sums known Q
sums_alike owned.Nobody P Q on back none = λ o has. none o (back o has)
sums_alike (owned.One one) P Q on back sum = (on one sum.0, λ o has. sum.1 o (back o has))
sums_alike owned.Several P Q on back sum = (sum.0, sum.1, on sum.0 sum.2, on sum.1 sum.3, sum.4)

-- ---- one turn

some_stands : (groups : List Group) (number : ℕ) → number < length groups
    → (group : Group) × StandsAt groups number group
some_stands [] number inside = absurd (omega (arith, inside))
some_stands (group ∷ groups) zero inside = (group, refl)
some_stands (group ∷ groups) (suc number) inside = some_stands groups number (omega (arith, inside))

module _ (groups : List Group) (finished : List ℕ) (ordered : AreOrdered groups finished)
    (small : All (λ (number : ℕ). number < length groups) finished) (before : List ℕ) (number : ℕ) (done : List ℕ)
    (split : finished ≡ before ++ (number ∷ done)) where
  abbrev turn : ℕ
  turn = length before

  its_place : StandsAt finished turn number
  its_place = subst (λ (xs : List ℕ). StandsAt xs turn number) (sym split)
      (subst (λ (k : ℕ). StandsAt (before ++ (number ∷ done)) k number) (omega arith)
      (stands_later before (number ∷ done) zero number refl))

  known : number < length groups
  known =
      let has = stands_contained finished turn number its_place in
      subst (λ (n : ℕ). n < length groups) has.2 (small has.0 number has.1)

  -- what is done ended later
  done_later : (n : ℕ) → Contains done n → (k : ℕ) × (turn < k) × StandsAt finished k n
  done_later n has =
      let place = place_of done n has in (
        length before + suc place.0,
        omega arith,
        subst (λ (xs : List ℕ). StandsAt xs (length before + suc place.0) n) (sym split)
            (stands_later before (number ∷ done) (suc place.0) n place.1),
      )

  -- .. and what ended later is done
  later_done : (n k : ℕ) → turn < k → StandsAt finished k n → Contains done n
  later_done n k after at =
      let behind : StandsAt (number ∷ done) (k - length before) n =
      stands_behind before (number ∷ done) k n (subst (λ (xs : List ℕ). StandsAt xs k n) split at)
      (omega (arith, after)) in
      drop_first n (k - length before) (omega (arith, after)) behind
    where
      drop_first : (n k : ℕ) → 0 < k → StandsAt (number ∷ done) k n → Contains done n
      drop_first n zero some at = absurd (omega (arith, some))
      drop_first n (suc k) some at = stands_contained done k n at

  itself_not_done : Contains done number → ⊥
  itself_not_done has =
      let place = done_later number has in
      let same = ordered.once place.0 turn number place.2 its_place in
      let after = place.1 in omega (arith, after, same)

  -- a group that has this one as a member is done
  holder_done : (holder : ℕ) (group : Group) → StandsAt groups holder group → Contains group.members number
      → Contains done holder
  holder_done holder group at has =
      let place = place_of finished holder (ordered.all holder (slice_get_within groups holder group at)) in
      let first = ordered.members_first place.0 holder number group place.1 at has in
      let same = ordered.once first.0 turn number first.2 its_place in
      let after = first.1 in
      later_done holder place.0 (omega (arith, after, same)) place.1

  -- a member of this group isn't done, and isn't the group
  member_first : (group : Group) (member : ℕ) → StandsAt groups number group → Contains group.members member
      → (j : ℕ) × (j < turn) × StandsAt finished j member
  member_first group member at has = ordered.members_first turn number member group its_place at has

  member_not_done : (group : Group) (member : ℕ) → StandsAt groups number group → Contains group.members member
      → Contains done member → ⊥
  member_not_done group member at has more =
      let first = member_first group member at has in
      let place = done_later member more in
      let same = ordered.once first.0 place.0 member first.2 place.2 in
      let a = first.1 in let b = place.1 in omega (arith, a, b, same)

  member_not_itself : (group : Group) → StandsAt groups number group → Contains group.members number → ⊥
  member_not_itself group at has =
      let first = member_first group number at has in
      let same = ordered.once first.0 turn number first.2 its_place in
      let a = first.1 in omega (arith, a, same)

  -- ---- its owners

  abbrev Owner : ℕ → ℕ → Type 0
  Owner n o = Contains (owners_of groups finished n) o

  held_listed : (o : ℕ) → IsHeldBy groups finished done number o
      → Contains (flat_map (owners_of groups finished) (holders_of groups number)) o
  held_listed o held =
      contains_flat (owners_of groups finished) (holders_of groups number) held.0 o
      (subst (Contains (holders_of groups number)) (omega arith)
      (passes_number (λ (group : Group). list_any (nat_eq number) group.members) groups 0 held.0 held.1 held.3
      (any_listed number held.1.members held.4))) held.5

  listed_held : (o : ℕ) → Contains (flat_map (owners_of groups finished) (holders_of groups number)) o
      → IsHeldBy groups finished done number o
  listed_held o has =
      let inner = flat_contains (owners_of groups finished) (holders_of groups number) o has in
      let found = number_passes (λ (group : Group). list_any (nat_eq number) group.members) groups 0 inner.0 inner.1 in
      let is = found.2 in
      let same : found.0 ≡ inner.0 = omega (arith, is) in
      let inside = Contains-from_any same_number number found.1.members found.4 in (
        found.0,
        found.1,
        holder_done found.0 found.1 found.3 inside,
        found.3,
        inside,
        subst (λ (h : ℕ). Contains (owners_of groups finished h) o) (sym same) inner.2,
      )

  -- what the group has at its turn
  own_by : (old : Owned) (b : Bool) → Sums old (IsHeldBy groups finished done number)
      → Sums (if b then owned.One number else old)
      (Contains (if b then number ∷ [] else flat_map (owners_of groups finished) (holders_of groups number)))
  own_by old true sum = (
    contains_first number [],
    λ o has. elim (contains_cases number o [] has)
        [ inl is ↦ sym is | inr none ↦ absurd (let inside = none.1 in omega (arith, inside)) ],
  )
  own_by old false sum =
      sums_alike old (IsHeldBy groups finished done number)
      (Contains (flat_map (owners_of groups finished) (holders_of groups number))) held_listed listed_held sum

  module _ (old new : List Owned) (passed : ArePassed groups finished done old)
      (passes : PassesDown groups number old new) where
    abbrev own : Owned
    own = own_turn groups number (owned_at old number)

    own_sums : Sums own (Owner number)
    own_sums =
        subst (λ (xs : List ℕ). Sums own (Contains xs)) (sym ((pass_down groups finished ordered).down number known))
        (own_by (owned_at old number) (owns_itself groups number)
        (passed.behind number known (none_listed number done itself_not_done)))

    abbrev turned : List Owned
    turned = slice_set old number own

    same_length : length turned ≡ length groups
    same_length = length-set old number own ∙ passed.each

    turned_itself : owned_at turned number ≡ own
    turned_itself =
        let each = passed.each in let inside = known in
        get_or-set_same old number own owned.Nobody (omega (arith, each, inside))

    turned_other : (n : ℕ) → n ≢ number → owned_at turned n ≡ owned_at old n
    turned_other n differ = get_or-set_other old number n own owned.Nobody differ

    met : (n : ℕ) → n < length groups → owned_at new n
        ≡ (if list_any (nat_eq n) (members_at groups number) then joined (owned_at turned n) own else owned_at turned n)
    met n inside = passes.met n (let same = same_length in omega (arith, inside, same))

    -- a group that isn't a member keeps what it has
    unmet : (n : ℕ) → n < length groups → (Contains (members_at groups number) n → ⊥)
        → owned_at new n ≡ owned_at turned n
    unmet n inside never =
        met n inside
        ∙ ap (λ (b : Bool). if b then joined (owned_at turned n) own else owned_at turned n)
        (none_listed n (members_at groups number) never)

    reached : (n : ℕ) → n < length groups → Contains (members_at groups number) n
        → owned_at new n ≡ joined (owned_at turned n) own
    reached n inside has =
        met n inside
        ∙ ap (λ (b : Bool). if b then joined (owned_at turned n) own else owned_at turned n)
        (any_listed n (members_at groups number) has)

    module _ (group : Group) (at : StandsAt groups number group) where
      its_members : members_at groups number ≡ group.members
      its_members = ap (λ (o : Option Group). option_map_or (λ (g : Group). g.members) o []) at

      member_of : (n : ℕ) → Contains (members_at groups number) n → Contains group.members n
      member_of n has = subst (λ (xs : List ℕ). Contains xs n) its_members has

      before_itself : Sums (owned_at new number) (Owner number)
      before_itself =
          subst (λ (o : Owned). Sums o (Owner number))
          (sym (unmet number known (λ has. member_not_itself group at (member_of number has)) ∙ turned_itself)) own_sums

      before_done : (n : ℕ) → n < length groups → Contains done n → Sums (owned_at new n) (Owner n)
      before_done n inside has =
          let differ : n ≢ number = λ same. itself_not_done (subst (Contains done) same has) in
          subst (λ (o : Owned). Sums o (Owner n))
          (sym (unmet n inside (λ held. member_not_done group n at (member_of n held) has) ∙ turned_other n differ))
          (passed.before n inside (any_listed n done has))

      abbrev Held : List ℕ → ℕ → ℕ → Type 0
      Held list n o = IsHeldBy groups finished list n o

      -- who holds a group, with this one among those that are done
      held_on : (n o : ℕ) → Held done n o → Held (number ∷ done) n o
      held_on n o held = (held.0, held.1, contains_rest number held.0 done held.2, held.3, held.4, held.5)

      held_itself : (n o : ℕ) → Contains group.members n → Owner number o → Held (number ∷ done) n o
      held_itself n o has own = (number, group, contains_first number done, at, has, own)

      -- the holder is this group, or one that was done before
      same_group : (held : Group) → StandsAt groups number held → held ≡ group
      same_group held here = let both : Some held ≡ Some group = sym here ∙ at in cc

      held_back : (n o : ℕ) → Held (number ∷ done) n o
          → Held done n o ⊎ (Contains group.members n × Owner number o)
      held_back n o held = elim (contains_cases number held.0 done held.2) [
        | inl is ↦
            let here : StandsAt groups number held.1 =
            subst (λ (h : ℕ). StandsAt groups h held.1) (sym is) held.3 in
            inr (
              subst (λ (g : Group). Contains g.members n) (same_group held.1 here) held.4,
              subst (λ (h : ℕ). Owner h o) (sym is) held.5,
            )
        | inr rest ↦ inl (held.0, held.1, rest, held.3, held.4, held.5)
      ]

      behind_member : (n : ℕ) → n < length groups → n ≢ number → (Contains done n → ⊥) → Contains group.members n
          → Sums (owned_at new n) (Held (number ∷ done) n)
      behind_member n inside differ never has =
          let listed : Contains (members_at groups number) n =
          subst (λ (xs : List ℕ). Contains xs n) (sym its_members) has in
          let before : Sums (owned_at turned n) (Held done n) =
          subst (λ (o : Owned). Sums o (Held done n)) (sym (turned_other n differ))
          (passed.behind n inside (none_listed n done never)) in
          subst (λ (o : Owned). Sums o (Held (number ∷ done) n)) (sym (reached n inside listed))
          (sums_alike (joined (owned_at turned n) own) (λ (o : ℕ). Held done n o ⊎ Owner number o)
          (Held (number ∷ done) n)
          (λ o either. elim either [ inl held ↦ held_on n o held | inr owns ↦ held_itself n o has owns ])
          (λ o held. elim (held_back n o held) [ inl rest ↦ inl rest | inr here ↦ inr here.1 ])
          (joined_sums (owned_at turned n) own (Held done n) (Owner number) before own_sums))

      behind_other : (n : ℕ) → n < length groups → n ≢ number → (Contains done n → ⊥)
          → (Contains group.members n → ⊥) → Sums (owned_at new n) (Held (number ∷ done) n)
      behind_other n inside differ never stranger =
          subst (λ (o : Owned). Sums o (Held (number ∷ done) n))
          (sym (unmet n inside (λ has. stranger (member_of n has)) ∙ turned_other n differ))
          (sums_alike (owned_at old n) (Held done n) (Held (number ∷ done) n) (λ o held. held_on n o held)
          (λ o held. elim (held_back n o held) [ inl rest ↦ rest | inr here ↦ absurd (stranger here.0) ])
          (passed.behind n inside (none_listed n done never)))

      behind_by : (n : ℕ) (b : Bool) → list_any (nat_eq n) group.members ≡ b → n < length groups → n ≢ number
          → (Contains done n → ⊥) → Sums (owned_at new n) (Held (number ∷ done) n)
      behind_by n true e inside differ never =
          behind_member n inside differ never (Contains-from_any same_number n group.members e)
      behind_by n false e inside differ never =
          behind_other n inside differ never (λ has. let more = any_listed n group.members has in absurd (cc))

      pub passed_on : ArePassed groups finished (number ∷ done) new
      passed_on = record {
        each = passes.each ∙ same_length;
        before = λ n inside has.
            elim (contains_cases number n done (Contains-from_any same_number n (number ∷ done) has)) [
              | inl is ↦ subst (λ (k : ℕ). Sums (owned_at new k) (Owner k)) is before_itself
              | inr rest ↦ before_done n inside rest
            ];
        behind = λ n inside none.
            behind_by n (list_any (nat_eq n) group.members) refl inside
            (λ same. not_listed n (number ∷ done) none
            (subst (Contains (number ∷ done)) (sym same) (contains_first number done)))
            (λ has. not_listed n (number ∷ done) none (contains_rest number n done has));
      }

  -- .. whatever the group is
  pub turn_passed : (old new : List Owned) → ArePassed groups finished done old → PassesDown groups number old new
      → ArePassed groups finished (number ∷ done) new
  turn_passed old new passed passes =
      let here = some_stands groups number known in passed_on old new passed passes here.0 here.1

-- ---- all turns

-- nothing is known before the first turn
pub none_passed : (groups : List Group) (finished : List ℕ) (owners : List Owned) → length owners ≡ length groups
    → ((number : ℕ) → owned_at owners number ≡ owned.Nobody) → ArePassed groups finished [] owners
none_passed groups finished owners each none = record {
  each = each;
  before = λ number known has. absurd (cc);
  behind = λ number known has. subst (λ (o : Owned). Sums o (IsHeldBy groups finished [] number)) (sym (none number))
      (λ owner held. let inside = held.2.1 in omega (arith, inside));
}

-- when all groups had their turns, all is known
pub all_passed : (groups : List Group) (finished : List ℕ) (owners : List Owned) → AreOrdered groups finished
    → ArePassed groups finished finished owners → HaveOwners groups finished owners
all_passed groups finished owners ordered passed = record {
  each = passed.each;
  sums = λ number known. passed.before number known (any_listed number finished (ordered.all number known));
}
