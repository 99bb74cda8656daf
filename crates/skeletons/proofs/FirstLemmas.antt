-- Each name at the first of its places, as a list grows at its end.
use Rattle.std.proofs.Common.{◌≡◌, ◌∙◌, sym, ap, ap₂, refl, inl, inr, Bool, true, false, not, ◌&&◌, ◌||◌, cond, List, [], ◌∷◌, ◌++◌, ℕ, zero, suc, ◌+◌, ◌<◌, length, get_or, drop, arith}
use Rattle.std.specs.List.{list_any}
use Rattle.std.proofs.lemmas.Bool.{cases_Bool}
use Rattle.cm_base.specs.declared.record.ModName.{ModName}
use Rattle.cm_base.specs.declared.record.Spot.{Spot}
use Rattle.cm_base.specs.declared.record.Need.{Need}
use Rattle.skeletons.specs.Scopes.{same_name}
use Rattle.skeletons.specs.Skeletons.{has_name, others, firsts, is_sure_use}
use Rattle.skeletons.proofs.Counts.{same_names}

-- whether one of these places has a name
abbrev pub among : List Spot → ModName → Bool
among spots name = list_any (has_name name) spots

-- names are alike both ways
pub same_sym : (a b : ModName) → same_name a b ≡ same_name b a
same_sym a b =
    elim (cases_Bool (same_name a b)) [
      | inl is ↦ let e = same_names a b is in ap₂ same_name e (sym e)
      | inr other ↦ elim (cases_Bool (same_name b a)) [
        | inl is ↦ let e = same_names b a is in ap₂ same_name (sym e) e
        | inr none ↦ other ∙ sym none
      ]
    ]

-- one place before others, if it is taken
taken_append : (b : Bool) (x : Spot) (xs ys : List Spot) → cond b (x ∷ (xs ++ ys)) (xs ++ ys) ≡ cond b (x ∷ xs) xs ++ ys
taken_append true x xs ys = refl
taken_append false x xs ys = refl

-- the places of other names in two lists
others-append : (name : ModName) (xs ys : List Spot) → others name (xs ++ ys) ≡ others name xs ++ others name ys
others-append name [] ys = refl
others-append name (x ∷ xs) ys =
    ap (λ l. cond (not (has_name name x)) (x ∷ l) l) (others-append name xs ys)
    ∙ taken_append (not (has_name name x)) x (others name xs) (others name ys)

-- a place that has the name, or is among the others
among_step : (kept has found : Bool) (x : Spot) (xs : List Spot) (name : ModName) → has_name name x ≡ has
    → (kept ≡ false → has ≡ false) → among xs name ≡ found → among (cond kept (x ∷ xs) xs) name ≡ has || found
among_step true has found x xs name is none more = ap₂ (λ a b. a || b) is more
among_step false true found x xs name is none more = absurd (let no = none refl in cc)
among_step false false found x xs name is none more = more

-- a name stays among the places of the names other than another one
among-others : (other name : ModName) (spots : List Spot) → same_name other name ≡ false
    → among (others other spots) name ≡ among spots name
among-others other name [] differ = refl
among-others other name (x ∷ xs) differ =
    among_step (not (has_name other x)) (has_name name x) (among xs name) x (others other xs) name refl
    (λ gone. ap (λ n. same_name n name) (same_names x.name other (flip (has_name other x) gone)) ∙ differ)
    (among-others other name xs differ)
  where
    flip : (b : Bool) → not b ≡ false → b ≡ true
    flip true h = refl
    flip false h = sym h

-- what isn't among the places isn't among some of them
none_step : (kept has : Bool) (found rest : Bool) → has || found ≡ false → (found ≡ false → rest ≡ false) → cond kept (has || rest) rest ≡ false
none_step true true found rest h more = h
none_step true false found rest h more = more h
none_step false true found rest h more = absurd (cc)
none_step false false found rest h more = more h

-- one of these, if the first is kept
among_cond : (kept : Bool) (x : Spot) (xs : List Spot) (name : ModName)
    → among (cond kept (x ∷ xs) xs) name ≡ cond kept (has_name name x || among xs name) (among xs name)
among_cond true x xs name = refl
among_cond false x xs name = refl

none-others : (other name : ModName) (spots : List Spot) → among spots name ≡ false → among (others other spots) name ≡ false
none-others other name [] none = refl
none-others other name (x ∷ xs) none =
    among_cond (not (has_name other x)) x (others other xs) name
    ∙ none_step (not (has_name other x)) (has_name name x) (among xs name) (among (others other xs) name) none
    (none-others other name xs)

-- a place more, if its name is new
abbrev pub if_new : Bool → Spot → List Spot
if_new seen spot = cond seen [] (spot ∷ [])

-- the step of a list that begins with a place
first_step : (x : Spot) (found : List Spot) (spot : Spot) (seen : Bool) → among found spot.name ≡ seen
    → others x.name (found ++ if_new seen spot)
    ≡ others x.name found ++ if_new (has_name spot.name x || among (others x.name found) spot.name) spot
first_step x found spot true is =
    elim (cases_Bool (has_name spot.name x)) [
      | inl has ↦
          ap (others x.name) (append_nil found)
          ∙ sym (ap (λ b. others x.name found ++ if_new (b || among (others x.name found) spot.name) spot) has
          ∙ append_nil (others x.name found))
      | inr other ↦
          ap (others x.name) (append_nil found)
          ∙ sym (ap₂ (λ b c. others x.name found ++ if_new (b || c) spot) other
          (among-others x.name spot.name found other ∙ is) ∙ append_nil (others x.name found))
    ]
  where
    append_nil : (xs : List Spot) → xs ++ [] ≡ xs
    append_nil [] = refl
    append_nil (x ∷ xs) = ap (λ l. x ∷ l) (append_nil xs)
first_step x found spot false is =
    others-append x.name found (spot ∷ [])
    ∙ ap (λ l. others x.name found ++ l)
    (one (has_name x.name spot) (has_name spot.name x) (among (others x.name found) spot.name)
    (same_sym spot.name x.name) (none-others x.name spot.name found is))
  where
    one : (a b c : Bool) → a ≡ b → c ≡ false → cond (not a) (spot ∷ []) [] ≡ if_new (b || c) spot
    one true b c same none = ap (λ k. if_new (k || c) spot) same
    one false b c same none = sym (ap₂ (λ k l. if_new (k || l) spot) (sym same) none)

-- the first places of a list with one more
pub firsts-more : (spots : List Spot) (spot : Spot)
    → firsts (spots ++ spot ∷ []) ≡ firsts spots ++ if_new (among (firsts spots) spot.name) spot
firsts-more [] spot = refl
firsts-more (x ∷ xs) spot =
    ap (λ l. x ∷ others x.name l) (firsts-more xs spot)
    ∙ ap (λ l. x ∷ l) (first_step x (firsts xs) spot (among (firsts xs) spot.name) refl)

-- one of two lists
pub among-append : (xs ys : List Spot) (name : ModName) → among (xs ++ ys) name ≡ among xs name || among ys name
among-append [] ys name = refl
among-append (x ∷ xs) ys name =
    ap (λ b. has_name name x || b) (among-append xs ys name)
    ∙ or_assoc (has_name name x) (among xs name) (among ys name)
  where
    or_assoc : (a b c : Bool) → a || (b || c) ≡ (a || b) || c
    or_assoc true b c = refl
    or_assoc false b c = refl

-- a name that is put among others
pub one_more : (is_it found : Bool) → cond is_it true found ≡ found || (is_it || false)
one_more true true = refl
one_more true false = refl
one_more false true = refl
one_more false false = refl

-- a sure use is noted, or there is nothing to note
pub sure_more : (is_it found rest : Bool) → cond is_it true found || rest ≡ found || (is_it || rest)
sure_more true true rest = refl
sure_more true false rest = refl
sure_more false true rest = refl
sure_more false false rest = refl

-- the sure uses that are left at a place
left_at : (uses : List Need) (i : ℕ) (need : Need) (name : ModName) → i < length uses → need ≡ get_or uses i need
    → list_any (is_sure_use name) (drop i uses) ≡ is_sure_use name need || list_any (is_sure_use name) (drop (i + 1) uses)
left_at [] i need name lt here = absurd (omega arith)
left_at (first ∷ uses) zero need name lt here =
    ap (λ u. is_sure_use name u || list_any (is_sure_use name) uses) (sym here)
left_at (first ∷ uses) (suc i) need name lt here =
    left_at uses i need name (omega arith) here
    ∙ ap (λ n. is_sure_use name need || list_any (is_sure_use name) (drop n (first ∷ uses))) next
  where
    next : suc (i + 1) ≡ suc i + 1
    next = omega arith

-- a set of names with one name more, where its use is sure
pub sure_step : (uses : List Need) (i : ℕ) (need : Need) (name : ModName) (old new : Bool)
    → i < length uses → need ≡ get_or uses i need
    → new ≡ cond need.sure (cond (has_name name need.spot) true old) old
    → new || list_any (is_sure_use name) (drop (i + 1) uses) ≡ old || list_any (is_sure_use name) (drop i uses)
sure_step uses i need name old new lt here is =
    ap (λ b. b || list_any (is_sure_use name) (drop (i + 1) uses)) is
    ∙ more need.sure (has_name name need.spot) old (list_any (is_sure_use name) (drop (i + 1) uses))
    ∙ ap (λ b. old || b) (sym (left_at uses i need name lt here))
  where
    more : (sure is_it old rest : Bool) → cond sure (cond is_it true old) old || rest ≡ old || ((sure && is_it) || rest)
    more true is_it old rest = sure_more is_it old rest
    more false is_it true rest = refl
    more false is_it false rest = refl
