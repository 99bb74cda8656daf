-- Environments in which no name of some owners stands.
use Rattle.std.proofs.Common.{◌≡◌, refl, sym, ap, ap₂, ◌∙◌, Bool, true, false, ◌&&◌, ◌||◌, List, [], ◌∷◌, Some, None, cond}
use Rattle.std.specs.Prelude.{not}
use Rattle.semantic_objects.specs.declared.name.Owner.{Owner}
use Rattle.semantic_objects.specs.declared.name.Owner.TheVariants as owner
use Rattle.semantic_objects.specs.declared.name.TyName.{TyName}
use Rattle.semantic_objects.specs.declared.symbol.Symbol.{Symbol}
use Rattle.semantic_objects.specs.declared.symbol.Symbol.TheVariants as symbol
use Rattle.semantic_objects.specs.Symbols.{same_name}
use Rattle.semantic_objects.specs.Trees.{Tree, Trees}
use Rattle.unification.proofs.Walking.{either_way}
use Rattle.env_parts.specs.Types.{holds_name, any_holds_name, names, is_bound, is_unit, facts_of, types_in}
use Rattle.env_parts.specs.declared.facts.Facts.{Facts}
use Rattle.sml_modules.specs.Items.{Item, IsEnv, item_facts}
use Rattle.realisation.specs.Environments.{Change, by_types}
use Rattle.realisation.specs.Realised.{Realisation, realised_tree, realised_trees, over_realised, put_function}
use Rattle.realisation.proofs.Listing.{Each, name_is}
use Rattle.realisation.proofs.Changing.{changed_agree, changed_stays, stays}
use Rattle.realisation.proofs.Realising.{by_types_stays}
use Rattle.type_walks.specs.declared.replacing.Replace.{Replace}
use Rattle.type_walks.specs.Replaced.{put_by, replacing}
use Rattle.environment_walks.specs.declared.owners.Owners.{Owners}
use Rattle.environment_walks.specs.Changing.{IsChanged, KeepsAllWith}
use Rattle.environment_walks.specs.Owners.{owned, no_owners, with_owner, with_owners, owners_of, stands_outside}

-- ---- truth values

and_or_left : (k a b : Bool) → k && (a || b) ≡ false → k && a ≡ false
and_or_left false a b h = refl
and_or_left true false b h = refl
and_or_left true true b h = absurd (cc)

and_or_right : (k a b : Bool) → k && (a || b) ≡ false → k && b ≡ false
and_or_right false a b h = refl
and_or_right true false b h = h
and_or_right true true b h = absurd (cc)

and_true : (k : Bool) → k && true ≡ false → k ≡ false
and_true false h = refl
and_true true h = absurd (cc)

not_true : (b : Bool) → not b ≡ true → b ≡ false
not_true false h = refl
not_true true h = absurd (cc)

and_left : (a b : Bool) → a && b ≡ true → a ≡ true
and_left true b h = refl
and_left false b h = absurd (cc)

and_right : (a b : Bool) → a && b ≡ true → b ≡ true
and_right true b h = h
and_right false b h = absurd (cc)

never : {A : Type 0} (b : Bool) → b ≡ true → b ≡ false → A
never b h k = absurd (cc)

-- ---- the owners of a list

owned_with : (o : Owners) (w x : Owner) → owned o x ≡ true → owned (with_owner o w) x ≡ true
owned_with o owner.Basis owner.Basis h = refl
owned_with o owner.Basis (owner.«Unit» u) h = h
owned_with o owner.Basis owner.Bound h = h
owned_with o (owner.«Unit» v) owner.Basis h = h
owned_with o (owner.«Unit» v) (owner.«Unit» u) h = refl
owned_with o (owner.«Unit» v) owner.Bound h = h
owned_with o owner.Bound owner.Basis h = h
owned_with o owner.Bound (owner.«Unit» u) h = h
owned_with o owner.Bound owner.Bound h = refl

owned_new : (o : Owners) (w : Owner) → owned (with_owner o w) w ≡ true
owned_new o owner.Basis = refl
owned_new o (owner.«Unit» u) = refl
owned_new o owner.Bound = refl

owned_more : (o : Owners) (list : List Replace) (x : Owner) → owned o x ≡ true → owned (with_owners o list) x ≡ true
owned_more o [] x h = h
owned_more o (r ∷ rs) x h = owned_more (with_owner o r.name.owner) rs x (owned_with o r.name.owner x h)

abbrev row_is : (r : Replace) (n : TyName) → same_name r.name n ≡ true → r.name.owner ≡ n.owner
row_is r n h = ap (λ (m : TyName). m.owner) (name_is r.name n h)

-- nothing is put for a name of another owner
none_for : (o : Owners) (list : List Replace) (n : TyName) → owned (with_owners o list) n.owner ≡ false
    → put_by list n ≡ None
none_for o [] n h = refl
none_for o (r ∷ rs) n h = either_way (same_name r.name n)
    (λ s. never (owned (with_owners o (r ∷ rs)) n.owner)
    (owned_more (with_owner o r.name.owner) rs n.owner
    (ap (owned (with_owner o r.name.owner)) (sym (row_is r n s)) ∙ owned_new o r.name.owner)) h)
    (λ s. ap (λ b. cond b (Some r.by) (put_by rs n)) s ∙ none_for (with_owner o r.name.owner) rs n h)

-- ---- types

owner_outside : (o : Owners) (w : Owner) → o.basis ≡ false → o.units && is_unit w ≡ false → o.bound && is_bound w ≡ false
    → owned o w ≡ false
owner_outside o owner.Basis h u b = h
owner_outside o (owner.«Unit» v) h u b = and_true o.units u
owner_outside o owner.Bound h u b = and_true o.bound b

over_kept : (o : Owners) (φ : Realisation) → ((n : TyName) → owned o n.owner ≡ false → φ n ≡ None) → o.basis ≡ false
    → (c : Symbol) (ts us : Trees) → o.units && names is_unit c ≡ false → o.bound && names is_bound c ≡ false → us ≡ ts
    → over_realised φ c us ≡ Tree.Made c ts
over_kept o φ f h symbol.Arrow ts us u b e = ap (Tree.Made symbol.Arrow) e
over_kept o φ f h (symbol.Record labels) ts us u b e = ap (Tree.Made (symbol.Record labels)) e
over_kept o φ f h (symbol.Name n) ts us u b e =
    ap (λ by. put_function n us by) (f n (owner_outside o n.owner h u b)) ∙ ap (Tree.Made (symbol.Name n)) e

mutual
  tree_kept : (o : Owners) (φ : Realisation) → ((n : TyName) → owned o n.owner ≡ false → φ n ≡ None) → o.basis ≡ false
      → (t : Tree) → o.units && holds_name is_unit t ≡ false → o.bound && holds_name is_bound t ≡ false
      → realised_tree φ t ≡ t
  tree_kept o φ f h (Tree.Bound i) u b = refl
  tree_kept o φ f h (Tree.Free n) u b = refl
  tree_kept o φ f h (Tree.Made c ts) u b = over_kept o φ f h c ts (realised_trees φ ts)
      (and_or_left o.units (names is_unit c) (any_holds_name is_unit ts) u)
      (and_or_left o.bound (names is_bound c) (any_holds_name is_bound ts) b)
      (trees_kept o φ f h ts (and_or_right o.units (names is_unit c) (any_holds_name is_unit ts) u)
      (and_or_right o.bound (names is_bound c) (any_holds_name is_bound ts) b))

  trees_kept : (o : Owners) (φ : Realisation) → ((n : TyName) → owned o n.owner ≡ false → φ n ≡ None) → o.basis ≡ false
      → (ts : Trees) → o.units && any_holds_name is_unit ts ≡ false → o.bound && any_holds_name is_bound ts ≡ false
      → realised_trees φ ts ≡ ts
  trees_kept o φ f h Trees.Nil u b = refl
  trees_kept o φ f h (Trees.Cons t ts) u b = ap₂ Trees.Cons
      (tree_kept o φ f h t (and_or_left o.units (holds_name is_unit t) (any_holds_name is_unit ts) u)
      (and_or_left o.bound (holds_name is_bound t) (any_holds_name is_bound ts) b))
      (trees_kept o φ f h ts (and_or_right o.units (holds_name is_unit t) (any_holds_name is_unit ts) u)
      (and_or_right o.bound (holds_name is_bound t) (any_holds_name is_bound ts) b))

-- ---- environments

each_kept : (o : Owners) (φ : Realisation) → ((n : TyName) → owned o n.owner ≡ false → φ n ≡ None) → o.basis ≡ false
    → (ts : List Tree) → o.units && (facts_of ts).has_unit_name ≡ false → o.bound && (facts_of ts).has_bound_name ≡ false
    → Each (λ t. realised_tree φ t ≡ t) ts
each_kept o φ f h [] u b = tt
each_kept o φ f h (t ∷ ts) u b = (
  tree_kept o φ f h t (and_or_left o.units (holds_name is_unit t) (facts_of ts).has_unit_name u)
      (and_or_left o.bound (holds_name is_bound t) (facts_of ts).has_bound_name b),
  each_kept o φ f h ts (and_or_right o.units (holds_name is_unit t) (facts_of ts).has_unit_name u)
      (and_or_right o.bound (holds_name is_bound t) (facts_of ts).has_bound_name b),
)

pub outside_kept : (list : List Replace) (owners : Owners) (facts : Facts) → owners ≡ owners_of list
    → stands_outside owners facts ≡ true → KeepsAllWith (replacing list) facts
outside_kept list owners facts is h env e =
    let o : Owners = owners_of list in
    let k : stands_outside o (facts_of (types_in env)) ≡ true =
    ap₂ stands_outside (sym is) e ∙ h in
    let all : Facts = facts_of (types_in env) in
    let rest : not (o.units && all.has_unit_name) && not (o.bound && all.has_bound_name) ≡ true =
    and_right (not o.basis) (not (o.units && all.has_unit_name) && not (o.bound && all.has_bound_name)) k in
    let basis : o.basis ≡ false = not_true o.basis
    (and_left (not o.basis) (not (o.units && all.has_unit_name) && not (o.bound && all.has_bound_name)) k) in
    changed_agree (λ t. realised_tree (put_by list) t ≡ t) (by_types (realised_tree (put_by list))) stays
    (by_types_stays (realised_tree (put_by list))) env
    (each_kept o (put_by list) (none_for no_owners list) basis (types_in env)
    (not_true (o.units && all.has_unit_name)
    (and_left (not (o.units && all.has_unit_name)) (not (o.bound && all.has_bound_name)) rest))
    (not_true (o.bound && all.has_bound_name)
    (and_right (not (o.units && all.has_unit_name)) (not (o.bound && all.has_bound_name)) rest)))
    ∙ changed_stays env

-- an item that is an environment with facts which tell that it stays
pub item_kept : (by : Change) (facts : Facts) (x : Item) → IsEnv x → facts ≡ item_facts x → KeepsAllWith by facts
    → IsChanged by x x
item_kept by facts (Item.EnvItem env) h e k = ap Item.EnvItem (sym (k env (sym e)))
item_kept by facts Item.Nowhere h e k = absurd h
item_kept by facts (Item.TypeItem x) h e k = absurd h
item_kept by facts (Item.ValueItem x) h e k = absurd h
item_kept by facts (Item.SignatureItem x) h e k = absurd h
item_kept by facts (Item.FunctorItem x) h e k = absurd h
item_kept by facts (Item.TopItem x) h e k = absurd h
