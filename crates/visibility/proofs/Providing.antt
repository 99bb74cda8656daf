-- What is found in lists of units is what the relations say.
use Rattle.std.proofs.Common.{◌≡◌, ◌≢◌, ◌⊎◌, ◌∙◌, inl, inr, sym, ap, refl, subst, ℕ, ◌==◌, Bool, true, false, not, ◌&&◌, cond, List, [], ◌∷◌, map, eqb-true}
use Rattle.std.specs.Prelude.{Contains, filter, flat_map}
use Rattle.std.specs.List.{list_all}
use borrow.Author.Tests.{eqb-false, not-true, ne_eqb}
use Rattle.cm_base.specs.declared.record.ModName.{ModName}
use Rattle.cm_base.specs.declared.record.Skeleton.{Skeleton}
use Rattle.cm_conditions.specs.Values.{same_module, has_module}
use Rattle.cm_description.specs.declared.loaded.Export.{Export}
use Rattle.cm_description.specs.declared.loaded.Project.{Project}
use Rattle.visibility.proofs.Among.{Member, to_member, from_member, filter_from, filter_to, map_from, map_to, flat_from, flat_to, has_to, has_from}
use Rattle.visibility.proofs.ModuleNames.{both, module_is, own_module}
use Rattle.visibility.specs.Laws.{DefinersAreFound, OthersAreFound, ExportsAreFound, FoundProvides, ProviderIsFound}
use Rattle.visibility.specs.Projects.{sources, members, group_of, defined_by}
use Rattle.visibility.specs.Providers.{definers, other_definers, exports_at, exports_among, exported_under, units_under, found_in, or_else, provider_of, IsDefiner, IsOtherDefiner, IsExportedUnder, HoldsOfOne, HoldsOfNone, HoldsOfSeveral, Finds, Provides}
use Rattle.visibility.specs.declared.found.Found.{Found}
use Rattle.visibility.specs.declared.found.Found.TheVariants as found

-- ---- units as a set

-- of units that are all one, each is that one
only_one : (v : ℕ) (more : List ℕ) (w : ℕ) → list_all (λ x. v == x) more ≡ true → Member more w → w ≡ v
only_one v [] w all h = absurd h
only_one v (x ∷ more) w all (inl same) =
    sym same ∙ sym (eqb-true v x (both (v == x) (list_all (λ y. v == y) more) all).0)
only_one v (x ∷ more) w all (inr h) = only_one v more w (both (v == x) (list_all (λ y. v == y) more) all).1 h

-- another unit, of units that aren't all one
pub record Another (v : ℕ) (more : List ℕ) : Type 0 where
  pub unit : ℕ
  pub among : Member more unit
  pub apart : v ≢ unit

another_on : (v x : ℕ) (more : List ℕ) → Another v more → Another v (x ∷ more)
another_on v x more a = record { unit = a.unit; among = inr a.among; apart = a.apart }

another_by : (v x : ℕ) (more : List ℕ) (b : Bool) → (v == x) ≡ b
    → (list_all (λ y. v == y) more ≡ false → Another v more) → (b && list_all (λ y. v == y) more) ≡ false
    → Another v (x ∷ more)
another_by v x more true is rest h = another_on v x more (rest h)
another_by v x more false is rest h = record { unit = x; among = inl refl; apart = eqb-false v x is }

another : (v : ℕ) (more : List ℕ) → list_all (λ x. v == x) more ≡ false → Another v more
another v [] h = cc
another v (x ∷ more) h = another_by v x more (v == x) refl (another v more) h

first_alone : (P : ℕ → Type 0) (v : ℕ) (more : List ℕ) → ((w : ℕ) → P w → Member (v ∷ more) w)
    → list_all (λ x. v == x) more ≡ true → (w : ℕ) → (v ≡ w) ⊎ Member more w → w ≡ v
first_alone P v more to all w (inl same) = sym same
first_alone P v more to all w (inr h) = only_one v more w all h

found_by : (P : ℕ → Type 0) (v : ℕ) (more : List ℕ) → ((w : ℕ) → Member (v ∷ more) w → P w)
    → ((w : ℕ) → P w → Member (v ∷ more) w) → (b : Bool) → list_all (λ x. v == x) more ≡ b
    → Finds P (cond b (found.One v) found.Several)
found_by P v more so to true all = record {
  so = so v (inl refl);
  alone = λ w p. first_alone P v more to all w (to w p);
}
found_by P v more so to false all =
    let other = another v more all in
    record {
      first = v;
      second = other.unit;
      so = so v (inl refl);
      too = so other.unit (inr other.among);
      apart = other.apart;
    }

-- units of which a fact holds, and which are all of them
found_says : (P : ℕ → Type 0) (us : List ℕ) → ((w : ℕ) → Member us w → P w) → ((w : ℕ) → P w → Member us w)
    → Finds P (found_in us)
found_says P [] so to = to
found_says P (v ∷ more) so to = found_by P v more so to (list_all (λ x. v == x) more) refl

-- ---- definers

defines_so : (project : Project) (skeletons : List Skeleton) (g : ℕ) (name : ModName) (u : ℕ)
    → Member (definers project skeletons g name) u → IsDefiner project skeletons g name u
defines_so project skeletons g name u h =
    let parts = filter_to (λ v. has_module (defined_by skeletons v) name) (sources project g) u h in
    record {
      source = from_member (sources project g) u parts.0;
      named = from_member (defined_by skeletons u) name (has_to (defined_by skeletons u) name parts.1);
    }

defines_to : (project : Project) (skeletons : List Skeleton) (g : ℕ) (name : ModName) (u : ℕ)
    → IsDefiner project skeletons g name u → Member (definers project skeletons g name) u
defines_to project skeletons g name u is =
    filter_from (λ v. has_module (defined_by skeletons v) name) (sources project g) u
    (to_member (sources project g) u is.source)
    (has_from (defined_by skeletons u) name (to_member (defined_by skeletons u) name is.named))

pub definers_found : DefinersAreFound
definers_found project skeletons g name =
    found_says (IsDefiner project skeletons g name) (definers project skeletons g name)
    (defines_so project skeletons g name) (defines_to project skeletons g name)

pub others_found : OthersAreFound
others_found project skeletons u name =
    let g = group_of project u in
    let all = definers project skeletons g name in
    found_says (IsOtherDefiner project skeletons u name) (other_definers project skeletons g u name)
    (λ v h.
    let parts = filter_to (λ w. not (w == u)) all v h in
    record {
      definer = defines_so project skeletons g name v parts.0;
      other = eqb-false v u (not-true (v == u) parts.1);
    })
    (λ v is.
    filter_from (λ w. not (w == u)) all v (defines_to project skeletons g name v is.definer)
    (ap not (ne_eqb v u is.other)))

-- ---- exports

shown_so : (project : Project) (below : List (List Export)) (among : List ℕ) (name : ModName) (v : ℕ)
    → Member (exported_under project below among name) v → IsExportedUnder project below among name v
shown_so project below among name v h =
    let all = exports_among project below among in
    let got = map_to (λ (e : Export). e.unit) (filter (λ (e : Export). same_module e.name name) all) v h in
    let kept = filter_to (λ (e : Export). same_module e.name name) all got.item got.among in
    let from = flat_to (exports_at project below) among got.item kept.0 in
    record {
      member = from.item;
      listed = from_member among from.item from.among;
      export = got.item;
      shown = from_member (exports_at project below from.item) got.item from.has;
      called = module_is got.item.name name kept.1;
      under = got.is;
    }

shown_to : (project : Project) (below : List (List Export)) (among : List ℕ) (name : ModName) (v : ℕ)
    → IsExportedUnder project below among name v → Member (exported_under project below among name) v
shown_to project below among name v is =
    let all = exports_among project below among in
    subst (Member (exported_under project below among name)) is.under
    (map_from (λ (e : Export). e.unit) (filter (λ (e : Export). same_module e.name name) all) is.export
    (filter_from (λ (e : Export). same_module e.name name) all is.export
    (flat_from (exports_at project below) among is.member is.export (to_member among is.member is.listed)
    (to_member (exports_at project below is.member) is.export is.shown))
    (ap (λ n. same_module n name) is.called ∙ own_module name)))

pub exports_found : ExportsAreFound
exports_found project below among name =
    found_says (IsExportedUnder project below among name) (exported_under project below among name)
    (shown_so project below among name) (shown_to project below among name)

-- ---- providers

none_is : (P : ℕ → Type 0) (f : Found) → Finds P f → HoldsOfNone P → f ≡ found.Missing
none_is P found.Missing finds none = refl
none_is P (found.One v) finds none = absurd (none v finds.so)
none_is P found.Several finds none = absurd (none finds.first finds.so)

one_is : (P : ℕ → Type 0) (f : Found) (v : ℕ) → Finds P f → HoldsOfOne P v → f ≡ found.One v
one_is P found.Missing v finds one = absurd (finds v one.so)
one_is P (found.One w) v finds one = ap found.One (one.alone w finds.so)
one_is P found.Several v finds one =
    absurd (finds.apart (one.alone finds.first finds.so ∙ sym (one.alone finds.second finds.too)))

provides_by : (P Q : ℕ → Type 0) (f h : Found) (v : ℕ) → Finds P f → Finds Q h → or_else f h ≡ found.One v
    → HoldsOfOne P v ⊎ (HoldsOfNone P × HoldsOfOne Q v)
provides_by P Q found.Missing h v finds rest is = inr (finds, subst (Finds Q) is rest)
provides_by P Q (found.One w) h v finds rest is = inl (subst (Finds P) is finds)
provides_by P Q found.Several h v finds rest is = cc

found_for : (P Q : ℕ → Type 0) (f h : Found) (v : ℕ) → Finds P f → Finds Q h
    → HoldsOfOne P v ⊎ (HoldsOfNone P × HoldsOfOne Q v) → or_else f h ≡ found.One v
found_for P Q f h v finds rest (inl one) = ap (λ x. or_else x h) (one_is P f v finds one)
found_for P Q f h v finds rest (inr two) =
    ap (λ x. or_else x h) (none_is P f finds two.0) ∙ one_is Q h v rest two.1

pub found_provides : FoundProvides
found_provides project skeletons below u name v =
    let among = members project (group_of project u) in
    provides_by (IsOtherDefiner project skeletons u name) (IsExportedUnder project below among name)
    (found_in (other_definers project skeletons (group_of project u) u name))
    (found_in (exported_under project below among name)) v
    (others_found project skeletons u name) (exports_found project below among name)

pub provider_found : ProviderIsFound
provider_found project skeletons below u name v =
    let among = members project (group_of project u) in
    found_for (IsOtherDefiner project skeletons u name) (IsExportedUnder project below among name)
    (found_in (other_definers project skeletons (group_of project u) u name))
    (found_in (exported_under project below among name)) v
    (others_found project skeletons u name) (exports_found project below among name)
