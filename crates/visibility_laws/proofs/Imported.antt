-- The imports of a unit are those of the relation, and so is its refusal.
use Rattle.std.proofs.Common.{◌≡◌, ◌∙◌, inl, inr, sym, ap, ap₂, refl, ℕ, Bool, true, false, not, ◌&&◌, ◌||◌, cond, List, [], ◌∷◌, Result, Ok, Err}
use Rattle.cm_base.specs.declared.diag.Diag.{Diag}
use Rattle.cm_base.specs.declared.diag.Place.{Place}
use Rattle.cm_base.specs.declared.record.ModName.{ModName}
use Rattle.cm_base.specs.declared.record.Need.{Need}
use Rattle.cm_base.specs.declared.record.Skeleton.{Skeleton}
use Rattle.cm_description.specs.declared.loaded.Export.{Export}
use Rattle.cm_description.specs.declared.loaded.Project.{Project}
use Rattle.cm_description.specs.declared.loaded.Wanted.{Wanted}
use Rattle.visibility.proofs.Among.{from_member, to_member}
use Rattle.visibility.proofs.ModuleNames.{both}
use Rattle.visibility.proofs.Providing.{exports_found, found_provides, others_found}
use Rattle.visibility.specs.BuiltIn.{is_built_in}
use Rattle.visibility.specs.Imports.{import_by, sees_basis}
use Rattle.visibility.specs.Projects.{group_of, members, name_refused, skeleton_of, spot_place, unit_file}
use Rattle.visibility.specs.Providers.{exported_under, found_in, other_definers, provider_of, IsOtherDefiner}
use Rattle.visibility.specs.declared.found.Found.{Found}
use Rattle.visibility.specs.declared.found.Found.TheVariants as found
use Rattle.visibility_laws.proofs.Either.{FindsOrElse, finds_or_else, none_found, not_none_one, not_several_one, one_found, several_found}
use Rattle.visibility_laws.proofs.Stepping.{Fixes, Says, all_results, given_from, given_to, refused_from, refused_to}
use Rattle.visibility_laws.specs.Behind.{IsAmbiguous, IsShownTo, IsUnbound}
use Rattle.visibility_laws.specs.Importing.{IsImport, IsLeftOut, IsSeenBuiltIn, Refuses}
use Rattle.visibility_laws.specs.Laws.{ImportsAreRefused, ImportsAreThese, ProvidedAreImported}

-- what is found for a unit
provider_finds : (project : Project) (skeletons : List Skeleton) (below : List (List Export)) (u : ℕ) (name : ModName)
    → FindsOrElse (IsOtherDefiner project skeletons u name) (IsShownTo project below u name)
    (provider_of project skeletons below u name)
provider_finds project skeletons below u name =
    let g = group_of project u in
    finds_or_else (IsOtherDefiner project skeletons u name) (IsShownTo project below u name)
    (found_in (other_definers project skeletons g u name))
    (found_in (exported_under project below (members project g) name))
    (others_found project skeletons u name) (exports_found project below (members project g) name)

-- the step of a name
abbrev step_of : Project → List Skeleton → List (List Export) → ℕ → Need → Result (List Wanted) Diag
step_of project skeletons below u need =
    import_by (sees_basis project u) (spot_place (unit_file project u) need.spot) need
    (provider_of project skeletons below u need.spot.name)

-- ---- what a step does

module _ (project : Project) (skeletons : List Skeleton) (below : List (List Export)) (u : ℕ) where
  abbrev Does : Need → Result (List Wanted) Diag → Type 0
  Does = Says (IsImport project skeletons below u) (IsLeftOut project skeletons below u)
      (Refuses project skeletons below u)

  abbrev at : Need → Place
  at need = spot_place (unit_file project u) need.spot

  several_by : (need : Need) (sure : Bool) → need.sure ≡ sure → IsAmbiguous project skeletons below u need.spot.name
      → Does need (cond sure (Err (name_refused 23 (at need) need.spot.name)) (Ok []))
  several_by need true is several = record { sure = is; why = inl (several, refl) }
  several_by need false is several = record {
    none = λ v provides. not_several_one (IsOtherDefiner project skeletons u need.spot.name)
        (IsShownTo project below u need.spot.name) v several provides;
    why = inl is;
  }

  missing_by : (need : Need) (sure seen : Bool) → need.sure ≡ sure
      → (sees_basis project u && is_built_in need.spot.name) ≡ seen → IsUnbound project skeletons below u need.spot.name
      → Does need (cond (not sure || seen) (Ok []) (Err (name_refused 24 (at need) need.spot.name)))
  missing_by need false seen is_sure is_seen none = record {
    none = λ v provides. not_none_one (IsOtherDefiner project skeletons u need.spot.name)
        (IsShownTo project below u need.spot.name) v none provides;
    why = inl is_sure;
  }
  missing_by need true true is_sure is_seen none =
      let parts = both (sees_basis project u) (is_built_in need.spot.name) is_seen in
      record {
        none = λ v provides. not_none_one (IsOtherDefiner project skeletons u need.spot.name)
            (IsShownTo project below u need.spot.name) v none provides;
        why = inr (none, record { sees = parts.0; built_in = parts.1 });
      }
  missing_by need true false is_sure is_seen none = record {
    sure = is_sure;
    why = inr (
      none,
      λ seen. let t : (sees_basis project u && is_built_in need.spot.name) ≡ true = ap₂ ◌&&◌ seen.sees seen.built_in in
          let clash : true ≡ false = sym t ∙ is_seen in cc,
      refl,
    );
  }

  does_by : (need : Need) (f : Found)
      → FindsOrElse (IsOtherDefiner project skeletons u need.spot.name) (IsShownTo project below u need.spot.name) f
      → Does need (import_by (sees_basis project u) (at need) need f)
  does_by need (found.One v) finds = record { name = refl; provider = finds }
  does_by need found.Several finds = several_by need need.sure refl finds
  does_by need found.Missing finds =
      missing_by need need.sure (sees_basis project u && is_built_in need.spot.name) refl refl finds

  says_of : (need : Need) → Does need (step_of project skeletons below u need)
  says_of need =
      does_by need (provider_of project skeletons below u need.spot.name)
      (provider_finds project skeletons below u need.spot.name)

  gives_of : (need : Need) (import : Wanted) → IsImport project skeletons below u need import
      → step_of project skeletons below u need ≡ Ok (import ∷ [])
  gives_of need import is =
      ap (import_by (sees_basis project u) (at need) need)
      (one_found (IsOtherDefiner project skeletons u need.spot.name) (IsShownTo project below u need.spot.name)
      (provider_of project skeletons below u need.spot.name) import.provider
      (provider_finds project skeletons below u need.spot.name) is.provider)
      ∙ ap (λ (n : ModName). let w : Wanted = record { name = n; provider = import.provider } in
      let list : Result (List Wanted) Diag = Ok (w ∷ []) in list) (sym is.name)

  unsure_by : (need : Need) (f : Found) → need.sure ≡ false → ((v : ℕ) → f ≡ found.One v → ⊥)
      → import_by (sees_basis project u) (at need) need f ≡ Ok []
  unsure_by need (found.One v) unsure none = absurd (none v refl)
  unsure_by need found.Several unsure none =
      ap (λ b. cond b (Err (name_refused 23 (at need) need.spot.name)) (Ok [])) unsure
  unsure_by need found.Missing unsure none =
      ap (λ b. cond (not b || (sees_basis project u && is_built_in need.spot.name)) (Ok [])
      (Err (name_refused 24 (at need) need.spot.name))) unsure

  or_true : (b : Bool) → (b || true) ≡ true
  or_true true = refl
  or_true false = refl

  -- a name that no unit provides
  missing_is : (need : Need) → IsUnbound project skeletons below u need.spot.name
      → step_of project skeletons below u need
      ≡ cond (not need.sure || (sees_basis project u && is_built_in need.spot.name)) (Ok [])
      (Err (name_refused 24 (at need) need.spot.name))
  missing_is need none =
      ap (import_by (sees_basis project u) (at need) need)
      (none_found (IsOtherDefiner project skeletons u need.spot.name) (IsShownTo project below u need.spot.name)
      (provider_of project skeletons below u need.spot.name)
      (provider_finds project skeletons below u need.spot.name) none)

  nothing_of : (need : Need) → IsLeftOut project skeletons below u need → step_of project skeletons below u need ≡ Ok []
  nothing_of need left = elim left.why [
    | inl unsure ↦ unsure_by need (provider_of project skeletons below u need.spot.name) unsure
        (λ v is. left.none v (found_provides project skeletons below u need.spot.name v is))
    | inr two ↦
        missing_is need two.0
        ∙ ap (λ b. cond (not need.sure || b) (Ok []) (Err (name_refused 24 (at need) need.spot.name)))
        (ap₂ ◌&&◌ two.1.sees two.1.built_in)
        ∙ ap (λ b. cond b (Ok []) (Err (name_refused 24 (at need) need.spot.name))) (or_true (not need.sure))
  ]

  unseen_by : (need : Need) (sees built : Bool) → sees_basis project u ≡ sees → is_built_in need.spot.name ≡ built
      → (IsSeenBuiltIn project u need.spot.name → ⊥) → (sees && built) ≡ false
  unseen_by need true true is_sees is_built unseen = absurd (unseen (record { sees = is_sees; built_in = is_built }))
  unseen_by need true false is_sees is_built unseen = refl
  unseen_by need false built is_sees is_built unseen = refl

  refuses_of : (need : Need) (diag : Diag) → Refuses project skeletons below u need diag
      → step_of project skeletons below u need ≡ Err diag
  refuses_of need diag refuses = elim refuses.why [
    | inl two ↦
        ap (import_by (sees_basis project u) (at need) need)
        (several_found (IsOtherDefiner project skeletons u need.spot.name) (IsShownTo project below u need.spot.name)
        (provider_of project skeletons below u need.spot.name)
        (provider_finds project skeletons below u need.spot.name) two.0)
        ∙ ap (λ b. cond b (Err (name_refused 23 (at need) need.spot.name)) (Ok [])) refuses.sure
        ∙ ap Err (sym two.1)
    | inr three ↦
        missing_is need three.0
        ∙ ap₂ (λ a b. cond (not a || b) (Ok []) (Err (name_refused 24 (at need) need.spot.name))) refuses.sure
        (unseen_by need (sees_basis project u) (is_built_in need.spot.name) refl refl three.1)
        ∙ ap Err (sym three.2)
  ]

  fixed : Fixes (IsImport project skeletons below u) (IsLeftOut project skeletons below u)
      (Refuses project skeletons below u) (step_of project skeletons below u)
  fixed = record { says = says_of; gives = gives_of; nothing = nothing_of; refuses = refuses_of }

-- ---- the laws

pub imports_are_these : ImportsAreThese
imports_are_these project skeletons below u imports = (
  given_from (IsImport project skeletons below u) (IsLeftOut project skeletons below u)
      (Refuses project skeletons below u) (step_of project skeletons below u) (fixed project skeletons below u)
      (skeleton_of skeletons u).free imports,
  given_to (IsImport project skeletons below u) (IsLeftOut project skeletons below u)
      (Refuses project skeletons below u) (step_of project skeletons below u) (fixed project skeletons below u)
      (skeleton_of skeletons u).free imports,
)

pub imports_are_refused : ImportsAreRefused
imports_are_refused project skeletons below u diag = (
  refused_from (IsImport project skeletons below u) (IsLeftOut project skeletons below u)
      (Refuses project skeletons below u) (step_of project skeletons below u) (fixed project skeletons below u)
      (skeleton_of skeletons u).free diag,
  refused_to (IsImport project skeletons below u) (IsLeftOut project skeletons below u)
      (Refuses project skeletons below u) (step_of project skeletons below u) (fixed project skeletons below u)
      (skeleton_of skeletons u).free diag,
)

pub provided_are_imported : ProvidedAreImported
provided_are_imported project skeletons below u imports need v is among provides =
    from_member imports (record { name = need.spot.name; provider = v })
    (all_results (IsImport project skeletons below u) (IsLeftOut project skeletons below u)
    (Refuses project skeletons below u) (step_of project skeletons below u) (fixed project skeletons below u)
    (skeleton_of skeletons u).free imports need (record { name = need.spot.name; provider = v })
    ((imports_are_these project skeletons below u imports).0 is)
    (to_member (skeleton_of skeletons u).free need among) (record { name = refl; provider = provides }))
