-- Each import has the unit that provides its name.
use Rattle.std.proofs.Common.{◌≡◌, ◌∙◌, sym, ap, refl, subst, inl, inr, ◌⊎◌, ℕ, Bool, true, false, not, ◌&&◌, ◌||◌, cond, List, [], ◌∷◌, ◌++◌, Result, Ok, Err}
use Rattle.cm_base.specs.Diags.{◌>>=◌}
use Rattle.cm_base.specs.declared.diag.Diag.{Diag}
use Rattle.cm_base.specs.declared.diag.Place.{Place}
use Rattle.cm_base.specs.declared.record.ModName.{ModName}
use Rattle.cm_base.specs.declared.record.Need.{Need}
use Rattle.cm_description.specs.declared.loaded.Wanted.{Wanted}
use Rattle.visibility.proofs.Among.{Member, append_to, to_member}
use Rattle.visibility.proofs.Providing.{found_provides}
use Rattle.visibility.specs.BuiltIn.{is_built_in}
use Rattle.visibility.specs.Imports.{collected, import_by, sees_basis}
use Rattle.visibility.specs.Laws.{ImportsAreProvided}
use Rattle.visibility.specs.Projects.{skeleton_of, spot_place, name_refused, unit_file}
use Rattle.visibility.specs.Providers.{provider_of, Provides}
use Rattle.visibility.specs.declared.found.Found.{Found}
use Rattle.visibility.specs.declared.found.Found.TheVariants as found

of_empty : (list : List Wanted) (w : Wanted) → ◌≡◌ {A = Result (List Wanted) Diag} (Ok []) (Ok list) → Member list w → ⊥
of_empty list w is h = let same : [] ≡ list = cc in subst (λ (l : List Wanted). Member l w) (sym same) h

nothing_by : (b : Bool) (diag : Diag) (list : List Wanted) (w : Wanted)
    → ◌≡◌ {A = Result (List Wanted) Diag} (cond b (Ok []) (Err diag)) (Ok list) → Member list w → ⊥
nothing_by true diag list w is h = of_empty list w is h
nothing_by false diag list w is h = cc

refused_by : (b : Bool) (diag : Diag) (list : List Wanted) (w : Wanted)
    → ◌≡◌ {A = Result (List Wanted) Diag} (cond b (Err diag) (Ok [])) (Ok list) → Member list w → ⊥
refused_by true diag list w is h = cc
refused_by false diag list w is h = of_empty list w is h

-- an import is that of a name with one provider
pub record IsFound (f : Found) (need : Need) (w : Wanted) : Type 0 where
  pub provider : f ≡ found.One w.provider
  pub name : w.name ≡ need.spot.name

one_of : (need : Need) (v : ℕ) (w : Wanted) → Member (record { name = need.spot.name; provider = v } ∷ []) w
    → IsFound (found.One v) need w
one_of need v w (inl same) = record {
  provider = ap (λ (x : Wanted). found.One x.provider) same;
  name = sym (ap (λ (x : Wanted). x.name) same);
}
one_of need v w (inr more) = absurd more

found_by : (basis : Bool) (at : Place) (need : Need) (f : Found) (list : List Wanted) (w : Wanted)
    → import_by basis at need f ≡ Ok list → Member list w → IsFound f need w
found_by basis at need (found.One v) list w is h =
    let item : Wanted = record { name = need.spot.name; provider = v } in
    let same : (item ∷ []) ≡ list = cc in
    one_of need v w (subst (λ (l : List Wanted). Member l w) (sym same) h)
found_by basis at need found.Several list w is h =
    absurd (refused_by need.sure (name_refused 23 at need.spot.name) list w is h)
found_by basis at need found.Missing list w is h =
    absurd (nothing_by (not need.sure || (basis && is_built_in need.spot.name))
    (name_refused 24 at need.spot.name) list w is h)

collected_by : (P : Wanted → Type 0) (a b : Result (List Wanted) Diag)
    → ((list : List Wanted) (w : Wanted) → a ≡ Ok list → Member list w → P w)
    → ((list : List Wanted) (w : Wanted) → b ≡ Ok list → Member list w → P w)
    → (list : List Wanted) (w : Wanted) → (a >>= (λ here. b >>= (λ more. Ok (here ++ more)))) ≡ Ok list → Member list w
    → P w
collected_by P (Ok here) (Ok more) first rest list w is h =
    let same : here ++ more ≡ list = cc in
    elim (append_to here more w (subst (λ (l : List Wanted). Member l w) (sym same) h)) [
      | inl m ↦ first here w refl m
      | inr m ↦ rest more w refl m
    ]
collected_by P (Ok here) (Err diag) first rest list w is h = cc
collected_by P (Err diag) b first rest list w is h = cc

-- what holds of each item of each step holds of all items
collected_all : (P : Wanted → Type 0) (step : Need → Result (List Wanted) Diag)
    → ((need : Need) (list : List Wanted) (w : Wanted) → step need ≡ Ok list → Member list w → P w)
    → (needs : List Need) (list : List Wanted) (w : Wanted) → collected step needs ≡ Ok list → Member list w → P w
collected_all P step each [] list w is h = absurd (of_empty list w is h)
collected_all P step each (need ∷ needs) list w is h =
    collected_by P (step need) (collected step needs) (each need) (collected_all P step each needs) list w is h

pub imports_provided : ImportsAreProvided
imports_provided project skeletons below u imports import is among =
    let step = λ (need : Need). import_by (sees_basis project u) (spot_place (unit_file project u) need.spot) need
    (provider_of project skeletons below u need.spot.name) in
    collected_all (λ (w : Wanted). Provides project skeletons below u w.name w.provider) step
    (λ need list w gives h.
    let found = found_by (sees_basis project u) (spot_place (unit_file project u) need.spot) need
    (provider_of project skeletons below u need.spot.name) list w gives h in
    subst (λ (n : ModName). Provides project skeletons below u n w.provider) (sym found.name)
    (found_provides project skeletons below u need.spot.name w.provider found.provider))
    (skeleton_of skeletons u).free imports import is (to_member imports import among)
