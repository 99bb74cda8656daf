-- The names that loading goes by lie outside the store.
use Rattle.std.proofs.Common.{◌≡◌, ◌∙◌, sym, ap, refl, ℕ, Bool, true, false, cond, List, [], ◌∷◌, Option, Some, None, drop}
use Rattle.std.specs.Prelude.{Result, Ok, Err, nat_lt, length}
use Rattle.std.specs.FinMap.{get}
use Rattle.std.proofs.lemmas.Bool.Decides.{Decides-eqb}
use Rattle.std.proofs.lemmas.Slice.Eq.{starts_is}
use Rattle.cm_base.specs.Diags.{whole_file, ◌>>=◌}
use Rattle.cm_base.specs.Files.{Files, is_stored, store_prefix, project_part}
use Rattle.cm_base.specs.declared.diag.Place.{Place}
use Rattle.cm_base.proofs.FileLemmas.{get-project_part}
use Rattle.cm_description.specs.declared.description.MemberEntry.{MemberEntry}
use Rattle.path_anchors.specs.Names.{Bindings, IsName, folder_path_of, parts_of, resolved}
use Rattle.path_anchors.specs.Pathconfig.{AreBindings, bindings_of, config_file, is_in_store}
use Rattle.path_anchors.proofs.NameLaws.{lies_in_project}
use Rattle.project_checks.specs.declared.limits.TheConstants.{PATHCONFIG}
use Rattle.project_loading.specs.Projects.{bound_by, class_of, command_place, found_of, frozen, member_name, options_of, or_refused, root_name}
use Rattle.project_loading.specs.declared.found.Found.{Found}
use Rattle.project_loading.proofs.Levels.{went_on}
use Rattle.loading_laws.specs.Laws.{AnchorsAreBindings, LoadingGoesByNames, NamesLieOutsideTheStore, SameProjectFiles}

-- ---- paths outside the store

store_begins : (rest : List ℕ) → is_in_store (parts_of (46 ∷ 99 ∷ 109 ∷ 47 ∷ rest)) ≡ true
store_begins rest = refl

stored_front : (path : List ℕ) → is_stored path ≡ true → path ≡ 46 ∷ 99 ∷ 109 ∷ 47 ∷ drop 4 path
unfolding is_stored store_prefix
stored_front path is = (starts_is Decides-eqb path (46 ∷ 99 ∷ 109 ∷ 47 ∷ []) true (sym is)).0 refl

outside_by : (path : List ℕ) (stored : Bool) → is_stored path ≡ stored → is_in_store (parts_of path) ≡ false
    → stored ≡ false
outside_by path false is outside = refl
outside_by path true is outside =
    let inside : is_in_store (parts_of path) ≡ true =
    ap (λ p. is_in_store (parts_of p)) (stored_front path is) ∙ store_begins (drop 4 path) in
    cc

-- a path whose first component isn't `.cm`
pub parts_outside : (path : List ℕ) → is_in_store (parts_of path) ≡ false → is_stored path ≡ false
parts_outside path outside = outside_by path (is_stored path) refl outside

-- a frozen file lies where its description does
pub frozen_stored : (path : List ℕ) → is_stored (frozen path) ≡ is_stored path
unfolding is_stored store_prefix frozen
frozen_stored [] = refl
frozen_stored (a ∷ []) = refl
frozen_stored (a ∷ b ∷ []) = refl
frozen_stored (a ∷ b ∷ c ∷ []) = refl
frozen_stored (a ∷ b ∷ c ∷ d ∷ rest) = refl

pub config_outside : is_stored config_file ≡ false
unfolding is_stored store_prefix config_file
config_outside = refl

pub part_same : (files : Files) → SameProjectFiles files (project_part files)
part_same files path outside =
    sym (get-project_part files path ∙ ap (λ b. cond b None (get files path)) outside)

-- ---- names

bound_anchors : (file : Option (List ℕ)) (anchors : Bindings) → bound_by file ≡ Ok anchors → AreBindings anchors
bound_anchors None anchors is = let same : [] ≡ anchors = cc in record { text = []; gives = ap Ok same }
bound_anchors (Some text) anchors is = by_size (nat_lt PATHCONFIG (length text)) is
  where
    by_size : (large : Bool) → cond large (Err (whole_file 12 config_file)) (bindings_of text) ≡ Ok anchors
        → AreBindings anchors
    by_size true is = cc
    by_size false is = record { text = text; gives = is }

pub anchors_bound : AnchorsAreBindings
anchors_bound files anchors is = bound_anchors (get files config_file) anchors is

resolved_by : (at : Place) (written : List ℕ) (r : Result (List ℕ) ℕ) (name : List ℕ)
    → or_refused at written r ≡ Ok name → r ≡ Ok name
resolved_by at written (Ok found) name is = let same : found ≡ name = cc in ap Ok same
resolved_by at written (Err number) name is = cc

root_is_name : (anchors : Bindings) (written name : List ℕ) → root_name anchors written ≡ Ok name → IsName anchors name
root_is_name anchors written name is = record {
  base = [];
  written = written;
  gives = resolved_by command_place written (resolved anchors [] written) name is;
}

-- what is found has the name that it was found by
found_by : (member : MemberEntry) (name : List ℕ) (found : Found)
    → (class_of member name >>= λ class. options_of member class >>= λ options.
    Ok (record { name = name; class = class; options = options })) ≡ Ok found → name ≡ found.name
found_by member name found is =
    let classed = went_on (class_of member name) (λ class. options_of member class >>= λ options.
    Ok (record { name = name; class = class; options = options })) found is in
    let whole = went_on (options_of member classed.0)
    (λ options. Ok (record { name = name; class = classed.0; options = options })) found classed.2 in
    let same : ◌≡◌ {A = Found} (record { name = name; class = classed.0; options = whole.0 }) found = cc (whole.2) in
    ap (λ (f : Found). f.name) same

found_is_name : (anchors : Bindings) (holder : List ℕ) (member : MemberEntry) (found : Found)
    → found_of anchors holder member ≡ Ok found → IsName anchors found.name
found_is_name anchors holder member found is =
    let named = went_on (member_name anchors holder member) (λ name. class_of member name >>= λ class.
    options_of member class >>= λ options. Ok (record { name = name; class = class; options = options })) found is in
    record {
      base = holder;
      written = member.path;
      gives = resolved_by member.at member.path (resolved anchors holder member.path) named.0 named.1
          ∙ ap Ok (found_by member named.0 found named.2);
    }

pub goes_by_names : LoadingGoesByNames
goes_by_names anchors = record { root = root_is_name anchors; member = found_is_name anchors }

pub names_outside : NamesLieOutsideTheStore
names_outside anchors name are is =
    let path = folder_path_of anchors name in
    let outside : is_stored path ≡ false = parts_outside path (lies_in_project anchors name are is).project in
    record { file = outside; beside = frozen_stored path ∙ outside }
