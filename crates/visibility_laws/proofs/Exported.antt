-- The exports of a group are those of the relation, and so is its refusal.
use Rattle.std.proofs.Common.{◌≡◌, ◌↔◌, ◌∙◌, inl, inr, sym, ap, ap₂, refl, subst, ℕ, cond, List, [], ◌∷◌, map, Option, Some, None, Result, Ok, Err}
use Rattle.std.specs.Prelude.{Contains, flat_map, slice_get}
use Rattle.std.specs.Ordering.{is_gt}
use Rattle.cm_base.specs.Diags.{◌>>=◌}
use Rattle.cm_base.specs.declared.diag.Diag.{Diag}
use Rattle.cm_base.specs.declared.diag.Place.{Place}
use Rattle.cm_base.specs.declared.record.Def.{Def}
use Rattle.cm_base.specs.declared.record.ModName.{ModName}
use Rattle.cm_base.specs.declared.record.Skeleton.{Skeleton}
use Rattle.cm_base.specs.declared.record.Spot.{Spot}
use Rattle.cm_description.specs.Answers.{is_empty}
use Rattle.cm_description.specs.declared.description.Entry.{Entry}
use Rattle.cm_description.specs.declared.loaded.Export.{Export}
use Rattle.cm_description.specs.declared.loaded.Group.{Group}
use Rattle.cm_description.specs.declared.loaded.Project.{Project}
use Rattle.visibility.proofs.Among.{Member, append_to, flat_from, flat_to, from_member, left_from, map_from, map_to, right_from, to_member}
use Rattle.visibility.proofs.Providing.{definers_found, exports_found}
use Rattle.visibility.specs.Choosing.{chosen_items}
use Rattle.visibility.specs.Exports.{behind_name, clash_diag, clash_in, default_exports, default_names, each_once, entry_export, entry_exports, export_by, exports_of, group_exports, in_name_order, name_cmp, names_there, recorded_or, same_export, shown_by, shown_list, subgroups, unless_clash}
use Rattle.visibility.specs.Imports.{collected}
use Rattle.visibility.specs.Projects.{defined_by, file_place, members, name_refused, sources}
use Rattle.visibility.specs.Providers.{definers, exported_under, exports_among, exports_at, found_in, HoldsOfNone, IsDefiner, IsExportedUnder}
use Rattle.visibility.specs.declared.found.Found.{Found}
use Rattle.visibility.specs.declared.found.Found.TheVariants as found
use Rattle.visibility_laws.proofs.Clashes.{apart_of, clash_is, is_clash, none_of}
use Rattle.visibility_laws.proofs.Either.{FindsOrElse, finds_or_else, none_found, one_found, several_found}
use Rattle.visibility_laws.proofs.NameLists.{neither_behind, not_behind_itself, once_from, once_to, one_export, order_rises, ordered_from, ordered_to}
use Rattle.visibility_laws.proofs.Stepping.{Fixes, Says, all_results, given_from, given_unrefused, refused_from, refused_to, results_of}
use Rattle.visibility_laws.specs.Behind.{AreSeveralBehind, IsBehind}
use Rattle.visibility_laws.specs.Exporting.{AreExports, IsExport, IsExportRefusal, IsNameRefusal, IsOfChosen, IsOfEntry, IsShown, IsShownRefusal, RefusesEntry}
use Rattle.visibility_laws.specs.Laws.{ExportsAreRefused, ExportsAreThese, FrozenExportsAreRecorded}
use Rattle.visibility_laws.specs.Steps.{AreGiven, IsFirstRefusal}

module _ (project : Project) (skeletons : List Skeleton) (below : List (List Export)) (g : ℕ) where
  -- ---- one name

  module _ (among : List ℕ) where
    abbrev behind : ModName → Found
    behind = behind_name project skeletons below g among

    behind_finds : (name : ModName)
        → FindsOrElse (IsDefiner project skeletons g name) (IsExportedUnder project below among name) (behind name)
    behind_finds name =
        finds_or_else (IsDefiner project skeletons g name) (IsExportedUnder project below among name)
        (found_in (definers project skeletons g name)) (found_in (exported_under project below among name))
        (definers_found project skeletons g name) (exports_found project below among name)

    abbrev Shows : ModName → Export → Type 0
    Shows = IsExport project skeletons below g among

    abbrev Refuses : Place → ModName → Diag → Type 0
    Refuses = IsNameRefusal project skeletons below g among

    -- no name is left out
    abbrev Leaves : ModName → Type 0
    Leaves name = ⊥

    says_by : (at : Place) (name : ModName) (f : Found)
        → FindsOrElse (IsDefiner project skeletons g name) (IsExportedUnder project below among name) f
        → Says Shows Leaves (Refuses at) name (export_by at name f)
    says_by at name (found.One v) finds = record { called = refl; unit = finds; read = refl }
    says_by at name found.Missing finds = inl (finds, refl)
    says_by at name found.Several finds = inr (finds, refl)

    gives_name : (at : Place) (name : ModName) (e : Export) → Shows name e
        → export_by at name (behind name) ≡ Ok (e ∷ [])
    gives_name at name e shows =
        ap (export_by at name)
        (one_found (IsDefiner project skeletons g name) (IsExportedUnder project below among name) (behind name) e.unit
        (behind_finds name) shows.unit)
        ∙ ap₂ (λ n h. let item : Export = record { name = n; unit = e.unit; hash = h } in
        let list : Result (List Export) Diag = Ok (item ∷ []) in list) (sym shows.called) (sym shows.read)

    refuses_name : (at : Place) (name : ModName) (diag : Diag) → Refuses at name diag
        → export_by at name (behind name) ≡ Err diag
    refuses_name at name diag (inl (none, is)) =
        ap (export_by at name)
        (none_found (IsDefiner project skeletons g name) (IsExportedUnder project below among name) (behind name)
        (behind_finds name) none)
        ∙ ap Err (sym is)
    refuses_name at name diag (inr (several, is)) =
        ap (export_by at name)
        (several_found (IsDefiner project skeletons g name) (IsExportedUnder project below among name) (behind name)
        (behind_finds name) several)
        ∙ ap Err (sym is)

    fixed_names : (at : Place) → Fixes Shows Leaves (Refuses at) (λ name. export_by at name (behind name))
    fixed_names at = record {
      says = λ name. says_by at name (behind name) (behind_finds name);
      gives = gives_name at;
      nothing = λ name none. absurd none;
      refuses = refuses_name at;
    }

  -- ---- entries

  abbrev OfEntry : List Entry → ℕ → Export → Type 0
  OfEntry = IsOfEntry project skeletons below g

  abbrev NoEntry : List Entry → ℕ → Type 0
  NoEntry entries n = slice_get entries n ≡ None

  abbrev RefusesOne : List Entry → ℕ → Diag → Type 0
  RefusesOne = RefusesEntry project skeletons below g

  abbrev entry_step : List Entry → ℕ → Result (List Export) Diag
  entry_step entries n = entry_export (behind (members project g)) (slice_get entries n)

  entry_found : (entries : List Entry) (n : ℕ) (entry : Entry) (f : Found) → slice_get entries n ≡ Some entry
      → FindsOrElse (IsDefiner project skeletons g entry.name)
      (IsExportedUnder project below (members project g) entry.name) f
      → Says (OfEntry entries) (NoEntry entries) (RefusesOne entries) n (export_by entry.at entry.name f)
  entry_found entries n entry (found.One v) is finds = record {
    entry = entry;
    there = is;
    exports = record { called = refl; unit = finds; read = refl };
  }
  entry_found entries n entry found.Missing is finds =
      record { entry = entry; there = is; refuses = inl (finds, refl) }
  entry_found entries n entry found.Several is finds =
      record { entry = entry; there = is; refuses = inr (finds, refl) }

  entry_by : (entries : List Entry) (n : ℕ) (o : Option Entry) → slice_get entries n ≡ o
      → Says (OfEntry entries) (NoEntry entries) (RefusesOne entries) n (entry_export (behind (members project g)) o)
  entry_by entries n None is = is
  entry_by entries n (Some entry) is =
      entry_found entries n entry (behind (members project g) entry.name) is
      (behind_finds (members project g) entry.name)

  fixed_entries : (entries : List Entry)
      → Fixes (OfEntry entries) (NoEntry entries) (RefusesOne entries) (entry_step entries)
  fixed_entries entries = record {
    says = λ n. entry_by entries n (slice_get entries n) refl;
    gives = λ n e of.
        ap (entry_export (behind (members project g))) of.there
        ∙ gives_name (members project g) of.entry.at of.entry.name e of.exports;
    nothing = λ n none. ap (entry_export (behind (members project g))) none;
    refuses = λ n diag refuses.
        ap (entry_export (behind (members project g))) refuses.there
        ∙ refuses_name (members project g) refuses.entry.at refuses.entry.name diag refuses.refuses;
  }

  -- ---- the chosen entries

  abbrev Chosen : List Entry → List ℕ → Export → Type 0
  Chosen = IsOfChosen project skeletons below g

  -- each item that is collected was read
  all_read : (entries : List Entry) (chosen : List ℕ) (all : List Export) (e : Export)
      → AreGiven (OfEntry entries) (NoEntry entries) chosen all → Member all e → e.hash ≡ None
  all_read entries chosen all e given m =
      (results_of (OfEntry entries) (NoEntry entries) chosen all e given m).gives.exports.read

  chosen_so : (entries : List Entry) (chosen : List ℕ) (all : List Export) (e : Export)
      → AreGiven (OfEntry entries) (NoEntry entries) chosen all → Contains (each_once same_export all) e
      → Chosen entries chosen e
  chosen_so entries chosen all e given c =
      let of = results_of (OfEntry entries) (NoEntry entries) chosen all e given
      (once_to same_export all e (to_member (each_once same_export all) e c)) in
      record { number = of.item; among = from_member chosen of.item of.among; of = of.gives }

  chosen_to : (entries : List Entry) (chosen : List ℕ) (all : List Export) (e : Export)
      → AreGiven (OfEntry entries) (NoEntry entries) chosen all → Chosen entries chosen e
      → Contains (each_once same_export all) e
  chosen_to entries chosen all e given of =
      let m = all_results (OfEntry entries) (NoEntry entries) (RefusesOne entries) (entry_step entries)
      (fixed_entries entries) chosen all of.number e given (to_member chosen of.number of.among) of.of in
      from_member (each_once same_export all) e
      (once_from same_export all e
      (λ x h same. one_export x e (all_read entries chosen all x given h) (all_read entries chosen all e given m) same)
      m)

  abbrev once_all : Result (List Export) Diag → Result (List Export) Diag
  once_all r = r >>= (λ all. Ok (each_once same_export all))

  entries_by : (entries : List Entry) (chosen : List ℕ) (r : Result (List Export) Diag) (exports : List Export)
      → collected (entry_step entries) chosen ≡ r → once_all r ≡ Ok exports
      → (e : Export) → Contains exports e ↔ Chosen entries chosen e
  entries_by entries chosen (Ok all) exports is h e =
      let same : each_once same_export all ≡ exports = cc in
      let given = given_from (OfEntry entries) (NoEntry entries) (RefusesOne entries) (entry_step entries)
      (fixed_entries entries) chosen all is in (
        λ c. chosen_so entries chosen all e given (subst (λ l. Contains l e) (sym same) c),
        λ of. subst (λ l. Contains l e) same (chosen_to entries chosen all e given of),
      )
  entries_by entries chosen (Err diag) exports is h e = cc

  entries_wrong : (entries : List Entry) (chosen : List ℕ) (r : Result (List Export) Diag) (diag : Diag)
      → collected (entry_step entries) chosen ≡ r → once_all r ≡ Err diag
      → IsFirstRefusal (RefusesOne entries) chosen diag
  entries_wrong entries chosen (Ok all) diag is h = cc
  entries_wrong entries chosen (Err other) diag is h =
      let same : other ≡ diag = cc in
      refused_from (OfEntry entries) (NoEntry entries) (RefusesOne entries) (entry_step entries)
      (fixed_entries entries) chosen diag (is ∙ ap Err same)

  wrong_entries : (entries : List Entry) (chosen : List ℕ) (diag : Diag)
      → IsFirstRefusal (RefusesOne entries) chosen diag
      → entry_exports (behind (members project g)) entries chosen ≡ Err diag
  wrong_entries entries chosen diag refusal =
      ap once_all (refused_to (OfEntry entries) (NoEntry entries) (RefusesOne entries) (entry_step entries)
      (fixed_entries entries) chosen diag refusal)

  -- ---- what a group shows by itself

  abbrev shown : List ModName
  shown = default_names project skeletons below g

  abbrev own : List ModName
  own = flat_map (defined_by skeletons) (sources project g)

  abbrev others : List ModName
  others = map (λ (e : Export). e.name) (exports_among project below (subgroups project g))

  defined_shown : (name : ModName) (v : ℕ) → IsDefiner project skeletons g name v → Member shown name
  defined_shown name v is =
      left_from own others name
      (flat_from (defined_by skeletons) (sources project g) v name (to_member (sources project g) v is.source)
      (to_member (defined_by skeletons v) name is.named))

  exported_shown : (name : ModName) (v : ℕ) → IsExportedUnder project below (subgroups project g) name v
      → Member shown name
  exported_shown name v is =
      right_from own others name
      (subst (Member others) is.called
      (map_from (λ (e : Export). e.name) (exports_among project below (subgroups project g)) is.export
      (flat_from (exports_at project below) (subgroups project g) is.member is.export
      (to_member (subgroups project g) is.member is.listed)
      (to_member (exports_at project below is.member) is.export is.shown))))

  behind_shown : (name : ModName) (v : ℕ) → IsBehind project skeletons below g (subgroups project g) name v
      → Member shown name
  behind_shown name v (inl one) = defined_shown name v one.so
  behind_shown name v (inr two) = exported_shown name v two.1.so

  several_shown : (name : ModName) → AreSeveralBehind project skeletons below g (subgroups project g) name
      → Member shown name
  several_shown name (inl several) = defined_shown name several.first several.so
  several_shown name (inr two) = exported_shown name two.1.first two.1.so

  abbrev default_step : List ℕ → ModName → Result (List Export) Diag
  default_step file name = export_by (file_place file) name (behind (subgroups project g) name)

  abbrev Default : Export → Type 0
  Default e = IsExport project skeletons below g (subgroups project g) e.name e

  abbrev subs : List ℕ
  subs = subgroups project g

  defaults_given : (file : List ℕ) (exports : List Export)
      → default_exports (behind subs) file shown ≡ Ok exports
      → AreGiven (Shows subs) (Leaves subs) (in_name_order shown) exports
  defaults_given file exports is =
      given_from (Shows subs) (Leaves subs) (Refuses subs (file_place file)) (default_step file)
      (fixed_names subs (file_place file)) (in_name_order shown) exports is

  defaults_are : (file : List ℕ) (exports : List Export)
      → default_exports (behind subs) file shown ≡ Ok exports → (e : Export) → Contains exports e ↔ Default e
  defaults_are file exports is e =
      let given = defaults_given file exports is in (
        λ c.
            let of = results_of (Shows subs) (Leaves subs) (in_name_order shown) exports e given
            (to_member exports e c) in
            subst (λ n. IsExport project skeletons below g subs n e) (sym of.gives.called) of.gives,
        λ shows. from_member exports e
            (all_results (Shows subs) (Leaves subs) (Refuses subs (file_place file)) (default_step file)
            (fixed_names subs (file_place file)) (in_name_order shown) exports e.name e given
            (ordered_from shown e.name (behind_shown e.name e.unit shows.unit)) shows),
      )

  none_defines : (name : ModName) → Member own name → HoldsOfNone (IsDefiner project skeletons g name) → ⊥
  none_defines name m none =
      let holds = flat_to (defined_by skeletons) (sources project g) name m in
      none holds.item (record {
        source = from_member (sources project g) holds.item holds.among;
        named = from_member (defined_by skeletons holds.item) name holds.has;
      })

  none_exports : (name : ModName) → Member others name → HoldsOfNone (IsExportedUnder project below subs name) → ⊥
  none_exports name m none =
      let got = map_to (λ (e : Export). e.name) (exports_among project below subs) name m in
      let holds = flat_to (exports_at project below) subs got.item got.among in
      none got.item.unit (record {
        member = holds.item;
        listed = from_member subs holds.item holds.among;
        export = got.item;
        shown = from_member (exports_at project below holds.item) got.item holds.has;
        called = got.is;
        under = refl;
      })

  -- a refused name of the order is one of several units
  only_several : (file : List ℕ) (name : ModName) (diag : Diag) → Member shown name
      → Refuses subs (file_place file) name diag
      → AreSeveralBehind project skeletons below g subs name × (diag ≡ name_refused 23 (file_place file) name)
  only_several file name diag m (inr two) = two
  only_several file name diag m (inl (none, is)) = elim (append_to own others name m) [
    | inl here ↦ absurd (none_defines name here none.0)
    | inr there ↦ absurd (none_exports name there none.1)
  ]

  -- the least of them is refused
  least_of : (file : List ℕ) (diag : Diag)
      → IsFirstRefusal (Refuses subs (file_place file)) (in_name_order shown) diag
      → IsShownRefusal project skeletons below g file [] [] diag
  least_of file diag (name, first, refused) =
      let m = ordered_to shown name
      (subst (λ l. Member l name) (sym first.split) (right_from first.before (name ∷ first.after) name (inl refl))) in
      let two = only_several file name diag m refused in (
        name,
        record {
          several = two.0;
          least = λ other several.
              let place = subst (λ l. Member l other) first.split
              (ordered_from shown other (several_shown other several)) in
              elim (append_to first.before (name ∷ first.after) other place) [
                | inl early ↦ absurd (first.none other (from_member first.before other early)
                    (name_refused 23 (file_place file) other, inr (several, refl)))
                | inr rest ↦ elim rest [
                  | inl same ↦ ap (λ n. is_gt (name_cmp name n)) (sym same) ∙ not_behind_itself name
                  | inr late ↦ order_rises shown first.before name first.after other first.split late
                ]
              ];
        },
        two.1,
      )

  defaults_wrong : (file : List ℕ) (diag : Diag) → default_exports (behind subs) file shown ≡ Err diag
      → IsShownRefusal project skeletons below g file [] [] diag
  defaults_wrong file diag is =
      least_of file diag (refused_from (Shows subs) (Leaves subs) (Refuses subs (file_place file)) (default_step file)
      (fixed_names subs (file_place file)) (in_name_order shown) diag is)

  -- two least names are one
  one_least : (file : List ℕ) (diag other : Diag) → IsShownRefusal project skeletons below g file [] [] diag
      → IsShownRefusal project skeletons below g file [] [] other → diag ≡ other
  one_least file diag other one two =
      let same = neither_behind one.0 two.0 (one.1.least two.0 two.1.several) (two.1.least one.0 one.1.several) in
      one.2 ∙ ap (name_refused 23 (file_place file)) same ∙ sym two.2

  wrong_by : (file : List ℕ) (diag : Diag) (r : Result (List Export) Diag)
      → default_exports (behind subs) file shown ≡ r → IsShownRefusal project skeletons below g file [] [] diag
      → r ≡ Err diag
  wrong_by file diag (Ok exports) is refusal =
      absurd (given_unrefused (Shows subs) (Leaves subs) (Refuses subs (file_place file)) (default_step file)
      (fixed_names subs (file_place file)) (in_name_order shown) exports refusal.0 (defaults_given file exports is)
      (ordered_from shown refusal.0 (several_shown refusal.0 refusal.1.several))
      (name_refused 23 (file_place file) refusal.0) (inr (refusal.1.several, refl)))
  wrong_by file diag (Err other) is refusal = ap Err (one_least file other diag (defaults_wrong file other is) refusal)

  -- ---- either

  shown_so : (file : List ℕ) (entries : List Entry) (chosen : List ℕ) (exports : List Export)
      → cond (is_empty entries) (default_exports (behind subs) file shown)
      (entry_exports (behind (members project g)) entries chosen) ≡ Ok exports
      → (e : Export) → Contains exports e ↔ IsShown project skeletons below g entries chosen e
  shown_so file [] chosen exports is = defaults_are file exports is
  shown_so file (entry ∷ entries) chosen exports is =
      entries_by (entry ∷ entries) chosen (collected (entry_step (entry ∷ entries)) chosen) exports refl is

  shown_wrong : (file : List ℕ) (entries : List Entry) (chosen : List ℕ) (diag : Diag)
      → cond (is_empty entries) (default_exports (behind subs) file shown)
      (entry_exports (behind (members project g)) entries chosen) ≡ Err diag
      → IsShownRefusal project skeletons below g file entries chosen diag
  shown_wrong file [] chosen diag is = defaults_wrong file diag is
  shown_wrong file (entry ∷ entries) chosen diag is =
      entries_wrong (entry ∷ entries) chosen (collected (entry_step (entry ∷ entries)) chosen) diag refl is

  wrong_shown : (file : List ℕ) (entries : List Entry) (chosen : List ℕ) (diag : Diag)
      → IsShownRefusal project skeletons below g file entries chosen diag
      → cond (is_empty entries) (default_exports (behind subs) file shown)
      (entry_exports (behind (members project g)) entries chosen) ≡ Err diag
  wrong_shown file [] chosen diag refusal =
      wrong_by file diag (default_exports (behind subs) file shown) refl refusal
  wrong_shown file (entry ∷ entries) chosen diag refusal = wrong_entries (entry ∷ entries) chosen diag refusal

-- ---- a group

abbrev listed : Project → List Skeleton → List (List Export) → ℕ → Group → List ℕ → Result (List Export) Diag
listed project skeletons below g group chosen =
    shown_list (behind_name project skeletons below g (members project g))
    (behind_name project skeletons below g (subgroups project g)) group (default_names project skeletons below g) chosen

-- exports past the clashes and the list
exports_by : (project : Project) (skeletons : List Skeleton) (defs : List Def) (below : List (List Export)) (g : ℕ)
    (group : Group) (exports : List Export) (o : Option (ℕ × Spot)) (c : Result (List ℕ) Diag)
    → clash_in project skeletons g ≡ o
    → chosen_items defs (names_there project skeletons below g) group.export_lines ≡ c
    → unless_clash project o (c >>= listed project skeletons below g group) ≡ Ok exports
    → AreExports project skeletons defs below g group exports
exports_by project skeletons defs below g group exports (Some at) c clash chooses is = cc
exports_by project skeletons defs below g group exports None (Err diag) clash chooses is = cc
exports_by project skeletons defs below g group exports None (Ok chosen) clash chooses is = record {
  apart = apart_of project skeletons g clash;
  chosen = chosen;
  chooses = chooses;
  all = shown_so project skeletons below g group.file group.entries chosen exports is;
}

wrong_of : (project : Project) (skeletons : List Skeleton) (defs : List Def) (below : List (List Export)) (g : ℕ)
    (group : Group) (diag : Diag) (o : Option (ℕ × Spot)) (c : Result (List ℕ) Diag)
    → clash_in project skeletons g ≡ o
    → chosen_items defs (names_there project skeletons below g) group.export_lines ≡ c
    → unless_clash project o (c >>= listed project skeletons below g group) ≡ Err diag
    → IsExportRefusal project skeletons defs below g group diag
wrong_of project skeletons defs below g group diag (Some at) c clash chooses is =
    let same : clash_diag project at ≡ diag = cc in inl (at, clash_is project skeletons g at clash, sym same)
wrong_of project skeletons defs below g group diag None (Err other) clash chooses is =
    let same : other ≡ diag = cc in inr (apart_of project skeletons g clash, inl (chooses ∙ ap Err same))
wrong_of project skeletons defs below g group diag None (Ok chosen) clash chooses is = inr (
  apart_of project skeletons g clash,
  inr (record {
    chosen = chosen;
    chooses = chooses;
    shown = shown_wrong project skeletons below g group.file group.entries chosen diag is;
  }),
)

of_wrong : (project : Project) (skeletons : List Skeleton) (defs : List Def) (below : List (List Export)) (g : ℕ)
    (group : Group) (diag : Diag) → IsExportRefusal project skeletons defs below g group diag
    → unless_clash project (clash_in project skeletons g) (shown_by project skeletons defs g below group) ≡ Err diag
of_wrong project skeletons defs below g group diag (inl (at, first, is)) =
    ap (λ o. unless_clash project o (shown_by project skeletons defs g below group))
    (is_clash project skeletons g at first)
    ∙ ap Err (sym is)
of_wrong project skeletons defs below g group diag (inr (apart, inl refused)) =
    ap (λ o. unless_clash project o (shown_by project skeletons defs g below group)) (none_of project skeletons g apart)
    ∙ ap (λ (c : Result (List ℕ) Diag). c >>= listed project skeletons below g group) refused
of_wrong project skeletons defs below g group diag (inr (apart, inr refusal)) =
    ap (λ o. unless_clash project o (shown_by project skeletons defs g below group)) (none_of project skeletons g apart)
    ∙ ap (λ (c : Result (List ℕ) Diag). c >>= listed project skeletons below g group) refusal.chooses
    ∙ wrong_shown project skeletons below g group.file group.entries refusal.chosen diag refusal.shown

-- the exports of a group that was read from its description
read_exports : (project : Project) (skeletons : List Skeleton) (defs : List Def) (below : List (List Export)) (g : ℕ)
    (group : Group) → slice_get project.groups g ≡ Some group → group.thawed ≡ None
    → exports_of project skeletons defs g below
    ≡ unless_clash project (clash_in project skeletons g) (shown_by project skeletons defs g below group)
read_exports project skeletons defs below g group there read =
    ap (group_exports project skeletons defs g below) there
    ∙ ap (λ o. recorded_or o
    (unless_clash project (clash_in project skeletons g) (shown_by project skeletons defs g below group))) read

pub exports_are_these : ExportsAreThese
exports_are_these project skeletons defs below g group exports there read is =
    exports_by project skeletons defs below g group exports (clash_in project skeletons g)
    (chosen_items defs (names_there project skeletons below g) group.export_lines) refl refl
    (sym (read_exports project skeletons defs below g group there read) ∙ is)

pub exports_are_refused : ExportsAreRefused
exports_are_refused project skeletons defs below g group diag there read = (
  λ is. wrong_of project skeletons defs below g group diag (clash_in project skeletons g)
      (chosen_items defs (names_there project skeletons below g) group.export_lines) refl refl
      (sym (read_exports project skeletons defs below g group there read) ∙ is),
  λ refusal. read_exports project skeletons defs below g group there read
      ∙ of_wrong project skeletons defs below g group diag refusal,
)

pub frozen_recorded : FrozenExportsAreRecorded
frozen_recorded project skeletons defs below g group recorded there frozen =
    ap (group_exports project skeletons defs g below) there
    ∙ ap (λ o. recorded_or o
    (unless_clash project (clash_in project skeletons g) (shown_by project skeletons defs g below group))) frozen
