-- A command keeps a store good.
use Rattle.std.proofs.Common.{◌≡◌, sym, subst, refl, ℕ, List, [], ◌++◌, Option, Some, None, false}
use Rattle.std.specs.Prelude.{Result, Ok, Err, Contains}
use Rattle.std.specs.FinMap.{insert}
use Rattle.std.proofs.lemmas.List.Elements.{Contains-append_left, Contains-append_right}
use Rattle.cm_base.specs.Definitions.{Definitions}
use Rattle.cm_base.specs.Files.{Files}
use Rattle.cm_base.proofs.KeepingLemmas.{touches_written}
use Rattle.cm_base.specs.declared.diag.Diag.{Diag}
use Rattle.cm_base.specs.declared.record.BuiltUnit.{BuiltUnit}
use Rattle.cm_base.specs.declared.record.PlannedUnit.{PlannedUnit}
use Rattle.cm_bytes.specs.Hashes.{HashesApart}
use Rattle.bin_store.specs.GoodStore.{IsGoodStore}
use Rattle.bin_store.specs.Paths.{linked_path}
use Rattle.bin_store.proofs.Elsewhere.{put_keeps_good}
use Rattle.bin_store.proofs.GoodAfter.{good_is_told, store_after_linked, store_is_good}
use Rattle.bin_store.proofs.StoreLaws.{good_more}
use Rattle.build_laws.specs.PlainBuild.{compiled_units}
use Rattle.build_laws.specs.Planned.{HaveSkeletons, interfaces_of}
use Rattle.build_laws.specs.Stale.{marked}
use Rattle.build_laws.specs.Storing.{with_units}
use Rattle.command_words.specs.Words.{command_of}
use Rattle.command_words.specs.declared.command.Command.{Command}
use Rattle.linker.specs.Linked.{linked_program}
use Rattle.command_parts.specs.Answers.{IsOutside}
use Rattle.command_parts.specs.Meaning.{ended_with, with_linked}
use Rattle.command_parts.specs.Targets.{out_in, path_in}
use Rattle.command_parts.proofs.Showing.{interfaces_marked}
use Rattle.cm_base.specs.Derived.{ToolRules}
use Rattle.cm_base.specs.declared.record.Def.{Def}
use Rattle.cm_description.specs.declared.loaded.Project.{Project}
use Rattle.member_deriving.specs.Uses.{after_uses}
use Rattle.member_deriving.proofs.Good.{uses_good}
use Rattle.tool_loading.specs.Projects.{project_of, tool_uses}
use Rattle.command_words.specs.declared.command.Command.TheVariants as command
use Rattle.command_parts.specs.Meaning as plain
use Rattle.command_parts.proofs.OutNames.{out_outside}
use Rattle.cm_top.specs.Meaning.{of_command, of_link, of_root, of_words}
use Rattle.cm_top.specs.Ways.{plain_way}
use Rattle.cm_top.specs.declared.printed.Printed.TheVariants as printed
use Rattle.history_laws.specs.FromNothing.{build_of, units_of}
use Rattle.history_laws.specs.Laws.{CommandsKeepGood, GivesSmallSkeletons}
use Rattle.history_laws.proofs.Building.{good_units}
use Rattle.history_laws.proofs.Coming.{coming_to, units_in}
use Rattle.history_laws.proofs.Planned.{HaveAll, loading_has}
use Rattle.history_laws.proofs.Roots.{built_of, effect_is, skeletons_at}

-- ---- a build

target_good : (by : Definitions) (texts : List (List ℕ)) (target : Option (List ℕ)) (units : List BuiltUnit)
    (files : Files) → IsOutside target → IsGoodStore by texts (insert files linked_path (linked_program units))
    → IsGoodStore by texts (with_linked target None units files)
target_good by texts None units files outside good = good
target_good by texts (Some path) units files outside good =
    put_keeps_good by texts (insert files linked_path (linked_program units)) path (linked_program units) outside good

linked_good : (by : Definitions) (texts : List (List ℕ)) (target : Option (List ℕ)) (ended : Option Diag)
    (units : List BuiltUnit) (files : Files) → IsOutside target → IsGoodStore by texts files
    → IsGoodStore by texts (with_linked target ended units files)
linked_good by texts target (Some diag) units files outside good = good
linked_good by texts target None units files outside good =
    let bytes = linked_program units in
    target_good by texts target units files outside
    (good_is_told (store_after_linked by texts (Some files) (Some (insert files linked_path bytes)) bytes
    (touches_written (Some files) (Some (insert files linked_path bytes)) linked_path bytes refl)
    (store_is_good refl good))
    (insert files linked_path bytes) refl)

built_good : (by : Definitions) (texts : List (List ℕ)) → HashesApart texts → GivesSmallSkeletons by → (files : Files)
    → (r : Result (List PlannedUnit) Diag)
    → ((planned : List PlannedUnit) → r ≡ Ok planned → HaveSkeletons by.skel planned)
    → ((t : List ℕ) → Contains (interfaces_of (build_of by r).units) t → Contains texts t)
    → IsGoodStore by texts files
    → IsGoodStore by texts (with_units files (units_in r) (compiled_units (build_of by r).units))
built_good by texts apart small files (Ok planned) lawful inside good =
    good_units by texts apart small planned [] files (lawful planned refl) tt inside good
built_good by texts apart small files (Err diag) lawful inside good = good

module _ (by : Definitions) (files : Files) (target : Option (List ℕ)) (skeletons : List (List ℕ))
    (r : Result (List PlannedUnit) Diag) where
  abbrev m : plain.Meaning
  m = coming_to by files target skeletons r

  pub coming_good : (known : List (List ℕ)) → GivesSmallSkeletons by → IsOutside target
      → ((planned : List PlannedUnit) → r ≡ Ok planned → HaveSkeletons by.skel planned)
      → HashesApart (known ++ m.interfaces) → IsGoodStore by known files
      → IsGoodStore by (known ++ m.interfaces) m.files
  coming_good known small outside lawful apart good =
      linked_good by (known ++ m.interfaces) target (ended_with (build_of by r).ended (marked files (build_of by r)))
      (marked files (build_of by r)) (with_units files (units_in r) (compiled_units (build_of by r).units)) outside
      (built_good by (known ++ m.interfaces) apart small files r lawful
      (λ t h. Contains-append_right known m.interfaces t
      (subst (λ is. Contains is t) (sym (interfaces_marked files (build_of by r))) h))
      (good_more (λ t h. Contains-append_left known m.interfaces t h) good))

-- ---- commands

module _ (by : Definitions) (small : GivesSmallSkeletons by) (known : List (List ℕ)) where
  abbrev Keeps : plain.Meaning → Type 0
  Keeps m = HashesApart (known ++ m.interfaces) → IsGoodStore by (known ++ m.interfaces) m.files

  -- what changes no file
  rests : (files : Files) → IsGoodStore by known files → IsGoodStore by (known ++ []) files
  rests files good = good_more (λ t h. Contains-append_left known [] t h) good

  -- a project that is built, or refused
  project_keeps : (target : Option (List ℕ)) → IsOutside target → (defs : List Def) (r : Result Project Diag)
      (files : Files) → IsGoodStore by known files → Keeps (built_of by target defs r files)
  project_keeps target outside defs r files good apart =
      let skeletons = skeletons_at by target defs r files in
      let units = units_of by files defs r in
      let is = effect_is by target defs r files in
      subst (λ (here : Files). IsGoodStore by (known ++ (built_of by target defs r files).interfaces) here) (sym is.files)
      (subst (λ (texts : List (List ℕ)). IsGoodStore by (known ++ texts)
      (coming_to by files target skeletons units).files) (sym is.interfaces)
      (coming_good by files target skeletons units known small outside
      (λ (planned : List PlannedUnit) same. subst (HaveAll by) same (loading_has by files defs r))
      (subst (λ (texts : List (List ℕ)). HashesApart (known ++ texts)) is.interfaces apart) good))

  module _ (rules : ToolRules) (files : Files) (good : IsGoodStore by known files) where
    -- .. over the files as loading leaves them
    root_keeps : (target : Option (List ℕ)) → IsOutside target → (defs : List Def) (root : List ℕ)
        → Keeps (of_root printed.Report (plain_way by rules) target defs root files).effect
    root_keeps target outside defs root =
        let uses = tool_uses files rules defs root in
        project_keeps target outside defs (project_of files rules defs root false) (after_uses files uses)
        (uses_good by known files uses good)

    link_keeps : (defs : List Def) (root out : List ℕ) (r : Result (List ℕ) Diag) → out_in files root out ≡ r
        → Keeps (of_link printed.Report (plain_way by rules) defs root files r).effect
    link_keeps defs root out (Ok path) is =
        root_keeps (Some path) (subst (λ (r : Result (List ℕ) Diag). IsOutside (path_in r)) is (out_outside files root out))
        defs root
    link_keeps defs root out (Err diag) is = λ apart. rests files good

    command_keeps : (meant : Command) → Keeps (of_command printed.Report (plain_way by rules) files meant).effect
    command_keeps (command.Build defs root) = root_keeps None tt defs root
    command_keeps (command.Link defs root out) = link_keeps defs root out (out_in files root out) refl

    words_keep : (meant : Option Command) → Keeps (of_words printed.Report (plain_way by rules) files meant).effect
    words_keep None = λ apart. rests files good
    words_keep (Some meant) = command_keeps meant

pub commands_keep_good : CommandsKeepGood
commands_keep_good by rules words files known small apart good =
    words_keep by small known rules files good (command_of words) apart
