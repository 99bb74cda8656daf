-- What a command with tools means, whatever the store holds, is what it means where the same project stands alone.
use Rattle.std.proofs.Common.{◌≡◌, ◌∙◌, sym, ap, subst, refl, ℕ, false, List, [], Some, None, arith}
use Rattle.std.specs.Prelude.{Result, Ok, Err, Contains}
use Rattle.cm_base.specs.Definitions.{Definitions}
use Rattle.cm_base.specs.Derived.{ToolRules}
use Rattle.cm_base.specs.Files.{Files}
use Rattle.cm_base.specs.declared.diag.Diag.{Diag}
use Rattle.cm_base.specs.declared.record.Def.{Def}
use Rattle.loading_laws.proofs.Alike.{loading_reads}
use Rattle.build_laws.specs.PlainBuild.{Build}
use Rattle.tool_loading.specs.Projects.{project_of}
use Rattle.command_words.specs.declared.command.Command.{Command}
use Rattle.command_words.specs.declared.command.Command.TheVariants as command
use Rattle.command_parts.specs.Answers.{IsOutside}
use Rattle.command_parts.specs.Sessions.{refused}
use Rattle.command_parts.specs.Targets.{out_in, path_in, target_of}
use Rattle.command_parts.proofs.OutNames.{out_outside}
use Rattle.cm_top.specs.Meaning.{Meaning, of_command, of_link, of_root, without_tools}
use Rattle.cm_top.specs.Ways.{plain_way}
use Rattle.cm_top.specs.declared.printed.Printed.TheVariants as printed
use Rattle.history_laws.specs.FromNothing.{HasProjectAlone, build_of, if_loaded, sources_in, unless_refused, unread_in}
use Rattle.history_laws.proofs.Planned.{out_same}
use Rattle.history_laws.specs.FromNothing.{MeansTheSame, build_in, project_in, units_of, unless_out_is}
use Rattle.history_laws.proofs.Roots.{root_asked, root_asked_alone, root_build, root_interfaces, root_linked, root_output, root_output_alone, root_project, root_runs, root_skeletons, root_skeletons_alone, root_status, root_target, root_units, root_uses}

none_within : (path : List ℕ) → Contains [] path → ⊥
none_within path (n, within, at) = omega (arith, within)

some_is_none : (diag : Diag) → Some diag ≡ None → ⊥
some_is_none diag is = cc

module _ (by : Definitions) (rules : ToolRules) (files clean : Files) (alone : HasProjectAlone files clean) where
  abbrev means : Files → Command → Meaning
  means here command = of_command printed.Report (plain_way by rules) here command

  same_build : (defs : List Def) (root : List ℕ) → MeansTheSame by rules files clean (command.Build defs root)
      (build_in by rules clean (command.Build defs root)) (means files (command.Build defs root))
      (means clean (command.Build defs root))
  same_build defs root = record {
    build = ap (build_of by) (root_build by rules files clean alone None tt defs root);
    status = root_status by rules files clean alone None tt defs root;
    output = root_output by rules files clean alone None tt defs root;
    output_alone = root_output_alone by rules files clean alone None tt defs root;
    units = root_units by rules files clean alone None tt defs root;
    linked = root_linked by rules files clean alone None tt defs root;
    target = root_target by rules files clean alone None tt defs root;
    project = root_project by rules files clean alone None tt defs root;
    asked = root_asked by rules files clean alone None tt defs root;
    asked_alone = root_asked_alone by rules files clean alone None tt defs root;
    skeletons = root_skeletons by rules files clean alone None tt defs root;
    skeletons_alone = root_skeletons_alone by rules files clean alone None tt defs root;
    interfaces = root_interfaces by rules files clean alone None tt defs root;
    uses = root_uses by rules files clean alone None tt defs root;
    runs = root_runs by rules files clean alone None tt defs root files;
    runs_alone = root_runs by rules files clean alone None tt defs root clean;
  }

  -- .. of `link`, whose OUT is found or refused in both folders alike
  module _ (defs : List Def) (root out : List ℕ) where
    abbrev link : Command
    link = command.Link defs root out

    abbrev Same : Result (List ℕ) Diag → Result (List ℕ) Diag → Type 0
    Same a b = out_in files root out ≡ a → out_in clean root out ≡ b
        → MeansTheSame by rules files clean link (build_in by rules clean link)
        (of_link printed.Report (plain_way by rules) defs root files a)
        (of_link printed.Report (plain_way by rules) defs root clean b)

    -- the plain build and the project of `link`, by what its OUT is
    build_by : (here : Files) (r : Result (List ℕ) Diag) → out_in here root out ≡ r
        → build_in by rules here link
        ≡ build_of by (unless_out_is r (units_of by here defs (project_of here rules defs root false)))
    build_by here r is =
        ap (λ (out_is : Result (List ℕ) Diag).
        build_of by (unless_out_is out_is (units_of by here defs (project_of here rules defs root false)))) is

    project_by : (r : Result (List ℕ) Diag) → out_in clean root out ≡ r
        → project_in rules clean link ≡ unless_refused r (if_loaded (project_of clean rules defs root false))
    project_by r is =
        ap (λ (out_is : Result (List ℕ) Diag).
        unless_refused out_is (if_loaded (project_of clean rules defs root false))) is

    target_by : (r : Result (List ℕ) Diag) → out_in files root out ≡ r → target_of files link ≡ path_in r
    target_by r is = ap path_in is

    refused_same : (diag : Diag) → Same (Err diag) (Err diag)
    refused_same diag here there =
        subst (λ (b : Build). MeansTheSame by rules files clean link b (without_tools (refused files diag))
        (without_tools (refused clean diag)))
        (sym (build_by clean (Err diag) there))
        (record {
          build = build_by files (Err diag) here;
          status = refl;
          output = refl;
          output_alone = refl;
          units = λ path within. absurd (none_within path within);
          linked = λ none. absurd (some_is_none diag none);
          target = λ path none is. absurd (some_is_none diag none);
          project = λ path outside apart. refl;
          asked = refl;
          asked_alone = refl;
          skeletons = sym (ap (unread_in by files) (project_by (Err diag) there));
          skeletons_alone = sym (ap (sources_in by) (project_by (Err diag) there));
          interfaces = refl;
          uses = refl;
          runs = refl;
          runs_alone = refl;
        })

    found_same : (path : List ℕ) → Same (Ok path) (Ok path)
    found_same path here there =
        let outside : IsOutside (Some path) =
        subst (λ (r : Result (List ℕ) Diag). IsOutside (path_in r)) there (out_outside clean root out) in
        let project = project_by (Ok path) there in
        let target = target_by (Ok path) here in
        subst (λ (b : Build). MeansTheSame by rules files clean link b
        (of_root printed.Report (plain_way by rules) (Some path) defs root files)
        (of_root printed.Report (plain_way by rules) (Some path) defs root clean))
        (sym (build_by clean (Ok path) there))
        (record {
          build = build_by files (Ok path) here
              ∙ ap (build_of by) (root_build by rules files clean alone (Some path) outside defs root);
          status = root_status by rules files clean alone (Some path) outside defs root;
          output = root_output by rules files clean alone (Some path) outside defs root;
          output_alone = root_output_alone by rules files clean alone (Some path) outside defs root;
          units = root_units by rules files clean alone (Some path) outside defs root;
          linked = root_linked by rules files clean alone (Some path) outside defs root;
          target = λ q none is.
              root_target by rules files clean alone (Some path) outside defs root q none (sym target ∙ is);
          project = λ q out apart.
              root_project by rules files clean alone (Some path) outside defs root q out (λ is. apart (target ∙ is));
          asked = root_asked by rules files clean alone (Some path) outside defs root;
          asked_alone = root_asked_alone by rules files clean alone (Some path) outside defs root;
          skeletons = root_skeletons by rules files clean alone (Some path) outside defs root
              ∙ sym (ap (unread_in by files) project);
          skeletons_alone = root_skeletons_alone by rules files clean alone (Some path) outside defs root
              ∙ sym (ap (sources_in by) project);
          interfaces = root_interfaces by rules files clean alone (Some path) outside defs root;
          uses = root_uses by rules files clean alone (Some path) outside defs root;
          runs = root_runs by rules files clean alone (Some path) outside defs root files;
          runs_alone = root_runs by rules files clean alone (Some path) outside defs root clean;
        })

    by_out : (r : Result (List ℕ) Diag) → Same r r
    by_out (Ok path) = found_same path
    by_out (Err diag) = refused_same diag

    same_link : MeansTheSame by rules files clean link (build_in by rules clean link) (means files link)
        (means clean link)
    same_link =
        let same = out_same by files clean (loading_reads files clean alone.project) root out in
        subst (λ (r : Result (List ℕ) Diag). MeansTheSame by rules files clean link (build_in by rules clean link)
        (of_link printed.Report (plain_way by rules) defs root files r) (means clean link)) (sym same)
        (by_out (out_in clean root out) same refl)

  pub same_command : (meant : Command) → MeansTheSame by rules files clean meant (build_in by rules clean meant)
      (means files meant) (means clean meant)
  same_command (command.Build defs root) = same_build defs root
  same_command (command.Link defs root out) = same_link defs root out
