-- The work of a command: what it does, from what the build of its units and its linking do.
use Rattle.std.proofs.Common.{◌≡◌, ◌∙◌, sym, ap₂, subst, refl, inl, ℕ, List, [], ◌++◌, Option, Some, None, append-nil}
use Rattle.std.specs.Prelude.{Result, Ok, Err, IsErrAnd}
use Rattle.std.proofs.lemmas.List.Elements.{Contains-append_left}
use Rattle.cm_base.specs.Definitions.{Definitions}
use Rattle.cm_base.specs.Files.{Files, Told}
use Rattle.cm_base.specs.Fronts.{GrowsUpTo}
use Rattle.cm_base.specs.Keeping.{Keeps}
use Rattle.cm_base.specs.declared.diag.Diag.{Diag}
use Rattle.cm_base.specs.declared.record.Built.{Built}
use Rattle.cm_base.specs.declared.record.BuiltUnit.{BuiltUnit}
use Rattle.cm_base.specs.declared.record.PlannedUnit.{PlannedUnit}
use Rattle.cm_base.proofs.FrontLemmas.{grows_all, grows_none}
use Rattle.cm_base.proofs.KeepingLemmas.{keeps_same, keeps_then, keeps_wider}
use Rattle.cm_bytes.specs.Hashes.{HashesApart}
use Rattle.bin_store.specs.GoodStore.{IsGoodStore, StoreIsGood}
use Rattle.bin_store.proofs.GoodAfter.{store_is_good, store_more}
use Rattle.build_laws.specs.CutBuild.{Cut, cut_build}
use Rattle.build_laws.specs.Left.{KeepsProject, LeftByCut}
use Rattle.build_laws.specs.PlainBuild.{plain_build}
use Rattle.build_laws.specs.Planned.{interfaces_of, NamesDiffer}
use Rattle.cutoff_builder.specs.Answers.{Cuts}
use Rattle.cutoff_builder.specs.Theorem.{Builds}
use Rattle.cutoff_builder.specs.declared.builder.BuildFault.TheVariants as stop
use Rattle.command_parts.specs.Answers.{AsksFor, Does, EndsSo, IsLinkedBy, IsOutside, LawfulFromGood, TouchesLinked, Works, WorksWell}
use Rattle.command_parts.specs.Headline.{KeepsOthers, MeansLinked}
use Rattle.command_parts.specs.Lines.{report as report_text, diag_line, last_line}
use Rattle.command_parts.specs.Meaning.{ended_in, ended_with, interfaces_in, linked_paths, paths_in, status_of, with_linked, written_paths}
use Rattle.command_parts.specs.ProjectBuild.{built, ending, plain_over, store_over}
use Rattle.command_parts.specs.declared.status.Status.TheVariants as status
use Rattle.command_parts.specs.declared.work.Report.{Report}
use Rattle.command_parts.specs.declared.work.WorkFault.{WorkFault}
use Rattle.command_parts.proofs.Agreeing.{agrees}
use Rattle.command_parts.proofs.Framing.{cut_frame, left_frame}
use Rattle.command_parts.proofs.LinkLeaves.{link_good, link_keeps, link_others}
use Rattle.command_parts.proofs.Showing.{interfaces_marked}
use Rattle.command_parts.proofs.TargetLeaves.{others_of}

-- ---- where nothing is written

same_project : (Is : List ℕ → Type 0) (files : Files) (target : Option (List ℕ)) (holds : Option Files)
    → holds ≡ Some files → KeepsOthers Is target files holds
same_project Is files target holds is =
    record { after = files; tells = is; kept = λ path outside apart. refl; last = λ path at. inl refl }

still_good : (by : Definitions) (known more : List (List ℕ)) (files : Files) (holds : Option Files) → holds ≡ Some files
    → IsGoodStore by known files → StoreIsGood by (known ++ more) holds
still_good by known more files holds is good =
    store_more (λ t h. Contains-append_left known more t h) (store_is_good is good)

nothing_well : (by : Definitions) (files : Files) (target : Option (List ℕ)) (cut : Cut)
    (result : Result Report WorkFault) (holds : Option Files) (before after : List (List ℕ)) → holds ≡ Some files
    → Works target result cut holds before after → (known : List (List ℕ)) → IsGoodStore by known files
    → WorksWell by known files target result cut holds before after
nothing_well by files target cut result holds before after is works known good = record {
  works = works;
  frame = keeps_same (Some files) holds (written_paths target cut) is;
  good = still_good by known (interfaces_in cut.units) files holds is good;
}

-- work that was cut off before its first unit
cut_works : (target : Option (List ℕ)) (cut : Cut) (fault : WorkFault) (holds : Option Files) (before : List (List ℕ))
    → Works target (Err fault) cut holds before before
cut_works target cut fault holds before = record { ends = tt; asks = grows_none before before cut.asked refl }

pub does_nothing : (by : Definitions) (files : Files) (target : Option (List ℕ))
    (over plain : Result (List PlannedUnit) Diag) (fault : WorkFault) (holds : Option Files) (before : List (List ℕ))
    → holds ≡ Some files → Does by files target over plain (Err fault) holds before before
does_nothing by files target over plain fault holds before is = record {
  over_store = cut_works target (built (store_over by) files over) fault holds before;
  frame = keeps_same (Some files) holds (written_paths target (built (store_over by) files over)) is;
  from_good = λ known apart good.
      nothing_well by files target (built (plain_over by) files plain) (Err fault) holds before before is
      (cut_works target (built (plain_over by) files plain) fault holds before) known good;
  project = same_project (IsLinkedBy target (built (store_over by) files over)) files target holds is;
}

-- a refusal before the first unit
refused_works : (files : Files) (target : Option (List ℕ)) (diag : Diag) (report : Report) (holds : Option Files)
    (before : List (List ℕ)) → holds ≡ Some files → report.status ≡ status.Diagnostic → report.text ≡ diag_line diag
    → report.last ≡ diag_line diag → Works target (Ok report) (ending [] (Some diag) files) holds before before
refused_works files target diag report holds before is stands says last = record {
  ends = record { status = stands; text = says; last = last; files = is };
  asks = sym (append-nil before);
}

-- what is planned in a good store is what the compiler's skeletons give
abbrev pub SameFromGood : Definitions → Files → Result (List PlannedUnit) Diag → Result (List PlannedUnit) Diag → Type 0
SameFromGood by files plain same = (known : List (List ℕ)) → IsGoodStore by known files → plain ≡ same

-- the work of units is that of the same units, which a good store's may be taken for
pub does_same : (by : Definitions) (files : Files) (target : Option (List ℕ))
    (over plain same : Result (List PlannedUnit) Diag) (result : Result Report WorkFault) (holds : Option Files)
    (before after : List (List ℕ)) → over ≡ same → SameFromGood by files plain same
    → Does by files target same same result holds before after → Does by files target over plain result holds before after
does_same by files target over plain same result holds before after is from_good does = record {
  over_store = subst (λ u. Works target result (built (store_over by) files u) holds before after) (sym is) does.over_store;
  frame = subst (λ u. Keeps (Some files) holds (written_paths target (built (store_over by) files u))) (sym is) does.frame;
  from_good = λ known apart good.
      subst (λ u. HashesApart (known ++ interfaces_in (built (plain_over by) files u).units)
      → WorksWell by known files target result (built (plain_over by) files u) holds before after)
      (sym (from_good known good)) (λ apart'. does.from_good known apart' good) apart;
  project = subst (λ u. KeepsOthers (IsLinkedBy target (built (store_over by) files u)) target files holds) (sym is)
      does.project;
}

pub does_refused : (by : Definitions) (files : Files) (target : Option (List ℕ))
    (over plain : Result (List PlannedUnit) Diag) (diag : Diag) (report : Report) (holds : Option Files)
    (before : List (List ℕ)) → over ≡ Err diag → SameFromGood by files plain (Err diag) → holds ≡ Some files
    → report.status ≡ status.Diagnostic → report.text ≡ diag_line diag → report.last ≡ diag_line diag
    → Does by files target over plain (Ok report) holds before before
does_refused by files target over plain diag report holds before refused from_good is stands says last =
    does_same by files target over plain (Err diag) (Ok report) holds before before refused from_good
    (record {
      over_store = refused_works files target diag report holds before is stands says last;
      frame = keeps_same (Some files) holds (written_paths target (ending [] (Some diag) files)) is;
      from_good = λ known apart good.
          nothing_well by files target (ending [] (Some diag) files) (Ok report) holds before before is
          (refused_works files target diag report holds before is stands says last) known good;
      project = same_project (IsLinkedBy target (ending [] (Some diag) files)) files target holds is;
    })

-- ---- a build that ended, and its linking

ended_works : (target : Option (List ℕ)) (cut : Cut) (units : List BuiltUnit) (ended : Option Diag)
    (between new : Option Files) (result : Result Report WorkFault) (before after : List (List ℕ)) → cut.units ≡ units
    → cut.ended ≡ ended → between ≡ Some cut.files
    → Told between (λ files. EndsSo target result (ending units ended files) new)
    → after ≡ before ++ cut.asked → Works target result cut new before after
ended_works target cut units ended between new (Ok report) before after are stops is ends asked =
    let so = ends cut.files is in
    record {
      ends = record {
        status = so.status ∙ ap₂ (λ e us. status_of (ended_with e us)) (sym stops) (sym are);
        text = so.text ∙ ap₂ (λ e us. report_text us (ended_with e us)) (sym stops) (sym are);
        last = so.last ∙ ap₂ (λ e us. last_line us (ended_with e us)) (sym stops) (sym are);
        files = so.files ∙ ap₂ (λ e us. Some (with_linked target (ended_with e us) us cut.files)) (sym stops) (sym are);
      };
      asks = asked;
    }
ended_works target cut units ended between new (Err fault) before after are stops is ends asked =
    record { ends = tt; asks = grows_all before after cut.asked asked }

module _ (by : Definitions) (files : Files) (target : Option (List ℕ)) (outside : IsOutside target)
    (planned : List PlannedUnit) (before after : List (List ℕ)) (differ : NamesDiffer planned)
    (lawful : LawfulFromGood by files planned) where
  abbrev over : Cut
  over = store_over by files planned

  abbrev come : Cut
  come = plain_over by files planned

  -- what a build's own premise is
  plain_apart : (known : List (List ℕ)) → HashesApart (known ++ interfaces_in come.units)
      → HashesApart (known ++ interfaces_of (plain_build by.compiled planned).units)
  plain_apart known apart =
      subst (λ is. HashesApart (known ++ is)) (interfaces_marked files (plain_build by.compiled planned)) apart

  shown_good : (known : List (List ℕ)) (holds : Option Files)
      → StoreIsGood by (known ++ interfaces_of (plain_build by.compiled planned).units) holds
      → StoreIsGood by (known ++ interfaces_in come.units) holds
  shown_good known holds good =
      subst (λ is. StoreIsGood by (known ++ is) holds) (sym (interfaces_marked files (plain_build by.compiled planned))) good

  -- what is left good, where the store was
  abbrev LeavesGood : Option Files → Type 0
  LeavesGood new = (known : List (List ℕ))
      → HashesApart (known ++ interfaces_of (plain_build by.compiled planned).units) → IsGoodStore by known files
      → StoreIsGood by (known ++ interfaces_of (plain_build by.compiled planned).units) new

  -- over a good store the build is the plain build as it comes, so what holds of the one holds of the other
  does_over : (result : Result Report WorkFault) (new : Option Files) → Works target result over new before after
      → Keeps (Some files) new (written_paths target over) → LeavesGood new
      → KeepsOthers (IsLinkedBy target over) target files new → Does by files target (Ok planned) (Ok planned) result new before after
  does_over result new works frame leaves others = record {
    over_store = works;
    frame = frame;
    from_good = λ known apart good.
        let same : over ≡ come = agrees by known files planned differ (lawful known good) (plain_apart known apart) good in
        record {
          works = subst (λ cut. Works target result cut new before after) same works;
          frame = subst (λ cut. Keeps (Some files) new (written_paths target cut)) same frame;
          good = shown_good known new (leaves known (plain_apart known apart) good);
        };
    project = others;
  }

  -- a build that ended, and of which the linked program may have been touched
  ended_frame : (units : List BuiltUnit) (ended : Option Diag) (between new : Option Files) → over.units ≡ units
      → over.ended ≡ ended → between ≡ Some over.files → TouchesLinked target (ended_with ended units) units between new
      → Keeps (Some files) new (written_paths target over)
  ended_frame units ended between new are stops is touches =
      keeps_then
      (subst (λ o. Keeps (Some files) o (paths_in over.units)) (sym is) (cut_frame by.compiled planned files []))
      (link_keeps target (ended_in over) units between new
      (subst (λ f. TouchesLinked target f units between new) (ap₂ ended_with (sym stops) (sym are)) touches))

  -- what is left of the target
  ended_others : (units : List BuiltUnit) (ended : Option Diag) (between new : Option Files) → over.units ≡ units
      → over.ended ≡ ended → TouchesLinked target (ended_with ended units) units between new
      → KeepsProject files between → KeepsOthers (IsLinkedBy target over) target files new
  ended_others units ended between new are stops touches kept =
      subst (λ e. KeepsOthers (MeansLinked (status_of (ended_with e over.units))
      (with_linked target (ended_with e over.units) over.units over.files)) target files new) (sym stops)
      (subst (λ us. KeepsOthers (MeansLinked (status_of (ended_with ended us))
      (with_linked target (ended_with ended us) us over.files)) target files new) (sym are)
      (link_others files over.files target (ended_with ended units) units between new outside touches kept))

  pub does_built : (built : Built) (between new : Option Files) (result : Result Report WorkFault)
      → Cuts (Ok built) by.compiled files planned (cut_build by.compiled files planned) between before after
      → Builds by files planned (Ok built) between before after → KeepsProject files between
      → Told between (λ files. EndsSo target result (ending built.units None files) new)
      → TouchesLinked target (ended_with None built.units) built.units between new
      → Does by files target (Ok planned) (Ok planned) result new before after
  does_built built between new result cuts builds kept ends touches =
      does_over result new
      (ended_works target over built.units None between new result before after cuts.leaves.0 cuts.leaves.1 cuts.leaves.2 ends
      cuts.asks)
      (ended_frame built.units None between new cuts.leaves.0 cuts.leaves.1 cuts.leaves.2 touches)
      (λ known apart good. link_good by (known ++ interfaces_of (plain_build by.compiled planned).units) target
      (ended_with None built.units) built.units between new outside touches
      (builds known differ (lawful known good) apart good).good)
      (ended_others built.units None between new cuts.leaves.0 cuts.leaves.1 touches kept)

  pub does_stopped : (diag : Diag) (done : Built) (between new : Option Files) (result : Result Report WorkFault)
      → Cuts (Err (stop.Stop diag done)) by.compiled files planned (cut_build by.compiled files planned) between before after
      → Builds by files planned (Err (stop.Stop diag done)) between before after → KeepsProject files between
      → Told between (λ files. EndsSo target result (ending done.units (Some diag) files) new)
      → TouchesLinked target (ended_with (Some diag) done.units) done.units between new
      → Does by files target (Ok planned) (Ok planned) result new before after
  does_stopped diag done between new result cuts builds kept ends touches =
      does_over result new
      (ended_works target over done.units (Some diag) between new result before after cuts.leaves.0 cuts.leaves.1 cuts.leaves.2
      ends cuts.asks)
      (ended_frame done.units (Some diag) between new cuts.leaves.0 cuts.leaves.1 cuts.leaves.2 touches)
      (λ known apart good. link_good by (known ++ interfaces_of (plain_build by.compiled planned).units) target
      (ended_with (Some diag) done.units) done.units between new outside touches
      (builds known differ (lawful known good) apart good).good)
      (ended_others done.units (Some diag) between new cuts.leaves.0 cuts.leaves.1 touches kept)

  -- a build that was cut off
  cut_written : (new : Option Files) → LeftByCut by.compiled files planned new
      → Keeps (Some files) new (written_paths target over)
  cut_written new left =
      keeps_wider (left_frame by.compiled files planned new left)
      (λ q h. Contains-append_left (paths_in over.units) (linked_paths target (ended_in over)) q h)

  pub does_failed : (new : Option Files) (fault : WorkFault)
      → Cuts (Err stop.Folder) by.compiled files planned (cut_build by.compiled files planned) new before after
      → Builds by files planned (Err stop.Folder) new before after → KeepsProject files new
      → Does by files target (Ok planned) (Ok planned) (Err fault) new before after
  does_failed new fault cuts builds kept =
      does_over (Err fault) new (record { ends = tt; asks = cuts.asks }) (cut_written new cuts.leaves)
      (λ known apart good. (builds known differ (lawful known good) apart good).good) (others_of (IsLinkedBy target over) target files new outside kept)

  pub does_wanting : (new : Option Files) (fault : WorkFault)
      → Cuts (Err stop.NoMemory) by.compiled files planned (cut_build by.compiled files planned) new before after
      → Builds by files planned (Err stop.NoMemory) new before after → KeepsProject files new
      → Does by files target (Ok planned) (Ok planned) (Err fault) new before after
  does_wanting new fault cuts builds kept =
      does_over (Err fault) new (record { ends = tt; asks = cuts.asks }) (cut_written new cuts.leaves)
      (λ known apart good. (builds known differ (lawful known good) apart good).good) (others_of (IsLinkedBy target over) target files new outside kept)

-- ---- whatever the answer

-- a call whose step was refused memory
pub does_stopped_early : (by : Definitions) (files : Files) (target : Option (List ℕ))
    (over plain : Result (List PlannedUnit) Diag) (result : Result Report WorkFault) (P : WorkFault → Type 0)
    (holds : Option Files) (before : List (List ℕ)) → IsErrAnd result P → holds ≡ Some files
    → Does by files target over plain result holds before before
does_stopped_early by files target before_it plain (Ok report) P holds before failed is = absurd failed
does_stopped_early by files target before_it plain (Err fault) P holds before failed is =
    does_nothing by files target before_it plain fault holds before is

-- what was asked for is all that is asked for, whatever was done then
pub asks_all : (result : Result Report WorkFault) (asked before after : List (List ℕ)) → after ≡ before ++ asked
    → AsksFor result asked before after
asks_all (Ok report) asked before after is = is
asks_all (Err fault) asked before after is = grows_all before after asked is

-- .. or nothing, where a step was refused memory
pub asks_early : (result : Result Report WorkFault) (P : WorkFault → Type 0) (asked before after : List (List ℕ))
    → IsErrAnd result P → GrowsUpTo before after asked → AsksFor result asked before after
asks_early (Ok report) P asked before after failed grown = absurd failed
asks_early (Err fault) P asked before after failed grown = grown
