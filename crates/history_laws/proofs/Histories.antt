-- Each step of a history finds a good store, where each kind of step keeps one good; and each call ends as it means.
use Rattle.std.proofs.Common.{◌≡◌, ◌∙◌, sym, ap, subst, refl, ℕ, false, List, [], ◌∷◌, ◌++◌, Option, Some, None, append_assoc, append-nil}
use Rattle.std.specs.Prelude.{Contains}
use Rattle.std.proofs.lemmas.List.Elements.{Contains-append_left}
use Rattle.cm_base.specs.Definitions.{Definitions}
use Rattle.cm_base.specs.Files.{Files, is_stored}
use Rattle.cm_base.proofs.FileLemmas.{project_apart}
use Rattle.cm_bytes.specs.Hashes.{HashesApart}
use Rattle.bin_store.specs.GoodStore.{IsGoodStore}
use Rattle.bin_store.proofs.Elsewhere.{no_store_good, put_keeps_good, remove_keeps_good}
use Rattle.bin_store.proofs.GoodAfter.{good_is_told}
use Rattle.loading_laws.proofs.Outside.{part_same}
use Rattle.command_parts.specs.Headline.{Run}
use Rattle.command_parts.specs.declared.status.Status.{Status}
use Rattle.cm_base.specs.Derived.{ToolRules}
use Rattle.tool_deriving.specs.Deriving.{ToolState}
use Rattle.command_words.specs.declared.call.Call.{Call}
use Rattle.command_words.specs.declared.command.Command.{Command}
use Rattle.cm_top.specs.Meaning.{of_words}
use Rattle.cm_top.specs.Performing.{rules_among}
use Rattle.cm_top.specs.Sessions.{of_call}
use Rattle.cm_top.specs.Ways.{plain_way}
use Rattle.cm_top.specs.declared.printed.Printed.TheVariants as printed
use Rattle.history_laws.specs.Calls.{Event, IsLawfulEvent, effect_of_event}
use Rattle.history_laws.specs.Calls.Event.{call, edit as change}
use Rattle.history_laws.specs.FromNothing.{MeansTheSame, build_in}
use Rattle.history_laws.specs.Histories.{EachIs, Effect, IsHistory, IsLawful, edited, effect_of_step, folder_after, interfaces_in}
use Rattle.history_laws.specs.Histories.Step.{command, edit}
use Rattle.history_laws.specs.Laws.{CallMeansTheSameAlone, CommandsKnowNoStore, EveryHistory, EveryListOfCalls, GivesSmallSkeletons, IsGoodAfter, ProjectsStandAlone}
use Rattle.history_laws.proofs.Keeping.{commands_keep_good}
use Rattle.history_laws.proofs.Meanings.{same_command}

-- ---- one command

pub commands_know_no_store : CommandsKnowNoStore
commands_know_no_store by rules words files meant clean is alone =
    subst (λ (o : Option Command). MeansTheSame by rules files clean meant (build_in by rules clean meant)
    (of_words printed.Report (plain_way by rules) files o) (of_words printed.Report (plain_way by rules) clean o)) (sym is)
    (same_command by rules files clean alone meant)

calls_know_no_store : (by : Definitions) (rules : ToolRules) (words : List (List ℕ)) (files : Files)
    → CallMeansTheSameAlone by rules words files
calls_know_no_store by rules words files meant clean is alone =
    subst (λ (o : Option Call). MeansTheSame by rules files clean meant (build_in by rules clean meant)
    (of_call (plain_way by rules) files o) (of_call (plain_way by rules) clean o)) (sym is)
    (same_command by rules files clean alone meant)

pub projects_stand_alone : ProjectsStandAlone
projects_stand_alone files = record { project = part_same files; none = project_apart files }

-- ---- any kind of step

apart_within : (more fewer : List (List ℕ)) → ((t : List ℕ) → Contains fewer t → Contains more t) → HashesApart more
    → HashesApart fewer
apart_within more fewer within apart = record { apart = λ a b ha hb. apart.apart a b (within a ha) (within b hb) }

-- a step keeps a store good
abbrev pub Keeps : {S : Type 0} → Definitions → Effect S → (Files → S → Type 0) → Type 0
Keeps {S} by effect P = (files : Files) (step : S) (known : List (List ℕ)) → P files step
    → HashesApart (known ++ effect.interfaces files step) → IsGoodStore by known files
    → IsGoodStore by (known ++ effect.interfaces files step) (effect.leaves files step)

module _ {S : Type 0} (by : Definitions) (effect : Effect S) (P : Files → S → Type 0) (keeps : Keeps by effect P) where
  -- .. and so do several
  steps_good : (steps : List S) (files : Files) (known : List (List ℕ)) → EachIs effect P files steps
      → HashesApart (known ++ interfaces_in effect files steps) → IsGoodStore by known files
      → IsGoodStore by (known ++ interfaces_in effect files steps) (folder_after effect files steps)
  steps_good [] files known each apart good =
      subst (λ texts. IsGoodStore by texts files) (sym (append-nil known)) good
  steps_good (step ∷ steps) files known each apart good =
      let first = effect.interfaces files step in
      let here = effect.leaves files step in
      let rest = interfaces_in effect here steps in
      let same = append_assoc known first rest in
      let apart_all : HashesApart ((known ++ first) ++ rest) = subst HashesApart (sym same) apart in
      subst (λ texts. IsGoodStore by texts (folder_after effect here steps)) same
      (steps_good steps here (known ++ first) each.1 apart_all
      (keeps files step known each.0
      (apart_within ((known ++ first) ++ rest) (known ++ first) (λ t h. Contains-append_left (known ++ first) rest t h)
      apart_all) good))

  -- the interfaces of steps behind others
  interfaces_on : (before later : List S) (files : Files)
      → interfaces_in effect files (before ++ later)
      ≡ interfaces_in effect files before ++ interfaces_in effect (folder_after effect files before) later
  interfaces_on [] later files = refl
  interfaces_on (step ∷ before) later files =
      let here = effect.leaves files step in
      ap (λ rest. effect.interfaces files step ++ rest) (interfaces_on before later here)
      ∙ sym (append_assoc (effect.interfaces files step) (interfaces_in effect here before)
      (interfaces_in effect (folder_after effect here before) later))

  each_front : (before later : List S) (files : Files) → EachIs effect P files (before ++ later)
      → EachIs effect P files before
  each_front [] later files each = tt
  each_front (step ∷ before) later files each =
      (each.0, each_front before later (effect.leaves files step) each.1)

  each_at : (before later : List S) (step : S) (files : Files) → EachIs effect P files (before ++ step ∷ later)
      → P (folder_after effect files before) step
  each_at [] later step files each = each.0
  each_at (first ∷ before) later step files each =
      each_at before later step (effect.leaves files first) each.1

  -- what a step finds
  pub record Finds (start : Files) (before : List S) (step : S) : Type 0 where
    pub good : IsGoodAfter by effect start before
    pub apart : HashesApart (interfaces_in effect start before
        ++ effect.interfaces (folder_after effect start before) step)
    pub lawful : P (folder_after effect start before) step

  pub finds : (start : Files) (before later : List S) (step : S) → IsHistory effect P start (before ++ step ∷ later)
      → Finds start before step
  finds start before later step is = record {
    good = steps_good before start [] (each_front before (step ∷ later) start is.each)
        (apart_within all front (λ t h. within t (Contains-append_left front own t h)) is.apart)
        (no_store_good by start is.begins);
    apart = apart_within all (front ++ own) within is.apart;
    lawful = each_at before later step start is.each;
  }
    where
      here : Files
      here = folder_after effect start before

      own : List (List ℕ)
      own = effect.interfaces here step

      front : List (List ℕ)
      front = interfaces_in effect start before

      rest : List (List ℕ)
      rest = interfaces_in effect (effect.leaves here step) later

      all : List (List ℕ)
      all = interfaces_in effect start (before ++ step ∷ later)

      within : (t : List ℕ) → Contains (front ++ own) t → Contains all t
      within t h = subst (λ (texts : List (List ℕ)). Contains texts t)
          (append_assoc front own rest ∙ sym (interfaces_on before (step ∷ later) start))
          (Contains-append_left (front ++ own) rest t h)

  pub all_good : (start : Files) (steps : List S) → IsHistory effect P start steps → IsGoodAfter by effect start steps
  all_good start steps is = steps_good steps start [] is.each is.apart (no_store_good by start is.begins)

-- ---- edits

pub edit_keeps : (by : Definitions) (known : List (List ℕ)) (files : Files) (path : List ℕ) (content : Option (List ℕ))
    → is_stored path ≡ false → IsGoodStore by known files → IsGoodStore by (known ++ []) (edited files path content)
edit_keeps by known files path None outside good =
    subst (λ texts. IsGoodStore by texts (edited files path None)) (sym (append-nil known))
    (remove_keeps_good by known files path outside good)
edit_keeps by known files path (Some bytes) outside good =
    subst (λ texts. IsGoodStore by texts (edited files path (Some bytes))) (sym (append-nil known))
    (put_keeps_good by known files path bytes outside good)

-- ---- commands

step_keeps : (by : Definitions) → GivesSmallSkeletons by → Keeps by (effect_of_step by) IsLawful
step_keeps by small files (edit path content) known outside apart good =
    edit_keeps by known files path content outside good
step_keeps by small files (command rules words) known lawful apart good =
    commands_keep_good by rules words files known small apart good

pub every_history : EveryHistory
every_history by start steps small is = record {
  commands = λ before later rules words split.
      let found = finds by (effect_of_step by) IsLawful (step_keeps by small) start before later (command rules words)
      (subst (IsHistory (effect_of_step by) IsLawful start) split is) in
      record { good = found.good; apart = found.apart; same = commands_know_no_store by rules words _ };
  good = all_good by (effect_of_step by) IsLawful (step_keeps by small) start steps is;
}

-- ---- calls

event_keeps : (by : Definitions) → Keeps by (effect_of_event by) (IsLawfulEvent by)
event_keeps by files (change path content) known outside apart good =
    edit_keeps by known files path content outside good
event_keeps by files (call words tools end run after left) known is apart good =
    good_is_told (is.stays.good known apart good) left is.told

-- what a call finds
called : (by : Definitions) (start : Files) (events before later : List Event) (words : List (List ℕ))
    (tools : List ToolState) (end : Status) (run : Run) (after : List ToolState) (left : Files)
    → IsHistory (effect_of_event by) (IsLawfulEvent by) start events
    → events ≡ before ++ call words tools end run after left ∷ later
    → Finds by (effect_of_event by) (IsLawfulEvent by) (event_keeps by) start before (call words tools end run after left)
called by start events before later words tools end run after left is split =
    finds by (effect_of_event by) (IsLawfulEvent by) (event_keeps by) start before later
    (call words tools end run after left) (subst (IsHistory (effect_of_event by) (IsLawfulEvent by) start) split is)

pub every_list_of_calls : EveryListOfCalls
every_list_of_calls by start events is = record {
  calls = λ before later words tools end run after left split.
      let found = called by start events before later words tools end run after left is split in
      record {
        ends = found.lawful.promise.ends _ found.apart found.good;
        ran = found.lawful.promise.ran _ found.apart found.good;
        done = record {
          good = found.good;
          apart = found.apart;
          same = calls_know_no_store by (rules_among tools) words _;
        };
      };
  good = all_good by (effect_of_event by) (IsLawfulEvent by) (event_keeps by) start events is;
}
