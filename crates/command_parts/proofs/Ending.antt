-- How a command ends, from the work that was done and what was printed.
use Rattle.std.proofs.Common.{◌≡◌, ◌∙◌, ◌⊎◌, sym, ap, refl, inl, inr, arith, ℕ, List, [], ◌++◌, Option, Some, take, append-nil}
use Rattle.std.specs.Prelude.{Contains, Result}
use Rattle.std.proofs.lemmas.List.Elements.{Contains-append_left}
use Rattle.cm_base.specs.Causes.{Rose}
use Rattle.cm_base.specs.Definitions.{Definitions}
use Rattle.cm_base.specs.Files.{Files, told}
use Rattle.cm_base.specs.Fronts.{GrowsUpTo}
use Rattle.cm_base.proofs.FrontLemmas.{grows_all, grows_none}
use Rattle.cm_base.proofs.KeepingLemmas.{keeps_same}
use Rattle.bin_store.proofs.GoodAfter.{store_is_good, store_more}
use Rattle.command_parts.specs.Answers.{Does, Prints}
use Rattle.command_parts.specs.Headline.{Ends, IsCutOff, IsCutShort, IsMeaning, IsPlain, IsUsageEnd, KeepsOthers, Run, Stays}
use Rattle.command_parts.specs.Meaning.{Meaning, of_build, prints_last}
use Rattle.command_parts.specs.ProjectBuild.{Prepared, plain_over}
use Rattle.command_parts.specs.declared.status.Status.{Status}
use Rattle.command_parts.specs.declared.status.Status.TheVariants as status
use Rattle.command_parts.specs.declared.work.Report.{Report}
use Rattle.command_parts.specs.declared.work.WorkFault.{WorkFault}

-- a command that prints all at its end may be cut off before
pub nothing_printed : Contains prints_last []
nothing_printed = (0, omega arith, refl)

pub cut_short : (m : Meaning) (run : Run) (printed : List ℕ) → Contains m.cuts printed → IsCutOff m printed run
    → IsCutShort m run
cut_short m run printed one off = record { printed = printed; one = one; cut = off }

-- what was asked is all that is asked, and so a front of it
module _ (m : Meaning) (run : Run) (old : Option (List ℕ)) where
  whole : (end plain : Status) (output : List ℕ) → plain ≡ m.status → output ≡ m.output → old ≡ Some run.text
      → run.holds ≡ Some m.files → run.asked_then ≡ run.asked ++ m.asked
      → run.skeletons_then ≡ run.skeletons ++ m.asked_skeletons → plain ≡ end
      → run.written ≡ told (λ written. written ++ output) old → IsMeaning m end run
  whole end plain output stands is before files asked skeletons same put = record {
    status = sym same ∙ stands;
    output = put ∙ ap (told (λ written. written ++ output)) before ∙ ap (λ o. Some (run.text ++ o)) is;
    files = files;
    asks = asked;
    asks_skeletons = skeletons;
  }

  cut : (printed : List ℕ) → run.written ≡ Some (run.text ++ printed) → GrowsUpTo run.asked run.asked_then m.asked
      → GrowsUpTo run.skeletons run.skeletons_then m.asked_skeletons → IsCutOff m printed run
  cut printed is asked skeletons = record { output = is; asks = asked; asks_skeletons = skeletons }

  -- a command whose work was done ends as it means, or its printing was cut off
  pub after_print : (result plain : Status) (output : List ℕ) → plain ≡ m.status → output ≡ m.output
      → old ≡ Some run.text → run.holds ≡ Some m.files → run.asked_then ≡ run.asked ++ m.asked
      → run.skeletons_then ≡ run.skeletons ++ m.asked_skeletons → Contains m.cuts []
      → Prints result plain old run.written output → Ends result m run
  after_print status.Ok plain output stands is before files asked skeletons quiet prints =
      whole status.Ok plain output stands is before files asked skeletons prints.0 prints.1
  after_print status.Diagnostic plain output stands is before files asked skeletons quiet prints =
      whole status.Diagnostic plain output stands is before files asked skeletons prints.0 prints.1
  after_print status.Usage plain output stands is before files asked skeletons quiet prints =
      whole status.Usage plain output stands is before files asked skeletons prints.0 prints.1
  after_print status.FolderFault plain output stands is before files asked skeletons quiet prints = absurd prints
  after_print status.SinkFault plain output stands is before files asked skeletons quiet prints = (
    prints.0,
    cut (take prints.0 m.output)
        (prints.1 ∙ ap (told (λ written. written ++ take prints.0 output)) before
        ∙ ap (λ o. Some (run.text ++ take prints.0 o)) is)
        (grows_all run.asked run.asked_then m.asked asked)
        (grows_all run.skeletons run.skeletons_then m.asked_skeletons skeletons),
  )
  after_print status.NoMemory plain output stands is before files asked skeletons quiet prints =
      cut_short m run [] quiet (cut [] (prints ∙ before ∙ ap Some (sym (append-nil run.text)))
      (grows_all run.asked run.asked_then m.asked asked)
      (grows_all run.skeletons run.skeletons_then m.asked_skeletons skeletons))
  after_print status.ToolFault plain output stands is before files asked skeletons quiet prints = absurd prints

  -- a command whose work was cut off printed nothing
  pub after_cut : run.written ≡ old → old ≡ Some run.text → Contains m.cuts [] → GrowsUpTo run.asked run.asked_then m.asked
      → GrowsUpTo run.skeletons run.skeletons_then m.asked_skeletons → IsCutShort m run
  after_cut same before quiet asked skeletons =
      cut_short m run [] quiet (cut [] (same ∙ before ∙ ap Some (sym (append-nil run.text))) asked skeletons)

-- ---- where nothing is written

-- a command that writes no file leaves all as it was, however it ends
pub stays_still : (by : Definitions) (files : Files) (m : Meaning) (holds : Option Files) → holds ≡ Some files
    → Stays by files m holds
stays_still by files m holds is = record {
  frame = λ known apart good. keeps_same (Some files) holds m.paths is;
  good = λ known apart good.
      store_more (λ t h. Contains-append_left known m.interfaces t h) (store_is_good is good);
}

pub same_outside : (Is : List ℕ → Type 0) (target : Option (List ℕ)) (files : Files) (holds : Option Files)
    → holds ≡ Some files → KeepsOthers Is target files holds
same_outside Is target files holds is =
    record { after = files; tells = is; kept = λ path outside apart. refl; last = λ path at. inl refl }

-- nothing was done at all: want of memory
pub nothing_done : (m : Meaning) (run : Run) (old : Option (List ℕ)) → run.written ≡ old → old ≡ Some run.text
    → run.asked_then ≡ run.asked → run.skeletons_then ≡ run.skeletons → Contains m.cuts [] → IsCutShort m run
nothing_done m run old same before asked skeletons quiet =
    after_cut m run old same before quiet (grows_none run.asked run.asked_then m.asked asked)
    (grows_none run.skeletons run.skeletons_then m.asked_skeletons skeletons)

-- ---- builds

-- what a build leaves of the folder, whatever it answers
pub stays_built : (by : Definitions) (files : Files) (target : Option (List ℕ)) (over plain : Prepared)
    (result : Result Report WorkFault) (holds : Option Files) (before after : List (List ℕ))
    → Does by files target over.units plain.units result holds before after
    → Stays by files (of_build (plain_over by) files target plain) holds
stays_built by files target over plain result holds before after does = record {
  frame = λ known apart good. (does.from_good known apart good).frame;
  good = λ known apart good. (does.from_good known apart good).good;
}

-- words that mean nothing end so, however their line is printed
pub usage_ends : (end : Status) (old new : Option (List ℕ)) (text : List ℕ) → Prints end status.Usage old new text
    → IsUsageEnd end
usage_ends status.Ok old new text prints = let differ : status.Usage ≡ status.Ok = prints.0 in cc
usage_ends status.Diagnostic old new text prints = let differ : status.Usage ≡ status.Diagnostic = prints.0 in cc
usage_ends status.Usage old new text prints = tt
usage_ends status.FolderFault old new text prints = prints
usage_ends status.SinkFault old new text prints = tt
usage_ends status.NoMemory old new text prints = tt
usage_ends status.ToolFault old new text prints = prints

-- a count that is always 0 never rises
pub never_rose : Rose 0 0 → ⊥
never_rose rose = absurd (omega (arith, rose))

-- a command met no fault, or it did
pub plain_or : (end : Status) → IsPlain end ⊎ (IsPlain end → ⊥)
plain_or status.Ok = inl tt
plain_or status.Diagnostic = inl tt
plain_or status.Usage = inl tt
plain_or status.FolderFault = inr (λ plain. plain)
plain_or status.SinkFault = inr (λ plain. plain)
plain_or status.NoMemory = inr (λ plain. plain)
plain_or status.ToolFault = inr (λ plain. plain)
