-- The steps of a session by themselves: an edit, and a command with the line behind it.
use Rattle.std.proofs.Common.{◌≡◌, ◌∙◌, sym, ap, subst, refl, inl, inr, arith, ℕ, ◌+◌, true, false, List, [], ◌∷◌, ◌++◌, Option, Some, None, take, length, append-nil, append_assoc}
use Rattle.std.specs.Prelude.{Contains, Result, Ok, Err}
use Rattle.std.specs.FinMap.{insert, remove}
use Rattle.std.proofs.lemmas.List.Elements.{Contains-append_left, Contains-append_right}
use Rattle.std.proofs.Math.Seq.{take-append-add}
use Rattle.cm_base.specs.Calls.{RemoveLeaves, WriteLeaves}
use Rattle.cm_base.specs.Definitions.{Definitions}
use Rattle.cm_base.specs.Files.{Files, is_stored, told}
use Rattle.cm_base.specs.Keeping.{Keeps, Touches}
use Rattle.cm_base.specs.declared.diag.Diag.{Diag}
use Rattle.cm_base.specs.declared.fault.FolderFault.{FolderFault}
use Rattle.cm_base.specs.declared.fault.FolderFault.TheVariants as folder
use Rattle.cm_base.proofs.FrontLemmas.{grows_all}
use Rattle.cm_base.proofs.KeepingLemmas.{keeps_same, keeps_touches, touches_same, touches_write}
use Rattle.bin_store.proofs.GoodAfter.{store_is_good, store_more}
use Rattle.command_words.specs.declared.call.Call.{Call}
use Rattle.command_words.specs.declared.call.Call.TheVariants as call
use Rattle.command_parts.specs.Answers.{Prints}
use Rattle.command_parts.specs.InTurn.{edit}
use Rattle.command_parts.specs.Headline.{Ends, IsCutOff, IsCutShort, IsMeaning, IsPlain, IsUsageEnd, KeepsOthers, KeepsOutside, MeansLinked, Run, Stays}
use Rattle.command_parts.specs.Lines.{diag_line, status_line}
use Rattle.command_parts.specs.Meaning.{Meaning, target_paths, usage}
use Rattle.command_parts.specs.Performing.{Performs, State, between, edit_end, is_plain, state_of}
use Rattle.command_parts.specs.Sessions.{KeepsTarget, refused, reported}
use Rattle.command_parts.specs.Targets.{target_of}
use Rattle.command_parts.specs.declared.status.Status.{Status}
use Rattle.command_parts.specs.declared.status.Status.TheVariants as status
use Rattle.command_parts.proofs.Ending.{after_print, nothing_done, nothing_printed, same_outside, stays_still}
use Rattle.command_parts.proofs.Pieces.{take_within}
use Rattle.command_parts.proofs.TargetLeaves.{target_good}

-- ---- edits

module _ (by : Definitions) (path bytes : List ℕ) (change : Files → Files) (out : is_stored path ≡ false) (s0 s1 : State)
    (same : s1.written ≡ s0.written) (asked : s1.asked ≡ s0.asked) (skeletons : s1.skeletons ≡ s0.skeletons)
    (touched : Touches s0.holds s1.holds path bytes) where
  abbrev edited : Files → Meaning
  edited files = edit path (change files)

  edit_keeps : (files : Files) → s0.holds ≡ Some files → Keeps (Some files) s1.holds (path ∷ [])
  edit_keeps files is = subst (λ s. Keeps s s1.holds (path ∷ [])) is (keeps_touches touched)

  edit_outside : (files : Files) → s0.holds ≡ Some files → KeepsOutside (path ∷ []) files s1.holds
  edit_outside files is =
      let one = (edit_keeps files is).rest files refl in
      record { after = one.0; tells = one.1; kept = λ q outside apart. one.2 q apart }

  edit_stays : (files : Files) → s0.holds ≡ Some files → Stays by files (edited files) s1.holds
  edit_stays files is = record {
    frame = λ known apart good. edit_keeps files is;
    good = λ known apart good.
        store_more (λ t h. Contains-append_left known [] t h)
        (target_good by known (Some path) bytes s0.holds s1.holds out touched (store_is_good is good));
  }

  edit_done : s1.holds ≡ told change s0.holds → Performs by edited edited status.Ok s0 s1
  edit_done put = record {
    does = λ files is text before. meaning files is text before;
    promise = λ files is text before. record { ends = λ known apart good. meaning files is text before };
    frame = edit_keeps;
    outside = edit_outside;
    stays = edit_stays;
    leaves = λ files is plain. record {
      ends = refl;
      does = put ∙ ap (told change) is;
      promise_ends = λ known apart good. refl;
      promise = λ known apart good. put ∙ ap (told change) is;
    };
  }
    where
      meaning : (files : Files) → s0.holds ≡ Some files → (text : List ℕ) → s0.written ≡ Some text
          → IsMeaning (edited files) status.Ok (between text s0 s1)
      meaning files is text before = record {
        status = refl;
        output = same ∙ before ∙ ap Some (sym (append-nil text));
        files = put ∙ ap (told change) is;
        asks = asked ∙ sym (append-nil s0.asked);
        asks_skeletons = skeletons ∙ sym (append-nil s0.skeletons);
      }

  edit_short : (files : Files) (text : List ℕ) → s0.written ≡ Some text → IsCutShort (edited files) (between text s0 s1)
  edit_short files text before =
      nothing_done (edited files) (between text s0 s1) s0.written same before asked skeletons nothing_printed

  edit_failed : Performs by edited edited status.FolderFault s0 s1
  edit_failed = record {
    does = λ files is text before. edit_short files text before;
    promise = λ files is text before. record { ends = λ known apart good. edit_short files text before };
    frame = edit_keeps;
    outside = edit_outside;
    stays = edit_stays;
    leaves = λ files is plain. absurd plain;
  }

  edit_wanting : Performs by edited edited status.NoMemory s0 s1
  edit_wanting = record {
    does = λ files is text before. edit_short files text before;
    promise = λ files is text before. record { ends = λ known apart good. edit_short files text before };
    frame = edit_keeps;
    outside = edit_outside;
    stays = edit_stays;
    leaves = λ files is plain. absurd plain;
  }

module _ (by : Definitions) (path : List ℕ) (out : is_stored path ≡ false) (s0 s1 : State)
    (same : s1.written ≡ s0.written) (asked : s1.asked ≡ s0.asked) (skeletons : s1.skeletons ≡ s0.skeletons) where
  pub write_performs : (content : List ℕ) (r : Result (Unit {0}) FolderFault)
      → WriteLeaves r s0.holds s1.holds path content
      → Performs by (λ files. edit path (insert files path content)) (λ files. edit path (insert files path content))
      (edit_end r) s0 s1
  write_performs content (Ok done) put =
      edit_done by path content (λ files. insert files path content) out s0 s1 same asked skeletons
      (touches_write (Ok done) s0.holds s1.holds path content put) put
  write_performs content (Err folder.Failed) left =
      edit_failed by path content (λ files. insert files path content) out s0 s1 same asked skeletons
      (touches_write (Err folder.Failed) s0.holds s1.holds path content left)
  write_performs content (Err folder.NoMemory) left =
      edit_wanting by path content (λ files. insert files path content) out s0 s1 same asked skeletons
      (touches_write (Err folder.NoMemory) s0.holds s1.holds path content left)

  abbrev gone : Files → Files
  gone files = remove files path

  touches_gone : s1.holds ≡ told gone s0.holds → Touches s0.holds s1.holds path []
  touches_gone removed = touches_write (Err folder.Failed) s0.holds s1.holds path [] (inr (inl removed))

  pub remove_performs : (r : Result (Unit {0}) FolderFault) → RemoveLeaves r s0.holds s1.holds path
      → Performs by (λ files. edit path (remove files path)) (λ files. edit path (remove files path)) (edit_end r) s0 s1
  remove_performs (Ok done) put =
      edit_done by path [] gone out s0 s1 same asked skeletons (touches_gone put) put
  remove_performs (Err folder.Failed) (inl still) =
      edit_failed by path [] gone out s0 s1 same asked skeletons (touches_same s0.holds s1.holds path [] still)
  remove_performs (Err folder.Failed) (inr removed) =
      edit_failed by path [] gone out s0 s1 same asked skeletons (touches_gone removed)
  remove_performs (Err folder.NoMemory) still =
      edit_wanting by path [] gone out s0 s1 same asked skeletons (touches_same s0.holds s1.holds path [] still)

-- ---- commands

pub target_outside : (Is : List ℕ → Type 0) (target : Option (List ℕ)) (files : Files) (holds : Option Files)
    → KeepsOthers Is target files holds → KeepsOutside (target_paths target) files holds
target_outside Is None files holds kept = record {
  after = kept.after;
  tells = kept.tells;
  kept = λ path out apart. kept.kept path out (λ same. absurd (cc (same)));
}
target_outside Is (Some target) files holds kept = record {
  after = kept.after;
  tells = kept.tells;
  kept = λ path out apart. kept.kept path out (λ same.
      let is : target ≡ path = cc (same) in apart (0, omega arith, is));
}

pub plain_is : (end : Status) → is_plain end ≡ true → IsPlain end
plain_is status.Ok is = tt
plain_is status.Diagnostic is = tt
plain_is status.Usage is = tt
plain_is status.FolderFault is = cc
plain_is status.SinkFault is = cc
plain_is status.NoMemory is = cc
plain_is status.ToolFault is = cc

pub fault_is : (end : Status) → is_plain end ≡ false → IsPlain end → ⊥
fault_is status.Ok is plain = cc
fault_is status.Diagnostic is plain = cc
fault_is status.Usage is plain = cc
fault_is status.FolderFault is plain = plain
fault_is status.SinkFault is plain = plain
fault_is status.NoMemory is plain = plain
fault_is status.ToolFault is plain = plain

plain_ends : (m : Meaning) (run : Run) (end : Status) → IsPlain end → Ends end m run → IsMeaning m end run
plain_ends m run status.Ok plain e = e
plain_ends m run status.Diagnostic plain e = e
plain_ends m run status.Usage plain e = e
plain_ends m run status.FolderFault plain e = absurd plain
plain_ends m run status.SinkFault plain e = absurd plain
plain_ends m run status.NoMemory plain e = absurd plain
plain_ends m run status.ToolFault plain e = absurd plain

-- what was printed without a fault ends with the status that was given
pub printed_plain : (result plain : Status) (old new : Option (List ℕ)) (text : List ℕ) → IsPlain result
    → Prints result plain old new text → result ≡ plain
printed_plain status.Ok plain old new text well prints = sym prints.0
printed_plain status.Diagnostic plain old new text well prints = sym prints.0
printed_plain status.Usage plain old new text well prints = sym prints.0
printed_plain status.FolderFault plain old new text well prints = absurd well
printed_plain status.SinkFault plain old new text well prints = absurd well
printed_plain status.NoMemory plain old new text well prints = absurd well
printed_plain status.ToolFault plain old new text well prints = absurd well

-- the line behind a command, or how its printing was cut off
module _ (m : Meaning) (end : Status) (text : List ℕ) (s0 s1 : State) (new : Option (List ℕ))
    (e : IsMeaning m end (between text s0 s1)) where
  abbrev s2 : State
  s2 = state_of new s1.holds s1.asked s1.skeletons

  abbrev now : List ℕ
  now = text ++ m.output

  line_off : (printed : List ℕ) → new ≡ Some (text ++ printed) → IsCutOff (reported m) printed (between text s0 s2)
  line_off printed is = record {
    output = is;
    asks = grows_all s0.asked s1.asked m.asked e.asks;
    asks_skeletons = grows_all s0.skeletons s1.skeletons m.asked_skeletons e.asks_skeletons;
  }

  line_ends : (result : Status) → Prints result status.Ok s1.written new (status_line end)
      → Ends result (reported m) (between text s0 s2)
  line_ends status.Ok prints = record {
    status = refl;
    output = prints.1 ∙ ap (told (λ written. written ++ status_line end)) e.output
        ∙ ap Some (append_assoc text m.output (status_line end))
        ∙ ap (λ s. Some (text ++ (m.output ++ status_line s))) e.status;
    files = e.files;
    asks = e.asks;
    asks_skeletons = e.asks_skeletons;
  }
  line_ends status.Diagnostic prints = let differ : status.Ok ≡ status.Diagnostic = prints.0 in cc
  line_ends status.Usage prints = let differ : status.Ok ≡ status.Usage = prints.0 in cc
  line_ends status.FolderFault prints = absurd prints
  line_ends status.SinkFault prints = (
    length m.output + prints.0,
    line_off (take (length m.output + prints.0) (m.output ++ status_line m.status))
        (prints.1 ∙ ap (told (λ written. written ++ take prints.0 (status_line end))) e.output
        ∙ ap Some (append_assoc text m.output (take prints.0 (status_line end)))
        ∙ ap (λ s. Some (text ++ (m.output ++ take prints.0 (status_line s)))) e.status
        ∙ ap (λ l. Some (text ++ l)) (sym (take-append-add m.output (status_line m.status) prints.0))),
  )
  line_ends status.NoMemory prints = record {
    printed = m.output;
    one = Contains-append_right m.cuts (m.output ∷ []) m.output (0, omega arith, refl);
    cut = line_off m.output (prints ∙ e.output);
  }
  line_ends status.ToolFault prints = absurd prints

pub line_performs : (by : Definitions) (d m : Files → Meaning) (end result : Status) (s0 s1 : State)
    (new : Option (List ℕ)) → is_plain end ≡ true → Performs by d m end s0 s1
    → Prints result status.Ok s1.written new (status_line end)
    → Performs by (λ files. reported (d files)) (λ files. reported (m files)) result s0
    (state_of new s1.holds s1.asked s1.skeletons)
line_performs by d m end result s0 s1 new plain one prints = record {
  does = λ files is text before.
      line_ends (d files) end text s0 s1 new
      (plain_ends (d files) (between text s0 s1) end (plain_is end plain) (one.does files is text before)) result prints;
  promise = λ files is text before. record {
    ends = λ known apart good.
        line_ends (m files) end text s0 s1 new
        (plain_ends (m files) (between text s0 s1) end (plain_is end plain)
        ((one.promise files is text before).ends known apart good)) result prints;
  };
  frame = one.frame;
  outside = one.outside;
  stays = λ files is. record { frame = (one.stays files is).frame; good = (one.stays files is).good };
  leaves = λ files is well.
      let left = one.leaves files is (plain_is end plain) in
      let ends : result ≡ status.Ok = printed_plain result status.Ok s1.written new (status_line end) well prints in
      record { ends = ends; does = left.does; promise_ends = λ known apart good. ends; promise = left.promise };
}

-- a command that a fault cut off
module _ (m : Meaning) (run : Run) where
  same_off : (printed : List ℕ) → IsCutOff m printed run → IsCutOff (reported m) printed run
  same_off printed c = record { output = c.output; asks = c.asks; asks_skeletons = c.asks_skeletons }

  same_short : IsCutShort m run → IsCutShort (reported m) run
  same_short c = record {
    printed = c.printed;
    one = Contains-append_left m.cuts (m.output ∷ []) c.printed c.one;
    cut = same_off c.printed c.cut;
  }

  fault_ends : (end : Status) → (IsPlain end → ⊥) → Ends end m run → Ends end (reported m) run
  fault_ends status.Ok fault e = absurd (fault tt)
  fault_ends status.Diagnostic fault e = absurd (fault tt)
  fault_ends status.Usage fault e = absurd (fault tt)
  fault_ends status.FolderFault fault e = same_short e
  fault_ends status.SinkFault fault e =
      let front = take_within e.0 m.output (status_line m.status) in (
        front.0,
        subst (λ printed. IsCutOff (reported m) printed run) (sym front.1) (same_off (take e.0 m.output) e.1),
      )
  fault_ends status.NoMemory fault e = same_short e
  fault_ends status.ToolFault fault e = same_short e

pub fault_performs : (by : Definitions) (d m : Files → Meaning) (end : Status) (s0 s1 : State) → is_plain end ≡ false
    → Performs by d m end s0 s1 → Performs by (λ files. reported (d files)) (λ files. reported (m files)) end s0 s1
fault_performs by d m end s0 s1 fault one = record {
  does = λ files is text before.
      fault_ends (d files) (between text s0 s1) end (fault_is end fault) (one.does files is text before);
  promise = λ files is text before. record {
    ends = λ known apart good.
        fault_ends (m files) (between text s0 s1) end (fault_is end fault)
        ((one.promise files is text before).ends known apart good);
  };
  frame = one.frame;
  outside = one.outside;
  stays = λ files is. record { frame = (one.stays files is).frame; good = (one.stays files is).good };
  leaves = λ files is plain. absurd (fault_is end fault plain);
}

-- ---- words that mean nothing

usage_is : (end : Status) → IsUsageEnd end → IsPlain end → end ≡ status.Usage
usage_is status.Ok is plain = absurd is
usage_is status.Diagnostic is plain = absurd is
usage_is status.Usage is plain = refl
usage_is status.FolderFault is plain = absurd is
usage_is status.SinkFault is plain = absurd plain
usage_is status.NoMemory is plain = absurd plain
usage_is status.ToolFault is plain = absurd is

-- .. however their line is printed
pub usage_performs : (by : Definitions) (end : Status) (s : State) (new : Option (List ℕ)) → IsUsageEnd end
    → ((files : Files) → s.holds ≡ Some files → (text : List ℕ) → s.written ≡ Some text
    → Ends end (usage files) (between text s (state_of new s.holds s.asked s.skeletons)))
    → Performs by usage usage end s (state_of new s.holds s.asked s.skeletons)
usage_performs by end s new is ends = record {
  does = ends;
  promise = λ files at text before. record { ends = λ known apart good. ends files at text before };
  frame = λ files at. keeps_same (Some files) s.holds [] at;
  outside = λ files at. record { after = files; tells = at; kept = λ path out apart. refl };
  stays = λ files at. stays_still by files (usage files) s.holds at;
  leaves = λ files at plain.
      let stands : end ≡ status.Usage = usage_is end is plain in
      record { ends = stands; does = at; promise_ends = λ known apart good. stands; promise = λ known apart good. at };
}

-- ---- refusals

-- the line of a refusal, however it is printed
pub refused_performs : (by : Definitions) (diag : Diag) (s : State) (new : Option (List ℕ)) (result : Status)
    (line : List ℕ) → line ≡ diag_line diag → Prints result status.Diagnostic s.written new line
    → Performs by (λ files. refused files diag) (λ files. refused files diag) result s
    (state_of new s.holds s.asked s.skeletons)
refused_performs by diag s new result line is_line prints = record {
  does = ends;
  promise = λ files is text before. record { ends = λ known apart good. ends files is text before };
  frame = λ files is. keeps_same (Some files) s.holds [] is;
  outside = λ files is. record { after = files; tells = is; kept = λ path out apart. refl };
  stays = λ files is. stays_still by files (refused files diag) s.holds is;
  leaves = λ files is plain.
      let stands : result ≡ status.Diagnostic =
      printed_plain result status.Diagnostic s.written new line plain prints in
      record { ends = stands; does = is; promise_ends = λ known apart good. stands; promise = λ known apart good. is };
}
  where
    ends : (files : Files) → s.holds ≡ Some files → (text : List ℕ) → s.written ≡ Some text
        → Ends result (refused files diag) (between text s (state_of new s.holds s.asked s.skeletons))
    ends files is text before =
        after_print (refused files diag) (between text s (state_of new s.holds s.asked s.skeletons)) s.written result
        status.Diagnostic line refl is_line before is (sym (append-nil s.asked)) (sym (append-nil s.skeletons))
        nothing_printed prints

-- nothing was done: the folder failed before, or memory was wanted
module _ (by : Definitions) (d m : Files → Meaning) (s0 s1 : State) (written : s1.written ≡ s0.written)
    (holds : s1.holds ≡ s0.holds) (asked : s1.asked ≡ s0.asked) (skeletons : s1.skeletons ≡ s0.skeletons)
    (quiet : (files : Files) → Contains (d files).cuts []) (quiet' : (files : Files) → Contains (m files).cuts []) where
  still_frame : (files : Files) → s0.holds ≡ Some files → Keeps (Some files) s1.holds (d files).paths
  still_frame files is = keeps_same (Some files) s1.holds (d files).paths (holds ∙ is)

  still_outside : (files : Files) → s0.holds ≡ Some files → KeepsOutside (d files).outside files s1.holds
  still_outside files is = record { after = files; tells = holds ∙ is; kept = λ path out apart. refl }

  does_short : (files : Files) (text : List ℕ) → s0.written ≡ Some text → IsCutShort (d files) (between text s0 s1)
  does_short files text before =
      nothing_done (d files) (between text s0 s1) s0.written written before asked skeletons (quiet files)

  means_short : (files : Files) (text : List ℕ) → s0.written ≡ Some text → IsCutShort (m files) (between text s0 s1)
  means_short files text before =
      nothing_done (m files) (between text s0 s1) s0.written written before asked skeletons (quiet' files)

  pub still_failed : Performs by d m status.FolderFault s0 s1
  still_failed = record {
    does = λ files is text before. does_short files text before;
    promise = λ files is text before. record { ends = λ known apart good. means_short files text before };
    frame = still_frame;
    outside = still_outside;
    stays = λ files is. stays_still by files (m files) s1.holds (holds ∙ is);
    leaves = λ files is plain. absurd plain;
  }

  pub still_wanting : Performs by d m status.NoMemory s0 s1
  still_wanting = record {
    does = λ files is text before. does_short files text before;
    promise = λ files is text before. record { ends = λ known apart good. means_short files text before };
    frame = still_frame;
    outside = still_outside;
    stays = λ files is. stays_still by files (m files) s1.holds (holds ∙ is);
    leaves = λ files is plain. absurd plain;
  }

-- where nothing was done
pub target_still : (call : Option Call) (m : Meaning) (files : Files) (holds : Option Files) → holds ≡ Some files
    → KeepsTarget call m files holds
target_still None m files holds is = same_outside (MeansLinked m.status m.files) None files holds is
target_still (Some (call.Single command)) m files holds is =
    same_outside (MeansLinked m.status m.files) (target_of files command) files holds is
target_still (Some (call.Gen n)) m files holds is =
    record { after = files; tells = is; kept = λ path out apart. refl }
target_still (Some (call.Session file)) m files holds is = tt
