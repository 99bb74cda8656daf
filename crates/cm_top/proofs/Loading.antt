-- A loading as a piece of what a command does.
use Rattle.std.proofs.Common.{◌≡◌, ◌∙◌, ◌⊎◌, ap, sym, subst, refl, inl, inr, ℕ, true, false, List, [], Option, Some, append-nil}
use Rattle.std.specs.Prelude.{Contains}
use Rattle.std.specs.FinMap.{get}
use Rattle.std.proofs.lemmas.List.Elements.{Contains-append_left}
use Rattle.cm_base.specs.Definitions.{Definitions}
use Rattle.cm_base.specs.Files.{Files, Told, is_stored}
use Rattle.cm_base.specs.Keeping.{Keeps}
use Rattle.bin_store.proofs.GoodAfter.{store_more}
use Rattle.tool_deriving.specs.Deriving.{ToolState, ToolUse}
use Rattle.member_deriving.specs.Uses.{Work, runs_of}
use Rattle.box_deriving.specs.Boxes.{CutOff, InStep, world_of}
use Rattle.group_loader.specs.Loading.{Tends, origin_of}
use Rattle.group_loader.proofs.Ending.{tends_as}
use Rattle.use_laws.specs.Left.{Leaves, record_paths}
use Rattle.use_laws.proofs.Records.{cut_leaves, paths_stored, whole_leaves}
use Rattle.command_parts.specs.Answers.{IsOutside}
use Rattle.command_parts.specs.Headline.{FollowsLinked, IsCutShort, IsMeaning, IsPlain, KeepsOthers, KeepsOutside, Stays}
use Rattle.command_parts.specs.Performing.{State, between, state_of}
use Rattle.command_parts.specs.Performing as plain
use Rattle.command_parts.specs.declared.status.Status.{Status}
use Rattle.command_parts.specs.declared.status.Status.TheVariants as status
use Rattle.command_parts.proofs.Ending.{nothing_done, nothing_printed}
use Rattle.cm_top.specs.Meaning.{Meaning, loading}
use Rattle.cm_top.specs.Performing.{Does}
use Rattle.cm_top.proofs.Counts.{ran_front}
use Rattle.cm_top.proofs.InTurn.{effects, stage}

-- ---- records are no files of the project

module _ (files : Files) (holds : Option Files) (runs : List ToolUse)
    (keeps : Keeps (Some files) holds (record_paths runs)) where
  not_among : (q : List ℕ) → is_stored q ≡ false → Contains (record_paths runs) q → ⊥
  not_among q out within = let stored : is_stored q ≡ true = paths_stored runs q within in cc

  pub records_outside : KeepsOutside [] files holds
  records_outside =
      let one = keeps.rest files refl in
      record { after = one.0; tells = one.1; kept = λ q out apart. one.2 q (not_among q out) }

  target_kept : (target : Option (List ℕ)) → IsOutside target → (after : Files)
      → ((q : List ℕ) → (Contains (record_paths runs) q → ⊥) → get after q ≡ get files q)
      → (path : List ℕ) → target ≡ Some path → get after path ≡ get files path
  target_kept target outside after kept path at =
      kept path (not_among path (out path at))
    where
      out : (path : List ℕ) → target ≡ Some path → is_stored path ≡ false
      out path at = subst IsOutside at outside

  pub records_others : (Is : List ℕ → Type 0) (target : Option (List ℕ)) → IsOutside target
      → KeepsOthers Is target files holds
  records_others Is target outside =
      let one = keeps.rest files refl in
      record {
        after = one.0;
        tells = one.1;
        kept = λ q out apart. one.2 q (not_among q out);
        last = λ path at. inl (target_kept target outside one.0 one.2 path at);
      }

-- .. so they are as they were where the next piece begins
pub records_same : (files here : Files) (holds : Option Files) (runs : List ToolUse)
    → Keeps (Some files) holds (record_paths runs) → holds ≡ Some here → (q : List ℕ) → is_stored q ≡ false
    → get here q ≡ get files q
records_same files here holds runs keeps is q out =
    let one = keeps.rest files refl in
    let same : one.0 ≡ here = cc (one.1, is) in
    ap (λ (f : Files). get f q) (sym same) ∙ one.2 q (not_among files holds runs keeps q out)

-- and what stays from there on stays
pub others_then : (Is : List ℕ → Type 0) (target : Option (List ℕ)) (files here : Files) (holds : Option Files)
    → IsOutside target → ((q : List ℕ) → is_stored q ≡ false → get here q ≡ get files q)
    → KeepsOthers Is target here holds → KeepsOthers Is target files holds
others_then Is target files here holds outside same two = record {
  after = two.after;
  tells = two.tells;
  kept = λ q out apart. two.kept q out apart ∙ same q out;
  last = λ path at. by_last path (subst IsOutside at outside) (two.last path at);
}
  where
    by_last : (path : List ℕ) → is_stored path ≡ false
        → (get two.after path ≡ get here path) ⊎ FollowsLinked Is path two.after
        → (get two.after path ≡ get files path) ⊎ FollowsLinked Is path two.after
    by_last path out (inl kept) = inl (kept ∙ same path out)
    by_last path out (inr follows) = inr follows

-- ---- the piece

module _ (by : Definitions) (works : Files → Work) (written : Option (List ℕ)) (asked skeletons : List (List ℕ))
    (old new : Option Files) (before after : List ToolState) where
  abbrev done : Files → Meaning
  done files = loading files (works files)

  abbrev s0 : State
  s0 = state_of written old asked skeletons

  abbrev s1 : State
  s1 = state_of written new asked skeletons

  -- what is left of it
  abbrev LeftOf : Files → Type 0
  LeftOf files = Leaves (origin_of files before) (runs_of files (works files).uses) (world_of new after)

  frame : (files : Files) → LeftOf files → Keeps (Some files) new (done files).effect.paths
  frame files left = left.keeps

  stays : (files : Files) → LeftOf files → Stays by files (done files).effect new
  stays files left = record {
    frame = λ known apart good. left.keeps;
    good = λ known apart good. store_more (λ t h. Contains-append_left known [] t h) (left.good by known good);
  }

  outside : (files : Files) → LeftOf files → KeepsOutside [] files new
  outside files left = records_outside files new (runs_of files (works files).uses) left.keeps

  -- it was answered, with a project or with a diagnostic
  module _ (step : Told old (λ files. InStep (origin_of files before) (works files) (world_of new after))) where
    left_of : (files : Files) → old ≡ Some files → LeftOf files
    left_of files is = whole_leaves (origin_of files before) (works files) (world_of new after) (step files is)

    meaning : (files : Files) → old ≡ Some files → (text : List ℕ) → written ≡ Some text
        → IsMeaning (done files).effect status.Ok (between text s0 s1)
    meaning files is text told = record {
      status = refl;
      output = told ∙ ap (λ (t : List ℕ). Some t) (sym (append-nil text));
      files = (step files is).holds;
      asks = sym (append-nil asked);
      asks_skeletons = sym (append-nil skeletons);
    }

    answered_plain : plain.Performs by (effects done) (effects done) status.Ok s0 s1
    answered_plain = record {
      does = meaning;
      promise = λ files is text told. record { ends = λ known apart good. meaning files is text told };
      frame = λ files is. frame files (left_of files is);
      outside = λ files is. outside files (left_of files is);
      stays = λ files is. stays files (left_of files is);
      leaves = λ files is well. record {
        ends = refl;
        does = (step files is).holds;
        promise_ends = λ known apart good. refl;
        promise = λ known apart good. (step files is).holds;
      };
    }

    pub answered : {F : Type 0} → Tends F before after → (status.Ok ≡ status.ToolFault → F)
        → Does by done done status.Ok (stage s0 before) (stage s1 after)
    answered tends never = record {
      effect = answered_plain;
      tools = tends_as before after tends never;
      runs = λ files is. (step files is).ran;
      promise = λ files is known apart good. (step files is).ran;
    }

    pub answered_same : (files : Files) → old ≡ Some files → (here : Files) → new ≡ Some here → (q : List ℕ)
        → is_stored q ≡ false → get here q ≡ get files q
    answered_same files is here now =
        records_same files here new (runs_of files (works files).uses) (left_of files is).keeps now

    pub answered_others : (Is : List ℕ → Type 0) (target : Option (List ℕ)) → IsOutside target → (files : Files)
        → old ≡ Some files → KeepsOthers Is target files new
    answered_others Is target outside files is =
        records_others files new (runs_of files (works files).uses) (left_of files is).keeps Is target outside

  -- it was cut off
  module _ (step : Told old (λ files. CutOff (origin_of files before) (works files).uses (world_of new after))) where
    cut_of : (files : Files) → old ≡ Some files → LeftOf files
    cut_of files is = cut_leaves (origin_of files before) (works files).uses (world_of new after) (step files is)

    short : (files : Files) (text : List ℕ) → written ≡ Some text → IsCutShort (done files).effect (between text s0 s1)
    short files text told =
        nothing_done (done files).effect (between text s0 s1) written refl told refl refl nothing_printed

    failed_plain : plain.Performs by (effects done) (effects done) status.FolderFault s0 s1
    failed_plain = record {
      does = λ files is text told. short files text told;
      promise = λ files is text told. record { ends = λ known apart good. short files text told };
      frame = λ files is. frame files (cut_of files is);
      outside = λ files is. outside files (cut_of files is);
      stays = λ files is. stays files (cut_of files is);
      leaves = λ files is well. absurd well;
    }

    blamed_plain : plain.Performs by (effects done) (effects done) status.ToolFault s0 s1
    blamed_plain = record {
      does = λ files is text told. short files text told;
      promise = λ files is text told. record { ends = λ known apart good. short files text told };
      frame = λ files is. frame files (cut_of files is);
      outside = λ files is. outside files (cut_of files is);
      stays = λ files is. stays files (cut_of files is);
      leaves = λ files is well. absurd well;
    }

    wanting_plain : plain.Performs by (effects done) (effects done) status.NoMemory s0 s1
    wanting_plain = record {
      does = λ files is text told. short files text told;
      promise = λ files is text told. record { ends = λ known apart good. short files text told };
      frame = λ files is. frame files (cut_of files is);
      outside = λ files is. outside files (cut_of files is);
      stays = λ files is. stays files (cut_of files is);
      leaves = λ files is well. absurd well;
    }

    cut_does : {F : Type 0} (end : Status) → (IsPlain end → ⊥) → Tends F before after → (end ≡ status.ToolFault → F)
        → plain.Performs by (effects done) (effects done) end s0 s1
        → Does by done done end (stage s0 before) (stage s1 after)
    cut_does end fault tends blamed one = record {
      effect = one;
      tools = tends_as before after tends blamed;
      runs = λ files is. ran_front end fault (done files).runs before after (cut_of files is).ran;
      promise = λ files is known apart good. ran_front end fault (done files).runs before after (cut_of files is).ran;
    }

    pub failed : {F : Type 0} → Tends F before after → (status.FolderFault ≡ status.ToolFault → F)
        → Does by done done status.FolderFault (stage s0 before) (stage s1 after)
    failed tends blamed = cut_does status.FolderFault (λ plain. plain) tends blamed failed_plain

    pub blamed : {F : Type 0} → Tends F before after → (status.ToolFault ≡ status.ToolFault → F)
        → Does by done done status.ToolFault (stage s0 before) (stage s1 after)
    blamed tends is = cut_does status.ToolFault (λ plain. plain) tends is blamed_plain

    pub wanting : {F : Type 0} → Tends F before after → (status.NoMemory ≡ status.ToolFault → F)
        → Does by done done status.NoMemory (stage s0 before) (stage s1 after)
    wanting tends blamed = cut_does status.NoMemory (λ plain. plain) tends blamed wanting_plain

    pub cut_others : (Is : List ℕ → Type 0) (target : Option (List ℕ)) → IsOutside target → (files : Files)
        → old ≡ Some files → KeepsOthers Is target files new
    cut_others Is target outside files is =
        records_others files new (runs_of files (works files).uses) (cut_of files is).keeps Is target outside
